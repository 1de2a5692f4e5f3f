use Rattle.std.specs.Prelude.{ℕ, ◌+◌, ◌-◌, ◌^◌, min}

-- how often each of five things happened in an association
pub record Counts : Type 0 where
  pub datas : ℕ
  pub sacks : ℕ
  pub t3timeouts : ℕ
  pub ack_timeouts : ℕ
  pub fast_retrans : ℕ

abbrev pub no_counts : Counts
no_counts = record { datas = 0; sacks = 0; t3timeouts = 0; ack_timeouts = 0; fast_retrans = 0 }

-- a count after so many more; the greatest number of 64 bits stays
abbrev pub more_by : ℕ → ℕ → ℕ
more_by count n = min (n + count) (2 ^ 64 - 1)

abbrev pub one_more : ℕ → ℕ
one_more n = more_by 1 n
