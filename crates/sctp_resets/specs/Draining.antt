-- Generations that ended and were read whole (RFC 6525 section 5.2.2).
use Rattle.std.specs.Prelude.{ℕ, zero, suc, Bool, true, false, if◌then◌else◌, fold, Option}
use Rattle.sctp_streams.specs.Stream.{with_setting}
use Rattle.sctp_streams.specs.declared.setting.Setting.TheVariants as settings
use Rattle.sctp_streams.specs.Streams.{StreamMap, changed_stream, waiting_of, without_stream}
use Rattle.sctp_generations.specs.Generations.{GenerationsView, after_given_to, drained, given_to}
use Rattle.sctp_generations.specs.Retiring.{count_at}
use Rattle.sctp_resets.specs.Channels.{Channels, delivered, final_told, is_write_half_closed}
use Rattle.sctp_resets.specs.Skips.{Skipping, skips_applied_of}

-- what is kept of generations beside the live streams and what is told of them
abbrev pub Reading : Type 0
Reading = GenerationsView × Channels

-- the last counters of a stream are told, and it is live no more
abbrev pub ended : Channels → ℕ → Channels
ended c id = record c { streams = without_stream c.streams id; events = final_told c.streams id c.events }

-- a write half that was closed is closed in the next generation, too
abbrev pub with_write_half : Bool → StreamMap → ℕ → StreamMap
with_write_half true m id = changed_stream (λ s. with_setting s settings.WriteHalfClosed) m id
with_write_half false m id = m

abbrev pub write_half_kept : Bool → Channels → ℕ → Channels
write_half_kept closed c id = record c { streams = with_write_half closed c.streams id }

abbrev pub with_skips_applied : Channels → Skipping → Reading
with_skips_applied c (g, m, told) = (g, record c { streams = m; events = told })

-- the skips that were kept for the generation that is read now are applied
abbrev pub skipped_over : ℕ → Reading → Reading
skipped_over id (g, c) = with_skips_applied c (skips_applied_of (g, c.streams, c.events) id)

-- The stream ends, and what came for the generation behind goes to a new one, in the order of the TSNs; then the skips
-- for that one are applied.
unfoldable pub next_generation_read : ℕ → ℕ → ℕ → Option ℕ → Reading → Reading
next_generation_read first limit id in_progress (g, c) =
    skipped_over id (
      after_given_to g id in_progress,
      write_half_kept (is_write_half_closed c.streams id)
          (fold (delivered first limit) (ended c id) (given_to g id in_progress)) id,
    )

abbrev pub passed_where : ℕ → ℕ → ℕ → Option ℕ → Channels → GenerationsView × Bool → Reading × Bool
passed_where first limit id in_progress c (g, false) = ((g, c), false)
passed_where first limit id in_progress c (g, true) = (next_generation_read first limit id in_progress (g, c), true)

-- where the readable generation of a stream ended and no byte of it waits, it is over; whether it is
abbrev pub passed_once : ℕ → ℕ → ℕ → Option ℕ → Reading → Reading × Bool
passed_once first limit id in_progress (g, c) =
    passed_where first limit id in_progress c (drained g id (waiting_of c.streams id))

-- so do at most so many generations, one after the other
abbrev pub passed_times : ℕ → ℕ → ℕ → ℕ → Option ℕ → Reading → Reading
passed_times zero first limit id in_progress r = r
passed_times (suc n) first limit id in_progress r =
    if (passed_once first limit id in_progress r).1 then
    passed_times n first limit id in_progress (passed_once first limit id in_progress r).0
    else (passed_once first limit id in_progress r).0

-- the generations of a stream that ended and of which no byte waits are over
abbrev pub drained_out : ℕ → ℕ → ℕ → Option ℕ → Reading → Reading
drained_out first limit id in_progress (g, c) =
    passed_times (count_at g.retiring id) first limit id in_progress (g, c)
