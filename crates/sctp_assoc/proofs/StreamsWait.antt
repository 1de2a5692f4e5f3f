-- What is given up leaves what came and waits to be read.
use Rattle.std.proofs.Common.{◌≡◌, refl, sym, ap, ◌∙◌, ℕ, zero, suc, ◌+◌, ◌-◌, ◌^◌, Bool, true, false, if◌then◌else◌}
use Rattle.std.proofs.Common.{List, [], ◌∷◌, map, min, Option, Some, None}
use Rattle.std.specs.BTreeMap.{is_at}
use Rattle.std.specs.List.{fold}
use Rattle.std.specs.Map.{lookup, set_value}
use Rattle.std.specs.Ordering.{nat_cmp}
use Rattle.sctp_outbound_queue.specs.declared.queue.Released.{Released}
use Rattle.sctp_outbound_queue.specs.Expiry.{after_expiry, after_tail_expiry}
use Rattle.sctp_outbound_queue.specs.Outbound.{abandoned_at}
use Rattle.sctp_receive_queues.specs.Reassembly as reassembly
use Rattle.sctp_streams.specs.Stream.{StreamView, released_from, with_ssn_given_back}
use Rattle.sctp_streams.specs.Streams.{StreamMap, bytes_waiting, change_at, changed_stream}
use Rattle.sctp_streams.specs.Streams.{is_generation}
use Rattle.sctp_streams.specs.Streams.{stream_at}
use Rattle.sctp_outbound.specs.declared.abandonment.Reason.{Reason}
use Rattle.sctp_outbound.specs.declared.sender.Sender.{Sender}
use Rattle.sctp_outbound.specs.Abandonment.{abandoned_if, abandoned_of, dropped_first, first_dropped, given_back_of}
use Rattle.sctp_outbound.specs.Abandonment.{given_up_first, next_given_up, released_at, tail_given_up}

abbrev with_bytes : ℕ → StreamView → ℕ
with_bytes sum s = min (sum + reassembly.bytes_waiting s.reassembly) (2 ^ 64 - 1)

abbrev all_bytes : ℕ → List (ℕ × StreamView) → ℕ
all_bytes sum es = fold with_bytes sum (map (λ e. e.1) es)

-- another view of a stream, with the same pieces
module _ (test : ℕ → Bool) (s t : StreamView) (same : t.reassembly ≡ s.reassembly) where
  set_if : (c : Bool) (e : ℕ × StreamView) (es : List (ℕ × StreamView)) (sum : ℕ)
      → (if c then Some e.1 else lookup test es) ≡ Some s
      → ((more : ℕ) → lookup test es ≡ Some s → all_bytes more (set_value test es t) ≡ all_bytes more es)
      → all_bytes sum (if c then (e.0, t) ∷ es else e ∷ set_value test es t) ≡ all_bytes sum (e ∷ es)
  set_if true e es sum there rest =
      let is : e.1 ≡ s = cc in
      ap (λ (r : reassembly.Reassembly). all_bytes (min (sum + reassembly.bytes_waiting r) (2 ^ 64 - 1)) es)
      (same ∙ ap (λ (z : StreamView). z.reassembly) (sym is))
  set_if false e es sum there rest = rest (with_bytes sum e.1) there

  set_same : (es : List (ℕ × StreamView)) (sum : ℕ) → lookup test es ≡ Some s
      → all_bytes sum (set_value test es t) ≡ all_bytes sum es
  set_same [] sum there = refl
  set_same (e ∷ es) sum there = set_if (test e.0) e es sum there (λ more found. set_same es more found)

changed_same : (f : StreamView → StreamView) (o : Option StreamView) (m : StreamMap) (id : ℕ) → stream_at m id ≡ o
    → ((s : StreamView) → (f s).reassembly ≡ s.reassembly) → bytes_waiting (change_at f o m id) ≡ bytes_waiting m
changed_same f None m id e same = refl
changed_same f (Some s) m id e same = set_same (is_at (nat_cmp id)) s (f s) (same s) m.by_id 0 e

-- where the generation is live
live_if : (c : Bool) (f : StreamView → StreamView) (m : StreamMap) (id : ℕ)
    → ((s : StreamView) → (f s).reassembly ≡ s.reassembly)
    → bytes_waiting (if c then changed_stream f m id else m) ≡ bytes_waiting m
live_if true f m id same = changed_same f (stream_at m id) m id refl same
live_if false f m id same = refl

released_waits : (o : Option Released) (m : StreamMap) → bytes_waiting (released_at o m) ≡ bytes_waiting m
released_waits None m = refl
released_waits (Some r) m =
    live_if (is_generation (stream_at m r.message.stream_identifier) r.message.generation)
    (λ s. released_from s r.bytes) m r.message.stream_identifier (λ s. refl)

given_same : (unordered : Bool) (s : StreamView) (n : ℕ)
    → (released_from (if unordered then s else with_ssn_given_back s) n).reassembly ≡ s.reassembly
given_same true s n = refl
given_same false s n = refl

given_back_waits : (o : Option Released) (m : StreamMap) → bytes_waiting (given_back_of o m) ≡ bytes_waiting m
given_back_waits None m = refl
given_back_waits (Some r) m =
    live_if (is_generation (stream_at m r.message.stream_identifier) r.message.generation)
    (λ s. released_from (if r.message.unordered then s else with_ssn_given_back s) r.bytes) m
    r.message.stream_identifier (λ s. given_same r.message.unordered s r.bytes)

abandoned_waits : (o : Option ℕ) (all : Sender × StreamMap)
    → bytes_waiting (abandoned_if o all).1 ≡ bytes_waiting all.1
unfolding abandoned_of
abandoned_waits None all = refl
abandoned_waits (Some t) (s, m) = released_waits (abandoned_at s.queue t).1 m

pub given_up_waits : (n : ℕ) (why : Reason) (all : Sender × StreamMap)
    → bytes_waiting (given_up_first n why all).1 ≡ bytes_waiting all.1
given_up_waits zero why all = refl
given_up_waits (suc n) why all =
    given_up_waits n why (abandoned_if (next_given_up why all.0) all)
    ∙ abandoned_waits (next_given_up why all.0) all

pub tail_waits : (now : ℕ) (all : Sender × StreamMap) → bytes_waiting (tail_given_up now all).1 ≡ bytes_waiting all.1
unfolding tail_given_up
tail_waits now (s, m) = released_waits (after_tail_expiry now s.queue).1 m

one_drop_waits : (now : ℕ) (all : Sender × StreamMap) → bytes_waiting (first_dropped now all).1 ≡ bytes_waiting all.1
unfolding first_dropped
one_drop_waits now (s, m) = given_back_waits (after_expiry now s.queue).1 m

pub drops_wait : (n now : ℕ) (all : Sender × StreamMap)
    → bytes_waiting (dropped_first n now all).1 ≡ bytes_waiting all.1
drops_wait zero now all = refl
drops_wait (suc n) now all = drops_wait n now (first_dropped now all) ∙ one_drop_waits now all
