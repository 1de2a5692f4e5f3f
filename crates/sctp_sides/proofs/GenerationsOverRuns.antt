-- Over every list of calls each generation that was given out is that of a live stream, or of one whose last counters
-- were told or wait to be told.
use Rattle.std.proofs.Common.{◌≡◌, refl, sym, ap, ◌∙◌, subst, ◌⊎◌, inl, inr, ℕ, zero, suc, ◌+◌, ◌<◌, ◌≤◌, arith, Bool}
use Rattle.std.proofs.Common.{true, false, if◌then◌else◌, List, [], ◌∷◌, ◌++◌, Some, None}
use Rattle.std.proofs.lemmas.Bool.{le-ltb, lt-ltb, true≢false}
use Rattle.sctp_streams.specs.declared.event.Event.{Event}
use Rattle.sctp_streams.specs.Streams.{StreamMap, no_stream}
use Rattle.sctp_assoc.specs.Handshake.{sends_init}
use Rattle.sctp_assoc.specs.Shown.{Shown}
use Rattle.sctp_sides.specs.Generations.{CreatedSidesHaveNoGeneration, FinalsAreToldOnce}
use Rattle.sctp_sides.specs.Generations.{GenerationsAreLiveOrFinal, HasNoGeneration, IsLiveOrFinal}
use Rattle.sctp_sides.specs.Generations.{JoinedSidesHaveNoGeneration, finals, live_generations, times}
use Rattle.sctp_sides.specs.OneSide.{Call, Calls, IsRun, IsUnchanged, carried_out}
use Rattle.sctp_sides.proofs.GenerationsInCalls.{carried_keeps}
use Rattle.sctp_sides.proofs.GenerationsInChunks.{tally_of}
use Rattle.sctp_sides.proofs.GenerationsKept.{finals_append, not_given, tally}
use Rattle.sctp_sides.proofs.TimersOverRuns.{Works, accepted_works}

module _ (g : ℕ) where
  -- A number is accounted for once: its last counters were told so often, and the association has it else, unless it
  -- failed.
  record IsCountedOnce (n : ℕ) (a : Shown) : Type 0 where
    at_most : n ≤ 1
    in_all : a.failed ≡ false → n + tally_of g a ≡ 1

  counted : (n : ℕ) (a : Shown) → n + tally_of g a ≡ 1 → IsCountedOnce n a
  counted n a e = record { at_most = omega (arith, e); in_all = λ _. e }

  counted_still : (n : ℕ) (a : Shown) → IsCountedOnce n a → IsCountedOnce (n + times g (finals [])) a
  counted_still n a h = record { at_most = omega (arith, h.at_most); in_all = λ e. omega (arith, h.in_all e) }

  counted_unchanged : (n : ℕ) (told : List Event) (a b : Shown) → IsCountedOnce n a → IsUnchanged told a b
      → IsCountedOnce (n + times g (finals told)) b
  counted_unchanged n told a b h r =
      subst (λ (z : List Event). IsCountedOnce (n + times g (finals z)) b) (sym r.silent)
      (counted_still n b (subst (λ (z : Shown). IsCountedOnce n z) (sym r.same) h))

  counted_failed : (n : ℕ) (a b : Shown) → IsCountedOnce n a → b.failed ≡ true
      → IsCountedOnce (n + times g (finals [])) b
  counted_failed n a b h failed = record {
    at_most = omega (arith, h.at_most);
    in_all = λ e. absurd (true≢false (sym failed ∙ e));
  }

  carried_counted : (call : Call) (n : ℕ) (a : Shown)
      → tally_of g (carried_out call a).0 + times g (finals (carried_out call a).1) ≡ tally_of g a
      → IsCountedOnce n a → Works call a
      → IsCountedOnce (n + times g (finals (carried_out call a).1)) (carried_out call a).0
  carried_counted call n a keeps h (inl works) =
      let before : n + tally_of g a ≡ 1 = h.in_all works in
      counted (n + times g (finals (carried_out call a).1)) (carried_out call a).0 (omega (arith, before, keeps))
  carried_counted call n a keeps h (inr (event, same)) =
      subst (λ (x : Shown × List Event). IsCountedOnce (n + times g (finals x.1)) x.0) (sym same)
      (counted_still n (record a { endpoint_event = event }) (record { at_most = h.at_most; in_all = h.in_all }))

  call_counted : (call : Call) (n : ℕ) (told : List Event) (a b : Shown) → IsCountedOnce n a → Calls call told a b
      → IsCountedOnce (n + times g (finals told)) b
  call_counted call n told a b h (inl c) =
      subst (λ (x : Shown × List Event). IsCountedOnce (n + times g (finals x.1)) x.0) c.there
      (carried_counted call n a (carried_keeps g call a c.accepted) h (accepted_works call a c.accepted))
  call_counted call n told a b h (inr (inl c)) = counted_unchanged n told a b h c
  call_counted call n told a b h (inr (inr c)) =
      subst (λ (z : List Event). IsCountedOnce (n + times g (finals z)) b) (sym c.silent)
      (counted_failed n a b h c.failed.marked)

  run_counted : (calls : List Call) (n : ℕ) (told : List Event) (a b : Shown) → IsCountedOnce n a
      → IsRun calls told a b → IsCountedOnce (n + times g (finals told)) b
  run_counted [] n told a b h r = counted_unchanged n told a b h r
  run_counted (c ∷ cs) n told a b h r =
      let all : times g (finals told) ≡ times g (finals r.first) + times g (finals r.later) =
      ap (λ (es : List Event). times g (finals es)) r.in_order ∙ finals_append g r.first r.later in
      let sums : n + times g (finals r.first) + times g (finals r.later) ≡ n + times g (finals told) =
      omega (arith, all) in
      subst (λ (z : ℕ). IsCountedOnce z b) sums
      (run_counted cs (n + times g (finals r.first)) r.later r.middle b
      (call_counted c n r.first a r.middle h r.called) r.others)

  -- where nothing was given out the number was not
  nothing_given : (m : StreamMap) (es : List Event) → m ≡ no_stream → finals es ≡ [] → tally g m es ≡ 1
  unfolding tally
  nothing_given m es none silent =
      let live : times g (live_generations m) ≡ 0 =
      ap (λ (z : StreamMap). times g (live_generations z)) none in
      let told : times g (finals es) ≡ 0 = ap (times g) silent in
      let given : not_given g m.next_generation ≡ 1 =
      ap (λ (z : StreamMap). not_given g z.next_generation) none
      ∙ ap (λ (c : Bool). if c then 0 else 1) (le-ltb g 0 (omega arith)) in
      omega (arith, live, told, given)

  begins_counted : (a : Shown) → HasNoGeneration a → IsCountedOnce 0 a
  begins_counted a (none, silent) =
      let one : tally_of g a ≡ 1 = nothing_given a.streams a.events none silent in
      counted 0 a (omega (arith, one))

  after_run : (calls : List Call) (told : List Event) (a b : Shown) → HasNoGeneration a → IsRun calls told a b
      → IsCountedOnce (times g (finals told)) b
  after_run calls told a b h r =
      let sum : 0 + times g (finals told) ≡ times g (finals told) = omega arith in
      subst (λ (z : ℕ). IsCountedOnce z b) sum (run_counted calls 0 told a b (begins_counted a h) r)

  one_of_two : (x y : ℕ) → x + y ≡ 1 → ((x ≡ 1) × (y ≡ 0)) ⊎ ((x ≡ 0) × (y ≡ 1))
  one_of_two zero y e = inr (refl, omega (arith, e))
  one_of_two (suc x) y e = inl (omega (arith, e), omega (arith, e))

  -- Each number is live or final if it was given out, else it is neither.
  module _ (told : List Event) (b : Shown) (all : times g (finals told) + tally_of g b ≡ 1) where
    parts : times g (live_generations b.streams) + times g (finals (told ++ b.events))
        + not_given g b.streams.next_generation ≡ 1
    unfolding tally
    parts =
        let told_all : times g (finals (told ++ b.events)) ≡ times g (finals told) + times g (finals b.events) =
        finals_append g told b.events in
        omega (arith, all, told_all)

    live_or_final : g < b.streams.next_generation
        → IsLiveOrFinal g (live_generations b.streams) (finals (told ++ b.events))
    live_or_final below =
        let given : not_given g b.streams.next_generation ≡ 0 =
        ap (λ (c : Bool). if c then 0 else 1) (lt-ltb g b.streams.next_generation below) in
        one_of_two (times g (live_generations b.streams)) (times g (finals (told ++ b.events)))
        (omega (arith, parts, given))

    neither : b.streams.next_generation ≤ g
        → (times g (live_generations b.streams) ≡ 0) × (times g (finals (told ++ b.events)) ≡ 0)
    neither above =
        let given : not_given g b.streams.next_generation ≡ 1 =
        ap (λ (c : Bool). if c then 0 else 1) (le-ltb g b.streams.next_generation above) in
        (omega (arith, parts, given), omega (arith, parts, given))

pub generations_are_live_or_final : GenerationsAreLiveOrFinal
generations_are_live_or_final calls told a b h r works =
    let all : (g : ℕ) → times g (finals told) + tally_of g b ≡ 1 =
    λ g. (after_run g calls told a b h r).in_all works in record {
      each = λ g below. live_or_final g told b (all g) below;
      no_other = λ g above. neither g told b (all g) above;
    }

pub finals_are_told_once : FinalsAreToldOnce
finals_are_told_once calls told a b h r g = (after_run g calls told a b h r).at_most

-- Beginning

pub created_sides_have_no_generation : CreatedSidesHaveNoGeneration
unfolding sends_init
created_sides_have_no_generation None config size tag initial_tsn cookie remote_addr local_ip now = (refl, refl)
created_sides_have_no_generation (Some of_server) config size tag initial_tsn cookie remote_addr local_ip now =
    (refl, refl)

pub joined_sides_have_no_generation : JoinedSidesHaveNoGeneration
joined_sides_have_no_generation config size remote_addr local_ip own peer = (refl, refl)
