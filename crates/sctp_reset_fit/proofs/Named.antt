-- How often a request of the peer names a stream that is live.
use Rattle.std.proofs.Common.{◌≡◌, refl, sym, ap, ◌∙◌, ℕ, ◌≤◌, ◌<◌, Bool, true, false, ◌&&◌, List, [], ◌∷◌}
use Rattle.std.proofs.Common.{filter, Option, Some, None, is_some, arith, eqb, ⊎_elim, nat_cmp, is_eq, if◌then◌else◌}
use Rattle.std.specs.Prelude.{◌≢◌}
use Rattle.std.specs.Map.{keys_of}
use Rattle.std.proofs.lemmas.Bool.{cases_Bool, true≢false, false≢true, eq-eqb, eqb-false, eqb-true, or_cases, or_parts}
use Rattle.sctp_streams.specs.Stream.{StreamView}
use Rattle.sctp_streams.specs.Streams.{StreamMap, stream_at}
use Rattle.sctp_streams.proofs.LowMarks.{found_as}
use Rattle.sctp_reset_requests.specs.Ids.{has_id}
use Rattle.sctp_reset_requests.specs.Request.{PeerRequestView, names, names_all}
use Rattle.sctp_resets.specs.Performing.{named_live}
use Rattle.sctp_courses.specs.Course.{times}
use Rattle.sctp_courses.proofs.Times.{times_passed}
use Rattle.sctp_reset_fit.specs.Stands.{IsOnce}
use Rattle.sctp_reset_fit.proofs.Once.{apart_too, found_none, none_found}
use Rattle.sctp_reset_fit.proofs.Parted.{times_chosen}

times_filter_out : (id : ℕ) (test : ℕ → Bool) (xs : List ℕ) → test id ≡ false → times id (filter test xs) ≡ 0
times_filter_out id test xs e = times_passed test id xs e

times_filter_in : (id : ℕ) (test : ℕ → Bool) (xs : List ℕ) → test id ≡ true
    → times id (filter test xs) ≡ times id xs
times_filter_in id test xs e = times_chosen test id xs ∙ ap (λ b. if b then times id xs else 0) e

has_times : (id : ℕ) (xs : List ℕ) → has_id id xs ≡ true → 0 < times id xs
has_times id [] h = absurd (false≢true h)
has_times id (x ∷ xs) h =
    ⊎_elim
    (λ (e : is_eq (nat_cmp id x) ≡ true).
    let s : eqb x id ≡ true = eq-eqb x id (sym (eqb-true id x (sym (found_as id x) ∙ e))) in rw s (omega arith))
    (λ (r : has_id id xs ≡ true). let t = has_times id xs r in omega arith)
    (or_cases (is_eq (nat_cmp id x)) (has_id id xs) h)

none_times : (id : ℕ) (xs : List ℕ) → has_id id xs ≡ false → times id xs ≡ 0
none_times id [] h = refl
none_times id (x ∷ xs) h =
    let parts = or_parts (is_eq (nat_cmp id x)) (has_id id xs) h in
    let s : eqb x id ≡ false = apart_too id x (sym (found_as id x) ∙ parts.0) in
    let t = none_times id xs parts.1 in rw s (omega arith)

-- a stream that is live and named is among those, once; another one is not
pub named_times : (id : ℕ) (m : StreamMap) (q : PeerRequestView) → IsOnce id m.by_id → times id q.ids ≤ 1
    → times id (named_live m q) ≡ (if names q id && is_some (stream_at m id) then 1 else 0)
named_times id m q once few = by (names_all q) refl (is_some (stream_at m id)) refl
  where
    here : is_some (stream_at m id) ≡ true → times id (keys_of m.by_id) ≡ 1
    here e =
        ⊎_elim
        (λ (z : eqb (times id (keys_of m.by_id)) 0 ≡ true).
        absurd (true≢false (sym e ∙ ap is_some (none_found id m.by_id (eqb-true (times id (keys_of m.by_id)) 0 z)))))
        (λ (z : eqb (times id (keys_of m.by_id)) 0 ≡ false).
        let n : times id (keys_of m.by_id) ≢ 0 = eqb-false (times id (keys_of m.by_id)) 0 z in omega arith)
        (cases_Bool (eqb (times id (keys_of m.by_id)) 0))

    gone : (o : Option StreamView) → is_some o ≡ false → o ≡ None
    gone None e = refl
    gone (Some t) e = absurd (true≢false e)

    by : (all : Bool) → names_all q ≡ all → (live : Bool) → is_some (stream_at m id) ≡ live
        → times id (named_live m q) ≡ (if names q id && is_some (stream_at m id) then 1 else 0)
    by true a true l = rw (a, l) (here l)
    by true a false l = rw (a, l) (found_none id m.by_id (gone (stream_at m id) l))
    by false a true l =
        rw (a, l) (times_filter_in id (λ i. is_some (stream_at m i)) q.ids l ∙ named (has_id id q.ids) refl)
      where
        named : (h : Bool) → has_id id q.ids ≡ h → times id q.ids ≡ (if has_id id q.ids && true then 1 else 0)
        named true e = rw e (let t = has_times id q.ids e in omega arith)
        named false e = rw e (none_times id q.ids e)
    by false a false l =
        rw (a, l) (times_filter_out id (λ i. is_some (stream_at m i)) q.ids l ∙ zero_of (has_id id q.ids))
      where
        zero_of : (h : Bool) → times id [] ≡ (if h && false then 1 else 0)
        zero_of true = refl
        zero_of false = refl
