-- What a read answers across resets was not read before.
use Rattle.std.proofs.Common.{◌≡◌, refl, sym, subst, ℕ, ◌+◌, ◌≤◌, List, [], ◌∷◌, ◌++◌, Option, Some, None, arith}
use Rattle.std.specs.Prelude.{IfOk, Result, Ok, Err}
use Rattle.std.specs.List.{AllByRecursion}
use Rattle.std.proofs.lemmas.Bool.{eq-eqb}
use Rattle.sctp_wire_types.specs.declared.chunk.ChunkPayloadData.{ChunkPayloadData}
use Rattle.sctp_receive_queues.specs.Messages.{ReceivedMessage}
use Rattle.sctp_courses.specs.Course.{Told, offsets_told, times}
use Rattle.sctp_courses.proofs.Counts.{times_told}
use Rattle.sctp_course_sides.specs.Turns.{Grows}
use Rattle.sctp_assoc.specs.declared.call.Reply.{Reply}
use Rattle.sctp_assoc.specs.declared.call.Reply.TheVariants as replies
use Rattle.sctp_steps.specs.declared.step.Side2.TheVariants as sides
use Rattle.sctp_assoc.specs.Shown.{Shown}
use Rattle.sctp_steps.specs.declared.step.Step.{Step}
use Rattle.sctp_steps.specs.declared.step.Step.TheVariants as steps
use Rattle.sctp_steps.specs.Ends.{Ends}
use Rattle.sctp_steps.specs.Seen.{message_read}
use Rattle.sctp_boundaries.specs.Between.{Courses, IsGivenOut, StandBetween}
use Rattle.sctp_boundaries.specs.Laws.{NamesIdentifiers, RunKeepsBoundaries, StandsFresh, StepKeepsBoundaries}
use Rattle.sctp_boundaries.specs.Laws.{fresh_courses}
use Rattle.sctp_steps.specs.Steps.{Runs}
use Rattle.sctp_closed_between.specs.Between.{BeginsUnclosed}
use Rattle.sctp_pair.specs.Across.{AreReadAlong, CameFresh, EndsOn, ReadSinceNew, ReadsOn}
use Rattle.sctp_pair.specs.Callers.{AcceptFew}
use Rattle.sctp_pair.proofs.FewInAll.{few_stay_few}
use Rattle.pair_callers.specs.Resetting.{AcrossFromNew, EndedFromNew, IsAnew, PartsOnceMore, ReadsAnew, WrittenFromNew}
use Rattle.pair_callers.proofs.FewAccepted.{made_alike}

-- what was read last counts beside what was read before
last_told : (o : ℕ) (before : List Told) (t : Told) → times o (offsets_told (before ++ t ∷ [])) ≤ 1
    → times o (offsets_told before) + times o t.offsets ≤ 1
last_told o before t few = let e = times_told o before t in omega arith

pub reads_anew : (id : ℕ) (p q : Ends) (r : Reply) → StepKeepsBoundaries (steps.Read sides.B id) p r q
    → ReadsAnew id p r
reads_anew id p q (replies.Read (Some message)) keeps =
    λ (own_a own_b : ℕ) (w : Courses) (s : StandBetween own_a own_b id p w).
    (let l = keeps own_a own_b id w tt s in
    let same : message_read (steps.Read sides.B id) (replies.Read (Some message)) sides.B id ≡ Some message =
    rw (eq-eqb id id refl) refl in
    let grows : Grows (IsGivenOut p.packets_a) own_a id (Some message) p.b w.ab.told l.after.ab.told =
    subst (λ (m : Option ReceivedMessage). Grows (IsGivenOut p.packets_a) own_a id m p.b w.ab.told l.after.ab.told)
    same l.ab_read in
    record {
      offsets = grows.offsets;
      made = grows.made;
      anew = λ o.
          last_told o w.ab.told _
          (subst (λ (ts : List Told). times o (offsets_told ts) ≤ 1) grows.is (l.ab_keeps.once o));
    })
reads_anew id p q (replies.Read None) keeps = tt
reads_anew id p q r keeps = tt

-- where nothing is read what was read stays
nothing_grows : (P : ChunkPayloadData → Type 0) (initial id : ℕ) (m : Option ReceivedMessage) (a : Shown)
    (before after : List Told) → m ≡ None → Grows P initial id m a before after → after ≡ before
nothing_grows P initial id None a before after e grows = grows
nothing_grows P initial id (Some message) a before after e grows = absurd cc

pub parts_once_more : (step : Step) (p : Ends) (r : Reply) (q : Ends) → StepKeepsBoundaries step p r q
    → PartsOnceMore step p r q
parts_once_more step p r q keeps own_a own_b id w named s =
    let l = keeps own_a own_b id w named s in (
      l.after,
      record {
        ab_goes = l.ab_goes;
        ba_goes = l.ba_goes;
        ab_grows = l.ab_grows;
        ba_grows = l.ba_grows;
        ab_parted = l.ab_keeps.divides;
        ba_parted = l.ba_keeps.divides;
        ab_stays = λ none. nothing_grows (IsGivenOut p.packets_a) own_a id _ p.b w.ab.told l.after.ab.told none
            l.ab_read;
        ba_stays = λ none. nothing_grows (IsGivenOut p.packets_b) own_b id _ p.a w.ba.told l.after.ba.told none
            l.ba_read;
        ab_performed = l.ab_performed;
        ba_performed = l.ba_performed;
        ab_ended = l.ab_ended;
        ba_ended = l.ba_ended;
        ab_stays_divided = l.ab_stays_divided;
        ba_stays_divided = l.ba_stays_divided;
        stands = l.stand;
      },
    )

-- All steps of a new pair, both sides of which have the same payload size.
module _ {size own_a own_b : ℕ} {p : Ends} (fresh : CameFresh (made_alike size own_a own_b) [] [] p)
    (ss : List Step) (rs : List Reply) (q : Ends) (led : Runs ss rs p q) (across : ReadsOn ss rs p q)
  where
    begins : p ≡ fresh.came.begin
    begins = fresh.came.led

    read_since : AllByRecursion NamesIdentifiers ss → AcceptFew size size ss rs
        → ReadSinceNew (made_alike size own_a own_b) fresh.came.begin ss rs q
    read_since named few =
        across (made_alike size own_a own_b) [] [] fresh
        (few_stay_few ss rs p q led (made_alike size own_a own_b) [] [] fresh.came few) named

    pub written_from_new : WrittenFromNew size ss rs
    written_from_new named few polls = (read_since named few).written polls

    pub ended_from_new : BeginsUnclosed p → EndsOn ss rs p q → EndedFromNew size ss rs
    ended_from_new none ended named few polls =
        ended (made_alike size own_a own_b) [] [] fresh (subst (λ (z : Ends). BeginsUnclosed z) begins none)
        (few_stay_few ss rs p q led (made_alike size own_a own_b) [] [] fresh.came few) named polls

    pub across_from_new : (p.packets_a ≡ []) × (p.packets_b ≡ []) → RunKeepsBoundaries ss rs p q
        → AcrossFromNew size own_a own_b ss rs
    across_from_new silent keep =
        let stands : StandsFresh own_a own_b p = subst (StandsFresh own_a own_b) (sym begins) fresh.fresh in
        record {
          begin = p;
          fresh = stands;
          silent = silent;
          end = q;
          led = led;
          keep = λ id named. keep own_a own_b id fresh_courses named (stands id);
          read = λ id named few.
              subst (λ (z : Ends). AreReadAlong (made_alike size own_a own_b) id [] [] ss rs z fresh_courses q)
              (sym begins) ((read_since named few).along id);
        }

-- what holds of a value that was answered by two things that do, and by three
pub if_both_ok : {A E : Type 0} (r : Result A E) (P Q S : A → Type 0) → IfOk r P → IfOk r Q
    → ((a : A) → P a → Q a → S a) → IfOk r S
if_both_ok (Ok a) P Q S h k f = f a h k
if_both_ok (Err e) P Q S h k f = h

pub if_three_ok : {A E : Type 0} (r : Result A E) (P Q R S : A → Type 0) → IfOk r P → IfOk r Q → IfOk r R
    → ((a : A) → P a → Q a → R a → S a) → IfOk r S
if_three_ok (Ok a) P Q R S h k l f = f a h k l
if_three_ok (Err e) P Q R S h k l f = h
