-- A run of the contract of one association does the acts of its calls, in order: so it keeps retries and deadlines.
use Rattle.std.proofs.Common.{◌≡◌, refl, sym, ap, ◌∙◌, subst, ⊎_elim, ℕ, true, false, List, [], ◌∷◌, ◌++◌}
use Rattle.std.specs.List.{flat_map}
use Rattle.std.proofs.lemmas.Bool.{cases_Bool, false≢true}
use Rattle.std.proofs.lemmas.List.{append_assoc}
use Rattle.sctp_directions.specs.Acts.{Act, History}
use Rattle.sctp_assoc.specs.declared.call.Call.{Call}
use Rattle.sctp_assoc.specs.declared.call.Call.TheVariants as calls
use Rattle.sctp_assoc.specs.declared.call.Reply.{Reply}
use Rattle.sctp_assoc.specs.Abstract.{AbstractAssociation, IsRun, IsStep, StandsOn, abstract, acts_done}
use Rattle.sctp_assoc.specs.Leads.{Binds}
use Rattle.sctp_assoc.specs.Shown.{Shown}
use Rattle.sctp_sides.specs.Lifetimes.{DoInOrder}
use Rattle.sctp_sides.specs.OneSide as side
use Rattle.sctp_sides.specs.Runs.{ComesToAPoll, DoneByActs, RunsDoTheirActs, RunsKeepRetries}
use Rattle.sctp_sides.specs.Runs.{RunsSendNothingLate, side_calls_of}
use Rattle.sctp_sides.proofs.CallsByActs.{call_did}
use Rattle.sctp_sides.proofs.FirstBegunRuns.{calls_keep_the_order}
use Rattle.sctp_sides.proofs.PollsInTime.{polls_are_in_time}
use Rattle.sctp_sides.proofs.Retries.{retries_are_kept}

-- lists of calls one after the other
did_joined : (cs ds : List side.Call) (a m b : Shown) (h l k : History) (first later : List Act)
    → DoInOrder cs a h first m l → DoInOrder ds m l later b k → DoInOrder (cs ++ ds) a h (first ++ later) b k
did_joined [] ds a m b h l k first later (none, same, past) second =
    subst (λ (xs : List Act). DoInOrder ds a h (xs ++ later) b k) (sym none)
    (subst (λ (c : Shown). DoInOrder ds c h later b k) same
    (subst (λ (z : History). DoInOrder ds m z later b k) past second))
did_joined (c ∷ cs) ds a m b h l k first later (x, y, one, others, in_order, does, more) second = (
  x,
  y,
  one,
  others ++ later,
  ap (λ (xs : List Act). xs ++ later) in_order ∙ append_assoc one others later,
  does,
  did_joined cs ds x m b y l k others later more second,
)

-- where it works at the end it did all along
worked_before : (c : Call) (s t : AbstractAssociation) (packets more : List (List ℕ)) (r : Reply)
    → IsStep c s packets r t more → t.shown.failed ≡ false → s.shown.failed ≡ false
worked_before c s t packets more r step works =
    ⊎_elim (λ (failed : s.shown.failed ≡ true). absurd (false≢true (sym works ∙ step.stays_failed failed)))
    (λ (before : s.shown.failed ≡ false). before) (cases_Bool s.shown.failed)

run_worked : (cs : List Call) (rs : List Reply) (s t : AbstractAssociation) (packets more : List (List ℕ))
    → IsRun cs s packets rs t more → t.shown.failed ≡ false → s.shown.failed ≡ false
run_worked [] [] s t packets more run works = ap (λ (z : AbstractAssociation). z.shown.failed) (sym run.0) ∙ works
run_worked [] (r ∷ rs) s t packets more run works = absurd run
run_worked (c ∷ cs) [] s t packets more run works = absurd run
run_worked (c ∷ cs) (r ∷ rs) s t packets more (u, given, step, others) works =
    worked_before c s u packets given r step (run_worked cs rs u t given more others works)

run_did : (cs : List Call) (rs : List Reply) (s t : AbstractAssociation) (packets more : List (List ℕ))
    → IsRun cs s packets rs t more → t.shown.failed ≡ false → StandsOn s.shown s.past
    → DoneByActs (flat_map side_calls_of cs) s t
run_did [] [] s t packets more run works stands = record {
  acts = [];
  in_order = (
    refl,
    ap (λ (z : AbstractAssociation). z.shown) run.0,
    ap (λ (z : AbstractAssociation). z.past) run.0,
  );
  stands =
      subst (λ (z : AbstractAssociation). Binds z.shown z.past) (sym run.0)
      (stands (ap (λ (z : AbstractAssociation). z.shown.failed) (sym run.0) ∙ works));
}
run_did [] (r ∷ rs) s t packets more run works stands = absurd run
run_did (c ∷ cs) [] s t packets more run works stands = absurd run
run_did (c ∷ cs) (r ∷ rs) s t packets more (u, given, step, others) works stands =
    let worked = run_worked cs rs u t given more others works in
    let led = step.led worked in
    let rest = run_did cs rs u t given more others works (λ _. led.binds) in
    record {
      acts = acts_done c r s.shown ++ rest.acts;
      in_order =
          did_joined (side_calls_of c) (flat_map side_calls_of cs) s.shown u.shown t.shown s.past u.past t.past
          (acts_done c r s.shown) rest.acts
          (call_did s.shown u.shown s.past u.past worked c packets given r step.replied led) rest.in_order;
      stands = rest.stands;
    }

pub runs_do_their_acts : RunsDoTheirActs
runs_do_their_acts made answers a b packets more h run stands works =
    let led = run.from h stands in
    record {
      past = led.0;
      run = led.1;
      done = run_did made answers (abstract a h) (abstract b led.0) packets more led.1 works stands;
    }

pub runs_keep_retries : RunsKeepRetries
runs_keep_retries made answers a b packets more h run stands works fresh uses =
    let ran = runs_do_their_acts made answers a b packets more h run stands works in (
      ran,
      λ before after act o n small e under.
          retries_are_kept (flat_map side_calls_of made) a b h ran.past ran.done.acts before after act o n fresh
          (stands fresh.working) ran.done.in_order works uses small e under,
    )

-- A run comes to each of its polls.
module _ (now : ℕ) (after : List Call) where
  comes_to : (before : List Call) (rs : List Reply) (s t : AbstractAssociation) (packets more : List (List ℕ))
      → IsRun (before ++ calls.PollTransmit now ∷ after) s packets rs t more
      → ComesToAPoll before now after s packets rs t more
  comes_to [] rs s t packets more run = record {
    at = s;
    given = packets;
    first = [];
    later = rs;
    in_order = refl;
    front = (refl, refl);
    rest = run;
  }
  comes_to (c ∷ cs) [] s t packets more run = absurd run
  comes_to (c ∷ cs) (r ∷ rs) s t packets more (u, given, step, others) =
      let on = comes_to cs rs u t given more others in
      record {
        at = on.at;
        given = on.given;
        first = r ∷ on.first;
        later = on.later;
        in_order = ap (λ (z : List Reply). r ∷ z) on.in_order;
        front = (u, given, step, on.front);
        rest = on.rest;
      }

pub runs_send_nothing_late : RunsSendNothingLate
runs_send_nothing_late before after now answers a b packets more h run stands nothing =
    let led = run.from h stands in
    let comes =
    comes_to now after before answers (abstract a h) (abstract b led.0) packets more led.1 in (
      led.0,
      comes,
      λ works uses.
          let worked =
          run_worked before comes.first (abstract a h) comes.at packets comes.given comes.front works in
          let did =
          run_did before comes.first (abstract a h) comes.at packets comes.given comes.front works stands in
          polls_are_in_time comes.at.shown comes.at.past now did.stands uses
          (calls_keep_the_order (flat_map side_calls_of before) a comes.at.shown h comes.at.past did.acts nothing
          (stands worked) did.in_order works).orderly,
    )
