-- Since a pair was new of which nothing was closed, no reply tells of an end but of a stream that was closed before,
-- where few of all steps ask for packets to send.
use Rattle.std.proofs.Common.{ℕ, ◌+◌, ◌<◌, ◌^◌, List, [], ◌∷◌, ◌++◌}
use Rattle.std.specs.List.{AllByRecursion}
use Rattle.sctp_model.proofs.Lists.{all_join}
use Rattle.sctp_assoc.specs.declared.call.Reply.{Reply}
use Rattle.sctp_steps.specs.declared.step.Side2.TheVariants as sides
use Rattle.sctp_steps.specs.declared.step.Step.{Step}
use Rattle.sctp_steps.specs.Ends.{Ends}
use Rattle.sctp_steps.specs.Steps.{Runs}
use Rattle.sctp_boundaries.specs.Between.{AreFew, Courses, StandBetween}
use Rattle.sctp_boundaries.specs.Laws.{NamesIdentifiers, StepsKeepBoundaries, fresh_courses}
use Rattle.sctp_closed_between.specs.Between.{AreOfClosed}
use Rattle.sctp_closed_between.proofs.RunsTell.{AreClosedIn, begins, closed_on, tells_closed}
use Rattle.sctp_pair.specs.Across.{EndsOn, polls_in}
use Rattle.sctp_pair.specs.Callers.{LedSafely, Made, tallied_by, world_of}
use Rattle.sctp_pair.specs.Counted.{FitsCounted, Tally, nothing_tallied}
use Rattle.sctp_pair.specs.World.{World}
use Rattle.sctp_pair.proofs.Callers.{comes_on}
use Rattle.sctp_pair.proofs.CountedRuns.{IsMade, begun_made, stays_made}
use Rattle.sctp_pair.proofs.FewSent.{AreCounted, counted_on, few_first, few_rest, few_sent, nothing_counted}
use Rattle.sctp_pair.proofs.FewSent.{polls_once}

-- What is promised of a stream's boundaries holds; of which stream, does not matter.
module _ (keeps : StepsKeepBoundaries) where
  ends_all : (m : Made) (done ss : List Step) (rs : List Reply) (w : World) (t : Tally) (c : Courses) (q : Ends)
      (polls_a polls_b : ℕ) → IsMade m w → FitsCounted t w.ends w → LedSafely m ss rs w t q
      → AllByRecursion NamesIdentifiers done → AllByRecursion NamesIdentifiers ss
      → StandBetween m.initial_a m.initial_b 0 w.ends c → AreClosedIn done w.ends → AreCounted polls_a polls_b w c
      → polls_a + polls_in sides.A ss < 2 ^ 31 → polls_b + polls_in sides.B ss < 2 ^ 31 → AreOfClosed done ss rs
  ends_all m done [] [] w t c q polls_a polls_b made fits led so_far named stand closed counted few_a few_b = tt
  ends_all m done (s ∷ ss) (r ∷ rs) w t c q polls_a polls_b made fits (v, step, safe, there, next) so_far
      (first, named) stand closed counted few_a few_b =
      let l = keeps s w.ends r v.ends step.ends_step m.initial_a m.initial_b 0 c first stand in
      let names : AllByRecursion NamesIdentifiers (done ++ s ∷ []) =
      all_join NamesIdentifiers done (s ∷ []) so_far (first, tt) in
      let sent : AreCounted (polls_a + polls_once sides.A s) (polls_b + polls_once sides.B s) v l.after =
      counted_on m.initial_a m.initial_b 0 s r w v c step fits.fits.stand there.fits.stand l polls_a polls_b counted in
      let few : AreFew l.after =
      few_sent polls_a (polls_once sides.A s) (polls_in sides.A ss) polls_b (polls_once sides.B s)
      (polls_in sides.B ss) v l.after sent few_a few_b there.fits.within in (
        tells_closed m.initial_a m.initial_b 0 done s r w.ends v.ends c stand step.ends_step closed names,
        ends_all m (done ++ s ∷ []) ss rs v (tallied_by m s r t) l.after q (polls_a + polls_once sides.A s)
            (polls_b + polls_once sides.B s) (stays_made step made) there next names named (l.stand few)
            (closed_on m.initial_a m.initial_b 0 done s r w.ends v.ends c stand step.ends_step closed) sent
            (few_rest polls_a (polls_once sides.A s) (polls_in sides.A ss) few_a)
            (few_rest polls_b (polls_once sides.B s) (polls_in sides.B ss) few_b),
      )
  ends_all m done [] (r ∷ rs) w t c q polls_a polls_b made fits led so_far named stand closed counted few_a few_b =
      absurd led
  ends_all m done (s ∷ ss) [] w t c q polls_a polls_b made fits led so_far named stand closed counted few_a few_b =
      absurd led

  -- steps behind others, since the pair was new
  pub ends_on : (more : List Step) (answers : List Reply) (p q : Ends) → Runs more answers p q
      → EndsOn more answers p q
  unfolding comes_on
  ends_on more answers p q led m ss rs f none few named polls =
      let came = comes_on more answers p q led m ss rs f.came few in
      ends_all m [] (ss ++ more) (rs ++ answers) (world_of m came.begin) nothing_tallied fresh_courses q 0 0
      (begun_made m came.begin) came.new came.safely tt (all_join NamesIdentifiers ss more f.named named) (f.fresh 0)
      (λ over small within. begins over came.begin none) (nothing_counted (world_of m came.begin))
      (few_first (polls_in sides.A (ss ++ more)) polls.of_a) (few_first (polls_in sides.B (ss ++ more)) polls.of_b)
