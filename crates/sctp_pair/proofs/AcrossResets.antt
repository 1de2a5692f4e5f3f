-- Since a pair was new that stood between fresh courses of a stream, what was read on the stream was written, whether
-- it was reset in between or not.
use Rattle.std.proofs.Common.{◌≡◌, refl, sym, ap, ◌∙◌, subst, ℕ, suc, ◌+◌, ◌<◌, ◌^◌, List, [], ◌∷◌, ◌++◌, length}
use Rattle.std.specs.List.{AllByRecursion}
use Rattle.std.proofs.lemmas.List.{append-nil, append_assoc}
use Rattle.sctp_receive_queues.specs.Messages.{ReceivedMessage}
use Rattle.sctp_model.proofs.Lists.{all_join}
use Rattle.sctp_assoc.specs.declared.call.Reply.{Reply}
use Rattle.sctp_steps.specs.declared.step.Side2.{Side2}
use Rattle.sctp_steps.specs.declared.step.Side2.TheVariants as sides
use Rattle.sctp_steps.specs.declared.step.Step.{Step}
use Rattle.sctp_steps.specs.Ends.{Ends}
use Rattle.sctp_steps.specs.Seen.{message_read}
use Rattle.sctp_steps.specs.Steps.{Runs, writing_of}
use Rattle.sctp_boundaries.specs.Between.{AreFew, Courses, StandBetween}
use Rattle.sctp_boundaries.specs.Laws.{LeadsBoth, NamesIdentifiers, StepsKeepBoundaries, fresh_courses}
use Rattle.sctp_pair.specs.Across.{AreReadAlong, CameFresh, ReadsOn, WasAccepted, WereWritten, polls_in}
use Rattle.sctp_pair.specs.Callers.{LedSafely, Made, WrittenMessage, message_accepted, messages_of, messages_read}
use Rattle.sctp_pair.specs.Callers.{messages_written, tallied_by, world_of}
use Rattle.sctp_pair.specs.Counted.{FitsCounted, Tally, nothing_tallied}
use Rattle.sctp_pair.specs.World.{IsWorldStep, World, accepted_at}
use Rattle.sctp_pair.proofs.Callers.{comes_on}
use Rattle.sctp_pair.proofs.CountedRuns.{IsMade, begun_made, stays_made}
use Rattle.sctp_pair.proofs.FewSent.{AreCounted, counted_on, few_first, few_rest, few_sent, nothing_counted}
use Rattle.sctp_pair.proofs.FewSent.{polls_once}
use Rattle.sctp_pair.proofs.GivenAndAccepted.{what_was_given_out_was_accepted}
use Rattle.sctp_pair.proofs.GrowingPlans.{plan_grew}
use Rattle.sctp_pair.proofs.ReadAcross.{ReadNow, read_nothing, read_on, written_at_indexes}
use Rattle.sctp_pair.proofs.WrittenIndexes.{told_accepted}

-- Rows of steps, and one more

module _ (s : Step) (r : Reply) (x : Side2) (id : ℕ) where
  read_more : (ss : List Step) (rs : List Reply) → length ss ≡ length rs
      → messages_read (ss ++ s ∷ []) (rs ++ r ∷ []) x id
      ≡ messages_read ss rs x id ++ messages_of (message_read s r x id)
  read_more [] [] alike = append-nil (messages_of (message_read s r x id))
  read_more (t ∷ ss) (q ∷ rs) alike =
      ap (λ (ms : List ReceivedMessage). messages_of (message_read t q x id) ++ ms) (read_more ss rs (cc))
      ∙ sym (append_assoc (messages_of (message_read t q x id)) (messages_read ss rs x id)
      (messages_of (message_read s r x id)))
  read_more [] (q ∷ rs) alike = absurd (cc)
  read_more (t ∷ ss) [] alike = absurd (cc)

  written_more : (ss : List Step) (rs : List Reply) → length ss ≡ length rs
      → messages_written (ss ++ s ∷ []) (rs ++ r ∷ []) x id
      ≡ messages_written ss rs x id ++ message_accepted (writing_of s) r x id
  written_more [] [] alike = append-nil (message_accepted (writing_of s) r x id)
  written_more (t ∷ ss) (q ∷ rs) alike =
      ap (λ (ms : List WrittenMessage). message_accepted (writing_of t) q x id ++ ms) (written_more ss rs (cc))
      ∙ sym (append_assoc (message_accepted (writing_of t) q x id) (messages_written ss rs x id)
      (message_accepted (writing_of s) r x id))
  written_more [] (q ∷ rs) alike = absurd (cc)
  written_more (t ∷ ss) [] alike = absurd (cc)

as_long : (s : Step) (r : Reply) (ss : List Step) (rs : List Reply) → length ss ≡ length rs
    → length (ss ++ s ∷ []) ≡ length (rs ++ r ∷ [])
as_long s r [] [] alike = refl
as_long s r (t ∷ ss) (q ∷ rs) alike = ap suc (as_long s r ss rs (cc))
as_long s r [] (q ∷ rs) alike = absurd (cc)
as_long s r (t ∷ ss) [] alike = absurd (cc)

-- In both directions all that was read by these steps was written.
record Now (m : Made) (id : ℕ) (done : List Step) (answers : List Reply) (w : World) (c : Courses) : Type 0 where
  alike : length done ≡ length answers
  ab : ReadNow m.initial_a id w.ab.sender.plan c.ab.told (messages_read done answers sides.B id)
      (messages_written done answers sides.A id)
  ba : ReadNow m.initial_b id w.ba.sender.plan c.ba.told (messages_read done answers sides.A id)
      (messages_written done answers sides.B id)

-- nothing was read and nothing written of a new pair
now_new : (m : Made) (id : ℕ) (p : Ends) → Now m id [] [] (world_of m p) fresh_courses
now_new m id p = record {
  alike = refl;
  ab = read_nothing m.initial_a id (world_of m p).ab.sender.plan [] refl refl;
  ba = read_nothing m.initial_b id (world_of m p).ba.sender.plan [] refl refl;
}

module _ (m : Made) (id : ℕ) (done : List Step) (answers : List Reply) where
  were_written : (w : World) (c : Courses) → Now m id done answers w c → WereWritten id done answers
  were_written w c now sides.A =
      written_at_indexes m.initial_a id w.ab.sender.plan c.ab.told (messages_read done answers sides.B id)
      (messages_written done answers sides.A id) now.ab
  were_written w c now sides.B =
      written_at_indexes m.initial_b id w.ba.sender.plan c.ba.told (messages_read done answers sides.A id)
      (messages_written done answers sides.B id) now.ba

  -- one step
  now_on : (s : Step) (r : Reply) (w v : World) (c : Courses) (t : Tally) → IsMade m w → FitsCounted t w.ends w
      → IsWorldStep s w r v → (l : LeadsBoth m.initial_a m.initial_b id s w.ends r v.ends c)
      → Now m id done answers w c → Now m id (done ++ s ∷ []) (answers ++ r ∷ []) v l.after
  now_on s r w v c t made fits h l now =
      let given = what_was_given_out_was_accepted w.ends w fits.fits in
      let of_a : WasAccepted w.ends.packets_a m.initial_a w.ab.sender.plan =
      subst (λ (o : ℕ). WasAccepted w.ends.packets_a o w.ab.sender.plan) made.initial_a given.0 in
      let of_b : WasAccepted w.ends.packets_b m.initial_b w.ba.sender.plan =
      subst (λ (o : ℕ). WasAccepted w.ends.packets_b o w.ba.sender.plan) made.initial_b given.1 in
      let ab =
      read_on m.initial_a id w.ab.sender.plan v.ab.sender.plan
      (plan_grew h.ab_step.events w.ab v.ab h.ab_step.happened) (accepted_at s r sides.A id w)
      (message_accepted (writing_of s) r sides.A id) (h.ab_step.accepted id)
      (told_accepted id w v.ends s r sides.A h.ends_step) w.ends.packets_a of_a (message_read s r sides.B id) w.ends.b
      c.ab.told l.after.ab.told (messages_read done answers sides.B id) (messages_written done answers sides.A id)
      l.ab_read l.ab_keeps.once now.ab in
      let ba =
      read_on m.initial_b id w.ba.sender.plan v.ba.sender.plan
      (plan_grew h.ba_step.events w.ba v.ba h.ba_step.happened) (accepted_at s r sides.B id w)
      (message_accepted (writing_of s) r sides.B id) (h.ba_step.accepted id)
      (told_accepted id w v.ends s r sides.B h.ends_step) w.ends.packets_b of_b (message_read s r sides.A id) w.ends.a
      c.ba.told l.after.ba.told (messages_read done answers sides.A id) (messages_written done answers sides.B id)
      l.ba_read l.ba_keeps.once now.ba in
      record {
        alike = as_long s r done answers now.alike;
        ab =
            subst (λ (ms : List ReceivedMessage).
            ReadNow m.initial_a id v.ab.sender.plan l.after.ab.told ms
            (messages_written (done ++ s ∷ []) (answers ++ r ∷ []) sides.A id))
            (sym (read_more s r sides.B id done answers now.alike))
            (subst (λ (ws : List WrittenMessage).
            ReadNow m.initial_a id v.ab.sender.plan l.after.ab.told
            (messages_read done answers sides.B id ++ messages_of (message_read s r sides.B id)) ws)
            (sym (written_more s r sides.A id done answers now.alike)) ab);
        ba =
            subst (λ (ms : List ReceivedMessage).
            ReadNow m.initial_b id v.ba.sender.plan l.after.ba.told ms
            (messages_written (done ++ s ∷ []) (answers ++ r ∷ []) sides.B id))
            (sym (read_more s r sides.A id done answers now.alike))
            (subst (λ (ws : List WrittenMessage).
            ReadNow m.initial_b id v.ba.sender.plan l.after.ba.told
            (messages_read done answers sides.A id ++ messages_of (message_read s r sides.A id)) ws)
            (sym (written_more s r sides.B id done answers now.alike)) ba);
      }

-- What is promised of a stream's boundaries holds.
module _ (keeps : StepsKeepBoundaries) where
  along : (m : Made) (id : ℕ) (done : List Step) (answers : List Reply) (ss : List Step) (rs : List Reply) (w : World)
      (t : Tally) (c : Courses) (q : Ends) → IsMade m w → FitsCounted t w.ends w → LedSafely m ss rs w t q
      → AllByRecursion NamesIdentifiers ss → StandBetween m.initial_a m.initial_b id w.ends c
      → Now m id done answers w c → AreReadAlong m id done answers ss rs w.ends c q
  along m id done answers [] [] w t c q made fits led named stand now = led.fits.stand.is
  along m id done answers (s ∷ ss) (r ∷ rs) w t c q made fits (v, step, safe, there, next) (first, named) stand now =
      let l = keeps s w.ends r v.ends step.ends_step m.initial_a m.initial_b id c first stand in
      let on : Now m id (done ++ s ∷ []) (answers ++ r ∷ []) v l.after =
      now_on m id done answers s r w v c t made fits step l now in (
        v.ends,
        step.ends_step,
        l,
        λ few. (
          were_written m id (done ++ s ∷ []) (answers ++ r ∷ []) v l.after on,
          along m id (done ++ s ∷ []) (answers ++ r ∷ []) ss rs v (tallied_by m s r t) l.after q
              (stays_made step made) there next named (l.stand few) on,
        ),
      )
  along m id done answers [] (r ∷ rs) w t c q made fits led named stand now = absurd led
  along m id done answers (s ∷ ss) [] w t c q made fits led named stand now = absurd led

  -- Where few of all steps ask for packets to send, so many of those that are done, what all of them read was written.
  all_along : (m : Made) (id : ℕ) (done : List Step) (answers : List Reply) (ss : List Step) (rs : List Reply)
      (w : World) (t : Tally) (c : Courses) (q : Ends) (polls_a polls_b : ℕ) → IsMade m w → FitsCounted t w.ends w
      → LedSafely m ss rs w t q → AllByRecursion NamesIdentifiers ss
      → StandBetween m.initial_a m.initial_b id w.ends c → Now m id done answers w c
      → AreCounted polls_a polls_b w c → polls_a + polls_in sides.A ss < 2 ^ 31
      → polls_b + polls_in sides.B ss < 2 ^ 31 → WereWritten id (done ++ ss) (answers ++ rs)
  all_along m id done answers [] [] w t c q polls_a polls_b made fits led named stand now counted few_a few_b =
      subst (λ (ks : List Step). WereWritten id ks (answers ++ [])) (sym (append-nil done))
      (subst (λ (ns : List Reply). WereWritten id done ns) (sym (append-nil answers))
      (were_written m id done answers w c now))
  all_along m id done answers (s ∷ ss) (r ∷ rs) w t c q polls_a polls_b made fits (v, step, safe, there, next)
      (first, named) stand now counted few_a few_b =
      let l = keeps s w.ends r v.ends step.ends_step m.initial_a m.initial_b id c first stand in
      let on : Now m id (done ++ s ∷ []) (answers ++ r ∷ []) v l.after =
      now_on m id done answers s r w v c t made fits step l now in
      let so_far : AreCounted (polls_a + polls_once sides.A s) (polls_b + polls_once sides.B s) v l.after =
      counted_on m.initial_a m.initial_b id s r w v c step fits.fits.stand there.fits.stand l polls_a polls_b counted in
      let few : AreFew l.after =
      few_sent polls_a (polls_once sides.A s) (polls_in sides.A ss) polls_b (polls_once sides.B s)
      (polls_in sides.B ss) v l.after so_far few_a few_b there.fits.within in
      let rest : WereWritten id ((done ++ s ∷ []) ++ ss) ((answers ++ r ∷ []) ++ rs) =
      all_along m id (done ++ s ∷ []) (answers ++ r ∷ []) ss rs v (tallied_by m s r t) l.after q
      (polls_a + polls_once sides.A s) (polls_b + polls_once sides.B s) (stays_made step made) there next named
      (l.stand few) on so_far (few_rest polls_a (polls_once sides.A s) (polls_in sides.A ss) few_a)
      (few_rest polls_b (polls_once sides.B s) (polls_in sides.B ss) few_b) in
      subst (λ (ks : List Step). WereWritten id ks (answers ++ r ∷ rs)) (append_assoc done (s ∷ []) ss)
      (subst (λ (ns : List Reply). WereWritten id ((done ++ s ∷ []) ++ ss) ns) (append_assoc answers (r ∷ []) rs) rest)
  all_along m id done answers [] (r ∷ rs) w t c q polls_a polls_b made fits led named stand now counted few_a few_b =
      absurd led
  all_along m id done answers (s ∷ ss) [] w t c q polls_a polls_b made fits led named stand now counted few_a few_b =
      absurd led

  -- steps behind others, since the pair was new
  pub reads_on : (more : List Step) (answers : List Reply) (p q : Ends) → Runs more answers p q
      → ReadsOn more answers p q
  unfolding comes_on
  reads_on more answers p q led m ss rs f few named =
      let came = comes_on more answers p q led m ss rs f.came few in
      let fresh : CameFresh m (ss ++ more) (rs ++ answers) q = record {
        came = came;
        fresh = f.fresh;
        named = all_join NamesIdentifiers ss more f.named named;
      } in
      record {
        fresh = fresh;
        same = refl;
        along = λ id.
            along m id [] [] (ss ++ more) (rs ++ answers) (world_of m came.begin) nothing_tallied fresh_courses q
            (begun_made m came.begin) came.new came.safely fresh.named (fresh.fresh id) (now_new m id came.begin);
        written = λ polls id.
            all_along m id [] [] (ss ++ more) (rs ++ answers) (world_of m came.begin) nothing_tallied fresh_courses q
            0 0 (begun_made m came.begin) came.new came.safely fresh.named (fresh.fresh id)
            (now_new m id came.begin) (nothing_counted (world_of m came.begin))
            (few_first (polls_in sides.A (ss ++ more)) polls.of_a)
            (few_first (polls_in sides.B (ss ++ more)) polls.of_b);
      }
