-- A SACK that an association makes says what the receiver of its direction took in.
use Rattle.std.proofs.Common.{◌≡◌, refl, sym, ◌∙◌, subst₂, ⊎_elim, ℕ, ◌<◌, ◌≤◌, ◌+◌, ◌-◌, arith, true, false}
use Rattle.std.proofs.Common.{leb, List, [], ◌∷◌, ◌++◌, length, Some}
use Rattle.std.specs.Prelude.{slice_get}
use Rattle.std.proofs.lemmas.Bool.{cases_Bool, false_from_ne_true, le-leb, true≢false}
use Rattle.sctp_wire_types.specs.declared.chunk.ChunkSelectiveAck.{ChunkSelectiveAck}
use Rattle.sctp_model.specs.Packets.{mem}
use Rattle.sctp_model.specs.Machine.{Direction, Event, Receiver, happens, reach, sack_of}
use Rattle.sctp_model.proofs.OffsetSets.{mem-filter, mem_from_filter}
use Rattle.sctp_fit.proofs.DataTaken.{reports_change_nothing, same_reach}
use Rattle.sctp_directions.specs.Acts.{receiving}
use Rattle.sctp_directions.specs.Laws.{ReportsSayWhatWasTaken}
use Rattle.sctp_directions.specs.Reports.{SaysWhatWasTaken}

-- what is pushed to a list stands last in it
pub pushed_last : {X : Type 0} (xs : List X) (x : X) → slice_get (xs ++ x ∷ []) (length xs) ≡ Some x
pushed_last [] x = refl
pushed_last (y ∷ ys) x = pushed_last ys x

-- a SACK that is made is the last one
made_last : (w : Direction) → slice_get (happens w Event.SackMade).sacks (length w.sacks) ≡ Some (sack_of w.receiver)
unfolding happens
made_last w = pushed_last w.sacks (sack_of w.receiver)

-- from the reach on, the SACK that is made has what was taken in
above_from : (r : Receiver) (o : ℕ) → reach r ≤ o → mem o (sack_of r).above ≡ mem o r.taken
above_from r o from =
    ⊎_elim
    (λ (b : mem o r.taken ≡ true). mem-filter (λ n. leb (reach r) n) o r.taken (le-leb _ _ from) b ∙ sym b)
    (λ (b : mem o r.taken ≡ false).
    false_from_ne_true _ (λ (m : mem o (sack_of r).above ≡ true). true≢false (sym (mem_from_filter _ o r.taken m) ∙ b))
    ∙ sym b)
    (cases_Bool (mem o r.taken))

-- the offset that a gap ack block counts as o from the cumulative TSN ack
on_from : (n o : ℕ) → 0 < o → n ≤ n + o - 1
on_from n o some = omega arith

-- what says what the receiver took in says what the SACK that it makes has
made_says : (initial : ℕ) (r : Receiver) (c : ChunkSelectiveAck) → SaysWhatWasTaken initial (reach r) r.taken c
    → SaysWhatWasTaken initial (reach r) (sack_of r).above c
made_says initial r c says = record {
  at = says.at;
  set = λ o some. says.set o some ∙ sym (above_from r (reach r + o - 1) (on_from (reach r) o some));
}

-- an association that reports makes a SACK, and what says what came to the association is that one
pub reports_say_what_was_taken : ReportsSayWhatWasTaken
reports_say_what_was_taken p w fits = (
  reports_change_nothing (receiving p) w fits,
  λ c says. (
    length w.sacks,
    sack_of w.receiver,
    made_last w,
    made_says p.history.peer w.receiver c
        (subst₂ (λ n os. SaysWhatWasTaken p.history.peer n os c) (same_reach (receiving p) w fits) fits.taken says),
  ),
)
