-- The laws in events of the model's machine.
use Rattle.std.proofs.Common.{ℕ, ◌≡◌, Bool, true, false, not, leb, ◌&&◌, List, [], ◌∷◌, ◌++◌, slice_get, Option, Some}
use Rattle.std.proofs.Common.{None, refl, sym, ap, ◌∙◌, subst, ltb, arith, suc}
use Rattle.std.specs.List.{AllByRecursion}
use Rattle.std.proofs.lemmas.Bool.{and_parts, and_from, cond-true, not-true, true≢false}
use Rattle.sctp_receive_queues.specs.Messages.{ReceivedMessage}
use Rattle.sctp_receive_queues.specs.Reassembly.{Reassembly, pushed, taken, unordered_skipped, refusal}
use Rattle.sctp_model.specs.Messages.{Plan}
use Rattle.sctp_model.specs.Packets.{Data, Forward, mem, skips}
use Rattle.sctp_serial.specs.Serial.{tsn}
use Rattle.sctp_model.specs.Reassembly.{Queue, Taken, at, drop_unordered, next, push, skip_if}
use Rattle.sctp_model.specs.Machine.{Direction, Event, data_comes, forward_comes, forwarded, happens, is_new, live}
use Rattle.sctp_model.specs.Machine.{passes, reach, read, took, was_read}
use Rattle.sctp_model.specs.Safe.{IsWithin, read_ssn}
use Rattle.sctp_model.specs.Invariants.{IsForward, IsHeld, IsPiece, Invariant}
use Rattle.sctp_model.proofs.ReceiverEvents.{keeps_data_comes}
use Rattle.sctp_model.proofs.CompleteRuns.{at_found}
use Rattle.sctp_model.proofs.PlansGrow.{at_put}
use Rattle.sctp_model.proofs.Lists.{all_get}
use Rattle.sctp_reassembly.specs.Laws.{AForwardThatComesStands, AReadThatHappensStands, DataThatComesStands}
use Rattle.sctp_reassembly.specs.Laws.{UnorderedDataThatComesStands}
use Rattle.sctp_reassembly.specs.Stands.{IsAnsweredAlike, IsInWindow, IsLoose, IsReadAs, CarriesData, StandsFor}
use Rattle.sctp_reassembly.specs.Stands.{skipped_if, IsForBytesAlone}
use Rattle.sctp_reassembly.proofs.ReadAnswers.{reads_answer_alike}
use Rattle.sctp_reassembly.proofs.OrderedArrives.{ordered_pieces_stand}
use Rattle.sctp_reassembly.proofs.UnorderedDropped.{unordered_drops_stand}
use Rattle.sctp_reassembly.proofs.UnorderedArrives.{loose_piece_stands}
use Rattle.sctp_reassembly.proofs.SkipsAlike.{the_invariant_gives_the_window, ordered_skips_stand}
use Rattle.sctp_wire_types.specs.declared.chunk.ChunkPayloadData.{ChunkPayloadData}

-- what was taken in is no longer new
not_held : (p : Plan) (came : List ℕ) (s low o : ℕ) (ordered : Bool) (held : List Data)
    → AllByRecursion (IsHeld p came s ordered low) held → mem o came ≡ false
    → at o held ≡ None
not_held p came s low o ordered held a m = go (at o held) refl
  where
    go : (x : Option Data) → at o held ≡ x → x ≡ None
    go None e = refl
    go (Some d) e =
        let f = at_found (IsHeld p came s ordered low) o held d e a in
        absurd (true≢false (sym (subst (λ z. mem z came ≡ true) f.1 f.0.taken_in) ∙ m))

came_in : (w : Direction) (k : ℕ) (d : Data) → slice_get w.datas k ≡ Some d → w.receiver.is_open ≡ true
    → is_new w.receiver d.offset ≡ true
    → happens w (Event.DataComes k) ≡ record w { receiver = took w.receiver d }
unfolding happens
came_in w k d e o n =
    ap (data_comes w) e ∙ cond-true (w.receiver.is_open && is_new w.receiver d.offset)
    (record w { receiver = took w.receiver d }) w (and_from w.receiver.is_open (is_new w.receiver d.offset) o n)

module _ (initial : ℕ) (w : Direction) (k limit : ℕ) (r : Reassembly) (c : ChunkPayloadData) (d : Data)
    (l : IsWithin w) (h : Invariant w) (v : w.over d.stream ≡ false) (e : slice_get w.datas k ≡ Some d)
    (opened : w.receiver.is_open ≡ true) (n : is_new w.receiver d.offset ≡ true) (kind : d.ordered ≡ true)
    (said : CarriesData initial c d) where
  data_stands : StandsFor initial w.sender.plan d.stream r (live (w.receiver.queues d.stream))
      → StandsFor initial w.sender.plan d.stream (pushed r c).0
      (live ((happens w (Event.DataComes k)).receiver.queues d.stream)) × IsForBytesAlone (refusal r c limit)
  data_stands st =
      let p = w.sender.plan in
      let q = live (w.receiver.queues d.stream) in
      let piece = all_get (IsPiece p) w.datas k d e h.datas in
      let after : Direction = record w { receiver = took w.receiver d } in
      let within : IsWithin after = record { offsets = l.offsets; flight = l.flight; unread = l.unread } in
      let win = the_invariant_gives_the_window after within (keeps_data_comes w d piece n l h) d.stream v in
      let there : live (after.receiver.queues d.stream) ≡ push q d =
      ap live (at_put w.receiver.queues d.stream d.stream (Some (push q d)) refl) in
      let win' : IsInWindow p (d.offset ∷ w.receiver.taken) d.stream (read_ssn p 0 (w.reads d.stream)) win.0 (push q d)
      = subst (IsInWindow p (d.offset ∷ w.receiver.taken) d.stream (read_ssn p 0 (w.reads d.stream)) win.0) there
      win.1 in
      let free =
      not_held p w.receiver.taken d.stream (read_ssn p 0 (w.reads d.stream)) d.offset true q.ordered
      (h.streams d.stream v).ordered.held
      (not-true (mem d.offset w.receiver.taken)
      (and_parts (leb (reach w.receiver) d.offset) (not (mem d.offset w.receiver.taken)) n).1) in
      let both =
      ordered_pieces_stand initial p w.over (d.offset ∷ w.receiver.taken) d.stream
      (read_ssn p 0 (w.reads d.stream)) win.0
      d.offset limit r q c
      h.planned v l.offsets st (subst (CarriesData initial c) piece.is said)
      (sym (ap (λ z. z.ordered) piece.is) ∙ kind) free
      (subst (λ z. IsInWindow p (d.offset ∷ w.receiver.taken) d.stream (read_ssn p 0 (w.reads d.stream)) win.0
      (push q z))
      piece.is win') in (
        subst (StandsFor initial p d.stream (pushed r c).0)
            (ap (push q) (sym piece.is) ∙ sym there
            ∙ ap (λ (z : Direction). live (z.receiver.queues d.stream)) (sym (came_in w k d e opened n))) both.0,
        both.1,
      )

pub data_that_comes_stands : DataThatComesStands
data_that_comes_stands = data_stands

module _ (initial : ℕ) (w : Direction) (k limit : ℕ) (r : Reassembly) (c : ChunkPayloadData) (d : Data)
    (l : IsWithin w) (h : Invariant w) (v : w.over d.stream ≡ false) (e : slice_get w.datas k ≡ Some d)
    (opened : w.receiver.is_open ≡ true) (n : is_new w.receiver d.offset ≡ true) (kind : d.ordered ≡ false)
    (said : CarriesData initial c d) where
  unordered_data_stands : StandsFor initial w.sender.plan d.stream r (live (w.receiver.queues d.stream))
      → StandsFor initial w.sender.plan d.stream (pushed r c).0
      (live ((happens w (Event.DataComes k)).receiver.queues d.stream)) × IsForBytesAlone (refusal r c limit)
  unordered_data_stands st =
      let p = w.sender.plan in
      let q = live (w.receiver.queues d.stream) in
      let piece = all_get (IsPiece p) w.datas k d e h.datas in
      let there : push q d ≡ live ((happens w (Event.DataComes k)).receiver.queues d.stream)
      =
      sym (ap live (at_put w.receiver.queues d.stream d.stream (Some (push q d)) refl))
      ∙ ap (λ (z : Direction). live (z.receiver.queues d.stream)) (sym (came_in w k d e opened n)) in
      let free = not_held p w.receiver.taken d.stream 0 d.offset false q.unordered (h.streams d.stream v).unordered.held
      (not-true (mem d.offset w.receiver.taken)
      (and_parts (leb (reach w.receiver) d.offset) (not (mem d.offset w.receiver.taken)) n).1) in
      let loose : IsLoose p d.stream d.offset = record {
        at = record {
          known = piece.known;
          stream = sym (ap (λ z. z.stream) piece.is);
          kind = sym (ap (λ z. z.ordered) piece.is) ∙ kind;
        };
        sent = piece.sent;
      } in
      let both =
      loose_piece_stands limit h.planned l.offsets st (subst (CarriesData initial c) piece.is said) loose free in
      (subst (StandsFor initial p d.stream (pushed r c).0) (ap (push q) (sym piece.is) ∙ there) both.0, both.1)

pub unordered_data_that_comes_stands : UnorderedDataThatComesStands
unordered_data_that_comes_stands = unordered_data_stands

was_so : (w : Direction) (s : ℕ) (q : Queue) → w.receiver.queues s ≡ Some q → w.receiver.is_open ≡ true
    → happens w (Event.Read s) ≡ was_read w s (next q)
unfolding happens
was_so w s q e opened = ap (read w s) e ∙ cond-true w.receiver.is_open (was_read w s (next q)) w opened

-- what a read that happens leaves
read_so : (initial : ℕ) (w : Direction) (s : ℕ) (r : Reassembly) (q : Queue) (x : Reassembly × Option ReceivedMessage)
    (y : Option Taken) → w.receiver.queues s ≡ Some q
    → IsAnsweredAlike initial w.sender.plan s q x y
    → StandsFor initial w.sender.plan s x.0 (live ((was_read w s y).receiver.queues s))
    × IsReadAs x.1 (w.reads s) ((was_read w s y).reads s)
read_so initial w s r q (r', None) None e a =
    (subst (λ z. StandsFor initial w.sender.plan s r' (live z)) (sym e) a, refl)
read_so initial w s r q (r', None) (Some t) e a = absurd a
read_so initial w s r q (r', Some m) None e a = absurd a
read_so initial w s r q (r', Some m) (Some t) e a = (
  subst (λ z. StandsFor initial w.sender.plan s r' (live z))
      (sym (at_put w.receiver.queues s s (Some t.rest) refl)) a.1,
  (t.got, at_put w.reads s s (w.reads s ++ t.got ∷ []) refl, a.0),
)

module _ (initial : ℕ) (w : Direction) (s : ℕ) (r : Reassembly) (q : Queue) (l : IsWithin w) (h : Invariant w)
    (v : w.over s ≡ false) (opened : w.receiver.is_open ≡ true) (e : w.receiver.queues s ≡ Some q) where
  read_stands : StandsFor initial w.sender.plan s r q
      → StandsFor initial w.sender.plan s (taken r).0 (live ((happens w (Event.Read s)).receiver.queues s))
      × IsReadAs (taken r).1 (w.reads s) ((happens w (Event.Read s)).reads s)
  read_stands st =
      let p = w.sender.plan in
      let win = the_invariant_gives_the_window w l h s v in
      let there : live (w.receiver.queues s) ≡ q = ap live e in
      let alike =
      reads_answer_alike initial p w.over w.receiver.taken s (read_ssn p 0 (w.reads s)) win.0 r q h.planned v l.offsets
      (subst (IsInWindow p w.receiver.taken s (read_ssn p 0 (w.reads s)) win.0) there win.1) st in
      subst (λ (z : Direction). StandsFor initial p s (taken r).0 (live (z.receiver.queues s))
      × IsReadAs (taken r).1 (w.reads s) (z.reads s)) (sym (was_so w s q e opened))
      (read_so initial w s r q (taken r) (next q) e alike)

pub a_read_that_happens_stands : AReadThatHappensStands
a_read_that_happens_stands = read_stands

-- A FORWARD TSN

-- a FORWARD TSN that lies ahead of a receiver that is open is taken
pub came_forward : (w : Direction) (k : ℕ) (f : Forward) → slice_get w.forwards k ≡ Some f → w.receiver.is_open ≡ true
    → ltb (reach w.receiver) f.reach ≡ true
    → happens w (Event.ForwardComes k) ≡ passes w f
unfolding happens
came_forward w k f e o n =
    ap (forward_comes w) e ∙ cond-true (w.receiver.is_open && ltb (reach w.receiver) f.reach) (passes w f) w
    (and_from w.receiver.is_open (ltb (reach w.receiver) f.reach) o n)

module _ (initial : ℕ) (w : Direction) (k s o : ℕ) (r : Reassembly) (q : Queue) (f : Forward) (l : IsWithin w)
    (h : Invariant w) (v : w.over s ≡ false) (e : slice_get w.forwards k ≡ Some f)
    (opened : w.receiver.is_open ≡ true) (n : ltb (reach w.receiver) f.reach ≡ true) (at : f.reach ≡ suc o)
    (there : w.receiver.queues s ≡ Some q) where
  forward_stands : StandsFor initial w.sender.plan s r q
      → StandsFor initial w.sender.plan s (unordered_skipped (skipped_if r (skips f s)) (tsn initial o))
      (live ((happens w (Event.ForwardComes k)).receiver.queues s))
  forward_stands st =
      let p = w.sender.plan in
      let low = read_ssn p 0 (w.reads s) in
      let win = the_invariant_gives_the_window w l h s v in
      let win' : IsInWindow p w.receiver.taken s low win.0 q =
      subst (IsInWindow p w.receiver.taken s low win.0) (ap live there) win.1 in
      let known =
      (all_get (IsForward p w.sender.gone w.over w.sender.acknowledged w.sender.reach) w.forwards k f e
      h.forwards).known in
      let small = l.offsets in
      let after = unordered_skipped (skipped_if r (skips f s)) (tsn initial o) in
      subst (λ (z : Direction). StandsFor initial p s after (live (z.receiver.queues s)))
      (sym (came_forward w k f e opened n))
      (subst (λ (z : Option Queue). StandsFor initial p s after (live (forwarded z f.reach (skips f s)))) (sym there)
      (subst (λ (z : ℕ). StandsFor initial p s after (drop_unordered z (skip_if q (skips f s)))) (sym at)
      (unordered_drops_stand initial p w.over s o (skipped_if r (skips f s)) (skip_if q (skips f s)) h.planned l.offsets
      (omega arith) (go win' (skips f s)))))
    where
      go : IsInWindow w.sender.plan w.receiver.taken s (read_ssn w.sender.plan 0 (w.reads s))
          (the_invariant_gives_the_window w l h s v).0 q → (m : Option ℕ)
          → StandsFor initial w.sender.plan s (skipped_if r m) (skip_if q m)
      go x None = st
      go x (Some m) =
          ordered_skips_stand initial w.sender.plan w.over w.receiver.taken s (read_ssn w.sender.plan 0 (w.reads s))
          (the_invariant_gives_the_window w l h s v).0 m r q h.planned v l.offsets x st

pub a_forward_that_comes_stands : AForwardThatComesStands
a_forward_that_comes_stands = forward_stands
