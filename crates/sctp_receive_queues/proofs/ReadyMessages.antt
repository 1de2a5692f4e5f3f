-- What reads give, one after another.
use Rattle.std.proofs.Common.{◌≡◌, refl, sym, ap, ◌∙◌, ℕ, zero, suc, ◌+◌, ◌<◌, ◌≤◌, arith, Bool, true, false, ◌&&◌}
use Rattle.std.proofs.Common.{if◌then◌else◌, List, [], ◌∷◌, length, drop, slice_get, Option, Some, None}
use Rattle.sctp_receive_queues.specs.Messages.{ReceivedMessage, message_of}
use Rattle.sctp_receive_queues.specs.Reassembly.{Group, Reassembly, ReadsGiveWhatIsReady, after_read, is_due}
use Rattle.sctp_receive_queues.specs.Reassembly.{messages_held, read_from, read_ordered, ready, ready_on, ready_within}
use Rattle.sctp_receive_queues.specs.Reassembly.{taken}

-- a read takes one of the messages held, or gives none and leaves all as it is
abbrev pub TakesOne : Reassembly → Reassembly × Option ReceivedMessage → Type 0
TakesOne q (r, None) = r ≡ q
TakesOne q (r, Some m) = messages_held q ≡ suc (messages_held r)

one_ordered : (due : Bool) (q : Reassembly) (g : Group) (gs : List Group) → q.complete ≡ [] → q.ordered ≡ g ∷ gs
    → TakesOne q (if due then
    (record q { next_ssn = after_read g.ssn q.next_ssn; ordered = gs }, Some (message_of g.pieces)) else (q, None))
one_ordered true q g gs e f = rw (e, f) (omega arith)
one_ordered false q g gs e f = refl

takes_ordered : (gs : List Group) (q : Reassembly) → q.complete ≡ [] → q.ordered ≡ gs → TakesOne q (read_ordered q gs)
takes_ordered [] q e f = refl
takes_ordered (g ∷ gs) q e f = one_ordered (is_due q.next_ssn (Some g)) q g gs e f

takes_one_of : (ms : List ReceivedMessage) (q : Reassembly) → q.complete ≡ ms → TakesOne q (read_from q ms)
takes_one_of [] q e = takes_ordered q.ordered q e refl
takes_one_of (m ∷ ms) q e = rw e (omega arith)

pub takes_one : (q : Reassembly) → TakesOne q (taken q)
takes_one q = takes_one_of q.complete q refl

none_within : (n : ℕ) (q : Reassembly) → taken q ≡ (q, None) → ready_within n q ≡ []
none_within zero q e = refl
none_within (suc n) q e = rw e refl

some_within : (n : ℕ) (q r : Reassembly) (m : ReceivedMessage) → messages_held q ≡ suc n → taken q ≡ (r, Some m)
    → ready q ≡ m ∷ ready_within n r
some_within n q r m e f = rw (e, f) refl

gives : (x : Reassembly × Option ReceivedMessage) (q : Reassembly) → taken q ≡ x → TakesOne q x
    → (x.1 ≡ slice_get (ready q) 0) × (ready x.0 ≡ drop 1 (ready q))
gives (r, None) q e same =
    let none : ready q ≡ [] = none_within (messages_held q) q (e ∙ ap (λ (z : Reassembly). (z, None)) same) in
    (rw none refl, ap ready same ∙ none ∙ ap (λ (z : List ReceivedMessage). drop 1 z) (sym none))
gives (r, Some m) q e fewer =
    let all : ready q ≡ m ∷ ready r = some_within (messages_held r) q r m fewer e in
    (rw all refl, rw all refl)

pub reads_give_what_is_ready : ReadsGiveWhatIsReady
reads_give_what_is_ready q = gives (taken q) q refl (takes_one q)

pub read_gives_the_first : (q r : Reassembly) (m : Option ReceivedMessage) → taken q ≡ (r, m)
    → m ≡ slice_get (ready q) 0
read_gives_the_first q r m e =
    sym (ap (λ (x : Reassembly × Option ReceivedMessage). x.1) e) ∙ (reads_give_what_is_ready q).0

pub read_leaves_the_others : (q r : Reassembly) (m : Option ReceivedMessage) → taken q ≡ (r, m)
    → ready r ≡ drop 1 (ready q)
read_leaves_the_others q r m e =
    sym (ap (λ (x : Reassembly × Option ReceivedMessage). ready x.0) e) ∙ (reads_give_what_is_ready q).1
