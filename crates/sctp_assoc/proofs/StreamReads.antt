-- A read on a stream gives the first of what is ready there, and leaves the others.
use Rattle.std.proofs.Common.{◌≡◌, ◌↔◌, refl, sym, ap, ◌∙◌, ⊎_elim, ℕ, Bool, true, false, List, [], ◌∷◌, drop}
use Rattle.std.proofs.Common.{◌⊎◌, inl, inr, ◌&&◌, ◌||◌, not, if◌then◌else◌, slice_get, is_some, Option, Some, None}
use Rattle.std.proofs.Common.{arith, eqb, length, subst, Result, Ok, Err}
use Rattle.std.specs.Prelude.{IsNone, IfErr}
use Rattle.std.specs.Map.{lookup, set_value}
use Rattle.std.specs.Ordering.{nat_cmp}
use Rattle.std.specs.BTreeMap.{is_at}
use Rattle.std.proofs.lemmas.Bool.{cases_Bool, eqb-true, false≢true, or_left, or_right, true≢false}
use Rattle.std.proofs.lemmas.Map.Steps.{set_value_same}
use Rattle.sctp_wire_types.specs.declared.error.Error.{Error}
use Rattle.sctp_wire_types.specs.declared.error.Error.TheVariants as errors
use Rattle.sctp_receive_queues.specs.Messages.{ReceivedMessage}
use Rattle.sctp_receive_queues.specs.Reassembly.{Group, Reassembly, is_due, is_ready, read_from, read_ordered, ready}
use Rattle.sctp_receive_queues.specs.Reassembly.{taken}
use Rattle.sctp_receive_queues.proofs.ReadyMessages.{reads_give_what_is_ready}
use Rattle.sctp_streams.specs.Stream.{StreamView, read_with, stream_read}
use Rattle.sctp_streams.specs.Streams.{StreamMap, is_readable_at, is_readable_in, read_at, read_in, stream_at}
use Rattle.sctp_streams.specs.Streams.{with_stream}
use Rattle.sctp_generations.specs.Retiring.{boundaries_at, count_of}
use Rattle.sctp_reset_requests.specs.Peer.{boundary_of}
use Rattle.sctp_resets.specs.Channels.{channels}
use Rattle.sctp_resets.specs.Draining.{Reading, passed_times}
use Rattle.sctp_resets.specs.Resets.{is_retiring, with_read}
use Rattle.sctp_assoc.specs.Calls.{LeavesTheOthers, after_read, drained_behind, read_exhausts, read_from_stream}
use Rattle.sctp_assoc.specs.Calls.{RefusesOrLacksMemory, credit_in, eased, eased_if, read_refusal, read_takes_memory}
use Rattle.sctp_assoc.specs.Calls.{ready_messages, ready_of, tells_window, told_if}
use Rattle.sctp_assoc.specs.Resets.{with_resetting}
use Rattle.sctp_assoc.specs.Closing.{exhausted, is_exhausted, relieved}
use Rattle.sctp_assoc.specs.Shown.{HasFailed, Shown, answers_of}

-- what is written at a key that is found is found there
pub found_again : (test : ℕ → Bool) (es : List (ℕ × StreamView)) (v w : StreamView) → lookup test es ≡ Some v
    → lookup test (set_value test es w) ≡ Some w
found_again test [] v w e = absurd (cc)
found_again test (e ∷ es) v w f = ⊎_elim
    (λ (here : test e.0 ≡ true). rw here (rw here refl))
    (λ (elsewhere : test e.0 ≡ false). let g : lookup test es ≡ Some v = (rw elsewhere at f) in
    rw elsewhere (rw elsewhere (found_again test es v w g)))
    (cases_Bool (test e.0))

read_message : (s : StreamView) (x : Reassembly × Option ReceivedMessage) → (read_with s x).1 ≡ x.1
read_message s (r, None) = refl
read_message s (r, Some m) = refl

read_rest : (s : StreamView) (x : Reassembly × Option ReceivedMessage) → (read_with s x).0.reassembly ≡ x.0
read_rest s (r, None) = refl
read_rest s (r, Some m) = refl

first_at : (o : Option StreamView) (m : StreamMap) (id : ℕ) → (read_at o m id).1 ≡ slice_get (ready_of o) 0
first_at None m id = refl
first_at (Some s) m id = read_message s (taken s.reassembly) ∙ (reads_give_what_is_ready s.reassembly).0

others_at : (o : Option StreamView) (m : StreamMap) (id : ℕ) → stream_at m id ≡ o
    → ready_of (stream_at (read_at o m id).0 id) ≡ drop 1 (ready_of o)
others_at None m id e = ap ready_of e
others_at (Some s) m id e =
    ap ready_of (found_again (is_at (nat_cmp id)) m.by_id s (stream_read s).0 e)
    ∙ ap ready (read_rest s (taken s.reassembly)) ∙ (reads_give_what_is_ready s.reassembly).1

none_where_none : (message : Option ReceivedMessage) (all : List ReceivedMessage) → message ≡ slice_get all 0
    → IsNone message ↔ (all ≡ [])
none_where_none None [] e = (λ _. refl, λ _. refl)
none_where_none None (m ∷ ms) e = absurd (cc)
none_where_none (Some m) [] e = absurd (cc)
none_where_none (Some n) (m ∷ ms) e = (λ f. absurd (cc), λ f. absurd (cc))

pub message_given : (a : Shown) (id : ℕ) (x : StreamMap × Option ReceivedMessage) → (after_read a id x).1 ≡ x.1
message_given a id (streams, None) = refl
message_given a id (streams, Some message) = refl

pub reads_give_the_first : (a b : Shown) (id : ℕ) (message : Option ReceivedMessage)
    → read_from_stream a id ≡ (b, message) → message ≡ slice_get (ready_messages a id) 0
reads_give_the_first a b id message e =
    sym (ap (λ (x : Shown × Option ReceivedMessage). x.1) e)
    ∙ message_given a id (read_in a.streams id) ∙ first_at (stream_at a.streams id) a.streams id

pub reads_give_none : (a b : Shown) (id : ℕ) (message : Option ReceivedMessage)
    → read_from_stream a id ≡ (b, message) → IsNone message ↔ (ready_messages a id ≡ [])
reads_give_none a b id message e =
    none_where_none message (ready_messages a id) (reads_give_the_first a b id message e)

relieved_streams : (e : Bool) (b : Shown) → (e ≡ true) ⊎ ((if e then exhausted b else b).streams ≡ b.streams)
relieved_streams true b = inl refl
relieved_streams false b = inr refl

told_streams : (tells : Bool) (b : Shown) → (told_if tells b).streams ≡ b.streams
told_streams true b = refl
told_streams false b = refl

eased_streams : (before : ℕ) (b : Shown) → (is_exhausted b ≡ true) ⊎ ((eased before b).streams ≡ b.streams)
eased_streams before b = ⊎_elim
    (λ (exhausts : is_exhausted b ≡ true). inl exhausts)
    (λ (same : (relieved b).streams ≡ b.streams).
    inr (told_streams (tells_window before (relieved b)) (relieved b) ∙ same))
    (relieved_streams (is_exhausted b) b)

-- where no generation of a stream ended, a read of it ends none
no_generation_ends : (o : Option (List ℕ)) (first limit id : ℕ) (in_progress : Option ℕ) (r : Reading)
    → is_some o ≡ false → passed_times (count_of o) first limit id in_progress r ≡ r
no_generation_ends None first limit id in_progress r e = refl
no_generation_ends (Some boundaries) first limit id in_progress r e = absurd (true≢false e)

pub drained_plainly : (a : Shown) (id : ℕ) (streams : StreamMap) → is_retiring a.resets id ≡ false
    → drained_behind a id streams ≡ record a { streams = streams }
drained_plainly a id streams none =
    let g = a.resets.generations in
    ap (λ (r : Reading). with_resetting a (with_read a.resets r))
    (no_generation_ends (boundaries_at g.retiring id) a.sender.queue.next_message_id
    a.receiver.max_receive_message_size id (boundary_of a.resets.peer id)
    (g, channels streams a.events a.to_accept) none)

-- A read where no message is ready leaves all as it is.

ordered_gives_none : (gs : List Group) (q : Reassembly) → is_due q.next_ssn (slice_get gs 0) ≡ false
    → read_ordered q gs ≡ (q, None)
ordered_gives_none [] q e = refl
ordered_gives_none (g ∷ gs) q e = rw e refl

negated : (c : Bool) → (c ≡ true → false ≡ true) → not c ≡ true
negated true h = absurd (false≢true (h refl))
negated false h = refl

gives_none : (ms : List ReceivedMessage) (q : Reassembly)
    → (not (eqb (length ms) 0) || is_due q.next_ssn (slice_get q.ordered 0)) ≡ false → read_from q ms ≡ (q, None)
gives_none [] q e = ordered_gives_none q.ordered q e
gives_none (m ∷ ms) q e =
    absurd (true≢false
    (sym (or_left (not (eqb (length (m ∷ ms)) 0)) (is_due q.next_ssn (slice_get q.ordered 0))
    (negated (eqb (length (m ∷ ms)) 0)
    (λ (z : (eqb (length (m ∷ ms)) 0) ≡ true). absurd (omega (arith, eqb-true (length (m ∷ ms)) 0 z)))))
    ∙ e))

stream_gives_none : (s : StreamView) → is_ready s.reassembly ≡ false → stream_read s ≡ (s, None)
stream_gives_none s e = ap (read_with s) (gives_none s.reassembly.complete s.reassembly e)

none_at : (o : Option StreamView) (m : StreamMap) (id : ℕ) → stream_at m id ≡ o → is_readable_at o ≡ false
    → read_at o m id ≡ (m, None)
none_at None m id e f = refl
none_at (Some s) m id e f =
    ap (λ (x : StreamView × Option ReceivedMessage). (with_stream m id x.0, x.1)) (stream_gives_none s f)
    ∙ ap (λ (es : List (ℕ × StreamView)). (record m { by_id = es }, None))
    (set_value_same (is_at (nat_cmp id)) m.by_id s e)

pub nothing_is_read : (a : Shown) (id : ℕ) → is_readable_in a.streams id ≡ false → is_retiring a.resets id ≡ false
    → read_from_stream a id ≡ (a, None)
nothing_is_read a id e none =
    ap (after_read a id) (none_at (stream_at a.streams id) a.streams id refl e)
    ∙ ap (λ (z : Shown). (z, None)) (drained_plainly a id a.streams none)

-- A read of a stream of which no generation ended takes its next message out, and closes where that exhausts the
-- buffer.

read_where_none_ended : (a : Shown) (id : ℕ) (x : StreamMap × Option ReceivedMessage) → is_retiring a.resets id ≡ false
    → after_read a id x ≡ (eased_if (is_some x.1) (credit_in a) (record a { streams = x.0 }), x.1)
read_where_none_ended a id (streams, None) none = ap (λ (z : Shown). (z, None)) (drained_plainly a id streams none)
read_where_none_ended a id (streams, Some message) none =
    ap (λ (z : Shown). (eased (credit_in a) z, Some message)) (drained_plainly a id streams none)

pub read_without_end : (a b : Shown) (id : ℕ) (streams : StreamMap) (message : Option ReceivedMessage)
    → is_retiring a.resets id ≡ false → read_in a.streams id ≡ (streams, message)
    → b ≡ eased_if (is_some message) (credit_in a) (record a { streams = streams })
    → read_from_stream a id ≡ (b, message)
read_without_end a b id streams message none e left =
    read_where_none_ended a id (read_in a.streams id) none
    ∙ ap (λ (x : StreamMap × Option ReceivedMessage).
    (eased_if (is_some x.1) (credit_in a) (record a { streams = x.0 }), x.1)) e
    ∙ ap (λ (z : Shown). (z, message)) (sym left)

both_true : (p q : Bool) → p ≡ true → q ≡ true → (p && q) ≡ true
both_true true q e f = f
both_true false q e f = absurd (true≢false (sym e))

pub plain_read_takes_memory : (a : Shown) (id : ℕ) (streams : StreamMap) (message : Option ReceivedMessage)
    → is_retiring a.resets id ≡ false → read_in a.streams id ≡ (streams, message) → is_some message ≡ true
    → is_exhausted (record a { streams = streams }) ≡ true → read_takes_memory a id ≡ true
plain_read_takes_memory a id streams message none e gave full =
    or_left (read_exhausts a id) _
    (subst (λ (x : StreamMap × Option ReceivedMessage).
    (is_some x.1 && is_exhausted (drained_behind a id x.0)) ≡ true) (sym e)
    (ap (λ (z : Shown). is_some message && is_exhausted z) (drained_plainly a id streams none)
    ∙ both_true (is_some message) (is_exhausted (record a { streams = streams })) gave full))

-- a read that no rule refuses is refused for want of memory alone
pub reads_lack_memory : (a b : Shown) (id : ℕ) (r : Result (Option ReceivedMessage) Error) → read_refusal a id ≡ None
    → IfErr r (λ e. (e ≡ errors.ErrNoMemory) × (read_takes_memory a id ≡ true) × HasFailed (answers_of a) b)
    → RefusesOrLacksMemory r (read_refusal a id)
reads_lack_memory a b id (Ok message) free fails = free
reads_lack_memory a b id (Err e) free fails =
    subst (λ (o : Option Error). RefusesOrLacksMemory {T = Option ReceivedMessage} (Err e) o) (sym free) fails.0

streams_left : (a : Shown) (id : ℕ) (x : StreamMap × Option ReceivedMessage) → is_retiring a.resets id ≡ false
    → ((is_some x.1 && is_exhausted (drained_behind a id x.0)) ≡ true) ⊎ ((after_read a id x).0.streams ≡ x.0)
streams_left a id (streams, None) none = inr (ap (λ (z : Shown). z.streams) (drained_plainly a id streams none))
streams_left a id (streams, Some message) none = ⊎_elim
    (λ (exhausts : is_exhausted (drained_behind a id streams) ≡ true). inl exhausts)
    (λ (same : (after_read a id (streams, Some message)).0.streams ≡ (drained_behind a id streams).streams).
    inr (same ∙ ap (λ (z : Shown). z.streams) (drained_plainly a id streams none)))
    (eased_streams (credit_in a) (drained_behind a id streams))

leaves_if : (a b : Shown) (id : ℕ) (message : Option ReceivedMessage) (retires : Bool)
    → is_retiring a.resets id ≡ retires → read_from_stream a id ≡ (b, message) → LeavesTheOthers a id b
leaves_if a b id message true retires e = inl (or_right (read_exhausts a id) _ retires)
leaves_if a b id message false none e = ⊎_elim
    (λ (exhausts : read_exhausts a id ≡ true). inl (or_left _ _ exhausts))
    (λ (same : (read_from_stream a id).0.streams ≡ (read_in a.streams id).0).
    inr (sym (ap (λ (x : Shown × Option ReceivedMessage). ready_messages x.0 id) e)
    ∙ ap (λ (m : StreamMap). ready_of (stream_at m id)) same
    ∙ others_at (stream_at a.streams id) a.streams id refl))
    (streams_left a id (read_in a.streams id) none)

pub reads_leave_the_others : (a b : Shown) (id : ℕ) (message : Option ReceivedMessage)
    → read_from_stream a id ≡ (b, message) → LeavesTheOthers a id b
reads_leave_the_others a b id message e = leaves_if a b id message (is_retiring a.resets id) refl e
