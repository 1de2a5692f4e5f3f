-- Messages that were read stand at indexes of their own among those that were written.
use Rattle.std.proofs.Common.{◌≡◌, refl, sym, ap, ◌∙◌, subst, ℕ, zero, suc, ◌<◌, arith, Bool, true, false, eqb}
use Rattle.std.proofs.Common.{if◌then◌else◌, List, [], ◌∷◌, ◌++◌, length, get_or, map, Option, Some, None}
use Rattle.std.specs.Prelude.{slice_get, ⊤}
use Rattle.std.proofs.lemmas.List.{append-nil, map-append}
use Rattle.sctp_wire_types.specs.declared.ids.PayloadProtocolIdentifier.{PayloadProtocolIdentifier}
use Rattle.sctp_wire_types.specs.declared.ids.PayloadProtocolIdentifier.TheVariants as kinds
use Rattle.sctp_wire_types.specs.Ids.{identifier_of, number_of}
use Rattle.sctp_receive_queues.specs.Messages.{ReceivedMessage}
use Rattle.sctp_streams.specs.Stream.{StreamView}
use Rattle.sctp_streams.specs.Streams.{stream_at}
use Rattle.sctp_model.specs.Messages.{Message, Plan, no_message}
use Rattle.sctp_model.specs.Reassembly.{Got}
use Rattle.sctp_model.specs.Safe.{Letter, Names, Tells, letter_read}
use Rattle.sctp_reassembly.specs.Stands.{IsReadAs, letter_received}
use Rattle.sctp_assoc.specs.Calls.{first_filled}
use Rattle.sctp_assoc.specs.Shown.{Shown}
use Rattle.sctp_sides.proofs.Proved.{accepted_writes_fit}
use Rattle.sctp_assoc.specs.declared.call.Reply.{Reply}
use Rattle.sctp_assoc.specs.declared.call.Reply.TheVariants as replies
use Rattle.sctp_steps.specs.declared.step.Side2.{Side2}
use Rattle.sctp_steps.specs.declared.step.Side2.TheVariants as sides
use Rattle.sctp_steps.specs.declared.step.Step.{Step}
use Rattle.sctp_steps.specs.declared.step.Step.TheVariants as steps
use Rattle.sctp_pair.specs.Callers.{AreAt, IsNamed, IsAsWritten, WrittenMessage, message_accepted, messages_of}
use Rattle.sctp_steps.specs.Ends.{Ends}
use Rattle.sctp_assoc.specs.Replies.{Writes}
use Rattle.sctp_steps.specs.Steps.{AtSide, Steps, writing_of}
use Rattle.sctp_pair.specs.World.{World, accepted_at, accepted_of, messages_on}
use Rattle.sctp_pair.proofs.AcceptedAndRead.{writes}
use Rattle.sctp_pair.proofs.WriteCall.{first_none}

-- a payload type of this number is the one that is named, if one is
abbrev pub IsNumbered : Option PayloadProtocolIdentifier → ℕ → Type 0
IsNumbered None number = ⊤
IsNumbered (Some named) number = number ≡ number_of named

-- The message that was accepted is the one that the step told.
pub record IsTold (m : Message) (w : WrittenMessage) : Type 0 where
  pub bytes : m.bytes ≡ w.bytes
  pub payload_type : IsNumbered w.named m.payload_type

abbrev pub AreTold : List Message → List WrittenMessage → Type 0
AreTold [] [] = ⊤
AreTold (m ∷ ms) (w ∷ ws) = IsTold m w × AreTold ms ws
AreTold [] (w ∷ ws) = ⊥
AreTold (m ∷ ms) [] = ⊥

pub told_join : (ms : List Message) (ws : List WrittenMessage) (more : List Message) (others : List WrittenMessage)
    → AreTold ms ws → AreTold more others → AreTold (ms ++ more) (ws ++ others)
told_join [] [] more others h g = g
told_join (m ∷ ms) (w ∷ ws) more others h g = (h.0, told_join ms ws more others h.1 g)
told_join [] (w ∷ ws) more others h g = absurd h
told_join (m ∷ ms) [] more others h g = absurd h

-- What a step accepts is what it tells

told_on : (t : StreamView) (named : Option PayloadProtocolIdentifier) (bytes : List ℕ)
    → AreTold (messages_on (Some t) named bytes) (record { named = named; bytes = bytes } ∷ [])
told_on t None bytes = (record { bytes = refl; payload_type = tt }, tt)
told_on t (Some kind) bytes = (record { bytes = refl; payload_type = refl }, tt)

told_live : (a b : Shown) (id n : ℕ) (named : Option PayloadProtocolIdentifier) (bytes : List ℕ)
    → Writes a id named bytes (replies.Wrote n) b
    → AreTold (messages_on (stream_at a.streams id) named bytes) (record { named = named; bytes = bytes } ∷ [])
told_live a b id n named bytes h =
    let can = accepted_writes_fit a id (length bytes) (first_none _ _ h.0) in
    subst (λ (o : Option StreamView).
    AreTold (messages_on o named bytes) (record { named = named; bytes = bytes } ∷ []))
    (sym can.live.there) (told_on can.live.stream named bytes)

told_if : (c : Bool) (ms : List Message) (w : WrittenMessage) → AreTold ms (w ∷ [])
    → AreTold (if c then ms else []) (if c then w ∷ [] else [])
told_if true ms w h = h
told_if false ms w h = tt

-- A step of the pair of the world w leads to q; s is a stream.
module _ (s : ℕ) (w : World) (q : Ends) where
  told_at : (side x : Side2) (id n : ℕ) (named : Option PayloadProtocolIdentifier) (bytes : List ℕ)
      → AtSide side w.ends (λ a b. Writes a id named bytes (replies.Wrote n) b) q
      → AreTold (accepted_of (writes side id named bytes) (replies.Wrote n) x s w)
      (message_accepted (writes side id named bytes) (replies.Wrote n) x s)
  told_at sides.A sides.A id n named bytes h =
      told_if (eqb id s) (messages_on (stream_at w.ends.a.streams id) named bytes)
      (record { named = named; bytes = bytes }) (told_live w.ends.a q.a id n named bytes h.0)
  told_at sides.A sides.B id n named bytes h = tt
  told_at sides.B sides.A id n named bytes h = tt
  told_at sides.B sides.B id n named bytes h =
      told_if (eqb id s) (messages_on (stream_at w.ends.b.streams id) named bytes)
      (record { named = named; bytes = bytes }) (told_live w.ends.b q.b id n named bytes h.0)

  pub told_accepted : (a : Step) (r : Reply) (x : Side2) → Steps a w.ends r q
      → AreTold (accepted_at a r x s w) (message_accepted (writing_of a) r x s)
  told_accepted (steps.Write side id bytes) (replies.Wrote n) x h = told_at side x id n None bytes h
  told_accepted (steps.WriteWithPpi side id bytes kind) (replies.Wrote n) x h = told_at side x id n (Some kind) bytes h
  told_accepted (steps.WriteSctp side id bytes kind) (replies.Wrote n) x h = told_at side x id n (Some kind) bytes h
  told_accepted (steps.WriteChunk side id bytes) (replies.Wrote n) x h = told_at side x id n None bytes h
  told_accepted (steps.WriteChunks side id chunks) (replies.Wrote n) x h =
      told_at side x id n None (first_filled chunks.items) h
  told_accepted a r x h = tt

-- What a read answers comes behind what was read before

pub letters_grow : (m : Option ReceivedMessage) (before after : List Got) → IsReadAs m before after
    → map letter_read after ≡ map letter_read before ++ map letter_received (messages_of m)
letters_grow None before after e = ap (map letter_read) e ∙ sym (append-nil (map letter_read before))
letters_grow (Some m) before after (g, e, l) =
    ap (map letter_read) e ∙ map-append letter_read before (g ∷ [])
    ∙ ap (λ z. map letter_read before ++ z ∷ []) (sym l)

-- Each message that was read has its index

same_kind : (kind : PayloadProtocolIdentifier) → identifier_of (number_of kind) ≡ kind
same_kind kinds.Dcep = refl
same_kind kinds.String = refl
same_kind kinds.Binary = refl
same_kind kinds.StringEmpty = refl
same_kind kinds.BinaryEmpty = refl
same_kind kinds.Unknown = refl

pub named_of : (named : Option PayloadProtocolIdentifier) (kind : PayloadProtocolIdentifier) (number : ℕ)
    → number_of kind ≡ number → IsNumbered named number → IsNamed named kind
named_of None kind number e h = tt
named_of (Some named) kind number e h = sym (same_kind kind) ∙ ap identifier_of (e ∙ h) ∙ same_kind named

pub told_index : (ms : List Message) (ws : List WrittenMessage) (i : ℕ) → AreTold ms ws → i < length ms
    → (w : WrittenMessage) × (slice_get ws i ≡ Some w) × IsTold (get_or ms i no_message) w
told_index [] ws i h b = absurd (omega arith)
told_index (m ∷ ms) [] i h b = absurd h
told_index (m ∷ ms) (w ∷ ws) zero h b = (w, refl, h.0)
told_index (m ∷ ms) (w ∷ ws) (suc i) h b = told_index ms ws i h.1 (omega arith)

pub at_indexes : (p : Plan) (taken : List ℕ) (s : ℕ) (gs : List Got) (numbers : List ℕ) (ms : List ReceivedMessage)
    (ws : List WrittenMessage) → Names p taken s gs numbers → map letter_read gs ≡ map letter_received ms
    → AreTold (p.accepted s) ws → AreAt ms numbers ws
at_indexes p taken s [] [] [] ws h e told = tt
at_indexes p taken s [] [] (m ∷ ms) ws h e told = absurd (cc)
at_indexes p taken s [] (i ∷ is) ms ws h e told = absurd h
at_indexes p taken s (g ∷ gs) [] ms ws h e told = absurd h
at_indexes p taken s (g ∷ gs) (i ∷ is) [] ws h e told = absurd (cc)
at_indexes p taken s (g ∷ gs) (i ∷ is) (m ∷ ms) ws h e told =
    let head : letter_read g ≡ letter_received m = cc in
    let tail : map letter_read gs ≡ map letter_received ms = cc in
    let tells : Tells p taken s g i = h.0 in
    let at = told_index (p.accepted s) ws i told tells.whole.accepted in
    let same : IsAsWritten m at.0 = record {
      bytes = ap (λ (l : Letter). l.bytes) (sym head) ∙ tells.bytes ∙ at.2.bytes;
      payload_type = named_of at.0.named m.payload_type _
          (ap (λ (l : Letter). l.payload_type) (sym head) ∙ tells.payload_type) at.2.payload_type;
    } in
    ((at.0, at.1, same), at_indexes p taken s gs is ms ws h.1 tail told)
