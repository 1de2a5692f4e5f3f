-- A write that an association accepts: the direction accepts that message behind those accepted before.
use Rattle.std.proofs.Common.{◌≡◌, refl, sym, ap, ◌∙◌, subst, inl, inr, ℕ, Bool, ◌<◌, true, if◌then◌else◌, List, []}
use Rattle.std.proofs.Common.{◌∷◌}
use Rattle.std.proofs.Common.{◌++◌, length, Option, Some, None, is_some}
use Rattle.std.specs.Prelude.{◌==◌, not, slice_get}
use Rattle.std.proofs.lemmas.Bool.{true≢false}
use Rattle.sctp_wire_types.specs.declared.error.Error.{Error}
use Rattle.sctp_wire_types.specs.declared.ids.PayloadProtocolIdentifier.{PayloadProtocolIdentifier}
use Rattle.sctp_wire_types.specs.declared.ids.PayloadProtocolIdentifier.TheVariants as kinds
use Rattle.sctp_streams.specs.declared.halves.ReliabilityParams.{ReliabilityParams}
use Rattle.sctp_streams.specs.Stream.{StreamView, ordered_and_reliable, params_for}
use Rattle.sctp_streams.specs.Streams.{stream_at}
use Rattle.sctp_model.specs.Messages.{Message}
use Rattle.sctp_model.specs.Packets.{Sack, mem}
use Rattle.sctp_model.specs.Machine.{Direction, Event, Receiver, happens}
use Rattle.sctp_fit.specs.Outgoing.{policy_of}
use Rattle.sctp_fit.specs.Writes.{message_on}
use Rattle.sctp_directions.specs.Acts.{Act, type_on}
use Rattle.sctp_directions.proofs.Proved.{only_beginnings_assign, own_acts_leave_what_comes, senders_events_are_sent}
use Rattle.sctp_directions.proofs.Proved.{senders_events_keep_the_invariant, its_writes_are_accepted}
use Rattle.sctp_directions.proofs.Proved.{writes_are_accepted_last}
use Rattle.sctp_assoc.specs.Leads.{parts}
use Rattle.sctp_assoc.specs.Calls.{first_filled, first_refusal, written}
use Rattle.sctp_assoc.specs.Shown.{Shown}
use Rattle.sctp_sides.specs.SideLaws.{WasWritable}
use Rattle.sctp_sides.proofs.Proved.{accepted_writes_fit, write_leads_on, writes_keep_the_status}
use Rattle.sctp_sides.proofs.Proved.{the_same_status_is_the_same_stage, writes_reset_no_more}
use Rattle.sctp_assoc.specs.declared.call.Reply.{Reply}
use Rattle.sctp_assoc.specs.declared.call.Reply.TheVariants as replies
use Rattle.sctp_assoc.specs.Replies.{Writes, WritesFirst}
use Rattle.sctp_pair.specs.World.{IsOrderedAndReliable, messages_on}
use Rattle.sctp_pair.proofs.BetweenDirections.{orderly_acts_keep_order}
use Rattle.sctp_pair.proofs.BetweenDirections.{Does, Faces, None_brought, OpenAt, Settles, Surroundings}
use Rattle.sctp_pair.proofs.BetweenDirections.{does_by_goes, goes_nowhere, none_ends, nothing_read, other_by_sender}
use Rattle.sctp_pair.proofs.BetweenDirections.{same_spans_go_on, sound_after}
use Rattle.sctp_pair.proofs.QuietCalls.{by_working, open_on, same_settles, still_in_order, still_readable}
use Rattle.sctp_pair.proofs.HandshakeStages.{at_same, stays_put}

-- what a write with this reply adds to what was accepted on stream s
abbrev pub written_by : Reply → Shown → ℕ → Option PayloadProtocolIdentifier → List ℕ → ℕ → List Message
written_by (replies.Wrote n) a id named bytes s =
    if id == s then messages_on (stream_at a.streams id) named bytes else []
written_by r a id named bytes s = []

-- a stream that is kept in order sends each message so, under whatever payload type
params_in_order : (t : StreamView) (kind : PayloadProtocolIdentifier) → t.params ≡ ordered_and_reliable
    → params_for t kind ≡ ordered_and_reliable
params_in_order t kinds.Dcep kept = refl
params_in_order t kinds.String kept = kept
params_in_order t kinds.Binary kept = kept
params_in_order t kinds.StringEmpty kept = kept
params_in_order t kinds.BinaryEmpty kept = kept
params_in_order t kinds.Unknown kept = kept

pub message_in_order : (t : StreamView) (kind : PayloadProtocolIdentifier) (bytes : List ℕ)
    → t.params ≡ ordered_and_reliable → IsOrderedAndReliable (message_on t kind bytes)
message_in_order t kind bytes kept = record {
  ordered = ap (λ (p : ReliabilityParams). not p.unordered) (params_in_order t kind kept);
  reliable = ap (λ (p : ReliabilityParams). policy_of p.policy) (params_in_order t kind kept);
}

-- where a call of a stream isn't refused it isn't for a reason of its own
pub first_none : (x y : Option Error) → first_refusal x y ≡ None → y ≡ None
first_none None y e = e
first_none (Some fault) y e = absurd (true≢false (ap is_some e))

write_does : (a : Shown) (id n : ℕ) (named : Option PayloadProtocolIdentifier) (bytes : List ℕ) (t : StreamView)
    (w : Direction) → stream_at a.streams id ≡ Some t → 0 < length bytes
    → Does (written_by (replies.Wrote n) a id named bytes) nothing_read None_brought w
    (happens w (Event.Write id (message_on t (type_on t named) bytes)))
write_does a id n named bytes t w there some =
    let kind : PayloadProtocolIdentifier = type_on t named in
    let sent = senders_events_are_sent w (Event.Write id (message_on t kind bytes)) tt in
    record {
      events = Event.Write id (message_on t kind bytes) ∷ [];
      is = refl;
      accepted = λ s. writes_are_accepted_last w id s t kind bytes some
          ∙ ap (λ o. w.sender.plan.accepted s ++ (if id == s then messages_on o named bytes else [])) (sym there);
      size = sent.0.size;
      reads = λ s. ap (λ f. f s) sent.0.reads;
      taken = λ o m. inl (subst (λ (r : Receiver). mem o r.taken ≡ true) sent.0.receiver m);
      passed = inl (ap (λ (r : Receiver). r.passed) sent.0.receiver);
      datas = sent.0.datas;
      forwards = sent.0.forwards;
      sacks = λ k x e. subst (λ (ks : List Sack). slice_get ks k ≡ Some x) (sym sent.0.sacks) e;
      spans = same_spans_go_on w (happens w (Event.Write id (message_on t kind bytes))) sent.0.over;
      ends =
          none_ends w (happens w (Event.Write id (message_on t kind bytes)))
          (λ s. ap (λ (f : ℕ → Bool). f s) sent.0.over);
      reach_on = sent.1;
    }

written_settles : {x : Surroundings} {a : Shown} (id n : ℕ) (named : Option PayloadProtocolIdentifier)
    (bytes : List ℕ) → WasWritable a id (length bytes) → Faces x a → OpenAt x a
    → Settles x (written a id named bytes) (written_by (replies.Wrote n) a id named bytes) nothing_read None_brought
written_settles {x} {a} id n named bytes can f s =
    let t : StreamView = can.live.stream in
    let there = can.live.there in
    let e : Event = Event.Write id (message_on t (type_on t named) bytes) in
    let out2 : Direction = happens x.out e in
    let sent = senders_events_are_sent x.out e tt in
    let spans = same_spans_go_on x.out out2 sent.0.over in
    let m = write_leads_on a (written a id named bytes) id named bytes refl s.past s.binds in
    let stands : OpenAt (record x { out = out2 }) (written a id named bytes) =
    open_on x (Act.Wrote id named bytes ∷ []) s record {
      past2 = m.0;
      leads = m.1;
      nobody = (tt, tt);
      in_order =
          λ u within tight. still_in_order x (Act.Wrote id named bytes ∷ []) s
          (orderly_acts_keep_order x.loose (Act.Wrote id named bytes) (λ z n. n), tt) u
          (spans.within u within) tight;
      reads_open = still_readable x (Act.Wrote id named bytes ∷ []) s m.1.can ((λ z n. n), tt);
      same = the_same_status_is_the_same_stage a (written a id named bytes) (writes_keep_the_status a id named bytes);
      resets = writes_reset_no_more a id named bytes x.coming.over s.resets;
      size = sent.0.size;
      outgoing =
          its_writes_are_accepted (parts a s.past) id named bytes t x.out there can.some f.sound_out.invariant
          f.sound_out.counts s.between.outgoing;
      incoming =
          own_acts_leave_what_comes (Act.Wrote id named bytes) (parts a s.past) x.coming tt s.between.incoming;
    } in
    record {
      out2 = out2;
      coming2 = x.coming;
      here2 = x.here;
      does_out = write_does a id n named bytes t x.out there can.some;
      does_coming = does_by_goes None_brought x.coming x.coming (goes_nowhere None_brought x.coming);
      sound_out =
          sound_after e (senders_events_keep_the_invariant x.out e tt tt f.sound_out.invariant) f.sound_out;
      sound_coming = f.sound_coming;
      both = λ u. ap (λ (g : ℕ → Bool). g u) sent.0.over ∙ f.both u;
      stands = inl stands;
      other = other_by_sender x e tt f.sound_out.invariant f.other;
      goes = stays_put x.here;
      at = at_same a (written a id named bytes) x.here
          (the_same_status_is_the_same_stage a (written a id named bytes) (writes_keep_the_status a id named bytes))
          f.at;
      meets = f.meets;
      no_more = inr (only_beginnings_assign x.out e tt (λ n. n));
      coming_still = refl;
    }

-- A write: the message that an accepted one brings is the next of its stream. A closed association refuses it.
pub writes_settle : {x : Surroundings} {a b : Shown} (id : ℕ) (named : Option PayloadProtocolIdentifier)
    (bytes : List ℕ) (r : Reply) → Writes a id named bytes r b → Faces x a
    → Settles x b (written_by r a id named bytes) nothing_read None_brought
writes_settle {x} {a} id named bytes (replies.Wrote n) h f =
    let can = accepted_writes_fit a id (length bytes) (first_none _ _ h.0) in
    subst (λ z. Settles x z (written_by (replies.Wrote n) a id named bytes) nothing_read None_brought) (sym h.2)
    (by_working
    (Settles x (written a id named bytes) (written_by (replies.Wrote n) a id named bytes) nothing_read None_brought)
    can.live.working f
    (λ s. written_settles id n named bytes can f s)
    (λ s. absurd (true≢false (sym can.established ∙ s.unestablished))))
writes_settle id named bytes (replies.Refused n) h f = same_settles h.1 f
writes_settle id named bytes r h f = absurd h

-- A write of the first buffer that has bytes.
pub first_writes_settle : {x : Surroundings} {a b : Shown} (id : ℕ) (buffers : List (List ℕ)) (r : Reply)
    → WritesFirst a id buffers r b → Faces x a
    → Settles x b (written_by r a id None (first_filled buffers)) nothing_read None_brought
first_writes_settle id buffers (replies.Wrote n) h f =
    writes_settle id None (first_filled buffers) (replies.Wrote n) h f
first_writes_settle id buffers (replies.Refused n) h f = same_settles h.1 f
first_writes_settle id buffers r h f = absurd h
