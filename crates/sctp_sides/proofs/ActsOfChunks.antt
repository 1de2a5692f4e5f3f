-- Of which acts chunks, polls and timeouts are made. (Chunks by which spans may end once more are in ActsPast.)
use Rattle.std.proofs.Common.{◌≡◌, refl, sym, ap, ◌∙◌, subst, ◌⊎◌, ⊎_elim, inl, inr, ℕ, zero, suc, ◌<◌, ◌≤◌, ◌+◌, ◌-◌}
use Rattle.std.proofs.Common.{◌%◌, ◌^◌, arith, Bool, true, false, eqb, ltb, ◌&&◌, not, if◌then◌else◌, List, []}
use Rattle.std.proofs.Common.{◌∷◌, ◌++◌, find, length, Option, Some, None, Result, Ok, Err}
use Rattle.std.specs.List.{AllByRecursion, position_or_len}
use Rattle.std.proofs.lemmas.List.{append_assoc}
use Rattle.std.proofs.lemmas.Bool.{cond-true, eq-eqb, false≢true, le-leb, le-ltb, lt-ltb}
use Rattle.sctp_wire_types.specs.declared.chunk.Chunk.{Chunk}
use Rattle.sctp_wire_types.specs.declared.chunk.Chunk.TheVariants as chunks
use Rattle.sctp_wire_types.specs.declared.chunk.ChunkForwardTsn.{ChunkForwardTsn}
use Rattle.sctp_wire_types.specs.declared.chunk.ChunkInit.{ChunkInit}
use Rattle.sctp_wire_types.specs.declared.packet.CommonHeader.{CommonHeader}
use Rattle.sctp_wire_types.specs.declared.chunk.ChunkSelectiveAck.{ChunkSelectiveAck}
use Rattle.sctp_wire_types.specs.declared.chunk.GapAckBlock.{GapAckBlock}
use Rattle.sctp_wire_types.specs.declared.chunk.SkippedStream.{SkippedStream}
use Rattle.sctp_received.specs.Received.{is_named}
use Rattle.sctp_wire_types.specs.declared.error.Error.{Error}
use Rattle.sctp_wire_types.specs.Checks.{checked_chunk}
use Rattle.sctp_serial.specs.Serial.{tsn_gt, tsn_lt, tsn_past, tsn}
use Rattle.sctp_parts.specs.declared.timer.Timer.TheVariants as names
use Rattle.sctp_parts.specs.Timers.{expiry_of}
use Rattle.sctp_outbound_queue.specs.declared.message.InFlight.{InFlight}
use Rattle.sctp_outbound_queue.specs.declared.message.Reports.{Reports}
use Rattle.sctp_outbound_queue.specs.Waiting.{Waiting}
use Rattle.sctp_outbound_queue.specs.Outbound.{pieces_waiting}
use Rattle.sctp_streams.specs.Streams.{StreamMap}
use Rattle.sctp_inbound.specs.declared.receiver.AckTrigger.TheVariants as triggers
use Rattle.sctp_inbound.specs.Handshake.{comes_back}
use Rattle.sctp_outbound.specs.declared.sender.SackOutcome.{SackOutcome}
use Rattle.sctp_outbound.specs.declared.sender.SackOutcome.TheVariants as outcomes
use Rattle.sctp_outbound.specs.declared.sender.Sender.{Sender}
use Rattle.sctp_outbound.specs.Sender.{both_windows, can_send_next, cumulative_tsn_ack_point_of}
use Rattle.sctp_outbound.specs.BlockOffsets.{is_in_flight_at, name_unsent}
use Rattle.sctp_outbound.proofs.BlockOffsets.{names_sets}
use Rattle.sctp_outbound.specs.Sender.{names_unsent, tsns_up_to, resends_alone, sack_outcome, sent_one}
use Rattle.sctp_model.proofs.Lists.{all_join}
use Rattle.sctp_directions.specs.Acts.{Act, CanAll, History, IsAhead, Parts, done}
use Rattle.sctp_assoc.specs.Leads.{Binds, parts}
use Rattle.sctp_fit.specs.Incoming.{tsn_before}
use Rattle.sctp_assoc.specs.Calls.{exchanges_data, is_beginning, is_cookie_wait, sends_data}
use Rattle.sctp_assoc.specs.Gather.{both_of, fast_polled, late_abandoned, late_dropped, marks_polled, spent_abandoned}
use Rattle.sctp_assoc.specs.Happened.{acts_of_abandoning, acts_of_dropping, acts_of_drops, acts_of_expiry}
use Rattle.sctp_assoc.specs.Happened.{acts_of_fast_poll, acts_of_forward, acts_of_forwarding, acts_of_giving_all_up}
use Rattle.sctp_assoc.specs.Happened.{acts_of_giving_up, acts_of_late, acts_of_marks_poll, acts_of_spent, acts_of_tail}
use Rattle.sctp_assoc.specs.Happened.{acts_of_unsent, forwards_of_poll}
use Rattle.sctp_assoc.specs.Happened.{acts_of_ack, acts_of_checked, acts_of_chunk, acts_of_data_poll}
use Rattle.sctp_assoc.specs.Happened.{acts_of_missing}
use Rattle.sctp_outbound.specs.Sacks.{reports_of}
use Rattle.sctp_outbound.specs.Sender.{asks_again, asks_at_once, fast_room}
use Rattle.sctp_outbound.specs.declared.abandonment.Reason.{Reason}
use Rattle.sctp_outbound.specs.declared.abandonment.Reason.TheVariants as reasons
use Rattle.sctp_outbound.specs.Abandonment.{abandoned_if, first_dropped, has_late_tail, late_given_up, next_given_up}
use Rattle.sctp_outbound.specs.Abandonment.{with_started}
use Rattle.sctp_outbound_queue.specs.Message.{is_expired_unsent, picks, room_taken}
use Rattle.sctp_outbound_queue.specs.declared.message.Retransmission.{Retransmission}
use Rattle.sctp_outbound_queue.specs.declared.message.Retransmission.TheVariants as causes
use Rattle.sctp_assoc.specs.Happened.{acts_of_marks, acts_of_new, acts_of_outcome, acts_of_resending, acts_of_sending}
use Rattle.sctp_assoc.specs.Happened.{first_again, first_sent, known_unless, marks_if}
use Rattle.sctp_assoc.specs.Handshake.{keeps_peer}
use Rattle.sctp_assoc.specs.Probes.{is_probing, opens_window}
use Rattle.sctp_assoc.specs.Timeouts.{after_shutdown_timer}
use Rattle.sctp_sides.specs.SideLaws.{GivesNew, GivesUpOrAgain}
use Rattle.sctp_sides.specs.SideLaws.{GreetingsMakeThePeerKnown, IsOpened, IsOther, IsPeerKnown}
use Rattle.sctp_sides.specs.SideLaws.{OnlyForwardsAheadPassOver, UnusedForwardsDoNothing}
use Rattle.sctp_sides.specs.SideLaws.{OtherChunksDoNothing, OtherSacksDoNothing, PollsGiveAndReport, SacksAcknowledge}
use Rattle.sctp_sides.specs.SideLaws.{TakenSacksAcknowledge, TimeoutsMarkAtMost}
use Rattle.sctp_assoc.specs.Shown.{Shown, uses_forward_tsn}
use Rattle.sctp_assoc.proofs.CallsLeadOn.{chunk_leads}
use Rattle.sctp_sides.proofs.ForwardKinds.{with_use}

-- SACK

outcome_acts : (o : SackOutcome) (n : ℕ) (blocks : List GapAckBlock) (missing : Reports) (opens : Bool)
    → (acts_of_outcome o n blocks missing opens ≡ [])
    ⊎ (acts_of_outcome o n blocks missing opens ≡ Act.Acknowledged n blocks missing ∷ marks_if opens)
outcome_acts outcomes.Older n blocks missing opens = inl refl
outcome_acts outcomes.NotInFlight n blocks missing opens = inl refl
outcome_acts outcomes.NamesTheUnsent n blocks missing opens = inl refl
outcome_acts outcomes.Taken n blocks missing opens = inr refl

sack_if : (sends : Bool) (o : SackOutcome) (n : ℕ) (blocks : List GapAckBlock) (missing : Reports) (opens : Bool)
    → ((if sends then acts_of_outcome o n blocks missing opens else []) ≡ [])
    ⊎ ((if sends then acts_of_outcome o n blocks missing opens else [])
    ≡ Act.Acknowledged n blocks missing ∷ marks_if opens)
sack_if true o n blocks missing opens = outcome_acts o n blocks missing opens
sack_if false o n blocks missing opens = inl refl

pub checked_sack : (r : Result (Unit {0}) Error) (a : Shown) (header : CommonHeader) (k : ChunkSelectiveAck)
    → (acts_of_checked r a header (chunks.SelectiveAck k) ≡ [])
    ⊎ (acts_of_checked r a header (chunks.SelectiveAck k)
    ≡ Act.Acknowledged (tsns_up_to a.sender k.cumulative_tsn_ack) k.gap_ack_blocks
    (reports_of a.sender k.cumulative_tsn_ack k.gap_ack_blocks)
    ∷ marks_if (opens_window (is_probing a.profile a.sender) k.advertised_receiver_window_credit))
checked_sack (Err fault) a header k = inl refl
checked_sack (Ok done) a header k =
    sack_if (sends_data a.state) (sack_outcome a.sender k.cumulative_tsn_ack k.gap_ack_blocks)
    (tsns_up_to a.sender k.cumulative_tsn_ack) k.gap_ack_blocks
    (reports_of a.sender k.cumulative_tsn_ack k.gap_ack_blocks)
    (opens_window (is_probing a.profile a.sender) k.advertised_receiver_window_credit)

-- a cumulative TSN ack that is n past the TSN before the first one in flight
pub acked_back : (own base t : ℕ)
    → t % 2 ^ 32 ≡ tsn_before (tsn own (base + tsn_past ((tsn own base + 2 ^ 32 - 1) % 2 ^ 32) t))
acked_back own base t = omega arith

pub sacks_acknowledge : SacksAcknowledge
sacks_acknowledge a h header sack binds =
    let acts = acts_of_chunk a header (chunks.SelectiveAck sack) in
    let t = sack.cumulative_tsn_ack in
    let n = tsns_up_to a.sender t in
    ⊎_elim
    (λ (e : acts_of_chunk a header (chunks.SelectiveAck sack) ≡ []). inl e)
    (λ (e : acts_of_chunk a header (chunks.SelectiveAck sack)
    ≡ Act.Acknowledged (tsns_up_to a.sender sack.cumulative_tsn_ack) sack.gap_ack_blocks
    (reports_of a.sender sack.cumulative_tsn_ack sack.gap_ack_blocks)
    ∷ marks_if (opens_window (is_probing a.profile a.sender) sack.advertised_receiver_window_credit)).
    let leads = chunk_leads header (chunks.SelectiveAck sack) a triggers.None 0 h binds in
    let can = subst (λ zs. CanAll zs (parts a h)) e leads.1.can in
    inr (record {
      count = tsns_up_to a.sender sack.cumulative_tsn_ack;
      missing = reports_of a.sender sack.cumulative_tsn_ack sack.gap_ack_blocks;
      marked = opens_window (is_probing a.profile a.sender) sack.advertised_receiver_window_credit;
      are = e;
      within = can.0;
      at =
          subst (λ (f : ℕ). sack.cumulative_tsn_ack % 2 ^ 32 ≡ tsn_before
          (tsn h.own (h.base + tsn_past ((f + 2 ^ 32 - 1) % 2 ^ 32) sack.cumulative_tsn_ack))) (sym binds.first)
          (acked_back h.own h.base sack.cumulative_tsn_ack);
    }))
    (checked_sack (checked_chunk (chunks.SelectiveAck sack)) a header sack)

-- a SACK that names what was sent is taken

pub acked_at : (a : Shown) (h : History) → Binds a h
    → cumulative_tsn_ack_point_of a.sender ≡ tsn_before (tsn h.own h.base)
acked_at a h binds = ap (λ (t : ℕ). (t + 2 ^ 32 - 1) % 2 ^ 32) binds.first

named_past : (own base n : ℕ) → n < 2 ^ 31 → tsn_past (tsn_before (tsn own base)) (tsn_before (tsn own (base + n))) ≡ n
named_past own base n near = omega (arith, near)

named_first : (own base : ℕ) → tsn_before (tsn own base) ≡ tsn_before (tsn own (base + 0))
named_first own base = omega arith

same_is_not_behind : (same past : Bool) → same ≡ true → (not same && not past) ≡ false
same_is_not_behind same past e = rw e refl

ahead_is_not_behind : (same some near : Bool) → some ≡ true → near ≡ true → (not same && not (some && near)) ≡ false
ahead_is_not_behind true some near e f = refl
ahead_is_not_behind false some near e f = rw (e, f) refl

not_behind : (acked t n : ℕ) → tsn_past acked t ≡ n → n < 2 ^ 31 → (n ≡ 0 → acked ≡ t) → tsn_gt acked t ≡ false
not_behind acked t zero e near same = same_is_not_behind (eqb acked t) (tsn_lt acked t) (eq-eqb acked t (same refl))
not_behind acked t (suc n) e near same =
    ahead_is_not_behind (eqb acked t) (ltb 0 (tsn_past acked t)) (ltb (tsn_past acked t) (2 ^ 31))
    (lt-ltb 0 (tsn_past acked t) (subst (λ (p : ℕ). 0 < p) (sym e) (omega arith)))
    (lt-ltb (tsn_past acked t) (2 ^ 31) (subst (λ (p : ℕ). p < 2 ^ 31) (sym e) near))

abbrev outcome_of : Bool → Bool → Bool → SackOutcome
outcome_of older beyond unsent =
    if older then outcomes.Older else
    if beyond then outcomes.NotInFlight else
    if unsent then outcomes.NamesTheUnsent else outcomes.Taken

outcome_taken : (older beyond unsent : Bool) → older ≡ false → beyond ≡ false → unsent ≡ false
    → outcome_of older beyond unsent ≡ outcomes.Taken
outcome_taken older beyond unsent e f g = rw (e, f, g) refl

taken_acts : (sends : Bool) (o : SackOutcome) (n count : ℕ) (blocks : List GapAckBlock) (missing : Reports)
    (opens : Bool) → sends ≡ true → o ≡ outcomes.Taken → n ≡ count
    → (if sends then acts_of_outcome o n blocks missing opens else [])
    ≡ Act.Acknowledged count blocks missing ∷ marks_if opens
taken_acts sends o n count blocks missing opens e f g = rw (e, f, g) refl

-- where each offset that is named is in flight, none is not
none_unsent : (found : Bool) (n count flown : ℕ) (blocks : List GapAckBlock) → n ≡ count
    → name_unsent n flown blocks ≡ found
    → ((offset : ℕ) → is_named offset blocks ≡ true → (0 < count + offset) × (count + offset ≤ flown)) → found ≡ false
none_unsent false n count flown blocks e f all = refl
none_unsent true n count flown blocks e f all =
    let some = (names_sets n flown blocks).0 f in
    let sent = all some.offset some.named in
    absurd (false≢true (sym some.unsent ∙ in_flight n count some.offset flown e sent.0 sent.1))
  where
    in_flight : (n count o flown : ℕ) → n ≡ count → 0 < count + o → count + o ≤ flown
        → is_in_flight_at n flown o ≡ true
    in_flight n count o flown e l m = rw (e, lt-ltb 0 (count + o) l, le-leb (count + o) flown m) refl

pub taken_sacks_acknowledge : TakenSacksAcknowledge
taken_sacks_acknowledge a h header sack count sends binds names =
    let acked = cumulative_tsn_ack_point_of a.sender in
    let t = sack.cumulative_tsn_ack in
    let at : cumulative_tsn_ack_point_of a.sender ≡ tsn_before (tsn h.own h.base) = acked_at a h binds in
    let past : tsn_past (cumulative_tsn_ack_point_of a.sender) sack.cumulative_tsn_ack ≡ count =
    ap (λ (z : ℕ). tsn_past z sack.cumulative_tsn_ack) at
    ∙ ap (λ (z : ℕ). tsn_past (tsn_before (tsn h.own h.base)) z) names.at
    ∙ named_past h.own h.base count names.near in
    let first : count ≡ 0 → cumulative_tsn_ack_point_of a.sender ≡ sack.cumulative_tsn_ack =
    λ (none : count ≡ 0). at ∙ named_first h.own h.base ∙ ap (λ (n : ℕ). tsn_before (tsn h.own (h.base + n))) (sym none)
    ∙ sym names.at in
    taken_acts (sends_data a.state) (sack_outcome a.sender t sack.gap_ack_blocks) (tsns_up_to a.sender t) count
    sack.gap_ack_blocks (reports_of a.sender t sack.gap_ack_blocks)
    (opens_window (is_probing a.profile a.sender) sack.advertised_receiver_window_credit) sends
    (outcome_taken (tsn_gt acked t) (ltb (length a.sender.queue.in_flight) (tsns_up_to a.sender t))
    (names_unsent a.sender t sack.gap_ack_blocks)
    (not_behind acked t count past names.near first)
    (le-ltb (length a.sender.queue.in_flight) (tsns_up_to a.sender t)
    (subst (λ (p : ℕ). p ≤ length a.sender.queue.in_flight) (sym past) names.within))
    (none_unsent (names_unsent a.sender t sack.gap_ack_blocks) (tsns_up_to a.sender t) count
    (length a.sender.queue.in_flight) sack.gap_ack_blocks past refl names.named))
    past

other_acts_of_sack : (sends older beyond unsent : Bool) (n : ℕ) (blocks : List GapAckBlock) (missing : Reports)
    (opens : Bool) → (sends ≡ false) ⊎ (older ≡ true)
    → (if sends then acts_of_outcome (outcome_of older beyond unsent) n blocks missing opens else []) ≡ []
other_acts_of_sack false older beyond unsent n blocks missing opens other = refl
other_acts_of_sack true true beyond unsent n blocks missing opens other = refl
other_acts_of_sack true false beyond unsent n blocks missing opens (inl e) = absurd (false≢true (sym e))
other_acts_of_sack true false beyond unsent n blocks missing opens (inr e) = absurd (false≢true e)

pub other_sacks_do_nothing : OtherSacksDoNothing
other_sacks_do_nothing a h header sack binds other =
    let acked = cumulative_tsn_ack_point_of a.sender in
    let t = sack.cumulative_tsn_ack in
    other_acts_of_sack (sends_data a.state) (tsn_gt acked t)
    (ltb (length a.sender.queue.in_flight) (tsns_up_to a.sender t)) (names_unsent a.sender t sack.gap_ack_blocks)
    (tsns_up_to a.sender t) sack.gap_ack_blocks (reports_of a.sender t sack.gap_ack_blocks)
    (opens_window (is_probing a.profile a.sender) sack.advertised_receiver_window_credit)
    (⊎_elim
    (λ (e : sends_data a.state ≡ false). inl e)
    (λ (e : tsn_gt (tsn_before (tsn h.own h.base)) sack.cumulative_tsn_ack ≡ true).
    inr (ap (λ (z : ℕ). tsn_gt z sack.cumulative_tsn_ack) (acked_at a h binds) ∙ e))
    other)

-- INIT and INIT ACK

peer_known_if : (c : Bool) (init : ChunkInit) → IsPeerKnown init (if c then Act.PeerKnown init.initial_tsn ∷ [] else [])
peer_known_if true init = inr refl
peer_known_if false init = inl refl

coming_back_if : (waits back : Bool) (init : ChunkInit)
    → IsPeerKnown init (if waits then (if back then Act.PeerKnown init.initial_tsn ∷ [] else []) else [])
coming_back_if true back init = peer_known_if back init
coming_back_if false back init = inl refl

known_peer_if : (begins keeps : Bool) (init : ChunkInit)
    → IsPeerKnown init (if begins then known_unless keeps init.initial_tsn else [])
known_peer_if true true init = inl refl
known_peer_if true false init = inr refl
known_peer_if false keeps init = inl refl

checked_init : (r : Result (Unit {0}) Error) (a : Shown) (header : CommonHeader) (init : ChunkInit)
    → IsPeerKnown init (acts_of_checked r a header (chunks.Init init))
checked_init (Err fault) a header init = inl refl
checked_init (Ok done) a header init = known_peer_if (is_beginning a.state) (keeps_peer a init) init

checked_init_ack : (r : Result (Unit {0}) Error) (a : Shown) (header : CommonHeader) (init : ChunkInit)
    → IsPeerKnown init (acts_of_checked r a header (chunks.InitAck init))
checked_init_ack (Err fault) a header init = inl refl
checked_init_ack (Ok done) a header init = coming_back_if (is_cookie_wait a.state) (comes_back a.handshake header) init

pub greetings_make_the_peer_known : GreetingsMakeThePeerKnown
greetings_make_the_peer_known a header init = (
  checked_init (checked_chunk (chunks.Init init)) a header init,
  checked_init_ack (checked_chunk (chunks.InitAck init)) a header init,
)

-- FORWARD TSN

-- one passes over only where it is used, and only what lies ahead

unused_acts : (uses : Bool) (a : Shown) (tsn : ℕ) (es : List SkippedStream) → uses ≡ false
    → acts_of_forward (with_use uses a) tsn es ≡ []
unused_acts false a tsn es e = refl
unused_acts true a tsn es e = absurd (false≢true (sym e))

unused_checked : (r : Result (Unit {0}) Error) (a : Shown) (header : CommonHeader) (x : ChunkForwardTsn)
    → uses_forward_tsn a ≡ false → acts_of_checked r a header (chunks.ForwardTsn x) ≡ []
unused_checked (Err fault) a header x e = refl
unused_checked (Ok done) a header x e = unused_acts (uses_forward_tsn a) a x.new_cumulative_tsn x.streams e

pub unused_forwards_do_nothing : UnusedForwardsDoNothing
unused_forwards_do_nothing a header x e = unused_checked (checked_chunk (chunks.ForwardTsn x)) a header x e

-- there is an act
abbrev does_some : List Act → Bool
does_some [] = false
does_some (act ∷ acts) = true

no_act_is_none : (opened : List Act) (act : Act) (behind : List Act) → [] ≡ opened ++ act ∷ behind → ⊥
no_act_is_none [] act behind e = false≢true (ap does_some e)
no_act_is_none (first ∷ opened) act behind e = false≢true (ap does_some e)

used_from : (uses : Bool) (acts opened : List Act) (act : Act) (behind : List Act) → acts ≡ opened ++ act ∷ behind
    → (uses ≡ false → acts ≡ []) → uses ≡ true
used_from true acts opened act behind e none = refl
used_from false acts opened act behind e none = absurd (no_act_is_none opened act behind (sym (none refl) ∙ e))

-- streams that are opened before leave what came as it is
ahead_behind : (tsn : ℕ) (skips : List SkippedStream) (opened behind : List Act) (p : Parts)
    → AllByRecursion IsOpened opened → CanAll (opened ++ Act.PassedOver tsn skips ∷ behind) p → IsAhead p.history tsn
ahead_behind tsn skips [] behind p are (can, cans) = can
ahead_behind tsn skips (Act.Opened id first kind ∷ opened) behind p (is, are) (can, cans) =
    ahead_behind tsn skips opened behind (done (Act.Opened id first kind) p) are cans
ahead_behind tsn skips (act ∷ opened) behind p (is, are) can = absurd is

pub only_forwards_ahead_pass_over : OnlyForwardsAheadPassOver
only_forwards_ahead_pass_over a h header x opened behind binds are e =
    let leads = chunk_leads header (chunks.ForwardTsn x) a triggers.None 0 h binds in
    let can = subst (λ zs. CanAll zs (parts a h)) e leads.1.can in
    record {
      used =
          used_from (uses_forward_tsn a) (acts_of_chunk a header (chunks.ForwardTsn x)) opened
          (Act.PassedOver x.new_cumulative_tsn x.streams) behind e (unused_forwards_do_nothing a header x);
      ahead = ahead_behind x.new_cumulative_tsn x.streams opened behind (parts a h) are can;
    }

-- Any other chunk

other_acts : (r : Result (Unit {0}) Error) (a : Shown) (header : CommonHeader) (c : Chunk) → IsOther c
    → acts_of_checked r a header c ≡ []
other_acts (Err fault) a header c other = refl
other_acts (Ok done) a header (chunks.Data x) other = absurd other
other_acts (Ok done) a header (chunks.SelectiveAck x) other = absurd other
other_acts (Ok done) a header (chunks.Init x) other = absurd other
other_acts (Ok done) a header (chunks.InitAck x) other = absurd other
other_acts (Ok done) a header (chunks.Heartbeat x) other = refl
other_acts (Ok done) a header (chunks.HeartbeatAck x) other = refl
other_acts (Ok done) a header (chunks.Abort x) other = refl
other_acts (Ok done) a header (chunks.Shutdown x) other = refl
other_acts (Ok done) a header chunks.ShutdownAck other = refl
other_acts (Ok done) a header (chunks.Error x) other = refl
other_acts (Ok done) a header (chunks.CookieEcho x) other = refl
other_acts (Ok done) a header chunks.CookieAck other = refl
other_acts (Ok done) a header chunks.ShutdownComplete other = refl
other_acts (Ok done) a header (chunks.Reconfig x) other = absurd other
other_acts (Ok done) a header (chunks.ForwardTsn x) other = absurd other
other_acts (Ok done) a header (chunks.IForwardTsn x) other = absurd other
other_acts (Ok done) a header (chunks.Other kind flags value) other = refl

pub other_chunks_do_nothing : OtherChunksDoNothing
other_chunks_do_nothing a header c other = other_acts (checked_chunk c) a header c other

-- Polls

pub give_if : (Is : Act → Type 0) (c : Bool) (xs ys : List Act) → AllByRecursion Is xs → AllByRecursion Is ys
    → AllByRecursion Is (if c then xs else ys)
give_if Is true xs ys g h = g
give_if Is false xs ys g h = h

-- Acts that give messages up, or give out DATA again, are all of a kind to which these belong.
module _ (Is : Act → Type 0) (up : (index : ℕ) → Is (Act.Abandoned index)) (dropped : (k : ℕ) → Is (Act.Dropped k))
    (again : (at_once : Bool) (by : Retransmission) (index : ℕ) → Is (Act.SentAgain at_once by index)) where
  -- what is given up

  abandoning_gives : (o : Option ℕ) → AllByRecursion Is (acts_of_abandoning o)
  abandoning_gives None = tt
  abandoning_gives (Some index) = (up index, tt)

  giving_up_gives : (n : ℕ) (why : Reason) (all : Sender × StreamMap)
      → AllByRecursion Is (acts_of_giving_up n why all)
  giving_up_gives zero why all = tt
  giving_up_gives (suc n) why all =
      all_join Is (acts_of_abandoning (next_given_up why all.0))
      (acts_of_giving_up n why (abandoned_if (next_given_up why all.0) all))
      (abandoning_gives (next_given_up why all.0))
      (giving_up_gives n why (abandoned_if (next_given_up why all.0) all))

  spent_gives : (by : Retransmission) (a : Shown) → AllByRecursion Is (acts_of_spent by a)
  spent_gives by a =
      give_if Is (uses_forward_tsn a) (acts_of_giving_all_up (reasons.Spent by) (both_of a)) []
      (giving_up_gives (length a.sender.queue.in_flight) (reasons.Spent by) (both_of a)) tt

  dropping_gives : (o : Option Waiting) (index : ℕ) → AllByRecursion Is (acts_of_dropping o index)
  dropping_gives None index = tt
  dropping_gives (Some m) index = (dropped index, tt)

  drops_give : (n now : ℕ) (all : Sender × StreamMap) → AllByRecursion Is (acts_of_drops n now all)
  drops_give zero now all = tt
  drops_give (suc n) now all =
      let o = find (is_expired_unsent now) all.0.queue.pending in
      let index = position_or_len (is_expired_unsent now) all.0.queue.pending in
      all_join Is (acts_of_dropping o index) (acts_of_drops n now (first_dropped now all))
      (dropping_gives o index) (drops_give n now (first_dropped now all))

  pub unsent_gives : (a : Shown) (now : ℕ) → AllByRecursion Is (acts_of_unsent a now)
  unsent_gives a now =
      give_if Is (uses_forward_tsn a) (acts_of_drops (length a.sender.queue.pending) now (both_of a)) []
      (drops_give (length a.sender.queue.pending) now (both_of a)) tt

  -- what goes out again

  resending_gives : (at_once : Bool) (by : Retransmission) (index room : ℕ) (ps : List InFlight)
      → AllByRecursion Is (acts_of_resending at_once by index room ps)
  resending_gives at_once by index room [] = tt
  resending_gives at_once by index room (p ∷ ps) =
      give_if Is (not (picks by p)) (acts_of_resending at_once by (index + 1) room ps) _
      (resending_gives at_once by (index + 1) room ps)
      (give_if Is (ltb room (room_taken by p)) []
      (Act.SentAgain at_once by index ∷ acts_of_resending at_once by (index + 1) (room - room_taken by p) ps) tt
      (again at_once by index, resending_gives at_once by (index + 1) (room - room_taken by p) ps))

  first_again_gives : (at_once : Bool) (ps : List InFlight) → AllByRecursion Is (first_again at_once ps)
  first_again_gives at_once [] = tt
  first_again_gives at_once (p ∷ ps) = (again at_once causes.Timer 0, tt)

  pub marks_give : (a : Shown) → AllByRecursion Is (acts_of_marks_poll a)
  marks_give a =
      let s = (spent_abandoned causes.Timer a).sender in
      all_join Is (acts_of_spent causes.Timer a) (acts_of_marks s) (spent_gives causes.Timer a)
      (give_if Is (resends_alone s) (first_again (asks_again s) s.queue.in_flight)
      (acts_of_resending (asks_again s) causes.Timer 0 (both_windows s) s.queue.in_flight)
      (first_again_gives (asks_again s) s.queue.in_flight)
      (resending_gives (asks_again s) causes.Timer 0 (both_windows s) s.queue.in_flight))

  pub fast_give : (a : Shown) → AllByRecursion Is (acts_of_fast_poll a)
  fast_give a =
      let s = (spent_abandoned causes.Fast a).sender in
      all_join Is (acts_of_spent causes.Fast a) (acts_of_missing s) (spent_gives causes.Fast a)
      (give_if Is s.is_fast_due (acts_of_resending (asks_again s) causes.Fast 0 (fast_room s) s.queue.in_flight) []
      (resending_gives (asks_again s) causes.Fast 0 (fast_room s) s.queue.in_flight) tt)

tail_gives : (now : ℕ) (s : Sender) → AllByRecursion GivesUpOrAgain (acts_of_tail now s)
tail_gives now s = give_if GivesUpOrAgain (has_late_tail now s) (Act.TailAbandoned ∷ []) [] (tt, tt) tt

late_gives : (a : Shown) (now : ℕ) → AllByRecursion GivesUpOrAgain (acts_of_late a now)
late_gives a now =
    let all = both_of a in
    let b : Sender × StreamMap = (with_started now all.0, all.1) in
    give_if GivesUpOrAgain (uses_forward_tsn a) (acts_of_expiry now all) [] (
      tt,
      all_join GivesUpOrAgain (acts_of_giving_all_up (reasons.Expired now) b)
          (acts_of_tail now (late_given_up now all).0)
          (giving_up_gives GivesUpOrAgain (λ i. tt) (λ k. tt) (λ asks by i. tt) (length b.0.queue.in_flight)
          (reasons.Expired now) b)
          (tail_gives now (late_given_up now all).0),
    )
    tt

-- what goes out for the first time

first_sent_gives : (at_once : Bool) (ms : List Waiting) (now : ℕ) → AllByRecursion GivesNew (first_sent at_once ms now)
first_sent_gives at_once [] now = tt
first_sent_gives at_once (m ∷ ms) now = (tt, tt)

sending_gives : (n : ℕ) (s : Sender) (now : ℕ) → AllByRecursion GivesNew (acts_of_sending n s now)
sending_gives zero s now = tt
sending_gives (suc n) s now =
    give_if GivesNew (can_send_next s)
    (Act.Sent (asks_at_once s) now ∷ acts_of_sending n (sent_one s.queue.pending s now).0 now) []
    (tt, sending_gives n (sent_one s.queue.pending s now).0 now) tt

pub new_gives : (s : Sender) (now : ℕ) → AllByRecursion GivesNew (acts_of_new s now)
new_gives s now =
    give_if GivesNew (eqb (length s.queue.in_flight) 0 && not (can_send_next s)) (first_sent (asks_at_once s) s.queue.pending now)
    (acts_of_sending (pieces_waiting s.queue.pending) s now)
    (first_sent_gives (asks_at_once s) s.queue.pending now) (sending_gives (pieces_waiting s.queue.pending) s now)

-- the acts of a poll before new DATA goes out, and those by which it goes out
abbrev pub old_acts : Shown → ℕ → List Act
old_acts a now =
    acts_of_late a now ++ acts_of_marks_poll (late_abandoned a now) ++ acts_of_fast_poll (marks_polled a now)
    ++ acts_of_unsent (fast_polled a now) now

abbrev pub new_acts : Shown → ℕ → List Act
new_acts a now = acts_of_new (late_dropped (fast_polled a now) now).sender now

pub old_acts_are_old : (a : Shown) (now : ℕ) → AllByRecursion GivesUpOrAgain (old_acts a now)
old_acts_are_old a now =
    let late = acts_of_late a now in
    let marks = acts_of_marks_poll (late_abandoned a now) in
    let fast = acts_of_fast_poll (marks_polled a now) in
    all_join GivesUpOrAgain (late ++ marks ++ fast) (acts_of_unsent (fast_polled a now) now)
    (all_join GivesUpOrAgain (late ++ marks) fast
    (all_join GivesUpOrAgain late marks (late_gives a now)
    (marks_give GivesUpOrAgain (λ i. tt) (λ k. tt) (λ asks by i. tt) (late_abandoned a now)))
    (fast_give GivesUpOrAgain (λ i. tt) (λ k. tt) (λ asks by i. tt) (marks_polled a now)))
    (unsent_gives GivesUpOrAgain (λ i. tt) (λ k. tt) (λ asks by i. tt) (fast_polled a now) now)

pub data_poll_acts : (a : Shown) (now : ℕ) → acts_of_data_poll a now ≡ old_acts a now ++ new_acts a now
data_poll_acts a now =
    sym (append_assoc
    (acts_of_late a now ++ acts_of_marks_poll (late_abandoned a now) ++ acts_of_fast_poll (marks_polled a now))
    (acts_of_unsent (fast_polled a now) now) (new_acts a now))

pub polls_give_and_report : PollsGiveAndReport
polls_give_and_report a now exchanges =
    let forward = acts_of_forwarding (forwards_of_poll a now) in
    record {
      old = old_acts a now;
      old_are = old_acts_are_old a now;
      new = new_acts a now;
      new_are = new_gives (late_dropped (fast_polled a now) now).sender now;
      are =
          cond-true (exchanges_data a.state) (acts_of_data_poll a now ++ acts_of_ack a ++ forward) [] exchanges
          ∙ ap (λ (xs : List Act). xs ++ acts_of_ack a ++ forward) (data_poll_acts a now);
    }

-- Timeouts

timeouts_mark_if : (expired failure : Bool)
    → ((if expired then (if failure then [] else Act.Marked ∷ []) else []) ≡ [])
    ⊎ ((if expired then (if failure then [] else Act.Marked ∷ []) else []) ≡ Act.Marked ∷ [])
timeouts_mark_if false failure = inl refl
timeouts_mark_if true true = inl refl
timeouts_mark_if true false = inr refl

pub timeouts_mark_at_most : TimeoutsMarkAtMost
timeouts_mark_at_most a now =
    let b : Shown = after_shutdown_timer a now in
    timeouts_mark_if (expiry_of names.T3RTX now b.timers).expired (expiry_of names.T3RTX now b.timers).failed
