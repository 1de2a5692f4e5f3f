-- A packet of the other side comes to one association.
use Rattle.std.proofs.Common.{◌≡◌, refl, sym, ap, ◌∙◌, subst, ◌⊎◌, ⊎_elim, inl, inr, ℕ, Bool, true, false, [], Option}
use Rattle.std.proofs.Common.{Some, None}
use Rattle.std.proofs.lemmas.Bool.{cases_Bool}
use Rattle.sctp_wire.specs.declared.packet.Packet.{Packet}
use Rattle.sctp_model.specs.Packets.{mem}
use Rattle.sctp_model.specs.Machine.{Direction, Event, happens}
use Rattle.sctp_model.proofs.Proved.{each_event_keeps_the_invariant}
use Rattle.sctp_assoc.specs.Closing.{is_closed_state}
use Rattle.sctp_assoc.specs.Chunks.{after_packet}
use Rattle.sctp_sides.specs.Meeting.{IsNoEarlier, Stage, stage_of}
use Rattle.sctp_sides.specs.NoReset.{HasNoReset}
use Rattle.sctp_sides.specs.PastSpan.{ResetsPastOnly}
use Rattle.sctp_sides.specs.SideLaws.{Closes, EndsPacket, OfEachChunk}
use Rattle.sctp_assoc.specs.Shown.{Shown}
use Rattle.sctp_sides.proofs.Proved.{lost_associations_take_nothing, no_packet_changes_nothing, packets_carry}
use Rattle.sctp_sides.proofs.Proved.{past_packets_carry, the_same_handshake_is_the_same_stage}
use Rattle.sctp_sides.proofs.Proved.{the_same_status_is_the_same_stage}
use Rattle.sctp_directions.proofs.Proved.{closed_receivers_are_not_open, receivers_events_are_received}
use Rattle.sctp_pair.specs.Fits.{StagesAgree, StandsFailed}
use Rattle.sctp_assoc.specs.declared.call.Reply.{Reply}
use Rattle.sctp_assoc.specs.declared.call.Reply.TheVariants as replies
use Rattle.sctp_assoc.specs.Replies.{Fails, HadFailed, LacksMemory, TakesPacket}
use Rattle.sctp_pair.proofs.BetweenDirections.{By, ClosedAt, Faces, None_brought, OpenAt, Settles}
use Rattle.sctp_pair.proofs.BetweenDirections.{SettlesQuietly, Surroundings, does_by_goes, goes_by_receiver}
use Rattle.sctp_pair.proofs.BetweenDirections.{goes_nowhere, goes_on, moved, nothing_added, nothing_read}
use Rattle.sctp_pair.proofs.BetweenDirections.{other_by_receiver, sound_after}
use Rattle.sctp_pair.proofs.PacketChunks.{Brings_of, OtherSays, SaidIn, all_said_in, came_on, chunk_step}
use Rattle.sctp_pair.proofs.PacketChunks.{said_resets_past, still_past}
use Rattle.sctp_pair.proofs.QuietCalls.{fails_settle, same_settles}
use Rattle.sctp_pair.proofs.HandshakeStages.{stays_put, works_on}
use Rattle.sctp_pair.proofs.BetweenChunks.{Underway}
use Rattle.sctp_pair.proofs.ComingData.{coming_nowhere}
use Rattle.sctp_sides.specs.SideLaws.{Exhausts, IsOver}
use Rattle.sctp_sides.specs.Meeting.{IsTruthful}

-- The end of a packet

-- an association that stands open settles where its call led
settled_open : {x : Surroundings} {B : By → ℕ → Type 0} {a : Shown} → Underway x B a
    → Settles x a nothing_added nothing_read B
settled_open {x} {B} {a} u = record {
  out2 = u.out2;
  coming2 = u.coming2;
  here2 = stage_of a;
  does_out = does_by_goes None_brought x.out u.out2 u.goes_out;
  does_coming = does_by_goes B x.coming u.coming2 u.goes_coming;
  sound_out = u.holds.sound_out;
  sound_coming = u.holds.sound_coming;
  both = u.both;
  stands = inl u.stands;
  other = u.holds.other;
  goes = u.goes;
  at = λ working. refl;
  meets = u.meets;
  no_more = inr u.places_same;
  coming_still = u.coming_still;
}

end_step : {x : Surroundings} {B : By → ℕ → Type 0} (a b : Shown) → EndsPacket a b
    → (ResetsPastOnly x.coming.over a → ResetsPastOnly x.coming.over b) → Underway x B a
    → Settles x b nothing_added nothing_read B
end_step {x} {B} a b ends keeps u =
    settled_open (came_on u [] (ends.leads u.stands.past u.stands.binds)
    (the_same_status_is_the_same_stage a b ends.same) (still_past u keeps) tt
    (coming_nowhere B u.within_coming u.holds))

-- Closing

-- a fault closes an open association: its receiver closes
over_step : {x : Surroundings} {B : By → ℕ → Type 0} (a b : Shown) → b.side ≡ a.side → b.handshake ≡ a.handshake
    → ((own : ℕ) → IsTruthful own a → IsTruthful own b) → IsOver b → HasNoReset b → Underway x B a
    → Settles x b nothing_added nothing_read B
over_step {x} {B} a b side handshake truthful over none u =
    let received = receivers_events_are_received u.coming2 Event.Close tt in
    let coming3 : Direction = happens u.coming2 Event.Close in
    let goes = goes_by_receiver B u.coming2 Event.Close tt (λ n. n) (λ o n. absurd n) (λ o n. absurd n) in
    record {
      out2 = u.out2;
      coming2 = coming3;
      here2 = stage_of a;
      does_out = does_by_goes None_brought x.out u.out2 u.goes_out;
      does_coming = does_by_goes B x.coming coming3 (goes_on B x.coming u.coming2 coming3 u.goes_coming goes);
      sound_out = u.holds.sound_out;
      sound_coming =
          sound_after Event.Close
          (each_event_keeps_the_invariant u.coming2 Event.Close u.within_coming u.holds.sound_coming.invariant)
          u.holds.sound_coming;
      both = λ t. u.both t ∙ ap (λ (g : ℕ → Bool). g t) (sym received.over);
      stands = inr (inl record {
        closed = over.closed;
        unestablished = over.unestablished;
        lost = over.lost;
        stopped = closed_receivers_are_not_open u.coming2;
        nothing_left = over.holds_nothing;
        truthful = truthful x.own u.stands.truthful;
        no_reset = none;
      });
      other = other_by_receiver (moved x u.out2 u.coming2) Event.Close tt u.holds.other;
      goes = u.goes;
      at = λ working. (the_same_handshake_is_the_same_stage a b side handshake).0;
      meets = u.meets;
      no_more = inr u.places_same;
      coming_still = received.sender ∙ u.coming_still;
    }

-- a server that listens stays as it is
close_step : {x : Surroundings} {B : By → ℕ → Type 0} (a b : Shown) → Closes a b
    → (is_closed_state a.state ≡ false → HasNoReset b) → Underway x B a → Settles x b nothing_added nothing_read B
close_step {x} {B} a b closes none u = ⊎_elim
    (λ (closed : is_closed_state a.state ≡ true).
    subst (λ (z : Shown). Settles x z nothing_added nothing_read B) (sym (closes.stays closed)) (settled_open u))
    (λ (opened : is_closed_state a.state ≡ false).
    let ended = closes.ends opened in
    over_step a b closes.side closes.handshake closes.truthful (record {
      closed = ended.closed;
      unestablished = ended.unestablished;
      lost = ended.lost;
      none_live = ended.none_live;
      holds_nothing = ended.holds_nothing;
    }) (none opened) u)
    (cases_Bool (is_closed_state a.state))

-- an exhausted receive buffer does as a fault does, and an ABORT waits then, in a server that listens too
exhaust_step : {x : Surroundings} {B : By → ℕ → Type 0} (a b : Shown) → Exhausts a b
    → (ResetsPastOnly x.coming.over a → ResetsPastOnly x.coming.over b)
    → (is_closed_state a.state ≡ false → HasNoReset b) → Underway x B a → Settles x b nothing_added nothing_read B
exhaust_step {x} {B} a b exhausts keeps none u = ⊎_elim
    (λ (closed : is_closed_state a.state ≡ true).
    let stays = exhausts.stays closed in end_step a b (record { leads = stays.0; same = stays.1 }) keeps u)
    (λ (opened : is_closed_state a.state ≡ false).
    over_step a b exhausts.side exhausts.handshake exhausts.truthful (exhausts.ends opened) (none opened) u)
    (cases_Bool (is_closed_state a.state))

-- A packet

start_step : {x : Surroundings} {a : Shown} (B : By → ℕ → Type 0) → Faces x a → OpenAt x a → Underway x B a
start_step {x} B f s = record {
  out2 = x.out;
  coming2 = x.coming;
  goes_out = goes_nowhere None_brought x.out;
  goes_coming = goes_nowhere B x.coming;
  within_out = f.within_out;
  within_coming = f.within_coming;
  both = f.both;
  places_same = refl;
  coming_still = refl;
  silent = f.silent;
  goes = subst (IsNoEarlier x.here) (sym (f.at s.working)) (stays_put x.here);
  meets = subst (λ (z : Stage). StagesAgree z x.there) (sym (f.at s.working)) f.meets;
  stands = s;
  holds = record {
    own_is = s.own_is;
    sound_out = f.sound_out;
    sound_coming = f.sound_coming;
    between = s.between;
    in_order = s.in_order;
    reads_open = s.reads_open;
    other = f.other;
  };
}

-- The other side gave out a packet, and it comes at a moment.
module _ (x : Surroundings) (a : Shown) (now : ℕ) where
  open_packet : (packet : Option Packet) → a.lost ≡ false → OfEachChunk (OtherSays x) packet
      → Underway x (Brings_of x packet) a
      → Settles x (after_packet a packet now) nothing_added nothing_read (Brings_of x packet)
  open_packet None present said u =
      subst (λ (z : Shown). Settles x z nothing_added nothing_read (Brings_of x None))
      (sym (no_packet_changes_nothing a now)) (settled_open u)
  open_packet (Some packet) present said u =
      past_packets_carry x.coming.over (Underway x (Brings_of x (Some packet)))
      (λ b. Settles x b nothing_added nothing_read (Brings_of x (Some packet)))
      (SaidIn x (Some packet)) (said_resets_past x (Some packet))
      (λ header c y z s takes keeps v. chunk_step (Some packet) header c s takes keeps v)
      (λ y z ends keeps v. end_step y z ends keeps v)
      (λ y z closes keeps none v. close_step y z closes none v)
      (λ y z exhausts keeps none v. exhaust_step y z exhausts keeps none v)
      packet a now present (all_said_in x packet [] packet.chunks refl said) u

  -- An association that failed before stays so, whatever comes.
  failed_packet : (packet : Option Packet) → a.lost ≡ false → OfEachChunk (OtherSays x) packet → a.failed ≡ true
      → (after_packet a packet now).failed ≡ true
  failed_packet None present said f = ap (λ (z : Shown). z.failed) (no_packet_changes_nothing a now) ∙ f
  failed_packet (Some packet) present said f =
      packets_carry (λ (b : Shown). b.failed ≡ true) (λ (b : Shown). b.failed ≡ true)
      (SaidIn x (Some packet))
      (λ header c y z s takes v. (works_on c y z takes.leaves).failed ∙ v)
      (λ y z ends v. ends.same.failed ∙ v)
      (λ y z closes v. closes.failed ∙ v)
      (λ y z exhausts v. exhausts.failed ∙ v)
      packet a now present (all_said_in x packet [] packet.chunks refl said) f

  failed_after : (packet : Option Packet) → OfEachChunk (OtherSays x) packet → a.failed ≡ true
      → (after_packet a packet now).failed ≡ true
  failed_after packet said f = ⊎_elim
      (λ (lost : a.lost ≡ true). ap (λ (z : Shown). z.failed) (lost_associations_take_nothing a packet now lost) ∙ f)
      (λ (present : a.lost ≡ false). failed_packet packet present said f)
      (cases_Bool a.lost)

-- what may be brought is more than nothing
pub brings_more : {x : Surroundings} {b : Shown} (B : By → ℕ → Type 0) → SettlesQuietly x b
    → Settles x b nothing_added nothing_read B
brings_more {x} {b} B s = record {
  out2 = s.out2;
  coming2 = s.coming2;
  here2 = s.here2;
  does_out = s.does_out;
  does_coming = record {
    events = s.does_coming.events;
    is = s.does_coming.is;
    accepted = s.does_coming.accepted;
    size = s.does_coming.size;
    reads = s.does_coming.reads;
    taken =
        λ o m. ⊎_elim (λ (n : mem o x.coming.receiver.taken ≡ true). inl n) (λ (n : ⊥). absurd n)
        (s.does_coming.taken o m);
    passed = ⊎_elim
        (λ (e : s.coming2.receiver.passed ≡ x.coming.receiver.passed). inl e) (λ (n : ⊥). absurd n)
        s.does_coming.passed;
    datas = s.does_coming.datas;
    forwards = s.does_coming.forwards;
    sacks = s.does_coming.sacks;
    spans = s.does_coming.spans;
    ends = s.does_coming.ends;
    reach_on = s.does_coming.reach_on;
  };
  sound_out = s.sound_out;
  sound_coming = s.sound_coming;
  both = s.both;
  stands = s.stands;
  other = s.other;
  goes = s.goes;
  at = s.at;
  meets = s.meets;
  no_more = s.no_more;
  coming_still = s.coming_still;
}

processed_settles : (x : Surroundings) (a : Shown) (now : ℕ) (packet : Option Packet)
    → OfEachChunk (OtherSays x) packet → Faces x a
    → Settles x (after_packet a packet now) nothing_added nothing_read (Brings_of x packet)
processed_settles x a now packet said f =
    ⊎_elim
    (λ (s : OpenAt x a).
    open_packet x a now packet s.present said (start_step (Brings_of x packet) f s))
    (λ (r : ClosedAt x a ⊎ StandsFailed a x.coming).
    ⊎_elim
    (λ (s : ClosedAt x a).
    brings_more (Brings_of x packet) (same_settles (lost_associations_take_nothing a packet now s.lost) f))
    (λ (s : StandsFailed a x.coming).
    brings_more (Brings_of x packet) (fails_settle (failed_after x a now packet said s.failed) f))
    r)
    f.stands

refused_settles : {x : Surroundings} {a b : Shown} (n : ℕ)
    → HadFailed a n b ⊎ (((a.lost ≡ false) × Fails a n b) ⊎ LacksMemory a n b) → Faces x a → SettlesQuietly x b
refused_settles n (inl had) f = same_settles had.2 f
refused_settles n (inr (inl (present, fails))) f = fails_settle fails.2.marked f
refused_settles n (inr (inr same)) f = same_settles same.2 f

-- what a packet with this reply brings: one that is refused brings nothing
abbrev pub brought_by : Reply → Option Packet → Option Packet
brought_by replies.Done packet = packet
brought_by reply packet = None

-- a packet that the other side gave out comes
pub packet_settles : {x : Surroundings} {a b : Shown} (now : ℕ) (packet : Option Packet) (r : Reply)
    → TakesPacket a packet now r b → OfEachChunk (OtherSays x) packet → Faces x a
    → Settles x b nothing_added nothing_read (Brings_of x (brought_by r packet))
packet_settles {x} {a} now packet replies.Done h said f =
    subst (λ z. Settles x z nothing_added nothing_read (Brings_of x packet)) (sym h.1)
    (processed_settles x a now packet said f)
packet_settles {x} now packet (replies.Refused n) h said f =
    brings_more (Brings_of x None) (refused_settles n h f)
packet_settles now packet r h said f = absurd h
