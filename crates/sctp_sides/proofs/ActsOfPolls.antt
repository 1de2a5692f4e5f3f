-- The acts of a poll: those of its front, by which the front leads on alone, and the close by its end.
use Rattle.std.proofs.Common.{◌≡◌, refl, sym, ap, ◌∙◌, subst, ℕ, Bool, true, false, if◌then◌else◌, List, [], ◌∷◌, ◌++◌}
use Rattle.std.proofs.lemmas.Bool.{cond-false}
use Rattle.std.proofs.lemmas.List.{append-nil}
use Rattle.std.specs.List.{filter}
use Rattle.sctp_wire_types.specs.declared.chunk.Chunk.TheVariants as chunks
use Rattle.sctp_wire_types.specs.declared.chunk.ChunkPayloadData.{ChunkPayloadData}
use Rattle.sctp_wire.specs.DataPackets.{data_fits}
use Rattle.sctp_inbound.specs.Handshake.{header_of}
use Rattle.sctp_outbound.specs.declared.sender.Sender.{Sender}
use Rattle.sctp_outbound.specs.Forward.{forward_of}
use Rattle.sctp_directions.specs.Acts.{Act, History, Parts, all_data_given, done_all}
use Rattle.sctp_assoc.specs.Calls.{exchanges_data}
use Rattle.sctp_assoc.specs.Gather.{IsReadAgain, control_polled, exchange_polled, open_polled, polled, without_control}
use Rattle.sctp_assoc.specs.Happened.{Polls, acts_of_ack, acts_of_data_poll, acts_of_ending, acts_of_exchange}
use Rattle.sctp_assoc.specs.Happened.{acts_of_forwarding, acts_of_poll, forwards_of_poll, packets_given}
use Rattle.sctp_assoc.specs.Leads.{Binds, Leads, parts}
use Rattle.sctp_assoc.specs.Resets.{with_reconfig_run}
use Rattle.sctp_assoc.specs.Shown.{Shown}
use Rattle.sctp_assoc.specs.Shutdown.{completes_shutdown}
use Rattle.sctp_assoc.proofs.ActsKeepOffsets.{given_append}
use Rattle.sctp_assoc.proofs.GivenApart.{control_changes, with_own_control}
use Rattle.sctp_assoc.proofs.PollsLeadOn.{acts_apart, beside_control, beside_timer, exchange_leads}
use Rattle.sctp_sides.specs.SideLaws.{OtherPollsDoNothingInFront, PollsEndLast, PollsLeadOnInFront}
use Rattle.sctp_sides.proofs.EndedPolls.{ended_sender}
use Rattle.sctp_sides.proofs.PollsLeave.{front_leaves}

pub other_polls_do_nothing_in_front : OtherPollsDoNothingInFront
other_polls_do_nothing_in_front a now none =
    cond-false (exchanges_data a.state)
    (acts_of_data_poll a now ++ acts_of_ack a ++ acts_of_forwarding (forwards_of_poll a now)) [] none

pub polls_end_last : PollsEndLast
polls_end_last a now = refl

-- The front alone

front_leads : (a : Shown) (now : ℕ) (h : History) → Binds a h
    → Leads (acts_of_exchange a now) a h (open_polled a now).0 h
front_leads a now h binds =
    let b : Shown = (control_polled a).0 in
    let own = b.resets.own in
    let control = b.control in
    let e = control_changes a in
    let bound : Binds (with_own_control (without_control a) own control) h = record {
      first = binds.first;
      peer_last_tsn = binds.peer_last_tsn;
      held = binds.held;
      marked = binds.marked;
    } in
    let stands : Binds b h = subst (λ (z : Shown). Binds z h) (sym e) bound in
    let acts : acts_of_exchange b now ≡ acts_of_exchange a now =
    ap (λ (z : Shown). acts_of_exchange z now) e ∙ acts_apart a own control now in
    let after : Shown = (exchange_polled b now).0 in
    let last : Shown = with_reconfig_run after now in
    subst (λ (c : Shown). Leads (acts_of_exchange a now) a h c h) (sym (front_leaves a now))
    (subst (λ (xs : List Act). Leads xs a h last h) acts
    (beside_control (acts_of_exchange b now) a last b h h own control e
    (beside_timer (acts_of_exchange b now) b after now h h (exchange_leads b now h stands))))

ending_is_silent : (closes : Bool) (p : Parts) → all_data_given (if closes then Act.Ended ∷ [] else []) p ≡ []
ending_is_silent true p = refl
ending_is_silent false p = refl

-- the end gives no DATA out
given_in_front : (a : Shown) (now : ℕ) (p : Parts)
    → all_data_given (acts_of_poll a now) p ≡ all_data_given (acts_of_exchange a now) p
given_in_front a now p =
    let front = acts_of_exchange a now in
    let m : Shown = (open_polled a now).0 in
    given_append front (acts_of_ending m) p
    ∙ ap (λ (z : List ChunkPayloadData). all_data_given front p ++ z)
    (ending_is_silent (completes_shutdown m) (done_all front p))
    ∙ append-nil (all_data_given front p)

module _ (a b : Shown) (now : ℕ) (packets : List (List ℕ)) (there : polled a now ≡ (b, packets)) (h : History)
    (binds : Binds a h)
  where
    -- what a poll leaves in flight its front leaves
    same_sender : b.sender ≡ (open_polled a now).0.sender
    same_sender = sym (ap (λ (x : Shown × List (List ℕ)). x.0.sender) there) ∙ ended_sender a now

    front_polls : Polls (acts_of_poll a now) (forwards_of_poll a now) a h b packets
        → Polls (acts_of_exchange a now) (forwards_of_poll a now) a h (open_polled a now).0 packets
    front_polls m = record {
      leads = front_leads a now h binds;
      bundles = m.bundles;
      joined = m.joined ∙ ap (filter data_fits) (given_in_front a now (parts a h));
      requests = m.requests;
      quiet = m.quiet;
      asked = m.asked;
      requests_again = m.requests_again;
      ending = m.ending;
      ending_is = m.ending_is;
      said =
          m.said
          ∙ ap (λ (s : Sender).
          packets_given a m.bundles m.requests (forwards_of_poll a now) (record b { sender = s }) m.ending) same_sender;
      data_again = m.data_again;
      ack_again = m.ack_again;
      forward_again = λ c.
          subst (λ (s : Sender). IsReadAgain (header_of a.handshake) (chunks.ForwardTsn (forward_of s))) same_sender
          (m.forward_again c);
      ending_again = m.ending_again;
    }

pub polls_lead_on_in_front : PollsLeadOnInFront
polls_lead_on_in_front a b now packets there on = record {
  control_again = on.control_again;
  control_said = on.control_said;
  from = λ h binds. front_polls a b now packets there h binds (on.from h binds);
}
