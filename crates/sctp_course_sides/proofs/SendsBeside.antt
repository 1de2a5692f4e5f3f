-- What a side sends of a course stays as its acts assign offsets, and as all else of it changes.
use Rattle.std.proofs.Common.{◌≡◌, refl, sym, ap, ◌∙◌, subst, ℕ, ◌+◌, ◌⊎◌, true, length, List, slice_get, Some}
use Rattle.std.specs.List.{AllByRecursion}
use Rattle.sctp_serial.specs.Serial.{tsn}
use Rattle.sctp_model.specs.Packets.{mem}
use Rattle.sctp_outbound_queue.specs.Outbound.{Outbound, has_stream}
use Rattle.sctp_reset_requests.specs.Ids.{has_id}
use Rattle.sctp_reset_requests.specs.Own.{AreNumbered, open_with}
use Rattle.sctp_reset_requests.specs.declared.own_request.SentRequest.{SentRequest}
use Rattle.sctp_resets.specs.Resets.{ResetsView}
use Rattle.sctp_courses.specs.Course.{Course, Request, boundary_at, is_named}
use Rattle.sctp_courses.specs.Events.{is_to_be_reset}
use Rattle.sctp_reset_fit.specs.Stands.{last_below}
use Rattle.sctp_directions.specs.Acts.{History, Parts}
use Rattle.sctp_assoc.specs.Leads.{parts}
use Rattle.sctp_assoc.specs.Shown.{Shown}
use Rattle.sctp_sides.specs.Restarts.{is_reset_by}
use Rattle.sctp_course_sides.specs.Sends.{AreIdentifiers, IsLastAsked, NamesStreams, PeerNamesStreams, Sends}
use Rattle.sctp_course_sides.proofs.AskedInPolls.{SendsNow}
use Rattle.sctp_course_sides.proofs.SentData.{LeadsData, reset_same, stand_get, stand_where}
use Rattle.sctp_course_sides.specs.Sends.{AreSmall}

module _ (initial id : ℕ) where
  pub last_still : (c d : Course) (s : SentRequest) → d.asked ≡ c.asked → IsLastAsked initial id c s
      → IsLastAsked initial id d s
  last_still c d s asked l = record {
    index = l.index;
    last = ap length asked ∙ l.last;
    number = l.number;
    boundary = l.boundary ∙ ap (λ (qs : List Request). last_below initial (boundary_at qs l.index)) (sym asked);
    named = l.named ∙ ap (λ (qs : List Request). is_named qs l.index) (sym asked);
  }

  pub leads_data : (a : Shown) (h : History) (c : Course) → Sends initial id a h c
      → LeadsData initial id (parts a h) c
  leads_data a h c s = record {
    own = s.own;
    assigned = s.assigned;
    stand = stand_where id c.mine a.sender.queue.in_flight h.base s.mine;
    quiet = λ e. (s.held_back e).quiet;
  }

  -- behind acts that asked for nothing the side sends the course, if its requests and its resets stay
  pub sends_behind : (a b : Shown) (h : History) (c d : Course) (p : Parts) → b.resets ≡ a.resets
      → b.sender.queue ≡ p.queue → p.history ≡ h → d.asked ≡ c.asked → d.performed ≡ c.performed
      → LeadsData initial id p d → SendsNow initial id a h c → b.sender.queue.first_tsn ≡ tsn h.own h.base
      → SendsNow initial id b h d
  sends_behind a b h c d p resets queue history asked performed l s first = record {
    sends = record {
      small = s.sends.small;
      own = s.sends.own;
      assigned =
          l.assigned ∙ ap (λ (k : History). k.base + length p.queue.in_flight) history
          ∙ ap (λ (q : Outbound). h.base + length q.in_flight) (sym queue);
      mine = λ index x there e.
          (let here : slice_get p.queue.in_flight index ≡ Some x =
          ap (λ (q : Outbound). slice_get q.in_flight index) (sym queue) ∙ there in
          subst (λ (k : History). mem (k.base + index) d.mine ≡ true) history
          (stand_get id d.mine p.queue.in_flight p.history.base index x here l.stand e));
      numbers =
          ap (λ (r : ResetsView). r.own.next_number) resets ∙ s.sends.numbers
          ∙ ap (λ (qs : List Request). tsn initial (length qs + length a.resets.own.queued)) (sym asked)
          ∙ ap (λ (r : ResetsView). tsn initial (length d.asked + length r.own.queued)) (sym resets);
      in_order =
          subst (λ (r : ResetsView). AreNumbered (open_with r.own.active r.own.queued) r.own.next_number) (sym resets)
          s.sends.in_order;
      active = λ t e.
          last_still c d t asked (s.sends.active t (ap (λ (r : ResetsView). r.own.active) (sym resets) ∙ e));
      by_ids =
          subst (λ (r : ResetsView). AllByRecursion NamesStreams (open_with r.own.active r.own.queued)) (sym resets)
          s.sends.by_ids;
      peer_by_ids =
          subst (λ (r : ResetsView). PeerNamesStreams r.peer.in_progress) (sym resets) s.sends.peer_by_ids;
      waiting = subst (λ (r : ResetsView). AreIdentifiers r.own.waiting) (sym resets) s.sends.waiting;
      held_back = λ e.
          (let before : is_to_be_reset c ≡ true = sym (reset_same c d asked performed) ∙ e in
          record {
            quiet = ap (λ (q : Outbound). has_stream q id) queue ∙ l.quiet e;
            barred =
                subst (λ (r : ResetsView). (is_reset_by r.own.active id ≡ true) ⊎ (has_id id r.debts.failed ≡ true))
                (sym resets) (s.sends.held_back before).barred;
          });
    };
    small = subst (λ (r : ResetsView). AreSmall r.own.active r.own.queued) (sym resets) s.small;
    first = first;
  }

  -- neither what is in flight or waits nor its resets changed
  pub sends_as : (a b : Shown) (h : History) (c : Course) → b.resets ≡ a.resets → b.sender.queue ≡ a.sender.queue
      → SendsNow initial id a h c → SendsNow initial id b h c
  sends_as a b h c resets queue s =
      sends_behind a b h c c (parts a h) resets queue refl refl refl (leads_data a h c s.sends) s
      (ap (λ (q : Outbound). q.first_tsn) queue ∙ s.first)
