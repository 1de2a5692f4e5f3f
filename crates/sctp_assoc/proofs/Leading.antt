-- Acts that lead from one state of an association to another.
use Rattle.std.proofs.Common.{◌≡◌, refl, sym, ap, ◌∙◌, subst, ℕ, List, [], ◌++◌}
use Rattle.sctp_inbound.specs.Receiver.{past_of}
use Rattle.sctp_fit.specs.HeldSet.{HoldsPast}
use Rattle.sctp_directions.specs.Acts.{Act, CanAll, History, Parts, done_all}
use Rattle.sctp_assoc.specs.Leads.{Binds, IsSamePast, Leads, parts}
use Rattle.sctp_assoc.specs.Shown.{Shown}
use Rattle.sctp_assoc.proofs.ActsKeepOffsets.{acts_tied, can_append, done_append}
use Rattle.sctp_assoc.proofs.MarksOutstanding.{AreMarkedRight, acts_marked}
use Rattle.sctp_assoc.proofs.WhatCame.{came_on, same_held, same_last_tsn}

pub leads_on : (xs ys : List Act) {a b c : Shown} {h k l : History} → Leads xs a h b k → Leads ys b k c l
    → Leads (xs ++ ys) a h c l
leads_on xs ys {a} {b} {c} {h} {k} {l} m n = record {
  can = can_append xs ys (parts a h) m.can (rw (← m.there) n.can);
  there = rw (done_append xs ys (parts a h), ← m.there) n.there;
  binds = n.binds;
}

-- Where the directions see another queue or other streams, but the same receiver.
pub leads_by : (xs : List Act) (a b : Shown) (h : History) → Binds a h → CanAll xs (parts a h)
    → (b' : parts b (done_all xs (parts a h)).history ≡ done_all xs (parts a h))
    → past_of b.receiver ≡ past_of a.receiver
    → IsSamePast h (done_all xs (parts a h)).history
    → Leads xs a h b (done_all xs (parts a h)).history
leads_by xs a b h binds can there peer_last_tsn same = record {
  can = can;
  there = there;
  binds = record {
    first = ap (λ (p : Parts). p.queue.first_tsn) there ∙ acts_tied xs (parts a h) can binds.first;
    peer_last_tsn =
        ap (λ (z : ℕ × List ℕ). z.0) peer_last_tsn ∙ binds.peer_last_tsn
        ∙ same_last_tsn h (done_all xs (parts a h)).history a.streams b.streams same;
    held =
        subst (HoldsPast (came_on (done_all xs (parts a h)).history b.streams))
        (sym (ap (λ (z : ℕ × List ℕ). z.1) peer_last_tsn))
        (same_held h (done_all xs (parts a h)).history a.streams b.streams same binds.held);
    marked =
        subst (λ (p : Parts). AreMarkedRight p.queue.in_flight) (sym there) (acts_marked xs (parts a h) binds.marked);
  };
}

pub past_itself : (h : History) → IsSamePast h h
past_itself h = record { peer = refl; taken = refl; passed = refl }

-- nothing that the directions see changed
pub leads_nowhere : (a b : Shown) (h : History) → Binds a h → parts b h ≡ parts a h
    → past_of b.receiver ≡ past_of a.receiver → Leads [] a h b h
leads_nowhere a b h binds same peer_last_tsn = leads_by [] a b h binds tt same peer_last_tsn (past_itself h)

-- what changes beside the directions does no harm
pub leads_beside : (xs : List Act) (a b c : Shown) (h k : History) → parts c k ≡ parts b k
    → past_of c.receiver ≡ past_of b.receiver → Leads xs a h b k → Leads xs a h c k
leads_beside xs a b c h k same peer_last_tsn m = record {
  can = m.can;
  there = same ∙ m.there;
  binds = record {
    first = ap (λ (p : Parts). p.queue.first_tsn) same ∙ m.binds.first;
    peer_last_tsn = ap (λ (z : ℕ × List ℕ). z.0) peer_last_tsn ∙ m.binds.peer_last_tsn;
    held =
        subst (HoldsPast (came_on k c.streams)) (sym (ap (λ (z : ℕ × List ℕ). z.1) peer_last_tsn))
        (same_held k k b.streams c.streams (past_itself k) m.binds.held);
    marked = subst (λ (p : Parts). AreMarkedRight p.queue.in_flight) (sym same) m.binds.marked;
  };
}
