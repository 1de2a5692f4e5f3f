-- Acts that give out DATA.
use Rattle.std.proofs.Common.{◌≡◌, refl, subst, sym, List, [], ◌++◌}
use Rattle.sctp_wire_types.specs.declared.chunk.ChunkPayloadData.{ChunkPayloadData}
use Rattle.sctp_streams.specs.Streams.{StreamMap}
use Rattle.sctp_outbound.specs.declared.sender.Sender.{Sender}
use Rattle.sctp_directions.specs.Acts.{Act, CanAll, History, Parts, all_data_given, done_all}
use Rattle.sctp_assoc.proofs.ActsKeepOffsets.{Tied, acts_tied, can_append, done_append, given_append}
use Rattle.sctp_assoc.proofs.MarksOutstanding.{AreMarkedRight, acts_marked}

-- Acts can be done, lead from some parts to others, and give out this DATA.
pub record Gives (xs : List Act) (p q : Parts) (given : List ChunkPayloadData) : Type 0 where
  pub can : CanAll xs p
  pub there : q ≡ done_all xs p
  pub said : all_data_given xs p ≡ given

pub gives_on : (xs ys : List Act) (p q r : Parts) (first second : List ChunkPayloadData) → Gives xs p q first
    → Gives ys q r second → Gives (xs ++ ys) p r (first ++ second)
gives_on xs ys p q r first second m n = record {
  can = can_append xs ys p m.can (rw (← m.there) n.can);
  there = rw (done_append xs ys p, ← m.there) n.there;
  said = rw (given_append xs ys p, ← m.there, m.said, n.said) refl;
}

pub gives_none : (p : Parts) → Gives [] p p []
gives_none p = record { can = tt; there = refl; said = refl }

-- the parts of a sender beside some streams
abbrev pub sending : Sender → StreamMap → History → Parts
sending s m h = record { queue = s.queue; streams = m; size = s.max_payload_size; history = h }

-- those of a sender and streams
abbrev pub both_parts : Sender × StreamMap → History → Parts
both_parts all h = sending all.0 all.1 h

-- what acts keep
pub still_tied : (xs : List Act) (p q : Parts) (given : List ChunkPayloadData) → Gives xs p q given → Tied p → Tied q
still_tied xs p q given g tied = subst Tied (sym g.there) (acts_tied xs p g.can tied)

pub still_right : (xs : List Act) (p q : Parts) (given : List ChunkPayloadData) → Gives xs p q given
    → AreMarkedRight p.queue.in_flight → AreMarkedRight q.queue.in_flight
still_right xs p q given g right =
    subst (λ (r : Parts). AreMarkedRight r.queue.in_flight) (sym g.there) (acts_marked xs p right)
