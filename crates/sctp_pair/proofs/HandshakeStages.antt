-- The stages of the two handshakes: how they go on, and what they say of who knows whom.
use Rattle.std.proofs.Common.{◌≡◌, refl, sym, ap, ◌∙◌, inl, inr, true, is_some}
use Rattle.std.proofs.lemmas.Bool.{true≢false}
use Rattle.sctp_wire_types.specs.declared.chunk.Chunk.{Chunk}
use Rattle.sctp_wire_types.specs.declared.chunk.Chunk.TheVariants as chunks
use Rattle.sctp_sides.specs.Meeting.{HasCome, IsNoEarlier, MayHear, Stage, stage_of}
use Rattle.sctp_sides.specs.SideLaws.{KeepsTheStage, KeepsWorking, Leaves}
use Rattle.sctp_assoc.specs.Shown.{Shown}
use Rattle.sctp_sides.proofs.Proved.{the_same_handshake_is_the_same_stage}
use Rattle.sctp_pair.specs.Fits.{IsAt, StagesAgree}

pub stays_put : (s : Stage) → IsNoEarlier s s
stays_put s = record { side = refl; knows = λ k. k; completed = λ d. d }

pub goes_through : (s t u : Stage) → IsNoEarlier s t → IsNoEarlier t u → IsNoEarlier s u
goes_through s t u g h = record {
  side = h.side ∙ g.side;
  knows = λ k. h.knows (g.knows k);
  completed = λ d. h.completed (g.completed d);
}

-- who may hear goes on to do so
pub hear_on : (s t : Stage) → IsNoEarlier s t → MayHear s → MayHear t
hear_on s t g (inl done) = inl (g.completed done)
hear_on s t g (inr (client, known)) = inr (g.side ∙ client, g.knows known)

-- stages that fit, seen from the other side
pub turned : (s t : Stage) → StagesAgree s t → StagesAgree t s
turned s t m = record { one = m.other; other = m.one; hears = m.heard; heard = m.hears }

-- stages that fit go on to fit, where the other side may hear a side that is completed
pub meets_on : (s t u : Stage) → IsNoEarlier s u → (u.completed ≡ true → MayHear t) → StagesAgree s t → StagesAgree u t
meets_on s t u g heard m = record {
  one = λ client other. g.completed (m.one (sym g.side ∙ client) other);
  other = λ other client. m.other other (sym g.side ∙ client);
  hears = λ done. hear_on s u g (m.hears done);
  heard = heard;
}

-- who may hear knows the peer's initial TSN
pub hearers_know : (a : Shown) → HasCome a → MayHear (stage_of a) → is_some a.handshake.peer_initial_tsn ≡ true
hearers_know a come (inr (client, known)) = known
hearers_know a (inl w) (inl done) = absurd (true≢false (sym done ∙ w.incomplete))
hearers_know a (inr (inl w)) (inl done) = w.known
hearers_know a (inr (inr (inl l))) (inl done) = absurd (true≢false (sym done ∙ l.incomplete))
hearers_know a (inr (inr (inr s))) (inl done) = s.known

-- Where the stage is kept it is the same, and the handshake has come as far.

pub same_stage : (a b : Shown) → KeepsTheStage a b → stage_of b ≡ stage_of a
same_stage a b same = (the_same_handshake_is_the_same_stage a b same.side same.handshake).0

pub come_on : (a b : Shown) → KeepsTheStage a b → HasCome a → HasCome b
come_on a b same come = (the_same_handshake_is_the_same_stage a b same.side same.handshake).1 same.state come

pub at_same : (a b : Shown) (s : Stage) → KeepsTheStage a b → IsAt a s → IsAt b s
at_same a b s same at working = same_stage a b same ∙ at (sym same.failed ∙ working)

-- what was known is known
pub known_before : (a b : Shown) → KeepsTheStage a b → is_some b.handshake.peer_initial_tsn ≡ true
    → is_some a.handshake.peer_initial_tsn ≡ true
known_before a b same known = ap (λ (s : Stage). s.knows) (sym (same_stage a b same)) ∙ known

-- no chunk makes an association fail or lose its peer
pub works_on : (c : Chunk) (a b : Shown) → Leaves c a b → KeepsWorking a b
works_on (chunks.Data x) a b h = record { failed = h.failed; lost = h.lost; size = h.size }
works_on (chunks.SelectiveAck x) a b h = record { failed = h.failed; lost = h.lost; size = h.size }
works_on (chunks.Init x) a b h = h
works_on (chunks.InitAck x) a b h = h
works_on (chunks.Heartbeat x) a b h = h
works_on (chunks.HeartbeatAck x) a b h = h
works_on (chunks.Abort x) a b h = h
works_on (chunks.Shutdown x) a b h = h
works_on chunks.ShutdownAck a b h = h
works_on (chunks.Error x) a b h = h
works_on (chunks.CookieEcho x) a b h = h
works_on chunks.CookieAck a b h = h
works_on chunks.ShutdownComplete a b h = h
works_on (chunks.Reconfig x) a b h = record { failed = h.failed; lost = h.lost; size = h.size }
works_on (chunks.ForwardTsn x) a b h = record { failed = h.failed; lost = h.lost; size = h.size }
works_on (chunks.IForwardTsn x) a b h = record { failed = h.failed; lost = h.lost; size = h.size }
works_on (chunks.Other kind flags value) a b h = h
