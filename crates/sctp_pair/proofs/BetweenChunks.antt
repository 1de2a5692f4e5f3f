-- How an association stands between two chunks of a packet.
use Rattle.std.proofs.Common.{◌≡◌, sym, ◌∙◌, subst, ℕ}
use Rattle.sctp_model.specs.Machine.{Direction}
use Rattle.sctp_model.specs.Safe.{IsWithin}
use Rattle.sctp_assoc.specs.Leads.{Binds, parts}
use Rattle.sctp_directions.specs.Acts.{History}
use Rattle.sctp_sides.specs.Meeting.{IsNoEarlier, Stage, stage_of}
use Rattle.sctp_sides.specs.PastSpan.{ResetsPastOnly}
use Rattle.sctp_sides.specs.SideLaws.{KeepsTheStage}
use Rattle.sctp_assoc.specs.Shown.{Shown}
use Rattle.sctp_pair.specs.Fits.{IsSilent, StagesAgree, StandsOpen}
use Rattle.sctp_pair.proofs.BetweenDirections.{By, Goes, Holds, None_brought, OpenAt, Surroundings, moved}
use Rattle.sctp_pair.proofs.HandshakeStages.{come_on, known_before, same_stage}

-- Between two chunks of a packet: the association is open, stands between directions to which the packet led so far,
-- and is in a stage to which it led.
pub record Underway (x : Surroundings) (B : By → ℕ → Type 0) (a : Shown) : Type 0 where
  pub out2 : Direction
  pub coming2 : Direction
  pub goes_out : Goes None_brought x.out out2
  pub goes_coming : Goes B x.coming coming2
  pub within_out : IsWithin out2
  pub within_coming : IsWithin coming2
  pub both : (s : ℕ) → out2.over s ≡ coming2.over s
  pub places_same : out2.sender.plan.places ≡ x.out.sender.plan.places
  pub coming_still : coming2.sender ≡ x.coming.sender
  pub silent : IsSilent x.there coming2
  pub goes : IsNoEarlier x.here (stage_of a)
  pub meets : StagesAgree (stage_of a) x.there
  pub stands : OpenAt (moved x out2 coming2) a
  pub holds : Holds (moved x out2 coming2) (parts a stands.past)

-- the same association, or one that differs beside its directions, stands open where its parts hold
unfoldable pub stands_by : (x : Surroundings) {a b : Shown} (k : History) {out coming : Direction}
    → (s : StandsOpen x.loose x.own x.peer a out coming) → KeepsTheStage a b → ResetsPastOnly x.coming.over b
    → Binds b k → (k.peer ≡ s.past.peer) → x.out.sender.plan.size ≡ out.sender.plan.size → Holds x (parts b k)
    → OpenAt x b
stands_by x {a} {b} k s same past binds met size h = record {
  past = k;
  own_is = h.own_is;
  peer_is = λ known. met ∙ s.peer_is (known_before a b same known);
  binds = binds;
  working = same.failed ∙ s.working;
  come = come_on a b same s.come;
  present = same.lost ∙ s.present;
  truthful = same.truthful x.own s.truthful;
  size = size ∙ s.size ∙ sym same.size;
  between = h.between;
  in_order = h.in_order;
  reads_open = h.reads_open;
  resets = past;
}

-- where the stage is kept, so is what it says
pub goes_same : {here : Stage} (a b : Shown) → KeepsTheStage a b → IsNoEarlier here (stage_of a)
    → IsNoEarlier here (stage_of b)
goes_same {here} a b same g = subst (IsNoEarlier here) (sym (same_stage a b same)) g

pub meets_same : {there : Stage} (a b : Shown) → KeepsTheStage a b → StagesAgree (stage_of a) there
    → StagesAgree (stage_of b) there
meets_same {there} a b same m = subst (λ (s : Stage). StagesAgree s there) (sym (same_stage a b same)) m
