-- A chunk of the other side's handshake comes to one association.
use Rattle.std.proofs.Common.{◌≡◌, sym, ap, ◌∙◌, subst, ⊎_elim, inl, inr, ℕ, true, false, List, [], ◌∷◌, is_some}
use Rattle.std.proofs.lemmas.Bool.{cases_Bool}
use Rattle.sctp_wire_types.specs.declared.chunk.Chunk.{Chunk}
use Rattle.sctp_wire_types.specs.declared.packet.CommonHeader.{CommonHeader}
use Rattle.sctp_directions.specs.Acts.{Act, History, Parts, done_all}
use Rattle.sctp_assoc.specs.Leads.{parts}
use Rattle.sctp_assoc.specs.Happened.{acts_of_chunk}
use Rattle.sctp_sides.specs.Meeting.{Greets, IsLearning, MayHear, stage_of}
use Rattle.sctp_sides.specs.PastSpan.{ResetsPastOnly}
use Rattle.sctp_sides.specs.SideLaws.{TakesChunk}
use Rattle.sctp_assoc.specs.Shown.{Shown}
use Rattle.sctp_directions.proofs.Proved.{peer_known_is_no_event}
use Rattle.sctp_pair.proofs.BetweenDirections.{By, Holds, Surroundings, moved}
use Rattle.sctp_pair.proofs.HandshakeStages.{goes_through, meets_on, works_on}
use Rattle.sctp_pair.proofs.BetweenChunks.{Underway}

-- What a greeting leaves of the directions: they hold the association as before, and what is known of the peer is true.
record KeepsHolding (x : Surroundings) (b : Shown) (k : History) : Type 0 where
  pub holds : Holds x (parts b k)
  pub peer_is : is_some b.handshake.peer_initial_tsn ≡ true → k.peer ≡ x.peer

-- the peer's initial TSN becomes known before anything came
learnt : (x : Surroundings) {B : By → ℕ → Type 0} (acts : List Act) {a b : Shown} (k : History) (u : Underway x B a)
    → parts b k ≡ done_all acts (parts a u.stands.past) → IsLearning x.peer acts a b
    → KeepsHolding (moved x u.out2 u.coming2) b k
learnt x acts {a} {b} k u is (inl (none, same)) =
    let left : parts b k ≡ parts a u.stands.past =
    is ∙ ap (λ (xs : List Act). done_all xs (parts a u.stands.past)) none in
    record {
      holds = subst (Holds (moved x u.out2 u.coming2)) (sym left) u.holds;
      peer_is = λ known. ap (λ (p : Parts). p.history.peer) left ∙ u.stands.peer_is (ap is_some (sym same) ∙ known);
    }
learnt x acts {a} {b} k u is (inr (met, deaf)) =
    let p : Parts = parts a u.stands.past in
    let left : parts b k ≡ done_all (Act.PeerKnown x.peer ∷ []) (parts a u.stands.past) =
    is ∙ ap (λ (xs : List Act). done_all xs (parts a u.stands.past)) met in
    let never : x.there.completed ≡ false = ⊎_elim
    (λ (t : x.there.completed ≡ true). absurd (deaf (u.meets.hears t)))
    (λ (f : x.there.completed ≡ false). f)
    (cases_Bool x.there.completed) in
    record {
      holds = subst (Holds (moved x u.out2 u.coming2)) (sym left) record {
        own_is = u.holds.own_is;
        sound_out = u.holds.sound_out;
        sound_coming = u.holds.sound_coming;
        between = record {
          outgoing = u.holds.between.outgoing;
          incoming =
              peer_known_is_no_event p x.peer u.coming2 (u.silent never) u.holds.sound_coming.invariant
              u.holds.between.incoming;
        };
        in_order = u.holds.in_order;
        reads_open = u.holds.reads_open;
        other = u.holds.other;
      };
      peer_is = λ known. ap (λ (p : Parts). p.history.peer) left;
    }

-- The handshake goes on, and the directions stay.
pub greet_step : {x : Surroundings} {B : By → ℕ → Type 0} (header : CommonHeader) (c : Chunk) {a b : Shown}
    → TakesChunk header c a b → Greets x.peer x.there c → (u : Underway x B a) → ResetsPastOnly u.coming2.over b
    → Underway x B b
greet_step {x} header c {a} {b} takes greeting u past =
    let g = takes.greets x.own x.peer x.there greeting u.meets.one u.stands.truthful u.stands.come in
    let works = works_on c a b takes.leaves in
    let leads = takes.leads u.stands.past u.stands.binds in
    let kept : KeepsHolding (moved x u.out2 u.coming2) b leads.0 =
    learnt x (acts_of_chunk a header c) leads.0 u leads.1.there g.learns in
    record {
      out2 = u.out2;
      coming2 = u.coming2;
      goes_out = u.goes_out;
      goes_coming = u.goes_coming;
      within_out = u.within_out;
      within_coming = u.within_coming;
      both = u.both;
      places_same = u.places_same;
      coming_still = u.coming_still;
      silent = u.silent;
      goes = goes_through x.here (stage_of a) (stage_of b) u.goes g.goes;
      meets = meets_on (stage_of a) x.there (stage_of b) g.goes
          (λ done. ⊎_elim (λ (before : a.handshake.completed ≡ true). u.meets.heard before)
          (λ (m : MayHear x.there). m) (g.completes done)) u.meets;
      stands = record {
        past = leads.0;
        own_is = kept.holds.own_is;
        peer_is = kept.peer_is;
        binds = leads.1.binds;
        working = works.failed ∙ u.stands.working;
        come = g.come;
        present = works.lost ∙ u.stands.present;
        truthful = g.truthful;
        size = u.stands.size ∙ sym works.size;
        between = kept.holds.between;
        in_order = kept.holds.in_order;
        reads_open = kept.holds.reads_open;
        resets = past;
      };
      holds = kept.holds;
    }
