-- What a side's packets of a handshake say goes on to be so.
use Rattle.std.proofs.Common.{◌≡◌, sym, ap, ◌∙◌, subst, ◌⊎◌, inl, inr, ℕ, true, [], ◌∷◌, ◌++◌, is_some}
use Rattle.sctp_wire_types.specs.declared.chunk.Chunk.{Chunk}
use Rattle.std.specs.List.{AllByRecursion}
use Rattle.sctp_wire_types.specs.declared.chunk.Chunk.TheVariants as chunks
use Rattle.sctp_wire_types.specs.declared.ids.Side.TheVariants as sides
use Rattle.sctp_model.proofs.Lists.{all_join, all_weaker}
use Rattle.sctp_inbound.specs.declared.handshake.Handshake.{Handshake}
use Rattle.sctp_assoc.specs.declared.control.Control.{Control}
use Rattle.sctp_assoc.specs.declared.control.Control.TheVariants as controls
use Rattle.sctp_sides.specs.Meeting.{Greets, IsNoEarlier, IsTruthful, SaysWhatIsSo, Stage, WaitsTruthfully, stage_of}
use Rattle.sctp_assoc.specs.Gather.{IsPlainControl}
use Rattle.sctp_sides.specs.SideLaws.{GreetingsStayTrue}
use Rattle.sctp_assoc.specs.Shown.{Shown}

-- what a side said stays so in its later stages
pub greetings_stay_true : GreetingsStayTrue
greetings_stay_true own s t (chunks.Init x) g (e, side) = (e, g.side ∙ side)
greetings_stay_true own s t (chunks.InitAck x) g h = h
greetings_stay_true own s t (chunks.CookieEcho x) g (side, known) = (g.side ∙ side, g.knows known)
greetings_stay_true own s t chunks.CookieAck g done = g.completed done
greetings_stay_true own s t (chunks.Data x) g n = absurd n
greetings_stay_true own s t (chunks.SelectiveAck x) g n = absurd n
greetings_stay_true own s t (chunks.Heartbeat x) g n = absurd n
greetings_stay_true own s t (chunks.HeartbeatAck x) g n = absurd n
greetings_stay_true own s t (chunks.Abort x) g n = tt
greetings_stay_true own s t (chunks.Shutdown x) g n = tt
greetings_stay_true own s t chunks.ShutdownAck g n = tt
greetings_stay_true own s t (chunks.Error x) g n = tt
greetings_stay_true own s t chunks.ShutdownComplete g n = tt
greetings_stay_true own s t (chunks.Reconfig x) g n = absurd n
greetings_stay_true own s t (chunks.ForwardTsn x) g n = absurd n
greetings_stay_true own s t (chunks.IForwardTsn x) g n = absurd n
greetings_stay_true own s t (chunks.Other kind flags value) g n = absurd n

-- so does what waits to go out
says_still : (own : ℕ) (s t : Stage) (chunk : Chunk) → IsNoEarlier s t → SaysWhatIsSo own s chunk
    → SaysWhatIsSo own t chunk
says_still own s t (chunks.Reconfig x) g said = tt
says_still own s t (chunks.Data x) g said = greetings_stay_true own s t (chunks.Data x) g said
says_still own s t (chunks.SelectiveAck x) g said = greetings_stay_true own s t (chunks.SelectiveAck x) g said
says_still own s t (chunks.Init x) g said = greetings_stay_true own s t (chunks.Init x) g said
says_still own s t (chunks.InitAck x) g said = greetings_stay_true own s t (chunks.InitAck x) g said
says_still own s t (chunks.CookieEcho x) g said = greetings_stay_true own s t (chunks.CookieEcho x) g said
says_still own s t chunks.CookieAck g said = greetings_stay_true own s t chunks.CookieAck g said
says_still own s t (chunks.Heartbeat x) g said = greetings_stay_true own s t (chunks.Heartbeat x) g said
says_still own s t (chunks.HeartbeatAck x) g said = greetings_stay_true own s t (chunks.HeartbeatAck x) g said
says_still own s t (chunks.Abort x) g said = greetings_stay_true own s t (chunks.Abort x) g said
says_still own s t (chunks.Shutdown x) g said = greetings_stay_true own s t (chunks.Shutdown x) g said
says_still own s t chunks.ShutdownAck g said = greetings_stay_true own s t chunks.ShutdownAck g said
says_still own s t (chunks.Error x) g said = greetings_stay_true own s t (chunks.Error x) g said
says_still own s t chunks.ShutdownComplete g said = greetings_stay_true own s t chunks.ShutdownComplete g said
says_still own s t (chunks.ForwardTsn x) g said = greetings_stay_true own s t (chunks.ForwardTsn x) g said
says_still own s t (chunks.IForwardTsn x) g said = greetings_stay_true own s t (chunks.IForwardTsn x) g said
says_still own s t (chunks.Other kind flags value) g said =
    greetings_stay_true own s t (chunks.Other kind flags value) g said

waits_still : (own : ℕ) (s t : Stage) (c : Control) → IsNoEarlier s t → WaitsTruthfully own s c
    → WaitsTruthfully own t c
waits_still own s t (controls.Packet c) g said = says_still own s t c.chunk g said
waits_still own s t controls.OwnRequest g said = tt

-- What b keeps of what a says.
pub record KeepsSaying (a b : Shown) : Type 0 where
  pub tsn : b.handshake.my_initial_tsn ≡ a.handshake.my_initial_tsn
  pub goes : IsNoEarlier (stage_of a) (stage_of b)
  pub offers : is_some b.handshake.offer ≡ true → is_some a.handshake.offer ≡ true
  pub echoes : is_some b.handshake.echo ≡ true
      → (is_some a.handshake.echo ≡ true) ⊎ ((b.side ≡ sides.Client) × (is_some b.handshake.peer_initial_tsn ≡ true))

-- the same side with the same handshake says what it said
pub same_stage : (a b : Shown) → b.side ≡ a.side → b.handshake ≡ a.handshake → IsNoEarlier (stage_of a) (stage_of b)
same_stage a b side same = record {
  side = side;
  knows = λ k. ap (λ (h : Handshake). is_some h.peer_initial_tsn) same ∙ k;
  completed = λ d. ap (λ (h : Handshake). h.completed) same ∙ d;
}

pub keeps_saying : (a b : Shown) → b.side ≡ a.side → b.handshake ≡ a.handshake → KeepsSaying a b
keeps_saying a b side same = record {
  tsn = ap (λ (h : Handshake). h.my_initial_tsn) same;
  goes = same_stage a b side same;
  offers = λ o. ap (λ (h : Handshake). is_some h.offer) (sym same) ∙ o;
  echoes = λ x. inl (ap (λ (h : Handshake). is_some h.echo) (sym same) ∙ x);
}

echoes_on : (own : ℕ) (a b : Shown) → IsTruthful own a → KeepsSaying a b → is_some b.handshake.echo ≡ true
    → (b.side ≡ sides.Client) × (is_some b.handshake.peer_initial_tsn ≡ true)
echoes_on own a b t k e = by_case (k.echoes e)
  where
    by_case : (is_some a.handshake.echo ≡ true)
        ⊎ ((b.side ≡ sides.Client) × (is_some b.handshake.peer_initial_tsn ≡ true))
        → (b.side ≡ sides.Client) × (is_some b.handshake.peer_initial_tsn ≡ true)
    by_case (inl there) = (k.goes.side ∙ (t.echoes there).0, k.goes.knows (t.echoes there).1)
    by_case (inr new) = new

says_on : (own : ℕ) (a b : Shown) → IsTruthful own a → KeepsSaying a b
    → AllByRecursion (WaitsTruthfully own (stage_of b)) a.control
says_on own a b t k =
    all_weaker (WaitsTruthfully own (stage_of a)) (WaitsTruthfully own (stage_of b)) a.control
    (λ c said. waits_still own (stage_of a) (stage_of b) c k.goes said) t.says

-- what waits is truthful and plain
pub truthful_by : (own : ℕ) (a b : Shown) → IsTruthful own a → KeepsSaying a b
    → AllByRecursion (WaitsTruthfully own (stage_of b)) b.control → AllByRecursion IsPlainControl b.control
    → IsTruthful own b
truthful_by own a b t k says plain = record {
  tsn = k.tsn ∙ t.tsn;
  says = says;
  plain = plain;
  offers = λ e. k.goes.side ∙ t.offers (k.offers e);
  echoes = λ e. echoes_on own a b t k e;
}

-- nothing more waits
pub truthful_still : (own : ℕ) (a b : Shown) → IsTruthful own a → KeepsSaying a b → b.control ≡ a.control
    → IsTruthful own b
truthful_still own a b t k same =
    truthful_by own a b t k
    (subst (AllByRecursion (WaitsTruthfully own (stage_of b))) (sym same) (says_on own a b t k))
    (subst (AllByRecursion IsPlainControl) (sym same) t.plain)

-- some of what waits does no more
pub truthful_still_by : (own : ℕ) (a b : Shown) → IsTruthful own a → KeepsSaying a b
    → ((P : Control → Type 0) → AllByRecursion P a.control → AllByRecursion P b.control) → IsTruthful own b
truthful_still_by own a b t k fewer =
    truthful_by own a b t k (fewer (WaitsTruthfully own (stage_of b)) (says_on own a b t k))
    (fewer IsPlainControl t.plain)

-- something more waits
pub truthful_with : (own : ℕ) (a b : Shown) (c : Control) → IsTruthful own a → KeepsSaying a b
    → b.control ≡ a.control ++ c ∷ [] → WaitsTruthfully own (stage_of b) c → IsPlainControl c → IsTruthful own b
truthful_with own a b c t k grown said plain =
    truthful_by own a b t k
    (subst (AllByRecursion (WaitsTruthfully own (stage_of b))) (sym grown)
    (all_join (WaitsTruthfully own (stage_of b)) a.control (c ∷ []) (says_on own a b t k) (said, tt)))
    (subst (AllByRecursion IsPlainControl) (sym grown)
    (all_join IsPlainControl a.control (c ∷ []) t.plain (plain, tt)))

-- nothing waits
pub truthful_silent : (own : ℕ) (a b : Shown) → IsTruthful own a → KeepsSaying a b → b.control ≡ [] → IsTruthful own b
truthful_silent own a b t k none =
    truthful_by own a b t k (subst (AllByRecursion (WaitsTruthfully own (stage_of b))) (sym none) tt)
    (subst (AllByRecursion IsPlainControl) (sym none) tt)
