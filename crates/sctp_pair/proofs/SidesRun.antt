-- What one side of a pair does is a run of one association.
use Rattle.std.proofs.Common.{◌≡◌, refl, sym, ap, ◌∙◌, subst, inl, inr, ℕ, ◌<◌, arith, Bool, List, [], ◌∷◌, ◌++◌}
use Rattle.std.proofs.Common.{length, Option, Some, None}
use Rattle.std.specs.Prelude.{slice_get}
use Rattle.std.specs.declared.net.socket_addr.SocketAddr.{SocketAddr}
use Rattle.std.proofs.lemmas.Bool.{false≢true}
use Rattle.std.proofs.lemmas.List.{append_assoc, append-nil, get_or_append_left, length-append}
use Rattle.std.proofs.lemmas.Option.{get_or_from_slice_get, slice_get-get_or, slice_get_within}
use Rattle.sctp_model.specs.Machine.{Direction}
use Rattle.sctp_directions.specs.Acts.{History}
use Rattle.sctp_assoc.specs.declared.call.Call.{Call}
use Rattle.sctp_assoc.specs.declared.call.Call.TheVariants as calls
use Rattle.sctp_assoc.specs.declared.call.Reply.{Reply}
use Rattle.sctp_assoc.specs.declared.call.Reply.TheVariants as replies
use Rattle.sctp_assoc.specs.Abstract.{AbstractAssociation, IsRun, RunsOn, StepsOn, abstract}
use Rattle.sctp_assoc.specs.Leads.{Binds}
use Rattle.sctp_assoc.specs.Replies.{GivesOut, Replies, RepliesAlone}
use Rattle.sctp_assoc.specs.Shown.{Shown}
use Rattle.sctp_calls.proofs.AbstractRuns.{no_run}
use Rattle.sctp_calls.proofs.AbstractSteps.{steps_on}
use Rattle.sctp_sides.specs.OneSide.{IsFresh}
use Rattle.sctp_sides.proofs.Proved.{runs_keep_retries, runs_send_nothing_late}
use Rattle.sctp_steps.specs.declared.step.Side2.{Side2}
use Rattle.sctp_steps.specs.declared.step.Side2.TheVariants as sides
use Rattle.sctp_steps.specs.declared.step.Step.{Step}
use Rattle.sctp_steps.specs.declared.step.Step.TheVariants as steps
use Rattle.sctp_steps.specs.Ends.{Ends, end_of, packets_of}
use Rattle.sctp_pair.specs.Fits.{Stands}
use Rattle.sctp_pair.specs.Sides.{FreshSidesStand, SidesKeepRetries, SidesRunByTheirCalls, SidesSendNothingLate}
use Rattle.sctp_pair.specs.Sides.{answered, calls_at, calls_in, calls_of, calls_until, delivery, replies_in}
use Rattle.sctp_pair.specs.Sides.{replies_until}
use Rattle.sctp_steps.specs.Steps.{AtSide, ComesTo, Delivers, Runs, SendsAt, Steps}
use Rattle.sctp_steps.specs.Seen.{other_side}

-- Runs one after the other

run_joined : (cs ds : List Call) (rs qs : List Reply) (s u t : AbstractAssociation) (p m q : List (List ℕ))
    → IsRun cs s p rs u m → IsRun ds u m qs t q → IsRun (cs ++ ds) s p (rs ++ qs) t q
run_joined [] ds [] qs s u t p m q first second =
    subst (λ (z : AbstractAssociation). IsRun ds z p qs t q) first.0
    (subst (λ (z : List (List ℕ)). IsRun ds u z qs t q) first.1 second)
run_joined [] ds (r ∷ rs) qs s u t p m q first second = absurd first
run_joined (c ∷ cs) ds [] qs s u t p m q first second = absurd first
run_joined (c ∷ cs) ds (r ∷ rs) qs s u t p m q (v, n, step, others) second =
    (v, n, step, run_joined cs ds rs qs v u t n m q others second)

runs_on_joined : (cs ds : List Call) (rs qs : List Reply) (a b d : Shown) (p m q : List (List ℕ))
    → RunsOn cs a p rs b m → RunsOn ds b m qs d q → RunsOn (cs ++ ds) a p (rs ++ qs) d q
runs_on_joined cs ds rs qs a b d p m q first second = record {
  from = λ h stands.
      let one = first.from h stands in
      let two = second.from one.0 one.2 in (
        two.0,
        run_joined cs ds rs qs (abstract a h) (abstract b one.0) (abstract d two.0) p m q one.1 two.1,
        two.2,
      );
}

-- one step
one_on : (c : Call) (a b : Shown) (packets more : List (List ℕ)) (r : Reply) → StepsOn c a packets r b more
    → RunsOn (c ∷ []) a packets (r ∷ []) b more
one_on c a b packets more r step = record {
  from = λ h stands.
      let one = step.from h stands in (one.0, (abstract b one.0, more, one.1, (refl, refl)), one.2);
}

-- a call of a side, by its reply
replied_on : (c : Call) (a b : Shown) (packets more : List (List ℕ)) (r : Reply) → Replies c a packets r b more
    → RunsOn (c ∷ []) a packets (r ∷ []) b more
replied_on c a b packets more r h = one_on c a b packets more r (steps_on c a b packets more r h)

-- no call
nothing_on : (a b : Shown) (packets more : List (List ℕ)) → b ≡ a → more ≡ packets → RunsOn [] a packets [] b more
nothing_on a b packets more same none =
    subst (λ (c : Shown). RunsOn [] a packets [] c more) (sym same)
    (subst (λ (z : List (List ℕ)). RunsOn [] a packets [] a z) (sym none) (no_run a packets))

-- Packets that were given out

abbrev Extends : List (List ℕ) → List (List ℕ) → Type 0
Extends packets more = (given : List (List ℕ)) × (more ≡ packets ++ given)

extends_itself : (packets more : List (List ℕ)) → more ≡ packets → Extends packets more
extends_itself packets more e = ([], e ∙ sym (append-nil packets))

extends_on : (packets more all : List (List ℕ)) → Extends packets more → Extends more all → Extends packets all
extends_on packets more all (given, e) (others, f) =
    (given ++ others, f ∙ ap (λ (z : List (List ℕ)). z ++ others) e ∙ append_assoc packets given others)

found_in : (xs ys : List (List ℕ)) (n : ℕ) (x : List ℕ) → slice_get xs n ≡ Some x
    → slice_get (xs ++ ys) n ≡ Some x
found_in xs ys n x e =
    let within : n < length xs = slice_get_within xs n x e in
    let longer : n < length (xs ++ ys) = omega (arith, within, length-append xs ys) in
    slice_get-get_or (xs ++ ys) n x longer
    ∙ ap Some (get_or_append_left xs ys x n within ∙ get_or_from_slice_get xs n x x e)

found_there : (packets all : List (List ℕ)) (n : ℕ) (x : List ℕ) → Extends packets all → slice_get packets n ≡ Some x
    → slice_get all n ≡ Some x
found_there packets all n x (given, e) found =
    ap (λ (z : List (List ℕ)). slice_get z n) e ∙ found_in packets given n x found

poll_extends : (a b : Shown) (packets more : List (List ℕ)) (now : ℕ) (r : Reply) → GivesOut a packets now r b more
    → Extends packets more
poll_extends a b packets more now replies.NothingSent h = extends_itself packets more h.3
poll_extends a b packets more now (replies.Sent first count) h = (_, h.6)
poll_extends a b packets more now (replies.Refused n) (inl had) = extends_itself packets more had.1
poll_extends a b packets more now (replies.Refused n) (inr (inl fails)) = extends_itself packets more fails.2
poll_extends a b packets more now (replies.Refused n) (inr (inr loses)) = (_, loses.4.2)
poll_extends a b packets more now r h = absurd h

-- One step

-- From p to u side x made these calls, each answered so, and gave out more packets.
record Does (x : Side2) (r : Reply) (p u : Ends) (made : List Call) : Type 0 where
  runs : RunsOn made (end_of x p) (packets_of x p) (answered r made) (end_of x u) (packets_of x u)
  gives : Extends (packets_of x p) (packets_of x u)

rests : (x : Side2) (r : Reply) (p u : Ends) → end_of x u ≡ end_of x p → packets_of x u ≡ packets_of x p
    → Does x r p u []
rests x r p u same silent = record {
  runs = nothing_on (end_of x p) (end_of x u) (packets_of x p) (packets_of x u) same silent;
  gives = extends_itself (packets_of x p) (packets_of x u) silent;
}

calls_once : (x : Side2) (r : Reply) (p u : Ends) (call : Call)
    → Replies call (end_of x p) (packets_of x p) r (end_of x u) (packets_of x u)
    → Extends (packets_of x p) (packets_of x u) → Does x r p u (call ∷ [])
calls_once x r p u call h gives = record {
  runs = replied_on call (end_of x p) (end_of x u) (packets_of x p) (packets_of x u) r h;
  gives = gives;
}

-- and gave out none
calls_silently : (x : Side2) (r : Reply) (p u : Ends) (call : Call)
    → Replies call (end_of x p) (packets_of x p) r (end_of x u) (packets_of x p)
    → packets_of x u ≡ packets_of x p → Does x r p u (call ∷ [])
calls_silently x r p u call h silent =
    calls_once x r p u call
    (subst (λ (z : List (List ℕ)). Replies call (end_of x p) (packets_of x p) r (end_of x u) z) (sym silent) h)
    (extends_itself (packets_of x p) (packets_of x u) silent)

-- a packet of the other side comes, which is among all these
delivered : (x : Side2) (remote : SocketAddr) (all : List (List ℕ)) (p u : Ends) (number now : ℕ)
    → (found : Option (List ℕ)) (r : Reply) → slice_get (packets_of (other_side x) p) number ≡ found
    → Extends (packets_of (other_side x) p) all → Delivers (end_of x p) found now r (end_of x u)
    → packets_of x u ≡ packets_of x p → Does x r p u (delivery remote (slice_get all number) now r)
delivered x remote all p u number now None replies.NoSuchPacket e among h silent =
    rests x replies.NoSuchPacket p u h silent
delivered x remote all p u number now None r e among h silent = absurd h
delivered x remote all p u number now (Some datagram) replies.NoSuchPacket e among h silent = absurd h
delivered x remote all p u number now (Some datagram) r e among h silent =
    subst (λ (found : Option (List ℕ)). Does x r p u (delivery remote found now r))
    (sym (found_there (packets_of (other_side x) p) all number datagram among e))
    (calls_silently x r p u (calls.HandleDatagram datagram remote now) (h, refl) silent)

-- A step with this reply led from p to u.
module _ (remote : SocketAddr) (all : List (List ℕ)) (r : Reply) (p u : Ends) where
  at_side : (side here : Side2) (call : Call) (Changes : Shown → Shown → Type 0)
      → ((a b : Shown) (packets : List (List ℕ)) → Changes a b → Replies call a packets r b packets)
      → AtSide side p Changes u → Does here r p u (calls_of here (side, call ∷ []))
  at_side sides.A sides.A call Changes replied h =
      calls_silently sides.A r p u call (replied p.a u.a p.packets_a h.0) (ap (λ (z : Ends). z.packets_a) h.1)
  at_side sides.A sides.B call Changes replied h =
      rests sides.B r p u (ap (λ (z : Ends). z.b) h.1) (ap (λ (z : Ends). z.packets_b) h.1)
  at_side sides.B sides.A call Changes replied h =
      rests sides.A r p u (ap (λ (z : Ends). z.a) h.1) (ap (λ (z : Ends). z.packets_a) h.1)
  at_side sides.B sides.B call Changes replied h =
      calls_silently sides.B r p u call (replied p.b u.b p.packets_b h.0) (ap (λ (z : Ends). z.packets_b) h.1)

  sends_at : (side here : Side2) (now : ℕ) → SendsAt side p now r u
      → Does here r p u (calls_of here (side, calls.PollTransmit now ∷ []))
  sends_at sides.A sides.A now h =
      calls_once sides.A r p u (calls.PollTransmit now) h.0
      (poll_extends p.a u.a p.packets_a u.packets_a now r h.0)
  sends_at sides.A sides.B now h =
      rests sides.B r p u (ap (λ (z : Ends). z.b) h.1) (ap (λ (z : Ends). z.packets_b) h.1)
  sends_at sides.B sides.A now h =
      rests sides.A r p u (ap (λ (z : Ends). z.a) h.1) (ap (λ (z : Ends). z.packets_a) h.1)
  sends_at sides.B sides.B now h =
      calls_once sides.B r p u (calls.PollTransmit now) h.0
      (poll_extends p.b u.b p.packets_b u.packets_b now r h.0)

  comes_to : (side here : Side2) (number now : ℕ) → ComesTo side p number now r u
      → Extends (packets_of (other_side here) p) all
      → Does here r p u (calls_of here (side, delivery remote (slice_get all number) now r))
  comes_to sides.A sides.A number now h among =
      delivered sides.A remote all p u number now (slice_get p.packets_b number) r refl among h.0
      (ap (λ (z : Ends). z.packets_a) h.1)
  comes_to sides.A sides.B number now h among =
      rests sides.B r p u (ap (λ (z : Ends). z.b) h.1) (ap (λ (z : Ends). z.packets_b) h.1)
  comes_to sides.B sides.A number now h among =
      rests sides.A r p u (ap (λ (z : Ends). z.a) h.1) (ap (λ (z : Ends). z.packets_a) h.1)
  comes_to sides.B sides.B number now h among =
      delivered sides.B remote all p u number now (slice_get p.packets_a number) r refl among h.0
      (ap (λ (z : Ends). z.packets_b) h.1)

  -- a step is this call of one side
  calls_here : (x side : Side2) (call : Call)
      → ((a b : Shown) (packets : List (List ℕ)) → RepliesAlone call a r b → Replies call a packets r b packets)
      → AtSide side p (λ a b. RepliesAlone call a r b) u → Does x r p u (calls_of x (side, call ∷ []))
  calls_here x side call replied h = at_side side x call (λ a b. RepliesAlone call a r b) replied h

  step_does : (x : Side2) (step : Step) → Steps step p r u → Extends (packets_of (other_side x) p) all
      → Does x r p u (calls_at x remote all step r)
  step_does x (steps.OpenStream side id kind) h among =
      calls_here x side (calls.OpenStream id kind) (λ a b n c. (c, refl)) h
  step_does x (steps.Stream side id) h among = calls_here x side (calls.Stream id) (λ a b n c. (c, refl)) h
  step_does x (steps.AcceptStream side) h among = calls_here x side calls.AcceptStream (λ a b n c. (c, refl)) h
  step_does x (steps.StreamIds side) h among = calls_here x side calls.StreamIds (λ a b n c. (c, refl)) h
  step_does x (steps.SetMaxSendMessageSize side size) h among =
      calls_here x side (calls.SetMaxSendMessageSize size) (λ a b n c. (c, refl)) h
  step_does x (steps.Write side id bytes) h among = calls_here x side (calls.Write id bytes) (λ a b n c. (c, refl)) h
  step_does x (steps.WriteWithPpi side id bytes kind) h among =
      calls_here x side (calls.WriteWithPpi id bytes kind) (λ a b n c. (c, refl)) h
  step_does x (steps.WriteSctp side id bytes kind) h among =
      calls_here x side (calls.WriteSctp id bytes kind) (λ a b n c. (c, refl)) h
  step_does x (steps.WriteChunk side id bytes) h among =
      calls_here x side (calls.WriteChunk id bytes) (λ a b n c. (c, refl)) h
  step_does x (steps.WriteChunks side id chunks) h among =
      calls_here x side (calls.WriteChunks id chunks) (λ a b n c. (c, refl)) h
  step_does x (steps.Read side id) h among = calls_here x side (calls.Read id) (λ a b n c. (c, refl)) h
  step_does x (steps.ReadSctp side id) h among = calls_here x side (calls.ReadSctp id) (λ a b n c. (c, refl)) h
  step_does x (steps.Finish side id) h among = calls_here x side (calls.Finish id) (λ a b n c. (c, refl)) h
  step_does x (steps.Stop side id) h among = calls_here x side (calls.Stop id) (λ a b n c. (c, refl)) h
  step_does x (steps.CloseStream side id) h among = calls_here x side (calls.CloseStream id) (λ a b n c. (c, refl)) h
  step_does x (steps.SetReliabilityParams side id unordered kind value) h among =
      calls_here x side (calls.SetReliabilityParams id unordered kind value) (λ a b n c. (c, refl)) h
  step_does x (steps.SetDefaultPayloadType side id kind) h among =
      calls_here x side (calls.SetDefaultPayloadType id kind) (λ a b n c. (c, refl)) h
  step_does x (steps.SetBufferedAmountLowThreshold side id bytes) h among =
      calls_here x side (calls.SetBufferedAmountLowThreshold id bytes) (λ a b n c. (c, refl)) h
  step_does x (steps.SetBufferedAmountHighThreshold side id bytes) h among =
      calls_here x side (calls.SetBufferedAmountHighThreshold id bytes) (λ a b n c. (c, refl)) h
  step_does x (steps.StreamStats side id) h among = calls_here x side (calls.StreamStats id) (λ a b n c. (c, refl)) h
  step_does x (steps.IsReadable side id) h among = calls_here x side (calls.IsReadable id) (λ a b n c. (c, refl)) h
  step_does x (steps.IsWritable side id) h among = calls_here x side (calls.IsWritable id) (λ a b n c. (c, refl)) h
  step_does x (steps.StreamIdentifier side id) h among =
      calls_here x side (calls.StreamIdentifier id) (λ a b n c. (c, refl)) h
  step_does x (steps.GetDefaultPayloadType side id) h among =
      calls_here x side (calls.GetDefaultPayloadType id) (λ a b n c. (c, refl)) h
  step_does x (steps.BufferedAmountLowThreshold side id) h among =
      calls_here x side (calls.BufferedAmountLowThreshold id) (λ a b n c. (c, refl)) h
  step_does x (steps.BufferedAmountHighThreshold side id) h among =
      calls_here x side (calls.BufferedAmountHighThreshold id) (λ a b n c. (c, refl)) h
  step_does x (steps.Shutdown side) h among = calls_here x side calls.Shutdown (λ a b n c. (c, refl)) h
  step_does x (steps.Close side) h among = calls_here x side calls.Close (λ a b n c. (c, refl)) h
  step_does x (steps.BufferedAmount side id) h among =
      calls_here x side (calls.BufferedAmount id) (λ a b n c. (c, refl)) h
  step_does x (steps.Poll side) h among = calls_here x side calls.Poll (λ a b n c. (c, refl)) h
  step_does x (steps.PollEndpointEvent side) h among =
      calls_here x side calls.PollEndpointEvent (λ a b n c. (c, refl)) h
  step_does x (steps.PollTimeout side) h among = calls_here x side calls.PollTimeout (λ a b n c. (c, refl)) h
  step_does x (steps.PollTransmit side now) h among = sends_at side x now h
  step_does x (steps.HandleTimeout side now) h among =
      calls_here x side (calls.HandleTimeout now) (λ a b n c. (c, refl)) h
  step_does x (steps.Deliver side number now) h among = comes_to side x number now h among
  step_does x (steps.IsHandshaking side) h among = calls_here x side calls.IsHandshaking (λ a b n c. (c, refl)) h
  step_does x (steps.IsClosed side) h among = calls_here x side calls.IsClosed (λ a b n c. (c, refl)) h
  step_does x (steps.IsClosing side) h among = calls_here x side calls.IsClosing (λ a b n c. (c, refl)) h
  step_does x (steps.IsDrained side) h among = calls_here x side calls.IsDrained (λ a b n c. (c, refl)) h
  step_does x (steps.IsFailed side) h among = calls_here x side calls.IsFailed (λ a b n c. (c, refl)) h
  step_does x (steps.Rtt side) h among = calls_here x side calls.Rtt (λ a b n c. (c, refl)) h
  step_does x (steps.Stats side) h among = calls_here x side calls.Stats (λ a b n c. (c, refl)) h
  step_does x (steps.Side side) h among = calls_here x side calls.Side (λ a b n c. (c, refl)) h
  step_does x (steps.RemoteAddr side) h among = calls_here x side calls.RemoteAddr (λ a b n c. (c, refl)) h
  step_does x (steps.LocalIp side) h among = calls_here x side calls.LocalIp (λ a b n c. (c, refl)) h

-- A run

run_extends : (x : Side2) (remote : SocketAddr) (ss : List Step) (rs : List Reply) (p q : Ends) → Runs ss rs p q
    → Extends (packets_of x p) (packets_of x q)
run_extends x remote [] [] p q h = extends_itself (packets_of x p) (packets_of x q) (ap (packets_of x) h)
run_extends x remote [] (r ∷ rs) p q h = absurd h
run_extends x remote (s ∷ ss) [] p q h = absurd h
run_extends x remote (s ∷ ss) (r ∷ rs) p q (u, step, more) =
    let others = packets_of (other_side x) p in
    extends_on (packets_of x p) (packets_of x u) (packets_of x q)
    (step_does remote others r p u x s step (extends_itself others others refl)).gives
    (run_extends x remote ss rs u q more)

side_runs : (x : Side2) (remote : SocketAddr) (all : List (List ℕ)) (ss : List Step) (rs : List Reply) (p q : Ends)
    → Runs ss rs p q → Extends (packets_of (other_side x) q) all
    → RunsOn (calls_in x remote all ss rs) (end_of x p) (packets_of x p) (replies_in x remote all ss rs) (end_of x q)
    (packets_of x q)
side_runs x remote all [] [] p q h among =
    nothing_on (end_of x p) (end_of x q) (packets_of x p) (packets_of x q) (ap (end_of x) h) (ap (packets_of x) h)
side_runs x remote all [] (r ∷ rs) p q h among = absurd h
side_runs x remote all (s ∷ ss) [] p q h among = absurd h
side_runs x remote all (s ∷ ss) (r ∷ rs) p q (u, step, more) among =
    let y = other_side x in
    let before = extends_on (packets_of y p) (packets_of y q) all
    (run_extends y remote (s ∷ ss) (r ∷ rs) p q (u, step, more)) among in
    runs_on_joined (calls_at x remote all s r) (calls_in x remote all ss rs)
    (answered r (calls_at x remote all s r)) (replies_in x remote all ss rs) (end_of x p) (end_of x u) (end_of x q)
    (packets_of x p) (packets_of x u) (packets_of x q) (step_does remote all r p u x s step before).runs
    (side_runs x remote all ss rs u q more among)

pub sides_run_by_their_calls : SidesRunByTheirCalls
sides_run_by_their_calls x remote ss rs p q h =
    let given = packets_of (other_side x) q in
    side_runs x remote given ss rs p q h (extends_itself given given refl)

-- Retries and deadlines

fresh_stands : (a c : Shown) → a ≡ c → IsFresh a
    → {loose : ℕ → Bool} {own peer : ℕ} {out coming : Direction} → Stands loose own peer c out coming
    → (h : History) × Binds a h
fresh_stands a c e fresh (inl stands) =
    (stands.past, subst (λ (z : Shown). Binds z stands.past) (sym e) stands.binds)
fresh_stands a c e fresh (inr (inl closed)) =
    absurd (false≢true (sym fresh.not_lost ∙ ap (λ (z : Shown). z.lost) e ∙ closed.lost))
fresh_stands a c e fresh (inr (inr failed)) =
    absurd (false≢true (sym fresh.working ∙ ap (λ (z : Shown). z.failed) e ∙ failed.failed))

pub fresh_sides_stand : FreshSidesStand
fresh_sides_stand sides.A p w fits fresh =
    fresh_stands p.a w.ends.a (ap (λ (z : Ends). z.a) fits.stand.is) fresh fits.stand.side_a
fresh_sides_stand sides.B p w fits fresh =
    fresh_stands p.b w.ends.b (ap (λ (z : Ends). z.b) fits.stand.is) fresh fits.stand.side_b

pub sides_keep_retries : SidesKeepRetries
sides_keep_retries x remote ss rs p q h run stands works fresh uses =
    runs_keep_retries (calls_until x remote ss rs q) (replies_until x remote ss rs q) (end_of x p) (end_of x q)
    (packets_of x p) (packets_of x q) h (sides_run_by_their_calls x remote ss rs p q run) stands works fresh uses

pub sides_send_nothing_late : SidesSendNothingLate
sides_send_nothing_late x remote ss rs p q h before after now run e stands nothing =
    runs_send_nothing_late before after now (replies_until x remote ss rs q) (end_of x p) (end_of x q)
    (packets_of x p) (packets_of x q) h
    (subst
    (λ (made : List Call). RunsOn made (end_of x p) (packets_of x p) (replies_until x remote ss rs q) (end_of x q)
    (packets_of x q)) e (sides_run_by_their_calls x remote ss rs p q run))
    stands nothing
