-- What waits in front of DATA changes no more than itself and the requests of this side, on which nothing else of a
-- poll rests.
use Rattle.std.proofs.Common.{◌≡◌, ◌∙◌, ap, refl, sym, subst, ℕ, Bool, true, false, ◌||◌, ◌&&◌, ◌++◌, ◌∷◌, fold}
use Rattle.std.proofs.Common.{List, [], length, nat_lt, Option, Some, None}
use Rattle.std.proofs.lemmas.Bool.{or_left, or_right}
use Rattle.sctp_wire_types.specs.declared.param.ParamOutgoingResetRequest.{ParamOutgoingResetRequest}
use Rattle.sctp_reset_requests.specs.Own.{OwnView, sent_first}
use Rattle.sctp_resets.specs.Resets.{with_own}
use Rattle.sctp_assoc.specs.declared.control.Control.{Control}
use Rattle.sctp_assoc.specs.declared.control.Control.TheVariants as controls
use Rattle.sctp_assoc.specs.Calls.{exchanges_data}
use Rattle.sctp_assoc.specs.Gather.{PollIsReadAgain, ack_polled, control_polled, data_polled, exchange_gives}
use Rattle.sctp_assoc.specs.Gather.{exchange_polled}
use Rattle.sctp_assoc.specs.Gather.{has_something_to_give, with_control_given, with_request_placed, without_control}
use Rattle.sctp_assoc.specs.Shown.{Shown}
use Rattle.sctp_assoc.specs.Shutdown.{gives_shutdown}
use Rattle.sctp_assoc.proofs.MemoryTaken.{none_longer}
use Rattle.sctp_assoc.proofs.PacketsReadAgain.{ack_again_before, forward_again_as}
use Rattle.sctp_assoc.proofs.PartsOfPolls.{LeavesTheRest, ack_sender, left_back}

-- with these requests of its own, and this in front of DATA
abbrev pub with_own_control : Shown → OwnView → List Control → Shown
with_own_control a own control = record a { resets = (let r = a.resets in record r { own = own }); control = control }

-- nothing else changed
abbrev pub ChangesControl : Shown → Shown → Type 0
ChangesControl a b = b ≡ with_own_control a b.resets.own b.control

placed_changes : (a b : Shown) (packets : List (List ℕ)) (own : OwnView) (param : Option ParamOutgoingResetRequest)
    → ChangesControl a b
    → ChangesControl a (with_request_placed (b, packets) (with_own b.resets (own, param))).0
placed_changes a b packets own None e =
    ap (λ (z : Shown). with_own_control z own (b.control ++ controls.OwnRequest ∷ [])) e
placed_changes a b packets own (Some param) e = ap (λ (z : Shown). with_own_control z own b.control) e

given_changes : (a : Shown) (x : Shown × List (List ℕ)) (c : Control) → ChangesControl a x.0
    → ChangesControl a (with_control_given x c).0
given_changes a (b, packets) (controls.Packet c) e = e
given_changes a (b, packets) controls.OwnRequest e =
    let sent = sent_first b.resets.own b.sender.queue in
    placed_changes a b packets sent.0 sent.1 e

all_change : (cs : List Control) (a : Shown) (x : Shown × List (List ℕ)) → ChangesControl a x.0
    → ChangesControl a (fold with_control_given x cs).0
all_change [] a x e = e
all_change (c ∷ cs) a x e = all_change cs a (with_control_given x c) (given_changes a x c e)

pub control_changes : (a : Shown) → ChangesControl (without_control a) (control_polled a).0
control_changes a = all_change a.control (without_control a) (without_control a, []) refl

pub data_poll_leaves : (a : Shown) (own : OwnView) (control : List Control) (now : ℕ)
    → LeavesTheRest (data_polled a now).0 (data_polled (with_own_control a own control) now).0
unfolding data_polled
data_poll_leaves a own control now = record {
  sender = refl;
  receiver = refl;
  handshake = refl;
  streams = refl;
  events = refl;
  generations = refl;
}

data_poll_packets : (a : Shown) (own : OwnView) (control : List Control) (now : ℕ)
    → (data_polled (with_own_control a own control) now).1 ≡ (data_polled a now).1
unfolding data_polled
data_poll_packets a own control now = refl

again_apart : (a : Shown) (own : OwnView) (control : List Control) (now : ℕ)
    → PollIsReadAgain (with_own_control a own control) now → PollIsReadAgain a now
again_apart a own control now again exchanges =
    let b = with_own_control a own control in
    let x = (data_polled a now).0 in
    let y = (data_polled b now).0 in
    let rest = data_poll_leaves a own control now in
    let all = again exchanges in (
      rw (← data_poll_packets a own control now) all.0,
      ack_again_before x y rest all.1,
      forward_again_as (ack_polled y).0 (ack_polled x).0
          ((ack_sender y).0 ∙ rest.sender ∙ sym (ack_sender x).0)
          ((ack_sender y).1 ∙ rest.handshake ∙ sym (ack_sender x).1)
          all.2,
    )

-- and the other way about
pub again_with : (a : Shown) (own : OwnView) (control : List Control) (now : ℕ)
    → PollIsReadAgain a now → PollIsReadAgain (with_own_control a own control) now
again_with a own control now again exchanges =
    let b = with_own_control a own control in
    let x = (data_polled a now).0 in
    let y = (data_polled b now).0 in
    let rest = left_back x y (data_poll_leaves a own control now) in
    let all = again exchanges in (
      rw (data_poll_packets a own control now) all.0,
      ack_again_before y x rest all.1,
      forward_again_as (ack_polled x).0 (ack_polled y).0
          ((ack_sender x).0 ∙ rest.sender ∙ sym (ack_sender y).0)
          ((ack_sender x).1 ∙ rest.handshake ∙ sym (ack_sender y).1)
          all.2,
    )

-- what is read again behind what waited would be read again without that
pub again_behind : (a b : Shown) (now : ℕ) (packets : List (List ℕ)) → control_polled a ≡ (b, packets)
    → PollIsReadAgain b now → PollIsReadAgain (without_control a) now
again_behind a b now packets e again =
    let here : (control_polled a).0 ≡ b = ap (λ (z : Shown × List (List ℕ)). z.0) e in
    let changes : ChangesControl (without_control a) b =
    subst (ChangesControl (without_control a)) here (control_changes a) in
    again_apart (without_control a) b.resets.own b.control now
    (subst (λ (z : Shown). PollIsReadAgain z now) changes again)

-- where nothing waited, what is given behind it alone counts
exchange_if : (waits exchange ending : Bool) → (waits ≡ false → exchange ≡ true)
    → (waits || exchange || ending) ≡ true
exchange_if true exchange ending gives = refl
exchange_if false exchange ending gives = or_left exchange ending (gives refl)

ending_if : (waits exchange ending : Bool) → (waits ≡ false → ending ≡ true) → (waits || exchange || ending) ≡ true
ending_if true exchange ending gives = refl
ending_if false exchange ending gives = or_right exchange ending (gives refl)

module _ (a b : Shown) (now : ℕ) (packets : List (List ℕ)) (polled : control_polled a ≡ (b, packets)) where
  nothing_waited : nat_lt 0 (length a.control) ≡ false → b ≡ without_control a
  nothing_waited e =
      sym (ap (λ (z : Shown × List (List ℕ)). z.0) polled)
      ∙ ap (λ (cs : List Control). (fold with_control_given (without_control a, []) cs).0) (none_longer a.control e)

  -- a poll whose exchange gives something behind what waited has something to give
  pub gives_behind : (exchanges_data b.state && exchange_gives b now) ≡ true → has_something_to_give a now ≡ true
  gives_behind gives =
      exchange_if (nat_lt 0 (length a.control)) (exchanges_data a.state && exchange_gives (without_control a) now)
      (gives_shutdown (exchange_polled (without_control a) now).0)
      (λ (e : nat_lt 0 (length a.control) ≡ false).
      subst (λ (z : Shown). (exchanges_data z.state && exchange_gives z now) ≡ true) (nothing_waited e) gives)

  -- so has one that gives a chunk of a graceful end behind that
  pub ends_behind : gives_shutdown (exchange_polled b now).0 ≡ true → has_something_to_give a now ≡ true
  ends_behind gives =
      ending_if (nat_lt 0 (length a.control)) (exchanges_data a.state && exchange_gives (without_control a) now)
      (gives_shutdown (exchange_polled (without_control a) now).0)
      (λ (e : nat_lt 0 (length a.control) ≡ false).
      subst (λ (z : Shown). gives_shutdown (exchange_polled z now).0 ≡ true) (nothing_waited e) gives)
