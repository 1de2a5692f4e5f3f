-- What is a channel's data among messages, as lists alone: a front of messages of which those of data are kept is a
-- front of all of them of which these are kept.
use Rattle.std.proofs.Common.{◌≡◌, refl, sym, ap, ◌∙◌, subst, ℕ, arith, Bool, true, false, eqb, if◌then◌else◌, List, []}
use Rattle.std.proofs.Common.{◌∷◌, ◌++◌, map}
use Rattle.std.proofs.lemmas.List.{append-nil, append_assoc, map-append}
use Rattle.sctp_model.specs.Safe.{Letter}
use Rattle.sctp_model.proofs.Lists.{all_join}
use Rattle.sctp_pair.specs.Callers.{IsFrontOf}
use Rattle.channel_pair.specs.ChannelWorld.{WroteBy}
use Rattle.channel_pair.specs.Letters.{AreControls, data_letters, data_of, letter}

-- these messages are a front of those
abbrev pub AreFrontOf : List Letter → List Letter → Type 0
AreFrontOf xs ys = (rest : List Letter) × (ys ≡ xs ++ rest)

if_append : (c : Bool) (bytes : List ℕ) (xs ys : List (List ℕ))
    → (if c then bytes ∷ (xs ++ ys) else xs ++ ys) ≡ (if c then bytes ∷ xs else xs) ++ ys
if_append true bytes xs ys = refl
if_append false bytes xs ys = refl

pub data_append : (xs ys : List Letter) → data_of (xs ++ ys) ≡ data_of xs ++ data_of ys
data_append [] ys = refl
data_append (l ∷ ls) ys =
    ap (λ (z : List (List ℕ)). if eqb l.payload_type 53 then l.bytes ∷ z else z) (data_append ls ys)
    ∙ if_append (eqb l.payload_type 53) l.bytes (data_of ls) (data_of ys)

-- The data of a front is a front of the data.
pub data_front : (xs ys : List Letter) → AreFrontOf xs ys → IsFrontOf (data_of xs) (data_of ys)
data_front xs ys (rest, e) = (data_of rest, ap data_of e ∙ data_append xs rest)

data_back : (sent : List (List ℕ)) → data_of (data_letters sent) ≡ sent
data_back [] = refl
data_back (bytes ∷ sent) = ap (λ (z : List (List ℕ)). bytes ∷ z) (data_back sent)

-- a message of DCEP is no data
pub no_data : (l : Letter) (ls : List Letter) → l.payload_type ≡ 50 → data_of (l ∷ ls) ≡ data_of ls
no_data l ls e = ap (λ (n : ℕ). if eqb n 53 then l.bytes ∷ data_of ls else data_of ls) e

controls_are_no_data : (controls : List Letter) → AreControls controls → data_of controls ≡ []
controls_are_no_data [] all = refl
controls_are_no_data (l ∷ ls) all = no_data l ls all.0 ∙ controls_are_no_data ls all.1

-- The data of what a side wrote is what it sent.
pub data_wrote : (may : Bool) (out : List Letter) (sent : List (List ℕ)) → WroteBy may out sent → data_of out ≡ sent
data_wrote true out sent (controls, all, e) =
    ap data_of e ∙ data_append controls (data_letters sent)
    ∙ ap (λ (z : List (List ℕ)). z ++ data_of (data_letters sent)) (controls_are_no_data controls all) ∙ data_back sent
data_wrote false out sent (all, none) = controls_are_no_data out all ∙ sym none

-- Messages that may have come: a front of messages of DCEP with data behind them.
abbrev pub MayCome : List Letter → Type 0
MayCome ins =
    (controls : List Letter) × (sent : List (List ℕ)) × (rest : List Letter) × AreControls controls
    × (controls ++ data_letters sent ≡ ins ++ rest)

pub wrote_comes : (may : Bool) (ins out : List Letter) (sent : List (List ℕ)) → WroteBy may out sent
    → AreFrontOf ins out → MayCome ins
wrote_comes true ins out sent (controls, all, e) (rest, f) = (controls, sent, rest, all, sym e ∙ f)
wrote_comes false ins out sent (all, none) (rest, f) = (out, [], rest, all, append-nil out ∙ f)

differ : (n : ℕ) → n ≡ 53 → n ≡ 50 → ⊥
differ n first second = omega arith

no_control_in_data : (xs rest : List Letter) (bytes : List ℕ) (sent : List (List ℕ))
    → data_letters sent ≡ (xs ++ letter 50 bytes ∷ []) ++ rest → ⊥
no_control_in_data [] rest bytes [] e = absurd (cc)
no_control_in_data [] rest bytes (s ∷ ss) e =
    let head : letter 53 s ≡ letter 50 bytes = cc in
    differ 53 refl (ap (λ (l : Letter). l.payload_type) head)
no_control_in_data (x ∷ xs) rest bytes [] e = absurd (cc)
no_control_in_data (x ∷ xs) rest bytes (s ∷ ss) e =
    let tail : data_letters ss ≡ (xs ++ letter 50 bytes ∷ []) ++ rest = cc in
    no_control_in_data xs rest bytes ss tail

-- before a message of DCEP no data comes
before_a_control : (controls ins rest : List Letter) (bytes : List ℕ) (sent : List (List ℕ)) → AreControls controls
    → controls ++ data_letters sent ≡ (ins ++ letter 50 bytes ∷ []) ++ rest → data_of ins ≡ []
before_a_control controls [] rest bytes sent all e = refl
before_a_control [] (i ∷ ins) rest bytes sent all e = absurd (no_control_in_data (i ∷ ins) rest bytes sent e)
before_a_control (c ∷ cs) (i ∷ ins) rest bytes sent all e =
    let head : c ≡ i = cc in
    let tail : cs ++ data_letters sent ≡ (ins ++ letter 50 bytes ∷ []) ++ rest = cc in
    no_data i ins (ap (λ (l : Letter). l.payload_type) (sym head) ∙ all.0)
    ∙ before_a_control cs ins rest bytes sent all.1 tail

-- Where a message of DCEP came last, no data came.
pub none_before : (ins : List Letter) (bytes : List ℕ) → MayCome (ins ++ letter 50 bytes ∷ [])
    → data_of (ins ++ letter 50 bytes ∷ []) ≡ []
none_before ins bytes (controls, sent, rest, all, e) =
    data_append ins (letter 50 bytes ∷ [])
    ∙ ap (λ (z : List (List ℕ)). z ++ []) (before_a_control controls ins rest bytes sent all e)

-- What a side wrote grows

-- by nothing
pub wrote_nothing : (may : Bool) (out : List Letter) (sent : List (List ℕ)) → WroteBy may out sent
    → WroteBy may (out ++ []) (sent ++ [])
wrote_nothing may out sent h =
    subst (λ (z : List Letter). WroteBy may z (sent ++ [])) (sym (append-nil out))
    (subst (λ (z : List (List ℕ)). WroteBy may out z) (sym (append-nil sent)) h)

-- by data
pub wrote_data : (out : List Letter) (sent : List (List ℕ)) (bytes : List ℕ) → WroteBy true out sent
    → WroteBy true (out ++ letter 53 bytes ∷ []) (sent ++ bytes ∷ [])
wrote_data out sent bytes (controls, all, e) = (
  controls,
  all,
  ap (λ (z : List Letter). z ++ letter 53 bytes ∷ []) e
      ∙ append_assoc controls (data_letters sent) (letter 53 bytes ∷ [])
      ∙ ap (λ (z : List Letter). controls ++ z) (sym (map-append (λ (b : List ℕ). letter 53 b) sent (bytes ∷ []))),
)

-- by a message of DCEP, before any data
pub wrote_control : (may : Bool) (out : List Letter) (sent : List (List ℕ)) (bytes : List ℕ) → WroteBy false out sent
    → WroteBy may (out ++ letter 50 bytes ∷ []) (sent ++ [])
wrote_control true out sent bytes (all, none) = (
  out ++ letter 50 bytes ∷ [],
  all_join (λ (l : Letter). l.payload_type ≡ 50) out (letter 50 bytes ∷ []) all (refl, tt),
  sym (append-nil (out ++ letter 50 bytes ∷ []))
      ∙ ap (λ (z : List (List ℕ)). (out ++ letter 50 bytes ∷ []) ++ data_letters z) (sym (append-nil sent ∙ none)),
)
wrote_control false out sent bytes (all, none) = (
  all_join (λ (l : Letter). l.payload_type ≡ 50) out (letter 50 bytes ∷ []) all (refl, tt),
  append-nil sent ∙ none,
)
