-- Two slots of which both hold something, or one does not.
use Rattle.std.proofs.Common.{◌≡◌, ℕ, sym, subst, inl, inr, Option, Some, None}
use Rattle.std.proofs.lemmas.Option.{none-some}
use Rattle.sctp_driver.specs.Driving.{Driving}
use Rattle.sctp_channels.specs.Channels.{ChannelsView}
use Rattle.sctp_channels_c.specs.Slots.{LacksOne, OnBoth}

-- what a call did is said of what the slots hold
pub on_held : (before : Option ChannelsView) (driver : Option Driving) (code : ℕ) (after : Option ChannelsView)
    (left : Option Driving) (R : ChannelsView → Driving → ChannelsView → Driving → Type 0)
    {c f : ChannelsView} {d e : Driving} → before ≡ Some c → driver ≡ Some d → after ≡ Some f → left ≡ Some e
    → R c d f e → OnBoth before driver code after left R
on_held before driver code after left R {c} {f} {d} {e} is_c is_d is_f is_e holds =
    subst (λ (b : Option ChannelsView). OnBoth b driver code after left R) (sym is_c)
    (subst (λ (b : Option Driving). OnBoth (Some c) b code after left R) (sym is_d)
    (subst (λ (b : Option ChannelsView). OnBoth (Some c) (Some d) code b left R) (sym is_f)
    (subst (λ (b : Option Driving). OnBoth (Some c) (Some d) code (Some f) b R) (sym is_e) holds)))

-- where one slot is empty nothing changes
pub on_empty : (before : Option ChannelsView) (driver : Option Driving) (code : ℕ) (after : Option ChannelsView)
    (left : Option Driving) (R : ChannelsView → Driving → ChannelsView → Driving → Type 0)
    → LacksOne before driver → code ≡ 1 → after ≡ before → left ≡ driver → OnBoth before driver code after left R
on_empty None driver code after left R lacks told same_channels same_driver = (told, same_channels, same_driver)
on_empty (Some c) None code after left R lacks told same_channels same_driver = (told, same_channels, same_driver)
on_empty (Some c) (Some d) code after left R (inl none) told same_channels same_driver = absurd (none-some c (sym none))
on_empty (Some c) (Some d) code after left R (inr none) told same_channels same_driver = absurd (none-some d (sym none))
