-- What a call does to the channels and the driver that two slots hold.
use Rattle.std.specs.Prelude.{◌≡◌, ◌⊎◌, ℕ, Option, Some, None}
use Rattle.sctp_driver.specs.Driving.{Driving}
use Rattle.sctp_channels.specs.Channels.{ChannelsView}

-- one of the slots is empty
abbrev pub LacksOne : Option ChannelsView → Option Driving → Type 0
LacksOne channels driver = (channels ≡ None) ⊎ (driver ≡ None)

-- Where both slots hold something they do so after the call, too, and between them this is so. Where one is empty the
-- code is 1 and nothing changes.
abbrev pub OnBoth : Option ChannelsView → Option Driving → ℕ → Option ChannelsView → Option Driving
    → (ChannelsView → Driving → ChannelsView → Driving → Type 0) → Type 0
OnBoth (Some c) (Some d) code (Some f) (Some e) R = R c d f e
OnBoth (Some c) (Some d) code (Some f) None R = ⊥
OnBoth (Some c) (Some d) code None after R = ⊥
OnBoth (Some c) None code channels driver R = (code ≡ 1) × (channels ≡ Some c) × (driver ≡ None)
OnBoth None before code channels driver R = (code ≡ 1) × (channels ≡ None) × (driver ≡ before)

-- the same of a call that gets channels alone
abbrev pub OnChannels : Option ChannelsView → ℕ → Option ChannelsView → (ChannelsView → ChannelsView → Type 0) → Type 0
OnChannels (Some c) code (Some f) R = R c f
OnChannels (Some c) code None R = ⊥
OnChannels None code after R = (code ≡ 1) × (after ≡ None)

-- and of one that gets a driver alone
abbrev pub OnDriver : Option Driving → ℕ → Option Driving → (Driving → Driving → Type 0) → Type 0
OnDriver (Some d) code (Some e) R = R d e
OnDriver (Some d) code None R = ⊥
OnDriver None code after R = (code ≡ 1) × (after ≡ None)
