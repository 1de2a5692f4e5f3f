-- A channel that is placed is the one that was asked for.
use Rattle.std.proofs.Common.{◌≡◌, ap, ◌∙◌, ℕ, Bool, List}
use Rattle.channel_table.specs.Channels.{ChannelView, opened}
use Rattle.sctp_channels.specs.Channels.{ChannelsView}
use Rattle.sctp_channels.specs.Opening.{placed, with_opened}

pub placed_as : (after c : ChannelsView) (id : ℕ) (b e n k : Bool) (x : ChannelView) (given message : List ℕ)
    → after ≡ placed b c id x → b ≡ e → x ≡ opened given n → given ≡ message → n ≡ k
    → after ≡ with_opened e c id message k
placed_as after c id b e n k x given message is_placed is_b is_x is_given is_n =
    is_placed ∙ ap (λ (y : Bool). placed y c id x) is_b
    ∙ ap (λ (y : ChannelView). placed e c id y)
    (is_x ∙ ap (λ (y : List ℕ). opened y n) is_given ∙ ap (λ (y : Bool). opened message y) is_n)
