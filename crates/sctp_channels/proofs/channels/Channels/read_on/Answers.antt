use Rattle.std.proofs.Common.{refl, subst, inl, inr}
use Rattle.sctp_channels.specs.declared.receiving.Next.{Next}
use Rattle.sctp_channels.specs.Receiving.{ReadsNext}
use Rattle.sctp_channels.proofs.channels.Channels.read_on.Goals as goal

pub returns-in-Given : goal.returns-in-Given
returns-in-Given c =
    let given =
    subst (λ (z : Next). ReadsNext c.args.id c.args.driver.now c.args.buffer.now z c.read_next.new.driver
    c.read_next.new.buffer) c.in-Given.is c.in_ok-received.ensures.ok in
    (0, c.args.driver.now, c.args.buffer.now, (refl, refl), inl (inl (refl, given)))

pub returns-in_ok-reset-in-SecondOpen : goal.returns-in_ok-reset-in-SecondOpen
returns-in_ok-reset-in-SecondOpen c =
    let second =
    subst (λ (z : Next). ReadsNext c.args.id c.args.driver.now c.args.buffer.now z c.read_next.new.driver
    c.read_next.new.buffer) c.in-SecondOpen.is c.in_ok-received.ensures.ok in (
      0,
      c.args.driver.now,
      c.args.buffer.now,
      (refl, refl),
      inl (inr (
        refl,
        (c.read_next.new.driver, second, c.in_ok-reset-in-SecondOpen.ensures),
      )),
    )
