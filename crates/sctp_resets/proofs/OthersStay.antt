-- A reset changes only the streams that it concerns.
pub use Rattle.sctp_resets.proofs.SkipsBeside.{skips_of_plainly, skips_of_stay, skips_plainly, skips_stay}
pub use Rattle.sctp_resets.proofs.PerformedBeside.{nothing_settled, settled_plainly, settled_skips, settled_stays}
pub use Rattle.sctp_resets.proofs.ReadBeside.{read_out_stays, stopped_reading_stays}
pub use Rattle.sctp_resets.proofs.AnsweredBeside.{handled_stays, responded_stays}
