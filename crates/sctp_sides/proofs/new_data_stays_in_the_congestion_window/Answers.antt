use Rattle.sctp_sides.proofs.WindowsHold.{new_data_stays_in_the_congestion_window}
use Rattle.sctp_sides.proofs.new_data_stays_in_the_congestion_window.Goals as goal

pub returns : goal.returns
returns c = record { window = new_data_stays_in_the_congestion_window }
