use Rattle.sctp_reassembly.proofs.LawsInEvents.{a_forward_that_comes_stands, a_read_that_happens_stands}
use Rattle.sctp_reassembly.proofs.LawsInEvents.{data_that_comes_stands, unordered_data_that_comes_stands}
use Rattle.sctp_reassembly.proofs.a_reassembly_follows_the_machine.Goals as goal

pub returns-clause-data : goal.returns-clause-data
returns-clause-data c = data_that_comes_stands

pub returns-clause-read : goal.returns-clause-read
returns-clause-read c = a_read_that_happens_stands

pub returns-clause-forward : goal.returns-clause-forward
returns-clause-forward c = a_forward_that_comes_stands

pub returns-clause-unordered : goal.returns-clause-unordered
returns-clause-unordered c = unordered_data_that_comes_stands
