use Rattle.std.proofs.Common.{rules, ◌≡◌, ◌∙◌, subst, sym, Bool, true, false}
use Rattle.std.proofs.lemmas.Result.{IfOk-weaker, on_err_weaker}
use Rattle.sctp_inbound.specs.Receiver.{is_new_to}
use Rattle.sctp_outbound.proofs.SenderSteps.{on_err}
use Rattle.sctp_resets.specs.Resets.{is_hidden}
use Rattle.sctp_assoc.specs.declared.inbound.Flow.{Flow}
use Rattle.sctp_assoc.specs.Chunks.{asks_or_faults, counted_data, deferred_where_admitted, is_left, is_there}
use Rattle.sctp_assoc.specs.Chunks.{nobody_reads, on_data, stream_found}
use Rattle.sctp_assoc.specs.Resets.{settling_takes_memory}
use Rattle.sctp_assoc.proofs.HiddenData.{data_is_deferred, data_is_taken}
use Rattle.sctp_assoc.proofs.MemoryTaken.{found_receiver, found_resets, hidden_takes, settling_takes, taking_takes}
use Rattle.sctp_assoc.proofs.TakingSettles.{same_resets, settles_on, taking_settles}
use Rattle.sctp_assoc.proofs.UnreadData.{found_reads}
use Rattle.sctp_assoc.proofs.association.Association.on_data.Goals as goal

pub returns-in_err-fault-clause-grows : goal.returns-in_err-fault-clause-grows
returns-in_err-fault-clause-grows c =
    let hidden : is_hidden c.args.self.now.resets c.args.piece.stream_identifier c.args.piece.tsn ≡ true =
    search rules in
    on_err c.from_residual.result (hidden_takes c.args.self.now c.args.piece hidden)

pub returns-then-is_hidden-clause-exact : goal.returns-then-is_hidden-clause-exact
returns-then-is_hidden-clause-exact c =
    let next : is_new_to c.args.self.now.receiver c.args.piece.tsn ≡ true = search rules in
    let hidden : is_hidden c.args.self.now.resets c.args.piece.stream_identifier c.args.piece.tsn ≡ true =
    search rules in
    let apart : deferred_where_admitted (counted_data c.args.self.now) c.args.piece
    ≡ (c.defer_where_admitted.new.self, c.in_ok-fault.fault) = search rules in
    let same : on_data c.args.self.now c.args.piece c.args.trigger
    ≡ asks_or_faults (c.defer_where_admitted.new.self, c.in_ok-fault.fault) c.args.piece.immediate_sack
    c.args.trigger =
    data_is_deferred c.args.self.now c.defer_where_admitted.new.self c.args.piece c.args.trigger c.in_ok-fault.fault
    next hidden apart in
    IfOk-weaker c.ask_or_fault.result _ _ (λ (flow : Flow) e. same ∙ e) c.ask_or_fault.ensures.exact

pub returns-then-is_hidden-clause-grows : goal.returns-then-is_hidden-clause-grows
returns-then-is_hidden-clause-grows c =
    let hidden : is_hidden c.args.self.now.resets c.args.piece.stream_identifier c.args.piece.tsn ≡ true =
    search rules in
    on_err c.ask_or_fault.result (hidden_takes c.args.self.now c.args.piece hidden)

pub take_where_admitted-requires-clause-new : goal.take_where_admitted-requires-clause-new
take_where_admitted-requires-clause-new c =
    let there : is_there c.in_ok-found.found ≡ true = search rules in
    let step : stream_found (counted_data c.args.self.now) c.args.piece.stream_identifier
    ≡ (c.find_stream.new.self, is_there c.in_ok-found.found) = search rules in
    let found : stream_found (counted_data c.args.self.now) c.args.piece.stream_identifier
    ≡ (c.find_stream.new.self, true) =
    subst (λ (b : Bool). stream_found (counted_data c.args.self.now) c.args.piece.stream_identifier
    ≡ (c.find_stream.new.self, b)) there step in
    let next : is_new_to c.args.self.now.receiver c.args.piece.tsn ≡ true = search rules in
    rw (found_receiver (counted_data c.args.self.now) c.find_stream.new.self c.args.piece.stream_identifier found) next

pub take_where_admitted-requires-clause-left : goal.take_where_admitted-requires-clause-left
take_where_admitted-requires-clause-left c =
    let there : is_there c.in_ok-found.found ≡ true = search rules in
    let step : stream_found (counted_data c.args.self.now) c.args.piece.stream_identifier
    ≡ (c.find_stream.new.self, is_there c.in_ok-found.found) = search rules in
    let found : stream_found (counted_data c.args.self.now) c.args.piece.stream_identifier
    ≡ (c.find_stream.new.self, true) =
    subst (λ (b : Bool). stream_found (counted_data c.args.self.now) c.args.piece.stream_identifier
    ≡ (c.find_stream.new.self, b)) there step in
    let left : is_left c.in_ok-found.found
    ≡ nobody_reads c.args.self.now.profile c.args.self.now.streams c.args.piece.stream_identifier = search rules in
    c.is_left.ensures ∙ left
    ∙ sym (found_reads (counted_data c.args.self.now) c.find_stream.new.self c.args.piece.stream_identifier found)

pub returns-in_err-fault-2-clause-grows : goal.returns-in_err-fault-2-clause-grows
returns-in_err-fault-2-clause-grows c =
    let next : is_new_to c.args.self.now.receiver c.args.piece.tsn ≡ true = search rules in
    let there : is_there c.in_ok-found.found ≡ true = search rules in
    let step : stream_found (counted_data c.args.self.now) c.args.piece.stream_identifier
    ≡ (c.find_stream.new.self, is_there c.in_ok-found.found) = search rules in
    let found : stream_found (counted_data c.args.self.now) c.args.piece.stream_identifier
    ≡ (c.find_stream.new.self, true) =
    subst (λ (b : Bool). stream_found (counted_data c.args.self.now) c.args.piece.stream_identifier
    ≡ (c.find_stream.new.self, b)) there step in
    on_err c.from_residual-in_err-fault-2.result
    (taking_takes c.args.self.now c.find_stream.new.self c.args.piece next found c.in_err-fault-2.ensures.grows)

pub returns-clause-exact : goal.returns-clause-exact
returns-clause-exact c =
    let next : is_new_to c.args.self.now.receiver c.args.piece.tsn ≡ true = search rules in
    let read : is_hidden c.args.self.now.resets c.args.piece.stream_identifier c.args.piece.tsn ≡ false =
    search rules in
    let there : is_there c.in_ok-found.found ≡ true = search rules in
    let step : stream_found (counted_data c.args.self.now) c.args.piece.stream_identifier
    ≡ (c.find_stream.new.self, is_there c.in_ok-found.found) = search rules in
    let found : stream_found (counted_data c.args.self.now) c.args.piece.stream_identifier
    ≡ (c.find_stream.new.self, true) =
    subst (λ (b : Bool). stream_found (counted_data c.args.self.now) c.args.piece.stream_identifier
    ≡ (c.find_stream.new.self, b)) there step in
    let same : on_data c.args.self.now c.args.piece c.args.trigger
    ≡ asks_or_faults (c.take_where_admitted.new.self, c.in_ok-fault-2.fault) c.args.piece.immediate_sack
    c.args.trigger =
    data_is_taken c.args.self.now c.find_stream.new.self c.take_where_admitted.new.self c.args.piece c.args.trigger
    c.in_ok-fault-2.fault next read found c.in_ok-fault-2.ensures.exact in
    IfOk-weaker c.ask_or_fault-2.result _ _ (λ (flow : Flow) e. same ∙ e) c.ask_or_fault-2.ensures.exact

pub returns-clause-grows : goal.returns-clause-grows
returns-clause-grows c =
    let there : is_there c.in_ok-found.found ≡ true = search rules in
    let step : stream_found (counted_data c.args.self.now) c.args.piece.stream_identifier
    ≡ (c.find_stream.new.self, is_there c.in_ok-found.found) = search rules in
    let found : stream_found (counted_data c.args.self.now) c.args.piece.stream_identifier
    ≡ (c.find_stream.new.self, true) =
    subst (λ (b : Bool). stream_found (counted_data c.args.self.now) c.args.piece.stream_identifier
    ≡ (c.find_stream.new.self, b)) there step in
    let b = c.find_stream.new.self in
    let taken = c.take_where_admitted.new.self in
    let no_more =
    settles_on c.args.self.now b taken
    (same_resets c.args.self.now b
    (found_resets (counted_data c.args.self.now) b c.args.piece.stream_identifier found))
    (taking_settles b taken c.args.piece c.in_ok-fault-2.fault c.in_ok-fault-2.ensures.exact) in
    on_err_weaker c.ask_or_fault-2.result
    (λ (takes : settling_takes_memory c.take_where_admitted.new.self ≡ true).
    settling_takes c.args.self.now taken c.args.piece no_more takes)
    c.ask_or_fault-2.ensures.grows
