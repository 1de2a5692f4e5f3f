use Rattle.sctp_fit.proofs.SpanEnded.{spans_end, spans_end_where_it_comes, streams_past_their_span_change}
use Rattle.sctp_fit.proofs.SpanEnded.{streams_past_their_span_change_where_it_comes}
use Rattle.sctp_fit.proofs.spans.spans_end.Goals as goal

pub returns-clause-outgoing : goal.returns-clause-outgoing
returns-clause-outgoing c = spans_end

pub returns-clause-incoming : goal.returns-clause-incoming
returns-clause-incoming c = spans_end_where_it_comes

pub returns-clause-past : goal.returns-clause-past
returns-clause-past c = streams_past_their_span_change

pub returns-clause-past_where_it_comes : goal.returns-clause-past_where_it_comes
returns-clause-past_where_it_comes c = streams_past_their_span_change_where_it_comes
