use Rattle.std.proofs.Common.{◌<◌, length, ap, sym, ◌∙◌}
use Rattle.std.proofs.lemmas.List.{length-map, map-set}
use Rattle.sctp_streams.specs.Table.{stream_of}
use Rattle.sctp_streams.proofs.TableIsMap.{slot_is}
use Rattle.sctp_streams.proofs.table.Page.exchange.Goals as goal

pub returns-clause-slots : goal.returns-clause-slots
returns-clause-slots c = rw (← c.self.view_is, c.replace.ensures.after, map-set)

pub returns-clause-old : goal.returns-clause-old
returns-clause-old c =
    let slots = c.self.inside.slots.items in
    let within : c.args.place < length slots = rw (← c.self.view_is, length-map) at c.requires in
    c.into_stream.ensures ∙ rw (← c.self.view_is)
    (ap stream_of c.replace.ensures.value
    ∙ sym (slot_is slots c.args.place c.index_mut.result.now within c.index_mut.ensures.value))
