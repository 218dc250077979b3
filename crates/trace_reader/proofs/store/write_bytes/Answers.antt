use Rattle.trace_reader.proofs.Storing.{refilled}
use Rattle.trace_reader.proofs.store.write_bytes.Goals as goal

pub returns : goal.returns
returns c =
    refilled c.args.sections.now c.args.s c.args.at c.args.new.now c.overwrite.new.bytes c.items_mut-items.result.now c.index-items-s.result c.items_mut-items.ensures.value c.requires.there c.overwrite.ensures
