use Rattle.std.proofs.Common.{◌/◌, refl}
use Rattle.std.proofs.lemmas.Nat.{and_mask}
use Rattle.page_tables.specs.Packed.{entry_by}
use Rattle.page_tables.proofs.packed.entry_by.Goals as goal

pub returns : goal.returns
unfolding entry_by
returns c =
    rw (c.place_by.ensures, and_mask (c.args.word / 134217728) 4, and_mask (c.args.word / 16777216) 3, and_mask c.args.word 21) refl
