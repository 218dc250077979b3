use Rattle.std.proofs.Common.{arith, sym, ap, ◌∙◌}
use Rattle.pfn_database.specs.Frames.{Frames, row_of}
use Rattle.pfn_database.proofs.KeptRows.{length-rows_of, get_or-rows_of}
use Rattle.pfn_database.proofs.pfns.Pfns.row.Goals as goal

pub row_at-requires-clause-below : goal.row_at-requires-clause-below
row_at-requires-clause-below c =
    let below = rw (← c.self.view_is) at c.requires in
    omega (arith, below, length-rows_of c.self.inside.kept.items c.self.inside.lists.cells c.self.invariant.cells)

pub returns-clause-row : goal.returns-clause-row
returns-clause-row c =
    c.row_at.ensures ∙ sym (get_or-rows_of c.self.inside.kept.items c.self.inside.lists.cells c.self.invariant.cells c.args.f.0)
    ∙ ap (λ (frames : Frames). row_of frames c.args.f.0) c.self.view_is
