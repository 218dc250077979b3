use Rattle.std.proofs.Common.{◌<◌, length, not, ap, ◌∙◌, sym, arith}
use Rattle.std.proofs.lemmas.List.Filters.{FiltersInPlace-more_set, FiltersInPlace-more_no}
use Rattle.flat_model.proofs.flat.forget.Goals as goal
use Rattle.flat_model.proofs.flat.forget.Goals.{then-not-is_own_in, else-not-is_own_in}

pub loop-i-preserved : goal.loop-i-preserved
loop-i-preserved c =
    let before = c.loop-i.invariant in
    let within : c.loop-i.i < length c.loop-i.stored.items = omega (arith, before.long, c.loop-i-test.true, c.len-count.ensures) in
    elim c.if-not-is_own_in.branch [
      | then-not-is_own_in w ↦ rw (w.stored-is, w.kept-is) (FiltersInPlace-more_set before within (ap not (sym c.is_own_in.ensures ∙ w.if-not-is_own_in.true)) c.index-entry.ensures)
      | else-not-is_own_in w ↦ rw (w.stored-is, w.kept-is) (FiltersInPlace-more_no before within (ap not (sym c.is_own_in.ensures ∙ w.if-not-is_own_in.false)) c.index-entry.ensures)
    ]
