-- The pin is counted no more, and then the entry.
use Rattle.std.proofs.Common.{◌≡◌, ℕ, ◌+◌, ◌-◌, ◌==◌, ◌∙◌, ap, arith, cond, length, length-set, set}
use Rattle.pfn_database.specs.declared.row.Row.{Row}
use Rattle.pfn_database.specs.Frames.{row_of}
use Rattle.pfn_database.specs.Rows.{counted_references, uncounted, unheld}
use Rattle.pager_model.specs.Evict.{evicted_to}
use Rattle.frame_changes.proofs.RowChanges.{row_again, row_here}
use Rattle.frame_changes.proofs.entries.lose_pinned.Goals as goal

-- what is over once a pin is counted no more
over_less : (row : Row) → uncounted (unheld row) ≡ uncounted row - 1
over_less row = omega arith

abbrev with_refs : Row → ℕ → Row
with_refs row refs = record row {
  state = evicted_to row.shares row.flights row.modify;
  refs = refs;
  shares = row.shares - 1;
  slot = cond (row.shares == 1) 0 row.slot;
}

-- the row once the entry is lost
abbrev lost : Row → Row
lost row = with_refs row (counted_references (row.shares - 1) row.flights + uncounted row)

pub unhold-requires-clause-some : goal.unhold-requires-clause-some
unhold-requires-clause-some c = let some = c.requires.pins in omega (arith, some)

pub lose_entry-requires-clause-below : goal.lose_entry-requires-clause-below
lose_entry-requires-clause-below c = omega (arith, ap length c.unhold.ensures.rows, length-set c.args.frames.now.rows (c.args.f).0 (unheld (row_of c.args.frames.now (c.args.f).0)), c.requires.below)

pub lose_entry-requires-clause-active : goal.lose_entry-requires-clause-active
lose_entry-requires-clause-active c = ap (λ (row : Row). row.state) (row_here _ _ (c.args.f).0 _ c.requires.below c.unhold.ensures.rows) ∙ c.requires.active

pub lose_entry-requires-clause-shares : goal.lose_entry-requires-clause-shares
lose_entry-requires-clause-shares c = let same = ap (λ (row : Row). row.shares) (row_here _ _ (c.args.f).0 _ c.requires.below c.unhold.ensures.rows) in omega (arith, same, c.requires.shares)

pub returns-clause-rows : goal.returns-clause-rows
returns-clause-rows c =
    let row = row_of c.args.frames.now (c.args.f).0 in
    row_again _ _ _ (c.args.f).0 (unheld row) lost c.requires.below c.unhold.ensures.rows c.lose_entry.ensures.rows
    ∙ ap (λ (n : ℕ). set c.args.frames.now.rows (c.args.f).0 (with_refs row (counted_references (row.shares - 1) row.flights + n))) (over_less row)
