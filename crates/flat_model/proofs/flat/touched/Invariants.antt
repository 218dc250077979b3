use Rattle.std.proofs.Common.{◌≡◌, ◌≤◌, take, count_by}
use Rattle.flat_model.specs.FlatMachine.{is_touch}
use Rattle.flat_model.proofs.flat.touched.Given as goal

abbrev pub invariant-loop-entry : goal.invariant-loop-entry
invariant-loop-entry l = (l.count ≡ count_by (is_touch l.sections) (take l.entry-index l.stored)) × (l.count ≤ l.entry-index)
