use Rattle.std.proofs.Common.{◌≡◌, ◌+◌, find, drop}
use Rattle.std.specs.List.{position_or_len}
use Rattle.flat_model.specs.FlatMachine.{is_of}
use Rattle.flat_model.proofs.flat.place_of.Given as goal

abbrev pub invariant-loop-place : goal.invariant-loop-place
invariant-loop-place l =
    (find (is_of l.page) l.stored ≡ find (is_of l.page) (drop l.place l.stored))
    × (position_or_len (is_of l.page) l.stored ≡ l.place + position_or_len (is_of l.page) (drop l.place l.stored))
