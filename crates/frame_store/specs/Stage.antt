-- The result that a lift shows, of its stage and the block's counts of failures before its call and now. This
-- project's own.
use Rattle.std.specs.Prelude.{ℕ}
use Rattle.frame_store.specs.declared.lift.Carried.{Carried}
use Rattle.frame_store.specs.declared.lift.Carried.TheVariants.{Waiting, Good, Bad}
use Rattle.frame_store.specs.declared.lift.Stage.{Stage}
use Rattle.frame_store.specs.declared.lift.Stage.TheVariants.{NotYet, Well, Badly}

abbrev pub result_of : Stage → ℕ → ℕ → Carried
result_of NotYet before now = Waiting
result_of Well before now = Good
result_of Badly before now = Bad before now
