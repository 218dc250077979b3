use Rattle.pager_policy.specs.Advance.{advance_gives}
use Rattle.seat_laws.proofs.ReadsBegun.{reads_begun}
use Rattle.seat_laws.proofs.ReadsFor.{advance_reads}
use Rattle.seat_laws.proofs.laws.reads_are_for.Goals as goal

pub returns : goal.returns
returns c = λ config past a p r idle empty carries. reads_begun past p r (advance_gives config past a p r).made idle empty (advance_reads config past a p r carries)
