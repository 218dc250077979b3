use Rattle.std.proofs.Common.{rules, ◌≡◌, codes}
use Rattle.command_messages.proofs.Holding.{holds_behind}
use Rattle.command_messages.proofs.line.line_fault.Goals as goal

pub returns-then-is-6 : goal.returns-then-is-6
returns-then-is-6 c =
    let is : codes "study" ≡ c.in-Some.first.now = search rules in
    let are = c.in-Some.ensures in
    holds_behind _ _ c.in-Some.first.now (codes "study") c.study_fault.result are is c.study_fault.ensures

pub returns-then-is-7 : goal.returns-then-is-7
returns-then-is-7 c =
    let is : codes "make" ≡ c.in-Some.first.now = search rules in
    let are = c.in-Some.ensures in
    holds_behind _ _ c.in-Some.first.now (codes "make") c.make_fault.result are is c.make_fault.ensures
