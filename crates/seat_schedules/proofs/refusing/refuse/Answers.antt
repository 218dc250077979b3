use Rattle.std.proofs.Common.{◌≡◌, ◌∙◌, List, ap, length, arith}
use Rattle.vm_types.specs.declared.config.Config.{Config}
use Rattle.vm_types.specs.declared.config.ProcSpec.{ProcSpec}
use Rattle.seat_schedules.proofs.LandedWork.{may_refuse, refused_worked}
use Rattle.seat_schedules.proofs.refusing.refuse.Goals as goal

pub refuse-requires-clause-may : goal.refuse-requires-clause-may
refuse-requires-clause-may g c κs within =
    may_refuse c.args.state.now c.args.seat c.args.worker.now c.requires.at_work c.in-Some.r c.requires.free c.requires.empty c.in-Some.is
    (let outside = c.if-seat-items.false in
    let many : length c.items.result.now ≡ length c.args.state.now.config.procs = ap (λ (xs : List ProcSpec). length xs) c.items.ensures ∙ ap (λ (k : Config). length k.procs) c.config.ensures in
    omega (arith, outside, many))
    (c.is_unmet.ensures c.if-not-is_unmet.false)

pub returns-else-not-is_unmet : goal.returns-else-not-is_unmet
returns-else-not-is_unmet g c =
    refused_worked c.args.state.now c.args.seat c.args.worker.now c.requires.at_work c.in-Some.r c.requires.free c.requires.empty _ c.refuse.ensures
