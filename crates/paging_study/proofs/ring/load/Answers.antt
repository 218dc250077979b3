use Rattle.std.proofs.Common.{◌≡◌, rules}
use Rattle.vm_types.specs.Ring.{choose}
use Rattle.vm_types.specs.declared.ring_choice.Choice.TheVariants.{Victim}
use Rattle.paging_study.proofs.RingSteps.{victim_replaced}
use Rattle.paging_study.proofs.ring.load.Goals as goal

-- the victim's slot is cleared first
pub returns-in-Victim-clause-ring : goal.returns-in-Victim-clause-ring
returns-in-Victim-clause-ring c =
    let chosen : choose c.args.ring.now c.args.frames ≡ Victim c.in-Victim.slot = search rules in
    victim_replaced c.args.ring.now c.clear.new.self c.put-in-Victim.new.ring c.args.frames c.args.page c.in-Victim.slot c.requires.misses chosen c.clear.ensures.cleared c.put-in-Victim.ensures.placed
