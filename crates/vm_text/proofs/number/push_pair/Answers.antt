use Rattle.vm_text.proofs.Pairs.{decimal_pair_at, two_pushed}
use Rattle.vm_text.proofs.number.push_pair.Goals as goal

pub returns-clause-items : goal.returns-clause-items
returns-clause-items g c =
    let pair = decimal_pair_at c.args.number c.requires.few in
    two_pushed _ _ _ _ _ _ _ c.push.ensures.items c.push-2.ensures.items pair.0 pair.1
