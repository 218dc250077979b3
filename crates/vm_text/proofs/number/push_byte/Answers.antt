use Rattle.std.proofs.Common.{◌∙◌, sym, ap, ◌++◌}
use Rattle.vm_text.proofs.Pairs.{hex_pair_at, hex-two, two_pushed}
use Rattle.vm_text.proofs.number.push_byte.Goals as goal

pub returns-clause-items : goal.returns-clause-items
returns-clause-items g c =
    let pair = hex_pair_at c.args.byte c.requires.few in
    two_pushed _ _ _ _ _ _ _ c.push.ensures.items c.push-2.ensures.items pair.0 pair.1
    ∙ ap (λ digits. c.args.out.now.items ++ digits) (sym (hex-two c.args.byte c.requires.few))
