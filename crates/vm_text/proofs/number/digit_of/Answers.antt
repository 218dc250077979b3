use Rattle.std.proofs.Common.{◌≡◌, ◌+◌, ◌-◌, ◌∙◌, arith}
use Rattle.vm_text.proofs.Digits.{letter_digit}
use Rattle.vm_text.proofs.number.digit_of.Goals as goal

pub returns-in-65-to-70 : goal.returns-in-65-to-70
returns-in-65-to-70 c =
    let back : 65 + (c.args.byte - 65) ≡ c.args.byte = omega arith in
    (omega arith, letter_digit (c.args.byte - 65) (omega arith) ∙ back)
