use Rattle.entry_lines.proofs.Front.{lettered}
use Rattle.entry_lines.proofs.words.front_frame.Goals as goal

pub returns-clause-front : goal.returns-clause-front
returns-clause-front c = lettered c.args.text.now c.in_ok-digits.digits.now c.in_ok-number.end c.in_ok-number.number c.in_ok-digits.ensures c.in_ok-number.ensures.front
