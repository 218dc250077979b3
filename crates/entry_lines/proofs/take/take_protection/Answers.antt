use Rattle.vm_types.specs.WellFormed.{IsCode}
use Rattle.vm_text.specs.Services.{protection_name}
use Rattle.entry_lines.proofs.Behind.{takes_word}
use Rattle.entry_lines.proofs.take.take_protection.Goals as goal

pub returns : goal.returns
returns c = takes_word IsCode protection_name _ _ _ _ c.in_ok-word.ensures c.read_protection.ensures
