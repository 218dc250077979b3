use Rattle.pte_forms.proofs.JoinedFields.{joined_word}
use Rattle.pte_forms.proofs.word.to_word.Goals as goal

pub returns : goal.returns
returns c = rw (c.fields_of-valid.ensures, c.from.ensures) (joined_word c.args.pte c.requires)
