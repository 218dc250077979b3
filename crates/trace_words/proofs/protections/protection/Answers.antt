use Rattle.std.proofs.Common.{ℕ, Option, ap, ◌∙◌}
use Rattle.std.specs.Option.{ok_or}
use Rattle.trace_words.specs.declared.cause.Cause.TheVariants.{UnknownWord}
use Rattle.trace_words.proofs.Codes.{only_code}
use Rattle.trace_words.proofs.protections.protection.Goals as goal

pub returns : goal.returns
returns c = c.ok_or.ensures.value ∙ ap (λ (o : Option ℕ). ok_or o UnknownWord) (only_code c.args.word.now c.read_protection.result c.read_protection.ensures)
