use Rattle.std.proofs.Common.{sym, ◌∙◌}
use Rattle.std.proofs.lemmas.Bool.{false≢true}
use Rattle.std.specs.Cmp.Lexicographic.{other_text, same_text}
use Rattle.log_check.proofs.TextFronts.{line_begins, other_begins}
use Rattle.log_check.proofs.expected.begins.Goals as goal

pub returns-then-eq : goal.returns-then-eq
returns-then-eq c =
    let same = same_text c.split_at.result.0.now c.args.line.now c.if-eq.ensures in
    line_begins c.args.text.now c.args.line.now c.split_at.result.0.now c.split_at.result.1.now c.split_at.ensures.front c.split_at.ensures.back c.if-text-end.false same

pub returns-else-eq : goal.returns-else-eq
returns-else-eq c = (
  λ is. absurd (false≢true (sym c.if-eq.false ∙ is)),
  λ begins. absurd (other_begins c.args.text.now c.args.line.now c.split_at.result.0.now c.split_at.ensures.front (other_text c.split_at.result.0.now c.args.line.now c.if-eq.ensures) begins),
)
