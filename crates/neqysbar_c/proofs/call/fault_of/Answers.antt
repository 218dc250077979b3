use Rattle.std.proofs.Common.{sym, ◌∙◌, inl, inr, subst}
use Rattle.command_messages.specs.LineFaults.{HoldsOfWords, Quotes}
use Rattle.neqysbar_c.proofs.Faulty.{all_there_by, not_text_by}
use Rattle.neqysbar_c.proofs.call.fault_of.Goals as goal
use Rattle.neqysbar_c.proofs.call.fault_of.Goals.{else-is_empty-via-then-is_empty+else-not-is_empty, else-is_empty-via-else-is_empty}

pub returns-then-not-is_empty-clause-holds : goal.returns-then-not-is_empty-clause-holds
returns-then-not-is_empty-clause-holds c =
    not_text_by c.args.line.now c.args.words.now c.requires (sym c.is_empty.ensures ∙ c.if-is_empty.true) (sym c.is_empty-then-is_empty.ensures ∙ c.if-not-is_empty.true)

pub returns-clause-holds : goal.returns-clause-holds
returns-clause-holds c =
    subst (λ words. HoldsOfWords words c.quoted_fault.result) (all_there_by c.args.line.now c.args.words.now c.requires (elim c.else-is_empty.branch [
      | else-is_empty-via-then-is_empty+else-not-is_empty w ↦ inl (sym w.is_empty-then-is_empty.ensures ∙ w.if-not-is_empty.false)
      | else-is_empty-via-else-is_empty w ↦ inr (sym c.is_empty.ensures ∙ w.if-is_empty.false)
    ])) c.quoted_fault.ensures.holds

pub returns-clause-quotes : goal.returns-clause-quotes
returns-clause-quotes c =
    subst (λ words. Quotes words c.quoted_fault.result c.quoted_fault.new.kept.items) (all_there_by c.args.line.now c.args.words.now c.requires (elim c.else-is_empty.branch [
      | else-is_empty-via-then-is_empty+else-not-is_empty w ↦ inl (sym w.is_empty-then-is_empty.ensures ∙ w.if-not-is_empty.false)
      | else-is_empty-via-else-is_empty w ↦ inr (sym c.is_empty.ensures ∙ w.if-is_empty.false)
    ])) c.quoted_fault.ensures.quotes
