use Rattle.trace_reader.proofs.HeadReads.{line_told, line_told_on, line_told_last, line_told_fault, head_read, no_read}
use Rattle.std.proofs.Common.{Bool, false, Ok, Err, sym, subst}
use Rattle.trace_reader.specs.declared.fault.TraceFault.TheVariants.{Unfinished}
use Rattle.trace_reader.specs.HeadAnswer.{AnswersLine, HasTakenHead}
use Rattle.trace_reader.proofs.head.take_ended.Goals as goal

pub returns-in-Ok-true-clause-kept : goal.returns-in-Ok-true-clause-kept
returns-in-Ok-true-clause-kept c = head_read c.args.reader.now.draft c.take_head_line.new.reader.draft c.args.reader.now.number c.take_head_line.new.reader.number c.args.line.now c.requires (subst (λ (b : Bool). HasTakenHead c.args.reader.now.draft c.args.reader.now.number c.args.line.now c.take_head_line.new.reader.draft c.take_head_line.new.reader.number b) c.in-Ok-true.field-0-test c.in-Ok-true.ensures.ok)

pub returns-in-Ok-true-clause-line : goal.returns-in-Ok-true-clause-line
returns-in-Ok-true-clause-line c =
    line_told c.args.reader.now.draft c.take_head_line.new.reader.draft c.args.reader.now.number c.take_head_line.new.reader.number c.args.ended c.args.line.now (subst (λ (b : Bool). HasTakenHead c.args.reader.now.draft c.args.reader.now.number c.args.line.now c.take_head_line.new.reader.draft c.take_head_line.new.reader.number b) c.in-Ok-true.field-0-test c.in-Ok-true.ensures.ok)

pub returns-then-ended-clause-line : goal.returns-then-ended-clause-line
returns-then-ended-clause-line c =
    subst (λ (b : Bool). AnswersLine c.args.reader.now.draft.part c.args.reader.now.number b c.args.line.now c.take_head_line.new.reader.draft.part c.take_head_line.new.reader.number (Ok false)) (sym c.if-ended.true)
    (line_told_on c.args.reader.now.draft c.take_head_line.new.reader.draft c.args.reader.now.number c.take_head_line.new.reader.number c.args.line.now (subst (λ (b : Bool). HasTakenHead c.args.reader.now.draft c.args.reader.now.number c.args.line.now c.take_head_line.new.reader.draft c.take_head_line.new.reader.number b) c.in-Ok-false.field-0-test c.in-Ok-false.ensures.ok))

pub returns-else-ended-clause-line : goal.returns-else-ended-clause-line
returns-else-ended-clause-line c =
    subst (λ (b : Bool). AnswersLine c.args.reader.now.draft.part c.args.reader.now.number b c.args.line.now c.take_head_line.new.reader.draft.part c.take_head_line.new.reader.number (Err Unfinished)) (sym c.if-ended.false)
    (line_told_last c.args.reader.now.draft c.take_head_line.new.reader.draft c.args.reader.now.number c.take_head_line.new.reader.number c.args.line.now (subst (λ (b : Bool). HasTakenHead c.args.reader.now.draft c.args.reader.now.number c.args.line.now c.take_head_line.new.reader.draft c.take_head_line.new.reader.number b) c.in-Ok-false.field-0-test c.in-Ok-false.ensures.ok))

pub returns-in-Err-clause-line : goal.returns-in-Err-clause-line
returns-in-Err-clause-line c =
    line_told_fault c.args.reader.now.draft.part c.take_head_line.new.reader.draft.part c.args.reader.now.number c.take_head_line.new.reader.number c.args.ended c.args.line.now c.in-Err.fault c.in-Err.ensures.err

pub returns-in-Err-clause-no_read : goal.returns-in-Err-clause-no_read
returns-in-Err-clause-no_read c = no_read c.args.reader.now.draft.part c.args.reader.now.number c.args.line.now c.in-Err.fault c.in-Err.ensures.err
