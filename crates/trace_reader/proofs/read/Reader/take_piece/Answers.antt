use Rattle.std.proofs.Common.{◌∙◌, sym, subst, ap, Result, Err, ℕ}
use Rattle.std.specs.Prelude.{IfErr}
use Rattle.std.proofs.lemmas.Result.{err_from_is_err_and}
use Rattle.trace_lines.specs.declared.breach.Breach.{Breach}
use Rattle.trace_reader.specs.declared.fault.TraceFault.{TraceFault}
use Rattle.trace_reader.specs.declared.fault.TraceFault.TheVariants as fault
use Rattle.trace_reader.specs.Stream.{IsAtFault, KeepsFaulty}
use Rattle.trace_reader.proofs.Kept.{kept_here, kept_long}
use Rattle.trace_reader.proofs.Pieces.{take_line, front_then, fault_then, fault_here, fault_in_long, piece_taken}
use Rattle.trace_reader.proofs.read.Reader.take_piece.Goals as goal

pub returns-in_err-rest-clause-err : goal.returns-in_err-rest-clause-err
returns-in_err-rest-clause-err c =
    let p = err_from_is_err_and c.from_residual.result c.from_residual.ensures.1 in
    subst (λ (r : Result ℕ TraceFault). IfErr r (IsAtFault c.args.self.now.draft.part c.args.self.now.number c.args.piece.now)) (sym (p.1 ∙ ap (λ (f : TraceFault). Err f) p.2)) c.in_err-rest.ensures.err

pub returns-in_err-rest-clause-kept : goal.returns-in_err-rest-clause-kept
returns-in_err-rest-clause-kept c =
    let p = err_from_is_err_and c.from_residual.result c.from_residual.ensures.1 in
    subst (λ (r : Result ℕ TraceFault). IfErr r (KeepsFaulty c.args.self.now.number c.args.piece.now c.args.kept.now.items)) (sym (p.1 ∙ ap (λ (f : TraceFault). Err f) p.2)) tt

pub returns-in_err-take_line-clause-kept : goal.returns-in_err-take_line-clause-kept
returns-in_err-take_line-clause-kept c =
    let p = err_from_is_err_and c.from_residual-in_err-take_line.result c.from_residual-in_err-take_line.ensures.1 in
    subst (λ (r : Result ℕ TraceFault). IfErr r (KeepsFaulty c.args.self.now.number c.args.piece.now c.take_line.new.kept.items)) (sym (p.1 ∙ ap (λ (f : TraceFault). Err f) p.2))
    (kept_here c.args.self.now.draft.part c.args.self.now.number c.args.piece.now c.loop-line.self.draft c.loop-line.self.number c.loop-line.rest.now c.in-Some.line.now c.in-Some.after.now c.take_line.new.kept.items c.in_err-take_line.field-0.0
    c.loop-line.invariant c.in-Some.ensures.1 c.in-Some.ensures.0 c.in_err-take_line.ensures.kept)

pub returns-in_err-rest-2-clause-kept : goal.returns-in_err-rest-2-clause-kept
returns-in_err-rest-2-clause-kept c =
    let p = err_from_is_err_and c.from_residual-in_err-rest-2.result c.from_residual-in_err-rest-2.ensures.1 in
    subst (λ (r : Result ℕ TraceFault). IfErr r (KeepsFaulty c.args.self.now.number c.args.piece.now c.take_line.new.kept.items)) (sym (p.1 ∙ ap (λ (f : TraceFault). Err f) p.2)) tt

pub returns-then-rest-gt255-clause-kept : goal.returns-then-rest-gt255-clause-kept
returns-then-rest-gt255-clause-kept c =
    kept_long c.args.self.now.draft.part c.args.self.now.number c.args.piece.now c.loop-line.self.draft c.loop-line.self.number c.loop-line.rest.now c.keep_front.new.kept.items c.loop-line.invariant c.in_default.ensures c.if-rest-gt255.true c.keep_front.ensures

pub returns-in_err-take_line-clause-err : goal.returns-in_err-take_line-clause-err
returns-in_err-take_line-clause-err c =
    let p = err_from_is_err_and c.from_residual-in_err-take_line.result c.from_residual-in_err-take_line.ensures.1 in
    subst (λ (r : Result ℕ TraceFault). IfErr r (IsAtFault c.args.self.now.draft.part c.args.self.now.number c.args.piece.now)) (sym (p.1 ∙ ap (λ (f : TraceFault). Err f) p.2))
    (fault_here c.args.self.now.draft.part c.args.self.now.number c.args.piece.now c.loop-line.self.draft c.loop-line.self.number c.loop-line.rest.now c.in-Some.line.now c.in-Some.after.now c.in_err-take_line.field-0.0
    c.loop-line.invariant c.in-Some.ensures.1 c.in-Some.ensures.0 c.in_err-take_line.ensures.err)

pub returns-in_err-rest-2-clause-err : goal.returns-in_err-rest-2-clause-err
returns-in_err-rest-2-clause-err c =
    let p = err_from_is_err_and c.from_residual-in_err-rest-2.result c.from_residual-in_err-rest-2.ensures.1 in
    subst (λ (r : Result ℕ TraceFault). IfErr r (IsAtFault c.args.self.now.draft.part c.args.self.now.number c.args.piece.now)) (sym (p.1 ∙ ap (λ (f : TraceFault). Err f) p.2))
    (fault_then c.args.self.now.draft.part c.args.self.now.number c.args.piece.now c.take_line.new.self.draft c.take_line.new.self.number c.in-Some.after.now fault.NoMemory
    (take_line c.args.self.now.draft.part c.args.self.now.number c.args.piece.now c.loop-line.self.draft c.loop-line.self.number c.loop-line.rest.now c.in-Some.line.now c.in-Some.after.now c.take_line.new.self.draft c.take_line.new.self.number
    c.loop-line.invariant c.in-Some.ensures.1 c.in-Some.ensures.0 c.in_ok-take_line.ensures.ok)
    c.in_err-rest-2.ensures.err)

pub loop-line-preserved : goal.loop-line-preserved
loop-line-preserved c =
    front_then c.args.self.now.draft.part c.args.self.now.number c.args.piece.now c.take_line.new.self.draft c.take_line.new.self.number c.in-Some.after.now c.take_requests-in-Some.new.self.draft c.take_requests-in-Some.new.self.number c.in_ok-rest-2.rest.now
    (take_line c.args.self.now.draft.part c.args.self.now.number c.args.piece.now c.loop-line.self.draft c.loop-line.self.number c.loop-line.rest.now c.in-Some.line.now c.in-Some.after.now c.take_line.new.self.draft c.take_line.new.self.number
    c.loop-line.invariant c.in-Some.ensures.1 c.in-Some.ensures.0 c.in_ok-take_line.ensures.ok)
    c.in_ok-rest-2.ensures.ok

pub returns-then-rest-gt255-clause-err : goal.returns-then-rest-gt255-clause-err
returns-then-rest-gt255-clause-err c =
    subst (λ (b : Breach). IsAtFault c.args.self.now.draft.part c.args.self.now.number c.args.piece.now (fault.Line c.loop-line.self.number b)) (sym c.at_word-breach.ensures)
    (fault_in_long c.args.self.now.draft.part c.args.self.now.number c.args.piece.now c.loop-line.self.draft c.loop-line.self.number c.loop-line.rest.now c.loop-line.invariant c.in_default.ensures c.if-rest-gt255.true)

pub returns-clause-ok : goal.returns-clause-ok
returns-clause-ok c =
    piece_taken c.args.self.now.draft.part c.args.self.now.number c.args.piece.now c.loop-line.self.draft c.loop-line.self.number c.loop-line.rest.now c.loop-line.invariant c.in_default.ensures c.if-rest-gt255.false
