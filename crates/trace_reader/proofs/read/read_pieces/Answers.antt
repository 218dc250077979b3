use Rattle.std.proofs.Common.{◌≡◌, ◌≢◌, ◌∙◌, ◌+◌, ◌-◌, ◌≤◌, ℕ, List, All, Result, Err, refl, sym, ap, subst, length, take, drop, arith}
use Rattle.std.specs.Prelude.{IfErr, IfSome}
use Rattle.vm_types.specs.declared.config.Config.{Config}
use Rattle.std.proofs.lemmas.List.{length-take-le}
use Rattle.trace_reader.specs.declared.fault.TraceFault.{TraceFault}
use Rattle.std.proofs.lemmas.Result.{err_from_is_err_and}
use Rattle.trace_reader.specs.LineText.{IsTextOf}
use Rattle.trace_reader.specs.Stream.{IsHeld}
use Rattle.trace_reader.proofs.Kept.{end_kept, piece_kept}
use Rattle.trace_reader.proofs.Reading.{from_start, read_failed, text_ended, came, piece_fault, answers_along, went_on}
use Rattle.trace_reader.proofs.read.read_pieces.Goals as goal

pub loop-count-init : goal.loop-count-init
loop-count-init g c = record {
  between = from_start (g.S.Source.seen c.args.source.now).left c.args.buffer.now c.args.reader.draft c.args.reader.number c.requires.room c.requires.start c.requires.first c.requires.seen;
  faults = refl;
}

pub returns-in_default-clause-text : goal.returns-in_default-clause-text
returns-in_default-clause-text g c =
    read_failed (g.S.Source.seen c.args.source.now).left (g.S.Source.seen c.loop-count.source).left (g.S.Source.seen c.read_more.new.source).left
    c.loop-count.buffer c.loop-count.reader.draft c.loop-count.reader.number c.loop-count.held c.loop-count.invariant.between c.in_default.ensures.failed

pub returns-then-count-eq0-clause-text : goal.returns-then-count-eq0-clause-text
returns-then-count-eq0-clause-text g c =
    text_ended c.end.result (g.S.Source.seen c.args.source.now).left (g.S.Source.seen c.loop-count.source).left (g.S.Source.seen c.read_more.new.source).left
    c.loop-count.buffer c.read_more.new.buffer c.loop-count.reader.draft c.loop-count.reader.number c.loop-count.held c.in-Ok.count c.loop-count.invariant.between
    c.in-Ok.ensures.kept c.if-count-eq0.true c.in-Ok.ensures.bytes (c.in-Ok.ensures.end c.if-count-eq0.true)
    c.end.ensures.means

pub returns-then-count-eq0-clause-kept : goal.returns-then-count-eq0-clause-kept
returns-then-count-eq0-clause-kept g c =
    let held = came (g.S.Source.seen c.args.source.now).left (g.S.Source.seen c.loop-count.source).left (g.S.Source.seen c.read_more.new.source).left
    c.loop-count.buffer c.read_more.new.buffer c.loop-count.reader.draft c.loop-count.reader.number c.loop-count.held c.in-Ok.count c.loop-count.invariant.between
    c.in-Ok.ensures.kept c.in-Ok.ensures.bytes in
    let all : c.loop-count.held + c.in-Ok.count ≡ c.loop-count.held = omega (arith, c.if-count-eq0.true) in
    end_kept c.end.result (g.S.Source.seen c.args.source.now).left (g.S.Source.seen c.read_more.new.source).left (take c.loop-count.held c.read_more.new.buffer) c.end.new.kept.items
    c.loop-count.reader.draft.part c.loop-count.reader.number
    (subst (λ (n : ℕ). IfSome (g.S.Source.seen c.args.source.now).left (λ t. IsHeld t (g.S.Source.seen c.read_more.new.source).left c.loop-count.reader.draft.part c.loop-count.reader.number (take n c.read_more.new.buffer))) all held)
    (c.in-Ok.ensures.end c.if-count-eq0.true)
    (subst (λ (xs : List ℕ). All (λ b. b ≢ 10) xs) (sym c.in-Ok.ensures.kept) c.loop-count.invariant.between.one_line)
    c.end.ensures.kept

pub returns-in_err-held-clause-kept : goal.returns-in_err-held-clause-kept
returns-in_err-held-clause-kept g c =
    let p = err_from_is_err_and c.from_residual.result c.from_residual.ensures.1 in
    let held = came (g.S.Source.seen c.args.source.now).left (g.S.Source.seen c.loop-count.source).left (g.S.Source.seen c.read_more.new.source).left
    c.loop-count.buffer c.read_more.new.buffer c.loop-count.reader.draft c.loop-count.reader.number c.loop-count.held c.in-Ok.count c.loop-count.invariant.between
    c.in-Ok.ensures.kept c.in-Ok.ensures.bytes in
    subst (λ (r : Result Config TraceFault). IfErr r (λ f. IsTextOf f (g.S.Source.seen c.args.source.now).left c.take_piece.new.kept.items)) (sym (p.1 ∙ ap (λ (f : TraceFault). Err f) p.2))
    (piece_kept (g.S.Source.seen c.args.source.now).left (g.S.Source.seen c.read_more.new.source).left (take (c.loop-count.held + c.in-Ok.count) c.read_more.new.buffer) c.take_piece.new.kept.items
    c.loop-count.reader.draft.part c.loop-count.reader.number c.in_err-held.field-0.0 held c.in_err-held.ensures.kept)

pub returns-in_err-held-clause-text : goal.returns-in_err-held-clause-text
returns-in_err-held-clause-text g c =
    let p = err_from_is_err_and c.from_residual.result c.from_residual.ensures.1 in
    let held = came (g.S.Source.seen c.args.source.now).left (g.S.Source.seen c.loop-count.source).left (g.S.Source.seen c.read_more.new.source).left
    c.loop-count.buffer c.read_more.new.buffer c.loop-count.reader.draft c.loop-count.reader.number c.loop-count.held c.in-Ok.count c.loop-count.invariant.between
    c.in-Ok.ensures.kept c.in-Ok.ensures.bytes in
    let room : length c.loop-count.buffer ≡ 8192 = c.loop-count.invariant.between.room in
    let few : length (take (c.loop-count.held + c.in-Ok.count) c.read_more.new.buffer) ≤ 8192 = rw (length-take-le (c.loop-count.held + c.in-Ok.count) c.read_more.new.buffer (omega (arith, c.in-Ok.ensures.bound))) (omega (arith, c.in-Ok.ensures.bound)) in
    answers_along (g.S.Source.seen c.args.source.now).left (g.S.Source.seen c.read_more.new.source).left c.from_residual.result (Err c.in_err-held.field-0.0) (p.1 ∙ ap (λ (f : TraceFault). Err f) p.2)
    (piece_fault (g.S.Source.seen c.args.source.now).left (g.S.Source.seen c.read_more.new.source).left (take (c.loop-count.held + c.in-Ok.count) c.read_more.new.buffer)
    c.loop-count.reader.draft.part c.loop-count.reader.number c.in_err-held.field-0.0 few held
    c.in_err-held.ensures.err)

pub loop-count-preserved : goal.loop-count-preserved
loop-count-preserved g c =
    let held = came (g.S.Source.seen c.args.source.now).left (g.S.Source.seen c.loop-count.source).left (g.S.Source.seen c.read_more.new.source).left
    c.loop-count.buffer c.read_more.new.buffer c.loop-count.reader.draft c.loop-count.reader.number c.loop-count.held c.in-Ok.count c.loop-count.invariant.between
    c.in-Ok.ensures.kept c.in-Ok.ensures.bytes in
    let whole : length (take (c.loop-count.held + c.in-Ok.count) c.read_more.new.buffer) ≡ c.loop-count.held + c.in-Ok.count =
    length-take-le (c.loop-count.held + c.in-Ok.count) c.read_more.new.buffer (omega (arith, c.in-Ok.ensures.bound)) in
    record {
      between = went_on (g.S.Source.seen c.args.source.now).left (g.S.Source.seen c.read_more.new.source).left (take (c.loop-count.held + c.in-Ok.count) c.read_more.new.buffer) c.keep_last.new.buffer
          c.loop-count.reader.draft.part c.take_piece.new.self.draft c.loop-count.reader.number c.take_piece.new.self.number c.in_ok-held.held held
          c.in_ok-held.ensures.ok (omega arith)
          (c.keep_last.ensures ∙ ap (λ (n : ℕ). drop (n - c.in_ok-held.held) (take (c.loop-count.held + c.in-Ok.count) c.read_more.new.buffer)) (sym whole));
      faults = c.in-Ok.ensures.quiet ∙ c.loop-count.invariant.faults;
    }
