use Rattle.std.proofs.Common.{◌∙◌, ℕ, List, Ok, Err, sym, subst, ap, take}
use Rattle.std.specs.Prelude.{IfSome}
use Rattle.outside_io.specs.declared.lines.Line.{Line}
use Rattle.outside_io.specs.declared.lines.Line.TheVariants.{Text}
use Rattle.outside_io.specs.HandedOut.{HandsOut, Takes}
use Rattle.outside_io.specs.BytesLeft.{bytes_left}
use Rattle.trace_lines.specs.declared.breach.Breach.{Breach}
use Rattle.trace_reader.specs.declared.fault.TraceFault.TheVariants as fault
use Rattle.trace_reader.specs.HeadAnswer.{HeadAnswers}
use Rattle.trace_reader.proofs.HeadReads.{told_empty, told_long, quiet_counts}
use Rattle.trace_reader.proofs.Kept.{answer_kept, head_empty, head_kept_long}
use Rattle.trace_reader.proofs.head.next_front.Goals as goal

pub returns-in-Ok-Text-clause-text : goal.returns-in-Ok-Text-clause-text
returns-in-Ok-Text-clause-text g c =
    c.take_ended.ensures.line (bytes_left g.S.Source.seen c.args.lines.now) (bytes_left g.S.Source.seen c.next.new.self)
    (subst (λ (line : List ℕ). HandsOut (Text c.in-Ok-Text.ended) line) (sym c.as_slice.ensures.value) (subst (λ (x : Line). HandsOut x c.next.new.out.items) c.in-Ok-Text.field-0-is c.in-Ok-Text.ensures.gives))
    (subst (λ (line : List ℕ). IfSome (bytes_left g.S.Source.seen c.args.lines.now) (λ text. Takes (Ok (Text c.in-Ok-Text.ended)) text line (bytes_left g.S.Source.seen c.next.new.self))) (sym c.as_slice.ensures.value)
    (subst (λ (x : Line). IfSome (bytes_left g.S.Source.seen c.args.lines.now) (λ text. Takes (Ok x) text c.next.new.out.items (bytes_left g.S.Source.seen c.next.new.self))) c.in-Ok-Text.field-0-is c.in-Ok-Text.ensures.takes))

pub returns-in-Ok-Text-clause-faults : goal.returns-in-Ok-Text-clause-faults
returns-in-Ok-Text-clause-faults g c = quiet_counts c.take_ended.result _ _ c.in-Ok-Text.ensures.quiet (c.take_ended.ensures.no_read _)

pub returns-in-Ok-Long-clause-text : goal.returns-in-Ok-Long-clause-text
returns-in-Ok-Long-clause-text g c =
    λ told h. subst (λ (b : Breach). IfSome told (λ text. HeadAnswers (Err (fault.Line c.args.reader.now.number b)) text (bytes_left g.S.Source.seen c.next.new.self))) (sym c.at_word-breach.ensures)
    (told_long told (bytes_left g.S.Source.seen c.args.lines.now) (bytes_left g.S.Source.seen c.next.new.self) c.args.reader.now.draft.part c.args.reader.now.number c.next.new.out.items h
    (subst (λ (x : Line). HandsOut x c.next.new.out.items) c.in-Ok-Long.field-0-is c.in-Ok-Long.ensures.gives)
    (subst (λ (x : Line). IfSome (bytes_left g.S.Source.seen c.args.lines.now) (λ text. Takes (Ok x) text c.next.new.out.items (bytes_left g.S.Source.seen c.next.new.self))) c.in-Ok-Long.field-0-is c.in-Ok-Long.ensures.takes))

pub returns-in-Ok-Text-clause-first_bytes : goal.returns-in-Ok-Text-clause-first_bytes
returns-in-Ok-Text-clause-first_bytes g c =
    λ told h. answer_kept c.take_ended.result told (bytes_left g.S.Source.seen c.args.lines.now) (bytes_left g.S.Source.seen c.next.new.self) c.args.reader.now.draft.part c.args.reader.now.number c.as_slice.result.now c.take_ended.new.kept.items
    c.in-Ok-Text.ended h
    (subst (λ (line : List ℕ). HandsOut (Text c.in-Ok-Text.ended) line) (sym c.as_slice.ensures.value) (subst (λ (x : Line). HandsOut x c.next.new.out.items) c.in-Ok-Text.field-0-is c.in-Ok-Text.ensures.gives))
    (subst (λ (line : List ℕ). IfSome (bytes_left g.S.Source.seen c.args.lines.now) (λ text. Takes (Ok (Text c.in-Ok-Text.ended)) text line (bytes_left g.S.Source.seen c.next.new.self))) (sym c.as_slice.ensures.value)
    (subst (λ (x : Line). IfSome (bytes_left g.S.Source.seen c.args.lines.now) (λ text. Takes (Ok x) text c.next.new.out.items (bytes_left g.S.Source.seen c.next.new.self))) c.in-Ok-Text.field-0-is c.in-Ok-Text.ensures.takes))
    c.take_ended.ensures.first_bytes

pub returns-in-Ok-Long-clause-first_bytes : goal.returns-in-Ok-Long-clause-first_bytes
returns-in-Ok-Long-clause-first_bytes g c =
    λ told h. head_kept_long told (bytes_left g.S.Source.seen c.args.lines.now) (bytes_left g.S.Source.seen c.next.new.self) c.args.reader.now.draft.part c.args.reader.now.number c.next.new.out.items c.keep_front.new.kept.items h
    (subst (λ (x : Line). HandsOut x c.next.new.out.items) c.in-Ok-Long.field-0-is c.in-Ok-Long.ensures.gives)
    (subst (λ (x : Line). IfSome (bytes_left g.S.Source.seen c.args.lines.now) (λ text. Takes (Ok x) text c.next.new.out.items (bytes_left g.S.Source.seen c.next.new.self))) c.in-Ok-Long.field-0-is c.in-Ok-Long.ensures.takes)
    (c.keep_front.ensures ∙ ap (λ (xs : List ℕ). take 80 xs) c.as_slice-in-Ok-Long.ensures.value)

pub returns-in-Ok-End-clause-text : goal.returns-in-Ok-End-clause-text
returns-in-Ok-End-clause-text g c =
    λ told h. told_empty told (bytes_left g.S.Source.seen c.args.lines.now) (bytes_left g.S.Source.seen c.next.new.self) c.args.reader.now.draft.part c.args.reader.now.number c.next.new.out.items h
    (subst (λ (x : Line). IfSome (bytes_left g.S.Source.seen c.args.lines.now) (λ text. Takes (Ok x) text c.next.new.out.items (bytes_left g.S.Source.seen c.next.new.self))) c.in-Ok-End.field-0-is c.in-Ok-End.ensures.takes)
    c.if-reader-eq1.true

pub returns-in-Ok-End-clause-first_bytes : goal.returns-in-Ok-End-clause-first_bytes
returns-in-Ok-End-clause-first_bytes g c =
    λ told h. head_empty told (bytes_left g.S.Source.seen c.args.lines.now) (bytes_left g.S.Source.seen c.next.new.self) c.args.reader.now.draft.part c.args.reader.now.number c.next.new.out.items c.args.kept.now.items h
    (subst (λ (x : Line). IfSome (bytes_left g.S.Source.seen c.args.lines.now) (λ text. Takes (Ok x) text c.next.new.out.items (bytes_left g.S.Source.seen c.next.new.self))) c.in-Ok-End.field-0-is c.in-Ok-End.ensures.takes)
    c.if-reader-eq1.true
