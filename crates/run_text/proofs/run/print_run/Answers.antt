use Rattle.std.proofs.Common.{ℕ, ◌++◌, List, All, length, sym, ◌∙◌, ap, subst}
use Rattle.std.proofs.lemmas.List.Elements.{All-drop, All-take}
use Rattle.vm_journal.specs.HasLine.{HasLine}
use Rattle.vm_journal.specs.declared.entry.Entry.{Entry}
use Rattle.pager_model.specs.Run.{pager_after}
use Rattle.run_words.specs.Text.{run_text, status_line}
use Rattle.command_ends.proofs.Ending.{ends_cut, ends_then}
use Rattle.command_ends.specs.Ends.{Ends}
use Rattle.run_text.specs.Parts.{run_status}
use Rattle.run_text.proofs.DirtyPages.{told_printable}
use Rattle.run_text.proofs.RunParts.{entries_have_lines, first_part, run_text_parts, same_past, same_rest, second_part}
use Rattle.run_text.proofs.run.print_run.Goals as goal

pub print_parts-requires-clause-before_lines : goal.print_parts-requires-clause-before_lines
print_parts-requires-clause-before_lines g c =
    let all = entries_have_lines c.args.config.now (c.requires.rest ++ c.requires.past) c.args.entries.now (length c.items.result.now) c.items-names.result.now
    c.requires.legal c.requires.parts.all (ap length c.items.ensures) c.items-names.ensures in
    subst (All (HasLine (length c.items.result.now) c.items-names.result.now)) (sym c.split_at.ensures.front)
    (All-take (HasLine (length c.items.result.now) c.items-names.result.now) c.args.at c.args.entries.now all)

pub print_parts-requires-clause-after_lines : goal.print_parts-requires-clause-after_lines
print_parts-requires-clause-after_lines g c =
    let all = entries_have_lines c.args.config.now (c.requires.rest ++ c.requires.past) c.args.entries.now (length c.items.result.now) c.items-names.result.now
    c.requires.legal c.requires.parts.all (ap length c.items.ensures) c.items-names.ensures in
    subst (All (HasLine (length c.items.result.now) c.items-names.result.now)) (sym c.split_at.ensures.back)
    (All-drop (HasLine (length c.items.result.now) c.items-names.result.now) c.args.at c.args.entries.now all)

pub print_parts-requires-clause-dirty : goal.print_parts-requires-clause-dirty
print_parts-requires-clause-dirty g c =
    told_printable c.args.config.now (pager_after c.args.config.now (c.requires.rest ++ c.requires.past)) c.items-names.result.now c.args.dirty.now
    c.requires.formed c.items-names.ensures c.requires.last

pub returns-in-Ok : goal.returns-in-Ok
returns-in-Ok g c = λ past rest parts.
    let TellsText : List ℕ → Type 0 = λ text.
    Ends (g.K.Sink.seen c.args.sink.now)
    (g.K.Sink.seen c.end_with.new.sink)
    (run_status c.args.dirty.now) text c.end_with.result.0 in
    let ends = ends_then {two = status_line (run_status c.args.dirty.now)} c.in-Ok.ensures (rw c.run_status.ensures at c.end_with.ensures) in
    let before = c.split_at.ensures.front ∙ first_part c.args.entries.now c.args.at c.requires.past c.requires.rest c.requires.parts in
    let after = c.split_at.ensures.back ∙ second_part c.args.entries.now c.args.at c.requires.past c.requires.rest c.requires.parts in
    let text = run_text_parts c.args.config.now c.requires.past c.requires.rest (length c.items.result.now) c.items-names.result.now c.split_at.result.0.now c.args.report.now c.split_at.result.1.now c.args.dirty.now
    (run_status c.args.dirty.now) (ap length c.items.ensures) c.items-names.ensures before c.requires.recount after c.requires.last in
    subst (λ (es : List Entry). TellsText (run_text c.args.config.now es rest (run_status c.args.dirty.now)))
    (same_past c.args.entries.now c.args.at c.requires.past c.requires.rest past rest c.requires.parts parts)
    (subst (λ (es : List Entry). TellsText (run_text c.args.config.now c.requires.past es (run_status c.args.dirty.now)))
    (same_rest c.args.entries.now c.args.at c.requires.past c.requires.rest past rest c.requires.parts parts)
    (subst TellsText text ends))

pub returns-in-Err : goal.returns-in-Err
returns-in-Err g c = λ past rest parts.
    let TellsText : List ℕ → Type 0 = λ text.
    Ends (g.K.Sink.seen c.args.sink.now)
    (g.K.Sink.seen c.print_parts.new.sink)
    (run_status c.args.dirty.now) text 4 in
    let ends = ends_cut (status_line (run_status c.args.dirty.now)) (run_status c.args.dirty.now) c.in-Err.ensures in
    let before = c.split_at.ensures.front ∙ first_part c.args.entries.now c.args.at c.requires.past c.requires.rest c.requires.parts in
    let after = c.split_at.ensures.back ∙ second_part c.args.entries.now c.args.at c.requires.past c.requires.rest c.requires.parts in
    let text = run_text_parts c.args.config.now c.requires.past c.requires.rest (length c.items.result.now) c.items-names.result.now c.split_at.result.0.now c.args.report.now c.split_at.result.1.now c.args.dirty.now
    (run_status c.args.dirty.now) (ap length c.items.ensures) c.items-names.ensures before c.requires.recount after c.requires.last in
    subst (λ (es : List Entry). TellsText (run_text c.args.config.now es rest (run_status c.args.dirty.now)))
    (same_past c.args.entries.now c.args.at c.requires.past c.requires.rest past rest c.requires.parts parts)
    (subst (λ (es : List Entry). TellsText (run_text c.args.config.now c.requires.past es (run_status c.args.dirty.now)))
    (same_rest c.args.entries.now c.args.at c.requires.past c.requires.rest past rest c.requires.parts parts)
    (subst TellsText text ends))
