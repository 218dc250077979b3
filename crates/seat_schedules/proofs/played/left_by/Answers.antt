use Rattle.std.proofs.Common.{◌∙◌, ap, length, arith}
use Rattle.std.proofs.lemmas.List.{length-reverse}
use Rattle.vm_types.specs.declared.config.Config.{Config}
use Rattle.seat_schedules.proofs.LinesPlayed.{lines_given, names_given, text_given}
use Rattle.seat_schedules.proofs.played.left_by.Goals as goal

pub lines-requires-clause-numbers : goal.lines-requires-clause-numbers
lines-requires-clause-numbers g c =
    let count = ap length (c.entries-made.ensures c.requires) ∙ length-reverse c.args.state.now.past in
    let short = c.run_law.ensures.short in
    omega (arith, count, short)

pub lines-requires-clause-names : goal.lines-requires-clause-names
lines-requires-clause-names g c =
    names_given c.args.state.now.config (length c.items.result.now) c.items-names.result.now c.run_law.ensures.formed
    (ap length c.items.ensures ∙ ap (λ (k : Config). length k.procs) c.config-config.ensures) (c.items-names.ensures ∙ ap (λ (k : Config). k.sections) c.config-config.ensures)

pub lines-requires-clause-have_lines : goal.lines-requires-clause-have_lines
lines-requires-clause-have_lines g c =
    lines_given c.runs_have_lines.ensures c.args.state.now.config c.args.state.now.past c.entries-made.result.now (length c.items.result.now) c.items-names.result.now c.run_law.ensures.run (c.entries-made.ensures c.requires)
    (ap length c.items.ensures ∙ ap (λ (k : Config). length k.procs) c.config-config.ensures) (c.items-names.ensures ∙ ap (λ (k : Config). k.sections) c.config-config.ensures)

pub returns : goal.returns
returns g c = record {
  entries = c.in_ok-entries.ensures.items ∙ (c.entries-made.ensures c.requires);
  lines = text_given c.args.state.now.config c.args.state.now.past c.entries-made.result.now (length c.items.result.now) c.items-names.result.now _ c.in_ok-text.ensures (c.entries-made.ensures c.requires)
      (ap length c.items.ensures ∙ ap (λ (k : Config). length k.procs) c.config-config.ensures) (c.items-names.ensures ∙ ap (λ (k : Config). k.sections) c.config-config.ensures);
  frames = c.in_ok-rows.ensures;
  nexts = c.in_ok-nexts.ensures;
  blocks = c.in_ok-blocks.ensures;
}
