use Rattle.std.proofs.Common.{ℕ, ◌∙◌, List, ap, length, map, arith}
use Rattle.std.specs.List.{range_with_len}
use Rattle.std.proofs.lemmas.List.{length-map}
use Rattle.std.proofs.lemmas.List.FromFn.{length-map-range_with_len}
use Rattle.vm_types.specs.declared.config.Config.{Config}
use Rattle.pager_model.specs.Report.{FrameRow, all_states, frame_row, in_state, process_row}
use Rattle.run_text.specs.Rows.{frame_view}
use Rattle.shadow_pager.specs.Shown.{shown}
use Rattle.log_report.proofs.SmallCounts.{small_assigned, small_charged}
use Rattle.log_report.proofs.recounting.recount.Goals as goal

pub count_states-requires : goal.count_states-requires
count_states-requires c =
    let config = c.args.past.now.config in
    omega (
      arith,
      ap length c.items.ensures,
      length-map c.in_ok-frames.frames frame_view,
      ap length c.in_ok-frames.ensures,
      length-map-range_with_len (frame_row c.args.past.now.past (shown c.args.pager.now).pager) 0 config.frames,
      (c.requires.formed).frames,
    )

pub process_rows-requires : goal.process_rows-requires
process_rows-requires c =
    let many = ap length (c.items-2.ensures ∙ ap (λ (x : Config). x.procs) c.config-config.ensures) in
    omega (arith, many, c.requires.processes)

pub narrowed-charged-requires : goal.narrowed-charged-requires
narrowed-charged-requires c =
    omega (arith, c.charged_pages.ensures, small_charged c.args.past.now.config c.args.past.now.past (shown c.args.pager.now) c.requires)

pub narrowed-assigned-requires : goal.narrowed-assigned-requires
narrowed-assigned-requires c =
    omega (arith, c.assigned_blocks.ensures, small_assigned c.args.past.now.config c.args.past.now.past (shown c.args.pager.now) c.requires)

pub returns : goal.returns
returns c =
    let many = ap length (c.items-2.ensures ∙ ap (λ (x : Config). x.procs) c.config-config.ensures) in
    let states = c.in_ok-states.ensures ∙ ap (λ (rows : List FrameRow). map (in_state rows) all_states) (ap (map frame_view) c.items.ensures ∙ c.in_ok-frames.ensures) in
    let size = ap (λ (x : Config). x.pagefile) c.config-config.ensures in
    let charged = c.narrowed-charged.ensures ∙ c.charged_pages.ensures in
    let assigned = c.narrowed-assigned.ensures ∙ c.assigned_blocks.ensures in
    let processes = c.in_ok-processes.ensures ∙ ap (λ (n : ℕ). map (process_row (shown c.args.pager.now).pager) (range_with_len 0 n)) many in
    λ i. record { at = c.count.ensures i; states = states i; frames = c.in_ok-frames.ensures i; size = size i; charged = charged i; assigned = assigned i; processes = processes i }
