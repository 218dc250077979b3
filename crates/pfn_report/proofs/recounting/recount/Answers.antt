use Rattle.std.proofs.Common.{◌∙◌, List, ap, length, map, subst, sym, arith}
use Rattle.std.specs.Prelude.{replicate}
use Rattle.std.proofs.lemmas.List.{length-map}
use Rattle.std.proofs.lemmas.List.FromFn.{length-map-range_with_len}
use Rattle.vm_types.specs.declared.config.Config.{Config}
use Rattle.pager_model.specs.Report.{FrameRow, all_states, frame_row, in_state}
use Rattle.vm_state.specs.History.{pager}
use Rattle.pfn_report.specs.Counts.{AreFrameCounts}
use Rattle.run_text.specs.Printable.{IsPrintable}
use Rattle.run_text.specs.Rows.{frame_view}
use Rattle.run_text.proofs.Prints.{report_printable}
use Rattle.pfn_report.proofs.SlotsPassed.{counts_none}
use Rattle.pfn_report.proofs.recounting.recount.Goals as goal

pub process_rows-requires-clause-no_shares : goal.process_rows-requires-clause-no_shares
process_rows-requires-clause-no_shares g c κs within =
    let frames = c.args.state.now.config.frames in
    subst (AreFrameCounts frames (λ f. 0))
    (sym (c.deref_mut.ensures.value ∙ (c.in_ok-counts.ensures ∙ ap (λ (x : Config). replicate x.frames 0) c.config-config.ensures)))
    (counts_none frames)

pub process_rows-requires-clause-no_pins : goal.process_rows-requires-clause-no_pins
process_rows-requires-clause-no_pins g c κs within =
    let frames = c.args.state.now.config.frames in
    subst (AreFrameCounts frames (λ f. 0))
    (sym (c.deref_mut-2.ensures.value ∙ (c.in_ok-pins.ensures ∙ ap (λ (x : Config). replicate x.frames 0) c.config-config.ensures)))
    (counts_none frames)

pub count_states-requires : goal.count_states-requires
count_states-requires g c =
    let s = c.args.state.now in
    omega (
      arith,
      ap length c.items.ensures,
      length-map c.in_ok-frames.frames frame_view,
      ap length c.in_ok-frames.ensures,
      length-map-range_with_len (frame_row s.past (pager s)) 0 s.config.frames,
      c.run_law.ensures.formed.frames,
    )

pub returns-clause-report : goal.returns-clause-report
returns-clause-report g c =
    let at = c.entry_count.ensures in
    let states = c.in_ok-states.ensures ∙ ap (λ (rows : List FrameRow). map (in_state rows) all_states) (ap (map frame_view) c.items.ensures ∙ c.in_ok-frames.ensures) in
    let size = ap (λ (x : Config). x.pagefile) c.config-config.ensures in
    λ i. record { at = at i; states = states i; frames = c.in_ok-frames.ensures i; size = size i; charged = c.charged.ensures i; assigned = c.assigned.ensures i; processes = c.in_ok-processes.ensures.rows i }

pub returns-clause-printable : goal.returns-clause-printable
returns-clause-printable g c =
    let s = c.args.state.now in
    subst (IsPrintable s.config.sections) (sym (returns-clause-report g c)) (report_printable s.config s.past c.run_law.ensures.formed c.run_law.ensures.run)
