use Rattle.std.proofs.Common.{◌≡◌, ℕ, ◌∙◌, ap, length, map, sym, arith}
use Rattle.std.specs.List.{range_with_len}
use Rattle.vm_types.specs.declared.config.Config.{Config}
use Rattle.pager_model.specs.Report.{process_row}
use Rattle.vm_state.specs.History.{pager}
use Rattle.pfn_report.specs.Counts.{pins_below, shares_below}
use Rattle.run_text.specs.Rows.{process_view}
use Rattle.run_text.proofs.RowsPushed.{row_pushed}
use Rattle.pfn_report.proofs.SlotShares.{none_below}
use Rattle.pfn_report.proofs.SlotPins.{none_pinned}
use Rattle.pfn_report.proofs.SlotsPassed.{all_counted, all_pins_counted, counts_as}
use Rattle.pfn_report.proofs.rows.process_rows.Goals as goal

pub loop-number-init : goal.loop-number-init
loop-number-init g c =
    record {
      rows = ap (map process_view) c.new-rows.ensures;
      counts = counts_as c.args.state.now.config.frames _ _ c.args.counts.now c.requires.no_shares (none_below (pager c.args.state.now).valid);
      pins = counts_as c.args.state.now.config.frames _ _ c.args.pins.now c.requires.no_pins (none_pinned (pager c.args.state.now));
    }

pub loop-number-preserved : goal.loop-number-preserved
loop-number-preserved g c =
    record {
      rows = row_pushed process_view (process_row (pager c.args.state.now)) c.loop-number.rows _ c.loop-number.number _ c.in_ok-push.ensures.ok c.loop-number.invariant.rows
          (λ i. record { status = c.status-status.ensures i; count = c.count_slots-count.ensures.filled i; limit = c.limit_of-limit.ensures i });
      counts = c.count_slots-count.ensures.after;
      pins = c.count_slots-count.ensures.pins_after;
    }

pub returns : goal.returns
returns g c =
    let s = c.args.state.now in
    let many : length c.items.result.now ≡ length s.config.procs = ap length (c.items.ensures ∙ ap (λ (x : Config). x.procs) c.config.ensures) in
    let ends : c.loop-number.number ≡ length s.config.procs = omega (arith, many, c.loop-number-test.false, c.loop-number.auto.number-end) in
    record {
      rows = c.loop-number.invariant.rows ∙ ap (λ (n : ℕ). map (process_row (pager s)) (range_with_len 0 n)) ends;
      counts = counts_as s.config.frames _ _ c.loop-number.counts c.loop-number.invariant.counts
          (λ f. sym (ap (λ (n : ℕ). shares_below (pager s).valid n f) ends ∙ all_counted s.config s.past c.run_law.ensures.formed c.run_law.ensures.run f));
      pins = counts_as s.config.frames _ _ c.loop-number.pins c.loop-number.invariant.pins
          (λ f. sym (ap (λ (n : ℕ). pins_below (pager s) n f) ends ∙ all_pins_counted s.config s.past c.run_law.ensures.formed c.run_law.ensures.run f));
    }
