use Rattle.std.proofs.Common.{◌≡◌, ℕ, ◌∙◌, ap, length, map, arith}
use Rattle.std.specs.List.{range_with_len}
use Rattle.vm_types.specs.declared.config.Config.{Config}
use Rattle.dump_bytes.specs.Dumped.{process_of}
use Rattle.dump_laws.specs.DumpAfter.{process_at}
use Rattle.vm_state.specs.History.{pager}
use Rattle.state_dump.proofs.Walks.{made_more}
use Rattle.state_dump.proofs.processes.proc_recs.Goals as goal

pub loop-number-preserved : goal.loop-number-preserved
loop-number-preserved g c =
    made_more process_of (process_at (pager c.args.state.now)) c.loop-number.recs.items _ c.in_ok-rec.rec c.loop-number.number c.in_ok-push.ensures.items c.loop-number.invariant c.in_ok-rec.ensures

pub returns : goal.returns
returns g c =
    let s = c.args.state.now in
    let many : length c.items.result.now ≡ length s.config.procs = ap length (c.items.ensures ∙ ap (λ (x : Config). x.procs) c.config.ensures) in
    let ends : c.loop-number.number ≡ length s.config.procs = omega (arith, many, c.loop-number-test.false, c.loop-number.auto.number-end) in
    c.loop-number.invariant ∙ ap (λ (n : ℕ). map (process_at (pager s)) (range_with_len 0 n)) ends
