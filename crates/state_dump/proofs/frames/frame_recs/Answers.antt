use Rattle.std.proofs.Common.{◌∙◌, ℕ, List, [], ◌∷◌, ◌++◌, ap, sym, zero-add}
use Rattle.std.proofs.lemmas.List.FromFn.{map-range_with_len_more}
use Rattle.dump_bytes.specs.declared.dump.FrameRec.{FrameRec}
use Rattle.dump_laws.specs.DumpAfter.{dumped_frame, frame_at}
use Rattle.vm_state.specs.History.{pager}
use Rattle.state_dump.proofs.frames.frame_recs.Goals as goal

pub loop-f-preserved : goal.loop-f-preserved
loop-f-preserved g c =
    let f : ℕ = c.loop-f.f in
    let at = frame_at c.args.state.now.past (pager c.args.state.now) in
    c.in_ok-push.ensures.items
    ∙ (ap (λ (x : FrameRec). c.loop-f.recs.items ++ x ∷ []) (c.frame_rec.ensures ∙ ap dumped_frame c.frame.ensures)
    ∙ (ap (λ (xs : List FrameRec). xs ++ at f ∷ []) c.loop-f.invariant ∙ sym (map-range_with_len_more at 0 f f (zero-add f))))
