use Rattle.std.proofs.Common.{◌≡◌, ℕ, ◌∷◌, ◌++◌, [], ap, arith, map, sym, ◌∙◌}
use Rattle.std.specs.List.{range_with_len}
use Rattle.std.proofs.lemmas.List.FromFn.{map-range_with_len_more}
use Rattle.vm_types.specs.declared.names.FrameState.{FrameState}
use Rattle.pager_model.specs.Opening.{first_state, is_bad}
use Rattle.shadow_pager.proofs.shadow_pager.states_of.Goals as goal

pub loop-f-preserved : goal.loop-f-preserved
loop-f-preserved c =
    let g : ℕ → FrameState = λ f. first_state (is_bad c.args.config.now f) in
    let x : c.first_state.result ≡ g c.loop-f.f = c.first_state.ensures ∙ ap first_state c.is_bad.ensures in (
      omega (arith, c.in_ok-push.ensures.len),
      c.in_ok-push.ensures.items
          ∙ (ap (λ xs. xs ++ c.first_state.result ∷ []) c.loop-f.invariant.1
          ∙ (ap (λ y. map g (range_with_len 0 c.loop-f.f) ++ y ∷ []) x ∙ sym (map-range_with_len_more g 0 c.loop-f.f c.loop-f.f (omega arith)))),
    )
