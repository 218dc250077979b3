use Rattle.std.proofs.Common.{◌≡◌, ℕ, Bool, ap, arith, not, sym, ◌∙◌}
use Rattle.std.specs.List.{filter, range_with_len}
use Rattle.pager_model.specs.Changes.{pushed_if}
use Rattle.pager_model.specs.Opening.{is_bad}
use Rattle.shadow_pager.proofs.First.{filter_more, map_same}
use Rattle.shadow_pager.proofs.shadow_pager.free_of.Goals as goal

pub loop-f-preserved : goal.loop-f-preserved
loop-f-preserved c =
    let p : ℕ → Bool = λ f. not (is_bad c.args.config.now f) in
    c.in_ok-push_if.ensures
    ∙ (ap (λ b. pushed_if (not b) c.loop-f.free c.loop-f.f) c.is_bad.ensures
    ∙ (ap (λ xs. pushed_if (p c.loop-f.f) xs c.loop-f.f) c.loop-f.invariant ∙ sym (filter_more p c.loop-f.f)))

pub returns : goal.returns
returns c =
    let all : c.loop-f.f ≡ c.args.config.now.frames = omega arith in
    c.loop-f.invariant
    ∙ (ap (filter (λ f. not (is_bad c.args.config.now f))) (map_same _)
    ∙ ap (λ n. filter (λ f. not (is_bad c.args.config.now f)) (range_with_len 0 n)) all)
