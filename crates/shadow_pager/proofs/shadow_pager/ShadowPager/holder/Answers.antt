use Rattle.std.proofs.Common.{◌≡◌, None, ap, arith, find, length, position, ◌∙◌}
use Rattle.std.specs.Prelude.{slice_index_or}
use Rattle.std.specs.List.{range_with_len}
use Rattle.pager_model.specs.Forget.{holds_page}
use Rattle.shadow_pager.specs.Shown.{shown}
use Rattle.shadow_pager.proofs.Ranges.{found_first}
use Rattle.shadow_pager.proofs.shadow_pager.ShadowPager.holder.Goals as goal

pub returns-clause-holds : goal.returns-clause-holds
unfolding shown
returns-clause-holds c = λ config same.
    let s = c.args.self.now in
    let frames : length s.held ≡ config.frames = omega (arith, s.each_held, same) in
    c.holder_in.ensures.holds
    ∙ (ap (position (holds_page c.args.page)) c.items.ensures
    ∙ (found_first (holds_page c.args.page) None s.held
    ∙ ap (λ n. find (λ f. holds_page c.args.page (slice_index_or s.held f None)) (range_with_len 0 n)) frames))
