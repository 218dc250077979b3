use Rattle.std.proofs.Common.{◌≡◌, ℕ, ◌<◌, ◌&&◌, false}
use Rattle.pager_model.specs.Forget.{holds_page}
use Rattle.shadow_pager.specs.Shown.{shown}
use Rattle.log_report.proofs.dirty.is_dirty.Given as goal

-- none of the frames before this one
abbrev pub invariant-loop-f : goal.invariant-loop-f
invariant-loop-f l = (f : ℕ) → f < l.f → (holds_page l.page ((shown l.pager).pager.page f) && (shown l.pager).pager.modify f) ≡ false
