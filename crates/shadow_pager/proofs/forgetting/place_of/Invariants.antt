use Rattle.std.proofs.Common.{◌≡◌, ◌+◌, drop}
use Rattle.std.specs.List.{position_or_len}
use Rattle.pager_model.specs.Forget.{holds_page}
use Rattle.shadow_pager.proofs.forgetting.place_of.Given as goal

abbrev pub invariant-loop-f : goal.invariant-loop-f
invariant-loop-f l = position_or_len (holds_page l.page) l.held ≡ l.f + position_or_len (holds_page l.page) (drop l.f l.held)
