use Rattle.std.proofs.Common.{◌≡◌, ◌<◌, ℕ, false}
use Rattle.vm_types.specs.declared.names.Page.TheVariants.{Shared}
use Rattle.state_parts.specs.ChargedTable.{kept_at}
use Rattle.state_pages.specs.PagesShown.{is_waiting}
use Rattle.state_pages.proofs.pages_shown.section_waits.Given as goal

-- no page before this one waits
abbrev pub invariant-loop-i : goal.invariant-loop-i
invariant-loop-i l = (j : ℕ) → j < l.i → is_waiting (kept_at l.pages (Shared l.s j)) ≡ false
