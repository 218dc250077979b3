use Rattle.std.proofs.Common.{◌≡◌, ◌<◌, ◌≤◌, ℕ, false}
use Rattle.vm_types.specs.declared.names.Page.TheVariants.{Private}
use Rattle.state_parts.specs.ChargedTable.{kept_at}
use Rattle.state_pages.specs.PagesShown.{is_waiting}
use Rattle.state_pages.proofs.pages_shown.waits_between.Given as goal

-- no page before this one waits
abbrev pub invariant-loop-vpn : goal.invariant-loop-vpn
invariant-loop-vpn l = (v : ℕ) → l.fn.from ≤ v → v < l.vpn → is_waiting (kept_at l.pages (Private l.p v)) ≡ false
