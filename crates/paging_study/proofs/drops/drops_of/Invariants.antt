use Rattle.std.proofs.Common.{◌≡◌, ◌*◌, ◌≤◌, ℕ, length}
use Rattle.vm_types.specs.declared.limits.TheConstants.{MOST_LONG_REQUESTS}
use Rattle.paging_study.specs.Places.{page_at}
use Rattle.paging_study.specs.Least.{AreEnds}
use Rattle.paging_study.proofs.Forward.{Forward}
use Rattle.paging_study.proofs.drops.drops_of.Given as goal

-- what is open, dropped and counted so far, for any pages with these ends
abbrev pub invariant-loop-i : goal.invariant-loop-i
invariant-loop-i l = record {
  state : (page : ℕ → ℕ) → AreEnds page (length l.ends) (page_at l.ends) → Forward page (length l.ends) l.room l.open l.drops.items l.faults l.i;
  room : length l.ends ≤ length l.open;
  small : length l.open ≤ 2 * MOST_LONG_REQUESTS;
  len : length l.drops.items ≡ l.i;
  few : l.faults ≤ l.i;
}
