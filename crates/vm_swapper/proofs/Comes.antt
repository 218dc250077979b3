-- The reads of a process that comes back, as the readers of a state show them.
use Rattle.std.proofs.Common.{◌≡◌, ℕ, false, List, length, nat_eq, sym, ap, ◌∙◌}
use Rattle.vm_types.specs.Adjust.{lesser}
use Rattle.pager_policy.specs.Given.{Target, given, reads_made}
use Rattle.pager_policy.specs.Swap.{swap_carry}
use Rattle.call_begins.proofs.Branches.{if_false}
use Rattle.vm_state.specs.History.{History, pager}
use Rattle.vm_swapper.specs.Cases.{at_reads}
use Rattle.vm_swapper.specs.Runs.{address_at, gathered, reads_from}
use Rattle.vm_swapper.proofs.Gathered.{reads_are}

module _ (s : History) (p : ℕ) where
  -- the reads of a run
  pub reads_of : (n free most : ℕ) (addresses : List ℕ) → free ≡ length (pager s).free → nat_eq free 0 ≡ false → addresses ≡ gathered (address_at s.config (pager s) p) n most → most ≡ lesser s.config.params.pfc (length (pager s).free)
      → at_reads s p n ≡ given (reads_made (pager s).page (pager s).free (reads_from p n addresses)) swap_carry
  reads_of n free most addresses is some items most_is =
      if_false (nat_eq (length (pager s).free) 0) _ _ (ap (λ (k : ℕ). nat_eq k 0) (sym is) ∙ some)
      ∙ sym (ap (λ (ts : List Target). given (reads_made (pager s).page (pager s).free ts) swap_carry)
      (ap (reads_from p n) (items ∙ ap (gathered (address_at s.config (pager s) p) n) most_is) ∙ reads_are s.config (pager s) p (lesser s.config.params.pfc (length (pager s).free)) n))
