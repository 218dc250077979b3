-- The cases of a step of a process that leaves, or comes back, one after another, on a history. This project's own.
use Rattle.std.specs.Prelude.{ℕ, Some}
use Rattle.pager_policy.specs.Given.{given, seen_at}
use Rattle.pager_policy.specs.Swap.{GivenSwap, back_page, come_gives, come_out, leave_gives, leave_page, leave_unsaved, swap_more, turned_gone, turned_resident}
use Rattle.pager_model.specs.Lying.{lying_in}
use Rattle.vm_state.specs.History.{History, pager}

-- ---- leaving
abbrev pub at_leave : History → ℕ → GivenSwap
at_leave s p = leave_gives s.config s.past (pager s) p

abbrev pub at_slot : History → ℕ → ℕ → GivenSwap
at_slot s p n = leave_page s.config s.past (pager s) p (seen_at (pager s) p n)

abbrev pub at_writes : History → ℕ → ℕ → GivenSwap
at_writes s p n = leave_unsaved s.config s.past (pager s) p (Some n)

abbrev pub at_gone : History → ℕ → GivenSwap
at_gone s p = turned_gone (pager s) p

-- ---- coming
abbrev pub at_come : History → ℕ → GivenSwap
at_come s p = come_gives s.config s.past (pager s) p

abbrev pub at_back : History → ℕ → ℕ → GivenSwap
at_back s p n = given (back_page s.config (pager s) p (lying_in (pager s) p n)) swap_more

abbrev pub at_reads : History → ℕ → ℕ → GivenSwap
at_reads s p n = come_out s.config s.past (pager s) p (Some n)

abbrev pub at_resident : History → ℕ → GivenSwap
at_resident s p = turned_resident s.past p
