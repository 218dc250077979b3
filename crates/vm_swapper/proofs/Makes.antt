-- What a step leaves, by what was given for it.
use Rattle.std.proofs.Common.{◌≡◌, ℕ, List, [], ◌∷◌, refl, sym, subst, arith}
use Rattle.vm_types.specs.BlockView.{BlockView, Tells}
use Rattle.vm_types.specs.declared.names.Proc.{Proc}
use Rattle.vm_types.specs.declared.names.Seat.{Seat}
use Rattle.vm_journal.specs.declared.entry.What.{What}
use Rattle.pager_policy.specs.Given.{given}
use Rattle.pager_policy.specs.Swap.{GivenSwap, SwapIs, come_gives, leave_gives, SwapWhy as Reason, swap_again, swap_carry, swap_more, swap_settled}
use Rattle.policy_tables.specs.ComeCases.{come_cases}
use Rattle.policy_tables.specs.LeaveCases.{leave_cases}
use Rattle.policy_tables.specs.Rows.{IsByCases}
use Rattle.policy_tables.proofs.ByCome.{goes_by_cases as come_goes}
use Rattle.policy_tables.proofs.ByLeave.{goes_by_cases as leave_goes}
use Rattle.call_laws.specs.Ready.{MayWork}
use Rattle.pager_model.specs.Run.{IsRun}
use Rattle.vm_types.specs.Configuration.{IsWellFormed}
use Rattle.call_begins.specs.Lifted.{HasLifts}
use Rattle.call_begins.specs.MayBegin.{MayBegin}
use Rattle.lift_carriers.specs.CarrierView.{CarrierView}
use Rattle.vm_state.specs.History.{History, added, entry_by, pager}
use Rattle.vm_state.specs.LiftsLand.{added_each}
use Rattle.vm_swapper.specs.Swaps.{MaySwap, Swaps, again_of, returned}
use Rattle.vm_swapper.specs.declared.swap.Swap.{Swap}
use Rattle.vm_swapper.specs.declared.swap.Swap.TheVariants.{Again, Carry, More, Room}

pub may_work : (s : History) (seat : Seat) → MayBegin s seat → IsWellFormed s.config → IsRun s.config s.past → MayWork s.config s.past seat.0
may_work s seat may formed run = record {
  formed = formed;
  run = run;
  free = record { idle = may.idle; calm = may.calm };
  seat_there = let there = may.there in omega (arith, there);
}

pub may_as : {B : Type 0} {s : History} {seat : Seat} {p : Proc} {old : CarrierView B} (g g' : GivenSwap) → g ≡ g' → MaySwap s seat p g old → MaySwap s seat p g' old
may_as {B} {s} {seat} {p} {old} g g' same may = subst (λ (x : GivenSwap). MaySwap s seat p x old) same may

-- room isn't an answer of the rule
pub never_room : (is : SwapIs) → Room ≡ returned is → ⊥
never_room swap_carry same = cc
never_room swap_more same = cc
never_room swap_settled same = cc
never_room (swap_again reason) same = cc

module _ {B : Type 0} {seen : B → BlockView} {tells : Tells} (s after : History) (seat : Seat) where
  pub swaps_as : {swap : Swap} {old new : CarrierView B} (g g' : GivenSwap) → g ≡ g' → Swaps seen tells s after seat g' swap old new → Swaps seen tells s after seat g swap old new
  swaps_as {swap} {old} {new} g g' same is = subst (λ (x : GivenSwap). Swaps seen tells s after seat x swap old new) (sym same) is

  -- nothing is made
  pub waits : (reason : Reason) (c : CarrierView B) (g : GivenSwap) → g ≡ given [] (swap_again reason) → after ≡ s → Swaps seen tells s after seat g (Again (again_of reason)) c c
  waits reason c g same made = swaps_as g (given [] (swap_again reason)) same (record { history = made; answer = refl; carrier = refl })

  -- an entry is made, and the call is made again
  pub goes_on : (w : What) (c : CarrierView B) (g : GivenSwap) → g ≡ given (w ∷ []) swap_more → after ≡ added s (entry_by seat w) → Swaps seen tells s after seat g More c c
  goes_on w c g same made = swaps_as g (given (w ∷ []) swap_more) same (record { history = made; answer = refl; carrier = refl })

  -- transfers begin
  pub carries : (made : List What) (old new : CarrierView B) (g : GivenSwap) → g ≡ given made swap_carry → after ≡ added_each seat made s → HasLifts seen tells after seat made new
      → Swaps seen tells s after seat g Carry old new
  carries made old new g same is lifts = swaps_as g (given made swap_carry) same (record { history = is; answer = refl; carrier = lifts })

-- ---- by the tables of leaving and of coming
module _ {B : Type 0} {seen : B → BlockView} {tells : Tells} (s : History) (seat : Seat) (p : ℕ) {after : History} {swap : Swap} {old new : CarrierView B} where
  pub leaves_by_table : Swaps seen tells s after seat (leave_gives s.config s.past (pager s) p) swap old new
      → IsByCases (leave_cases s.config s.past (pager s) p) (λ (g : GivenSwap). Swaps seen tells s after seat g swap old new)
  leaves_by_table is = record { says = leave_gives s.config s.past (pager s) p; first = leave_goes s.config s.past (pager s) p; so = is }

  pub comes_by_table : Swaps seen tells s after seat (come_gives s.config s.past (pager s) p) swap old new
      → IsByCases (come_cases s.config s.past (pager s) p) (λ (g : GivenSwap). Swaps seen tells s after seat g swap old new)
  comes_by_table is = record { says = come_gives s.config s.past (pager s) p; first = come_goes s.config s.past (pager s) p; so = is }
