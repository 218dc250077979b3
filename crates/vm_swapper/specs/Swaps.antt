-- What a step of a process that leaves, or comes back, makes and returns is what the swapper's rule gives. This project's
-- own.
use Rattle.std.specs.Prelude.{◌≡◌, ◌+◌, ◌<◌, ◌≤◌, List, length}
use Rattle.vm_types.specs.BlockView.{BlockView, Tells}
use Rattle.vm_types.specs.declared.names.Proc.{Proc}
use Rattle.vm_types.specs.declared.names.Seat.{Seat}
use Rattle.vm_journal.specs.declared.entry.What.{What}
use Rattle.pager_policy.specs.Swap.{GivenSwap, SwapIs, SwapWhy as Reason, swap_again, swap_carry, swap_in_flight, swap_modified_full, swap_more, swap_no_frame, swap_settled}
use Rattle.call_laws.specs.AreLegal.{AreLegal}
use Rattle.call_begins.specs.Lifted.{HasLifts}
use Rattle.call_begins.specs.MayBegin.{empty}
use Rattle.lift_carriers.specs.CarrierView.{CarrierView}
use Rattle.vm_state.specs.History.{History, owed}
use Rattle.vm_state.specs.LiftsLand.{added_each}
use Rattle.vm_swapper.specs.declared.swap.Swap.{Swap}
use Rattle.vm_swapper.specs.declared.swap.Swap.TheVariants.{Again, Carry, More, Settled}
use Rattle.vm_swapper.specs.declared.swap.SwapWhy.{SwapWhy}
use Rattle.vm_swapper.specs.declared.swap.SwapWhy.TheVariants.{InFlight, ModifiedFull, NoFrame}

abbrev pub again_of : Reason → SwapWhy
again_of swap_in_flight = InFlight
again_of swap_modified_full = ModifiedFull
again_of swap_no_frame = NoFrame

-- what is returned
abbrev pub returned : SwapIs → Swap
returned swap_carry = Carry
returned swap_more = More
returned swap_settled = Settled
returned (swap_again reason) = Again (again_of reason)

-- what may be asked of a seat that swaps a process: the process is one of the configuration, the entries that are given
-- may be made (each is legal after those before it, and there is room for them), and the seat's carrier has no lifts
pub record MaySwap {B : Type 0} (s : History) (seat : Seat) (p : Proc) (g : GivenSwap) (old : CarrierView B) : Type 0 where
  pub process : p.0 < length s.config.procs
  pub legal : AreLegal s.config s.past seat.0 g.made
  pub room : owed s.past + 64 ≤ s.spare
  pub carrier : old ≡ empty seat

module _ {B : Type 0} (seen : B → BlockView) where
  -- with Carry a carrier has the lifts of the transfers that were begun; with any other answer it is as before
  abbrev pub IsCarrying : Tells → History → Seat → List What → Swap → CarrierView B → CarrierView B → Type 0
  IsCarrying tells s seat made Carry old new = HasLifts seen tells s seat made new
  IsCarrying tells s seat made other old new = new ≡ old

  -- what a step leaves of the history and of the seat's carrier, and what it returns
  pub record Swaps (tells : Tells) (before after : History) (seat : Seat) (g : GivenSwap) (swap : Swap) (old new : CarrierView B) : Type 0 where
    pub history : after ≡ added_each seat g.made before
    pub answer : swap ≡ returned g.answer
    pub carrier : IsCarrying tells after seat g.made swap old new
