-- Which step of the policy the work of a seat that had nothing open is. This project's own.
use Rattle.std.specs.Prelude.{◌≡◌, ℕ, ◌<◌, List, Option, None, length}
use Rattle.vm_types.specs.declared.config.Config.{Config}
use Rattle.vm_types.specs.declared.names.Proc.{Proc}
use Rattle.vm_types.specs.declared.names.Seat.{Seat}
use Rattle.vm_types.specs.declared.service.Request.{Request}
use Rattle.vm_journal.specs.declared.entry.Entry.{Entry}
use Rattle.vm_state.specs.History.{History, pager}
use Rattle.seat_steps.specs.Leaving.{lowest_leaving}
use Rattle.seat_steps.specs.Steps.{IsStep, LooksForFrames, WorksFor}
use Rattle.seat_steps.specs.Waits.{WaitsForFrame, WaitsForProcess, WaitsForRoom}
use Rattle.seat_turns.specs.declared.asking.Need.{Need}
use Rattle.seat_turns.specs.declared.asking.Need.TheVariants.{Process, Room, Frame, Nothing}

-- it is a step for each request, or none, for which such holds
abbrev pub IsStepWhere : History → History → Seat → (History → ℕ → Option Request → Type 0) → Type 0
IsStepWhere s t seat For = (request : Option Request) → For s seat.0 request → IsStep s.config s.past t.past seat.0 request

-- the seat is this process's, and works for a request that waits so
abbrev pub WaitsOwn : Proc → (Config → List Entry → ℕ → Request → Type 0) → History → ℕ → Option Request → Type 0
WaitsOwn p Waits s seat request = (p.0 ≡ seat) × WorksFor request (Waits s.config s.past seat)

-- the seat looks for frames, but not this process's, and none is leaving; as the swapper, fewer are free than FREELIM
pub record MayChoose (but : Option ℕ) (s : History) (seat : ℕ) (request : Option Request) : Type 0 where
  pub looks : LooksForFrames s.config s.past seat request but
  pub none_leaving : lowest_leaving s.config (pager s) but ≡ None
  pub few : request ≡ None → length (pager s).free < s.config.params.freelim

-- a request waits for this
abbrev pub IsNeed : Need → Config → List Entry → ℕ → Request → Type 0
IsNeed Process config past p x = WaitsForProcess config past p x
IsNeed Room config past p x = WaitsForRoom config past p x
IsNeed Frame config past p x = WaitsForFrame config past p x
IsNeed Nothing config past p x = Unit {0}
