-- The carriers of all seats, and what a seat's move asks. This project's own.
use Rattle.std.specs.Prelude.{◌≡◌, ℕ, ◌+◌, ◌<◌, List, Some, length, slice_get}
use Rattle.vm_types.specs.declared.names.Proc.{Proc}
use Rattle.vm_types.specs.declared.names.Seat.{Seat}
use Rattle.call_begins.specs.MayBegin.{empty}
use Rattle.lift_carriers.specs.CarrierView.{CarrierView}
use Rattle.vm_state.specs.History.{History}
use Rattle.carried_landings.specs.Moved.{IsSteady}

-- by seat, each without lifts
pub record AreIdle {B : Type 0} (s : History) (carriers : List (CarrierView B)) : Type 0 where
  pub count : length carriers ≡ length s.config.procs + 2
  pub each : (i : ℕ) → i < length carriers → slice_get carriers i ≡ Some (empty (record { 0 = i }))

-- between two moves, with room for what one makes; there is such a seat, and its carrier has no lifts
pub record MayMove {B : Type 0} (s : History) (seat : Seat) (c : CarrierView B) : Type 0 where
  pub steady : IsSteady s
  pub there : seat.0 < length s.config.procs + 2
  pub carrier : c ≡ empty seat

-- the same after an answer to a process of the configuration, for the carriers of all seats
pub record MayFollow {B : Type 0} (s : History) (p : Proc) (cs : List (CarrierView B)) : Type 0 where
  pub steady : IsSteady s
  pub process : p.0 < length s.config.procs
  pub carriers : AreIdle s cs
