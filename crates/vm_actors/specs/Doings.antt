-- What a seat does in its turns at the lock, and what has to be so for it. This project's own.
use Rattle.std.specs.Prelude.{◌≡◌, Bool, true, ◌<◌, List, Option, Some, None, length}
use Rattle.vm_types.specs.WellFormed.{IsRequestOf, IsWellFormedRequest}
use Rattle.vm_types.specs.declared.config.Config.{Config}
use Rattle.vm_types.specs.declared.names.Proc.{Proc}
use Rattle.vm_types.specs.declared.names.Seat.{Seat}
use Rattle.vm_types.specs.declared.service.Request.{Request}
use Rattle.vm_journal.specs.declared.entry.Entry.{Entry}
use Rattle.pager_model.specs.Pager.{Pager}
use Rattle.pager_model.specs.Run.{pager_after}
use Rattle.vm_state.specs.declared.base.StateBase.{StateBase}
use Rattle.seat_turns.specs.Begun.{IsBegunFor}
use Rattle.seat_turns.specs.Rests.{SwapperRests, WriterRests}
use Rattle.seat_turns.specs.Steps.{seat_of, swapper_seat, writer_seat}
use Rattle.vm_actors.specs.declared.doing.Doing.{Doing}
use Rattle.vm_actors.specs.declared.doing.Doing.TheVariants.{Asking, Writing, Swapping}

-- the pass knows a state that keeps its entries and stands on such a configuration
abbrev pub Knows : (Config → Type 0) → Option StateBase → Type 0
Knows Is None = ⊥
Knows Is (Some b) = (b.keeps ≡ true) × Is b.config

-- the process is one of the configuration, and may ask for this
pub record MayAsk (p : Proc) (x : Request) (config : Config) : Type 0 where
  pub process : p.0 < length config.procs
  pub formed : IsWellFormedRequest x
  pub known : IsRequestOf config.version x

-- the seat may do it: it is the process's, which may ask for this, the modified page writer's, or the swapper's
abbrev pub MayDo : Seat → Doing → Config → Type 0
MayDo seat (Asking p x) config = (seat ≡ seat_of p) × MayAsk p x config
MayDo seat Writing config = seat ≡ writer_seat config
MayDo seat Swapping config = seat ≡ swapper_seat config

-- the request that it is done for
abbrev pub request_of : Doing → Option Request
request_of (Asking p x) = Some x
request_of other = None

-- the seat's open transfers were begun for it
abbrev pub AreBegunFor : List Entry → Seat → Doing → Bool → Type 0
AreBegunFor past seat (Asking p x) own = IsBegunFor past seat.0 x own
AreBegunFor past seat other own = Unit {0}

-- there is nothing to do, in the state that a journal leads to
abbrev pub HasRested : Doing → Config → List Entry → Pager → Type 0
HasRested (Asking p x) config past a = Unit {0}
HasRested Writing config past a = WriterRests config a
HasRested Swapping config past a = SwapperRests config past a

abbrev pub RestsAt : Doing → Option StateBase → List Entry → Type 0
RestsAt doing None past = ⊥
RestsAt doing (Some b) past = HasRested doing b.config past (pager_after b.config past)
