-- What a seat has at the lock of a test. This project's own.
use Rattle.std.specs.Prelude.{◌≡◌, [], ◌∷◌, Some}
use Rattle.history_lock.specs.Passes.{IsIdle, IsOf, base_of, numbers, seen}
use Rattle.history_lock.specs.declared.lock.HistoryLock.{HistoryLock}
use Rattle.history_lock.specs.declared.pass.Pass.{Pass}
use Rattle.lift_carriers.specs.CarrierView.{CarrierView}
use Rattle.vm_state.specs.History.{History}
use Rattle.vm_state.specs.declared.base.StateBase.{StateBase}
use Rattle.call_begins.specs.MayBegin.{empty}
use Rattle.vm_actors.specs.Between.{NoneOpen}

-- an idle pass of the lock that owns the number of the carrier's seat alone and has no transfer open, and an empty
-- carrier
pub record IsSeated {B : Type 0} (lock : HistoryLock History StateBase) (b : StateBase) (pass : Pass History StateBase) (carrier : CarrierView B) : Type 0 where
  pub own : IsOf lock pass
  pub idle : IsIdle pass
  pub owns : numbers pass ≡ (carrier.seat).0 ∷ []
  pub stands : base_of pass ≡ Some b
  pub landed : NoneOpen ((carrier.seat).0 ∷ []) (seen pass)
  pub carries : carrier ≡ empty carrier.seat
