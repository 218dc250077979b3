-- How a seat's open flights have landed. This project's own.
use Rattle.std.specs.Prelude.{◌≡◌, ℕ, List, length}
use Rattle.vm_types.specs.declared.config.Config.{Config}
use Rattle.vm_journal.specs.declared.entry.Entry.{Entry}
use Rattle.pager_policy.specs.Landings.{Outcome, all_bad, first_bad, landed_by}
use Rattle.pager_model.specs.Flights.{carrier_of}
use Rattle.carried_landings.specs.declared.carrier_landed.CarrierLanded.{CarrierLanded}

-- all of them, in the order in which they were begun, with one outcome each, of which the answer tells whether all are
-- failures, and whether the first one is
pub record HaveLanded (config : Config) (seat : ℕ) (past new : List Entry) (answer : CarrierLanded) : Type 0 where
  pub outcomes : List Outcome
  pub each : length outcomes ≡ length (carrier_of seat past)
  pub landed : new ≡ landed_by config seat (carrier_of seat past) outcomes past
  pub all_failed : answer.all_failed ≡ all_bad outcomes
  pub first_failed : answer.first_failed ≡ first_bad outcomes
