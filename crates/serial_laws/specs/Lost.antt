-- A seat whose carrier was lost may refuse the request that it worked for. This project's own.
use Rattle.std.specs.Prelude.{◌≡◌, ◌⊎◌, ℕ, true, false, List, ◌∷◌, Some, length}
use Rattle.vm_types.specs.declared.config.Config.{Config}
use Rattle.vm_journal.specs.declared.entry.Entry.{Entry}
use Rattle.pager_model.specs.Carrier.{HasLost, begins_with_fault, carrying}
use Rattle.pager_model.specs.Flights.{Flight}
use Rattle.pager_policy.specs.Landings.{Outcome, all_bad, first_bad, landed_by}

-- the seat's carrier is these flights, in the order in which they were begun, and none of them has landed; the
-- seat hasn't spoken since
pub record CarriesAll (past : List Entry) (seat : ℕ) (first : Flight) (more : List Flight) : Type 0 where
  pub firsts : (carrying seat past).first ≡ Some first
  pub begun : (carrying seat past).begun ≡ length (first ∷ more)
  pub none_landed : (carrying seat past).landed ≡ 0
  pub none_failed : (carrying seat past).failed ≡ 0
  pub unspoken : (carrying seat past).spoken_since ≡ false

-- once they have landed, all badly, or the first one badly if it was the read of a fault, the carrier is lost
abbrev pub LostWhenFailed : Type 0
LostWhenFailed =
    (config : Config) (past : List Entry) (seat : ℕ) (first : Flight) (more : List Flight) (outcomes : List Outcome) → CarriesAll past seat first more → length outcomes ≡ length (first ∷ more)
    → (all_bad outcomes ≡ true) ⊎ ((begins_with_fault (Some first) ≡ true) × (first_bad outcomes ≡ true)) → HasLost (landed_by config seat (first ∷ more) outcomes past) seat
