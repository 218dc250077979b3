-- The laws of the pager's model, as statements.
use Rattle.std.specs.Prelude.{◌≡◌, ℕ, Bool, false, ◌+◌, ◌≤◌, List, [], ◌∷◌, Some, length, find, count_by}
use Rattle.std.specs.List.{AllByRecursion, list_any}
use Rattle.vm_types.specs.Configuration.{IsWellFormed, IsBlock}
use Rattle.vm_types.specs.declared.config.Config.{Config}
use Rattle.vm_journal.specs.declared.entry.Entry.{Entry}
use Rattle.pager_model.specs.Around.{past_view}
use Rattle.pager_model.specs.Carrier.{carrying}
use Rattle.pager_model.specs.Fits.{lands}
use Rattle.pager_model.specs.Flights.{Flight, begun_in, open_flights}
use Rattle.pager_model.specs.OfConfig.{IsOfConfig}
use Rattle.pager_model.specs.Opening.{opening}
use Rattle.pager_model.specs.Pager.{Pager}
use Rattle.pager_model.specs.Run.{pager_after, IsRun}
use Rattle.pager_model.specs.Sound.{IsSound}
use Rattle.pager_model.specs.Spoken.{flat_after}
use Rattle.pager_model.specs.Step.{IsLegal, after}
use Rattle.pager_model.specs.Transfers.{flights_of, starts}
use Rattle.pager_rules.specs.Kept.{IsKept}

-- the opening state of a well-formed configuration is kept
abbrev pub OpeningIsKept : Type 0
OpeningIsKept = (config : Config) → IsWellFormed config → IsKept config (past_view []) (opening config)

-- a legal step of any seat leads from a kept state to a kept one
abbrev pub StepsKeep : Type 0
StepsKeep =
    (config : Config) (past : List Entry) (a : Pager) (e : Entry)
    → IsWellFormed config → IsKept config (past_view past) a → IsLegal config past a e → IsKept config (past_view (e ∷ past)) (after config past a e)

-- what is kept is sound
abbrev pub KeptIsSound : Type 0
KeptIsSound = (config : Config) (past : List Entry) (a : Pager) → IsKept config (past_view past) a → IsSound config past a

-- the state is sound at the opening and after each entry of a past
abbrev pub IsSoundThroughout : Config → List Entry → Type 0
IsSoundThroughout config [] = IsSound config [] (opening config)
IsSoundThroughout config (e ∷ past) = IsSoundThroughout config past × IsSound config (e ∷ past) (pager_after config (e ∷ past))

-- so every run is sound at each of its prefixes
abbrev pub RunsAreSound : Type 0
RunsAreSound = (config : Config) (past : List Entry) → IsWellFormed config → IsRun config past → IsSoundThroughout config past

-- along a run the pager's maps and touched pages are those of the flat machine
abbrev pub MapsFollow : Type 0
MapsFollow = (config : Config) (past : List Entry) → IsWellFormed config → IsRun config past → (pager_after config past).map ≡ (flat_after config past).map

abbrev pub TouchedFollows : Type 0
TouchedFollows = (config : Config) (past : List Entry) → IsWellFormed config → IsRun config past → (pager_after config past).touched ≡ (flat_after config past).touched

-- of a seat's carrier as many flights are open as were begun and haven't landed
abbrev pub CarriersBalance : Type 0
CarriersBalance =
    (config : Config) (past : List Entry) → IsRun config past → (seat : ℕ)
    → (carrying seat past).begun ≡ (carrying seat past).landed + flights_of seat (open_flights past)

-- along a run what is mapped, held and assigned is of the configuration
abbrev pub RunsAreOfConfig : Type 0
RunsAreOfConfig = (config : Config) (past : List Entry) → IsWellFormed config → IsRun config past → IsOfConfig config (pager_after config past)

-- and so are the blocks of open flights
abbrev pub FlightsAreOfBlocks : Type 0
FlightsAreOfBlocks = (config : Config) (past : List Entry) → IsRun config past → AllByRecursion (λ (x : Flight). IsBlock config x.block) (open_flights past)

-- the references and faults since an adjustment are no more than the entries
pub record HasFewCounts (n : ℕ) (a : Pager) : Type 0 where
  pub references : (p : ℕ) → a.references p ≤ n
  pub faults : (p : ℕ) → a.faults p ≤ n

abbrev pub CountsAreFew : Type 0
CountsAreFew = (config : Config) (past : List Entry) → HasFewCounts (length past) (pager_after config past)

-- whether a landing of the past names the flight that began in entry k
abbrev pub is_landed : ℕ → List Entry → Bool
is_landed k past = list_any (λ (e : Entry). lands k e.what) past

-- a flight is open exactly where it was begun and no landing names it
pub record IsOpen (past : List Entry) (k : ℕ) (x : Flight) : Type 0 where
  pub begun : find (starts k) (open_flights past) ≡ Some x → begun_in k past ≡ Some x
  pub unlanded : find (starts k) (open_flights past) ≡ Some x → is_landed k past ≡ false
  pub open_now : begun_in k past ≡ Some x → is_landed k past ≡ false → find (starts k) (open_flights past) ≡ Some x

abbrev pub OpenExactly : Type 0
OpenExactly = (config : Config) (past : List Entry) (k : ℕ) (x : Flight) → IsRun config past → IsOpen past k x

-- each number starts one open flight at most
abbrev pub StartsOnce : Type 0
StartsOnce = (past : List Entry) (k : ℕ) → count_by (starts k) (open_flights past) ≤ 1
