-- Laws of several seats at work on one state, as statements. This project's own.
use Rattle.std.specs.Prelude.{◌≡◌, ℕ, ◌<◌, true, false, List, [], Some, length, nat_eq, not}
use Rattle.vm_types.specs.WellFormed.{IsWellFormedReference}
use Rattle.vm_types.specs.declared.config.Config.{Config}
use Rattle.vm_types.specs.declared.names.Seat.{Seat}
use Rattle.vm_types.specs.declared.reference.Ref.{Ref}
use Rattle.vm_types.specs.declared.reply.Why.TheVariants as why
use Rattle.vm_journal.specs.declared.entry.Entry.{Entry}
use Rattle.vm_journal.specs.declared.entry.What.{What}
use Rattle.vm_journal.specs.declared.entry.What.TheVariants as what
use Rattle.pager_policy.specs.Advance.{advance_gives, next_carry}
use Rattle.pager_model.specs.Carrier.{carrying}
use Rattle.pager_model.specs.Flights.{is_busy, open_flights, carrier_of}
use Rattle.pager_policy.specs.Given.{by_seat, made_by}
use Rattle.pager_policy.specs.Landings.{Outcome, first_bad, landed_by}
use Rattle.pager_model.specs.Maps.{page_number}
use Rattle.pager_model.specs.Pager.{Pager}
use Rattle.pager_model.specs.Run.{IsRun, pager_after}
use Rattle.pager_model.specs.Step.{IsLegal}
use Rattle.call_laws.specs.Ready.{IsFree}
use Rattle.state_pages.specs.declared.found.Found.{Found}
use Rattle.vm_state.specs.History.{History}
use Rattle.vm_state.specs.PageReadings.{found_in}
use Rattle.call_begins.specs.MayBegin.{MayBegin}
use Rattle.seat_laws.specs.FreeSeat.{IsFreeSeat}
use Rattle.seat_laws.specs.Lost.{IsLost, IsReadFor}
use Rattle.seat_laws.specs.Unmet.{IsUnmet}

-- the entries of one seat leave another seat's open transfers, and what is kept of its carrier
abbrev pub OthersStay : Type 0
OthersStay =
    (p q : ℕ) → nat_eq p q ≡ false → (config : Config) (ws : List What) (past : List Entry) → IsRun config (made_by p ws past)
    → (carrier_of q (made_by p ws past) ≡ carrier_of q past) × (carrying q (made_by p ws past) ≡ carrying q past)

-- the reads that a reference begins are for it
abbrev pub ReadsAreFor : Type 0
ReadsAreFor =
    (config : Config) (past : List Entry) (a : Pager) (p : ℕ) (r : Ref) → is_busy p (open_flights past) ≡ false → carrier_of p past ≡ [] → (advance_gives config past a p r).answer ≡ next_carry
    → IsReadFor (made_by p (advance_gives config past a p r).made past) p r

-- reads for a reference of which the first has failed are lost
abbrev pub FailedReadsAreLost : Type 0
FailedReadsAreLost =
    (config : Config) (past : List Entry) (seat : ℕ) (r : Ref) (outcomes : List Outcome) → IsReadFor past seat r → length outcomes ≡ length (carrier_of seat past) → first_bad outcomes ≡ true
    → IsLost (landed_by config seat (carrier_of seat past) outcomes past) seat r

-- a reference whose reads were lost may be refused, if it is still to be met
abbrev pub LostIsRefused : Type 0
LostIsRefused =
    (config : Config) (past : List Entry) (p : ℕ) (r : Ref) → IsFree past p → p < length config.procs → IsWellFormedReference r → IsLost past p r → IsUnmet config (pager_after config past) p r
    → IsLegal config past (pager_after config past) (by_seat p (what.Denied r why.DiskFault))

-- a page that is mapped and not valid is still to be met
abbrev pub InvalidIsUnmet : Type 0
InvalidIsUnmet = (config : Config) (a : Pager) (p : ℕ) (r : Ref) (found : Found) → Some found ≡ found_in config a p (page_number (r.addr).0) → not found.valid ≡ true → IsUnmet config a p r

-- a seat that has nothing open may begin
abbrev pub FreeMayBegin : Type 0
FreeMayBegin = (s : History) (seat : Seat) → IsFreeSeat s seat → MayBegin s seat
