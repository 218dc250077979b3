-- What a condition that doesn't hold states, of the rows of landings: INOK, INFAIL, OUTOK and OUTFAIL. This project's own.
use Rattle.std.specs.Prelude.{◌≡◌, ◌⊎◌, ◌≤◌, ℕ, Bool, List, Some, None, find}
use Rattle.vm_journal.specs.declared.entry.Entry.{Entry}
use Rattle.pager_model.specs.Counted.{last_count}
use Rattle.pager_model.specs.Flights.{Flight, is_reading, open_flights}
use Rattle.pager_model.specs.Transfers.{starts}
use Rattle.log_reasons.specs.declared.reason.Reason.{Reason}
use Rattle.log_reasons.specs.declared.reason.Reason.TheVariants as reason

-- the seat's open transfer k is on the frame, and goes this way
abbrev pub LandingFails : List Entry → ℕ → ℕ → ℕ → Bool → Reason → Type 0
LandingFails past p f k reads reason.NoOpenTransfer = find (starts k) (open_flights past) ≡ None
LandingFails past p f k reads (reason.TransferOfOtherSeat seat) = (x : Flight) × (find (starts k) (open_flights past) ≡ Some x) × (seat.0 ≡ x.seat) × (x.seat ≡ p → ⊥)
LandingFails past p f k reads (reason.TransferOfOtherFrame frame) = (x : Flight) × (find (starts k) (open_flights past) ≡ Some x) × (frame.0 ≡ x.frame) × (x.frame ≡ f → ⊥)
LandingFails past p f k reads reason.TransferGoesOtherWay = (x : Flight) × (find (starts k) (open_flights past) ≡ Some x) × (is_reading x.direction ≡ reads → ⊥)
LandingFails past p f k reads other = ⊥

-- its block's counts of failures, before and after
abbrev pub CountedFails : List Entry → ℕ → ℕ → ℕ → Reason → Type 0
CountedFails past k c d (reason.WrongCountBefore n) = (x : Flight) × (find (starts k) (open_flights past) ≡ Some x) × (n ≡ last_count x.block past) × (c ≡ n → ⊥)
CountedFails past k c d reason.CountDoesNotRise = d ≤ c
CountedFails past k c d other = ⊥

-- INFAIL and OUTFAIL
abbrev pub BadLandingFails : List Entry → ℕ → ℕ → ℕ → ℕ → ℕ → Bool → Reason → Type 0
BadLandingFails past p f k c d reads r = LandingFails past p f k reads r ⊎ CountedFails past k c d r
