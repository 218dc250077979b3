-- Landings, by their flight and its way, and those that failed by their counts too.
use Rattle.std.proofs.Common.{◌≡◌, ◌↔◌, ℕ, Bool, true, false, List, Some, find, refl, sym, ap}
use Rattle.std.proofs.lemmas.Bool.{false≢true}
use Rattle.vm_journal.specs.declared.entry.Entry.{Entry}
use Rattle.vm_journal.specs.declared.entry.Role.{Role}
use Rattle.pager_model.specs.Counted.{IsCounted}
use Rattle.pager_model.specs.Flights.{Direction, Flight, is_reading, open_flights, reading, writing}
use Rattle.pager_model.specs.InOk.{IsLanding}
use Rattle.pager_model.specs.Transfers.{starts}
use Rattle.row_frames.specs.Landings.{IsBadLanding, IsGoodLanding}

role_of : (d : Direction) → is_reading d ≡ true → (r : Role) × (d ≡ reading r)
role_of (reading r) is = (r, refl)
role_of writing is = absurd (false≢true is)

writing_of : (d : Direction) → is_reading d ≡ false → d ≡ writing
writing_of (reading r) is = absurd (false≢true (sym is))
writing_of writing is = refl

-- the seat's open flight k on the frame, which goes this way
abbrev Lands : List Entry → ℕ → ℕ → ℕ → Bool → Type 0
Lands past p f k reads = (x : Flight) × IsLanding past p f k x × (is_reading x.direction ≡ reads)

good_lands : (past : List Entry) (p f k : ℕ) (reads : Bool) → IsGoodLanding reads past p f k → Lands past p f k reads
good_lands past p f k true v = (v.flight, v.lands, ap is_reading v.reads)
good_lands past p f k false v = (v.flight, v.lands, ap is_reading v.writes)

pub bad_lands : (past : List Entry) (p f k c d : ℕ) (reads : Bool) → IsBadLanding reads past p f k c d → Lands past p f k reads
bad_lands past p f k c d true v = (v.flight, v.lands, ap is_reading v.reads)
bad_lands past p f k c d false v = good_lands past p f k false v.write

lands_good : (past : List Entry) (p f k : ℕ) (reads : Bool) → Lands past p f k reads → IsGoodLanding reads past p f k
lands_good past p f k true w =
    let role = role_of w.0.direction w.2 in
    record { flight = w.0; lands = w.1; role = role.0; reads = role.1 }
lands_good past p f k false w = record { flight = w.0; lands = w.1; writes = writing_of w.0.direction w.2 }

pub good_landing : (past : List Entry) (p f k : ℕ) (T : Type 0) (reads : Bool) → (T ↔ Lands past p f k reads) → (T ↔ IsGoodLanding reads past p f k)
good_landing past p f k T reads both = (λ t. lands_good past p f k reads (both.0 t), λ v. both.1 (good_lands past p f k reads v))

module _ (past : List Entry) (p f k c d : ℕ) (T : Type 0) (both : (x : Flight) → find (starts k) (open_flights past) ≡ Some x → (T ↔ IsCounted past x.block c d)) where
  pub bad_landing : (reads : Bool) → Lands past p f k reads → (T ↔ IsBadLanding reads past p f k c d)
  bad_landing true w = (
    λ t.
        let role = role_of w.0.direction w.2 in
        record { flight = w.0; lands = w.1; role = role.0; reads = role.1; counted = (both w.0 w.1.open_k).0 t },
    λ v. (both v.flight v.lands.open_k).1 v.counted,
  )
  bad_landing false w = (
    λ t. record { write = record { flight = w.0; lands = w.1; writes = writing_of w.0.direction w.2 }; counted = (both w.0 w.1.open_k).0 t },
    λ v. (both v.write.flight v.write.lands.open_k).1 v.counted,
  )
