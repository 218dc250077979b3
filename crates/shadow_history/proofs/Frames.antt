-- The open flights of a frame are its reads and its writes.
use Rattle.std.proofs.Common.{◌≡◌, ℕ, ◌+◌, ◌&&◌, Bool, true, false, cond, not, List, [], ◌∷◌, nat_eq, count_by, refl, arith}
use Rattle.pager_model.specs.Flights.{Flight, is_reading}
use Rattle.pager_model.specs.Transfers.{is_read_on, is_write_on, reads_on, writes_on}
use Rattle.pager_rules.proofs.Basics.{count_cons}

pub on_frame_counts : (f : ℕ) (flights : List Flight) → count_by (λ (x : Flight). nat_eq x.frame f) flights ≡ reads_on f flights + writes_on f flights
on_frame_counts f [] = refl
on_frame_counts f (x ∷ flights) =
    let here = by (nat_eq x.frame f) (is_reading x.direction) in
    omega (
      arith,
      here,
      count_cons (λ (y : Flight). nat_eq y.frame f) x flights,
      count_cons (is_read_on f) x flights,
      count_cons (is_write_on f) x flights,
      on_frame_counts f flights,
    )
  where
    by : (b c : Bool) → cond b 1 0 ≡ cond (b && c) 1 0 + cond (b && not c) 1 0
    by true true = refl
    by true false = refl
    by false c = refl
