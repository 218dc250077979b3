-- What an entry leaves of an open flight.
use Rattle.std.proofs.Common.{◌≡◌, ℕ, ◌+◌, ◌<◌, ◌≤◌, Bool, true, false, cond, List, ◌∷◌, Some, length, find, nat_lt, count_by, refl, sym, ap, subst, arith}
use Rattle.std.proofs.lemmas.Bool.{ltb-true}
use Rattle.vm_types.specs.Same.{same_block}
use Rattle.vm_types.specs.declared.names.Page.{Page}
use Rattle.vm_types.specs.declared.names.BlockId.{BlockId}
use Rattle.vm_types.specs.declared.config.Config.{Config}
use Rattle.vm_journal.specs.declared.entry.Entry.{Entry}
use Rattle.content_laws.specs.Stability.{LeavesFlight}
use Rattle.pager_model.specs.Bytes.{before, bytes_in}
use Rattle.pager_model.specs.Counted.{counts_of}
use Rattle.pager_model.specs.Fits.{FitsLift, FitsView, FlightView, Lift, flight_view, meant}
use Rattle.pager_model.specs.Flights.{Direction, Flight, is_reading, open_flights, reading, writing}
use Rattle.pager_model.specs.Pager.{Pager}
use Rattle.pager_model.specs.Spoken.{flat_after}
use Rattle.pager_model.specs.Step.{after}
use Rattle.pager_model.specs.CountedBlock.{told_plan}
use Rattle.pager_model.specs.Transfers.{IsHome, is_on_block, reads_on, starts, writes_on}
use Rattle.pager_rules.proofs.Lists.{all_found, count_found}
use Rattle.pager_rules.proofs.Quiet.{starts_by}
use Rattle.pager_rules.proofs.Transfers.{on_frame}

pub fits_left : (tells tells_plan : Bool) (config : Config) (past : List Entry) (a : Pager) (e : Entry) (lift : Lift) (fits : FitsLift tells tells_plan config past a lift)
    → LeavesFlight config past a e fits.0 → FitsLift tells tells_plan config (e ∷ past) (after config past a e) lift
fits_left tells tells_plan config past a e lift fits left =
    let view = left lift.page (fits.1).held_page in
    (fits.0, subst (λ (v : FlightView). FitsView tells (told_plan config tells_plan lift.block) fits.0 v lift) (sym view) fits.1)

-- ---- what every row uses
pub started : (past : List Entry) (x : Flight) → find (starts x.start) (open_flights past) ≡ Some x → x.start ≤ length past
started past x is_open = all_found (λ (y : Flight). y.start ≤ length past) (starts x.start) (open_flights past) x (starts_by past) is_open

pub before_later : (k : ℕ) (e : Entry) (past : List Entry) → k ≤ length past → before k (e ∷ past) ≡ before k past
before_later k e past early = go (nat_lt (length past + 1) k) refl
  where
    go : (b : Bool) → nat_lt (length past + 1) k ≡ b → cond b (e ∷ past) (before k past) ≡ before k past
    go true is = absurd (omega (arith, ltb-true _ _ is))
    go false is = refl

-- the bytes meant stay where those of a page being read do
pub meant_left : (config : Config) (past : List Entry) (e : Entry) (k : ℕ) (g : Page) (d : Direction) → k ≤ length past
    → (is_reading d ≡ true → bytes_in config (flat_after config (e ∷ past)) g ≡ bytes_in config (flat_after config past) g) → meant config (e ∷ past) k g d ≡ meant config past k g d
meant_left config past e k g (reading role) early same = same refl
meant_left config past e k g writing early same = ap (λ (p : List Entry). bytes_in config (flat_after config p) g) (before_later k e past early)

-- an open flight counts
pub counts_open : (past : List Entry) (x : Flight) → find (starts x.start) (open_flights past) ≡ Some x → (t : Flight → Bool) → t x ≡ true → 0 < count_by t (open_flights past)
counts_open past x is_open t is = count_found t (starts x.start) (open_flights past) x is_open is

module _ (config : Config) (past : List Entry) (a : Pager) (x : Flight) (is_open : find (starts x.start) (open_flights past) ≡ Some x) where
  -- a view, by its parts
  pub left : (e : Entry) (b : Pager) (g : Page) → find (starts x.start) (open_flights (e ∷ past)) ≡ find (starts x.start) (open_flights past) → b.page x.frame ≡ a.page x.frame
      → (is_reading x.direction ≡ true → bytes_in config (flat_after config (e ∷ past)) g ≡ bytes_in config (flat_after config past) g) → counts_of x.block (e ∷ past) ≡ counts_of x.block past
      → flight_view config (e ∷ past) b x g ≡ flight_view config past a x g
  left e b g found held bytes counts = λ i. record {
    found = found i;
    held = held i;
    bytes = meant_left config past e x.start g x.direction (started past x is_open) bytes i;
    counts = counts i;
  }

  -- a frame without_flight flights isn't this flight's
  pub elsewhere : (f : ℕ) → reads_on f (open_flights past) ≡ 0 → writes_on f (open_flights past) ≡ 0 → f ≡ x.frame → ⊥
  elsewhere f reads writes same = omega (arith, reads, writes, on_frame x (open_flights past) (counts_open past x is_open) f (sym same))

  -- a block at home isn't this flight's
  pub not_home : (b : BlockId) → IsHome config b (open_flights past) → same_block b x.block ≡ false
  not_home b home = go (same_block b x.block) refl
    where
      go : (c : Bool) → same_block b x.block ≡ c → same_block b x.block ≡ false
      go false is = is
      go true is = absurd (omega (arith, counts_open past x is_open (is_on_block b) is, home.still))
