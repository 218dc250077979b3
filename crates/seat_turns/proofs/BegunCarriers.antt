-- A seat that had nothing open and begins transfers carries them all, and hasn't spoken since.
use Rattle.std.proofs.Common.{◌≡◌, ℕ, ◌+◌, ◌||◌, Bool, true, false, cond, List, [], ◌∷◌, Some, filter, length, nat_eq, reverse, refl, ap, ◌∙◌}
use Rattle.std.specs.List.{AllByRecursion}
use Rattle.vm_journal.specs.declared.entry.Entry.{Entry}
use Rattle.vm_journal.specs.declared.entry.What.{What}
use Rattle.vm_journal.specs.declared.entry.What.TheVariants as what
use Rattle.pager_model.specs.Carrier.{Carrying, carried, carrying}
use Rattle.pager_model.specs.Flights.{Direction, Flight, is_busy, open_flights, reading, writing, carrier_of}
use Rattle.pager_policy.specs.Given.{by_seat, made_by}
use Rattle.pager_rules.proofs.Basics.{nat_eq_refl}
use Rattle.carried_landings.proofs.Reversed.{nothing_reversed}
use Rattle.serial_laws.proofs.Carriers.{BeginsWith, IsBegun, begun_made, carries_all, is_beginning, own_entry}
use Rattle.carried_landings.proofs.Shapes.{AreStarts, IsStart}
use Rattle.seat_turns.specs.Begun.{CarriesFor, IsNoFault}
use Rattle.seat_turns.proofs.NoFaults.{BeginNoFaults}

abbrev Any : Flight → Type 0
Any x = Unit {0}

all_any : (xs : List Flight) → AllByRecursion Any xs
all_any [] = tt
all_any (x ∷ xs) = (tt, all_any xs)

any_begins : (seat : ℕ) (ws : List What) → AllByRecursion (BeginsWith Any seat) ws
any_begins seat [] = tt
any_begins seat (w ∷ ws) = (λ n x is. tt, any_begins seat ws)

start_begins : (w : What) → IsStart w → is_beginning w ≡ true
start_begins (what.Reuse f g) start = refl
start_begins (what.In f b r) start = refl
start_begins (what.Out f b) start = refl
start_begins other start = absurd start

starts_begin : (ws : List What) → AreStarts ws → AllByRecursion (λ (w : What). is_beginning w ≡ true) ws
starts_begin [] starts = tt
starts_begin (w ∷ ws) starts = (start_begins w starts.0, starts_begin ws starts.1)

-- ---- the first flight of a seat
module _ (past : List Entry) (seat : ℕ) (idle : is_busy seat (open_flights past) ≡ false) (empty : carrier_of seat past ≡ []) (w : What) (x : Flight) (own : x.seat ≡ seat)
    (flights : open_flights (by_seat seat w ∷ past) ≡ x ∷ open_flights past) (now_is : carrying seat (by_seat seat w ∷ past) ≡ carried (is_busy seat (open_flights past)) (carrying seat past) (Some x)) where
  abbrev mine : List Flight
  mine = filter (λ (y : Flight). nat_eq y.seat seat) (open_flights past)

  its : nat_eq x.seat seat ≡ true
  its = ap (λ (n : ℕ). nat_eq n seat) own ∙ nat_eq_refl seat

  carries_it : carrying seat (by_seat seat w ∷ past) ≡ carried false (carrying seat past) (Some x)
  carries_it = now_is ∙ ap (λ (busy : Bool). carried busy (carrying seat past) (Some x)) idle

  first_begun : IsBegun Any (by_seat seat w ∷ past) seat x
  first_begun = record {
    firsts = ap (λ (c : Carrying). c.first) carries_it;
    none_landed = ap (λ (c : Carrying). c.landed) carries_it;
    none_failed = ap (λ (c : Carrying). c.failed) carries_it;
    unspoken = ap (λ (c : Carrying). c.spoken_since) carries_it;
    more = [];
    count = ap (λ (c : Carrying). c.begun) carries_it;
    carrier =
        ap (λ (xs : List Flight). reverse (filter (λ (y : Flight). nat_eq y.seat seat) xs)) flights
        ∙ (ap (λ (b : Bool). reverse (cond b (x ∷ mine) mine)) its ∙ ap (λ (xs : List Flight). reverse (x ∷ xs)) (nothing_reversed mine empty));
    each = all_any (open_flights (by_seat seat w ∷ past));
    busy = ap (is_busy seat) flights ∙ ap (λ (b : Bool). b || is_busy seat (open_flights past)) its;
  }

  -- and those after it
  pub carries_first : (Is : Direction → Type 0) → Is x.direction → (ws : List What) → AreStarts ws → CarriesFor (made_by seat ws (by_seat seat w ∷ past)) seat Is
  carries_first Is kind ws starts =
      let begun = begun_made Any seat x ws (by_seat seat w ∷ past) (starts_begin ws starts) (any_begins seat ws) first_begun in
      record { first = x; more = begun.more; carrier = begun.carrier; carries = carries_all Any (made_by seat ws (by_seat seat w ∷ past)) seat x begun; kind = kind }

-- ---- whatever comes first
pub starts_carry : (seat : ℕ) (ws : List What) (past : List Entry) → is_busy seat (open_flights past) ≡ false → carrier_of seat past ≡ [] → AreStarts ws → BeginNoFaults ws → (carrier_of seat (made_by seat ws past) ≡ [] → ⊥)
    → CarriesFor (made_by seat ws past) seat IsNoFault
starts_carry seat [] past idle empty starts none some = absurd (some empty)
starts_carry seat (what.Reuse f g ∷ ws) past idle empty starts none some = starts_carry seat ws (by_seat seat (what.Reuse f g) ∷ past) idle empty starts.1 none.1 some
starts_carry seat (what.In f b r ∷ ws) past idle empty starts none some =
    carries_first past seat idle empty (what.In f b r) (record { start = length past + 1; seat = seat; frame = f.0; block = b; direction = reading r }) refl refl (own_entry seat past (what.In f b r)) IsNoFault none.0 ws starts.1
starts_carry seat (what.Out f b ∷ ws) past idle empty starts none some =
    carries_first past seat idle empty (what.Out f b) (record { start = length past + 1; seat = seat; frame = f.0; block = b; direction = writing }) refl refl (own_entry seat past (what.Out f b)) IsNoFault refl ws starts.1
starts_carry seat (w ∷ ws) past idle empty starts none some = absurd starts.0
