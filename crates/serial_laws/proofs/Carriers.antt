-- What a seat carries once its flights have begun, from a past in which no flight is open.
use Rattle.std.proofs.Common.{◌≡◌, ℕ, ◌+◌, ◌||◌, ◌++◌, Bool, true, false, cond, List, [], ◌∷◌, Some, length, filter, nat_eq, reverse, refl, sym, ap, ◌∙◌, subst, length-append, arith}
use Rattle.std.specs.List.{AllByRecursion}
use Rattle.std.proofs.lemmas.Bool.{false≢true}
use Rattle.std.proofs.lemmas.List.{reverse-append}
use Rattle.std.proofs.lemmas.Option.{none-some, same_Some}
use Rattle.vm_journal.specs.declared.entry.Entry.{Entry}
use Rattle.vm_journal.specs.declared.entry.What.{What}
use Rattle.vm_journal.specs.declared.entry.What.TheVariants as what
use Rattle.pager_model.specs.Carrier.{Carrying, carried, carrying, carrying_with}
use Rattle.pager_model.specs.Flights.{Flight, begun_by, is_busy, open_flights, reading, writing, carrier_of}
use Rattle.pager_policy.specs.Given.{by_seat, made_by}
use Rattle.pager_rules.proofs.Basics.{nat_eq_refl}
use Rattle.serial_laws.specs.Lost.{CarriesAll}

-- entries with which a carrier is begun
abbrev pub is_beginning : What → Bool
is_beginning (what.Reuse f g) = true
is_beginning (what.In f b r) = true
is_beginning (what.Out f b) = true
is_beginning other = false

-- the seat's carrier is these flights, none has landed, and each open flight is of a kind
pub record IsBegun (P : Flight → Type 0) (past : List Entry) (seat : ℕ) (first : Flight) : Type 0 where
  pub firsts : (carrying seat past).first ≡ Some first
  pub none_landed : (carrying seat past).landed ≡ 0
  pub none_failed : (carrying seat past).failed ≡ 0
  pub unspoken : (carrying seat past).spoken_since ≡ false
  pub more : List Flight
  pub count : (carrying seat past).begun ≡ 1 + length more
  pub carrier : carrier_of seat past ≡ first ∷ more
  pub each : AllByRecursion P (open_flights past)
  pub busy : is_busy seat (open_flights past) ≡ true

-- each flight that the entry begins is of the kind
abbrev pub BeginsWith : (Flight → Type 0) → ℕ → What → Type 0
BeginsWith P seat w = (n : ℕ) (x : Flight) → begun_by n seat w ≡ Some x → P x

-- an entry of the seat's own
pub own_entry : (seat : ℕ) (past : List Entry) (w : What) → carrying seat (by_seat seat w ∷ past) ≡ carrying_with (length past + 1) seat (is_busy seat (open_flights past)) w (carrying seat past)
own_entry seat past w = ap (λ (own : Bool). cond own (carrying_with (length past + 1) seat (is_busy seat (open_flights past)) w (carrying seat past)) (carrying seat past)) (nat_eq_refl seat)

-- one more flight of a busy seat
one_more : (P : Flight → Type 0) (past now : List Entry) (seat : ℕ) (first x : Flight) → x.seat ≡ seat → open_flights now ≡ x ∷ open_flights past → carrying seat now ≡ carried (is_busy seat (open_flights past)) (carrying seat past) (Some x) → P x → IsBegun P past seat first → IsBegun P now seat first
one_more P past now seat first x by flights is fits old = record {
  firsts = ap (λ (c : Carrying). c.first) now_is ∙ old.firsts;
  none_landed = ap (λ (c : Carrying). c.landed) now_is ∙ old.none_landed;
  none_failed = ap (λ (c : Carrying). c.failed) now_is ∙ old.none_failed;
  unspoken = ap (λ (c : Carrying). c.spoken_since) now_is ∙ old.unspoken;
  more = old.more ++ x ∷ [];
  count = (let begun = ap (λ (c : Carrying). c.begun) now_is in let before = old.count in let longer = length-append old.more (x ∷ []) in omega (arith, begun, before, longer));
  carrier = ap (λ (xs : List Flight). reverse (filter (λ (y : Flight). nat_eq y.seat seat) xs)) flights ∙ (ap (λ (b : Bool). reverse (cond b (x ∷ filter (λ (y : Flight). nat_eq y.seat seat) (open_flights past)) (filter (λ (y : Flight). nat_eq y.seat seat) (open_flights past)))) own ∙ (reverse-append (x ∷ []) (filter (λ (y : Flight). nat_eq y.seat seat) (open_flights past)) ∙ ap (λ (xs : List Flight). xs ++ x ∷ []) old.carrier));
  each = subst (AllByRecursion P) (sym flights) (fits, old.each);
  busy = ap (is_busy seat) flights ∙ ap (λ (b : Bool). b || is_busy seat (open_flights past)) own;
}
  where
    own : nat_eq x.seat seat ≡ true
    own = ap (λ (n : ℕ). nat_eq n seat) by ∙ nat_eq_refl seat

    now_is : carrying seat now ≡ carried true (carrying seat past) (Some x)
    now_is = is ∙ ap (λ (b : Bool). carried b (carrying seat past) (Some x)) old.busy

-- the first flight of a seat, where none is open
first_one : (P : Flight → Type 0) (past now : List Entry) (seat : ℕ) (x : Flight) → x.seat ≡ seat → open_flights past ≡ [] → open_flights now ≡ x ∷ open_flights past → carrying seat now ≡ carried (is_busy seat (open_flights past)) (carrying seat past) (Some x) → P x → IsBegun P now seat x
first_one P past now seat x by none flights is fits = record {
  firsts = ap (λ (c : Carrying). c.first) now_is;
  none_landed = ap (λ (c : Carrying). c.landed) now_is;
  none_failed = ap (λ (c : Carrying). c.failed) now_is;
  unspoken = ap (λ (c : Carrying). c.spoken_since) now_is;
  more = [];
  count = ap (λ (c : Carrying). c.begun) now_is;
  carrier = ap (λ (xs : List Flight). reverse (filter (λ (y : Flight). nat_eq y.seat seat) xs)) alone ∙ ap (λ (b : Bool). reverse (cond b (x ∷ []) [])) own;
  each = subst (AllByRecursion P) (sym alone) (fits, tt);
  busy = ap (is_busy seat) alone ∙ ap (λ (b : Bool). b || false) own;
}
  where
    own : nat_eq x.seat seat ≡ true
    own = ap (λ (n : ℕ). nat_eq n seat) by ∙ nat_eq_refl seat

    alone : open_flights now ≡ x ∷ []
    alone = flights ∙ ap (λ (xs : List Flight). x ∷ xs) none

    now_is : carrying seat now ≡ carried false (carrying seat past) (Some x)
    now_is = is ∙ ap (λ (xs : List Flight). carried (is_busy seat xs) (carrying seat past) (Some x)) none

pub begun_first : (P : Flight → Type 0) (past : List Entry) (seat : ℕ) (w : What) (x : Flight) → open_flights past ≡ [] → begun_by (length past + 1) seat w ≡ Some x → P x → IsBegun P (by_seat seat w ∷ past) seat x
begun_first P past seat (what.In f b r) x none begins fits =
    let y : Flight = record { start = length past + 1; seat = seat; frame = f.0; block = b; direction = reading r } in
    let same : y ≡ x = same_Some y x begins in
    subst (λ (z : Flight). IsBegun P (by_seat seat (what.In f b r) ∷ past) seat z) same (first_one P past (by_seat seat (what.In f b r) ∷ past) seat y refl none refl (own_entry seat past (what.In f b r)) (subst P (sym same) fits))
begun_first P past seat (what.Out f b) x none begins fits =
    let y : Flight = record { start = length past + 1; seat = seat; frame = f.0; block = b; direction = writing } in
    let same : y ≡ x = same_Some y x begins in
    subst (λ (z : Flight). IsBegun P (by_seat seat (what.Out f b) ∷ past) seat z) same (first_one P past (by_seat seat (what.Out f b) ∷ past) seat y refl none refl (own_entry seat past (what.Out f b)) (subst P (sym same) fits))
begun_first P past seat other x none begins fits = absurd (none-some x begins)

pub begun_more : (P : Flight → Type 0) (past : List Entry) (seat : ℕ) (first : Flight) (w : What) → is_beginning w ≡ true → BeginsWith P seat w → IsBegun P past seat first → IsBegun P (by_seat seat w ∷ past) seat first
begun_more P past seat first (what.In f b r) is fits old = one_more P past (by_seat seat (what.In f b r) ∷ past) seat first (record { start = length past + 1; seat = seat; frame = f.0; block = b; direction = reading r }) refl refl (own_entry seat past (what.In f b r)) (fits (length past + 1) _ refl) old
begun_more P past seat first (what.Out f b) is fits old = one_more P past (by_seat seat (what.Out f b) ∷ past) seat first (record { start = length past + 1; seat = seat; frame = f.0; block = b; direction = writing }) refl refl (own_entry seat past (what.Out f b)) (fits (length past + 1) _ refl) old
begun_more P past seat first (what.Reuse f g) is fits old = record {
  firsts = ap (λ (c : Carrying). c.first) same ∙ old.firsts;
  none_landed = ap (λ (c : Carrying). c.landed) same ∙ old.none_landed;
  none_failed = ap (λ (c : Carrying). c.failed) same ∙ old.none_failed;
  unspoken = ap (λ (c : Carrying). c.spoken_since) same ∙ old.unspoken;
  more = old.more;
  count = ap (λ (c : Carrying). c.begun) same ∙ old.count;
  carrier = old.carrier;
  each = old.each;
  busy = old.busy;
}
  where
    same : carrying seat (by_seat seat (what.Reuse f g) ∷ past) ≡ carrying seat past
    same = own_entry seat past (what.Reuse f g)
begun_more P past seat first other is fits old = absurd (false≢true is)

pub begun_made : (P : Flight → Type 0) (seat : ℕ) (first : Flight) (ws : List What) (past : List Entry) → AllByRecursion (λ (w : What). is_beginning w ≡ true) ws → AllByRecursion (BeginsWith P seat) ws → IsBegun P past seat first → IsBegun P (made_by seat ws past) seat first
begun_made P seat first [] past each fits old = old
begun_made P seat first (w ∷ ws) past each fits old = begun_made P seat first ws (by_seat seat w ∷ past) each.1 fits.1 (begun_more P past seat first w each.0 fits.0 old)

-- so it carries all of them
pub carries_all : (P : Flight → Type 0) (past : List Entry) (seat : ℕ) (first : Flight) (begun : IsBegun P past seat first) → CarriesAll past seat first begun.more
carries_all P past seat first begun = record { firsts = begun.firsts; begun = (let count = begun.count in omega (arith, count)); none_landed = begun.none_landed; none_failed = begun.none_failed; unspoken = begun.unspoken }
