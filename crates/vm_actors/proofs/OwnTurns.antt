-- The entries of a pass's numbers in its turns.
use Rattle.std.proofs.Common.{◌≡◌, ℕ, ◌<◌, ◌||◌, Bool, true, false, cond, List, [], ◌∷◌, ◌++◌, Option, Some, None, length, map, nat_eq, refl, sym, ap, ◌∙◌, subst, arith, append_assoc, append-nil, suc, zero}
use Rattle.std.specs.Prelude.{All, Contains, slice_index_or}
use Rattle.std.specs.List.{AllByRecursion, list_any}
use Rattle.std.proofs.lemmas.Bool.{eqb-true, eq-eqb, false≢true}
use Rattle.std.proofs.lemmas.List.Elements.{All-from_recursion}
use Rattle.vm_types.specs.declared.names.Seat.{Seat}
use Rattle.vm_types.specs.declared.service.Request.{Request}
use Rattle.vm_journal.specs.declared.entry.Entry.{Entry}
use Rattle.vm_journal.specs.declared.entry.What.{What}
use Rattle.pager_policy.specs.Given.{by_seat}
use Rattle.seat_turns.specs.Steps.{AreUnspoken, TurnTells}
use Rattle.seat_turns.specs.declared.turned.Spoken.{Spoken}
use Rattle.seat_turns.specs.declared.turned.Turned.{Turned}
use Rattle.seat_turns.specs.declared.turned.Turned.TheVariants.{Made, Reads, Rests, Short, Spoke, Waits}
use Rattle.vm_actors.specs.OwnEntries.{AreSilent, EndsInAnswer, GoesOnSilently, GoesOnWith, IsNone, IsSome, IsUnspoken, MadeNone, MadeSome, TurnEntries, is_of, own_of}
use Rattle.vm_actors.proofs.Foreign.{IsForeign}

-- ---- numbers
pub any_from : (numbers : List ℕ) (k : ℕ) → list_any (λ (n : ℕ). nat_eq n k) numbers ≡ true → Contains numbers k
any_from [] k is = absurd (false≢true is)
any_from (n ∷ numbers) k is = by (nat_eq n k) refl is (any_from numbers k)
  where
    by : (b : Bool) → nat_eq n k ≡ b → (b || list_any (λ (m : ℕ). nat_eq m k) numbers) ≡ true → (list_any (λ (m : ℕ). nat_eq m k) numbers ≡ true → Contains numbers k) → Contains (n ∷ numbers) k
    by true same any rest = (0, omega arith, eqb-true n k same)
    by false other any rest = let there = rest any in (suc there.0, (let within = there.1 in omega (arith, within)), there.2)

pub any_of : (numbers : List ℕ) (k i : ℕ) → i < length numbers → slice_index_or numbers i k ≡ k → list_any (λ (n : ℕ). nat_eq n k) numbers ≡ true
any_of [] k i within is = absurd (omega (arith, within))
any_of (n ∷ numbers) k zero within is = ap (λ (b : Bool). b || list_any (λ (m : ℕ). nat_eq m k) numbers) (eq-eqb n k is)
any_of (n ∷ numbers) k (suc i) within is = or_right (nat_eq n k) (list_any (λ (m : ℕ). nat_eq m k) numbers) (any_of numbers k i (omega (arith, within)) is)
  where
    or_right : (b c : Bool) → c ≡ true → (b || c) ≡ true
    or_right true c is = refl
    or_right false c is = is

pub is_own : (numbers : List ℕ) (e : Entry) → Contains numbers (e.seat).0 → is_of numbers e ≡ true
is_own numbers e has = any_of numbers (e.seat).0 has.0 has.1 has.2

-- ---- entries of other seats
pub none_own : (numbers : List ℕ) (later : List Entry) → ((k : ℕ) → Contains numbers k → AllByRecursion (IsForeign k) later) → own_of numbers later ≡ []
none_own numbers [] foreign = refl
none_own numbers (e ∷ later) foreign = by (is_of numbers e) refl (none_own numbers later (λ k has. (foreign k has).1))
  where
    by : (b : Bool) → is_of numbers e ≡ b → own_of numbers later ≡ [] → cond b (e ∷ own_of numbers later) (own_of numbers later) ≡ []
    by true is rest = absurd (false≢true (sym (foreign (e.seat).0 (any_from numbers (e.seat).0 is)).0 ∙ eq-eqb (e.seat).0 (e.seat).0 refl))
    by false is rest = rest

pub foreign_none : (numbers : List ℕ) (k : ℕ) → Contains numbers k → (later : List Entry) → own_of numbers later ≡ [] → AllByRecursion (IsForeign k) later
foreign_none numbers k has [] none = tt
foreign_none numbers k has (e ∷ later) none = by (is_of numbers e) refl none (foreign_none numbers k has later)
  where
    other : (c : Bool) → nat_eq (e.seat).0 k ≡ c → is_of numbers e ≡ false → IsForeign k e
    other false is out = is
    other true is out = absurd (false≢true (sym out ∙ is_own numbers e (subst (Contains numbers) (sym (eqb-true (e.seat).0 k is)) has)))

    by : (b : Bool) → is_of numbers e ≡ b → cond b (e ∷ own_of numbers later) (own_of numbers later) ≡ [] → (own_of numbers later ≡ [] → AllByRecursion (IsForeign k) later) → AllByRecursion (IsForeign k) (e ∷ later)
    by true is none rest = absurd (omega (arith, ap length none))
    by false is none rest = (other (nat_eq (e.seat).0 k) refl is, rest none)

-- ---- entries of one's own
all_then : {X : Type 0} (P : X → Type 0) (xs ys : List X) → AllByRecursion P xs → AllByRecursion P ys → AllByRecursion P (xs ++ ys)
all_then P [] ys first second = second
all_then P (x ∷ xs) ys first second = (first.0, all_then P xs ys first.1 second)

module _ (numbers : List ℕ) (seat : Seat) (has : Contains numbers seat.0) where
  pub all_own : (ws : List What) → own_of numbers (map (by_seat seat.0) ws) ≡ map (by_seat seat.0) ws
  all_own [] = refl
  all_own (w ∷ ws) = ap (λ (b : Bool). cond b (by_seat seat.0 w ∷ own_of numbers (map (by_seat seat.0) ws)) (own_of numbers (map (by_seat seat.0) ws))) (is_own numbers (by_seat seat.0 w) has) ∙ ap (λ (es : List Entry). by_seat seat.0 w ∷ es) (all_own ws)

  silent_by : (ws : List What) → AreUnspoken ws → AreSilent (map (by_seat seat.0) ws)
  silent_by [] quiet = tt
  silent_by (w ∷ ws) quiet = (quiet.0, silent_by ws quiet.1)

  owned_by : (ws : List What) → AllByRecursion (λ (e : Entry). Contains numbers ((e.seat).0)) (map (by_seat seat.0) ws)
  owned_by [] = tt
  owned_by (w ∷ ws) = (has, owned_by ws)

  pub all_owned : (ws : List What) → All (λ (e : Entry). Contains numbers ((e.seat).0)) (map (by_seat seat.0) ws)
  all_owned ws = All-from_recursion (λ (e : Entry). Contains numbers ((e.seat).0)) (map (by_seat seat.0) ws) (owned_by ws)

  map_last : (before : List What) (w : What) → map (by_seat seat.0) (before ++ w ∷ []) ≡ map (by_seat seat.0) before ++ by_seat seat.0 w ∷ []
  map_last [] w = refl
  map_last (v ∷ before) w = ap (λ (es : List Entry). by_seat seat.0 v ∷ es) (map_last before w)

  -- what the entries of a turn answer
  pub turn_entries : (turned : Turned) (o : Option Request) (ws : List What) → TurnTells turned o ws → TurnEntries seat turned o (map (by_seat seat.0) ws)
  turn_entries (Spoke shown) (Some x) ws tells = record {
    before = map (by_seat seat.0) tells.before;
    last = by_seat seat.0 tells.last;
    entries_are = ap (map (by_seat seat.0)) tells.made_is ∙ map_last tells.before tells.last;
    silent = silent_by tells.before tells.unspoken;
    seat_is = refl;
    answer = tells.answer;
  }
  turn_entries (Spoke shown) None ws tells = absurd tells
  turn_entries Reads o ws tells = silent_by ws tells
  turn_entries Made o ws tells = silent_by ws tells
  turn_entries Waits o ws tells = silent_by ws tells
  turn_entries Rests o ws tells = silent_by ws tells
  turn_entries Short o ws tells = silent_by ws tells

-- ---- one after another
pub own_append : (numbers : List ℕ) (xs ys : List Entry) → own_of numbers (xs ++ ys) ≡ own_of numbers xs ++ own_of numbers ys
own_append numbers [] ys = refl
own_append numbers (x ∷ xs) ys = by (is_of numbers x) (own_append numbers xs ys)
  where
    by : (b : Bool) → own_of numbers (xs ++ ys) ≡ own_of numbers xs ++ own_of numbers ys → cond b (x ∷ own_of numbers (xs ++ ys)) (own_of numbers (xs ++ ys)) ≡ cond b (x ∷ own_of numbers xs) (own_of numbers xs) ++ own_of numbers ys
    by true rest = ap (λ (es : List Entry). x ∷ es) rest
    by false rest = rest

some_there : (x : Entry) (xs : List Entry) → x ∷ xs ≡ [] → ⊥
some_there x xs none = omega (arith, ap length none)

module _ (numbers : List ℕ) where
  pub goes_nowhere : (P : List Entry → Type 0) (old : List Entry) → P [] → GoesOnWith P numbers old old
  goes_nowhere P old none = record { later = []; whole = append-nil old; own = none }

  pub goes_both : (P Q R : List Entry → Type 0) → ((xs ys : List Entry) → P xs → Q ys → R (xs ++ ys)) → (a b c : List Entry) → GoesOnWith P numbers a b → GoesOnWith Q numbers b c → GoesOnWith R numbers a c
  goes_both P Q R both a b c first second = record {
    later = first.later ++ second.later;
    whole = sym (append_assoc a first.later second.later) ∙ (ap (λ (es : List Entry). es ++ second.later) first.whole ∙ second.whole);
    own = subst R (sym (own_append numbers first.later second.later)) (both (own_of numbers first.later) (own_of numbers second.later) first.own second.own);
  }

  pub goes_then : (a b c : List Entry) → GoesOnSilently numbers a b → GoesOnSilently numbers b c → GoesOnSilently numbers a c
  goes_then a b c first second = goes_both AreSilent AreSilent AreSilent (all_then IsUnspoken) a b c first second

  pub replied_then : (seat : Seat) (x : Request) (shown : Spoken) (a b c : List Entry) → GoesOnSilently numbers a b → GoesOnWith (EndsInAnswer seat x shown) numbers b c → GoesOnWith (EndsInAnswer seat x shown) numbers a c
  replied_then seat x shown a b c first second = goes_both AreSilent (EndsInAnswer seat x shown) (EndsInAnswer seat x shown) last_of a b c first second
    where
      last_of : (xs ys : List Entry) → AreSilent xs → EndsInAnswer seat x shown ys → EndsInAnswer seat x shown (xs ++ ys)
      last_of xs ys silent ends = record {
        before = xs ++ ends.before;
        last = ends.last;
        entries_are = ap (λ (es : List Entry). xs ++ es) ends.entries_are ∙ sym (append_assoc xs ends.before (ends.last ∷ []));
        silent = all_then IsUnspoken xs ends.before silent ends.silent;
        seat_is = ends.seat_is;
        answer = ends.answer;
      }

  -- none and none, some and any, any and some
  pub none_then : (a b c : List Entry) → MadeNone numbers a b → MadeNone numbers b c → MadeNone numbers a c
  none_then a b c first second = goes_both IsNone IsNone IsNone (λ xs ys none more. ap (λ (es : List Entry). es ++ ys) none ∙ more) a b c first second

  pub some_before : (P : List Entry → Type 0) (a b c : List Entry) → MadeSome numbers a b → GoesOnWith P numbers b c → MadeSome numbers a c
  some_before P a b c first second = goes_both IsSome P IsSome first_some a b c first second
    where
      first_some : (xs ys : List Entry) → IsSome xs → P ys → IsSome (xs ++ ys)
      first_some [] ys some more = λ none. some refl
      first_some (x ∷ xs) ys some more = λ none. some_there x (xs ++ ys) none

  pub some_after : (P : List Entry → Type 0) (a b c : List Entry) → GoesOnWith P numbers a b → MadeSome numbers b c → MadeSome numbers a c
  some_after P a b c first second = goes_both P IsSome IsSome then_some a b c first second
    where
      then_some : (xs ys : List Entry) → P xs → IsSome ys → IsSome (xs ++ ys)
      then_some [] ys more some = some
      then_some (x ∷ xs) ys more some = λ none. some_there x (xs ++ ys) none
