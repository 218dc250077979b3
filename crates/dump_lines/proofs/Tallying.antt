-- What is counted of the processes so far, and the counts of each frame in the end.
use Rattle.std.proofs.Common.{◌≡◌, ℕ, zero, suc, ◌+◌, ◌*◌, ◌^◌, ◌<◌, ◌≤◌, List, [], ◌∷◌, ◌++◌, append-nil, count_by, cond, get_or, length, map, take, take_all, nat_eq, nat_lt, refl, sym, ap, subst, ◌∙◌, zero-add, arith, inl, inr}
use Rattle.std.specs.Prelude.{replicate, slice_index}
use Rattle.std.specs.List.{range_with_len}
use Rattle.std.proofs.lemmas.Bool.{cases_lt}
use Rattle.std.proofs.lemmas.List.{append_assoc, get_or-replicate, get_or_past, length-replicate, map_more}
use Rattle.std.proofs.lemmas.List.FromFn.{fill_by_all, get_or-map-range_with_len, length-map-range_with_len}
use Rattle.std.proofs.lemmas.List.Sums.{count_by-le-length, sum_by-append, sum_by-cons}
use Rattle.std.specs.List.{AllByRecursion}
use Rattle.vm_types.specs.declared.limits.TheConstants.{MOST_EXTENT}
use Rattle.dump_bytes.specs.declared.dump.ProcRec.{ProcRec}
use Rattle.dump_bytes.specs.Bounds.{IsProcess}
use Rattle.dump_bytes.specs.Dumped.{Process, Dumped, process_of}
use Rattle.dump_lines.specs.declared.counts.Counts.{Counts}
use Rattle.dump_lines.specs.Counts.{counts_of, recount_of}
use Rattle.dump_lines.specs.Gathered.{counts_at}
use Rattle.dump_lines.specs.Occurrences.{times_in}
use Rattle.dump_lines.specs.Pins.{is_pin, pins_in}
use Rattle.dump_lines.specs.Shares.{entries, is_for, shares_of}
use Rattle.dump_lines.specs.Raised.{AreRaised, HaveRoom}
use Rattle.dump_lines.specs.Tallies.{shares_in, uses_of}

entries-append : (ps qs : List Process) → entries (ps ++ qs) ≡ entries ps ++ entries qs
entries-append [] qs = refl
entries-append (p ∷ ps) qs = ap (λ (t : List (ℕ × ℕ)). p.words ++ t) (entries-append ps qs) ∙ sym (append_assoc p.words (entries ps) (entries qs))

-- a process alone
pub one_shares : (p : Process) (f : ℕ) → shares_in (p ∷ []) f ≡ count_by (is_for f) p.words
one_shares p f = ap (count_by (is_for f)) (append-nil p.words)

pub one_pins : (p : Process) (f : ℕ) → pins_in (p ∷ []) f ≡ count_by (is_pin p.words f) p.slots
one_pins p f = zero-add (count_by (is_pin p.words f) p.slots)

-- one process more
module _ (procs : List ProcRec) (i : ℕ) (p : ProcRec) (within : i < length procs) (is : p ≡ get_or procs i p) where
  passed : map process_of (take (i + 1) procs) ≡ map process_of (take i procs) ++ process_of p ∷ []
  passed = map_more process_of procs i p within ∙ ap (λ (q : ProcRec). map process_of (take i procs) ++ process_of q ∷ []) (sym is)

  pub shares_more : (f : ℕ) → shares_in (map process_of (take (i + 1) procs)) f ≡ shares_in (map process_of (take i procs)) f + shares_in (process_of p ∷ []) f
  shares_more f =
      ap (λ (ps : List Process). shares_in ps f) passed ∙ ap (count_by (is_for f)) (entries-append (map process_of (take i procs)) (process_of p ∷ []))
      ∙ sum_by-append _ (entries (map process_of (take i procs))) (entries (process_of p ∷ []))

  pub pins_more : (f : ℕ) → pins_in (map process_of (take (i + 1) procs)) f ≡ pins_in (map process_of (take i procs)) f + pins_in (process_of p ∷ []) f
  pins_more f = ap (λ (ps : List Process). pins_in ps f) passed ∙ sum_by-append _ (map process_of (take i procs)) (process_of p ∷ [])

-- a process has few entries and few slots
pub few_shares : (frames : ℕ) (procs : List ProcRec) (i : ℕ) → AllByRecursion (IsProcess frames) (map process_of procs) → (f : ℕ) → shares_in (map process_of (take i procs)) f ≤ MOST_EXTENT * i
few_shares frames procs zero all f = omega arith
few_shares frames [] (suc i) all f = omega arith
few_shares frames (p ∷ procs) (suc i) all f =
    let slots = all.0.few_slots.1 in
    let words = all.0.few_words in
    let rest = few_shares frames procs i all.1 f in
    omega (arith, sum_by-append (λ (w : ℕ × ℕ). cond (is_for f w) 1 0) p.words.items (entries (map process_of (take i procs))), count_by-le-length (is_for f) p.words.items)

pub few_pins : (frames : ℕ) (procs : List ProcRec) (i : ℕ) → AllByRecursion (IsProcess frames) (map process_of procs) → (f : ℕ) → pins_in (map process_of (take i procs)) f ≤ MOST_EXTENT * i
few_pins frames procs zero all f = omega arith
few_pins frames [] (suc i) all f = omega arith
few_pins frames (p ∷ procs) (suc i) all f =
    let slots = all.0.few_slots.1 in
    let rest = few_pins frames procs i all.1 f in
    omega (
      arith,
      sum_by-cons (λ (q : Process). count_by (is_pin q.words f) q.slots) (process_of p) (map process_of (take i procs)),
      count_by-le-length (is_pin p.words.items f) p.slots.items,
    )

pub few_pins_of_all : (frames : ℕ) (procs : List ProcRec) → AllByRecursion (IsProcess frames) (map process_of procs) → (f : ℕ) → pins_in (map process_of procs) f ≤ MOST_EXTENT * length procs
few_pins_of_all frames procs all f =
    let whole = take_all (length procs) procs (omega arith) in
    subst (λ (ps : List ProcRec). pins_in (map process_of ps) f ≤ MOST_EXTENT * length procs) whole (few_pins frames procs (length procs) all f)

pub few_times : (numbers : List ℕ) (f : ℕ) → times_in numbers f ≤ length numbers
few_times numbers f = count_by-le-length (λ (n : ℕ). nat_eq n f) numbers

-- ---- the counts of each frame
pub record AreTallied (d : Dumped) (shares uses free modified : List ℕ) : Type 0 where
  pub shares_are : (f : ℕ) → f < length d.frames → slice_index shares f ≡ shares_of d f
  pub uses_are : (f : ℕ) → f < length d.frames → slice_index uses f ≡ uses_of d f
  pub free_are : (f : ℕ) → f < length d.frames → slice_index free f ≡ times_in d.free f
  pub modified_are : (f : ℕ) → f < length d.frames → slice_index modified f ≡ times_in d.modified f

-- what is counted from nothing
from_nothing : (more : ℕ → ℕ) (n : ℕ) (counts : List ℕ) → AreRaised more (replicate n 0) counts → (f : ℕ) → f < n → slice_index counts f ≡ more f
from_nothing more n counts raised f within =
    let size : length (replicate {A = ℕ} n 0) ≡ n = length-replicate {A = ℕ} n 0 in
    let none : get_or (replicate {A = ℕ} n 0) f 0 ≡ 0 = get_or-replicate {A = ℕ} n f 0 0 within in
    let each = raised.each f (omega arith) in
    omega arith

pub tallied : (d : Dumped) (n : ℕ) (shares pins uses free modified : List ℕ) → n ≡ length d.frames → AreRaised (shares_in d.procs) (replicate n 0) shares
    → AreRaised (pins_in d.procs) (replicate n 0) pins → AreRaised (times_in d.flights) pins uses
    → AreRaised (times_in d.free) (replicate n 0) free → AreRaised (times_in d.modified) (replicate n 0) modified → AreTallied d shares uses free modified
tallied d n shares pins uses free modified same on_shares on_pins on_flights on_free on_modified = record {
  shares_are = λ f within. from_nothing (shares_in d.procs) n shares on_shares f (omega arith);
  uses_are = λ f within.
      (let size : length (replicate {A = ℕ} n 0) ≡ n = length-replicate {A = ℕ} n 0 in
      let also = on_pins.size in
      let first = from_nothing (pins_in d.procs) n pins on_pins f (omega arith) in
      let each = on_flights.each f (omega arith) in
      omega arith);
  free_are = λ f within. from_nothing (times_in d.free) n free on_free f (omega arith);
  modified_are = λ f within. from_nothing (times_in d.modified) n modified on_modified f (omega arith);
}

-- there is room for what a dump can count
pub room_of_nothing : (n more : ℕ) → more < 2 ^ 32 → HaveRoom more (replicate n 0)
room_of_nothing n more few f =
    elim (cases_lt f n) [
      | inl within ↦ (let none : get_or (replicate {A = ℕ} n 0) f 0 ≡ 0 = get_or-replicate {A = ℕ} n f 0 0 within in omega arith)
      | inr past ↦ (let none : get_or (replicate {A = ℕ} n 0) f 0 ≡ 0 = get_or_past (replicate {A = ℕ} n 0) f 0 (omega (arith, length-replicate {A = ℕ} n 0)) in omega arith)
    ]

regroup : (a b c n : ℕ) → n ≡ c + b → a + n ≡ a + b + c
regroup a b c n e = omega arith

counts_same : (d : Dumped) (shares uses free modified : List ℕ) → AreTallied d shares uses free modified → (f : ℕ) → f < length d.frames → counts_at shares uses free modified f ≡ counts_of d f
counts_same d shares uses free modified are f within =
    let s = are.shares_are f within in
    let u = are.uses_are f within in
    let bit : ℕ → ℕ = λ n. cond {A = ℕ} (nat_lt 0 n) 1 0 in
    let refs : bit (slice_index shares f) + slice_index uses f ≡ (counts_of d f).refs =
    ap (λ (n : ℕ). bit n + slice_index uses f) s ∙ regroup (bit (shares_of d f)) (times_in d.flights f) (pins_in d.procs f) (slice_index uses f) u in
    let on_free = are.free_are f within in
    let on_modified = are.modified_are f within in
    λ i. record { refs = refs i; shares = s i; free = on_free i; modified = on_modified i }

pub gathered : (d : Dumped) (shares uses free modified : List ℕ) → length shares ≡ length d.frames → AreTallied d shares uses free modified
    → map (counts_at shares uses free modified) (range_with_len 0 (length shares)) ≡ recount_of d
gathered d shares uses free modified same are =
    let none : Counts = record { refs = 0; shares = 0; free = 0; modified = 0 } in
    let at : ℕ → Counts = counts_at shares uses free modified in
    ap (λ (n : ℕ). map at (range_with_len 0 n)) same
    ∙ fill_by_all (counts_of d) (map at (range_with_len 0 (length d.frames))) (length d.frames) none (length-map-range_with_len at 0 (length d.frames))
    (λ k within. get_or-map-range_with_len at 0 (length d.frames) k k none within (omega arith) ∙ counts_same d shares uses free modified are k within)
