-- What the tables keep, as a list of entries and as a map.
use Rattle.std.proofs.Common.{◌≡◌, ℕ, false, ◌*◌, ◌<◌, ◌≤◌, ◌⊎◌, inl, inr, List, Option, Some, None, IsSome, length, set, get_or, replicate, nat_eq, ap, sym, ◌∙◌, arith, refl, subst}
use Rattle.std.proofs.lemmas.Bool.{cases_lt, cases_Bool, lt-ltb, le-ltb}
use Rattle.std.proofs.lemmas.List.{get_or-map, get_or_past, get_or-replicate, length-map, length-replicate, map-set}
use Rattle.std.specs.Option.{IfSome, option_map, option_and_then}
use Rattle.vm_types.specs.PagePlaces.{page_place, item_at, changed_at}
use Rattle.vm_types.proofs.Places.{item_at-set}
use Rattle.pte_forms.specs.Word.{word_of}
use Rattle.pte_forms.specs.declared.pte.Pte.{Pte}
use Rattle.page_tables.specs.Packed.{ArePacked, absent, entries_in, kept_by, word_in}
use Rattle.page_tables.specs.PageTables.{IsEntry}

length-entries_in : (words : List ℕ) → length (entries_in words) ≡ length words
unfolding entries_in
length-entries_in words = length-map words kept_by

get_or-entries_in : (words : List ℕ) (place : ℕ) → place < length words → get_or (entries_in words) place None ≡ kept_by (get_or words place 0)
unfolding entries_in
get_or-entries_in words place within = get_or-map kept_by words place 0 None within

entries_set : (words : List ℕ) (place word : ℕ) → entries_in (set words place word) ≡ set (entries_in words) place (kept_by word)
unfolding entries_in
entries_set words place word = map-set kept_by words place word

-- where one place has another word, the map has one page changed
pub map_changed : (words : List ℕ) (p v place word : ℕ) (x : Option Pte) → page_place p v ≡ Some place → place < length words → kept_by word ≡ x
    → (q w : ℕ) → item_at (entries_in (set words place word)) q w ≡ changed_at (item_at (entries_in words)) p v x q w
map_changed words p v place word x at within is q w =
    let list : entries_in (set words place word) ≡ set (entries_in words) place x =
    entries_set words place word ∙ ap (λ (kept : Option Pte). set (entries_in words) place kept) is in
    let room : place < length (entries_in words) = omega (arith, length-entries_in words) in
    rw list (item_at-set (entries_in words) x p v place at room q w)

-- what is kept at a place that may be past the last one
kept_or_none : (words : List ℕ) (place : ℕ)
    → ((place < length words) × (get_or (entries_in words) place None ≡ kept_by (get_or words place 0))) ⊎ ((length words ≤ place) × (get_or (entries_in words) place None ≡ None))
kept_or_none words place =
    elim (cases_lt place (length words)) [
      | inl within ↦ inl (within, get_or-entries_in words place within)
      | inr past ↦ inr (past, get_or_past (entries_in words) place None (omega (arith, length-entries_in words)))
    ]

none_is_none : IsSome {T = Pte} None → ⊥
none_is_none some = grind arith

-- a mapped page has its place
pub mapped_place : (words : List ℕ) (p v place : ℕ) → page_place p v ≡ Some place → IsSome (item_at (entries_in words) p v) → place < length words
mapped_place words p v place at mapped =
    let there : IsSome (get_or (entries_in words) place None) =
    subst (λ (o : Option ℕ). IsSome (option_and_then (λ k. get_or (entries_in words) k None) o)) at mapped in
    elim (kept_or_none words place) [
      | inl kept ↦ kept.0
      | inr past ↦ absurd (none_is_none (subst (λ (o : Option Pte). IsSome o) past.1 there))
    ]

-- the word at a page's place is the word of its entry, if it has one
pub word_of_entry : (procs : ℕ) (words : List ℕ) (p v place : ℕ) → ArePacked procs words → page_place p v ≡ Some place
    → word_in words place ≡ option_map word_of (item_at (entries_in words) p v)
word_of_entry procs words p v place packed at =
    let there : item_at (entries_in words) p v ≡ get_or (entries_in words) place None =
    ap (λ (o : Option ℕ). option_and_then (λ k. get_or (entries_in words) k None) o) at in
    elim (kept_or_none words place) [
      | inl kept ↦
          rw (there, kept.1, lt-ltb place (length words) kept.0)
          (elim (cases_Bool (nat_eq (get_or words place 0) absent)) [
            | inl gone ↦ rw gone refl
            | inr counts ↦ rw counts (ap (λ (word : ℕ). Some word) (sym (packed.kept place kept.0 counts).is))
          ])
      | inr past ↦ rw (there, past.1, le-ltb place (length words) past.0) refl
    ]

-- each entry is one that the tables may have
kept_from : (procs : ℕ) (words : List ℕ) → ArePacked procs words → (o : Option ℕ)
    → IfSome (option_and_then (λ k. get_or (entries_in words) k None) o) IsEntry
kept_from procs words packed None = tt
kept_from procs words packed (Some place) =
    elim (kept_or_none words place) [
      | inl kept ↦
          rw kept.1
          (elim (cases_Bool (nat_eq (get_or words place 0) absent)) [
            | inl gone ↦ rw gone tt
            | inr counts ↦ rw counts (packed.kept place kept.0 counts).entry
          ])
      | inr past ↦ rw past.1 tt
    ]

pub entries_are_kept : (procs : ℕ) (words : List ℕ) → ArePacked procs words → (p v : ℕ) → IfSome (item_at (entries_in words) p v) IsEntry
entries_are_kept procs words packed p v = kept_from procs words packed (page_place p v)

-- where each word is that of no entry, no page has one
none_from : (n : ℕ) (o : Option ℕ) → option_and_then (λ k. get_or (entries_in (replicate n absent)) k None) o ≡ None
none_from n None = refl
none_from n (Some place) =
    elim (kept_or_none (replicate n absent) place) [
      | inl kept ↦ kept.1 ∙ ap kept_by (get_or-replicate {A = ℕ} n place absent 0 (omega (arith, kept.0, length-replicate {A = ℕ} n absent)))
      | inr past ↦ past.1
    ]

pub none_kept : (n p v : ℕ) → item_at (entries_in (replicate n absent)) p v ≡ None
none_kept n p v = none_from n (page_place p v)
