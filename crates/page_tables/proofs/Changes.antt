-- A word written at a page's place keeps the tables and changes one page.
use Rattle.std.proofs.Common.{◌≡◌, ℕ, false, ◌<◌, inl, inr, List, Option, Some, length, set, slice_index, nat_eq, sym, ◌∙◌, arith, get_or-set_same, subst}
use Rattle.std.proofs.lemmas.Bool.Decides.{eqb_tells}
use Rattle.std.proofs.lemmas.List.{get_or-set_other, length-set}
use Rattle.vm_types.specs.PagePlaces.{page_place, changed_at}
use Rattle.std.specs.Option.{option_map}
use Rattle.pte_forms.specs.Word.{word_of}
use Rattle.pte_forms.specs.declared.pte.Pte.{Pte}
use Rattle.page_tables.proofs.Entries.{map_changed, mapped_place, entries_are_kept, word_of_entry}
use Rattle.page_tables.specs.Packed.{ArePacked, IsKeptWord, absent, entries_in, kept_by, word_in}
use Rattle.page_tables.specs.PageTables.{AreEntries, IsMapped, PageTables, pte_in}

abbrev pub tables_in : ℕ → List ℕ → PageTables
tables_in procs words = record { procs = procs; entries = entries_in words }

module _ (procs : ℕ) (words : List ℕ) (packed : ArePacked procs words) where
  pub packed_with : (place word : ℕ) → place < length words → (nat_eq word absent ≡ false → IsKeptWord word) → ArePacked procs (set words place word)
  packed_with place word within keeps =
      record {
        count = length-set words place word ∙ packed.count;
        kept = λ k below counts.
            elim (eqb_tells k place) [
              | inl here ↦
                  let is = get_or-set_same words place word 0 within in
                  rw (here.1, is) (keeps (subst (λ (kept : ℕ). nat_eq kept absent ≡ false) is (subst (λ (j : ℕ). nat_eq (slice_index (set words place word) j) absent ≡ false) here.1 counts)))
              | inr other ↦
                  let inside : k < length words = omega (arith, length-set words place word) in
                  let is = get_or-set_other words place k word 0 other.1 in
                  rw is (packed.kept k inside (subst (λ (kept : ℕ). nat_eq kept absent ≡ false) is counts))
            ];
      }

  pub entries_in_tables : (t : PageTables) → tables_in procs words ≡ t → AreEntries t
  entries_in_tables t is = subst (λ (s : PageTables). AreEntries s) is (entries_are_kept procs words packed)

  pub word_in_tables : (t : PageTables) → tables_in procs words ≡ t → (p v place : ℕ) → page_place p v ≡ Some place
      → word_in words place ≡ option_map word_of (pte_in t p v)
  word_in_tables t is p v place at = rw (← is) (word_of_entry procs words p v place packed at)

module _ (t : PageTables) (procs : ℕ) (words : List ℕ) (is : tables_in procs words ≡ t) (p v place : ℕ) (at : page_place p v ≡ Some place) where
  pub mapped_in : IsMapped t p v → place < length words
  mapped_in mapped = mapped_place words p v place at (subst (λ (s : PageTables). IsMapped s p v) (sym is) mapped)

  pub changed_with : (word : ℕ) (x : Option Pte) → place < length words → kept_by word ≡ x
      → (q w : ℕ) → pte_in (tables_in procs (set words place word)) q w ≡ changed_at (pte_in t) p v x q w
  changed_with word x within stands q w = rw (← is) (map_changed words p v place word x at within stands q w)
