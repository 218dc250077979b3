-- The entry that a word stands for, found by its fields.
use Rattle.std.proofs.Common.{◌≡◌, ℕ, true, false, ◌+◌, ◌*◌, ◌/◌, ◌%◌, ◌^◌, ◌<◌, inl, inr, Option, Some, None, nat_eq, ap, arith, refl}
use Rattle.std.proofs.lemmas.Bool.Decides.{eqb_tells}
use Rattle.std.specs.Option.{IfSome, option_map}
use Rattle.pte_forms.proofs.JoinedFields.{valid_bit-lt, kind_bits-lt}
use Rattle.pte_forms.specs.Word.{IsPte, valid_bit, kind_bits, number_bits, word_of}
use Rattle.pte_forms.specs.declared.pte.Pte.{Pte}
use Rattle.pte_forms.specs.declared.pte.Place.{Place}
use Rattle.pte_forms.specs.declared.pte.Place.TheVariants.{Valid, DemandZero, Transition, PageFile, SectionIndex, GlobalIndex, Swap}
use Rattle.page_tables.specs.Packed.{IsKeptWord, absent, entry_by, kept_by, place_by}
use Rattle.page_tables.specs.PageTables.{IsEntry, look_at}
use Rattle.page_tables.specs.declared.look.Look.TheVariants.{Entry}

by_fields : (place : Place) → place_by (valid_bit place) (kind_bits place) (number_bits place) ≡ place
by_fields (Valid true frame) = refl
by_fields (Valid false frame) = refl
by_fields DemandZero = refl
by_fields (Transition frame) = refl
by_fields (PageFile block) = refl
by_fields (SectionIndex page) = refl
by_fields (GlobalIndex page) = refl
by_fields (Swap slot) = refl

module _ (v p k n : ℕ) (small_v : v < 2) (small_p : p < 16) (small_k : k < 8) (small_n : n < 2 ^ 21) where
  top_field : (2 ^ 31 * v + 2 ^ 27 * p + 2 ^ 24 * k + n) / 2 ^ 31 ≡ v
  top_field = omega arith

  code_field : (2 ^ 31 * v + 2 ^ 27 * p + 2 ^ 24 * k + n) / 2 ^ 27 % 16 ≡ p
  code_field = omega arith

  kind_field : (2 ^ 31 * v + 2 ^ 27 * p + 2 ^ 24 * k + n) / 2 ^ 24 % 8 ≡ k
  kind_field = omega arith

  number_field : (2 ^ 31 * v + 2 ^ 27 * p + 2 ^ 24 * k + n) % 2 ^ 21 ≡ n
  number_field = omega arith

  reserved_code : 2 ^ 31 * v + 2 ^ 27 * p + 2 ^ 24 * k + n ≡ 2 ^ 27 → p ≡ 1
  reserved_code same = omega arith

pub entry_by-word_of : (pte : Pte) → IsPte pte → entry_by (word_of pte) ≡ pte
unfolding entry_by
entry_by-word_of pte fits =
    let v = valid_bit pte.place in
    let k = kind_bits pte.place in
    let n = number_bits pte.place in
    let small_v = valid_bit-lt pte.place in
    let small_k = kind_bits-lt pte.place in
    rw (
      top_field v pte.prot k n small_v fits.code.small small_k fits.number,
      code_field v pte.prot k n small_v fits.code.small small_k fits.number,
      kind_field v pte.prot k n small_v fits.code.small small_k fits.number,
      number_field v pte.prot k n small_v fits.code.small small_k fits.number,
      by_fields pte.place,
    ) refl

-- the word of an entry that the tables may have is one that they may keep
pub word_is_kept : (pte : Pte) (word : ℕ) → IsEntry pte → word ≡ word_of pte → IsKeptWord word
word_is_kept pte word entry is =
    let back : entry_by word ≡ pte = rw is (entry_by-word_of pte entry.fits) in
    record { is = rw back (rw is refl); entry = rw back entry }

pub entry_by-word : (pte : Pte) (word : ℕ) → IsEntry pte → word ≡ word_of pte → entry_by word ≡ pte
entry_by-word pte word entry is = rw is (entry_by-word_of pte entry.fits)

-- no entry's word is that of no entry
there : (pte : Pte) → IsPte pte → nat_eq (word_of pte) absent ≡ false
there pte fits =
    elim (eqb_tells (word_of pte) absent) [
      | inl same ↦
          absurd (fits.code.named
          (reserved_code (valid_bit pte.place) pte.prot (kind_bits pte.place) (number_bits pte.place)
          (valid_bit-lt pte.place) fits.code.small (kind_bits-lt pte.place) fits.number same.1))
      | inr other ↦ other.0
    ]

pub kept_by-word : (pte : Pte) (word : ℕ) → IsEntry pte → word ≡ word_of pte → kept_by word ≡ Some pte
kept_by-word pte word entry is = rw (is, there pte entry.fits) (ap (λ (e : Pte). Some e) (entry_by-word_of pte entry.fits))

-- what the word of an entry shows is that entry
pub shown : (o : Option Pte) (word : ℕ) → IfSome o IsEntry → Some word ≡ option_map word_of o → Entry (entry_by word) ≡ look_at o
shown None word kept is = absurd (let no : ⊥ = grind (arith, is) in no)
shown (Some pte) word kept is = ap Entry (entry_by-word pte word kept (grind (arith, is)))
