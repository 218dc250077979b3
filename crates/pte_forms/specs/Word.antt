-- The word of a page table entry, as the sum of its fields. Source: VAX Architecture Reference Manual,
-- memory management, for the valid bit 31, the protection code 30:27, the modify bit 26 and the frame
-- 20:0 of a valid entry; the other kinds of place and their bits, and zeros in bits 25:21 of a valid
-- entry, are this project's own.
use Rattle.std.specs.Prelude.{◌≡◌, ℕ, true, false, ◌+◌, ◌*◌, ◌^◌, ◌<◌}
use Rattle.vm_types.specs.WellFormed.{IsCode}
use Rattle.pte_forms.specs.declared.pte.Pte.{Pte}
use Rattle.pte_forms.specs.declared.pte.Place.{Place}
use Rattle.pte_forms.specs.declared.pte.Place.TheVariants.{Valid, DemandZero, Transition, PageFile, SectionIndex, GlobalIndex, Swap}

-- bit 31
abbrev pub valid_bit : Place → ℕ
valid_bit (Valid modify frame) = 1
valid_bit DemandZero = 0
valid_bit (Transition frame) = 0
valid_bit (PageFile block) = 0
valid_bit (SectionIndex page) = 0
valid_bit (GlobalIndex page) = 0
valid_bit (Swap slot) = 0

-- bits 26:24; the modify bit is bit 26
abbrev pub kind_bits : Place → ℕ
kind_bits (Valid true frame) = 4
kind_bits (Valid false frame) = 0
kind_bits DemandZero = 0
kind_bits (Transition frame) = 1
kind_bits (PageFile block) = 2
kind_bits (SectionIndex page) = 3
kind_bits (GlobalIndex page) = 4
kind_bits (Swap slot) = 5

-- bits 20:0
abbrev pub number_bits : Place → ℕ
number_bits (Valid modify frame) = frame.0
number_bits DemandZero = 0
number_bits (Transition frame) = frame.0
number_bits (PageFile block) = block
number_bits (SectionIndex page) = page
number_bits (GlobalIndex page) = page
number_bits (Swap slot) = slot

-- the word of an entry; bits 30:27 are the protection code, and bits 23:21 are zero
abbrev pub word_of : Pte → ℕ
word_of pte = 2 ^ 31 * valid_bit pte.place + 2 ^ 27 * pte.prot + 2 ^ 24 * kind_bits pte.place + number_bits pte.place

-- the code and the number fit their fields, and the code isn't the reserved one
pub record IsPte (pte : Pte) : Type 0 where
  pub code : IsCode pte.prot
  pub number : number_bits pte.place < 2 ^ 21

-- the word stands for an entry
abbrev pub IsWord : ℕ → Type 0
IsWord word = (pte : Pte) × IsPte pte × (word_of pte ≡ word)

-- a place by its three fields
pub record HasFields (place : Place) (valid kind number : ℕ) : Type 0 where
  pub valid_is : valid_bit place ≡ valid
  pub kind_is : kind_bits place ≡ kind
  pub number_is : number_bits place ≡ number

-- entries with one word are the same
abbrev pub WordsAreApart : Type 0
WordsAreApart = (p q : Pte) → IsPte p → IsPte q → word_of p ≡ word_of q → p ≡ q
