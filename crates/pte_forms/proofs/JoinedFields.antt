-- Fields that are shifted and joined by "or" add up to the word.
use Rattle.std.proofs.Common.{◌≡◌, ℕ, true, false, ◌+◌, ◌*◌, ◌%◌, ◌^◌, ◌<◌, bit_or, arith}
use Rattle.std.proofs.lemmas.Nat.{or_shifted}
use Rattle.pte_forms.specs.Word.{IsPte, valid_bit, kind_bits, number_bits, word_of}
use Rattle.pte_forms.specs.declared.pte.Pte.{Pte}
use Rattle.pte_forms.specs.declared.pte.Place.{Place}
use Rattle.pte_forms.specs.declared.pte.Place.TheVariants.{Valid, DemandZero, Transition, PageFile, SectionIndex, GlobalIndex, Swap}

pub valid_bit-lt : (place : Place) → valid_bit place < 2
valid_bit-lt (Valid modify frame) = omega arith
valid_bit-lt DemandZero = omega arith
valid_bit-lt (Transition frame) = omega arith
valid_bit-lt (PageFile block) = omega arith
valid_bit-lt (SectionIndex page) = omega arith
valid_bit-lt (GlobalIndex page) = omega arith
valid_bit-lt (Swap slot) = omega arith

pub kind_bits-lt : (place : Place) → kind_bits place < 8
kind_bits-lt (Valid true frame) = omega arith
kind_bits-lt (Valid false frame) = omega arith
kind_bits-lt DemandZero = omega arith
kind_bits-lt (Transition frame) = omega arith
kind_bits-lt (PageFile block) = omega arith
kind_bits-lt (SectionIndex page) = omega arith
kind_bits-lt (GlobalIndex page) = omega arith
kind_bits-lt (Swap slot) = omega arith

joined_fields : (v p k n : ℕ) → v < 2 → p < 16 → k < 8 → n < 2 ^ 21
    → bit_or (bit_or (bit_or (v * 16 % 2 ^ 32) p * 2 ^ 27 % 2 ^ 32) (k * 2 ^ 24 % 2 ^ 32)) n
    ≡ 2 ^ 31 * v + 2 ^ 27 * p + 2 ^ 24 * k + n
joined_fields v p k n small_v small_p small_k small_n =
    let valid : v * 16 % 2 ^ 32 ≡ v * 2 ^ 4 = omega arith in
    let upper : bit_or (v * 16 % 2 ^ 32) p ≡ v * 2 ^ 4 + p = rw valid (or_shifted v 4 p small_p) in
    let shifted : bit_or (v * 16 % 2 ^ 32) p * 2 ^ 27 % 2 ^ 32 ≡ (v * 2 ^ 4 + p) * 2 ^ 27 = rw upper (omega arith) in
    let kind : k * 2 ^ 24 % 2 ^ 32 ≡ k * 2 ^ 24 = omega arith in
    let with_kind : bit_or ((v * 2 ^ 4 + p) * 2 ^ 27) (k * 2 ^ 24) ≡ (v * 2 ^ 4 + p) * 2 ^ 27 + k * 2 ^ 24 =
    or_shifted (v * 2 ^ 4 + p) 27 (k * 2 ^ 24) (omega arith) in
    let whole : (v * 2 ^ 4 + p) * 2 ^ 27 + k * 2 ^ 24 ≡ ((v * 2 ^ 4 + p) * 8 + k) * 2 ^ 24 = omega arith in
    let with_number : bit_or (((v * 2 ^ 4 + p) * 8 + k) * 2 ^ 24) n ≡ ((v * 2 ^ 4 + p) * 8 + k) * 2 ^ 24 + n =
    or_shifted ((v * 2 ^ 4 + p) * 8 + k) 24 n (omega arith) in
    rw (shifted, kind, with_kind, whole, with_number) (omega arith)

-- the word of an entry, from its fields
pub joined_word : (pte : Pte) → IsPte pte
    → bit_or (bit_or (bit_or (valid_bit pte.place * 16 % 2 ^ 32) pte.prot * 2 ^ 27 % 2 ^ 32) (kind_bits pte.place * 2 ^ 24 % 2 ^ 32)) (number_bits pte.place)
    ≡ word_of pte
joined_word pte fits =
    joined_fields (valid_bit pte.place) pte.prot (kind_bits pte.place) (number_bits pte.place)
    (valid_bit-lt pte.place) fits.code.small (kind_bits-lt pte.place) fits.number
