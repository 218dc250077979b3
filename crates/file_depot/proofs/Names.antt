-- Blocks with one name are one block.
use Rattle.std.proofs.Common.{◌≡◌, ℕ, ◌^◌, ◌<◌, List, ◌∷◌, ◌++◌, get_or, ap, refl, arith}
use Rattle.std.specs.Prelude.{All, decimal}
use Rattle.std.proofs.lemmas.Fmt.{decimal_injective}
use Rattle.std.proofs.lemmas.List.{get_or_default}
use Rattle.vm_types.specs.declared.names.BlockId.TheVariants.{Section, PageFile, Swap}
use Rattle.vm_types.specs.declared.names.Proc.{Proc}
use Rattle.vm_types.specs.declared.names.SecId.{SecId}
use Rattle.vm_text.specs.Spaced.{IsOther}
use Rattle.vm_text.proofs.Cutting.{cut_same}
use Rattle.vm_text.proofs.Decimals.{byte_in}
use Rattle.file_depot.specs.FileName.{AreOneToOne}

abbrev first_byte : List ℕ → ℕ
first_byte text = get_or text 0 0

-- no digit is the byte between the numbers
no_line : (n : ℕ) → n < 2 ^ 32 → All (IsOther 95) (decimal n)
no_line n few i d within e =
    let range = byte_in (decimal n) n (omega arith) refl i within in
    let low = range.0 in
    let high = range.1 in
    let same = get_or_default (decimal n) i d 0 within in
    absurd (omega arith)

-- two numbers with a byte between them that is no digit
both_same : (a b a' b' : ℕ) → a < 2 ^ 32 → b < 2 ^ 32 → a' < 2 ^ 32 → b' < 2 ^ 32 → decimal a ++ 95 ∷ decimal b ≡ decimal a' ++ 95 ∷ decimal b' → (a ≡ a') × (b ≡ b')
both_same a b a' b' few few_b few' few_b' e =
    let parts = cut_same 95 (decimal a) (decimal b) (decimal a') (decimal b') (no_line a few) (no_line a' few') e in
    (decimal_injective a a' (omega arith) (omega arith) parts.0, decimal_injective b b' (omega arith) (omega arith) parts.1)

same_proc : (p q : Proc) → p.0 ≡ q.0 → p ≡ q
same_proc p q e = let make : ℕ → Proc = λ n. record { 0 = n } in ap make e

same_section : (s t : SecId) → s.0 ≡ t.0 → s ≡ t
same_section s t e = let make : ℕ → SecId = λ n. record { 0 = n } in ap make e

-- the bytes behind the first one
behind : (b c : ℕ) (xs ys : List ℕ) → b ∷ xs ≡ c ∷ ys → xs ≡ ys
behind b c xs ys e = cc

pub one_to_one : AreOneToOne
one_to_one (Section s page) (Section t other) few few' e =
    let same = both_same s.0 page t.0 other few.0 few.1 few'.0 few'.1 (behind 115 115 _ _ e) in
    (λ i. Section (same_section s t same.0 i) (same.1 i))
one_to_one (PageFile b) (PageFile c) few few' e = ap PageFile (decimal_injective b c (omega (arith, few)) (omega (arith, few')) (behind 112 112 _ _ e))
one_to_one (Swap p slot) (Swap q other) few few' e =
    let same = both_same p.0 slot q.0 other few.0 few.1 few'.0 few'.1 (behind 120 120 _ _ e) in
    (λ i. Swap (same_proc p q same.0 i) (same.1 i))
one_to_one (Section s page) (PageFile c) few few' e = absurd (omega (arith, ap first_byte e))
one_to_one (Section s page) (Swap q other) few few' e = absurd (omega (arith, ap first_byte e))
one_to_one (PageFile b) (Section t other) few few' e = absurd (omega (arith, ap first_byte e))
one_to_one (PageFile b) (Swap q other) few few' e = absurd (omega (arith, ap first_byte e))
one_to_one (Swap p slot) (Section t other) few few' e = absurd (omega (arith, ap first_byte e))
one_to_one (Swap p slot) (PageFile c) few few' e = absurd (omega (arith, ap first_byte e))
