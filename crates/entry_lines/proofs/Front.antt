-- The first word of a text, by where it ends.
use Rattle.std.proofs.Common.{◌≡◌, ℕ, suc, ◌+◌, ◌*◌, ◌^◌, ◌<◌, ◌≤◌, List, [], ◌∷◌, ◌++◌, length, get_or, All, take, sym, ◌∙◌, ap, subst, arith, add-one}
use Rattle.std.specs.Prelude.{decimal, drop}
use Rattle.std.specs.Str.Parse.{digits_value}
use Rattle.std.proofs.lemmas.List.{take_all, take-append-drop, length-take-le, get_or-take}
use Rattle.std.proofs.Math.Nat.{pow-le-pow_right, pow-succ'}
use Rattle.std.proofs.Math.Seq.{drop-cons}
use Rattle.vm_text.specs.Names.{frame_text}
use Rattle.vm_text.specs.Spaced.{IsOther, words}
use Rattle.vm_text.proofs.Decimals.{IsReadSoFar, spells}
use Rattle.vm_text.proofs.Splitting.{words_none, words_at}
use Rattle.entry_lines.specs.Front.{EndsWord, IsFront}

-- a blank is behind it
pub word_before : (text : List ℕ) (end : ℕ) → EndsWord text end → All (IsOther 32) (take end text) → end < length text
    → words text ≡ take end text ∷ words (drop (end + 1) text)
word_before text end ends other lt =
    let next : get_or text end 0 ≡ 32 = ends.blank lt in
    let parts : drop end text ≡ 32 ∷ drop (suc end) text = drop-cons text end 0 lt ∙ ap (λ (b : ℕ). b ∷ drop (suc end) text) next in
    let whole : text ≡ take end text ++ 32 ∷ drop (suc end) text = sym (take-append-drop end text) ∙ ap (λ (back : List ℕ). take end text ++ back) parts in
    rw add-one (ap words whole ∙ words_at (take end text) (drop (suc end) text) other)

-- it is all of the text
pub word_alone : (text : List ℕ) (end : ℕ) → All (IsOther 32) (take end text) → length text ≤ end → words text ≡ take end text ∷ []
word_alone text end other past = ap words (sym (take_all end text past)) ∙ words_none (take end text) other

-- a number of at most 18 digits has room for one more
pub within_18 : (digits : ℕ) → digits ≤ 18 → 10 ^ digits ≤ 1000000000000000000
within_18 digits h = pow-le-pow_right {n = 10} (omega arith) {i = digits} {j = 18} h

pub one_more : (digits v d : ℕ) → v < 10 ^ digits → d < 10 → 10 * v + d < 10 ^ (digits + 1)
one_more digits v d small digit = rw (add-one, pow-succ' 10 digits) (omega arith)

-- the first bytes of a text spell the number that was read of them
pub spelled : (text : List ℕ) (end n : ℕ) → IsReadSoFar text end n → end ≤ length text → 0 < end → (get_or text 0 0 ≡ 48 → end ≤ 1) → n < 2 ^ 64
    → take end text ≡ decimal n
spelled text end n so_far within some first small =
    let long : length (take end text) ≡ end = length-take-le end text within in
    let front : get_or (take end text) 0 0 ≡ get_or text 0 0 = get_or-take end text 0 0 some in
    let is : n ≡ digits_value 10 (take end text) = so_far.same in
    sym (ap decimal is
    ∙ spells (take end text) so_far.digits (omega arith) (λ e. let few : end ≤ 1 = first (sym front ∙ e) in omega arith) (subst (λ v. v < 2 ^ 64) is small))

-- a frame's number is behind its letter
pub lettered : (text rest : List ℕ) (end n : ℕ) → text ≡ 70 ∷ rest → IsFront (decimal n) end rest → IsFront (frame_text n) (end + 1) text
lettered text rest end n is front =
    rw (is, add-one) (record {
      same = ap (λ (digits : List ℕ). 70 ∷ digits) front.same;
      ends = record {
        within = omega (arith, front.ends.within);
        blank = λ lt. front.ends.blank (omega arith);
      };
    })
