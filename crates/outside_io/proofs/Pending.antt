-- Bytes that were read and not handed out, in front of those that the source has left.
use Rattle.std.proofs.Common.{◌≡◌, ℕ, suc, ◌+◌, ◌-◌, ◌<◌, ◌≤◌, true, false, ◌==◌, List, [], ◌∷◌, ◌++◌, length, take, drop, get_or, get_or-take, slice_index, Option, Some, None, refl, sym, ap, subst, ◌∙◌, arith, eq-eqb, length-take, take-append-drop}
use Rattle.std.specs.Io.KnownBytes.{prepend_known, IsAtEnd, Keeps}
use Rattle.std.proofs.lemmas.Bool.{eqb-true}
use Rattle.std.proofs.lemmas.List.{drop-drop, drop-take, drop_all, get_or_default, length-take-le, take-take, take_all}
use Rattle.std.proofs.Math.Seq.{drop-cons}
use Rattle.memchr.specs.Find.{IsFirstByte, is_byte}
use Rattle.outside_io.specs.BytesLeft.{IsHeldTaken, pending}
use Rattle.outside_io.specs.HandedOut.{IsInLine}

pub none_pending : (buffer : List ℕ) (next filled : ℕ) → next ≡ filled → filled ≤ length buffer → pending buffer next filled ≡ []
none_pending buffer next filled e room = drop_all next (take filled buffer) (omega (arith, length-take-le filled buffer room))

prepended : (xs ys : List ℕ) (left new : Option (List ℕ)) → xs ≡ ys → Keeps left new → Keeps (prepend_known xs left) (prepend_known ys new)
prepended xs ys None new e k = tt
prepended xs ys (Some bs) None e k = absurd k
prepended xs ys (Some bs) (Some cs) e k = ap (λ (zs : List ℕ). ys ++ zs) k ∙ ap (λ (zs : List ℕ). zs ++ bs) (sym e)

-- a failed read leaves what there was
pub keeps_none : (old new : List ℕ) (next filled : ℕ) (left rest : Option (List ℕ)) → next ≡ filled → filled ≤ length old → filled ≤ length new → Keeps left rest
    → Keeps (prepend_known (pending old next filled) left) (prepend_known (pending new next filled) rest)
keeps_none old new next filled left rest e room space k =
    prepended (pending old next filled) (pending new next filled) left rest (none_pending old next filled e room ∙ sym (none_pending new next filled e space)) k

pub keeps_same : (left : Option (List ℕ)) → Keeps left left
keeps_same None = tt
keeps_same (Some bytes) = refl

-- nothing is left where nothing is pending and the source is at its end
pub none_left : (buffer : List ℕ) (next filled : ℕ) (left : Option (List ℕ)) → next ≡ filled → filled ≤ length buffer → IsAtEnd left → IsAtEnd (prepend_known (pending buffer next filled) left)
none_left buffer next filled None e room end = tt
none_left buffer next filled (Some bytes) e room end = let none = none_pending buffer next filled e room in λ i. none i ++ end i

-- ---- a part of a line, as far as its byte 10 or all of it
no_end : (text : List ℕ) (n : ℕ) → n ≤ length text → ((k : ℕ) → 0 ≤ k → k < n → (slice_index text k == 10) ≡ true → ⊥) → IsInLine (take n text)
no_end text n within none k d lt e =
    let below : k < n = omega (arith, lt, length-take-le n text within) in
    none k (omega arith) below
    (eq-eqb (slice_index text k) 10 (sym (get_or_default text k d 0 (omega (arith, below, within))) ∙ sym (get_or-take n text k d below) ∙ e))

-- the first n of a front of these bytes
fronted : (held : List ℕ) (room n : ℕ) → n ≤ length (take room held) → take n (take room held) ≡ take n held
fronted held room n within = take-take n room held (omega (arith, within, length-take room held))

line_of : (read : List ℕ) (next room n after : ℕ) (out longer : List ℕ) → IsFirstByte (is_byte 10) (take room (drop next read)) (Some n)
    → longer ≡ out ++ take n (take room (drop next read)) → after ≡ next + (n + 1) → IsHeldTaken true (drop next read) out (drop after read) longer
line_of read next room n after out longer first put moved = record {
  part = take n text;
  in_line = no_end text n (omega (arith, first.0.high)) first.0.before;
  put = put;
  off =
      sym (take-append-drop n held)
      ∙ ap (λ (xs : List ℕ). xs ++ drop n held) (sym (fronted held room n (omega (arith, first.0.high))))
      ∙ ap (λ (xs : List ℕ). take n text ++ xs) (drop-cons held n 0 (omega (arith, inside, length-take room held)) ∙ (λ i. byte i ∷ behind i));
}
  where
    held : List ℕ
    held = drop next read

    text : List ℕ
    text = take room held

    inside : n < length text
    inside = first.0.high

    byte : get_or held n 0 ≡ 10
    byte = sym (get_or-take room held n 0 (omega (arith, inside, length-take room held))) ∙ eqb-true (slice_index text n) 10 first.1

    behind : drop (suc n) held ≡ drop after read
    behind = drop-drop (suc n) next read ∙ ap (λ (k : ℕ). drop k read) (omega (arith, moved))

part_of : (read : List ℕ) (next room after : ℕ) (out longer : List ℕ) → IsFirstByte (is_byte 10) (take room (drop next read)) None
    → longer ≡ out ++ take room (drop next read) → after ≡ next + length (take room (drop next read)) → IsHeldTaken false (drop next read) out (drop after read) longer
part_of read next room after out longer none put moved = record {
  part = text;
  in_line = subst IsInLine (take_all n text (omega arith)) (no_end text n (omega arith) none);
  put = put;
  off =
      sym (take-append-drop n held)
      ∙ ap (λ (xs : List ℕ). xs ++ drop n held) (sym (fronted held room n (omega arith)) ∙ take_all n text (omega arith))
      ∙ ap (λ (xs : List ℕ). text ++ xs) (drop-drop n next read ∙ ap (λ (k : ℕ). drop k read) (sym moved));
}
  where
    held : List ℕ
    held = drop next read

    text : List ℕ
    text = take room held

    n : ℕ
    n = length text

-- what was read from one place to another, as a slice has it
pub slice_of : (buffer : List ℕ) (next filled : ℕ) → next ≤ filled → take (filled - next) (drop next buffer) ≡ drop next (take filled buffer)
slice_of buffer next filled le =
    let whole : next + (filled - next) ≡ filled = omega (arith, le) in
    sym (drop-take next (filled - next) buffer) ∙ ap (λ (k : ℕ). drop next (take k buffer)) whole

pub taken_line : (read : List ℕ) (next room n after : ℕ) (out longer held : List ℕ) → held ≡ drop next read → IsFirstByte (is_byte 10) (take room held) (Some n)
    → longer ≡ out ++ take n (take room held) → after ≡ next + (n + 1) → IsHeldTaken true (drop next read) out (drop after read) longer
taken_line read next room n after out longer held is first put moved =
    line_of read next room n after out longer (subst (λ (xs : List ℕ). IsFirstByte (is_byte 10) (take room xs) (Some n)) is first)
    (put ∙ ap (λ (xs : List ℕ). out ++ take n (take room xs)) is) moved

pub taken_part : (read : List ℕ) (next room after : ℕ) (out longer held : List ℕ) → held ≡ drop next read → IsFirstByte (is_byte 10) (take room held) None
    → longer ≡ out ++ take room held → after ≡ next + length (take room held) → IsHeldTaken false (drop next read) out (drop after read) longer
taken_part read next room after out longer held is none put moved =
    part_of read next room after out longer (subst (λ (xs : List ℕ). IsFirstByte (is_byte 10) (take room xs) None) is none)
    (put ∙ ap (λ (xs : List ℕ). out ++ take room xs) is) (moved ∙ ap (λ (xs : List ℕ). next + length (take room xs)) is)
