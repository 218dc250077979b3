-- Beginnings of lists, and the longer of two journals.
use Rattle.std.proofs.Common.{◌≡◌, ◌≤◌, List, [], ◌∷◌, ◌++◌, length, nat_lt, cond, true, false, refl, sym, ap, ◌∙◌, arith, append_assoc, append-nil, length-append, ltb-true, ltb-false}
use mathlib.Core.List.{IsPrefix}
use Rattle.vm_journal.specs.declared.entry.Entry.{Entry}
use Rattle.history_lock.specs.Views.{longer}

module _ {A : Type 0} where
  pub prefix_self : (xs : List A) → IsPrefix xs xs
  prefix_self xs = ([], append-nil xs)

  pub prefix_trans : (xs ys zs : List A) → IsPrefix xs ys → IsPrefix ys zs → IsPrefix xs zs
  prefix_trans xs ys zs p q = (p.0 ++ q.0, sym (append_assoc xs p.0 q.0) ∙ (ap (λ (l : List A). l ++ q.0) p.1 ∙ q.1))

  pub prefix_length : (xs ys : List A) → IsPrefix xs ys → length xs ≤ length ys
  prefix_length xs ys p = omega (arith, ap length p.1, length-append xs p.0)

  -- of two beginnings of one list the shorter begins the other
  pub prefix_shorter : (xs ys zs : List A) → IsPrefix xs zs → IsPrefix ys zs → length xs ≤ length ys → IsPrefix xs ys
  prefix_shorter [] ys zs p q le = (ys, refl)
  prefix_shorter (x ∷ xs) [] zs p q le = absurd (omega arith)
  prefix_shorter (x ∷ xs) (y ∷ ys) [] p q le = absurd (cc (p.1))
  prefix_shorter (x ∷ xs) (y ∷ ys) (z ∷ zs) p q le =
      let heads : x ≡ y = cc (p.1, q.1) in
      let r = prefix_shorter xs ys zs (p.0, cc (p.1)) (q.0, cc (q.1)) (omega arith) in
      (r.0, cc (heads, r.1))

  -- two lists that begin each other are one
  pub prefix_both : (xs ys : List A) → IsPrefix xs ys → IsPrefix ys xs → xs ≡ ys
  prefix_both [] [] p q = refl
  prefix_both [] (y ∷ ys) p q = absurd (cc (q.1))
  prefix_both (x ∷ xs) [] p q = absurd (cc (p.1))
  prefix_both (x ∷ xs) (y ∷ ys) p q =
      let heads : x ≡ y = cc (p.1) in
      let r = prefix_both xs ys (p.0, cc (p.1)) (q.0, cc (q.1)) in cc (heads, r)

longer_at : (b : _) (P : List Entry → Type 0) (xs ys : List Entry) → P xs → P ys → P (cond b ys xs)
longer_at true P xs ys p q = q
longer_at false P xs ys p q = p

-- what holds of two journals holds of the longer
pub longer_has : (P : List Entry → Type 0) (xs ys : List Entry) → P xs → P ys → P (longer xs ys)
longer_has P xs ys p q = longer_at (nat_lt (length xs) (length ys)) P xs ys p q

longer_from : (xs ys zs : List Entry) → IsPrefix xs zs → IsPrefix ys zs → (b : _) → nat_lt (length xs) (length ys) ≡ b → IsPrefix xs (cond b ys xs) × IsPrefix ys (cond b ys xs)
longer_from xs ys zs p q true e = (prefix_shorter xs ys zs p q (omega (arith, ltb-true _ _ e)), prefix_self ys)
longer_from xs ys zs p q false e = (prefix_self xs, prefix_shorter ys xs zs q p (omega (arith, ltb-false _ _ e)))

-- of two beginnings of one journal both begin the longer
pub longer_begins : (xs ys zs : List Entry) → IsPrefix xs zs → IsPrefix ys zs → IsPrefix xs (longer xs ys) × IsPrefix ys (longer xs ys)
longer_begins xs ys zs p q = longer_from xs ys zs p q (nat_lt (length xs) (length ys)) refl
