-- The entries of one seat, in a journal and in its beginnings.
use Rattle.std.proofs.Common.{◌≡◌, ℕ, ◌+◌, ◌<◌, ◌≢◌, List, [], ◌∷◌, ◌++◌, length, nat_eq, cond, true, false, refl, sym, ap, ◌∙◌, subst, arith, append-nil, length-append, eq-eqb, ne_eqb, All, suc}
use mathlib.Core.List.{IsPrefix}
use Rattle.vm_journal.specs.declared.entry.Entry.{Entry}
use Rattle.vm_journal.specs.Own.{own_from, own_entries}
use Rattle.history_lock.proofs.Prefixes.{prefix_both}

before : {A : Type 0} (b : _) (x : A) (xs ys zs : List A) → xs ≡ ys ++ zs → cond b (x ∷ xs) xs ≡ cond b (x ∷ ys) ys ++ zs
before true x xs ys zs e = ap (λ l. x ∷ l) e
before false x xs ys zs e = e

pub own_from-append : (n k : ℕ) (xs ys : List Entry) → own_from n k (xs ++ ys) ≡ own_from n k xs ++ own_from (n + length xs) k ys
own_from-append n k [] ys = ap (λ (m : ℕ). own_from m k ys) (omega arith)
own_from-append n k (x ∷ xs) ys = let shift : (n + 1) + length xs ≡ n + length (x ∷ xs) = omega arith in
    let e = own_from-append (n + 1) k xs ys ∙ ap (λ (m : ℕ). own_from (n + 1) k xs ++ own_from m k ys) shift in
    before (nat_eq ((x.seat).0) k) (n, x) (own_from (n + 1) k (xs ++ ys)) (own_from (n + 1) k xs) (own_from (n + length (x ∷ xs)) k ys) e

-- a longer journal has at least the entries of a shorter one
pub own_begins : (k : ℕ) (xs ys : List Entry) → IsPrefix xs ys → IsPrefix (own_entries k xs) (own_entries k ys)
own_begins k xs ys p = (own_from (1 + length xs) k p.0, sym (own_from-append 1 k xs p.0) ∙ ap (own_from 1 k) p.1)

-- no entry of the seat
pub own_from-none : (n k : ℕ) (xs : List Entry) → All (λ e. (e.seat).0 ≢ k) xs → own_from n k xs ≡ []
own_from-none n k [] a = refl
own_from-none n k (x ∷ xs) a = let first : (x.seat).0 ≢ k = a 0 x (omega arith) in
    ap (λ b. cond b ((n, x) ∷ own_from (n + 1) k xs) (own_from (n + 1) k xs)) (ne_eqb ((x.seat).0) k first)
    ∙ own_from-none (n + 1) k xs (λ i d l. a (suc i) d (omega arith))

-- entries of other seats leave a seat's own entries
pub own_same : (k : ℕ) (xs later ys : List Entry) → xs ++ later ≡ ys → All (λ e. (e.seat).0 ≢ k) later → own_entries k ys ≡ own_entries k xs
own_same k xs later ys e a = ap (own_from 1 k) (sym e) ∙ (own_from-append 1 k xs later ∙ (ap (λ (l : List (ℕ × Entry)). own_from 1 k xs ++ l) (own_from-none (1 + length xs) k later a) ∙ append-nil (own_from 1 k xs)))

-- between two journals that have the same entries of a seat, each has the same
pub own_between : (k : ℕ) (xs ys zs : List Entry) → IsPrefix xs ys → IsPrefix ys zs → own_entries k zs ≡ own_entries k xs → own_entries k zs ≡ own_entries k ys
own_between k xs ys zs p q e = prefix_both (own_entries k zs) (own_entries k ys)
    (subst (λ (l : List (ℕ × Entry)). IsPrefix l (own_entries k ys)) (sym e) (own_begins k xs ys p)) (own_begins k ys zs q)

-- a later entry of the seat is among its own entries
pub own_more : (k : ℕ) (xs : List Entry) (x : Entry) (later : List Entry) → (x.seat).0 ≡ k → length (own_entries k xs) < length (own_entries k (xs ++ x ∷ later))
own_more k xs x later e = let n : ℕ = 1 + length xs in
    let more : own_from n k (x ∷ later) ≡ (n, x) ∷ own_from (n + 1) k later = ap (λ b. cond b ((n, x) ∷ own_from (n + 1) k later) (own_from (n + 1) k later)) (eq-eqb ((x.seat).0) k e) in
    let whole : own_entries k (xs ++ x ∷ later) ≡ own_entries k xs ++ ((n, x) ∷ own_from (n + 1) k later) = own_from-append 1 k xs (x ∷ later) ∙ ap (λ (l : List (ℕ × Entry)). own_from 1 k xs ++ l) more in
    omega (arith, ap length whole, length-append (own_entries k xs) ((n, x) ∷ own_from (n + 1) k later))
