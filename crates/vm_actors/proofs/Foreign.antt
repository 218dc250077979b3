-- A journal that has the same entries of a seat as its beginning has no later entry of it.
use Rattle.std.proofs.Common.{◌≡◌, ℕ, ◌+◌, Bool, true, false, cond, List, [], ◌∷◌, ◌++◌, length, nat_eq, refl, sym, ap, ◌∙◌, arith, append_assoc, append-nil}
use Rattle.std.specs.List.{AllByRecursion}
use Rattle.std.proofs.lemmas.Bool.{eqb-true}
use Rattle.vm_journal.specs.declared.entry.Entry.{Entry}
use Rattle.vm_journal.specs.Own.{own_entries, own_from}
use Rattle.history_lock.proofs.Own.{own_from-append, own_more}

-- of another seat
abbrev pub IsForeign : ℕ → Entry → Type 0
IsForeign k e = nat_eq (e.seat).0 k ≡ false

one_foreign : (k : ℕ) (xs : List Entry) (e : Entry) → IsForeign k e → own_entries k (xs ++ e ∷ []) ≡ own_entries k xs
one_foreign k xs e is =
    let n : ℕ = 1 + length xs in
    own_from-append 1 k xs (e ∷ [])
    ∙ (ap (λ (b : Bool). own_from 1 k xs ++ cond b ((n, e) ∷ []) []) is ∙ append-nil (own_from 1 k xs))

all_foreign_by : (k : ℕ) (xs : List Entry) (e : Entry) (later : List Entry) → own_entries k (xs ++ e ∷ later) ≡ own_entries k xs
    → (own_entries k ((xs ++ e ∷ []) ++ later) ≡ own_entries k (xs ++ e ∷ []) → AllByRecursion (IsForeign k) later) → (b : Bool) → nat_eq (e.seat).0 k ≡ b → AllByRecursion (IsForeign k) (e ∷ later)
all_foreign_by k xs e later same rest true is = absurd (let more = own_more k xs e later (eqb-true (e.seat).0 k is) in omega (arith, more, ap length same))
all_foreign_by k xs e later same rest false is = (is, rest (ap (own_entries k) (append_assoc xs (e ∷ []) later) ∙ (same ∙ sym (one_foreign k xs e is))))

pub all_foreign : (k : ℕ) (xs later : List Entry) → own_entries k (xs ++ later) ≡ own_entries k xs → AllByRecursion (IsForeign k) later
all_foreign k xs [] same = tt
all_foreign k xs (e ∷ later) same = all_foreign_by k xs e later same (all_foreign k (xs ++ e ∷ []) later) (nat_eq (e.seat).0 k) refl
