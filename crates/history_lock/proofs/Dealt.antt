-- The passes that are cut from the first one.
use Rattle.std.proofs.Common.{◌≡◌, ℕ, zero, suc, ◌+◌, ◌-◌, ◌<◌, List, [], ◌∷◌, refl, sym, ap, ◌∙◌, arith, Contains}
use Rattle.std.specs.List.{range_with_len}
use Rattle.atomic_table.specs.Table.{Splits}
use Rattle.vm_journal.specs.declared.entry.Entry.{Entry}
use Rattle.history_lock.specs.declared.view.View.{View}
use Rattle.history_lock.specs.Views.{unseen, kept, given}
use Rattle.history_lock.proofs.Facts.{Rule}
use Rattle.history_lock.proofs.Ranges.{in_range}
use Rattle.history_lock.proofs.Split.{splits}

module _ {T B : Type 0} (journal : T → List Entry) (base : T → B) (b : B) (seats : ℕ) where
  cuts_at : (id i m : ℕ) (v : View B) (o : B) → v ≡ unseen (range_with_len i m) o → 1 < m → Splits (Rule journal base b seats) id v (kept v) (given v)
  cuts_at id i zero v o e l = absurd (omega arith)
  cuts_at id i (suc zero) v o e l = absurd (omega arith)
  cuts_at id i (suc (suc m)) v o e l = splits journal base b seats id i (i + 1) (range_with_len (i + 1 + 1) m) v o e (λ (h : Contains (range_with_len (i + 1) (suc m)) i). let t = (in_range (i + 1) (suc m) i h).0 in absurd (omega arith))

  pub cuts : (id i m : ℕ) (v : View B) (o : B) → v ≡ unseen (range_with_len i m) o → 1 < m → Splits (Rule journal base b seats) id v (kept v) (given v)
  cuts id i m v o e l = cuts_at id i m v o e l

module _ {B : Type 0} where
  first_at : (i m : ℕ) (o : B) → 0 < m → kept (unseen (range_with_len i m) o) ≡ unseen (i ∷ []) o
  first_at i zero o l = absurd (omega arith)
  first_at i (suc m) o l = refl

  others_at : (i m : ℕ) (o : B) → 0 < m → given (unseen (range_with_len i m) o) ≡ unseen (range_with_len (i + 1) (m - 1)) o
  others_at i zero o l = absurd (omega arith)
  others_at i (suc m) o l = let e : m ≡ suc m - 1 = omega arith in ap (λ (k : ℕ). unseen (range_with_len (i + 1) k) o) e

  pub first_one : (i m : ℕ) (v : View B) (o : B) → v ≡ unseen (range_with_len i m) o → 0 < m → kept v ≡ unseen (i ∷ []) o
  first_one i m v o e l = ap kept e ∙ first_at i m o l

  pub others : (i j m n : ℕ) (v : View B) (o : B) → v ≡ unseen (range_with_len i m) o → 0 < m → j ≡ i + 1 → n + 1 ≡ m → given v ≡ unseen (range_with_len j n) o
  others i j m n v o e l e₁ e₂ = ap given e ∙ (others_at i m o l ∙ (let e₃ : m - 1 ≡ n = omega arith in λ k. unseen (range_with_len (sym e₁ k) (e₃ k)) o))

  -- the last pass has one number
  pub last_one : (i m : ℕ) (v : View B) (o : B) → v ≡ unseen (range_with_len i m) o → m ≡ 1 → v ≡ unseen (i ∷ []) o
  last_one i m v o e is = e ∙ ap (λ (k : ℕ). unseen (range_with_len i k) o) is
