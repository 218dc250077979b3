-- What a pass has while it gives the value back.
use Rattle.std.proofs.Common.{◌≡◌, ℕ, ◌+◌, ◌-◌, [], ◌∷◌, List, length, Option, Some, None, ap, ◌∙◌, arith, length-append}
use mathlib.Core.Option.{none}
use Rattle.atomic_table.specs.Table.{Me, step, rest}
use Rattle.vm_journal.specs.declared.entry.Entry.{Entry}
use Rattle.history_lock.specs.declared.view.View.{View}
use Rattle.history_lock.specs.declared.stage.Stage.TheVariants.{Idle, Holding, Published}
use Rattle.history_lock.specs.Known.{Adds}
use Rattle.history_lock.specs.Views.{ticket}
use Rattle.history_lock.specs.Plays.{held, published, passed}

-- the entries that a turn has added
pub counts : {B : Type 0} (v w : View B) (found : ℕ) (journal entries : List Entry) → w ≡ v → Adds v journal → found ≡ length v.seen → entries ≡ journal → (length entries - found) + length w.seen ≡ length journal
counts {B} v w found journal entries now adds is same = omega (arith, ap length adds.1, length-append v.seen adds.0, ap length same, ap (λ (x : View B). length x.seen) now)

module _ {T B : Type 0} (journal : T → List Entry) (base : T → B) where
  abbrev M : Type 0
  M = Me (Option T) (View B)

  -- the value is in the slot again
  pub put : (m₀ m₁ : M) (value : T) → m₀.1 ≡ (0, None) ∷ [] → m₁ ≡ (m₀.0, (0, Some value) ∷ rest m₀.1) → m₁ ≡ (m₀.0, (0, Some value) ∷ [])
  put m₀ m₁ value empty e = e ∙ ap (λ l. (m₀.0, (0, Some value) ∷ rest l)) empty

  -- the new length is published
  pub told : (m₀ m₁ m₂ : M) (value : T) (t r : ℕ) → m₀.0.stage ≡ Holding t → m₀.1 ≡ (0, None) ∷ [] → m₁ ≡ (m₀.0, (0, Some value) ∷ rest m₀.1) → published journal (step 0 0 0 0 none) m₁ r m₂
      → m₂ ≡ (record m₀.0 { stage = Published t; seen = journal value }, (0, Some value) ∷ [])
  told m₀ m₁ m₂ value t r holds empty e p = p ∙ (ap (λ (m : M). (record m.0 { stage = Published (ticket m.0.stage); seen = held journal m.1 }, m.1)) (put m₀ m₁ value empty e)
      ∙ ap (λ s. (record m₀.0 { stage = Published (ticket s); seen = journal value }, (0, Some value) ∷ [])) holds)

  -- the turn is over
  pub over : (m₀ m₁ m₂ m₃ : M) (value : T) (t r q : ℕ) → m₀.0.stage ≡ Holding t → m₀.1 ≡ (0, None) ∷ [] → m₁ ≡ (m₀.0, (0, Some value) ∷ rest m₀.1) → published journal (step 0 0 0 0 none) m₁ r m₂
      → passed (step 0 0 0 0 none) m₂ q m₃ → m₃ ≡ (record m₀.0 { stage = Idle; seen = journal value }, [])
  over m₀ m₁ m₂ m₃ value t r q holds empty e p o = o ∙ ap (λ (m : M). (record m.0 { stage = Idle }, rest m.1)) (told m₀ m₁ m₂ value t r holds empty e p)
