-- What a pass has once its turn has come, and once the turn is over.
use Rattle.std.proofs.Common.{◌≡◌, ℕ, ◌%◌, [], ◌∷◌, List, Option, Some, None, IsSome, sym, refl, ap, ◌∙◌, subst}
use mathlib.Core.Option.{none}
use Rattle.atomic_table.specs.Table.{Me, step, rest}
use Rattle.vm_journal.specs.declared.entry.Entry.{Entry}
use Rattle.history_lock.specs.declared.view.View.{View}
use Rattle.history_lock.specs.declared.stage.Stage.TheVariants.{Waiting, Holding}
use Rattle.history_lock.specs.Known.{Known}
use Rattle.history_lock.specs.Views.{ticket}
use Rattle.history_lock.specs.Plays.{looked}

abbrev front_of : {T : Type 0} → List (ℕ × Option T) → Option T
front_of [] = None
front_of (x ∷ xs) = x.1

-- the value in a slot
pub same_value : {T : Type 0} (slots more : List (ℕ × Option T)) (o : Option T) (value : T) → slots ≡ (0, Some value) ∷ more → slots ≡ (0, o) ∷ rest slots → o ≡ Some value
same_value slots more o value e d = sym (ap front_of d) ∙ ap front_of e

pub front : {T : Type 0} (slots more : List (ℕ × Option T)) (o : Option T) → slots ≡ (0, o) ∷ more → slots ≡ (0, o) ∷ rest slots
front slots more o e = e ∙ ap (λ l. (0, o) ∷ rest l) (sym e)

some_there : {T : Type 0} (o : Option T) (value : T) → o ≡ Some value → IsSome o
some_there o value e = subst (λ x. IsSome x) (sym e) refl

one_value : {T : Type 0} (o : Option T) (v w : T) → o ≡ Some v → o ≡ Some w → v ≡ w
one_value o v w e d = cc

module _ {T B : Type 0} (journal : T → List Entry) (base : T → B) where
  abbrev M : Type 0
  M = Me (Option T) (View B)

  -- the word shows the pass's ticket, so the pass has the value and knows it
  comes : (m₀ m n : M) (t tk r : ℕ) → m ≡ m₀ → m₀.0.stage ≡ Waiting t → t % 18446744073709551616 ≡ tk → r ≡ tk → looked journal base (step 0 1 0 0 none) m r n
      → (value : T) × (n ≡ (record m₀.0 { stage = Holding t; seen = journal value }, (0, Some value) ∷ m₀.1)) × Known journal base value m₀.0
  comes m₀ m n t tk r same waits shows turn told = let told' = subst (λ (x : M). looked journal base (step 0 1 0 0 none) x r n) same told in
      let got = told'.0 (turn ∙ (sym shows ∙ ap (λ s. ticket s % 18446744073709551616) (sym waits))) in
      (got.0, got.1 ∙ ap (λ s. (record m₀.0 { stage = Holding (ticket s); seen = journal got.0 }, (0, Some got.0) ∷ m₀.1)) waits, got.2)

  pub slot_taken : (m₀ m n : M) (t tk r : ℕ) → m ≡ m₀ → m₀.0.stage ≡ Waiting t → t % 18446744073709551616 ≡ tk → r ≡ tk → looked journal base (step 0 1 0 0 none) m r n → (o : Option T) × (n.1 ≡ (0, o) ∷ rest n.1)
  slot_taken m₀ m n t tk r same waits shows turn told = let got = comes m₀ m n t tk r same waits shows turn told in (Some got.0, front n.1 m₀.1 (Some got.0) (ap (λ (x : M). x.1) got.1))

  pub slot_full : (m₀ m n : M) (t tk r : ℕ) → m ≡ m₀ → m₀.0.stage ≡ Waiting t → t % 18446744073709551616 ≡ tk → r ≡ tk → looked journal base (step 0 1 0 0 none) m r n → (o : Option T) → n.1 ≡ (0, o) ∷ rest n.1 → IsSome o
  slot_full m₀ m n t tk r same waits shows turn told o has = let got = comes m₀ m n t tk r same waits shows turn told in
      some_there o got.0 (same_value n.1 m₀.1 o got.0 (ap (λ (x : M). x.1) got.1) has)

  pub has_turn : (m₀ m n p : M) (t tk r : ℕ) (w : T) (o : Option T) → m ≡ m₀ → m₀.0.stage ≡ Waiting t → t % 18446744073709551616 ≡ tk → m₀.1 ≡ [] → r ≡ tk → looked journal base (step 0 1 0 0 none) m r n
      → n.1 ≡ (0, o) ∷ rest n.1 → o ≡ Some w → p ≡ (n.0, (0, None) ∷ rest n.1) → Known journal base w m₀.0 × (p ≡ (record m₀.0 { stage = Holding t; seen = journal w }, (0, None) ∷ []))
  has_turn m₀ m n p t tk r w o same waits shows empty turn told has is now = let got = comes m₀ m n t tk r same waits shows turn told in
      let mine : got.0 ≡ w = one_value o got.0 w (same_value n.1 m₀.1 o got.0 (ap (λ (x : M). x.1) got.1) has) is in (
        subst (λ (v : T). Known journal base v m₀.0) mine got.2,
        now ∙ (ap (λ (x : M). (x.0, (0, None) ∷ rest x.1)) got.1 ∙ (λ i. (record m₀.0 { stage = Holding t; seen = journal (mine i) }, (0, None) ∷ empty i))),
      )
