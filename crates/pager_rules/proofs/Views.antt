-- What is around things that a step leaves alone is as it was.
use Rattle.std.proofs.Common.{◌≡◌, ◌⊎◌, ℕ, Bool, true, false, refl, sym, subst, inl, inr}
use Rattle.std.proofs.lemmas.Bool.{cases_eq}
use Rattle.vm_types.specs.Same.{same_page}
use Rattle.vm_types.specs.declared.names.Page.{Page}
use Rattle.pager_rules.proofs.Basics.{pages_equal}

-- one view changes
pub frames_move : {V : Type 0} (P : V → Type 0) (old new : ℕ → V) (f : ℕ) → ((g : ℕ) → (f ≡ g → ⊥) → new g ≡ old g) → P (new f) → ((g : ℕ) → P (old g)) → (g : ℕ) → P (new g)
frames_move P old new f other here all g = go (cases_eq f g)
  where
    go : (f ≡ g) ⊎ (f ≡ g → ⊥) → P (new g)
    go (inl same) = subst (λ (h : ℕ). P (new h)) same here
    go (inr apart) = subst P (sym (other g apart)) (all g)

pub pages_move : {V : Type 0} (P : Page → V → Type 0) (old new : Page → V) (x : Page) → ((g : Page) → (same_page g x ≡ false) → new g ≡ old g) → P x (new x) → ((g : Page) → P g (old g)) → (g : Page) → P g (new g)
pages_move P old new x other here all g = go (same_page g x) refl
  where
    go : (b : Bool) → same_page g x ≡ b → P g (new g)
    go true same = subst (λ (h : Page). P h (new h)) (sym (pages_equal g x same)) here
    go false apart = subst (P g) (sym (other g apart)) (all g)
