-- The page numbers in the swap blocks, after one page lies elsewhere.
use Rattle.std.proofs.Common.{◌≡◌, ℕ, Bool, true, false, cond, Option, Some, None, nat_eq, refl, sym, ap, ◌∙◌, subst}
use Rattle.std.specs.Prelude.{◌&&◌}
use Rattle.std.proofs.lemmas.Bool.{and_from, and_parts, eq-eqb, eqb-true, false≢true}
use Rattle.std.proofs.lemmas.Option.{none-some}
use Rattle.vm_types.specs.PagePlaces.{changed_at}
use Rattle.vm_types.specs.declared.names.BlockId.{BlockId}
use Rattle.vm_types.specs.declared.names.BlockId.TheVariants as block
use Rattle.vm_types.specs.declared.names.Page.{Page}
use Rattle.vm_types.specs.declared.names.Page.TheVariants.{Private}
use Rattle.vm_types.specs.declared.names.Proc.{Proc}
use Rattle.pager_model.specs.Maps.{proc}
use Rattle.state_parts.specs.SwapTable.{SwapTable, swapped_at}
use Rattle.state_fits.specs.Swaps.{SwapsFit}
use Rattle.state_fits.proofs.PartsSet.{changed_there}

-- the page numbers by process and slot are those of the pages that lie there
pub record AreLying (lies : Page → Option BlockId) (swapped : ℕ → ℕ → Option ℕ) : Type 0 where
  pub lying : (p slot v : ℕ) → swapped p slot ≡ Some v → lies (Private (proc p) v) ≡ Some (block.Swap (proc p) slot)
  pub found : (p slot v : ℕ) → lies (Private (proc p) v) ≡ Some (block.Swap (proc p) slot) → swapped p slot ≡ Some v

pub swaps_from : (lies lies' : Page → Option BlockId) (swapped : ℕ → ℕ → Option ℕ) (n : ℕ) (old new : SwapTable) → SwapsFit lies n old → AreLying lies' swapped → new.procs ≡ old.procs → ((q m : ℕ) → swapped_at new q m ≡ swapped q m) → SwapsFit lies' n new
swaps_from lies lies' swapped n old new fit are procs is = record { procs = procs ∙ fit.procs; lying = λ p m v e. are.lying p m v (sym (is p m) ∙ e); found = λ p m v e. is p m ∙ are.found p m v e }

-- the slot of a swap block
abbrev slot_in : Option BlockId → ℕ
slot_in (Some (block.Swap p n)) = n
slot_in other = 0

module _ (lies lies' : Page → Option BlockId) (p v : ℕ) (there : (q w : ℕ) → (nat_eq p q && nat_eq v w) ≡ false → lies' (Private (proc q) w) ≡ lies (Private (proc q) w)) (swapped : ℕ → ℕ → Option ℕ) (are : AreLying lies swapped) where
  abbrev g : Page
  g = Private (proc p) v

  this : (q w : ℕ) → (nat_eq p q && nat_eq v w) ≡ true → g ≡ Private (proc q) w
  this q w e = let parts = and_parts (nat_eq p q) (nat_eq v w) e in λ i. Private (proc (eqb-true p q parts.0 i)) (eqb-true v w parts.1 i)

  -- the page lies in no swap block, before and after
  pub swaps_same : ((b : BlockId) (q : Proc) (n : ℕ) → lies g ≡ Some b → b ≡ block.Swap q n → ⊥) → ((b : BlockId) (q : Proc) (n : ℕ) → lies' g ≡ Some b → b ≡ block.Swap q n → ⊥) → AreLying lies' swapped
  swaps_same was now = record { lying = λ q m w is. lying q m w is (nat_eq p q && nat_eq v w) refl; found = λ q m w is. found q m w is (nat_eq p q && nat_eq v w) refl }
    where
      lying : (q m w : ℕ) → swapped q m ≡ Some w → (c : Bool) → (nat_eq p q && nat_eq v w) ≡ c → lies' (Private (proc q) w) ≡ Some (block.Swap (proc q) m)
      lying q m w is false e = there q w e ∙ are.lying q m w is
      lying q m w is true e = absurd (was (block.Swap (proc q) m) (proc q) m (ap lies (this q w e) ∙ are.lying q m w is) refl)

      found : (q m w : ℕ) → lies' (Private (proc q) w) ≡ Some (block.Swap (proc q) m) → (c : Bool) → (nat_eq p q && nat_eq v w) ≡ c → swapped q m ≡ Some w
      found q m w is false e = are.found q m w (sym (there q w e) ∙ is)
      found q m w is true e = absurd (now (block.Swap (proc q) m) (proc q) m (ap lies' (this q w e) ∙ is) refl)

  -- the page lay in a swap block, and lies nowhere
  pub swaps_emptied : (n : ℕ) → lies g ≡ Some (block.Swap (proc p) n) → lies' g ≡ None → AreLying lies' (λ q m. changed_at swapped p n None q m)
  swaps_emptied n was now = record { lying = λ q m w is. lying q m w is (nat_eq p q && nat_eq n m) refl; found = λ q m w is. found q m w is (nat_eq p q && nat_eq v w) refl (nat_eq p q && nat_eq n m) refl }
    where
      lying : (q m w : ℕ) → changed_at swapped p n None q m ≡ Some w → (c : Bool) → (nat_eq p q && nat_eq n m) ≡ c → lies' (Private (proc q) w) ≡ Some (block.Swap (proc q) m)
      lying q m w is true e = absurd (none-some w (sym (ap (λ (c : Bool). cond c None (swapped q m)) e) ∙ is))
      lying q m w is false e = apart (nat_eq p q && nat_eq v w) refl
        where
          before : lies (Private (proc q) w) ≡ Some (block.Swap (proc q) m)
          before = are.lying q m w (sym (changed_there swapped p n q m None e) ∙ is)

          apart : (c : Bool) → (nat_eq p q && nat_eq v w) ≡ c → lies' (Private (proc q) w) ≡ Some (block.Swap (proc q) m)
          apart false d = there q w d ∙ before
          apart true d =
              let parts = and_parts (nat_eq p q) (nat_eq v w) d in
              let blocks = sym was ∙ (ap lies (this q w d) ∙ before) in
              absurd (false≢true (sym e ∙ and_from _ _ parts.0 (eq-eqb n m (ap slot_in blocks))))

      found : (q m w : ℕ) → lies' (Private (proc q) w) ≡ Some (block.Swap (proc q) m) → (c : Bool) → (nat_eq p q && nat_eq v w) ≡ c → (b : Bool) → (nat_eq p q && nat_eq n m) ≡ b → changed_at swapped p n None q m ≡ Some w
      found q m w is true e b d = absurd (none-some (block.Swap (proc q) m) (sym now ∙ (ap lies' (this q w e) ∙ is)))
      found q m w is false e false d = changed_there swapped p n q m None d ∙ are.found q m w (sym (there q w e) ∙ is)
      found q m w is false e true d =
          let parts = and_parts (nat_eq p q) (nat_eq n m) d in
          let own = subst (λ (r : ℕ). swapped r m ≡ Some v) (eqb-true p q parts.0) (subst (λ (k : ℕ). swapped p k ≡ Some v) (eqb-true n m parts.1) (are.found p n v was)) in
          let before = are.found q m w (sym (there q w e) ∙ is) in
          let same : v ≡ w = cc (own, before) in
          absurd (false≢true (sym e ∙ and_from _ _ parts.0 (eq-eqb v w same)))

  -- the page lay nowhere, and lies in a swap block in which no other page lies
  pub swaps_filled : (n : ℕ) → lies g ≡ None → lies' g ≡ Some (block.Swap (proc p) n) → ((w : ℕ) → lies (Private (proc p) w) ≡ Some (block.Swap (proc p) n) → ⊥) → AreLying lies' (λ q m. changed_at swapped p n (Some v) q m)
  swaps_filled n was now alone = record { lying = λ q m w is. lying q m w is (nat_eq p q && nat_eq n m) refl; found = λ q m w is. found q m w is (nat_eq p q && nat_eq v w) refl (nat_eq p q && nat_eq n m) refl }
    where
      lying : (q m w : ℕ) → changed_at swapped p n (Some v) q m ≡ Some w → (c : Bool) → (nat_eq p q && nat_eq n m) ≡ c → lies' (Private (proc q) w) ≡ Some (block.Swap (proc q) m)
      lying q m w is true e =
          let parts = and_parts (nat_eq p q) (nat_eq n m) e in
          let both : Some v ≡ Some w = sym (ap (λ (c : Bool). cond c (Some v) (swapped q m)) e) ∙ is in
          let same : v ≡ w = cc in
          subst (λ (r : ℕ). lies' (Private (proc r) w) ≡ Some (block.Swap (proc r) m)) (eqb-true p q parts.0)
          (subst (λ (k : ℕ). lies' (Private (proc p) w) ≡ Some (block.Swap (proc p) k)) (eqb-true n m parts.1)
          (subst (λ (u : ℕ). lies' (Private (proc p) u) ≡ Some (block.Swap (proc p) n)) same now))
      lying q m w is false e = apart (nat_eq p q && nat_eq v w) refl
        where
          before : lies (Private (proc q) w) ≡ Some (block.Swap (proc q) m)
          before = are.lying q m w (sym (changed_there swapped p n q m (Some v) e) ∙ is)

          apart : (c : Bool) → (nat_eq p q && nat_eq v w) ≡ c → lies' (Private (proc q) w) ≡ Some (block.Swap (proc q) m)
          apart false d = there q w d ∙ before
          apart true d = absurd (none-some (block.Swap (proc q) m) (sym was ∙ (ap lies (this q w d) ∙ before)))

      found : (q m w : ℕ) → lies' (Private (proc q) w) ≡ Some (block.Swap (proc q) m) → (c : Bool) → (nat_eq p q && nat_eq v w) ≡ c → (b : Bool) → (nat_eq p q && nat_eq n m) ≡ b → changed_at swapped p n (Some v) q m ≡ Some w
      found q m w is true e b d =
          let parts = and_parts (nat_eq p q) (nat_eq v w) e in
          let blocks = sym now ∙ (ap lies' (this q w e) ∙ is) in
          ap (λ (c : Bool). cond c (Some v) (swapped q m)) (and_from _ _ parts.0 (eq-eqb n m (ap slot_in blocks))) ∙ ap Some (eqb-true v w parts.1)
      found q m w is false e false d = changed_there swapped p n q m (Some v) d ∙ are.found q m w (sym (there q w e) ∙ is)
      found q m w is false e true d =
          let parts = and_parts (nat_eq p q) (nat_eq n m) d in
          absurd (alone w (subst (λ (r : ℕ). lies (Private (proc r) w) ≡ Some (block.Swap (proc r) n)) (sym (eqb-true p q parts.0)) (subst (λ (k : ℕ). lies (Private (proc q) w) ≡ Some (block.Swap (proc q) k)) (sym (eqb-true n m parts.1)) (sym (there q w e) ∙ is))))
