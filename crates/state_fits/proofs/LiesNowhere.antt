-- A page that lay in a swap block lies nowhere: the swap table, and what is kept of charged pages.
use Rattle.std.proofs.Common.{◌≡◌, ℕ, Bool, true, false, cond, List, Option, Some, None, nat_eq, refl, sym, ap, ◌∙◌, subst}
use Rattle.std.specs.Prelude.{◌&&◌}
use Rattle.std.proofs.lemmas.Bool.{and_from, and_parts, eq-eqb, eqb-true, false≢true}
use Rattle.std.proofs.lemmas.Option.{none-some}
use Rattle.vm_types.specs.PagePlaces.{changed_at}
use Rattle.vm_types.specs.Same.{same_page}
use Rattle.vm_types.specs.declared.config.Config.{Config}
use Rattle.vm_types.specs.declared.names.BlockId.{BlockId}
use Rattle.vm_types.specs.declared.names.BlockId.TheVariants as block
use Rattle.vm_types.specs.declared.names.Page.{Page}
use Rattle.vm_types.specs.declared.names.Page.TheVariants.{Private}
use Rattle.state_parts.specs.ChargedTable.{ChargedTable, IsTableSet, kept_at}
use Rattle.state_parts.specs.SwapTable.{SwapTable, swapped_at}
use Rattle.state_parts.specs.declared.charged_page.ChargedPage.{ChargedPage}
use Rattle.pager_model.specs.Maps.{proc}
use Rattle.pager_model.specs.Pager.{Assigned}
use Rattle.state_fits.specs.Pages.{PagesFit, charged_row}
use Rattle.state_fits.specs.Swaps.{SwapsFit}
use Rattle.state_fits.proofs.ChargedRows.{pages_changed, row_some}
use Rattle.state_fits.proofs.PartsSet.{changed_there}

abbrev swap_slot : Option BlockId → ℕ
swap_slot (Some (block.Swap p n)) = n
swap_slot other = 0

-- what is kept of a page says where it lies
pub charged_lies : (charged touched : List Page) (lies : Page → Option BlockId) (assigned : List Assigned) (g : Page) (c : ChargedPage) → charged_row charged touched lies assigned g ≡ Some c → c.lies ≡ lies g
charged_lies charged touched lies assigned g c is = let same = (row_some charged touched lies assigned g c is).1 in λ i. (same i).lies

module _ (lies lies' : Page → Option BlockId) (p v : ℕ) (here : lies' (Private (proc p) v) ≡ None)
    (there : (h : Page) → same_page (Private (proc p) v) h ≡ false → lies' h ≡ lies h) where
  -- a page that lies in a swap block isn't this one
  other_page : (q w : ℕ) (b : BlockId) → lies' (Private (proc q) w) ≡ Some b → (nat_eq p q && nat_eq v w) ≡ false
  other_page q w b is = go (nat_eq p q && nat_eq v w) refl
    where
      go : (c : Bool) → (nat_eq p q && nat_eq v w) ≡ c → (nat_eq p q && nat_eq v w) ≡ false
      go false e = e
      go true e =
          let parts = and_parts (nat_eq p q) (nat_eq v w) e in
          let same : Private (proc p) v ≡ Private (proc q) w = λ i. Private (proc (eqb-true p q parts.0 i)) (eqb-true v w parts.1 i) in
          absurd (none-some b (sym here ∙ (ap lies' same ∙ is)))

  pub swaps_cleared : (n slots : ℕ) (old new : SwapTable) → SwapsFit lies slots old → lies (Private (proc p) v) ≡ Some (block.Swap (proc p) n) → new.procs ≡ old.procs
      → ((q m : ℕ) → swapped_at new q m ≡ changed_at (swapped_at old) p n None q m) → SwapsFit lies' slots new
  swaps_cleared n slots old new fit was procs changed = record {
    procs = procs ∙ fit.procs;
    lying = λ q m w is. lying q m w is (nat_eq p q && nat_eq n m) refl;
    found = λ q m w is. found q m w is (nat_eq p q && nat_eq n m) refl;
  }
    where
      lying : (q m w : ℕ) → swapped_at new q m ≡ Some w → (c : Bool) → (nat_eq p q && nat_eq n m) ≡ c → lies' (Private (proc q) w) ≡ Some (block.Swap (proc q) m)
      lying q m w is true e = absurd (none-some w (sym (changed q m ∙ ap (λ (c : Bool). cond c None (swapped_at old q m)) e) ∙ is))
      lying q m w is false e = there (Private (proc q) w) (apart (nat_eq p q && nat_eq v w) refl) ∙ before
        where
          before : lies (Private (proc q) w) ≡ Some (block.Swap (proc q) m)
          before = fit.lying q m w (sym (changed q m ∙ changed_there (swapped_at old) p n q m None e) ∙ is)

          apart : (c : Bool) → (nat_eq p q && nat_eq v w) ≡ c → (nat_eq p q && nat_eq v w) ≡ false
          apart false d = d
          apart true d =
              let parts = and_parts (nat_eq p q) (nat_eq v w) d in
              let same : Private (proc p) v ≡ Private (proc q) w = λ i. Private (proc (eqb-true p q parts.0 i)) (eqb-true v w parts.1 i) in
              let blocks = sym was ∙ (ap lies same ∙ before) in
              absurd (false≢true (sym e ∙ and_from _ _ parts.0 (eq-eqb n m (ap swap_slot blocks))))

      found : (q m w : ℕ) → lies' (Private (proc q) w) ≡ Some (block.Swap (proc q) m) → (c : Bool) → (nat_eq p q && nat_eq n m) ≡ c → swapped_at new q m ≡ Some w
      found q m w is c e = by c e
        where
          far : (nat_eq p q && nat_eq v w) ≡ false
          far = other_page q w (block.Swap (proc q) m) is

          before : swapped_at old q m ≡ Some w
          before = fit.found q m w (sym (there (Private (proc q) w) far) ∙ is)

          by : (c : Bool) → (nat_eq p q && nat_eq n m) ≡ c → swapped_at new q m ≡ Some w
          by false d = changed q m ∙ (changed_there (swapped_at old) p n q m None d ∙ before)
          by true d =
              let parts = and_parts (nat_eq p q) (nat_eq n m) d in
              let own = subst (λ (r : ℕ). swapped_at old r m ≡ Some v) (eqb-true p q parts.0) (subst (λ (k : ℕ). swapped_at old p k ≡ Some v) (eqb-true n m parts.1) (fit.found p n v was)) in
              let same : v ≡ w = cc (own, before) in
              absurd (false≢true (sym far ∙ and_from _ _ parts.0 (eq-eqb v w same)))

  module _ (charged touched : List Page) (assigned : List Assigned) where
    abbrev g : Page
    g = Private (proc p) v

    pub pages_nowhere : (config : Config) (old new : ChargedTable) (c : ChargedPage) → PagesFit config (charged_row charged touched lies assigned) old → kept_at old g ≡ Some c
        → IsTableSet old new g (Some (record c { lies = None })) → PagesFit config (charged_row charged touched lies' assigned) new
    pages_nowhere config old new c fit read changed =
        let is = row_some charged touched lies assigned g c (sym (fit.each g) ∙ read) in
        pages_changed charged touched lies assigned g is.0 lies' assigned (λ h apart. (there h apart, refl)) config old new (record c { lies = None }) fit changed
        (λ i. record { touched = (is.1 i).touched; lies = sym here i; assigned = (is.1 i).assigned })
