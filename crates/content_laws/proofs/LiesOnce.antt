-- One page lies in a block, and no other in one that is written.
use Rattle.std.proofs.Common.{◌≡◌, ℕ, ◌≤◌, Bool, true, false, cond, not, List, [], ◌∷◌, Option, Some, None, find, filter, count_by, nat_eq, refl, sym, ap, ◌∙◌, subst, inl, inr, arith}
use Rattle.std.specs.Option.{option_map}
use Rattle.std.proofs.lemmas.Bool.{true≢false}
use Rattle.std.proofs.lemmas.Option.{none-some, same_Some}
use Rattle.vm_types.specs.Same.{same_page}
use Rattle.vm_types.specs.Ring.{Held}
use Rattle.vm_types.specs.declared.names.Page.{Page}
use Rattle.vm_types.specs.declared.names.SecId.{SecId}
use Rattle.vm_types.specs.declared.names.Page.TheVariants.{Private, Shared}
use Rattle.vm_types.specs.declared.names.BlockId.{BlockId}
use Rattle.vm_types.specs.declared.names.BlockId.TheVariants as block
use Rattle.vm_types.specs.declared.config.Config.{Config}
use Rattle.pager_model.specs.Flights.{Flight}
use Rattle.pager_model.specs.Pager.{Assigned, Pager}
use Rattle.pager_model.specs.Sound.{FitsSlot}
use Rattle.pager_model.specs.Lookups.{block_of, is_assigned_to, is_owner, slot_of}
use Rattle.pager_rules.proofs.Basics.{find_cons_yes, find_cons_no, pages_equal, same_from_equal, nat_eq_refl}
use Rattle.pager_model.specs.Around.{PastView, page_view, process_view}
use Rattle.pager_model.specs.Maps.{is_paged}
use Rattle.pager_rules.specs.Kept.{IsKept, FitsWrite}
use Rattle.pager_rules.proofs.Lists.{count_found, count_removed_yes}
use Rattle.pager_laws.proofs.OutOkKept.{one_in_slot}

find_filter : {X : Type 0} (p q : X → Bool) (xs : List X) → ((x : X) → p x ≡ true → q x ≡ true → ⊥) → find p (filter (λ (x : X). not (q x)) xs) ≡ find p xs
find_filter p q [] apart = refl
find_filter {X} p q (y ∷ xs) apart = go (q y) refl (p y) refl (find_filter p q xs apart)
  where
    kept : List X
    kept = filter (λ (x : X). not (q x)) xs

    go : (b : Bool) → q y ≡ b → (c : Bool) → p y ≡ c → find p kept ≡ find p xs → find p (cond (not b) (y ∷ kept) kept) ≡ cond c (Some y) (find p xs)
    go false other true is rest = find_cons_yes p y kept is
    go false other false is rest = find_cons_no p y kept is ∙ rest
    go true same false is rest = rest
    go true same true is rest = absurd (apart y is same)

-- a block is assigned to one page
pub owner_once : (assigned : List Assigned) (g h : Page) (n : ℕ) → count_by (is_owner (block.PageFile n)) assigned ≤ 1 → count_by (is_assigned_to g) assigned ≤ 1 → block_of assigned g ≡ Some n → block_of assigned h ≡ Some n → g ≡ h
owner_once assigned g h n one once first second = go (find (is_assigned_to g) assigned) refl (find (is_assigned_to h) assigned) refl (same_page g h) refl first second
  where
    go : (o : Option Assigned) → find (is_assigned_to g) assigned ≡ o → (u : Option Assigned) → find (is_assigned_to h) assigned ≡ u → (b : Bool) → same_page g h ≡ b
        → option_map (λ (x : Assigned). x.block) o ≡ Some n → option_map (λ (x : Assigned). x.block) u ≡ Some n → g ≡ h
    go o is u also true same at there = pages_equal g h same
    go None is u also false apart at there = absurd (none-some n at)
    go (Some x) is None also false apart at there = absurd (none-some n there)
    go (Some x) is (Some y) also false apart at there =
        let owner : (z : Assigned) → Some z.block ≡ Some n → is_owner (block.PageFile n) z ≡ true = λ z e. subst (λ (m : ℕ). nat_eq m n ≡ true) (sym (same_Some _ _ e)) (nat_eq_refl n) in
        absurd (omega (
          arith,
          count_removed_yes (is_owner (block.PageFile n)) (is_assigned_to g) assigned x is once (owner x at),
          count_found (is_owner (block.PageFile n)) (is_assigned_to h) (filter (λ (z : Assigned). not (is_assigned_to g z)) assigned) y
              (find_filter (is_assigned_to h) (is_assigned_to g) assigned (λ z to_h to_g. true≢false (sym (both z to_g to_h) ∙ apart)) ∙ also) (owner y there),
        ))
      where
        both : (z : Assigned) → is_assigned_to g z ≡ true → is_assigned_to h z ≡ true → same_page g h ≡ true
        both z to_g to_h = same_from_equal g h (pages_equal g z.page to_g ∙ sym (pages_equal h z.page to_h))

abbrev page_of_block : BlockId → Page → Page
page_of_block (block.Section s i) g = Shared s i
page_of_block other g = g

module _ (config : Config) (o : PastView) (a : Pager) (kept : IsKept config o a) where
  section_once : (g h : Page) (s : SecId) (i : ℕ) → a.lies g ≡ Some (block.Section s i) → a.lies h ≡ Some (block.Section s i) → g ≡ h
  section_once g h s i first second = at g first ∙ sym (at h second)
    where
      at : (y : Page) → a.lies y ≡ Some (block.Section s i) → y ≡ Shared s i
      at (Private p v) lies = absurd ((kept.pages (Private p v)).not_in_section s i refl lies)
      at (Shared t j) lies = by (is_paged config (Shared t j)) refl
        where
          by : (c : Bool) → is_paged config (Shared t j) ≡ c → Shared t j ≡ Shared s i
          by true paged = absurd ((kept.pages (Shared t j)).not_in_section s i paged lies)
          by false file = ap (λ (b : BlockId). page_of_block b (Shared t j)) (same_Some _ _ (sym ((kept.pages (Shared t j)).shared t j refl file) ∙ lies))

  once_of : (g : Page) → count_by (is_assigned_to g) a.assigned ≤ 1
  once_of g = let fits = kept.pages g in omega (arith, fits.blocks, fits.charged)

  pub lies_once : (g h : Page) (b : BlockId) → a.lies g ≡ Some b → a.lies h ≡ Some b → g ≡ h
  lies_once g h (block.Section s i) first second = section_once g h s i first second
  lies_once g h (block.PageFile n) first second =
      owner_once a.assigned g h n (kept.blocks (block.PageFile n)).owners (once_of g) ((kept.pages g).in_file n first) ((kept.pages h).in_file n second)
  lies_once g h (block.Swap p n) first second = sym ((kept.swapped g p.0 n first).alone h (second ∙ sym first))

  -- a page that lies in a block which is written is the page that is written
  pub writes_own : (x : Flight) (y g : Page) → FitsWrite x y (page_view config a y) (process_view config a) → a.lies g ≡ Some x.block → g ≡ y
  writes_own x y g (inl section) lies = lies_once g y x.block lies section.1
  writes_own x y g (inr (inl file)) lies =
      let n = file.0 in
      owner_once a.assigned g y n (kept.blocks (block.PageFile n)).owners (once_of g) ((kept.pages g).in_file n (lies ∙ ap Some file.2)) file.1
  writes_own x y g (inr (inr swap)) lies =
      let swapped = kept.swapped g swap.p swap.n (lies ∙ ap Some swap.block) in
      one_in_slot swap.p swap.held g y (subst (λ (u : Option (Option Held)). FitsSlot swap.p (slot_of u) g) swap.slot swapped.slot) swap.fits
