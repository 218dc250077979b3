-- An empty frame at the free list's head takes a page that no frame holds.
use Rattle.std.proofs.Common.{◌≡◌, ◌⊎◌, ℕ, zero, suc, ◌+◌, ◌<◌, ◌≤◌, Bool, true, false, cond, ◌&&◌, List, [], ◌∷◌, Option, Some, None, find, nat_eq, count_by, refl, sym, ap, ◌∙◌, subst, subst₂, inl, inr, arith}
use Rattle.std.specs.List.{AllByRecursion}
use Rattle.std.specs.Option.{option_map}
use Rattle.std.proofs.lemmas.Bool.{cases_eq, ne_eqb, eqb-true, and_left, or_parts, and_parts, true≢false}
use Rattle.std.proofs.lemmas.Option.{none-some}
use Rattle.vm_types.specs.Same.{same_page, same_block}
use Rattle.vm_types.specs.declared.names.Page.{Page}
use Rattle.vm_types.specs.declared.names.BlockId.{BlockId}
use Rattle.vm_types.specs.declared.names.BlockId.TheVariants as block
use Rattle.vm_types.specs.declared.names.FrameState.TheVariants as state
use Rattle.vm_types.specs.declared.config.Config.{Config}
use Rattle.page_lists.specs.Lists.{count_of, without}
use Rattle.page_lists.proofs.Counts.{count_of-without, count_of-push}
use Rattle.pager_model.specs.Around.{FrameView, PastView, frame_view}
use Rattle.pager_model.specs.Changes.{pushed_if}
use Rattle.pager_model.specs.Flights.{Flight, is_busy}
use Rattle.pager_model.specs.Lookups.{IsHead, block_of, count_page, entries_at, is, is_assigned_to, is_entry, page_by}
use Rattle.pager_model.specs.Maps.{Map, is_paged, is_private}
use Rattle.pager_model.specs.Pager.{Assigned, Pager, Valid}
use Rattle.pager_model.specs.Sets.{at_number, at_page}
use Rattle.pager_model.specs.Transfers.{faults_of, is_fault, is_fault_of}
use Rattle.pager_rules.proofs.Basics.{at_number_other, at_number_same, count_cons_no, count_cons_yes, count_from_no_find, each_weaker, find_none_from_count, nat_eq_refl, pages_equal, same_from_equal, same_page_refl}
use Rattle.pager_rules.proofs.Frames.{at_state, free_frame, modified_frame}
use Rattle.pager_rules.proofs.Lists.{all_found, found_one, found_passes}
use Rattle.pager_rules.proofs.Turns.{idle}
use Rattle.pager_rules.specs.Kept.{FitsFrame, HasUnsaved, HeldCharged, HeldOnce, IsForItsPage, IsInFrame, saves}

-- ---- lists
pub head_counts : (xs : List ℕ) (f : ℕ) → IsHead xs f → 0 < count_of xs f
head_counts xs f head = subst (λ (ys : List ℕ). 0 < count_of ys f) (sym head.heads) (omega (arith, count_cons_yes (λ (other : ℕ). nat_eq other f) f head.rest (nat_eq_refl f)))

pub without_same : (xs : List ℕ) (f : ℕ) → count_of (without xs f) f ≡ 0
without_same xs f = count_of-without xs f f ∙ ap (λ (b : Bool). cond b 0 (count_of xs f)) (nat_eq_refl f)

pub without_other : (xs : List ℕ) (f g : ℕ) → (f ≡ g → ⊥) → count_of (without xs f) g ≡ count_of xs g
without_other xs f g apart = count_of-without xs f g ∙ ap (λ (b : Bool). cond b 0 (count_of xs g)) (ne_eqb f g apart)

-- ---- pages
pub page_apart : (g h : Page) → (g ≡ h → ⊥) → same_page g h ≡ false
page_apart g h apart = go (same_page g h) refl
  where
    go : (b : Bool) → same_page g h ≡ b → same_page g h ≡ false
    go false is = is
    go true is = absurd (apart (pages_equal g h is))

pub charged_other : (g h : Page) (pages : List Page) → same_page h g ≡ false → count_page (g ∷ pages) h ≡ count_page pages h
charged_other g h pages apart = count_cons_no (same_page h) g pages apart

pub charged_same : (g : Page) (pages : List Page) → count_page (g ∷ pages) g ≡ 1 + count_page pages g
charged_same g pages = count_cons_yes (same_page g) g pages (same_page_refl g)

-- ---- the row of the free list's head
pub free_row : (x : FrameView) → FitsFrame x → 0 < x.on_free → FitsFrame (record x { state = state.Free })
free_row x fits some = at_state x state.Free (free_frame x fits some) fits

pub modified_row : (x : FrameView) → FitsFrame x → 0 < x.on_modified → FitsFrame (record x { state = state.Modified })
modified_row x fits some = at_state x state.Modified (modified_frame x fits some) fits

-- ---- the pages that frames hold
pub held_put : (page : ℕ → Option Page) (f : ℕ) (x : Page) → ((g : ℕ) → page g ≡ Some x → ⊥) → HeldOnce page → HeldOnce (at_number page f (Some x))
held_put page f x unheld once g h y holds also = go (cases_eq f g) (cases_eq f h)
  where
    put : (k : ℕ) → f ≡ k → at_number page f (Some x) k ≡ Some y → x ≡ y
    put k same is = let there = subst (λ (j : ℕ). at_number page f (Some x) j ≡ Some x) same (at_number_same page f (Some x)) in cc

    old : (k : ℕ) → (f ≡ k → ⊥) → at_number page f (Some x) k ≡ Some y → page k ≡ Some y
    old k apart is = sym (at_number_other page f (Some x) k apart) ∙ is

    go : (f ≡ g) ⊎ (f ≡ g → ⊥) → (f ≡ h) ⊎ (f ≡ h → ⊥) → g ≡ h
    go (inl s) (inl t) = sym s ∙ t
    go (inl s) (inr t) = absurd (unheld h (old h t also ∙ ap Some (sym (put g s holds))))
    go (inr s) (inl t) = absurd (unheld g (old g s holds ∙ ap Some (sym (put h t also))))
    go (inr s) (inr t) = once g h y (old g s holds) (old h t also)

pub held_charged_put : (config : Config) (page : ℕ → Option Page) (charged more : List Page) (f : ℕ) (x : Page) → (is_paged config x ≡ true → 0 < count_page more x) → ((g : Page) → count_page charged g ≤ count_page more g)
    → HeldCharged config page charged → HeldCharged config (at_number page f (Some x)) more
held_charged_put config page charged more f x own grows all g y private holds = go (cases_eq f g)
  where
    go : (f ≡ g) ⊎ (f ≡ g → ⊥) → 0 < count_page more y
    go (inl same) =
        let there = subst (λ (j : ℕ). at_number page f (Some x) j ≡ Some x) same (at_number_same page f (Some x)) in
        let is : x ≡ y = cc in
        subst (λ (z : Page). 0 < count_page more z) is (own (ap (is_paged config) is ∙ private))
    go (inr apart) = omega (arith, all g y private (sym (at_number_other page f (Some x) g apart) ∙ holds), grows y)

-- no entry is for the empty frame
pub entries_put : (config : Config) (map : Map) (page : ℕ → Option Page) (f : ℕ) (o : Option Page) (valid : List Valid) → page f ≡ None → AllByRecursion (IsForItsPage config map page) valid → AllByRecursion (IsForItsPage config map (at_number page f o)) valid
entries_put config map page f o valid empty all = each_weaker (IsForItsPage config map page) (IsForItsPage config map (at_number page f o)) step valid all
  where
    step : (e : Valid) → IsForItsPage config map page e → IsForItsPage config map (at_number page f o) e
    step e is = (is.0, is.1, at_number_other page f o e.frame (λ same. none-some is.0 (sym empty ∙ (ap page same ∙ is.2))) ∙ is.2)

-- a page that no frame holds has no entry
pub no_entry : (config : Config) (map : Map) (page : ℕ → Option Page) (valid : List Valid) (p v : ℕ) (x : Page) → page_by config map p v ≡ Some x → ((g : ℕ) → page g ≡ Some x → ⊥)
    → AllByRecursion (IsForItsPage config map page) valid → entries_at valid p v ≡ 0
no_entry config map page valid p v x own unheld all = go (entries_at valid p v) refl
  where
    go : (n : ℕ) → entries_at valid p v ≡ n → entries_at valid p v ≡ 0
    go zero is = is
    go (suc n) is =
        let found = found_one (is_entry p v) valid (omega arith) in
        let fits = all_found (IsForItsPage config map page) (is_entry p v) valid found.0 all found.1 in
        let parts = and_parts (nat_eq (found.0).proc p) (nat_eq (found.0).vpn v) (found_passes (is_entry p v) valid found.0 found.1) in
        let there : page_by config map p v ≡ Some fits.0 = subst₂ (λ (q w : ℕ). page_by config map q w ≡ Some fits.0) (eqb-true _ _ parts.0) (eqb-true _ _ parts.1) fits.1 in
        absurd (unheld (found.0).frame (fits.2 ∙ (sym there ∙ own)))

-- ---- charged pages that lie nowhere, while one frame changes
pub unsaved_move : (config : Config) (o o' : PastView) (a b : Pager) (f : ℕ) → ((g : ℕ) → (f ≡ g → ⊥) → frame_view config o' b g ≡ frame_view config o a g)
    → ((x : Page) → 0 < count_page b.charged x → b.lies x ≡ None → IsInFrame config o' b x ⊎ ((0 < count_page a.charged x) × (a.lies x ≡ None) × (a.page f ≡ Some x → saves (frame_view config o a f) ≡ true → IsInFrame config o' b x)))
    → HasUnsaved config o a → HasUnsaved config o' b
unsaved_move config o o' a b f there step all x charged nowhere = by (step x charged nowhere)
  where
    by : IsInFrame config o' b x ⊎ ((0 < count_page a.charged x) × (a.lies x ≡ None) × (a.page f ≡ Some x → saves (frame_view config o a f) ≡ true → IsInFrame config o' b x)) → IsInFrame config o' b x
    by (inl new) = new
    by (inr old) = go (all x old.0 old.1)
      where
        go : IsInFrame config o a x → IsInFrame config o' b x
        go (h, holds, saved) = at (cases_eq f h)
          where
            at : (f ≡ h) ⊎ (f ≡ h → ⊥) → IsInFrame config o' b x
            at (inl same) = old.2 (ap a.page same ∙ holds) (subst (λ (k : ℕ). saves (frame_view config o a k) ≡ true) (sym same) saved)
            at (inr apart) = (h, ap (λ (y : FrameView). y.page) (there h apart) ∙ holds, subst (λ (y : FrameView). saves y ≡ true) (sym (there h apart)) saved)

-- ---- blocks
pub blocks_equal : (a b : BlockId) → same_block a b ≡ true → a ≡ b
blocks_equal (block.Section s x) (block.Section t y) e =
    let parts = and_parts (nat_eq s.0 t.0) (nat_eq x y) e in
    let first = eqb-true s.0 t.0 parts.0 in
    let second = eqb-true x y parts.1 in
    λ i. block.Section (record { 0 = first i }) (second i)
blocks_equal (block.PageFile x) (block.PageFile y) e = ap block.PageFile (eqb-true x y e)
blocks_equal (block.Swap s x) (block.Swap t y) e =
    let parts = and_parts (nat_eq s.0 t.0) (nat_eq x y) e in
    let first = eqb-true s.0 t.0 parts.0 in
    let second = eqb-true x y parts.1 in
    λ i. block.Swap (record { 0 = first i }) (second i)
blocks_equal (block.Section s x) (block.PageFile y) e = absurd (true≢false (sym e))
blocks_equal (block.Section s x) (block.Swap t y) e = absurd (true≢false (sym e))
blocks_equal (block.PageFile x) (block.Section t y) e = absurd (true≢false (sym e))
blocks_equal (block.PageFile x) (block.Swap t y) e = absurd (true≢false (sym e))
blocks_equal (block.Swap s x) (block.Section t y) e = absurd (true≢false (sym e))
blocks_equal (block.Swap s x) (block.PageFile y) e = absurd (true≢false (sym e))

-- ---- small ones
pub and_false : (b : Bool) → (b && false) ≡ false
and_false true = refl
and_false false = refl

pub no_block : (assigned : List Assigned) (g : Page) → count_by (is_assigned_to g) assigned ≡ 0 → block_of assigned g ≡ None
no_block assigned g none = ap (option_map (λ (y : Assigned). y.block)) (find_none_from_count (is_assigned_to g) assigned none)

pub idle_no_fault : (p : ℕ) (flights : List Flight) → is_busy p flights ≡ false → faults_of p flights ≡ 0
idle_no_fault p [] idle = refl
idle_no_fault p (x ∷ flights) idle =
    let parts = or_parts (nat_eq x.seat p) (is_busy p flights) idle in
    count_cons_no (is_fault_of p) x flights (and_left (nat_eq x.seat p) (is_fault x.direction) parts.0) ∙ idle_no_fault p flights parts.1

pub no_blocks : (assigned : List Assigned) (g : Page) → block_of assigned g ≡ None → count_by (is_assigned_to g) assigned ≡ 0
no_blocks assigned g none = count_from_no_find (is_assigned_to g) assigned (go (find (is_assigned_to g) assigned) none)
  where
    go : (o : Option Assigned) → option_map (λ (y : Assigned). y.block) o ≡ None → o ≡ None
    go None e = refl
    go (Some y) e = absurd (cc)

-- ---- a list with a frame at its tail, or as it was
pub pushed_other : (b : Bool) (xs : List ℕ) (f g : ℕ) → (f ≡ g → ⊥) → count_of (pushed_if b xs f) g ≡ count_of xs g
pushed_other false xs f g apart = refl
pushed_other true xs f g apart = let whole = count_of-push xs f g ∙ ap (λ (b : Bool). count_of xs g + cond b 1 0) (ne_eqb f g apart) in omega arith

pub pushed_same : (xs : List ℕ) (f : ℕ) → count_of xs f ≡ 0 → count_of (pushed_if true xs f) f ≡ 1
pushed_same xs f none = let whole = count_of-push xs f f ∙ ap (λ (b : Bool). count_of xs f + cond b 1 0) (nat_eq_refl f) in omega arith

-- ---- a page lies elsewhere
pub lies_same : (lies : Page → Option BlockId) (g : Page) (o : Option BlockId) → at_page lies g o g ≡ o
lies_same lies g o = ap (λ (b : Bool). cond b o (lies g)) (same_page_refl g)

pub lies_other : (lies : Page → Option BlockId) (g h : Page) (o : Option BlockId) → same_page h g ≡ false → at_page lies g o h ≡ lies h
lies_other lies g h o apart = ap (λ (b : Bool). cond b o (lies h)) (page_apart g h (λ same. true≢false (sym (same_from_equal h g (sym same)) ∙ apart)))

pub has_block : (assigned : List Assigned) (g : Page) (n : ℕ) → block_of assigned g ≡ Some n → 0 < count_by (is_assigned_to g) assigned
has_block assigned g n is = go (count_by (is_assigned_to g) assigned) refl
  where
    go : (m : ℕ) → count_by (is_assigned_to g) assigned ≡ m → 0 < count_by (is_assigned_to g) assigned
    go zero none = absurd (none-some n (sym (no_block assigned g none) ∙ is))
    go (suc m) some = omega arith
