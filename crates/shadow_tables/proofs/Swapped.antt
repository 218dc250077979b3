-- Pages that were said to lie in swap blocks.
use Rattle.std.proofs.Common.{◌≡◌, ◌⊎◌, ℕ, zero, suc, ◌+◌, ◌<◌, Bool, true, false, cond, List, [], ◌∷◌, ◌++◌, Option, Some, None, length, slice_get, refl, sym, ap, ◌∙◌, subst, true≢false, arith}
use Rattle.std.proofs.Math.Path.{fun_ext}
use Rattle.std.proofs.lemmas.Option.{none-some, same_Some, slice_get_within}
use Rattle.vm_types.specs.Same.{same_page}
use Rattle.vm_types.specs.declared.config.SectionKind.{SectionKind}
use Rattle.vm_types.specs.declared.names.Page.{Page}
use Rattle.vm_types.specs.declared.names.Page.TheVariants.{Private, Shared}
use Rattle.vm_types.specs.declared.names.Proc.{Proc}
use Rattle.vm_types.specs.declared.names.BlockId.{BlockId}
use Rattle.vm_types.specs.declared.names.BlockId.TheVariants as block
use Rattle.pager_model.specs.Maps.{proc}
use Rattle.pager_model.specs.Sets.{at_page}
use Rattle.pager_rules.proofs.Basics.{pages_equal, same_page_refl}
use Rattle.shadow_tables.specs.Lying.{AreListed, AreSwapped, IsListedIn, Said, first_by, is_paged_one, is_swap, lies_by, said_or}
use Rattle.shadow_tables.specs.PageTables.{IsTableSet, Items, item_of}

-- ---- the list of those pages
there_still : (g h : Page) (pages : List Page) → IsListedIn g pages → IsListedIn g (pages ++ h ∷ [])
there_still g h [] (k, below, is) = absurd (none-some g is)
there_still g h (y ∷ pages) (zero, below, is) = (0, omega (arith), is)
there_still g h (y ∷ pages) (suc k, below, is) =
    let (j, under, at) = there_still g h pages (k, omega (arith, below), is) in
    (suc j, omega (arith, under), at)

there_last : (h : Page) (pages : List Page) → IsListedIn h (pages ++ h ∷ [])
there_last h [] = (0, omega arith, refl)
there_last h (y ∷ pages) = let (j, under, at) = there_last h pages in (suc j, omega (arith, under), at)

-- one more at the end
pub listed_more : (marks : Page → Option Bool) (pages : List Page) (h : Page) → AreListed marks pages → AreListed marks (pages ++ h ∷ [])
listed_more marks pages h all g is = there_still g h pages (all g is)

-- and it is marked
pub listed_marked : (marks : Page → Option Bool) (pages : List Page) (h : Page) → AreListed marks pages → AreListed (at_page marks h (Some true)) (pages ++ h ∷ [])
listed_marked marks pages h all g is = go (same_page h g) refl is
  where
    go : (b : Bool) → same_page h g ≡ b → cond b (Some true) (marks g) ≡ Some true → IsListedIn g (pages ++ h ∷ [])
    go true here marked =
        let (k, below, at) = there_last h pages in
        (k, below, at ∙ ap Some (pages_equal h g here))
    go false other marked = there_still g h pages (all g marked)

-- the others are marked as before
pub marked_still : (marks : Page → Option Bool) (h g : Page) → marks g ≡ Some true → at_page marks h (Some true) g ≡ Some true
marked_still marks h g is = go (same_page h g)
  where
    go : (b : Bool) → cond b (Some true) (marks g) ≡ Some true
    go true = refl
    go false = is

pub marked_here : (marks : Page → Option Bool) (h : Page) → at_page marks h (Some true) h ≡ Some true
marked_here marks h = ap (λ (b : Bool). cond b (Some true) (marks h)) (same_page_refl h)

-- ---- what is said of a page
-- each page that is said to lie in a swap block is marked, where this one is if it does
pub swapped_said : (said : Page → Option (Option BlockId)) (marks : Page → Option Bool) (pages : List Page) (h : Page) (b : Option BlockId)
    → ((g : Page) (p : Proc) (n : ℕ) → said g ≡ Some (Some (block.Swap p n)) → marks g ≡ Some true)
    → AreListed marks pages → (is_swap b ≡ true → marks h ≡ Some true)
    → AreSwapped (at_page said h (Some b)) marks pages
swapped_said said marks pages h b all listed here = record { marked = λ g p n is. go g p n (same_page h g) refl is; within = listed }
  where
    go : (g : Page) (p : Proc) (n : ℕ) (t : Bool) → same_page h g ≡ t → cond t (Some b) (said g) ≡ Some (Some (block.Swap p n)) → marks g ≡ Some true
    go g p n true same is =
        let block_is : b ≡ Some (block.Swap p n) = same_Some b (Some (block.Swap p n)) is in
        ap marks (sym (pages_equal h g same)) ∙ here (ap is_swap block_is)
    go g p n false other is = all g p n is

-- where pages lie then
pub laid : (kinds : List SectionKind) (old new : Items (Option BlockId)) (h : Page) (b : Option BlockId) → item_of new ≡ at_page (item_of old) h (Some b)
    → lies_by (kinds, new) ≡ at_page (lies_by (kinds, old)) h b
laid kinds old new h b is = fun_ext (λ g. ap (λ (said : Page → Option (Option BlockId)). said_or (first_by kinds g) (said g)) is ∙ go g (same_page h g))
  where
    go : (g : Page) (t : Bool) → said_or (first_by kinds g) (cond t (Some b) (item_of old g)) ≡ cond t b (lies_by (kinds, old) g)
    go g true = refl
    go g false = refl

-- no page lies in a swap block at first
first_unswapped : (kinds : List SectionKind) (g : Page) (p n : ℕ) → first_by kinds g ≡ Some (block.Swap (proc p) n) → ⊥
first_unswapped kinds (Private q v) p n is = none-some (block.Swap (proc p) n) is
first_unswapped kinds (Shared s i) p n is = go (is_paged_one (slice_get kinds s.0)) is
  where
    go : (b : Bool) → cond b None (Some (block.Section s i)) ≡ Some (block.Swap (proc p) n) → ⊥
    go true is = none-some (block.Swap (proc p) n) is
    go false is = let same : block.Section s i ≡ block.Swap (proc p) n = same_Some (block.Section s i) (block.Swap (proc p) n) is in cc

-- a page that lies in a swap block is in the list
pub swapped_listed : (said : Said) (marks : Page → Option Bool) (pages : List Page) (g : Page) (p n : ℕ) → AreSwapped (item_of said.1) marks pages
    → lies_by said g ≡ Some (block.Swap (proc p) n) → IsListedIn g pages
swapped_listed said marks pages g p n are is = go (item_of said.1 g) refl is
  where
    go : (o : Option (Option BlockId)) → item_of said.1 g ≡ o → said_or (first_by said.0 g) o ≡ Some (block.Swap (proc p) n) → IsListedIn g pages
    go None found first = absurd (first_unswapped said.0 g p n first)
    go (Some b) found block_is = are.within g (are.marked g (proc p) n (found ∙ ap Some block_is))

-- ---- by what was said
module _ (said new : Items (Option BlockId)) (marks new_marks : Page → Option Bool) (pages new_pages : List Page) (are : AreSwapped (item_of said) marks pages)
    (listed : AreListed marks pages → AreListed new_marks new_pages) (others : (g : Page) → marks g ≡ Some true → new_marks g ≡ Some true) where
  -- where one more page lies
  pub said_told : (h : Page) (b : Option BlockId) (t : Bool) → t ≡ is_swap b → (t ≡ true → new_marks h ≡ Some true) → item_of new ≡ at_page (item_of said) h (Some b) → AreSwapped (item_of new) new_marks new_pages
  said_told h b t swap here is =
      subst (λ (f : Page → Option (Option BlockId)). AreSwapped f new_marks new_pages) (sym is)
      (swapped_said (item_of said) new_marks new_pages h b (λ g p n e. others g (are.marked g p n e)) (listed are.within) (λ e. here (swap ∙ e)))

-- before the first
pub first_swapped : (said : Page → Option (Option BlockId)) (marks : Page → Option Bool) (pages : List Page) → ((g : Page) → said g ≡ None) → ((g : Page) → marks g ≡ None) → AreSwapped said marks pages
first_swapped said marks pages unsaid unmarked =
    record {
      marked = λ g p n is. absurd (none-some (Some (block.Swap p n)) (sym (unsaid g) ∙ is));
      within = λ g is. absurd (none-some true (sym (unmarked g) ∙ is));
    }

-- where pages lie then
pub first_lies : (kinds others : List SectionKind) (said : Items (Option BlockId)) (g : Page) → kinds ≡ others → item_of said g ≡ None → lies_by (kinds, said) g ≡ first_by others g
first_lies kinds others said g same is = ap (said_or (first_by kinds g)) is ∙ ap (λ (ks : List SectionKind). first_by ks g) same

-- one page more, where its mark was set or not
pub listed_told : (old new : Items Bool) (pages : List Page) (h : Page) (b : Bool) → IsTableSet old new h (Some true) b → AreListed (item_of old) pages → AreListed (item_of new) (pages ++ h ∷ [])
listed_told old new pages h true is all = subst (λ (f : Page → Option Bool). AreListed f (pages ++ h ∷ [])) (sym is) (listed_marked (item_of old) pages h all)
listed_told old new pages h false is all = subst (λ (items : Items Bool). AreListed (item_of items) (pages ++ h ∷ [])) (sym is.1) (listed_more (item_of old) pages h all)

pub others_told : (old new : Items Bool) (h : Page) (b : Bool) → IsTableSet old new h (Some true) b → (g : Page) → item_of old g ≡ Some true → item_of new g ≡ Some true
others_told old new h true is g marked = ap (λ (f : Page → Option Bool). f g) is ∙ marked_still (item_of old) h g marked
others_told old new h false is g marked = ap (λ (items : Items Bool). item_of items g) is.1 ∙ marked

pub here_told : (old new : Items Bool) (h : Page) → IsTableSet old new h (Some true) true → item_of new h ≡ Some true
here_told old new h is = ap (λ (f : Page → Option Bool). f h) is ∙ marked_here (item_of old) h
