-- What is kept of one charged page, and after it has changed.
use Rattle.std.proofs.Common.{◌≡◌, ◌<◌, Bool, true, false, cond, List, ◌∷◌, Option, Some, None, refl, sym, ap, ◌∙◌, arith}
use Rattle.std.specs.Prelude.{◌||◌}
use Rattle.std.proofs.lemmas.Option.{none-some}
use Rattle.vm_types.specs.Same.{same_page}
use Rattle.vm_types.specs.declared.config.Config.{Config}
use Rattle.vm_types.specs.declared.names.BlockId.{BlockId}
use Rattle.vm_types.specs.declared.names.Page.{Page}
use Rattle.state_parts.specs.ChargedTable.{ChargedTable, IsTableSet}
use Rattle.state_parts.specs.declared.charged_page.ChargedPage.{ChargedPage}
use Rattle.pager_model.specs.Around.{PastView}
use Rattle.pager_model.specs.Lookups.{block_of, count_page}
use Rattle.pager_model.specs.Maps.{is_paged}
use Rattle.pager_model.specs.Pager.{Assigned, Pager}
use Rattle.pager_model.specs.Sets.{has_page}
use Rattle.pager_rules.proofs.Basics.{count_none, has_page_first}
use Rattle.pager_rules.proofs.Put.{no_block}
use Rattle.pager_rules.specs.Kept.{IsKept}
use Rattle.pager_laws.proofs.Holders.{no_block_lies, none_listed}
use Rattle.state_fits.specs.Pages.{PagesFit, charged_row}
use Rattle.state_fits.proofs.OnePlace.{apart_back}
use Rattle.state_fits.proofs.PartsSet.{pages_set}

-- a page that a list counts is in it
pub counted_page : (pages : List Page) (g : Page) → 0 < count_page pages g → has_page pages g ≡ true
counted_page pages g some = go (has_page pages g) refl
  where
    go : (b : Bool) → has_page pages g ≡ b → b ≡ true
    go true is = refl
    go false is = absurd (omega (arith, some, count_none (same_page g) pages is))

module _ (charged touched : List Page) (lies : Page → Option BlockId) (assigned : List Assigned) (g : Page) where
  abbrev kept : ChargedPage
  kept = record { touched = has_page touched g; lies = lies g; assigned = block_of assigned g }

  pub charged_is : has_page charged g ≡ true → charged_row charged touched lies assigned g ≡ Some (record { touched = has_page touched g; lies = lies g; assigned = block_of assigned g })
  unfolding charged_row
  charged_is is = ap (λ (b : Bool). cond b (Some kept) None) is

  pub uncharged_is : has_page charged g ≡ false → charged_row charged touched lies assigned g ≡ None
  unfolding charged_row
  uncharged_is is = ap (λ (b : Bool). cond b (Some kept) None) is

  -- what a row says
  pub row_some : (row : ChargedPage) → charged_row charged touched lies assigned g ≡ Some row
      → (has_page charged g ≡ true) × (row ≡ record { touched = has_page touched g; lies = lies g; assigned = block_of assigned g })
  unfolding charged_row
  row_some row is = go (has_page charged g) is
    where
      go : (b : Bool) → cond b (Some kept) None ≡ Some row → (b ≡ true) × (row ≡ kept)
      go false none = absurd (none-some row none)
      go true some = (refl, cc)

  pub row_none : charged_row charged touched lies assigned g ≡ None → has_page charged g ≡ false
  unfolding charged_row
  row_none is = go (has_page charged g) is
    where
      go : (b : Bool) → cond b (Some kept) None ≡ None → b ≡ false
      go false none = refl
      go true some = absurd (none-some kept (sym some))

  -- of a charged page
  module _ (is : has_page charged g ≡ true) (lies' : Page → Option BlockId) (assigned' : List Assigned)
      (there : (h : Page) → same_page g h ≡ false → (lies' h ≡ lies h) × (block_of assigned' h ≡ block_of assigned h)) where
    abbrev kept' : ChargedPage
    kept' = record { touched = has_page touched g; lies = lies' g; assigned = block_of assigned' g }

    row_here : (x : ChargedPage) → x ≡ kept' → ◌≡◌ {A = Option ChargedPage} (Some x) (charged_row charged touched lies' assigned' g)
    unfolding charged_row
    row_here x same = ap Some same ∙ ap (λ (b : Bool). cond b (Some kept') None) (sym is)

    row_there : (h : Page) → same_page g h ≡ false → charged_row charged touched lies' assigned' h ≡ charged_row charged touched lies assigned h
    unfolding charged_row
    row_there h apart = λ i. cond (has_page charged h) (Some (record { touched = has_page touched h; lies = (there h apart).0 i; assigned = (there h apart).1 i })) None

    pub pages_changed : (config : Config) (old new : ChargedTable) (x : ChargedPage) → PagesFit config (charged_row charged touched lies assigned) old → IsTableSet old new g (Some x)
        → x ≡ record { touched = has_page touched g; lies = lies' g; assigned = block_of assigned' g } → PagesFit config (charged_row charged touched lies' assigned') new
    pages_changed config old new x fit changed same =
        pages_set config (charged_row charged touched lies assigned) (charged_row charged touched lies' assigned') old new g (Some x) fit changed (row_here x same) row_there

  -- a page is charged that wasn't: the others' rows are as they were
  pub row_beside : (h : Page) → same_page g h ≡ false → charged_row (g ∷ charged) touched lies assigned h ≡ charged_row charged touched lies assigned h
  unfolding charged_row
  row_beside h apart = ap (λ (b : Bool). cond (b || has_page charged h) (Some (record { touched = has_page touched h; lies = lies h; assigned = block_of assigned h })) None) (apart_back g h apart)

-- where a page lies shows in its own row
pub row_lies : (charged touched : List Page) (lies lies' : Page → Option BlockId) (assigned : List Assigned) (h : Page) → lies' h ≡ lies h → charged_row charged touched lies' assigned h ≡ charged_row charged touched lies assigned h
unfolding charged_row
row_lies charged touched lies lies' assigned h same = ap (λ (b : Option BlockId). cond (has_page charged h) (Some (record { touched = has_page touched h; lies = b; assigned = block_of assigned h })) None) same

-- a page that is charged now isn't touched, lies nowhere and has no block
pub row_fresh : (config : Config) (o : PastView) (a : Pager) (g : Page) → IsKept config o a → is_paged config g ≡ true → count_page a.charged g ≡ 0
    → charged_row (g ∷ a.charged) a.touched a.lies a.assigned g ≡ Some (record { touched = false; lies = None; assigned = None })
row_fresh config o a g kept paged none =
    let fits = kept.pages g in
    let untouched = none_listed a.touched g (omega (arith, fits.touched, none)) in
    let unassigned = no_block a.assigned g (omega (arith, fits.blocks, none)) in
    let nowhere = no_block_lies (a.lies g) (λ b lies. let one = fits.lying b paged lies in absurd (omega (arith, one, none))) in
    charged_is (g ∷ a.charged) a.touched a.lies a.assigned g (has_page_first a.charged g)
    ∙ (λ i. Some (record { touched = untouched i; lies = nowhere i; assigned = unassigned i }))
