-- The page file block of a page that is written: what is kept of the page, and the page file.
use Rattle.std.proofs.Common.{◌≡◌, ℕ, ◌<◌, Bool, true, false, cond, List, ◌∷◌, Option, Some, None, length, nat_eq, count_by, slice_set, refl, sym, ap, ◌∙◌, subst, inl, inr, arith, length-set}
use Rattle.std.specs.Prelude.{is_some}
use Rattle.std.specs.Option.{option_map}
use Rattle.std.proofs.lemmas.Bool.{eq-eqb, eqb-true, ne_eqb, true≢false, false≢true}
use Rattle.std.proofs.lemmas.List.{get_or-set_same, get_or-set_other}
use Rattle.std.proofs.lemmas.Option.{none-some, slice_get-get_or}
use Rattle.vm_types.specs.declared.config.Config.{Config}
use Rattle.vm_types.specs.declared.names.BlockId.{BlockId}
use Rattle.vm_types.specs.declared.names.BlockId.TheVariants as block
use Rattle.vm_types.specs.declared.names.Page.{Page}
use Rattle.vm_types.specs.declared.names.Page.TheVariants.{Private, Shared}
use Rattle.vm_types.specs.declared.names.SecId.{SecId}
use Rattle.page_file.specs.Blocks.{Blocks, owner_of}
use Rattle.state_parts.specs.ChargedTable.{ChargedTable, IsTableSet, kept_at}
use Rattle.state_parts.specs.declared.charged_page.ChargedPage.{ChargedPage}
use Rattle.pager_model.specs.Around.{PageView, PastView, page_view}
use Rattle.pager_model.specs.Lookups.{block_of, is_assigned_to, is_owner}
use Rattle.pager_model.specs.Maps.{is_paged}
use Rattle.pager_model.specs.Out.{IsOutBlock, assigned_with}
use Rattle.pager_model.specs.Pager.{Assigned, Pager}
use Rattle.pager_model.specs.Sets.{has_page}
use Rattle.pager_rules.proofs.Basics.{count_set, find_cons_no, find_cons_yes, find_none_from_count, nat_eq_refl, same_page_refl}
use Rattle.pager_rules.proofs.Put.{no_block, no_blocks}
use Rattle.pager_rules.specs.Kept.{FitsPage, IsKept}
use Rattle.state_fits.specs.File.{FileFits, has_block, owner_in}
use Rattle.state_fits.specs.Pages.{PagesFit, charged_row}
use Rattle.state_fits.specs.Writes.{block_taken, given_row, taken_by, taken_if, with_block}
use Rattle.state_fits.proofs.ChargedRows.{charged_is, counted_page, pages_changed}
use Rattle.state_fits.proofs.OnePlace.{apart_back, at_each}
use Rattle.state_fits.proofs.PartsSet.{pages_kept}

-- ---- the page file, with one assignment more
pub file_given : (charged : ℕ) (assigned : List Assigned) (n : ℕ) (file : Blocks) (g : Page) (b : ℕ) → FileFits charged (length assigned) (owner_in assigned) n file → b < n → owner_in assigned b ≡ None
    → FileFits charged (length (record { page = g; block = b } ∷ assigned)) (owner_in (record { page = g; block = b } ∷ assigned)) n (record file { owners = slice_set file.owners b (Some g) })
file_given charged assigned n file g b fit below free = record {
  count = length-set file.owners b (Some g) ∙ fit.count;
  charges = fit.charges;
  blocks =
      let more = count_set is_some file.owners b None (Some g) (slice_get-get_or file.owners b None within ∙ ap Some (fit.owners b ∙ free)) refl in
      omega (arith, more, fit.blocks);
  owners = at_each (λ c. owner_of (record file { owners = slice_set file.owners b (Some g) }) c ≡ owner_in (now ∷ assigned) c) b
      (get_or-set_same file.owners b (Some g) None within ∙ ap (option_map (λ (x : Assigned). x.page)) (sym (find_cons_yes (has_block b) now assigned (nat_eq_refl b))))
      (λ c apart. get_or-set_other file.owners b c (Some g) None (λ e. apart (sym e)) ∙ (fit.owners c ∙ ap (option_map (λ (x : Assigned). x.page)) (sym (find_cons_no (has_block c) now assigned (ne_eqb b c apart)))));
}
  where
    now : Assigned
    now = record { page = g; block = b }

    within : b < length file.owners
    within = omega (arith, below, fit.count)

-- ---- the page that is written
-- a shared page lies in its section's block
not_in_file : (s : SecId) (i : ℕ) (view : PageView) (n : ℕ) → FitsPage (Shared s i) view → view.paged ≡ false → view.lies ≡ Some (block.PageFile n) → ⊥
not_in_file s i view n fits file lies = let there = fits.shared s i refl file in cc

module _ (config : Config) (o : PastView) (a : Pager) (f : ℕ) (kept : IsKept config o a) (table : ChargedTable) (fit : PagesFit config (charged_row a.charged a.touched a.lies a.assigned) table) where
  abbrev IsGivenRow : BlockId → Page → ChargedTable → Type 0
  IsGivenRow d x new = IsTableSet table new x (given_row d (kept_at table x))

  -- a page is given block b, or has it
  module _ (g : Page) (b : ℕ) (holds : a.page f ≡ Some g) (paged : is_paged config g ≡ true) where
    abbrev row : ChargedPage
    row = record { touched = has_page a.touched g; lies = a.lies g; assigned = block_of a.assigned g }

    charged : has_page a.charged g ≡ true
    charged = counted_page a.charged g (kept.held_charged f g paged holds)

    read : kept_at table g ≡ Some row
    read = fit.each g ∙ charged_is a.charged a.touched a.lies a.assigned g charged

    written : (new : ChargedTable) → IsGivenRow (block.PageFile b) g new → IsTableSet table new g (Some (record row { assigned = Some b }))
    written new given = subst (λ (c : Option ChargedPage). IsTableSet table new g (option_map (with_block b) c)) read given

    pages_had : (new : ChargedTable) → block_of a.assigned g ≡ Some b → IsGivenRow (block.PageFile b) g new → PagesFit config (charged_row a.charged a.touched a.lies a.assigned) new
    pages_had new has given =
        pages_changed a.charged a.touched a.lies a.assigned g charged a.lies a.assigned (λ h apart. (refl, refl)) config table new (record row { assigned = Some b }) fit (written new given)
        (λ i. record { touched = row.touched; lies = row.lies; assigned = sym has i })

    pages_new : (new : ChargedTable) → IsGivenRow (block.PageFile b) g new → PagesFit config (charged_row a.charged a.touched a.lies (record { page = g; block = b } ∷ a.assigned)) new
    pages_new new given =
        pages_changed a.charged a.touched a.lies a.assigned g charged a.lies (now ∷ a.assigned)
        (λ h apart. (refl, ap (option_map (λ (x : Assigned). x.block)) (find_cons_no (is_assigned_to h) now a.assigned (apart_back g h apart))))
        config table new (record row { assigned = Some b }) fit (written new given)
        (λ i. record { touched = row.touched; lies = row.lies; assigned = ap (option_map (λ (x : Assigned). x.block)) (sym (find_cons_yes (is_assigned_to g) now a.assigned (same_page_refl g))) i })
      where
        now : Assigned
        now = record { page = g; block = b }

    taken : (blocks : Blocks) (c : Option ℕ) → block_of a.assigned g ≡ c → block_taken (block.PageFile b) g (kept_at table g) blocks ≡ taken_if c g b blocks
    taken blocks c is = ap (λ (r : Option ChargedPage). taken_by r g b blocks) read ∙ ap (λ (e : Option ℕ). taken_if e g b blocks) is

  -- a page that isn't paged lies in no page file block
  not_paged : (x : Page) (b : ℕ) → is_paged config x ≡ false → a.lies x ≡ Some (block.PageFile b) → ⊥
  not_paged (Private p v) b paged lies = true≢false paged
  not_paged (Shared s i) b paged lies = not_in_file s i (page_view config a (Shared s i)) b (kept.pages (Shared s i)) paged lies

  -- of each kind of block
  module _ (blocks : Blocks) (file : FileFits (length a.charged) (length a.assigned) (owner_in a.assigned) config.pagefile blocks) where
    abbrev IsGiven : BlockId → Page → List Assigned → ChargedTable → Type 0
    IsGiven d x more new =
        PagesFit config (charged_row a.charged a.touched a.lies more) new × FileFits (length a.charged) (length more) (owner_in more) config.pagefile (block_taken d x (kept_at table x) blocks)

    given_file : (x : Page) (b : ℕ) (new : ChargedTable) → a.page f ≡ Some x → IsOutBlock config a (block.PageFile b) x → IsGivenRow (block.PageFile b) x new
        → (c : Bool) → nat_eq (count_by (is_assigned_to x) a.assigned) 0 ≡ c → IsGiven (block.PageFile b) x (cond c (record { page = x; block = b } ∷ a.assigned) a.assigned) new
    given_file x b new holds (inl section) given c is = absurd (not_paged x b section.0 section.1)
    given_file x b new holds (inr (inl had)) given true is = absurd (none-some had.0 (sym (no_block a.assigned x (eqb-true _ _ is)) ∙ had.2))
    given_file x b new holds (inr (inl had)) given false is =
        let same : had.0 ≡ b = let e = had.3 in cc in (
          pages_had x b holds had.1 new (had.2 ∙ ap Some same) given,
          subst (FileFits (length a.charged) (length a.assigned) (owner_in a.assigned) config.pagefile) (sym (taken x b holds had.1 blocks (Some had.0) had.2)) file,
        )
    given_file x b new holds (inr (inr free)) given false is = absurd (false≢true (sym is ∙ eq-eqb _ _ (no_blocks a.assigned x free.2)))
    given_file x b new holds (inr (inr free)) given true is =
        let same : free.0 ≡ b = let e = free.3 in cc in
        let none : count_by (is_owner (block.PageFile b)) a.assigned ≡ 0 = subst (λ (m : ℕ). count_by (is_owner (block.PageFile m)) a.assigned ≡ 0) same free.5 in (
          pages_new x b holds free.1 new given,
          subst (FileFits (length a.charged) (length (record { page = x; block = b } ∷ a.assigned)) (owner_in (record { page = x; block = b } ∷ a.assigned)) config.pagefile) (sym (taken x b holds free.1 blocks None free.2))
              (file_given (length a.charged) a.assigned config.pagefile blocks x b file (subst (λ (m : ℕ). m < config.pagefile) same free.4) (ap (option_map (λ (x : Assigned). x.page)) (find_none_from_count (has_block b) a.assigned none))),
        )

    pub given_block : (d : BlockId) (x : Page) (new : ChargedTable) → a.page f ≡ Some x → IsOutBlock config a d x → IsGivenRow d x new → IsGiven d x (assigned_with a.assigned (Some x) d) new
    given_block (block.Section s i) x new holds why given = (pages_kept config (charged_row a.charged a.touched a.lies a.assigned) table new x (kept_at table x) fit given (fit.each x), file)
    given_block (block.Swap q i) x new holds why given = (pages_kept config (charged_row a.charged a.touched a.lies a.assigned) table new x (kept_at table x) fit given (fit.each x), file)
    given_block (block.PageFile b) x new holds why given = given_file x b new holds why given (nat_eq (count_by (is_assigned_to x) a.assigned) 0) refl
