-- A page is charged no more: what is kept of charged pages, and the page file.
use Rattle.std.proofs.Common.{◌≡◌, ℕ, ◌+◌, ◌-◌, ◌≤◌, Bool, true, false, cond, not, List, [], ◌∷◌, Option, Some, None, length, count_by, refl, sym, ap, ◌∙◌, subst, arith}
use Rattle.std.proofs.lemmas.Bool.{false≢true}
use Rattle.std.proofs.lemmas.List.Filters.{length-filter_both}
use Rattle.std.proofs.lemmas.List.Sums.{length-filter}
use Rattle.vm_types.specs.Same.{same_page}
use Rattle.vm_types.specs.declared.config.Config.{Config}
use Rattle.vm_types.specs.declared.names.BlockId.{BlockId}
use Rattle.vm_types.specs.declared.names.Page.{Page}
use Rattle.page_file.specs.Blocks.{Blocks}
use Rattle.state_parts.specs.ChargedTable.{ChargedTable, IsTableSet}
use Rattle.pager_laws.proofs.KeptIsSound.{count_from_has, has_from_count, has_none, none_from_has}
use Rattle.pager_laws.proofs.ReuseKept.{uncharged_other, uncharged_own}
use Rattle.pager_model.specs.Changes.{without_page}
use Rattle.pager_model.specs.Lookups.{block_of, count_page, is_assigned_to}
use Rattle.pager_model.specs.Pager.{Assigned}
use Rattle.pager_model.specs.Sets.{has_page}
use Rattle.pager_rules.proofs.Basics.{count_cons, count_cons_yes, pages_equal, same_from_equal, same_page_refl}
use Rattle.pager_rules.proofs.Put.{page_apart}
use Rattle.state_fits.specs.File.{FileFits}
use Rattle.state_fits.specs.Pages.{PagesFit, charged_row}
use Rattle.state_fits.proofs.ChargedRows.{uncharged_is}
use Rattle.state_fits.proofs.PartsSet.{pages_set}

-- ---- counts
pub fewer_charged : (charged : List Page) (g : Page) → length (without_page charged g) + count_page charged g ≡ length charged
fewer_charged charged g =
    let both = length-filter_both (same_page g) (λ (x : Page). not (same_page g x)) (λ x. refl) charged in
    let own = length-filter (same_page g) charged in
    omega (arith, both, own)

pub other_count : (charged : List Page) (g h : Page) → (g ≡ h → ⊥) → count_page (without_page charged g) h ≡ count_page charged h
other_count charged g h apart = uncharged_other charged g h (page_apart h g (λ same. apart (sym same)))

-- assigned blocks are of charged pages, one at most of each
pub assigned_fit : (assigned : List Assigned) (charged : List Page) → ((h : Page) → count_by (is_assigned_to h) assigned ≤ count_page charged h) → ((h : Page) → count_page charged h ≤ 1) → length assigned ≤ length charged
assigned_fit [] charged within once = omega arith
assigned_fit (x ∷ assigned) charged within once = omega (arith, assigned_fit assigned (without_page charged x.page) rest fewer_once, fewer_charged charged x.page, within x.page, count_cons_yes (is_assigned_to x.page) x assigned (same_page_refl x.page))
  where
    each : (h : Page) (b : Bool) → same_page x.page h ≡ b → (count_by (is_assigned_to h) assigned ≤ count_page (without_page charged x.page) h) × (count_page (without_page charged x.page) h ≤ 1)
    each h true is =
        subst (λ (k : Page). (count_by (is_assigned_to k) assigned ≤ count_page (without_page charged x.page) k) × (count_page (without_page charged x.page) k ≤ 1)) (pages_equal x.page h is) (
          omega (arith, within x.page, once x.page, count_cons_yes (is_assigned_to x.page) x assigned (same_page_refl x.page), uncharged_own charged x.page),
          omega (arith, uncharged_own charged x.page),
        )
    each h false is =
        let same = other_count charged x.page h (λ equal. false≢true (sym is ∙ same_from_equal x.page h equal)) in
        (omega (arith, same, within h, count_cons (is_assigned_to h) x assigned), omega (arith, same, once h))

    rest : (h : Page) → count_by (is_assigned_to h) assigned ≤ count_page (without_page charged x.page) h
    rest h = (each h (same_page x.page h) refl).0

    fewer_once : (h : Page) → count_page (without_page charged x.page) h ≤ 1
    fewer_once h = (each h (same_page x.page h) refl).1

-- ---- the parts
has_same : (charged charged' : List Page) (h : Page) → count_page charged' h ≡ count_page charged h → has_page charged' h ≡ has_page charged h
has_same charged charged' h same = go (has_page charged h) refl
  where
    go : (b : Bool) → has_page charged h ≡ b → has_page charged' h ≡ has_page charged h
    go true is = has_from_count charged' h (let some = count_from_has charged h is in omega (arith, some, same)) ∙ sym is
    go false is = has_none charged' h (same ∙ none_from_has charged h is) ∙ sym is

module _ (charged touched : List Page) (lies : Page → Option BlockId) (assigned : List Assigned) (g : Page) where
  row_other : (h : Page) → same_page g h ≡ false → charged_row (without_page charged g) touched lies assigned h ≡ charged_row charged touched lies assigned h
  unfolding charged_row
  row_other h apart =
      ap (λ (b : Bool). cond b (Some (record { touched = has_page touched h; lies = lies h; assigned = block_of assigned h })) None)
      (has_same charged (without_page charged g) h (other_count charged g h (λ equal. false≢true (sym apart ∙ same_from_equal g h equal))))

  pub pages_uncharged : (config : Config) (old new : ChargedTable) → PagesFit config (charged_row charged touched lies assigned) old → IsTableSet old new g None
      → PagesFit config (charged_row (without_page charged g) touched lies assigned) new
  pages_uncharged config old new fit changed =
      pages_set config (charged_row charged touched lies assigned) (charged_row (without_page charged g) touched lies assigned) old new g None fit changed
      (sym (uncharged_is (without_page charged g) touched lies assigned g (has_none (without_page charged g) g (uncharged_own charged g)))) row_other

pub file_uncharged : (charged : List Page) (g : Page) (assigned : ℕ) (owner : ℕ → Option Page) (n : ℕ) (file : Blocks) → count_page charged g ≡ 1 → FileFits (length charged) assigned owner n file
    → FileFits (length (without_page charged g)) assigned owner n (record file { charged = file.charged - 1 })
file_uncharged charged g assigned owner n file one fit = record {
  count = fit.count;
  charges = let fewer = fewer_charged charged g in omega (arith, fewer, one, fit.charges);
  blocks = fit.blocks;
  owners = fit.owners;
}
