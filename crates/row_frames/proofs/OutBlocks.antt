-- The page file block to which a paged page is written.
use Rattle.std.proofs.Common.{◌≡◌, ◌↔◌, ◌⊎◌, ℕ, ◌<◌, true, Some, None, count_by, refl, sym, ap, subst, ◌∙◌, inl, inr}
use Rattle.std.proofs.lemmas.Bool.{false≢true}
use Rattle.vm_types.specs.declared.config.Config.{Config}
use Rattle.vm_types.specs.declared.names.BlockId.{BlockId}
use Rattle.vm_types.specs.declared.names.BlockId.TheVariants as block
use Rattle.vm_types.specs.declared.names.Page.{Page}
use Rattle.pager_model.specs.Lookups.{block_of, is_owner}
use Rattle.pager_model.specs.Maps.{is_paged}
use Rattle.pager_model.specs.Out.{IsOutBlock}
use Rattle.pager_model.specs.Pager.{Pager}

abbrev number_in : BlockId → ℕ
number_in (block.PageFile n) = n
number_in other = 0

abbrev IsOwnBlock : Config → Pager → Page → ℕ → Type 0
IsOwnBlock config a g n =
    (block_of a.assigned g ≡ Some n) ⊎ ((block_of a.assigned g ≡ None) × (n < config.pagefile) × (count_by (is_owner (block.PageFile n)) a.assigned ≡ 0))

own_out : (config : Config) (a : Pager) (g : Page) (n : ℕ) → is_paged config g ≡ true → IsOwnBlock config a g n → IsOutBlock config a (block.PageFile n) g
own_out config a g n paged (inl is) = inr (inl (n, paged, is, refl))
own_out config a g n paged (inr new) = inr (inr (n, paged, new.0, refl, new.1, new.2))

out_own : (config : Config) (a : Pager) (g : Page) (n : ℕ) → is_paged config g ≡ true → IsOutBlock config a (block.PageFile n) g → IsOwnBlock config a g n
out_own config a g n paged (inl shared) = absurd (false≢true (sym shared.0 ∙ paged))
out_own config a g n paged (inr (inl w)) = inl (w.2 ∙ ap Some (sym (ap number_in w.3)))
out_own config a g n paged (inr (inr w)) =
    let same : w.0 ≡ n = sym (ap number_in w.3) in
    inr (w.2, subst (λ (k : ℕ). k < config.pagefile) same w.4, subst (λ (k : ℕ). count_by (is_owner (block.PageFile k)) a.assigned ≡ 0) same w.5)

pub own_blocks : (config : Config) (a : Pager) (g : Page) (n : ℕ) (T : Type 0) → is_paged config g ≡ true
    → (T ↔ ((block_of a.assigned g ≡ Some n) ⊎ ((block_of a.assigned g ≡ None) × (n < config.pagefile) × (count_by (is_owner (block.PageFile n)) a.assigned ≡ 0))))
    → (T ↔ IsOutBlock config a (block.PageFile n) g)
own_blocks config a g n T paged both = (λ t. own_out config a g n paged (both.0 t), λ w. both.1 (out_own config a g n paged w))
