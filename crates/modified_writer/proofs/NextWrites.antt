-- The next write of a cluster is the first of those that are left.
use Rattle.std.proofs.Common.{◌≡◌, ℕ, zero, suc, List, [], ◌∷◌, Option, Some, None, refl, sym, ap, ◌∙◌}
use Rattle.std.specs.Option.{option_map}
use Rattle.std.proofs.lemmas.Option.{none-some, same_Some}
use Rattle.vm_types.specs.declared.config.Config.{Config}
use Rattle.vm_types.specs.declared.names.BlockId.{BlockId}
use Rattle.vm_types.specs.declared.names.Page.{Page}
use Rattle.vm_types.specs.declared.names.Pfn.{Pfn}
use Rattle.vm_journal.specs.declared.entry.What.TheVariants as what
use Rattle.pager_model.specs.Lookups.{IsHead}
use Rattle.pager_model.specs.Pager.{Pager}
use Rattle.pager_policy.specs.WriteCluster.{block_out, writes_from, writes_taken}
use Rattle.modified_writer.specs.NextWrite.{next_write, write_to}

module _ (config : Config) (a : Pager) (last : Option BlockId) where
  -- the head of a list, and the block to which its page is written
  pub record IsNextWrite (xs : List ℕ) (f : Pfn) (b : BlockId) : Type 0 where
    pub head : IsHead xs f.0
    pub page : Page
    pub holds : a.page f.0 ≡ Some page
    pub block : block_out config a last (Some page) ≡ Some b

  -- ---- by what the head shows
  pub next_is : (xs : List ℕ) (f : Pfn) (o : Option Page) (c : Option BlockId) → IsHead xs f.0 → a.page f.0 ≡ o → c ≡ block_out config a last o → option_map (write_to f.0) c ≡ next_write config a last xs
  next_is xs f o c head holds is = ap (option_map (write_to f.0)) (is ∙ sym (ap (block_out config a last) holds)) ∙ sym (ap (next_write config a last) head.heads)

  -- ---- what is left
  pub next_found : (xs : List ℕ) (f : Pfn) (b : BlockId) → Some (f, b) ≡ next_write config a last xs → IsNextWrite xs f b
  next_found [] f b is = absurd (none-some _ (sym is))
  next_found (y ∷ ys) f b is = by (a.page y) refl (block_out config a last (a.page y)) refl is
    where
      there : (g : Page) → a.page y ≡ Some g → (d : BlockId) → block_out config a last (Some g) ≡ Some d → (f, b) ≡ (write_to y d) → IsNextWrite (y ∷ ys) f b
      there g holds d out same =
          let frame : y ≡ f.0 = ap (λ (w : Pfn × BlockId). (w.0).0) (sym same) in
          record {
            head = record { rest = ys; heads = ap (λ (z : ℕ). z ∷ ys) frame };
            page = g;
            holds = ap a.page (sym frame) ∙ holds;
            block = out ∙ ap (λ (w : Pfn × BlockId). Some w.1) (sym same);
          }

      by : (o : Option Page) → a.page y ≡ o → (c : Option BlockId) → block_out config a last o ≡ c → Some (f, b) ≡ option_map (write_to y) c → IsNextWrite (y ∷ ys) f b
      by o holds None out is = absurd (none-some _ (sym is))
      by None holds (Some d) out is = absurd (none-some _ out)
      by (Some g) holds (Some d) out is = there g holds d out (same_Some _ _ is)

  pub left_more : (m : ℕ) (xs fs : List ℕ) (f : Pfn) (b : BlockId) → IsNextWrite xs f b → xs ≡ f.0 ∷ fs → writes_from config a (suc m) last xs ≡ what.Out f b ∷ writes_from config a m (Some b) fs
  left_more m xs fs f b next is =
      ap (writes_from config a (suc m) last) is
      ∙ ap (λ (o : Option BlockId). writes_taken f.0 (suc m) o (λ (d : BlockId) (k : ℕ). writes_from config a k (Some d) fs)) (ap (block_out config a last) next.holds ∙ next.block)

  pub left_none : (m : ℕ) (xs : List ℕ) → None ≡ next_write config a last xs → writes_from config a m last xs ≡ []
  left_none m [] is = refl
  left_none zero (y ∷ ys) is = refl
  left_none (suc m) (y ∷ ys) is = by (block_out config a last (a.page y)) is
    where
      by : (o : Option BlockId) → None ≡ option_map (write_to y) o → writes_taken y (suc m) o (λ (d : BlockId) (k : ℕ). writes_from config a k (Some d) ys) ≡ []
      by None is = refl
      by (Some d) is = absurd (none-some _ is)

  pub left_full : (xs : List ℕ) → writes_from config a 0 last xs ≡ []
  left_full [] = refl
  left_full (y ∷ ys) = refl
