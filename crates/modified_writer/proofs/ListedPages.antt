-- The modified list's head, the page that it holds, and the block to which that is written.
use Rattle.std.proofs.Common.{◌≡◌, ℕ, ◌+◌, ◌<◌, ◌≤◌, Bool, true, false, cond, not, filter, List, ◌∷◌, Option, Some, None, find, length, nat_eq, refl, sym, ap, ◌∙◌, arith}
use Rattle.std.specs.List.{range_with_len}
use Rattle.std.specs.Option.{option_map}
use Rattle.std.proofs.lemmas.Option.{none-some, same_Some}
use Rattle.vm_types.specs.Configuration.{IsWellFormed}
use Rattle.vm_types.specs.declared.config.Config.{Config}
use Rattle.vm_types.specs.declared.names.BlockId.{BlockId}
use Rattle.vm_types.specs.declared.names.BlockId.TheVariants as block
use Rattle.vm_types.specs.declared.names.FrameState.TheVariants as state
use Rattle.vm_types.specs.declared.names.Page.{Page}
use Rattle.vm_types.specs.declared.names.Page.TheVariants.{Private, Shared}
use Rattle.vm_types.specs.declared.names.Proc.{Proc}
use Rattle.vm_journal.specs.declared.entry.Entry.{Entry}
use Rattle.page_lists.specs.Lists.{count_of, without}
use Rattle.pfn_database.specs.declared.row.Row.{Row}
use Rattle.pager_model.specs.Around.{frame_view, past_view}
use Rattle.vm_types.specs.BlockOrder.{is_next_block, if_next}
use Rattle.pager_model.specs.Lookups.{IsHead, block_of}
use Rattle.pager_model.specs.Maps.{is_paged}
use Rattle.pager_model.specs.OfConfig.{IsPageOf}
use Rattle.pager_model.specs.Pager.{Pager}
use Rattle.pager_model.specs.Run.{IsRun, pager_after}
use Rattle.pager_policy.specs.WriteCluster.{block_out, filed_block, is_free_block, new_block, paged_block}
use Rattle.pager_rules.proofs.Basics.{count_cons_yes, nat_eq_refl}
use Rattle.pager_rules.proofs.Frames.{modified_frame}
use Rattle.pager_rules.proofs.Lists.{filter_all}
use Rattle.pager_rules.proofs.Put.{head_counts, no_blocks}
use Rattle.pager_rules.specs.Kept.{IsKept, one_if}
use Rattle.pager_laws.proofs.OfConfigKept.{run_right}
use Rattle.pager_laws.proofs.RunsAreSound.{run_kept}
use Rattle.pager_laws.proofs.FewAssigned.{one_unassigned}
use Rattle.pager_laws.proofs.Holders.{good_within}
use Rattle.vm_state.specs.History.{History, pager}
use Rattle.vm_state.specs.PageReadings.{IsKnown}
use Rattle.vm_state.specs.Readings.{row_at}
use Rattle.call_begins.proofs.Rows.{row_page}

-- a block that is fixed stays the same
fixed : (last : Option BlockId) (b c : BlockId) → if_next last b ≡ Some c → b ≡ c
fixed None b c is = same_Some b c is
fixed (Some l) b c is = go (is_next_block l b) is
  where
    go : (n : Bool) → cond n (Some b) None ≡ Some c → b ≡ c
    go false is = absurd (none-some c is)
    go true is = same_Some b c is

-- the page that the row of a frame shows
pub row_holds : (s : History) (f : ℕ) (row : Row) (o : Option Page) → row ≡ row_at s f → row.page ≡ o → (pager s).page f ≡ o
row_holds s f row o is holds = sym (row_page s f) ∙ (ap (λ (z : Row). z.page) (sym is) ∙ holds)

module _ (config : Config) (past : List Entry) (formed : IsWellFormed config) (run : IsRun config past) where
  abbrev now : Pager
  now = pager_after config past

  kept : IsKept config (past_view past) now
  kept = run_kept config past formed run

  pub listed_within : (f : ℕ) → IsHead now.modified f → f < config.frames
  listed_within f head =
      good_within config (past_view past) now f state.Modified kept (modified_frame (frame_view config (past_view past) now f) (kept.frames f) (head_counts now.modified f head)) refl

  -- a frame stands once on the list
  module _ (f : ℕ) (fs : List ℕ) (is : now.modified ≡ f ∷ fs) where
    pub none_behind : count_of fs f ≡ 0
    none_behind = omega (arith, once, count_cons_yes (λ (g : ℕ). nat_eq g f) f fs (nat_eq_refl f))
      where
        at_most : (n : ℕ) (b : Bool) → n ≡ one_if b → n ≤ 1
        at_most n true same = omega (arith, same)
        at_most n false same = omega (arith, same)

        once : count_of (f ∷ fs) f ≤ 1
        once = at_most (count_of (f ∷ fs) f) _ (sym (ap (λ (xs : List ℕ). count_of xs f) is) ∙ (kept.frames f).on_modified)

    pub tail_without : without now.modified f ≡ fs
    tail_without = ap (λ (xs : List ℕ). without xs f) is ∙ (drops ∙ filter_all (λ (g : ℕ). nat_eq g f) fs none_behind)
      where
        drops : without (f ∷ fs) f ≡ filter (λ (g : ℕ). not (nat_eq g f)) fs
        drops = ap (λ (b : Bool). cond (not b) (f ∷ filter (λ (g : ℕ). not (nat_eq g f)) fs) (filter (λ (g : ℕ). not (nat_eq g f)) fs)) (nat_eq_refl f)

  -- a page that a frame holds is known
  pub held_known : (f : ℕ) (g : Page) → now.page f ≡ Some g → IsKnown config g
  held_known f g holds = known_page g ((run_right config past formed run).held f g holds)
    where
      known_page : (g : Page) → IsPageOf config g → IsKnown config g
      known_page (Private p v) of = tt
      known_page (Shared s i) of = of.0

  -- a page that a frame holds and that has no block: one is charged for it
  pub block_left : (f : ℕ) (g : Page) → now.page f ≡ Some g → is_paged config g ≡ true → block_of now.assigned g ≡ None → length now.assigned < length now.charged
  block_left f g holds paged none = one_unassigned config (past_view past) now g kept (kept.held_charged f g paged holds) (no_blocks now.assigned g none)

  -- a listed page isn't written to a swap block
  module _ (p : Proc) (n : ℕ) where
    new_no_swap : (last : Option BlockId) → new_block config now last ≡ Some (block.Swap p n) → ⊥
    new_no_swap None is = by (find (is_free_block config now) (range_with_len 0 config.pagefile)) is
      where
        by : (o : Option ℕ) → option_map block.PageFile o ≡ Some (block.Swap p n) → ⊥
        by None is = none-some _ is
        by (Some k) is = cc
    new_no_swap (Some (block.PageFile k)) is = by (is_free_block config now (k + 1)) is
      where
        by : (b : Bool) → cond b (Some (block.PageFile (k + 1))) None ≡ Some (block.Swap p n) → ⊥
        by false is = none-some _ is
        by true is = cc
    new_no_swap (Some (block.Section s i)) is = none-some _ is
    new_no_swap (Some (block.Swap q k)) is = none-some _ is

    paged_no_swap : (last : Option BlockId) (o : Option ℕ) → paged_block config now last o ≡ Some (block.Swap p n) → ⊥
    paged_no_swap last None is = new_no_swap last is
    paged_no_swap last (Some m) is = let same = fixed last (block.PageFile m) (block.Swap p n) is in cc

    pub no_swap : (last : Option BlockId) (g : Page) → block_out config now last (Some g) ≡ Some (block.Swap p n) → ⊥
    no_swap last (Private q v) is = paged_no_swap last (block_of now.assigned (Private q v)) is
    no_swap last (Shared s i) is = by (is_paged config (Shared s i)) refl is
      where
        by : (c : Bool) → is_paged config (Shared s i) ≡ c → cond c (paged_block config now last (block_of now.assigned (Shared s i))) (filed_block last (now.lies (Shared s i))) ≡ Some (block.Swap p n) → ⊥
        by true paged is = paged_no_swap last (block_of now.assigned (Shared s i)) is
        by false file is = let same = fixed last (block.Section s i) (block.Swap p n) (ap (filed_block last) (sym ((kept.pages (Shared s i)).shared s i refl file)) ∙ is) in cc
