-- Blocks when no flight is open: each is home and counted, and the pages that aren't dirty are written back.
use Rattle.std.proofs.Common.{◌≡◌, ℕ, zero, suc, ◌+◌, ◌<◌, ◌≤◌, ◌&&◌, ◌||◌, ◌⊎◌, Bool, true, false, List, [], Option, Some, None, is_some, slice_get, refl, sym, ap, ap₂, ◌∙◌, subst, inl, inr, arith, nat_lt}
use Rattle.std.specs.List.{list_any, range_with_len}
use Rattle.std.proofs.lemmas.Bool.{cases_eq, false≢true, true≢false}
use Rattle.std.proofs.lemmas.Option.{none-some}
use Rattle.vm_types.specs.BlockView.{BlockView}
use Rattle.vm_types.specs.Configuration.{IsBlock}
use Rattle.vm_types.specs.declared.names.SecId.{SecId}
use Rattle.vm_types.specs.declared.names.Page.TheVariants.{Shared}
use Rattle.vm_types.specs.declared.names.BlockId.{BlockId}
use Rattle.vm_types.specs.declared.names.BlockId.TheVariants as block
use Rattle.vm_types.specs.declared.config.Config.{Config}
use Rattle.vm_types.specs.declared.names.Page.{Page}
use Rattle.vm_journal.specs.declared.entry.Entry.{Entry}
use Rattle.content_laws.proofs.AtHome.{holder_inside}
use Rattle.content_laws.specs.Laws.{BlocksAreHome, BlocksAreWrittenBack, NowhereIsUncharged}
use Rattle.pager_laws.proofs.RunsAreSound.{run_kept}
use Rattle.pager_model.specs.Around.{frame_view, past_view}
use Rattle.pager_model.specs.Bytes.{now}
use Rattle.pager_model.specs.Content.{ContentFits, HasHomes, HasLying, IsSettled}
use Rattle.pager_model.specs.Flights.{Flight, awaits_reuse, has_failed_read, open_flights}
use Rattle.pager_model.specs.Forget.{holds_page}
use Rattle.pager_model.specs.Lookups.{count_page}
use Rattle.pager_model.specs.Maps.{paged_of, section_bytes, shared_of}
use Rattle.pager_model.specs.Pager.{Pager}
use Rattle.pager_model.specs.Run.{pager_after}
use Rattle.pager_model.specs.DirtyPages.{is_dirty}
use Rattle.pager_model.specs.CountedBlock.{IsCountedBlock}
use Rattle.pager_model.specs.Transfers.{reads_on, writes_on}
use Rattle.pager_rules.proofs.Basics.{no_failed_read, same_page_refl}
use Rattle.pager_rules.specs.Kept.{IsKept, saves}

each_false : (t : ℕ → Bool) (from n f : ℕ) → list_any t (range_with_len from n) ≡ false → from ≤ f → f < from + n → t f ≡ false
each_false t from zero f none low high = absurd (omega (arith, low, high))
each_false t from (suc n) f none low high = go (t from) refl none (cases_eq from f) (λ rest later. each_false t (from + 1) n f rest later (omega (arith, high)))
  where
    go : (b : Bool) → t from ≡ b → (b || list_any t (range_with_len (from + 1) n)) ≡ false → (from ≡ f) ⊎ (from ≡ f → ⊥) → (list_any t (range_with_len (from + 1) n) ≡ false → from + 1 ≤ f → t f ≡ false) → t f ≡ false
    go true is all here rest = absurd (true≢false all)
    go false is all (inl same) rest = sym (ap t same) ∙ is
    go false is all (inr apart) rest = rest all (omega (arith, low, apart))

module _ (tells tells_plan : Bool) (config : Config) (past : List Entry) (a : Pager) (buffer : ℕ → Option (List ℕ)) (home : BlockId → Option BlockView) (none : open_flights past ≡ []) (fits : ContentFits tells tells_plan config past a buffer home) where
  pub block_home : (b : BlockId) → IsBlock config b → (x : BlockView) × (home b ≡ Some x) × IsCountedBlock tells_plan config past b x
  block_home b is_block = go (home b) refl
    where
      homes : HasHomes config [] home
      homes = subst (λ (flights : List Flight). HasHomes config flights home) none fits.homes

      go : (o : Option BlockView) → home b ≡ o → (x : BlockView) × (home b ≡ Some x) × IsCountedBlock tells_plan config past b x
      go None at = absurd (false≢true (sym (ap is_some at) ∙ homes.blocks b is_block))
      go (Some x) at = (x, at, fits.counted b x at)

  -- a shared page that isn't dirty is written back
  pub shared_written : IsKept config (past_view past) a → tells ≡ true → (s : SecId) (i : ℕ) (b : BlockId) (x : BlockView) → home b ≡ Some x → shared_of (slice_get config.sections s.0) ≡ true → a.lies (Shared s i) ≡ Some b → is_dirty config a (Shared s i) ≡ false
      → x.content ≡ Some (now config past (Shared s i))
  shared_written kept told s i b x at shared lies clean = lying b x (Shared s i) shared at lies settled
    where
      lying : HasLying config (now config past) a.lies a.page a.modify [] home
      lying = subst (λ (flights : List Flight). HasLying config (now config past) a.lies a.page a.modify flights home) none (fits.lying told)

      settled : IsSettled a.page a.modify [] (Shared s i)
      settled f holds = (by (a.modify f) refl, refl)
        where
          here : (holds_page (Shared s i) (a.page f) && a.modify f) ≡ false
          here = each_false (λ (h : ℕ). holds_page (Shared s i) (a.page h) && a.modify h) 0 config.frames f clean (omega arith) (omega (arith, holder_inside config (past_view past) a f (Shared s i) kept holds))

          by : (m : Bool) → a.modify f ≡ m → a.modify f ≡ false
          by false is = is
          by true is = absurd (true≢false (sym (ap₂ (λ (h m : Bool). h && m) (ap (holds_page (Shared s i)) holds ∙ same_page_refl (Shared s i)) is) ∙ here))

  -- a block of a copy on reference section has its first bytes
  pub section_unwritten : tells ≡ true → (s : SecId) (i : ℕ) (x : BlockView) → home (block.Section s i) ≡ Some x → shared_of (slice_get config.sections s.0) ≡ false → x.content ≡ Some (section_bytes config s.0 i)
  section_unwritten told s i x at unshared = fits.copied told s i x at unshared

pub blocks_home : BlocksAreHome
blocks_home tells tells_plan config past buffer home none fits = block_home tells tells_plan config past (pager_after config past) buffer home none fits

pub blocks_written_back : BlocksAreWrittenBack
blocks_written_back tells tells_plan config past buffer home b told formed run none says fits at = (
  λ s i shared lies clean. shared_written tells tells_plan config past (pager_after config past) buffer home none fits (run_kept config past formed run) says s i b told at shared lies clean,
  λ s i is unshared. section_unwritten tells tells_plan config past (pager_after config past) buffer home none fits says s i told (ap home (sym is) ∙ at) unshared,
)

-- a page that is held with modify set is dirty
held_dirty : (config : Config) (past : List Entry) (a : Pager) (f : ℕ) (g : Page) → IsKept config (past_view past) a → a.page f ≡ Some g → a.modify f ≡ true → is_dirty config a g ≡ true
held_dirty config past a f g kept holds marked = go (is_dirty config a g) refl
  where
    go : (b : Bool) → is_dirty config a g ≡ b → is_dirty config a g ≡ true
    go true is = is
    go false is =
        let here = each_false (λ (h : ℕ). holds_page g (a.page h) && a.modify h) 0 config.frames f is (omega arith) (omega (arith, holder_inside config (past_view past) a f g kept holds)) in
        absurd (true≢false (sym (ap₂ (λ (h m : Bool). h && m) (ap (holds_page g) holds ∙ same_page_refl g) marked) ∙ here))

pub nowhere_uncharged : NowhereIsUncharged
nowhere_uncharged config past formed run none quiet s i shared clean nowhere = (by_kind (paged_of (slice_get config.sections s.0)) refl, uncharged (count_page a.charged (Shared s i)) refl)
  where
    a : Pager
    a = pager_after config past

    kept : IsKept config (past_view past) a
    kept = run_kept config past formed run

    by_kind : (c : Bool) → paged_of (slice_get config.sections s.0) ≡ c → paged_of (slice_get config.sections s.0) ≡ true
    by_kind true is = is
    by_kind false is = absurd (none-some _ (sym nowhere ∙ (kept.pages (Shared s i)).shared s i refl is))

    marked : (f : ℕ) → (m : Bool) → a.modify f ≡ m → saves (frame_view config (past_view past) a f) ≡ true → a.modify f ≡ true
    marked f true is saved = is
    marked f false is saved =
        let reads = ap (reads_on f) none in
        let writes = ap (writes_on f) none in
        let failed = no_failed_read past f quiet in
        absurd (true≢false (sym saved ∙ (ap (λ (m : Bool). m || (nat_lt 0 (reads_on f (open_flights past) + writes_on f (open_flights past)) || has_failed_read f past)) is
        ∙ ap₂ (λ (flights : List Flight) (b : Bool). nat_lt 0 (reads_on f flights + writes_on f flights) || b) none failed)))

    uncharged : (n : ℕ) → count_page a.charged (Shared s i) ≡ n → count_page a.charged (Shared s i) ≡ 0
    uncharged zero is = is
    uncharged (suc n) is =
        let found = kept.unsaved (Shared s i) (omega arith) nowhere in
        let set = marked found.0 (a.modify found.0) refl found.2 in
        absurd (true≢false (sym (held_dirty config past a found.0 (Shared s i) kept found.1 set) ∙ clean))
