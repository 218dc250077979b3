-- Between two moves a page that is held with its modify mark set is in a slot or on the modified list; where neither has a
-- shared page, none is dirty.
use Rattle.std.proofs.Common.{◌≡◌, ◌⊎◌, inl, inr, ℕ, suc, ◌+◌, ◌<◌, ◌&&◌, ◌||◌, Bool, true, false, not, cond, List, [], ◌∷◌, ◌++◌, Option, Some, None, count_by, filter, find, map, nat_eq, slice_get, refl, sym, ap, ◌∙◌, arith}
use Rattle.std.specs.List.{AllByRecursion, list_any, range_with_len}
use Rattle.std.proofs.lemmas.Bool.{and_from, eqb-true, false≢true}
use Rattle.std.proofs.lemmas.Option.{none-some, same_Some}
use Rattle.vm_types.specs.Configuration.{section_pages}
use Rattle.vm_types.specs.Kinds.{is_shared_kind}
use Rattle.vm_types.specs.Ring.{Held}
use Rattle.vm_types.specs.declared.names.FrameState.{FrameState}
use Rattle.vm_types.specs.declared.names.FrameState.TheVariants as state
use Rattle.vm_types.specs.declared.names.Page.{Page}
use Rattle.vm_types.specs.declared.names.Page.TheVariants.{Shared}
use Rattle.vm_types.specs.declared.config.Config.{Config}
use Rattle.vm_types.specs.declared.config.Section.{Section}
use Rattle.vm_journal.specs.declared.entry.Entry.{Entry}
use Rattle.page_lists.specs.Lists.{count_of}
use Rattle.pager_model.specs.Around.{past_view}
use Rattle.pager_model.specs.Flights.{open_flights}
use Rattle.pager_model.specs.Forget.{holds_page}
use Rattle.pager_policy.specs.Given.{Seen, seen_at, seen_by, seen_in, seen_page}
use Rattle.pager_model.specs.Lookups.{passes, entry_of, has_vpn, is, is_entry, shares, slot_of}
use Rattle.pager_model.specs.Maps.{is_private}
use Rattle.pager_model.specs.Pager.{Pager, Valid}
use Rattle.pager_model.specs.Run.{pager_after}
use Rattle.pager_policy.specs.Rundown.{holds_shared}
use Rattle.pager_policy.specs.Swap.{is_shared_seen}
use Rattle.pager_model.specs.DirtyPages.{dirty_pages, is_dirty, pages_from}
use Rattle.pager_model.specs.Transfers.{writes_on}
use Rattle.pager_rules.proofs.Basics.{count_cons, nat_eq_refl, none_passes, pages_equal}
use Rattle.pager_rules.proofs.Lists.{all_found, count_found, found_one, found_passes}
use Rattle.pager_rules.specs.Kept.{HasMark, FitsState, HasShares, HasWrites, IsForItsPage, IsKept, one_if}
use Rattle.pager_laws.proofs.RunsAreSound.{run_kept}
use Rattle.pager_laws.proofs.ValidEntries.{IsValidAt, valid_at_page}
use Rattle.serial_laws.specs.Between.{IsBetween}
use Rattle.policy_ends.specs.Clean.{NoneSharedLeft}
use Rattle.policy_ends.specs.Dirty.{StaysInSlot}

-- ---- lists
or_first : (b c : Bool) → b ≡ true → (b || c) ≡ true
or_first true c is = refl
or_first false c is = absurd (false≢true is)

or_second : (b c : Bool) → c ≡ true → (b || c) ≡ true
or_second true c is = refl
or_second false c is = is

-- a number that counts in a list and passes
pub listed_passes : (t : ℕ → Bool) (xs : List ℕ) (f : ℕ) → 0 < count_of xs f → t f ≡ true → list_any t xs ≡ true
listed_passes t [] f some passing = absurd (omega (arith, some))
listed_passes t (x ∷ xs) f some passing = by (nat_eq x f) refl (count_cons (λ (y : ℕ). nat_eq y f) x xs) (λ more. listed_passes t xs f more passing)
  where
    by : (b : Bool) → nat_eq x f ≡ b → count_of (x ∷ xs) f ≡ cond b 1 0 + count_of xs f → (0 < count_of xs f → list_any t xs ≡ true) → (t x || list_any t xs) ≡ true
    by true same count rest = or_first (t x) (list_any t xs) (ap t (eqb-true x f same) ∙ passing)
    by false other count rest = or_second (t x) (list_any t xs) (rest (omega (arith, some, count)))

-- a slot for a page number that some slot has
record HasSlot (xs : List (Option Held)) (v : ℕ) : Type 0 where
  pub slot : ℕ
  pub held : Held
  pub is : slice_get xs slot ≡ Some (Some held)
  pub vpn : held.vpn ≡ v

slot_found : (xs : List (Option Held)) (v : ℕ) → 0 < count_by (has_vpn v) xs → HasSlot xs v
slot_found [] v some = absurd (omega (arith, some))
slot_found (o ∷ xs) v some = by (has_vpn v o) refl (count_cons (has_vpn v) o xs) (slot_found xs v)
  where
    here : (x : Option Held) → has_vpn v x ≡ true → HasSlot (x ∷ xs) v
    here None is = absurd (false≢true is)
    here (Some held) is = record { slot = 0; held = held; is = refl; vpn = eqb-true held.vpn v is }

    later : HasSlot xs v → HasSlot (o ∷ xs) v
    later found = record { slot = suc found.slot; held = found.held; is = found.is; vpn = found.vpn }

    by : (b : Bool) → has_vpn v o ≡ b → count_by (has_vpn v) (o ∷ xs) ≡ cond b 1 0 + count_by (has_vpn v) xs → (0 < count_by (has_vpn v) xs → HasSlot xs v) → HasSlot (o ∷ xs) v
    by true is count rest = here o is
    by false is count rest = later (rest (omega (arith, some, count)))

pub held_page : (g : Page) (o : Option Page) → holds_page g o ≡ true → o ≡ Some g
held_page g None same = absurd (false≢true same)
held_page g (Some h) same = ap Some (pages_equal h g same)

module _ (config : Config) (past : List Entry) (between : IsBetween config past) where
  abbrev a : Pager
  a = pager_after config past

  kept : IsKept config (past_view past) a
  kept = run_kept config past between.formed between.run

  module _ (f : ℕ) (g : Page) (holds : a.page f ≡ Some g) (dirty : a.modify f ≡ true) where
    -- ---- a page that entries share stands in a slot
    shown : 0 < shares a.valid f → StaysInSlot a g
    shown some = by (found_one (λ (e : Valid). nat_eq e.frame f) a.valid some)
      where
        by_known : (e x : Valid) → e.frame ≡ f → IsForItsPage config a.map a.page e → 0 < count_by (is_entry e.proc e.vpn) a.valid → entry_of a.valid e.proc e.vpn ≡ Some x → StaysInSlot a g
        by_known e x at its some_here valid = record { process = e.proc; slot = slot.slot; seen = there; is = seen; page = same_page }
          where
            known : IsValidAt config a e.proc e.vpn x
            known = valid_at_page config past a e.proc e.vpn x kept valid

            same_page : known.page ≡ g
            same_page = same_Some known.page its.0 (sym known.mapped ∙ its.1) ∙ same_Some its.0 g (sym its.2 ∙ (ap a.page at ∙ holds))

            slot : HasSlot (a.ring e.proc).slots e.vpn
            slot = slot_found (a.ring e.proc).slots e.vpn (let slots = (kept.entries e.proc e.vpn).slots in omega (arith, slots, some_here))

            there : Seen
            there = record { vpn = slot.held.vpn; frame = x.frame; page = known.page; pinned = slot.held.pinned }

            seen : seen_at a e.proc slot.slot ≡ Some there
            seen =
                ap (λ (o : Option (Option Held)). seen_in a e.proc (slot_of o)) slot.is
                ∙ (ap (seen_by a slot.held) (ap (entry_of a.valid e.proc) slot.vpn ∙ valid) ∙ ap (seen_page slot.held x.frame) known.holds)

        by : (e : Valid) × (find (λ (y : Valid). nat_eq y.frame f) a.valid ≡ Some e) → StaysInSlot a g
        by found =
            let e : Valid = found.0 in
            let at : e.frame ≡ f = eqb-true e.frame f (found_passes (λ (y : Valid). nat_eq y.frame f) a.valid e found.1) in
            let its = all_found (IsForItsPage config a.map a.page) (λ (y : Valid). nat_eq y.frame f) a.valid e kept.valid found.1 in
            let some_here = count_found (is_entry e.proc e.vpn) (λ (y : Valid). nat_eq y.frame f) a.valid e found.1 (and_from _ _ (nat_eq_refl e.proc) (nat_eq_refl e.vpn)) in
            let there = found_one (is_entry e.proc e.vpn) a.valid some_here in
            by_known e there.0 at its some_here there.1

    no_writes : writes_on f (open_flights past) ≡ 0
    no_writes = ap (writes_on f) between.landed

    abbrev Somewhere : Type 0
    Somewhere = StaysInSlot a g ⊎ (0 < count_of a.modified f)

    by_state : (s : FrameState) → HasShares s (shares a.valid f) → HasWrites s (writes_on f (open_flights past)) → FitsState s (a.page f) → HasMark s (a.modify f) → count_of a.modified f ≡ one_if (is state.Modified s) → Somewhere
    by_state state.Active some writes page mark listed = inl (shown some)
    by_state state.Free some writes page mark listed = absurd (false≢true (sym mark ∙ dirty))
    by_state state.Modified some writes page mark listed = inr (omega (arith, listed))
    by_state state.Bad some writes page mark listed = absurd (none-some g (sym page ∙ holds))
    by_state state.ReleasePending some writes page mark listed = absurd (omega (arith, writes, no_writes))
    by_state state.ReadError some writes page mark listed = absurd (false≢true (sym mark ∙ dirty))
    by_state state.Writing some writes page mark listed = absurd (omega (arith, writes, no_writes))
    by_state state.Reading some writes page mark listed = absurd (false≢true (sym mark ∙ dirty))

    -- it is still valid, or its frame is on the modified list
    pub dirty_where : StaysInSlot a g ⊎ (0 < count_of a.modified f)
    dirty_where = let fits = kept.frames f in by_state (a.state f) fits.shares fits.writes fits.page fits.mark fits.on_modified

  -- ---- where no slot has a shared page, and the modified list has none, no page of a shared section is dirty
  module _ (over : NoneSharedLeft a) where
    not_dirty : (f : ℕ) (g : Page) → a.page f ≡ Some g → is_private g ≡ false → a.modify f ≡ true → ⊥
    not_dirty f g holds shared dirty = by (dirty_where f g holds dirty)
      where
        by : StaysInSlot a g ⊎ (0 < count_of a.modified f) → ⊥
        by (inl stays) = false≢true (sym (over.0 stays.process stays.slot) ∙ (ap (passes is_shared_seen) stays.is ∙ (ap (λ (h : Page). not (is_private h)) stays.page ∙ ap not shared)))
        by (inr some) = false≢true (sym over.1 ∙ listed_passes (λ (h : ℕ). holds_shared (a.page h)) a.modified f some (ap holds_shared holds ∙ ap not shared))

    clean_frame : (s i : ℕ) (f : ℕ) → (holds_page (Shared (record { 0 = s }) i) (a.page f) && a.modify f) ≡ false
    clean_frame s i f = by (holds_page (Shared (record { 0 = s }) i) (a.page f)) refl (a.modify f) refl
      where
        by : (b : Bool) → holds_page (Shared (record { 0 = s }) i) (a.page f) ≡ b → (c : Bool) → a.modify f ≡ c → (b && c) ≡ false
        by false held c dirty = refl
        by true held false dirty = refl
        by true held true dirty = absurd (not_dirty f (Shared (record { 0 = s }) i) (held_page (Shared (record { 0 = s }) i) (a.page f) held) refl dirty)

    clean_page : (s i : ℕ) → is_dirty config a (Shared (record { 0 = s }) i) ≡ false
    clean_page s i = none_passes (λ (f : ℕ). holds_page (Shared (record { 0 = s }) i) (a.page f) && a.modify f) (range_with_len 0 config.frames) (each (range_with_len 0 config.frames))
      where
        each : (xs : List ℕ) → AllByRecursion (λ (f : ℕ). (holds_page (Shared (record { 0 = s }) i) (a.page f) && a.modify f) ≡ false) xs
        each [] = tt
        each (f ∷ xs) = (clean_frame s i f, each xs)

    none_of : (s : ℕ) (numbers : List ℕ) (pages : List Page) → filter (is_dirty config a) pages ≡ [] → filter (is_dirty config a) (map (Shared (record { 0 = s })) numbers ++ pages) ≡ []
    none_of s [] pages rest = rest
    none_of s (i ∷ numbers) pages rest =
        ap (λ (b : Bool). cond b (Shared (record { 0 = s }) i ∷ filter (is_dirty config a) (map (Shared (record { 0 = s })) numbers ++ pages)) (filter (is_dirty config a) (map (Shared (record { 0 = s })) numbers ++ pages))) (clean_page s i)
        ∙ none_of s numbers pages rest

    none_from : (s : ℕ) (sections : List Section) → filter (is_dirty config a) (pages_from s sections) ≡ []
    none_from s [] = refl
    none_from s (section ∷ sections) = by (is_shared_kind section.kind) (none_from (s + 1) sections)
      where
        by : (b : Bool) → filter (is_dirty config a) (pages_from (s + 1) sections) ≡ []
            → filter (is_dirty config a) (cond b (map (Shared (record { 0 = s })) (range_with_len 0 (section_pages section))) [] ++ pages_from (s + 1) sections) ≡ []
        by true rest = none_of s (range_with_len 0 (section_pages section)) (pages_from (s + 1) sections) rest
        by false rest = rest

    pub none_dirty : dirty_pages config (pager_after config past) ≡ []
    none_dirty = none_from 0 config.sections
