-- What the readers of pages show is what the parts stand for.
use Rattle.std.proofs.Common.{◌≡◌, ℕ, ◌+◌, ◌<◌, Bool, true, false, cond, List, Option, Some, None, nat_lt, slice_index, refl, sym, ap, ◌∙◌, arith}
use Rattle.std.specs.Option.{is_some, option_map}
use Rattle.std.proofs.lemmas.Bool.{eqb-true, false≢true, lt-ltb}
use Rattle.std.proofs.lemmas.Option.{get_or_from_slice_get, none-some}
use Rattle.vm_types.specs.BlockView.{BlockView, Tells}
use Rattle.vm_types.specs.Same.{same_page}
use Rattle.vm_types.specs.declared.config.Config.{Config}
use Rattle.vm_types.specs.declared.config.Origin.{Origin}
use Rattle.vm_types.specs.declared.config.Origin.TheVariants as origin
use Rattle.vm_types.specs.declared.names.BlockId.{BlockId}
use Rattle.vm_types.specs.declared.names.BlockId.TheVariants as block
use Rattle.vm_types.specs.declared.names.Page.{Page}
use Rattle.vm_types.specs.declared.names.Page.TheVariants.{Private, Shared}
use Rattle.vm_types.specs.declared.names.Pfn.{Pfn}
use Rattle.vm_types.specs.declared.names.SecId.{SecId}
use Rattle.vm_journal.specs.declared.entry.Entry.{Entry}
use Rattle.pte_forms.specs.declared.pte.Place.{Place}
use Rattle.pte_forms.specs.declared.pte.Place.TheVariants as place
use Rattle.pte_forms.specs.declared.pte.Pte.{Pte}
use Rattle.page_tables.specs.PageTables.{pte_in}
use Rattle.section_table.specs.SectionTable.{behind_of}
use Rattle.global_pages.specs.GlobalPages.{frame_of as global_frame}
use Rattle.pager_model.specs.Lying.{lies_in, lying_in}
use Rattle.pager_model.specs.Around.{past_view}
use Rattle.pager_model.specs.Forget.{holder}
use Rattle.pager_model.specs.Maps.{pfn, Map, Mapped, is_paged, page_behind, proc}
use Rattle.pager_model.specs.Lookups.{block_of, count_page, entry_of, is_assigned_to, is_of}
use Rattle.pager_model.specs.Pager.{Assigned, Pager, Valid}
use Rattle.pager_model.specs.Run.{pager_after}
use Rattle.pager_model.specs.Sets.{has_page}
use Rattle.pager_laws.proofs.KeptIsSound.{count_from_has, none_from_has, same_block_refl}
use Rattle.pager_rules.proofs.Basics.{count_from_no_find, find_none_from_count, pages_equal}
use Rattle.pager_rules.proofs.Lists.{count_found, found_one, found_passes}
use Rattle.pager_rules.proofs.Put.{blocks_equal}
use Rattle.frame_store.specs.StoreView.{StoreView}
use Rattle.state_parts.specs.ChargedTable.{kept_at}
use Rattle.state_parts.specs.SwapTable.{swapped_at}
use Rattle.state_parts.specs.declared.charged_page.ChargedPage.{ChargedPage}
use Rattle.pager_laws.proofs.EntryPages.{entry_page, mapped_there}
use Rattle.pager_laws.proofs.Holders.{holder_none, holder_there}
use Rattle.state_fits.specs.Entries.{origin_of, place_away, place_by, pte_at, pte_of, resting_place, section_page_number}
use Rattle.state_fits.specs.Pages.{charged_row}
use Rattle.state_fits.specs.Parts.{Parts}
use Rattle.state_fits.proofs.KnownEntries.{pte_known}
use Rattle.vm_types.specs.Configuration.{IsSectionPage}
use Rattle.vm_state.specs.PageReadings.{backing_in, found_in, found_with, frame_of}
use Rattle.state_pages.specs.PagesShown.{found_shown, frame_named, is_valid, own_backing, shared_backing, shared_home}
use Rattle.state_pages.specs.Shown.{frame_by, frame_entry}
use Rattle.vm_state.specs.StateKept.{IsState}
use Rattle.state_pages.specs.declared.found.Backing.{Backing}
use Rattle.state_pages.specs.declared.found.Found.{Found}
use Rattle.vm_state.proofs.Closing.{kept}
use Rattle.vm_state.proofs.Numbered.{has_number}

-- ---- the place of a page whose entry isn't valid
rests_apart : (P : Place → Type 0) → P place.DemandZero → ((n : ℕ) → P (place.SectionIndex n)) → ((n : ℕ) → P (place.PageFile n)) → ((n : ℕ) → P (place.Swap n))
    → (config : Config) (o : Origin) (lies : Option BlockId) → P (resting_place config o lies)
rests_apart P zero index file swap config origin.Zero None = zero
rests_apart P zero index file swap config (origin.Section s i) None = index (section_page_number config s.0 i)
rests_apart P zero index file swap config o (Some (block.PageFile b)) = file b
rests_apart P zero index file swap config o (Some (block.Swap p n)) = swap n
rests_apart P zero index file swap config origin.Zero (Some (block.Section s i)) = zero
rests_apart P zero index file swap config (origin.Section t j) (Some (block.Section s i)) = index (section_page_number config t.0 j)

away_apart : (P : Place → Type 0) → P place.DemandZero → ((n : ℕ) → P (place.SectionIndex n)) → ((n : ℕ) → P (place.PageFile n)) → ((n : ℕ) → P (place.Swap n)) → ((f : ℕ) → P (place.Transition (pfn f))) → ((n : ℕ) → P (place.GlobalIndex n))
    → (config : Config) (g : Page) (o : Origin) (holds : Option ℕ) (lies : Option BlockId) → P (place_away config g o holds lies)
away_apart P zero index file swap out global config (Private p v) o (Some f) lies = out f
away_apart P zero index file swap out global config (Private p v) o None lies = rests_apart P zero index file swap config o lies
away_apart P zero index file swap out global config (Shared s i) o holds lies = global (section_page_number config s.0 i)

not_valid : (config : Config) (g : Page) (o : Origin) (holds : Option ℕ) (lies : Option BlockId) → is_valid (place_away config g o holds lies) ≡ false
not_valid config g o holds lies = away_apart (λ (x : Place). is_valid x ≡ false) refl (λ n. refl) (λ n. refl) (λ n. refl) (λ f. refl) (λ n. refl) config g o holds lies

not_framed : (config : Config) (g : Page) (o : Origin) (holds : Option ℕ) (lies : Option BlockId) → frame_by (place_away config g o holds lies) ≡ None
not_framed config g o holds lies = away_apart (λ (x : Place). frame_by x ≡ None) refl (λ n. refl) (λ n. refl) (λ n. refl) (λ f. refl) (λ n. refl) config g o holds lies

-- ---- what the tables show of a page number
found_shows : (config : Config) (map : Map) (valid : List Valid) (page : ℕ → Option Page) (lies : Page → Option BlockId) (p v : ℕ)
    → found_shown config p v (origin_of map p v) (pte_of config map valid page lies p v) ≡ found_with config p v (is_some (entry_of valid p v)) (map p v)
unfolding pte_of
found_shows config map valid page lies p v = by (map p v) (entry_of valid p v)
  where
    by : (m : Option Mapped) (e : Option Valid)
        → found_shown config p v (option_map (λ (x : Mapped). x.origin) m) (pte_at config p v (holder config page) lies e m) ≡ found_with config p v (is_some e) m
    by None e = refl
    by (Some m) (Some e) = refl
    by (Some m) None =
        ap (λ (b : Bool). Some (record { page = page_behind config p v m.origin; from = m.origin; prot = m.prot; valid = b }))
        (not_valid config (page_behind config p v m.origin) m.origin (holder config page (page_behind config p v m.origin)) (lies (page_behind config p v m.origin)))

-- what is found where an entry is
entry_shows : (config : Config) (map : Map) (valid : List Valid) (page : ℕ → Option Page) (lies : Page → Option BlockId) (p v : ℕ) (entry : Pte) → Some entry ≡ pte_of config map valid page lies p v
    → (x : Found) × (Some x ≡ found_with config p v (is_some (entry_of valid p v)) (map p v)) × (x.prot ≡ entry.prot) × (x.valid ≡ is_valid entry.place)
unfolding pte_of
entry_shows config map valid page lies p v entry there = by (map p v) (entry_of valid p v) there
  where
    by : (m : Option Mapped) (e : Option Valid) → Some entry ≡ pte_at config p v (holder config page) lies e m
        → (x : Found) × (Some x ≡ found_with config p v (is_some e) m) × (x.prot ≡ entry.prot) × (x.valid ≡ is_valid entry.place)
    by None e none = absurd (none-some entry (sym none))
    by (Some m) (Some e) some =
        let same : entry ≡ record { prot = m.prot; place = place.Valid false (pfn e.frame) } = cc in
        (record { page = page_behind config p v m.origin; from = m.origin; prot = m.prot; valid = true }, refl, sym (ap (λ (x : Pte). x.prot) same), sym (ap (λ (x : Pte). is_valid x.place) same))
    by (Some m) None some =
        let g = page_behind config p v m.origin in
        let same : entry ≡ record { prot = m.prot; place = place_away config (page_behind config p v m.origin) m.origin (holder config page (page_behind config p v m.origin)) (lies (page_behind config p v m.origin)) } = cc in (
          record { page = page_behind config p v m.origin; from = m.origin; prot = m.prot; valid = false },
          refl,
          sym (ap (λ (x : Pte). x.prot) same),
          sym (ap (λ (x : Pte). is_valid x.place) same ∙ not_valid config g m.origin (holder config page g) (lies g)),
        )

frame_shows : (config : Config) (map : Map) (valid : List Valid) (page : ℕ → Option Page) (lies : Page → Option BlockId) (p v : ℕ)
    → ((e : Valid) → entry_of valid p v ≡ Some e → (m : Mapped) × (map p v ≡ Some m)) → frame_entry (pte_of config map valid page lies p v) ≡ option_map frame_of (entry_of valid p v)
unfolding pte_of
frame_shows config map valid page lies p v mapped = by (map p v) refl (entry_of valid p v) refl
  where
    by : (m : Option Mapped) → map p v ≡ m → (e : Option Valid) → entry_of valid p v ≡ e → frame_entry (pte_at config p v (holder config page) lies e m) ≡ option_map frame_of e
    by None is None also = refl
    by None is (Some e) also = let m = mapped e also in absurd (none-some m.0 (sym is ∙ m.1))
    by (Some m) is (Some e) also = refl
    by (Some m) is None also = not_framed config (page_behind config p v m.origin) m.origin (holder config page (page_behind config p v m.origin)) (lies (page_behind config p v m.origin))

-- ---- the frame that a private page's entry names
frame_resting : (config : Config) (o : Origin) (lies : Option BlockId) (prot : ℕ) → frame_named (Some (record { prot = prot; place = resting_place config o lies })) ≡ None
frame_resting config o lies prot = rests_apart (λ (x : Place). frame_named (Some (record { prot = prot; place = x })) ≡ None) refl (λ n. refl) (λ n. refl) (λ n. refl) config o lies

frame_own : (config : Config) (q : ℕ) (v : ℕ) (m : Mapped) (valid : Option Valid) (holds : Option ℕ) (lies : Option BlockId) → ((e : Valid) → valid ≡ Some e → holds ≡ Some e.frame)
    → frame_named (Some (record { prot = m.prot; place = place_by config (Private (proc q) v) m.origin valid holds lies })) ≡ option_map pfn holds
frame_own config q v m (Some e) holds lies held = ap (option_map pfn) (sym (held e refl))
frame_own config q v m None (Some f) lies held = refl
frame_own config q v m None None lies held = frame_resting config m.origin lies m.prot

backings_equal : (charged : Bool) (lies lies' : Option BlockId) (assigned assigned' : Option ℕ) (frame frame' : Option Pfn) (charged' : Bool)
    → charged ≡ charged' → lies ≡ lies' → assigned ≡ assigned' → frame ≡ frame'
    → ◌≡◌ {A = Backing} (record { charged = charged; lies = lies; assigned = assigned; frame = frame }) (record { charged = charged'; lies = lies'; assigned = assigned'; frame = frame' })
backings_equal charged lies lies' assigned assigned' frame frame' charged' c l a f i = record { charged = c i; lies = l i; assigned = a i; frame = f i }

module _ {B : Type 0} {seen : B → BlockView} {tells : Tells} {config : Config} {past : List Entry} {spare : ℕ} {store : StoreView B} {fields : Parts} {numbers : List ℕ}
    (before : IsState seen tells config past spare store fields numbers) where
  abbrev a : Pager
  a = pager_after config past

  pub found_is : (p v : ℕ) (from : Option Origin) (entry : Option Pte) → from ≡ behind_of fields.sections p v → entry ≡ pte_in fields.tables p v → found_shown config p v from entry ≡ found_in config a p v
  found_is p v from entry behind there =
      (λ i. found_shown config p v ((behind ∙ before.parts.sections.each p v) i) ((there ∙ before.parts.tables.each p v) i)) ∙ found_shows config a.map a.valid a.page a.lies p v

  pub entry_is : (p v : ℕ) (entry : Pte) → Some entry ≡ pte_in fields.tables p v → (x : Found) × (Some x ≡ found_in config a p v) × (x.prot ≡ entry.prot) × (x.valid ≡ is_valid entry.place)
  entry_is p v entry there = entry_shows config a.map a.valid a.page a.lies p v entry (there ∙ before.parts.tables.each p v)

  -- a valid entry is of a page number that is mapped
  mapped_valid : (p v : ℕ) (e : Valid) → entry_of a.valid p v ≡ Some e → (m : Mapped) × (a.map p v ≡ Some m)
  mapped_valid p v e is =
      let page = entry_page config (past_view past) a p v e (kept before) is in
      let mapped = mapped_there config a.map p v page.0 page.1 in
      (mapped.0, mapped.1)

  pub frame_is : (p v : ℕ) → frame_entry (pte_in fields.tables p v) ≡ option_map frame_of (entry_of a.valid p v)
  frame_is p v = ap frame_entry (before.parts.tables.each p v) ∙ frame_shows config a.map a.valid a.page a.lies p v (mapped_valid p v)

  -- ---- a page that isn't charged is nowhere
  none_assigned : (g : Page) → count_page a.charged g ≡ 0 → block_of a.assigned g ≡ None
  none_assigned g none =
      let blocks = ((kept before).pages g).blocks in
      ap (option_map (λ (x : Assigned). x.block)) (find_none_from_count (is_assigned_to g) a.assigned (omega (arith, blocks, none)))

  lies_nowhere : (g : Page) → is_paged config g ≡ true → count_page a.charged g ≡ 0 → a.lies g ≡ None
  lies_nowhere g paged none = go (a.lies g) refl
    where
      go : (o : Option BlockId) → a.lies g ≡ o → a.lies g ≡ None
      go None is = is
      go (Some b) is = let one = ((kept before).pages g).lying b paged is in absurd (omega (arith, one, none))

  held_nowhere : (p v : ℕ) → count_page a.charged (Private (proc p) v) ≡ 0 → holder config a.page (Private (proc p) v) ≡ None
  held_nowhere p v none =
      holder_none config a.page (Private (proc p) v) (λ f holds. let some = (kept before).held_charged f (Private (proc p) v) refl holds in omega (arith, some, none))

  -- ---- a page that is charged is mapped, and its entry names its frame
  names_frame : (p v : ℕ) → 0 < count_page a.charged (Private (proc p) v) → frame_named (pte_of config a.map a.valid a.page a.lies p v) ≡ option_map pfn (holder config a.page (Private (proc p) v))
  names_frame p v some =
      let mapped = mapped_there config a.map p v (Private (proc p) v) (((kept before).pages (Private (proc p) v)).mapped some refl) in
      ap frame_named (pte_known config a.map a.valid a.page a.lies p v mapped.0 (Private (proc p) v) mapped.1 mapped.2 (entry_of a.valid p v) refl)
      ∙ frame_own config p v mapped.0 (entry_of a.valid p v) (holder config a.page (Private (proc p) v)) (a.lies (Private (proc p) v)) held
    where
      held : (e : Valid) → entry_of a.valid p v ≡ Some e → holder config a.page (Private (proc p) v) ≡ Some e.frame
      held e is =
          let page = entry_page config (past_view past) a p v e (kept before) is in
          let mine : Some page.0 ≡ Some (Private (proc p) v) = sym page.1 ∙ ((kept before).pages (Private (proc p) v)).mapped some refl in
          holder_there config (past_view past) a (Private (proc p) v) e.frame (kept before) (page.2 ∙ mine)

  own_shows : (p v : ℕ) (b : Bool) → has_page a.charged (Private (proc p) v) ≡ b
      → own_backing (charged_row a.charged a.touched a.lies a.assigned (Private (proc p) v)) (pte_of config a.map a.valid a.page a.lies p v) ≡ backing_in config a (Private (proc p) v)
  unfolding charged_row
  own_shows p v true is =
      let some = count_from_has a.charged (Private (proc p) v) is in
      rw is (backings_equal true (a.lies (Private (proc p) v)) (a.lies (Private (proc p) v)) (block_of a.assigned (Private (proc p) v)) (block_of a.assigned (Private (proc p) v)) _ _ _
      (sym (lt-ltb 0 (count_page a.charged (Private (proc p) v)) some)) refl refl (names_frame p v some))
  own_shows p v false is =
      let none = none_from_has a.charged (Private (proc p) v) is in
      rw is (backings_equal false None (a.lies (Private (proc p) v)) None (block_of a.assigned (Private (proc p) v)) None _ _
      (sym (ap (nat_lt 0) none)) (sym (lies_nowhere (Private (proc p) v) refl none)) (sym (none_assigned (Private (proc p) v) none)) (ap (option_map pfn) (sym (held_nowhere p v none))))

  pub own_is : (p v : ℕ) (row : Option ChargedPage) (entry : Option Pte) → row ≡ kept_at fields.pages (Private (proc p) v) → entry ≡ pte_in fields.tables p v → own_backing row entry ≡ backing_in config a (Private (proc p) v)
  own_is p v row entry charged there =
      (λ i. own_backing ((charged ∙ before.parts.pages.each (Private (proc p) v)) i) ((there ∙ before.parts.tables.each p v) i)) ∙ own_shows p v (has_page a.charged (Private (proc p) v)) refl

  -- the number of a section's page follows from that of the section's first
  pub number_is : (s i : ℕ) → IsSectionPage config.sections s i → slice_index numbers s + i ≡ section_page_number config s i
  number_is s i there = ap (λ (n : ℕ). n + i) (get_or_from_slice_get numbers s (section_page_number config s 0) 0 (has_number before s i there).first) ∙ (let e : section_page_number config s 0 + i ≡ section_page_number config s i = omega arith in e)

  -- a shared page that isn't charged lies in its section's block, or nowhere if the section is in the page file
  home_is : (s : SecId) (i : ℕ) → count_page a.charged (Shared s i) ≡ 0 → shared_home config s i ≡ a.lies (Shared s i)
  home_is s i none = go (is_paged config (Shared s i)) refl
    where
      go : (b : Bool) → is_paged config (Shared s i) ≡ b → cond b None (Some (block.Section s i)) ≡ a.lies (Shared s i)
      go true paged = sym (lies_nowhere (Shared s i) paged none)
      go false filed = sym (((kept before).pages (Shared s i)).shared s i refl filed)

  shared_shows : (s : SecId) (i : ℕ) (frame : Option Pfn) → frame ≡ option_map pfn (holder config a.page (Shared s i)) → (b : Bool) → has_page a.charged (Shared s i) ≡ b
      → shared_backing (charged_row a.charged a.touched a.lies a.assigned (Shared s i)) (shared_home config s i) frame ≡ backing_in config a (Shared s i)
  unfolding charged_row
  shared_shows s i frame there true is =
      let some = count_from_has a.charged (Shared s i) is in
      rw is (backings_equal true (a.lies (Shared s i)) (a.lies (Shared s i)) (block_of a.assigned (Shared s i)) (block_of a.assigned (Shared s i)) _ _ _
      (sym (lt-ltb 0 (count_page a.charged (Shared s i)) some)) refl refl there)
  shared_shows s i frame there false is =
      let none = none_from_has a.charged (Shared s i) is in
      rw is (backings_equal false (shared_home config s i) (a.lies (Shared s i)) None (block_of a.assigned (Shared s i)) _ _ _
      (sym (ap (nat_lt 0) none)) (home_is s i none) (sym (none_assigned (Shared s i) none)) there)

  pub shared_is : (s : SecId) (i : ℕ) (row : Option ChargedPage) (home : Option BlockId) (frame : Option Pfn) → IsSectionPage config.sections s.0 i
      → row ≡ kept_at fields.pages (Shared s i) → home ≡ shared_home config s i → frame ≡ global_frame fields.globals (section_page_number config s.0 i)
      → shared_backing row home frame ≡ backing_in config a (Shared s i)
  shared_is s i row home frame there row_is home_is is =
      (λ k. shared_backing ((row_is ∙ before.parts.pages.each (Shared s i)) k) (home_is k) frame)
      ∙ shared_shows s i frame (is ∙ before.parts.globals.frames s i there) (has_page a.charged (Shared s i)) refl

  -- ---- the page that lies in a swap block
  lies_at : (g : Page) (p n : ℕ) → lies_in (a.lies g) (block.Swap (proc p) n) ≡ true → a.lies g ≡ Some (block.Swap (proc p) n)
  lies_at g p n is = go (a.lies g) refl is
    where
      go : (o : Option BlockId) → a.lies g ≡ o → lies_in o (block.Swap (proc p) n) ≡ true → a.lies g ≡ Some (block.Swap (proc p) n)
      go None at other = absurd (false≢true other)
      go (Some b) at same = at ∙ ap Some (sym (blocks_equal (block.Swap (proc p) n) b same))

  pub some_swapped : (p n v : ℕ) → Some v ≡ swapped_at fields.swaps p n → Some (Private (proc p) v) ≡ lying_in a p n
  some_swapped p n v there = go (lying_in a p n) refl
    where
      lies : a.lies (Private (proc p) v) ≡ Some (block.Swap (proc p) n)
      lies = before.parts.swaps.lying p n v (sym there)

      charged : 0 < count_page a.charged (Private (proc p) v)
      charged = let one = ((kept before).pages (Private (proc p) v)).lying (block.Swap (proc p) n) refl lies in omega (arith, one)

      go : (o : Option Page) → lying_in a p n ≡ o → Some (Private (proc p) v) ≡ lying_in a p n
      go (Some g) is =
          let at = lies_at g p n (found_passes (λ (h : Page). lies_in (a.lies h) (block.Swap (proc p) n)) a.charged g is) in
          ap Some (sym (((kept before).swapped (Private (proc p) v) p n lies).alone g (at ∙ sym lies))) ∙ sym is
      go None is =
          let found = found_one (same_page (Private (proc p) v)) a.charged charged in
          let same = pages_equal (Private (proc p) v) found.0 (found_passes (same_page (Private (proc p) v)) a.charged found.0 found.1) in
          let passes : lies_in (a.lies found.0) (block.Swap (proc p) n) ≡ true = ap (λ (o : Option BlockId). lies_in o (block.Swap (proc p) n)) (ap a.lies (sym same) ∙ lies) ∙ same_block_refl (block.Swap (proc p) n) in
          let some = count_found (λ (h : Page). lies_in (a.lies h) (block.Swap (proc p) n)) (same_page (Private (proc p) v)) a.charged found.0 found.1 passes in
          let none = count_from_no_find (λ (h : Page). lies_in (a.lies h) (block.Swap (proc p) n)) a.charged is in
          absurd (omega (arith, some, none))

  pub none_swapped : (p n : ℕ) → None ≡ swapped_at fields.swaps p n → None ≡ lying_in a p n
  none_swapped p n none = go (lying_in a p n) refl
    where
      go : (o : Option Page) → lying_in a p n ≡ o → None ≡ lying_in a p n
      go None is = sym is
      go (Some g) is =
          let at = lies_at g p n (found_passes (λ (h : Page). lies_in (a.lies h) (block.Swap (proc p) n)) a.charged g is) in
          by g at ((kept before).swapped g p n at).own
        where
          by : (h : Page) → a.lies h ≡ Some (block.Swap (proc p) n) → is_of p h ≡ true → None ≡ lying_in a p n
          by (Shared s i) at own = absurd (false≢true own)
          by (Private q w) at own =
              let mine : Private q w ≡ Private (proc p) w = λ i. Private (proc (eqb-true q.0 p own i)) w in
              absurd (none-some w (none ∙ before.parts.swaps.found p n w (ap a.lies (sym mine) ∙ at)))
