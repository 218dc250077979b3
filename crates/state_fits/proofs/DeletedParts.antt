-- SERVED Delete: the pages of a range are forgotten and unmapped one after another, from the lowest on.
use Rattle.std.proofs.Common.{◌≡◌, ℕ, zero, suc, ◌+◌, ◌<◌, ◌≤◌, Bool, true, false, cond, List, [], ◌∷◌, ◌++◌, Option, Some, None, length, nat_eq, nat_le, nat_lt, count_by, refl, sym, ap, ◌∙◌, subst, arith}
use Rattle.std.specs.Prelude.{◌&&◌}
use Rattle.std.specs.List.{range_with_len}
use Rattle.std.specs.Option.{option_map}
use Rattle.std.proofs.lemmas.Bool.{and_from, and_parts, le-leb, ltb-true, lt-ltb, false≢true}
use Rattle.std.proofs.lemmas.Option.{none-some}
use Rattle.vm_types.specs.PagePlaces.{changed_at}
use Rattle.vm_types.specs.Same.{same_page}
use Rattle.vm_types.specs.declared.config.Config.{Config}
use Rattle.vm_types.specs.declared.config.Origin.{Origin}
use Rattle.vm_types.specs.declared.config.Origin.TheVariants as origin
use Rattle.vm_types.specs.declared.names.BlockId.{BlockId}
use Rattle.vm_types.specs.declared.names.BlockId.TheVariants as block
use Rattle.vm_types.specs.declared.names.FrameState.TheVariants as state
use Rattle.vm_types.specs.declared.names.Page.{Page}
use Rattle.vm_types.specs.declared.names.Page.TheVariants.{Private, Shared}
use Rattle.vm_types.specs.declared.names.ProcStatus.TheVariants as status
use Rattle.vm_types.specs.declared.names.ProcStatus.{ProcStatus}
use Rattle.vm_journal.specs.declared.entry.Entry.{Entry}
use Rattle.page_tables.specs.PageTables.{PageTables, pte_in}
use Rattle.pte_forms.specs.declared.pte.Pte.{Pte}
use Rattle.section_table.specs.SectionTable.{SectionTable, behind_of}
use Rattle.pager_laws.proofs.DeleteKept.{deleted, unshared, untouched}
use Rattle.pager_laws.proofs.PageForgotten.{IsIdlePage}
use Rattle.pager_model.specs.Around.{quiet}
use Rattle.pager_model.specs.FlatService.{in_range, map_range}
use Rattle.pager_model.specs.Flights.{Flight, is_busy, open_flights}
use Rattle.pager_model.specs.Forget.{after_delete, forget_all, forgotten, headed, holder, own_pages, put_at, range_of, unlisted, with_private}
use Rattle.pager_model.specs.Lookups.{count_page, entries_at, entry_of, is_assigned_to, is_entry, page_at, page_by}
use Rattle.pager_model.specs.Maps.{Map, Mapped, is_private, page_behind, page_number, proc}
use Rattle.pager_model.specs.Own.{IsResident}
use Rattle.pager_model.specs.Pager.{Pager, Valid}
use Rattle.pager_model.specs.Served.{IsDelete}
use Rattle.pager_model.specs.Sets.{at_page}
use Rattle.pager_rules.proofs.Basics.{find_none_from_count, pages_equal}
use Rattle.pager_rules.proofs.Lists.{filter_all}
use Rattle.pager_rules.proofs.Pages.{own_is}
use Rattle.pager_rules.specs.Kept.{IsKept}
use Rattle.state_parts.specs.ChargedTable.{ChargedTable, IsTableSet, kept_at}
use Rattle.pager_laws.proofs.Holders.{holder_none, no_block_lies}
use Rattle.pager_laws.proofs.ValidEntries.{mapping_of}
use Rattle.state_fits.specs.Entries.{origin_of, own_place, place_away, pte_at, pte_of, resting_place}
use Rattle.state_fits.specs.Forgetting.{emptied_frame, frame_in_transition, uncharged_page}
use Rattle.state_fits.specs.Parts.{Parts}
use Rattle.state_fits.specs.PartsFit.{PartsFit}
use Rattle.state_fits.proofs.ForgottenParts.{forgotten_parts}
use Rattle.state_fits.proofs.ShownEntries.{shown}
use Rattle.state_fits.proofs.OnePlace.{at_page_each}
use Rattle.state_fits.proofs.PartsSet.{changed_here, changed_there, tables_set}
use Rattle.state_fits.proofs.RangedPages.{ranged_more, ranged_next, ranged_none}

-- ---- one page is unmapped
module _ (config : Config) (past : List Entry) (a : Pager) (p v : ℕ) (parts : Parts) (fit : PartsFit config past a parts) where
  abbrev map' : Map
  map' = changed_at a.map p v None

  unmapped_pte : None ≡ pte_of config map' a.valid a.page a.lies p v
  unfolding pte_of
  unmapped_pte = sym (ap (λ (o : Option Mapped). pte_at config p v (holder config a.page) a.lies (entry_of a.valid p v) o) (changed_here a.map p v None))

  pte_there : (q w : ℕ) → (nat_eq p q && nat_eq v w) ≡ false → pte_of config map' a.valid a.page a.lies q w ≡ pte_of config a.map a.valid a.page a.lies q w
  unfolding pte_of
  pte_there q w apart = ap (λ (o : Option Mapped). pte_at config q w (holder config a.page) a.lies (entry_of a.valid q w) o) (changed_there a.map p v q w None apart)

  pub unmapped_parts : (tables' : PageTables) → tables'.procs ≡ (parts.tables).procs → ((q w : ℕ) → pte_in tables' q w ≡ changed_at (pte_in parts.tables) p v None q w)
      → (sections' : SectionTable) → sections'.procs ≡ (parts.sections).procs → sections'.parts ≡ (parts.sections).parts → ((q w : ℕ) → behind_of sections' q w ≡ changed_at (behind_of parts.sections) p v None q w)
      → PartsFit config past (record a { map = changed_at a.map p v None }) (record parts { tables = tables'; sections = sections' })
  unmapped_parts tables' procs changed sections' procs' kinds behind =
      record {
        frames = fit.frames;
        flights = fit.flights;
        processes = fit.processes;
        spoken = fit.spoken;
        tables = tables_set (pte_of config a.map a.valid a.page a.lies) (pte_of config map' a.valid a.page a.lies) (length config.procs) parts.tables tables' p v None fit.tables procs changed unmapped_pte pte_there;
        sections = record {
          procs = procs' ∙ fit.sections.procs;
          kinds = kinds ∙ fit.sections.kinds;
          each = at_page_each (λ q w. behind_of sections' q w ≡ origin_of map' q w) p v
              (behind p v ∙ (changed_here (behind_of parts.sections) p v None ∙ sym (ap (option_map (λ (m : Mapped). m.origin)) (changed_here a.map p v None))))
              (λ q w apart. behind q w ∙ (changed_there (behind_of parts.sections) p v q w None apart ∙ (fit.sections.each q w ∙ sym (ap (option_map (λ (m : Mapped). m.origin)) (changed_there a.map p v q w None apart)))));
        };
        pages = fit.pages;
        globals = fit.globals;
        file = fit.file;
        swaps = fit.swaps;
        seats = fit.seats;
        failed = fit.failed;
      }

-- ---- one page more
range_more : (n i j : ℕ) → n + i ≡ j → range_with_len n (i + 1) ≡ range_with_len n i ++ j ∷ []
range_more n zero j is = ap (λ (k : ℕ). k ∷ []) (omega (arith, is))
range_more n (suc i) j is = ap (range_with_len n) (let e : suc i + 1 ≡ suc (i + 1) = omega arith in e) ∙ ap (λ (xs : List ℕ). n ∷ xs) (range_more (n + 1) i j (omega (arith, is)))

own_more : (config : Config) (map : Map) (p : ℕ) (numbers : List ℕ) (v : ℕ) → own_pages config map p (numbers ++ v ∷ []) ≡ own_pages config map p numbers ++ with_private (page_by config map p v) []
own_more config map p [] v = refl
own_more config map p (w ∷ numbers) v = ap (with_private (page_by config map p w)) (own_more config map p numbers v) ∙ go (page_by config map p w)
  where
    rest : List Page
    rest = own_pages config map p numbers

    more : List Page
    more = with_private (page_by config map p v) []

    go : (o : Option Page) → with_private o (rest ++ more) ≡ with_private o rest ++ more
    go None = refl
    go (Some h) = by (is_private h)
      where
        by : (c : Bool) → cond c (h ∷ (rest ++ more)) (rest ++ more) ≡ cond c (h ∷ rest) rest ++ more
        by true = refl
        by false = refl

forget_more : (config : Config) (pages more : List Page) (a : Pager) → forget_all config (pages ++ more) a ≡ forget_all config more (forget_all config pages a)
forget_more config [] more a = refl
forget_more config (g ∷ pages) more a = forget_more config pages more (forgotten config a g)

-- a page that is nowhere
forgotten_nothing : (config : Config) (a : Pager) (g : Page) → holder config a.page g ≡ None → count_page a.charged g ≡ 0 → count_page a.touched g ≡ 0 → count_by (is_assigned_to g) a.assigned ≡ 0 → a.lies g ≡ None
    → forgotten config a g ≡ a
forgotten_nothing config a g unheld uncharged untouched unassigned nowhere =
    let charged = filter_all (same_page g) a.charged uncharged in
    let touched = filter_all (same_page g) a.touched untouched in
    let assigned = filter_all (is_assigned_to g) a.assigned unassigned in
    λ i. record a {
      state = put_at a.state (unheld i) state.Free;
      page = put_at a.page (unheld i) None;
      modify = put_at a.modify (unheld i) false;
      free = headed a.free (unheld i);
      modified = unlisted a.modified (unheld i);
      charged = charged i;
      touched = touched i;
      lies = λ h. lies h (same_page g h) refl i;
      assigned = assigned i;
    }
  where
    lies : (h : Page) (b : Bool) → same_page g h ≡ b → at_page a.lies g None h ≡ a.lies h
    lies h false apart = ap (λ (b : Bool). cond b None (a.lies h)) apart
    lies h true same = ap (λ (b : Bool). cond b None (a.lies h)) same ∙ (sym nowhere ∙ ap a.lies (pages_equal g h same))

-- a frame holds what it held, if it holds a page
held_before : (config : Config) (pages : List Page) (a : Pager) (f : ℕ) (g : Page) → (forget_all config pages a).page f ≡ Some g → a.page f ≡ Some g
held_before config [] a f g holds = holds
held_before config (h ∷ pages) a f g holds = go (holder config a.page h) (held_before config pages (forgotten config a h) f g holds)
  where
    go : (o : Option ℕ) → put_at a.page o None f ≡ Some g → a.page f ≡ Some g
    go None is = is
    go (Some n) is = by (nat_eq n f) is
      where
        by : (b : Bool) → cond b None (a.page f) ≡ Some g → a.page f ≡ Some g
        by false holds = holds
        by true none = absurd (none-some g none)

-- ---- the frame that an entry in transition names
resting : (config : Config) (o : Origin) (lies : Option BlockId) → frame_in_transition (resting_place config o lies) ≡ None
resting config origin.Zero None = refl
resting config (origin.Section s i) None = refl
resting config o (Some (block.PageFile b)) = refl
resting config o (Some (block.Swap p n)) = refl
resting config origin.Zero (Some (block.Section s i)) = refl
resting config (origin.Section t j) (Some (block.Section s i)) = refl

transition_own : (config : Config) (o : Origin) (holds : Option ℕ) (lies : Option BlockId) → frame_in_transition (own_place config o holds lies) ≡ holds
transition_own config o None lies = resting config o lies
transition_own config o (Some f) lies = refl

transition_is : (config : Config) (page : ℕ → Option Page) (g x : Page) (o : Origin) (lies : Option BlockId) → (is_private x ≡ true → x ≡ g) → (is_private x ≡ false → holder config page g ≡ None)
    → frame_in_transition (place_away config x o (holder config page x) lies) ≡ holder config page g
transition_is config page g (Private q w) o lies own other = transition_own config o (holder config page (Private q w)) lies ∙ ap (holder config page) (own refl)
transition_is config page g (Shared s i) o lies own other = sym (other refl)

module _ (config : Config) (past : List Entry) (a : Pager) (p address pages : ℕ) (kept : IsKept config (quiet (open_flights past)) a) (own : IsResident config a p)
    (still : is_busy p (open_flights past) ≡ false) (legal : IsDelete config past a p address pages) where
  abbrev flights : List Flight
  flights = open_flights past

  abbrev gone : ℕ → List Page
  gone i = own_pages config a.map p (range_of address i)

  abbrev left : ℕ → Pager
  left i = forget_all config (gone i) a

  -- after so many pages
  abbrev deleting : ℕ → Pager
  deleting i = after_delete config a p address i

  within : (i v : ℕ) → i ≤ pages → in_range address i v ≡ true → in_range address pages v ≡ true
  within i v most is =
      let both = and_parts (nat_le (page_number address) v) (nat_lt v (page_number address + i)) is in
      let less = ltb-true _ _ both.1 in
      and_from _ _ both.0 (lt-ltb _ _ (omega (arith, less, most)))

  pub kept_deleting : (i : ℕ) → i ≤ pages → IsKept config (quiet (open_flights past)) (after_delete config a p address i)
  kept_deleting i most = deleted config past a p address i kept own still (record {
    mapped = λ v inside. legal.mapped v (within i v most inside);
    not_valid = λ v inside. legal.not_valid v (within i v most inside);
    not_in_flight = λ v f inside. legal.not_in_flight v f (within i v most inside);
  })

  -- at first nothing is deleted
  pub deleted_none : after_delete config a p address 0 ≡ a
  deleted_none = λ k. record a { map = λ q w. ranged_none (λ (old : Option Mapped). None) p address a.map q w k }

  module _ (i v : ℕ) (below : i < pages) (is : page_number address + i ≡ v) where
    abbrev g : Page
    g = Private (proc p) v

    kept_i : IsKept config (quiet flights) (deleting i)
    kept_i = kept_deleting i (omega (arith, below))

    inside : in_range address pages v ≡ true
    inside = and_from _ _ (le-leb (page_number address) v (omega (arith, is))) (lt-ltb v (page_number address + pages) (omega (arith, is, below)))

    -- ---- the page before its turn
    pub mapped : (h : Page) × (page_by config a.map p v ≡ Some h)
    mapped = legal.mapped v inside

    pub map_is : (deleting i).map p v ≡ a.map p v
    map_is = ranged_next p address i v is (λ (old : Option Mapped). None) (left i).map ∙ ap (λ (m : Map). m p v) (untouched config (λ (x : Pager). x.map) (λ x h. refl) (gone i) a)

    not_valid : entries_at (left i).valid p v ≡ 0
    not_valid = ap (λ (xs : List Valid). entries_at xs p v) (untouched config (λ (x : Pager). x.valid) (λ x h. refl) (gone i) a) ∙ legal.not_valid v inside

    pub idle : IsIdlePage (left i).page (left i).valid flights g
    idle = record {
      private = refl;
      unshared = λ f holds. unshared config (deleting i) flights p v f kept_i not_valid holds;
      still = λ f holds. legal.not_in_flight v f inside (held_before config (gone i) a f g holds);
    }

    resident : (left i).status p ≡ status.Resident
    resident = ap (λ (s : ℕ → ProcStatus). s p) (untouched config (λ (x : Pager). x.status) (λ x h. refl) (gone i) a) ∙ own.resident

    -- at a shared page the process has no page of its own
    uncharged : is_private mapped.0 ≡ false → count_page (left i).charged g ≡ 0
    uncharged shared = go (count_page (left i).charged g) refl
      where
        go : (n : ℕ) → count_page (left i).charged g ≡ n → count_page (left i).charged g ≡ 0
        go zero none = none
        go (suc n) some =
            let here = (kept_i.pages g).mapped (omega (arith, some)) refl in
            let both : Some mapped.0 ≡ Some g = sym mapped.1 ∙ (ap (page_at config p v) (sym map_is) ∙ here) in
            let same : mapped.0 ≡ g = cc in
            absurd (false≢true (sym shared ∙ ap is_private same))

    unheld : is_private mapped.0 ≡ false → holder config (left i).page g ≡ None
    unheld shared = holder_none config (left i).page g (λ f holds. let none = uncharged shared in let some = kept_i.held_charged f g refl holds in omega (arith, none, some))

    -- ---- the state with one page more
    pub one_more : left (i + 1) ≡ forgotten config (left i) g
    one_more =
        ap (λ (xs : List ℕ). forget_all config (own_pages config a.map p xs) a) (range_more (page_number address) i v is)
        ∙ (ap (λ (xs : List Page). forget_all config xs a) (own_more config a.map p (range_of address i) v)
        ∙ (forget_more config (gone i) (with_private (page_by config a.map p v) []) a
        ∙ (ap (λ (o : Option Page). forget_all config (with_private o []) (left i)) mapped.1 ∙ go (is_private mapped.0) refl)))
      where
        go : (c : Bool) → is_private mapped.0 ≡ c → forget_all config (cond c (mapped.0 ∷ []) []) (left i) ≡ forgotten config (left i) g
        go true private = ap (forgotten config (left i)) (own_is config a.map p v mapped.0 mapped.1 private)
        go false shared =
            let none = uncharged shared in
            let touched = (kept_i.pages g).touched in
            let blocks = (kept_i.pages g).blocks in
            sym (forgotten_nothing config (left i) g (unheld shared) none (omega (arith, none, touched)) (omega (arith, none, blocks))
            (no_block_lies ((left i).lies g) (λ b lies. let one = (kept_i.pages g).lying b refl lies in absurd (omega (arith, none, one)))))

    next : forgotten config (record (deleting i) { map = changed_at (deleting i).map p v None }) g ≡ deleting (i + 1)
    next =
        (λ k. record (forgotten config (left i) g) { map = λ q w. sym (ranged_more p address i v is (λ (old : Option Mapped). None) (left i).map q w) k })
        ∙ ap (λ (x : Pager). record x { map = map_range (λ (old : Option Mapped). None) p address (i + 1) x.map }) (sym one_more)

    -- ---- the frame of the page, by its entry
    pub in_transition : (parts : Parts) → PartsFit config past (after_delete config a p address i) parts → (pte : Pte) → pte_in parts.tables p v ≡ Some pte
        → frame_in_transition pte.place ≡ holder config (after_delete config a p address i).page (Private (proc p) v)
    in_transition parts fit pte there =
        let found = mapping_of config a.map p v mapped.0 mapped.1 in
        let behind : Page = page_behind config p v (found.0).origin in
        let mapped_is : Some mapped.0 ≡ Some behind = sym mapped.1 ∙ ap (page_at config p v) found.1 in
        let page_is : mapped.0 ≡ behind = cc in
        let shows : Some pte ≡ pte_at config p v (holder config (left i).page) (left i).lies None (Some found.0) =
        sym there
        ∙ (fit.tables.each p v
        ∙ (shown config (deleting i).map (left i).valid (left i).page (left i).lies p v found.0 (map_is ∙ found.1)
        ∙ ap (λ (o : Option Valid). pte_at config p v (holder config (left i).page) (left i).lies o (Some found.0)) (find_none_from_count (is_entry p v) (left i).valid not_valid))) in
        ap (λ (o : Option Pte). shown_frame o) shows
        ∙ transition_is config (left i).page g behind (found.0).origin ((left i).lies behind)
        (λ private. sym page_is ∙ own_is config a.map p v mapped.0 mapped.1 (ap is_private page_is ∙ private))
        (λ shared. unheld (ap is_private page_is ∙ shared))
      where
        shown_frame : Option Pte → Option ℕ
        shown_frame None = None
        shown_frame (Some x) = frame_in_transition x.place

    -- ---- the parts with one page more
    pub deleted_step : (parts : Parts) → PartsFit config past (after_delete config a p address i) parts → (pte : Pte) → pte_in parts.tables p v ≡ Some pte
        → (tables' : PageTables) → tables'.procs ≡ (parts.tables).procs → ((q w : ℕ) → pte_in tables' q w ≡ changed_at (pte_in parts.tables) p v None q w)
        → (sections' : SectionTable) → sections'.procs ≡ (parts.sections).procs → sections'.parts ≡ (parts.sections).parts → ((q w : ℕ) → behind_of sections' q w ≡ changed_at (behind_of parts.sections) p v None q w)
        → (pages' : ChargedTable) → IsTableSet parts.pages pages' (Private (proc p) v) None
        → PartsFit config past (after_delete config a p address (i + 1))
        (record parts { frames = emptied_frame (frame_in_transition pte.place) parts.frames; tables = tables'; sections = sections'; pages = pages'; file = uncharged_page (kept_at parts.pages (Private (proc p) v)) parts.file })
    deleted_step parts fit pte there tables' procs changed sections' procs_s kinds behind pages' charged =
        let unmapped = unmapped_parts config past (deleting i) p v parts fit tables' procs changed sections' procs_s kinds behind in
        let done = forgotten_parts config past (deleting i) p v kept_i idle resident (changed_at (deleting i).map p v None) (changed_here (deleting i).map p v None)
        (record parts { tables = tables'; sections = sections' }) unmapped pages' charged in
        subst (λ (o : Option ℕ). PartsFit config past (deleting (i + 1)) (record parts { frames = emptied_frame o parts.frames; tables = tables'; sections = sections'; pages = pages'; file = uncharged_page (kept_at parts.pages (Private (proc p) v)) parts.file }))
        (sym (in_transition parts fit pte there))
        (subst (λ (b : Pager). PartsFit config past b (record parts { frames = emptied_frame (holder config (left i).page g) parts.frames; tables = tables'; sections = sections'; pages = pages'; file = uncharged_page (kept_at parts.pages (Private (proc p) v)) parts.file }))
        next done)
