-- REUSE: the parts afterwards, of a private page that stays charged, of one that doesn't, and of a shared page.
use Rattle.std.proofs.Common.{◌≡◌, ◌⊎◌, inl, inr, ℕ, ◌+◌, ◌-◌, Bool, true, false, cond, List, ◌∷◌, Option, Some, None, length, slice_set, refl, sym, ap, ◌∙◌, subst, arith}
use Rattle.std.specs.Option.{option_map}
use Rattle.vm_types.specs.PagePlaces.{changed_at}
use Rattle.vm_types.specs.declared.config.Config.{Config}
use Rattle.vm_types.specs.declared.config.Origin.{Origin}
use Rattle.vm_types.specs.declared.names.BlockId.{BlockId}
use Rattle.vm_types.specs.declared.names.FrameState.TheVariants as state
use Rattle.vm_types.specs.declared.names.Page.{Page}
use Rattle.vm_types.specs.declared.names.Page.TheVariants.{Private}
use Rattle.vm_types.specs.declared.names.Pfn.{Pfn}
use Rattle.vm_types.specs.declared.names.Proc.{Proc}
use Rattle.vm_types.specs.declared.names.Seat.{Seat}
use Rattle.vm_journal.specs.declared.entry.Entry.{Entry}
use Rattle.vm_journal.specs.declared.entry.What.TheVariants as what
use Rattle.global_pages.specs.GlobalPages.{GlobalPages}
use Rattle.page_file.specs.Blocks.{Blocks}
use Rattle.page_lists.specs.Lists.{without}
use Rattle.page_tables.specs.PageTables.{PageTables, pte_in}
use Rattle.pfn_database.specs.Frames.{Frames}
use Rattle.pfn_database.specs.Rows.{empty_row}
use Rattle.pte_forms.specs.declared.pte.Pte.{Pte}
use Rattle.section_table.specs.SectionTable.{behind_of}
use Rattle.state_parts.specs.ChargedTable.{ChargedTable, IsTableSet, kept_at}
use Rattle.state_parts.specs.declared.charged_page.ChargedPage.{ChargedPage}
use Rattle.pager_laws.proofs.ReuseKept.{IsIdle}
use Rattle.pager_model.specs.Around.{frame_view, past_view}
use Rattle.pager_model.specs.Changes.{without_page}
use Rattle.pager_model.specs.Flights.{Flight, failed_flight, open_flights}
use Rattle.pager_model.specs.Lookups.{count_page, is, own_page, page_by}
use Rattle.pager_model.specs.Maps.{is_private}
use Rattle.pager_model.specs.OfConfig.{IsOfConfig}
use Rattle.pager_model.specs.Pager.{Pager}
use Rattle.pager_model.specs.Reuse.{IsReuse, charged_reused}
use Rattle.pager_model.specs.Sets.{at_number}
use Rattle.pager_model.specs.Step.{IsLegal, after}
use Rattle.pager_model.specs.Transfers.{reads_on, writes_on}
use Rattle.pager_rules.proofs.Frames.{at_state, failed_frame, free_frame}
use Rattle.pager_rules.proofs.Put.{free_row, head_counts}
use Rattle.pager_rules.specs.Kept.{IsKept}
use Rattle.pager_rules.proofs.Pages.{private_is_paged}
use Rattle.state_fits.specs.Changes.{is_failed_first, released_in}
use Rattle.state_fits.specs.Entries.{TablesFit, pte_of, resting_place}
use Rattle.state_fits.specs.File.{FileFits, owner_in}
use Rattle.state_fits.specs.Globals.{GlobalsFit}
use Rattle.state_fits.specs.Pages.{PagesFit, charged_row}
use Rattle.state_fits.specs.Parts.{Parts}
use Rattle.state_fits.specs.PartsFit.{PartsFit}
use Rattle.state_fits.proofs.EmptiedFrame.{frames_emptied, globals_released, tables_rested, tables_shared}
use Rattle.state_fits.proofs.LiesNowhere.{charged_lies}
use Rattle.state_fits.proofs.UnchargedPage.{file_uncharged, pages_uncharged}

module _ (config : Config) (past : List Entry) (a : Pager) (seat : Seat) (f : Pfn) (g : Page) (parts : Parts)
    (before : IsKept config (past_view past) a) (right : IsOfConfig config a)
    (legal : IsLegal config past a (record { seat = seat; what = what.Reuse f g })) (fit : PartsFit config past a parts) where
  abbrev e : Entry
  e = record { seat = seat; what = what.Reuse f g }

  held_by : IsReuse past a seat.0 f.0 g → a.page f.0 ≡ Some g
  held_by (inl legal) = legal.holds
  held_by (inr legal) = legal.holds

  pub holds : a.page f.0 ≡ Some g
  holds = held_by legal.row

  -- on the free list, or in read error
  at_rest : IsReuse past a seat.0 f.0 g → ((a.state f.0 ≡ state.Free) ⊎ (a.state f.0 ≡ state.ReadError)) × IsIdle config (past_view past) a f.0
  at_rest (inl legal) =
      let view = frame_view config (past_view past) a f.0 in
      let row = free_row view (before.frames f.0) (head_counts a.free f.0 legal.head) in
      (inl (free_frame view (before.frames f.0) (head_counts a.free f.0 legal.head)), record { bad = row.bad; on_modified = row.on_modified; shares = row.shares; reads = row.reads; writes = row.writes })
  at_rest (inr legal) =
      let view = frame_view config (past_view past) a f.0 in
      let failed = subst (λ (h : ℕ). (past_view past).failed h ≡ true) legal.frame (before.failed.fits legal.flight legal.failed).frame in
      let error = failed_frame view (before.frames f.0) failed in
      let row = at_state view state.ReadError error (before.frames f.0) in
      (inr error, record { bad = row.bad; on_modified = row.on_modified; shares = row.shares; reads = row.reads; writes = row.writes })

  idle : IsIdle config (past_view past) a f.0
  idle = (at_rest legal.row).1

  pub resting : (a.state f.0 ≡ state.Free) ⊎ (a.state f.0 ≡ state.ReadError)
  resting = (at_rest legal.row).0

  pub still : reads_on f.0 (open_flights past) + writes_on f.0 (open_flights past) ≡ 0
  still = let none = idle.reads in let also = idle.writes in omega (arith, none, also)

  abbrev page' : ℕ → Option Page
  page' = at_number a.page f.0 None

  abbrev left : List Page → Pager
  left charged = record a {
    state = at_number a.state f.0 state.Free;
    page = page';
    modify = at_number a.modify f.0 false;
    free = f.0 ∷ without a.free f.0;
    charged = charged;
  }

  charged_by : (o : Option Flight) → charged_reused o g a.charged ≡ cond (is_failed_first (option_map (λ (x : Flight). x.block) o) g) (without_page a.charged g) a.charged
  charged_by None = refl
  charged_by (Some x) = refl

  charged_is : (b : Bool) → is_failed_first parts.failed g ≡ b → charged_reused (failed_flight past) g a.charged ≡ cond b (without_page a.charged g) a.charged
  charged_is b is = charged_by (failed_flight past) ∙ ap (λ (c : Bool). cond c (without_page a.charged g) a.charged) (ap (λ (o : Option BlockId). is_failed_first o g) (sym fit.failed) ∙ is)

  -- what emptying the frame tells
  abbrev pub IsEmptied : Frames → Type 0
  IsEmptied frames' = (frames'.rows ≡ slice_set parts.frames.rows f.0 empty_row) × (frames'.free ≡ f.0 ∷ without parts.frames.free f.0) × (frames'.modified ≡ without parts.frames.modified f.0)

  whole : (charged : List Page) (frames' : Frames) (tables' : PageTables) (pages' : ChargedTable) (globals' : GlobalPages) (file' : Blocks) → charged_reused (failed_flight past) g a.charged ≡ charged → IsEmptied frames'
      → TablesFit (pte_of config a.map a.valid page' a.lies) (length config.procs) tables'
      → PagesFit config (charged_row charged a.touched a.lies a.assigned) pages'
      → GlobalsFit config page' a.valid globals'
      → FileFits (length charged) (length a.assigned) (owner_in a.assigned) config.pagefile file'
      → PartsFit config (e ∷ past) (after config past a e) (record parts { frames = frames'; tables = tables'; pages = pages'; globals = globals'; file = file'; failed = None })
  whole charged frames' tables' pages' globals' file' is emptied tables pages globals file =
      subst (λ (xs : List Page). PartsFit config (e ∷ past) (left xs) (record parts { frames = frames'; tables = tables'; pages = pages'; globals = globals'; file = file'; failed = None })) (sym is) (record {
        frames = frames_emptied config (past_view past) a f.0 g before holds idle.shares still parts.frames frames' idle.on_modified fit.frames emptied.0 emptied.1 emptied.2;
        flights = fit.flights;
        processes = fit.processes;
        spoken = record { count = fit.spoken.count; each = fit.spoken.each };
        tables = tables;
        sections = fit.sections;
        pages = pages;
        globals = globals;
        file = file;
        swaps = fit.swaps;
        seats = fit.seats;
        failed = refl;
      })

  globals_left : GlobalsFit config page' a.valid (released_in config g parts.globals)
  globals_left = globals_released config (past_view past) a f.0 g before holds idle.shares still parts.globals right.held fit.globals

  pub reuse_shared_parts : (frames' : Frames) → is_private g ≡ false → IsEmptied frames'
      → PartsFit config (e ∷ past) (after config past a e) (record parts { frames = frames'; globals = released_in config g parts.globals; failed = None })
  reuse_shared_parts frames' shared emptied =
      whole a.charged frames' parts.tables parts.pages (released_in config g parts.globals) parts.file (charged_is false (first_shared parts.failed)) emptied
      (tables_shared config (past_view past) a f.0 g before holds idle.shares still parts.tables shared fit.tables) fit.pages globals_left fit.file
    where
      first_shared : (o : Option BlockId) → is_failed_first o g ≡ false
      first_shared None = refl
      first_shared (Some b) = rw shared refl

  -- ---- a private page
  module _ (p : Proc) (v : ℕ) (private : g ≡ Private p v) where
    pub one_charge : count_page a.charged g ≡ 1
    one_charge = let some = before.held_charged f.0 g (private_is_paged config g (ap is_private private)) holds in let once = (before.pages g).charged in omega (arith, some, once)

    pub own : page_by config a.map p.0 v ≡ Some g
    own =
        let mapped : own_page config a.map g ≡ Some g = (before.pages g).mapped (let one = one_charge in omega (arith, one)) (ap is_private private) in
        subst (λ (h : Page). own_page config a.map h ≡ Some g) private mapped

    globals_same : GlobalsFit config page' a.valid parts.globals
    globals_same = subst (λ (h : Page). GlobalsFit config page' a.valid (released_in config h parts.globals)) private globals_left

    pub lies_is : (c : ChargedPage) → kept_at parts.pages (Private p v) ≡ Some c → c.lies ≡ a.lies g
    lies_is c read = charged_lies a.charged a.touched a.lies a.assigned (Private p v) c (sym (fit.pages.each (Private p v)) ∙ read) ∙ ap a.lies (sym private)

    rested : (c : ChargedPage) (b : Origin) (pte : Pte) (tables' : PageTables) → kept_at parts.pages (Private p v) ≡ Some c → behind_of parts.sections p.0 v ≡ Some b → pte_in parts.tables p.0 v ≡ Some pte → tables'.procs ≡ parts.tables.procs
        → ((q w : ℕ) → pte_in tables' q w ≡ changed_at (pte_in parts.tables) p.0 v (Some (record pte { place = resting_place config b c.lies })) q w)
        → TablesFit (pte_of config a.map a.valid page' a.lies) (length config.procs) tables'
    rested c b pte tables' kept behind entry procs changed =
        tables_rested config (past_view past) a f.0 g before holds idle.shares still p.0 v parts.tables tables' pte b private own fit.tables entry (sym (fit.sections.each p.0 v) ∙ behind) procs
        (λ q w. changed q w ∙ ap (λ (o : Option BlockId). changed_at (pte_in parts.tables) p.0 v (Some (record pte { place = resting_place config b o })) q w) (lies_is c kept))

    pub reuse_private_parts : (c : ChargedPage) (b : Origin) (pte : Pte) (frames' : Frames) (tables' : PageTables) → is_failed_first parts.failed g ≡ false → IsEmptied frames'
        → kept_at parts.pages (Private p v) ≡ Some c → behind_of parts.sections p.0 v ≡ Some b → pte_in parts.tables p.0 v ≡ Some pte → tables'.procs ≡ parts.tables.procs
        → ((q w : ℕ) → pte_in tables' q w ≡ changed_at (pte_in parts.tables) p.0 v (Some (record pte { place = resting_place config b c.lies })) q w)
        → PartsFit config (e ∷ past) (after config past a e) (record parts { frames = frames'; tables = tables'; failed = None })
    reuse_private_parts c b pte frames' tables' other emptied kept behind entry procs changed =
        whole a.charged frames' tables' parts.pages parts.globals parts.file (charged_is false other) emptied (rested c b pte tables' kept behind entry procs changed) fit.pages globals_same fit.file

    pub reuse_uncharged_parts : (c : ChargedPage) (b : Origin) (pte : Pte) (frames' : Frames) (tables' : PageTables) (pages' : ChargedTable) → is_failed_first parts.failed g ≡ true → IsEmptied frames'
        → kept_at parts.pages (Private p v) ≡ Some c → behind_of parts.sections p.0 v ≡ Some b → pte_in parts.tables p.0 v ≡ Some pte → tables'.procs ≡ parts.tables.procs
        → ((q w : ℕ) → pte_in tables' q w ≡ changed_at (pte_in parts.tables) p.0 v (Some (record pte { place = resting_place config b c.lies })) q w)
        → IsTableSet parts.pages pages' (Private p v) None
        → PartsFit config (e ∷ past) (after config past a e) (record parts { frames = frames'; tables = tables'; pages = pages'; file = record parts.file { charged = parts.file.charged - 1 }; failed = None })
    reuse_uncharged_parts c b pte frames' tables' pages' first emptied kept behind entry procs changed pages_changed =
        whole (without_page a.charged g) frames' tables' pages' parts.globals (record parts.file { charged = parts.file.charged - 1 }) (charged_is true first) emptied (rested c b pte tables' kept behind entry procs changed)
        (subst (λ (h : Page). PagesFit config (charged_row (without_page a.charged h) a.touched a.lies a.assigned) pages') (sym private)
        (pages_uncharged a.charged a.touched a.lies a.assigned (Private p v) config parts.pages pages' fit.pages pages_changed))
        globals_same (file_uncharged a.charged g (length a.assigned) (owner_in a.assigned) config.pagefile parts.file one_charge fit.file)
