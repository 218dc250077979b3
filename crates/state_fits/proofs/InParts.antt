-- IN: a read begins, of role FAULT, NEAR or COME.
use Rattle.std.proofs.Common.{◌≡◌, ◌⊎◌, inl, inr, ℕ, ◌<◌, ◌+◌, Bool, true, false, cond, List, ◌∷◌, Option, Some, None, length, nat_eq, slice_set, slice_index_or, refl, sym, ap, ◌∙◌, subst, subst₂, arith}
use Rattle.std.proofs.lemmas.Bool.{eqb-true, eqb-false, false≢true}
use Rattle.vm_types.specs.Configuration.{IsBlock, IsSectionPage, IsWellFormed}
use Rattle.vm_types.specs.declared.config.Config.{Config}
use Rattle.vm_types.specs.declared.names.Addr.{Addr}
use Rattle.vm_types.specs.declared.names.BlockId.{BlockId}
use Rattle.vm_types.specs.declared.names.BlockId.TheVariants as block
use Rattle.vm_types.specs.declared.names.FrameState.TheVariants as state
use Rattle.vm_types.specs.declared.names.Page.{Page}
use Rattle.vm_types.specs.declared.names.Page.TheVariants.{Private, Shared}
use Rattle.vm_types.specs.declared.names.Pfn.{Pfn}
use Rattle.vm_types.specs.declared.names.Proc.{Proc}
use Rattle.vm_types.specs.declared.names.Seat.{Seat}
use Rattle.vm_types.specs.declared.names.SecId.{SecId}
use Rattle.vm_journal.specs.declared.entry.Entry.{Entry}
use Rattle.vm_journal.specs.declared.entry.Role.{Role}
use Rattle.vm_journal.specs.declared.entry.Role.TheVariants as role
use Rattle.vm_journal.specs.declared.entry.What.TheVariants as what
use Rattle.page_lists.specs.Lists.{without}
use Rattle.page_tables.specs.PageTables.{PageTables, pte_in}
use Rattle.page_file.specs.Blocks.{Blocks}
use Rattle.global_pages.specs.GlobalPages.{GlobalPages}
use Rattle.pfn_database.specs.Frames.{Frames, row_of}
use Rattle.pfn_database.specs.Rows.{counted_references, uncounted}
use Rattle.pager_model.specs.Around.{PastView, past_view}
use Rattle.pager_model.specs.Flights.{Flight, open_flights, reading}
use Rattle.pager_model.specs.In.{IsFirstIn, IsInFault, IsInLying, charged_with}
use Rattle.pager_model.specs.Lookups.{IsHead, count_page, own_page, page_by}
use Rattle.pager_model.specs.Maps.{is_paged, is_private, page_number}
use Rattle.pager_model.specs.OfConfig.{IsOfConfig}
use Rattle.pager_model.specs.Pager.{Pager}
use Rattle.pager_model.specs.Sets.{at_number, has_page}
use Rattle.pager_model.specs.Step.{after, IsLegal}
use Rattle.pager_rules.proofs.Basics.{at_number_other, at_number_same, count_none}
use Rattle.pager_rules.proofs.Pages.{own_is, private_is_paged}
use Rattle.pager_rules.proofs.Turns.{no_reuse}
use Rattle.pager_rules.specs.Kept.{IsKept}
use Rattle.pager_laws.proofs.OfConfigKept.{charged_right}
use Rattle.pager_laws.proofs.StepKept.{step_kept}
use Rattle.state_parts.specs.ChargedTable.{ChargedTable, IsTableSet, kept_at}
use Rattle.state_parts.specs.declared.charged_page.ChargedPage.{ChargedPage}
use Rattle.state_parts.specs.declared.process_row.ProcessRow.{ProcessRow}
use Rattle.pager_laws.proofs.Holders.{holder_there, none_listed}
use Rattle.state_fits.specs.File.{FileFits, owner_in}
use Rattle.state_fits.specs.Pages.{PagesFit, charged_row}
use Rattle.state_fits.specs.Parts.{Parts}
use Rattle.state_fits.specs.PartsFit.{PartsFit}
use Rattle.state_fits.specs.Processes.{ProcessesFit, process_row}
use Rattle.state_fits.specs.ReadBegins.{charged_in, charged_now, entry_held, file_charged, held_in, one_charge}
use Rattle.state_fits.proofs.ChargedRows.{charged_is, row_beside, row_fresh, uncharged_is}
use Rattle.state_fits.proofs.FlightsMoved.{flights_begun, seats_begun}
use Rattle.state_fits.proofs.PartsSet.{pages_kept, pages_set, processes_set, process_read}
use Rattle.state_fits.proofs.ReadBegun.{begun_frames, begun_globals, begun_tables, free_row}
use Rattle.state_fits.proofs.SimpleParts.{none_failed}

-- a page that no frame holds may be read into the empty frame at the free list's head
pub record IsReadable (config : Config) (a : Pager) (f : ℕ) (x : Page) : Type 0 where
  pub head : IsHead a.free f
  pub empty : a.page f ≡ None
  pub out : (h : ℕ) → a.page h ≡ Some x → ⊥
  pub own : is_private x ≡ true → own_page config a.map x ≡ Some x
  pub section : (s : SecId) (i : ℕ) → x ≡ Shared s i → IsSectionPage config.sections s.0 i

-- a shared page that lies in a block of the configuration
lying_section : (config : Config) (o : PastView) (a : Pager) (b : BlockId) (x : Page) → IsKept config o a → IsOfConfig config a → IsBlock config b → a.lies x ≡ Some b → (s : SecId) (i : ℕ) → x ≡ Shared s i → IsSectionPage config.sections s.0 i
lying_section config o a b x kept right there lies s i is = go (is_paged config (Shared s i)) refl
  where
    at : a.lies (Shared s i) ≡ Some b
    at = subst (λ (g : Page). a.lies g ≡ Some b) is lies

    go : (c : Bool) → is_paged config (Shared s i) ≡ c → IsSectionPage config.sections s.0 i
    go true paged =
        let one = (kept.pages (Shared s i)).lying b paged at in
        (charged_right config a.charged (Shared s i) (omega (arith, one)) right.charged).0
    go false paged =
        let own = (kept.pages (Shared s i)).shared s i refl paged in
        let same : b ≡ block.Section s i = cc (at, own) in
        (subst (IsBlock config) same there).0

pub lying_readable : (config : Config) (past : List Entry) (a : Pager) (f : ℕ) (b : BlockId) (x : Page) → IsKept config (past_view past) a → IsOfConfig config a → IsInLying config past a f b x → IsReadable config a f x
lying_readable config past a f b x kept right legal = record {
  head = legal.frame.head;
  empty = legal.frame.empty;
  out = legal.out;
  own = λ private. (kept.pages x).mapped (let one = (kept.pages x).lying b (private_is_paged config x private) legal.lies in omega (arith, one)) private;
  section = lying_section config (past_view past) a b x kept right legal.home.exists legal.lies;
}

pub fault_readable : (config : Config) (past : List Entry) (a : Pager) (p f : ℕ) (b : BlockId) (q address : ℕ) → IsKept config (past_view past) a → IsOfConfig config a → (legal : IsInFault config past a p f b q address) → IsReadable config a f legal.page
fault_readable config past a p f b q address kept right legal = record {
  head = legal.frame.head;
  empty = legal.frame.empty;
  out = legal.out;
  own = λ private. subst (λ (g : Page). own_page config a.map g ≡ Some legal.page) (sym (own_is config a.map p (page_number address) legal.page legal.mapped private)) legal.mapped;
  section = λ s i is. by legal.from s i is;
}
  where
    by : (a.lies legal.page ≡ Some b) ⊎ IsFirstIn config a p (page_number address) b legal.page → (s : SecId) (i : ℕ) → legal.page ≡ Shared s i → IsSectionPage config.sections s.0 i
    by (inl lies) s i is = lying_section config (past_view past) a b legal.page kept right legal.home.exists lies s i is
    by (inr first) s i is = absurd (false≢true (sym (ap is_private is) ∙ first.private))

-- what the calls tell of the frame's row, of the page's entry and of its global page
pub record IsReadBegun (config : Config) (parts : Parts) (f : ℕ) (x : Page) (pfns : Frames) (entries : PageTables) (globals : GlobalPages) : Type 0 where
  pub rows : pfns.rows ≡ slice_set (parts.frames).rows f (record (row_of parts.frames f) { state = state.Reading; page = Some x; modify = false; refs = counted_references (row_of parts.frames f).shares 1 + uncounted (row_of parts.frames f); flights = 1 })
  pub free : pfns.free ≡ without (parts.frames).free f
  pub modified : pfns.modified ≡ (parts.frames).modified
  pub procs : entries.procs ≡ (parts.tables).procs
  pub each : (q w : ℕ) → pte_in entries q w ≡ entry_held x f (pte_in parts.tables) q w
  pub global : globals ≡ held_in config x f parts.globals

module _ (config : Config) (past : List Entry) (a : Pager) (seat : Seat) (f : Pfn) (d : BlockId) (r : Role) (formed : IsWellFormed config) (kept : IsKept config (past_view past) a) (right : IsOfConfig config a)
    (legal : IsLegal config past a (record { seat = seat; what = what.In f d r })) (parts : Parts) (fit : PartsFit config past a parts) where
  abbrev pub e : Entry
  e = record { seat = seat; what = what.In f d r }

  abbrev begun : Flight
  begun = record { start = length past + 1; seat = seat.0; frame = f.0; block = d; direction = reading r }

  abbrev pub b : Page → (ℕ → ℕ) → List Page → Pager
  b x faults charged = record a { state = at_number a.state f.0 state.Reading; page = at_number a.page f.0 (Some x); free = without a.free f.0; faults = faults; charged = charged }

  seat_there : seat.0 < length config.procs + 2
  seat_there = let few = legal.line.seat in omega (arith, few)

  read_parts : (x : Page) (faults : ℕ → ℕ) (charged : List Page) → IsReadable config a f.0 x → IsKept config (past_view (e ∷ past)) (b x faults charged)
      → (frames' : Frames) (tables' : PageTables) (globals' : GlobalPages) → IsReadBegun config parts f.0 x frames' tables' globals'
      → (processes' : List ProcessRow) → ProcessesFit (process_row a.status a.ring a.limit a.references faults a.collided) (length config.procs) processes'
      → (pages' : ChargedTable) → PagesFit config (charged_row charged a.touched a.lies a.assigned) pages'
      → (file' : Blocks) → FileFits (length charged) (length a.assigned) (owner_in a.assigned) config.pagefile file'
      → (n : ℕ) → n ≡ slice_index_or parts.busy seat.0 n
      → PartsFit config (e ∷ past) (b x faults charged) (record parts {
        frames = frames';
        starts = slice_set parts.starts f.0 (Some (length past + 1));
        roles = slice_set parts.roles f.0 (Some r);
        processes = processes';
        tables = tables';
        pages = pages';
        globals = globals';
        file = file';
        busy = slice_set parts.busy seat.0 (n + 1);
        in_flight = parts.in_flight + 1;
      })
  read_parts x faults charged readable kept' frames' tables' globals' moved processes' processes_fit pages' pages_fit file' file_fit n read =
      let held = holder_there config (past_view (e ∷ past)) (b x faults charged) x f.0 kept' (at_number_same a.page f.0 (Some x)) in
      let within = (free_row config past a begun x kept readable.head readable.empty readable.out refl readable.own).within in
      record {
        frames = begun_frames config past a begun x kept readable.head readable.empty readable.out refl readable.own parts.frames frames' fit.frames moved.rows moved.free moved.modified;
        flights = flights_begun (open_flights past) config.frames begun parts.starts parts.roles fit.flights within;
        processes = processes_fit;
        spoken = fit.spoken;
        tables = begun_tables config past a begun x kept readable.head readable.empty readable.out refl readable.own held (length config.procs) parts.tables tables' fit.tables moved.procs moved.each;
        sections = fit.sections;
        pages = pages_fit;
        globals = rw moved.global (begun_globals config past a begun x kept readable.head readable.empty readable.out refl readable.own held readable.section parts.globals fit.globals);
        file = file_fit;
        swaps = fit.swaps;
        seats = seats_begun (open_flights past) (length config.procs + 2) begun parts.busy parts.in_flight n fit.seats seat_there read;
        failed = none_failed past parts (no_reuse config past e legal.in_turn refl) fit.failed;
      }

-- ---- FAULT: whether the page is charged now
-- the page wasn't charged before, and is now; or what is charged stays
abbrev pub IsChargedNow : Pager → Parts → Proc → ℕ → Type 0
IsChargedNow a parts p v = (charged_with a.charged (Some (Private p v)) ≡ Private p v ∷ a.charged) × (kept_at parts.pages (Private p v) ≡ None)
    × (charged_row (Private p v ∷ a.charged) a.touched a.lies a.assigned (Private p v) ≡ Some (charged_now None)) × (count_page a.charged (Private p v) ≡ 0)

abbrev pub WasCharged : Pager → Parts → Proc → ℕ → Type 0
WasCharged a parts p v = (charged_with a.charged (Some (Private p v)) ≡ a.charged) × ((row : ChargedPage) × (kept_at parts.pages (Private p v) ≡ Some row))

module _ (config : Config) (past : List Entry) (a : Pager) (kept : IsKept config (past_view past) a) (parts : Parts) (fit : PartsFit config past a parts) where
  abbrev old_rows : Page → Option ChargedPage
  old_rows = charged_row a.charged a.touched a.lies a.assigned

  module _ (p : Proc) (v : ℕ) where
    abbrev g : Page
    g = Private p v

    pub charges : IsChargedNow a parts p v ⊎ WasCharged a parts p v
    charges = go (nat_eq (count_page a.charged g) 0) refl (has_page a.charged g) refl
      where
        with_it : (c : Bool) → nat_eq (count_page a.charged g) 0 ≡ c → charged_with a.charged (Some g) ≡ cond c (g ∷ a.charged) a.charged
        with_it c is = ap (λ (t : Bool). cond t (g ∷ a.charged) a.charged) is

        go : (c : Bool) → nat_eq (count_page a.charged g) 0 ≡ c → (h : Bool) → has_page a.charged g ≡ h → IsChargedNow a parts p v ⊎ WasCharged a parts p v
        go true is h has = let none = eqb-true _ _ is in inl (with_it true is, fit.pages.each g ∙ uncharged_is a.charged a.touched a.lies a.assigned g (none_listed a.charged g none), row_fresh config (past_view past) a g kept refl none, none)
        go false is true has = inr (with_it false is, (_, fit.pages.each g ∙ charged_is a.charged a.touched a.lies a.assigned g has))
        go false is false has = absurd (eqb-false _ _ is (count_none _ a.charged has))

  fault_pages : (x : Page) (pages' : ChargedTable) → IsTableSet parts.pages pages' x (charged_in x (kept_at parts.pages x)) → PagesFit config (charged_row (charged_with a.charged (Some x)) a.touched a.lies a.assigned) pages'
  fault_pages (Shared s i) pages' changed = pages_kept config old_rows parts.pages pages' (Shared s i) (kept_at parts.pages (Shared s i)) fit.pages changed (fit.pages.each (Shared s i))
  fault_pages (Private p v) pages' changed = by (charges p v)
    where
      by : IsChargedNow a parts p v ⊎ WasCharged a parts p v → PagesFit config (charged_row (charged_with a.charged (Some (Private p v))) a.touched a.lies a.assigned) pages'
      by (inl (now, none, row, zero)) =
          subst (λ (list : List Page). PagesFit config (charged_row list a.touched a.lies a.assigned) pages') (sym now)
          (pages_set config old_rows (charged_row (Private p v ∷ a.charged) a.touched a.lies a.assigned) parts.pages pages' (Private p v) _ fit.pages changed
          (ap (λ (o : Option ChargedPage). Some (charged_now o)) none ∙ sym row) (row_beside a.charged a.touched a.lies a.assigned (Private p v)))
      by (inr (was, (row, is))) =
          subst (λ (list : List Page). PagesFit config (charged_row list a.touched a.lies a.assigned) pages') (sym was)
          (pages_kept config old_rows parts.pages pages' (Private p v) _ fit.pages changed (ap (λ (o : Option ChargedPage). Some (charged_now o)) is ∙ (sym is ∙ fit.pages.each (Private p v))))

  fault_file : (x : Page) → FileFits (length (charged_with a.charged (Some x))) (length a.assigned) (owner_in a.assigned) config.pagefile (file_charged x (kept_at parts.pages x) parts.file)
  fault_file (Shared s i) = fit.file
  fault_file (Private p v) = by (charges p v)
    where
      Fits : List Page → Option ChargedPage → Type 0
      Fits list o = FileFits (length list) (length a.assigned) (owner_in a.assigned) config.pagefile (one_charge o parts.file)

      by : IsChargedNow a parts p v ⊎ WasCharged a parts p v → Fits (charged_with a.charged (Some (Private p v))) (kept_at parts.pages (Private p v))
      by (inl (now, none, row, zero)) =
          subst₂ Fits (sym now) (sym none)
          (record { count = fit.file.count; charges = let is = fit.file.charges in omega (arith, is); blocks = fit.file.blocks; owners = fit.file.owners })
      by (inr (was, (row, is))) = subst₂ Fits (sym was) (sym is) fit.file

module _ (config : Config) (past : List Entry) (a : Pager) (seat : Seat) (f : Pfn) (d : BlockId) (q : Proc) (address : Addr) (formed : IsWellFormed config) (kept : IsKept config (past_view past) a) (right : IsOfConfig config a)
    (legal : IsLegal config past a (record { seat = seat; what = what.In f d (role.Fault q address) })) (parts : Parts) (fit : PartsFit config past a parts) where
  abbrev entry : Entry
  entry = record { seat = seat; what = what.In f d (role.Fault q address) }

  fault_page : page_by config a.map q.0 (page_number address.0) ≡ Some legal.row.page
  fault_page = subst (λ (p : ℕ). page_by config a.map p (page_number address.0) ≡ Some legal.row.page) (sym legal.row.self) legal.row.mapped

  pub fault_readable_as : (x : Page) → page_by config a.map q.0 (page_number address.0) ≡ Some x → IsReadable config a f.0 x
  fault_readable_as x own =
      let is : legal.row.page ≡ x = let first = fault_page in cc (first, own) in
      subst (IsReadable config a f.0) is (fault_readable config past a seat.0 f.0 d q.0 address.0 kept right legal.row)

  fault_process : q.0 < length config.procs
  fault_process = subst (λ (p : ℕ). p < length config.procs) (sym legal.row.self) legal.row.own.process

  fault_processes : (y : ProcessRow) → y ≡ slice_index_or parts.processes q.0 y
      → ProcessesFit (process_row a.status a.ring a.limit a.references (at_number a.faults q.0 (a.faults q.0 + 1)) a.collided) (length config.procs) (slice_set parts.processes q.0 (record y { faults = y.faults + 1 }))
  fault_processes y read =
      let is = process_read (process_row a.status a.ring a.limit a.references a.faults a.collided) (length config.procs) parts.processes q.0 y fit.processes fault_process read in
      processes_set (process_row a.status a.ring a.limit a.references a.faults a.collided) (process_row a.status a.ring a.limit a.references (at_number a.faults q.0 (a.faults q.0 + 1)) a.collided)
      (length config.procs) parts.processes q.0 _ fit.processes fault_process
      (λ i. record {
        status = (is i).status;
        ring = (is i).ring;
        limit = (is i).limit;
        references = (is i).references;
        faults = (ap (λ (z : ProcessRow). z.faults + 1) is ∙ sym (at_number_same a.faults q.0 (a.faults q.0 + 1))) i;
        collided = (is i).collided;
      })
      (λ p apart i. record {
        status = a.status p;
        ring = a.ring p;
        limit = a.limit p;
        references = a.references p;
        faults = at_number_other a.faults q.0 (a.faults q.0 + 1) p apart i;
        collided = a.collided p;
      })

  pub in_fault_parts : (x : Page) → page_by config a.map q.0 (page_number address.0) ≡ Some x
      → (frames' : Frames) (tables' : PageTables) (globals' : GlobalPages) → IsReadBegun config parts f.0 x frames' tables' globals'
      → (y : ProcessRow) → y ≡ slice_index_or parts.processes q.0 y
      → (pages' : ChargedTable) → IsTableSet parts.pages pages' x (charged_in x (kept_at parts.pages x))
      → (file' : Blocks) → file' ≡ file_charged x (kept_at parts.pages x) parts.file
      → (n : ℕ) → n ≡ slice_index_or parts.busy seat.0 n
      → PartsFit config (entry ∷ past) (after config past a entry) (record parts {
        frames = frames';
        starts = slice_set parts.starts f.0 (Some (length past + 1));
        roles = slice_set parts.roles f.0 (Some (role.Fault q address));
        processes = slice_set parts.processes q.0 (record y { faults = y.faults + 1 });
        tables = tables';
        pages = pages';
        globals = globals';
        file = file';
        busy = slice_set parts.busy seat.0 (n + 1);
        in_flight = parts.in_flight + 1;
      })
  in_fault_parts x own frames' tables' globals' moved y read pages' changed file' file_is n read_n =
      let faults = at_number a.faults q.0 (a.faults q.0 + 1) in
      subst (λ (o : Option Page). PartsFit config (entry ∷ past) (put o) (record parts {
        frames = frames';
        starts = slice_set parts.starts f.0 (Some (length past + 1));
        roles = slice_set parts.roles f.0 (Some (role.Fault q address));
        processes = slice_set parts.processes q.0 (record y { faults = y.faults + 1 });
        tables = tables';
        pages = pages';
        globals = globals';
        file = file';
        busy = slice_set parts.busy seat.0 (n + 1);
        in_flight = parts.in_flight + 1;
      })) (sym own)
      (read_parts config past a seat f d (role.Fault q address) formed kept right legal parts fit x faults (charged_with a.charged (Some x)) (fault_readable_as x own)
      (subst (λ (o : Option Page). IsKept config (past_view (entry ∷ past)) (put o)) own (step_kept config past a entry formed kept legal))
      frames' tables' globals' moved _ (fault_processes y read)
      pages' (fault_pages config past a kept parts fit x pages' changed)
      file' (rw file_is (fault_file config past a kept parts fit x)) n read_n)
    where
      put : Option Page → Pager
      put o = record a { state = at_number a.state f.0 state.Reading; page = at_number a.page f.0 o; free = without a.free f.0; faults = at_number a.faults q.0 (a.faults q.0 + 1); charged = charged_with a.charged o }

-- ---- NEAR
module _ (config : Config) (past : List Entry) (a : Pager) (seat : Seat) (f : Pfn) (d : BlockId) (x : Page) (formed : IsWellFormed config) (kept : IsKept config (past_view past) a) (right : IsOfConfig config a)
    (legal : IsLegal config past a (record { seat = seat; what = what.In f d (role.Near x) })) (parts : Parts) (fit : PartsFit config past a parts) where
  pub in_near_parts : (frames' : Frames) (tables' : PageTables) (globals' : GlobalPages) → IsReadBegun config parts f.0 x frames' tables' globals'
      → (n : ℕ) → n ≡ slice_index_or parts.busy seat.0 n
      → PartsFit config (record { seat = seat; what = what.In f d (role.Near x) } ∷ past) (after config past a (record { seat = seat; what = what.In f d (role.Near x) })) (record parts {
        frames = frames';
        starts = slice_set parts.starts f.0 (Some (length past + 1));
        roles = slice_set parts.roles f.0 (Some (role.Near x));
        tables = tables';
        globals = globals';
        busy = slice_set parts.busy seat.0 (n + 1);
        in_flight = parts.in_flight + 1;
      })
  in_near_parts frames' tables' globals' moved n read =
      read_parts config past a seat f d (role.Near x) formed kept right legal parts fit x a.faults a.charged (lying_readable config past a f.0 d x kept right legal.row.lying)
      (step_kept config past a (record { seat = seat; what = what.In f d (role.Near x) }) formed kept legal)
      frames' tables' globals' moved parts.processes fit.processes parts.pages fit.pages parts.file fit.file n read

-- ---- COME
module _ (config : Config) (past : List Entry) (a : Pager) (seat : Seat) (f : Pfn) (d : BlockId) (q : Proc) (address : Addr) (formed : IsWellFormed config) (kept : IsKept config (past_view past) a) (right : IsOfConfig config a)
    (legal : IsLegal config past a (record { seat = seat; what = what.In f d (role.Come q address) })) (parts : Parts) (fit : PartsFit config past a parts) where
  abbrev come_entry : Entry
  come_entry = record { seat = seat; what = what.In f d (role.Come q address) }

  pub come_readable : (x : Page) → page_by config a.map q.0 (page_number address.0) ≡ Some x → IsReadable config a f.0 x
  come_readable x own =
      let is : legal.row.page ≡ x = let first = legal.row.mapped in cc (first, own) in
      subst (IsReadable config a f.0) is (lying_readable config past a f.0 d legal.row.page kept right legal.row.lying)

  pub in_come_parts : (x : Page) → page_by config a.map q.0 (page_number address.0) ≡ Some x
      → (frames' : Frames) (tables' : PageTables) (globals' : GlobalPages) → IsReadBegun config parts f.0 x frames' tables' globals'
      → (n : ℕ) → n ≡ slice_index_or parts.busy seat.0 n
      → PartsFit config (come_entry ∷ past) (after config past a come_entry) (record parts {
        frames = frames';
        starts = slice_set parts.starts f.0 (Some (length past + 1));
        roles = slice_set parts.roles f.0 (Some (role.Come q address));
        tables = tables';
        globals = globals';
        busy = slice_set parts.busy seat.0 (n + 1);
        in_flight = parts.in_flight + 1;
      })
  in_come_parts x own frames' tables' globals' moved n read =
      subst (λ (o : Option Page). PartsFit config (come_entry ∷ past) (put o) (record parts {
        frames = frames';
        starts = slice_set parts.starts f.0 (Some (length past + 1));
        roles = slice_set parts.roles f.0 (Some (role.Come q address));
        tables = tables';
        globals = globals';
        busy = slice_set parts.busy seat.0 (n + 1);
        in_flight = parts.in_flight + 1;
      })) (sym own)
      (read_parts config past a seat f d (role.Come q address) formed kept right legal parts fit x a.faults a.charged (come_readable x own)
      (subst (λ (o : Option Page). IsKept config (past_view (come_entry ∷ past)) (put o)) own (step_kept config past a come_entry formed kept legal))
      frames' tables' globals' moved parts.processes fit.processes parts.pages fit.pages parts.file fit.file n read)
    where
      put : Option Page → Pager
      put o = record a { state = at_number a.state f.0 state.Reading; page = at_number a.page f.0 o; free = without a.free f.0 }
