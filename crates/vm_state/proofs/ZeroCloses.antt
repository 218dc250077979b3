-- ZERO closes, and its calls may be made.
use Rattle.std.proofs.Common.{Result, ◌≡◌, ◌≢◌, ℕ, ◌+◌, ◌-◌, ◌≤◌, ◌<◌, ◌^◌, true, false, List, [], ◌∷◌, Option, Some, None, IsSome, IfSome, length, replicate, slice_get, slice_index_or, slice_set, refl, sym, ap, ◌∙◌, subst, arith, length-set}
use Rattle.std.specs.Prelude.{Ok, Err, IsErr, OnOk, ◌↔◌, is_some}
use Rattle.std.specs.Option.{option_map}
use Rattle.std.proofs.lemmas.Option.{same_Some, slice_get-get_or}
use Rattle.vm_types.specs.declared.limits.TheConstants.{PAGE_BYTES}
use Rattle.vm_types.specs.BlockView.{BlockView, Tells}
use Rattle.vm_types.specs.WellFormed.{IsCode}
use Rattle.vm_types.specs.PagePlaces.{changed_at}
use Rattle.vm_types.specs.Ring.{Ring, choose}
use Rattle.vm_types.specs.declared.config.Config.{Config}
use Rattle.vm_types.specs.declared.names.Addr.{Addr}
use Rattle.vm_types.specs.declared.names.FrameState.TheVariants as state
use Rattle.vm_types.specs.declared.names.Page.{Page}
use Rattle.vm_types.specs.declared.names.Page.TheVariants.{Private, Shared}
use Rattle.vm_types.specs.declared.names.Pfn.{Pfn}
use Rattle.vm_types.specs.declared.names.Seat.{Seat}
use Rattle.vm_types.specs.declared.ring_choice.Choice.TheVariants.{Empty}
use Rattle.vm_journal.specs.declared.entry.Entry.{Entry}
use Rattle.vm_journal.specs.declared.entry.What.TheVariants as what
use Rattle.global_pages.specs.GlobalPages.{GlobalPages, count_of}
use Rattle.page_lists.specs.Lists.{without}
use Rattle.page_file.specs.Blocks.{Blocks}
use Rattle.page_tables.specs.PageTables.{PageTables, IsEntry, pte_in}
use Rattle.pte_forms.specs.declared.pte.Place.TheVariants as place
use Rattle.pte_forms.specs.declared.pte.Pte.{Pte}
use Rattle.pfn_database.specs.Frames.{Frames, row_of}
use Rattle.pfn_database.specs.Rows.{counted_references, uncounted}
use Rattle.pager_model.specs.Flights.{open_flights}
use Rattle.pager_model.specs.Maps.{pfn, Mapped, page_behind, page_number}
use Rattle.pager_model.specs.Lookups.{is, page_by}
use Rattle.pager_model.specs.OfConfig.{IsPageOf}
use Rattle.pager_model.specs.Pager.{Pager}
use Rattle.pager_model.specs.Ring.{placed}
use Rattle.pager_model.specs.Run.{pager_after}
use Rattle.pager_model.specs.Step.{IsLegal}
use Rattle.pager_model.specs.Zero.{zeroed_page}
use Rattle.pager_laws.proofs.OfConfigKept.{page_right}
use Rattle.section_table.specs.SectionTable.{behind_of}
use Rattle.content_laws.proofs.AtHome.{buffer_home}
use Rattle.content_laws.proofs.ListPuts.{list_puts_buffer}
use Rattle.frame_store.specs.Blocks.{held_at}
use Rattle.frame_store.specs.StoreView.{StoreView}
use Rattle.state_parts.specs.ChargedTable.{ChargedTable, HasPlace, IsTableSet}
use Rattle.state_parts.specs.declared.charged_page.ChargedPage.{ChargedPage}
use Rattle.state_parts.specs.declared.process_row.ProcessRow.{ProcessRow}
use Rattle.pager_laws.proofs.Holders.{IsFreeRow, holder_none}
use Rattle.pager_laws.proofs.SectionNumbers.{number_within}
use Rattle.state_fits.specs.Changes.{page_slot, shared_in}
use Rattle.state_fits.specs.Entries.{section_page_number}
use Rattle.state_fits.specs.Frames.{row_by}
use Rattle.state_fits.specs.Globals.{shares_held}
use Rattle.state_fits.specs.Pages.{charged_row}
use Rattle.state_fits.specs.Parts.{Parts}
use Rattle.state_fits.specs.ReadBegins.{held_in}
use Rattle.state_fits.proofs.Bounds.{kept_place}
use Rattle.state_fits.proofs.ShownEntries.{code_kept, shown}
use Rattle.state_fits.proofs.SimpleParts.{read_process}
use Rattle.state_fits.proofs.ZeroParts.{head as zero_head, mapped as zero_mapped, own as zero_own, paged as zero_paged, unheld as zero_unheld, zero_parts, zero_row}
use Rattle.state_pages.specs.SectionPages.{CanShare, IsGlobal, IsNumbered}
use Rattle.vm_state.specs.History.{owed}
use Rattle.vm_state.specs.StateKept.{IsState}
use Rattle.vm_state.proofs.Closing.{closed, kept, right}
use Rattle.vm_state.proofs.Numbered.{has_number}

-- what a call that could be refused did, if it can't have been
pub went_well : {T E : Type 0} (r : Result T E) {Q P : Type 0} → (IsErr r ↔ Q) → (Q → ⊥) → OnOk r P → P
went_well (Ok x) full room ok = ok
went_well (Err x) full room ok = absurd (room (full.0 refl))

pub slice_get_within_some : {X : Type 0} (xs : List X) (i : ℕ) → i < length xs → (x : X) × (slice_get xs i ≡ Some x)
slice_get_within_some [] i less = absurd (omega (arith, less))
slice_get_within_some (x ∷ xs) i less = (slice_index_or (x ∷ xs) i x, slice_get-get_or (x ∷ xs) i x less)

module _ {B : Type 0} {seen : B → BlockView} {tells : Tells} {config : Config} {past : List Entry} {spare : ℕ} {store : StoreView B} {fields : Parts} {numbers : List ℕ}
    (before : IsState seen tells config past spare store fields numbers) (seat : Seat) (address : Addr) (f : Pfn)
    (legal : IsLegal config past (pager_after config past) (record { seat = seat; what = what.Zero address f })) where
  abbrev a : Pager
  a = pager_after config past

  abbrev v : ℕ
  v = page_number address.0

  pub head : IsFreeRow config a (open_flights past) f.0
  head = zero_head config past a seat address f before.formed (kept before) (right before) legal fields before.parts

  pub mapped : (m : Mapped) × (a.map seat.0 v ≡ Some m)
  mapped = zero_mapped config past a seat address f before.formed (kept before) (right before) legal fields before.parts

  -- ---- the page
  abbrev pub g : Page
  g = zeroed_page config seat.0 v (a.map seat.0 v)

  own : page_by config a.map seat.0 v ≡ Some g
  own = zero_own config past a seat address f before.formed (kept before) (right before) legal fields before.parts

  known : (o : Option Page) → o ≡ option_map (page_behind config seat.0 v) (behind_of fields.sections seat.0 v) → o ≡ Some g
  known o is =
      is ∙ (ap (option_map (page_behind config seat.0 v)) (before.parts.sections.each seat.0 v ∙ ap (option_map (λ (m : Mapped). m.origin)) mapped.1)
      ∙ ap Some (sym (ap (zeroed_page config seat.0 v) mapped.1)))

  pub page_there : (o : Option Page) → o ≡ option_map (page_behind config seat.0 v) (behind_of fields.sections seat.0 v) → IsSome o
  page_there o is = ap is_some (known o is)

  pub page_is : (o : Option Page) → o ≡ option_map (page_behind config seat.0 v) (behind_of fields.sections seat.0 v) → (h : Page) → o ≡ Some h → g ≡ h
  page_is o is h there = same_Some _ _ (sym (known o is) ∙ there)

  of_config : IsPageOf config g
  of_config = page_right config a.map seat.0 v g (right before).mapped own

  pub has_place : (h : Page) → g ≡ h → HasPlace fields.pages h
  has_place h is = subst (HasPlace fields.pages) is (kept_place config (charged_row a.charged a.touched a.lies a.assigned) fields.pages before.parts.pages g of_config (zero_paged config past a seat address f before.formed (kept before) (right before) legal fields before.parts))

  pub numbered : (h : Page) → g ≡ h → IsNumbered config numbers h
  numbered h is = by h (subst (IsPageOf config) is of_config)
    where
      by : (k : Page) → IsPageOf config k → IsNumbered config numbers k
      by (Private q w) of = tt
      by (Shared s i) of = has_number before s.0 i of.0

  pub may_hold : (h : Page) → g ≡ h → IsGlobal config fields.globals h
  may_hold h is = by h (subst (IsPageOf config) is of_config)
    where
      by : (k : Page) → IsPageOf config k → IsGlobal config fields.globals k
      by (Private q w) of = tt
      by (Shared s i) of = let within = number_within config s.0 i of.0 in let count = before.parts.globals.count in omega (arith, within, count)

  -- no valid entry names a page that no frame holds
  pub may_share : (h : Page) → g ≡ h → (globals' : GlobalPages) → globals' ≡ held_in config h f.0 fields.globals → CanShare config globals' h
  may_share h is globals' held = by h is held
    where
      by : (k : Page) → g ≡ k → globals' ≡ held_in config k f.0 fields.globals → CanShare config globals' k
      by (Private q w) same held = tt
      by (Shared s i) same held =
          let of = (subst (IsPageOf config) same of_config).0 in
          let within = number_within config s.0 i of in
          let count = before.parts.globals.count in
          let long = length-set fields.globals.frames (section_page_number config s.0 i) (Some (pfn f.0)) in
          let frames : length globals'.frames ≡ length fields.globals.frames = ap (λ (t : GlobalPages). length t.frames) held ∙ long in
          let none : count_of fields.globals (section_page_number config s.0 i) ≡ 0 =
          before.parts.globals.shared s i of ∙ ap (shares_held a.valid) (holder_none config a.page (Shared s i) (λ k holds. zero_unheld config past a seat address f before.formed (kept before) (right before) legal fields before.parts k (holds ∙ ap Some (sym same)))) in
          let counts : count_of globals' (section_page_number config s.0 i) ≡ 0 = ap (λ (t : GlobalPages). count_of t (section_page_number config s.0 i)) held ∙ none in
          (omega (arith, frames, within, count), omega (arith, counts))

  -- ---- the process's row
  pub row_is : (x : ProcessRow) → x ≡ slice_index_or fields.processes seat.0 x → (x.ring ≡ a.ring seat.0) × (x.limit ≡ a.limit seat.0)
  row_is x read = let is = read_process config past a seat fields before.parts seat.0 x legal.row.own.process read in (ap (λ (z : ProcessRow). z.ring) is, ap (λ (z : ProcessRow). z.limit) is)

  -- ---- the frame's row
  pub frame_free : row_of fields.frames f.0 ≡ row_by state.Free None false 0 0 0 0
  frame_free = zero_row config past a seat address f before.formed (kept before) (right before) legal fields before.parts

  pub below : f.0 < length fields.frames.rows
  below = let count = before.parts.frames.count in let less = head.within in omega (arith, count, less)

  pub usable : ((row_of fields.frames f.0).state ≢ state.Bad) × ((row_of fields.frames f.0).state ≢ state.ReadError)
  usable = rw frame_free (λ e. cc, λ e. cc)

  pub no_page : (h : Page) → IfSome (row_of fields.frames f.0).page (λ held. held ≡ h)
  no_page h = rw frame_free tt

  pub few_shares : (row_of fields.frames f.0).shares < 2 ^ 32 - 1
  few_shares = rw frame_free (omega arith)

  -- ---- the ring
  pub limit_most : (x : ProcessRow) → x ≡ slice_index_or fields.processes seat.0 x → x.limit ≤ length x.ring.slots
  limit_most x read = let is = row_is x read in
      let spec = slice_get_within_some config.procs seat.0 legal.row.own.process in
      let bounded = ((kept before).processes seat.0).bounds spec.0 spec.1 in
      rw (is.0, is.1) (omega (arith, bounded.most, bounded.slots))

  -- ---- the page file
  pub room : fields.file.charged ≡ length fields.file.owners → ⊥
  room full = let charges = before.parts.file.charges in let count = before.parts.file.count in let less = legal.row.room in omega (arith, full, charges, count, less)

  -- ---- the buffer
  pub buffer_there : IsSome (held_at store.buffers f.0)
  buffer_there = let there = buffer_home config a.state (held_at store.buffers) f.0 before.bytes.buffers head.within (ap (is state.Reading) head.state) in subst (λ (o : Option (List ℕ)). IsSome o) (sym there.1) refl

  -- ---- the page's entry
  pub entry_there : (old : Pte) × (pte_in fields.tables seat.0 v ≡ Some old)
  entry_there = (_, before.parts.tables.each seat.0 v ∙ shown config a.map a.valid a.page a.lies seat.0 v mapped.0 mapped.1)

  pub entry_good : (old : Pte) → pte_in fields.tables seat.0 v ≡ Some old → IsEntry (record { prot = old.prot; place = place.Valid false f })
  entry_good old there =
      let code = code_kept config a.map a.valid a.page a.lies (length config.procs) fields.tables seat.0 v mapped.0 old before.parts.tables mapped.1 there in
      let fine = ((right before).mapped seat.0 v mapped.0 mapped.1).code in
      record {
        fits = record { code = subst (λ (n : ℕ). IsCode n) (sym code) fine; number = (let less = head.within in let most = before.formed.frames.1 in omega (arith, less, most)) };
        unmarked = tt;
      }

  -- by the page that is mapped
  abbrev IsEntered : Frames → Page → ℕ → Type 0
  IsEntered frames' h slot =
      frames'.rows ≡ slice_set fields.frames.rows f.0 (record (row_of fields.frames f.0) { state = state.Active; page = Some h; modify = true; refs = counted_references ((row_of fields.frames f.0).shares + 1) (row_of fields.frames f.0).flights + uncounted (row_of fields.frames f.0); shares = (row_of fields.frames f.0).shares + 1; slot = slot })

  abbrev fresh : Option ChargedPage
  fresh = Some (record { touched = false; lies = None; assigned = None })

  pub zero_closes : fields.starts ≡ store.flights → owed (record { seat = seat; what = what.Zero address f } ∷ past) + 1 ≤ spare → (x : ProcessRow) → x ≡ slice_index_or fields.processes seat.0 x
      → (slot : ℕ) (ring : Ring) → choose x.ring x.limit ≡ Empty slot → ring ≡ placed x.ring x.limit v → (frames' : Frames)
      → (h : Page) → g ≡ h → (held : ℕ) → held ≡ page_slot h slot → IsEntered frames' h held
      → frames'.free ≡ without fields.frames.free f.0 → frames'.modified ≡ without fields.frames.modified f.0
      → (store' : StoreView B) → store' ≡ record store { frames = frames'; buffers = slice_set store.buffers f.0 (Some (replicate PAGE_BYTES 0)) }
      → (tables' : PageTables) (old : Pte) → tables'.procs ≡ (fields.tables).procs → ((q w : ℕ) → pte_in tables' q w ≡ changed_at (pte_in fields.tables) seat.0 v (Some (record { prot = old.prot; place = place.Valid false f })) q w) → pte_in fields.tables seat.0 v ≡ Some old
      → (globals' shared' : GlobalPages) → globals' ≡ held_in config h f.0 fields.globals → shared' ≡ shared_in config h globals'
      → (pages' : ChargedTable) → IsTableSet fields.pages pages' h fresh
      → (file' : Blocks) → file' ≡ record fields.file { charged = fields.file.charged + 1 }
      → IsState seen tells config (record { seat = seat; what = what.Zero address f } ∷ past) (spare - 1) store'
      (record fields { frames = store'.frames; starts = store'.flights; processes = slice_set fields.processes seat.0 (record x { ring = ring; faults = x.faults + 1 }); tables = tables'; pages = pages'; globals = shared'; file = file' }) numbers
  zero_closes same paid x read slot ring chosen taken frames' h h_is held held_is rows free modified store' store_is tables' old procs changed there globals' shared' holds shares pages' changed' file' file_is =
      let is = row_is x read in
      let back : h ≡ g = sym h_is in
      let entered : IsEntered frames' g (page_slot g slot) = subst (λ (k : Page). IsEntered frames' k (page_slot k slot)) back (subst (IsEntered frames' h) held_is rows) in
      let kept_now : IsTableSet fields.pages pages' g fresh = subst (λ (k : Page). IsTableSet fields.pages pages' k fresh) back changed' in
      let globals_now : shared' ≡ shared_in config g (held_in config g f.0 fields.globals) = (shares ∙ ap (shared_in config h) holds) ∙ ap (λ (k : Page). shared_in config k (held_in config k f.0 fields.globals)) back in
      rw (taken, store_is, file_is) (subst (λ (starts : List (Option ℕ)). IsState seen tells config (record { seat = seat; what = what.Zero address f } ∷ past) (spare - 1)
      (record store { frames = frames'; buffers = slice_set store.buffers f.0 (Some (replicate PAGE_BYTES 0)) })
      (record fields { frames = frames'; starts = starts; processes = slice_set fields.processes seat.0 (record x { ring = placed x.ring x.limit v; faults = x.faults + 1 }); tables = tables'; pages = pages'; globals = shared'; file = record fields.file { charged = fields.file.charged + 1 } }) numbers) same
      (closed before (record { seat = seat; what = what.Zero address f }) (λ told. tt) legal paid (record store { frames = frames'; buffers = slice_set store.buffers f.0 (Some (replicate PAGE_BYTES 0)) }) _
      (zero_parts config past a seat address f before.formed (kept before) (right before) legal fields before.parts x read slot
      ((λ i. choose (sym is.0 i) (sym is.1 i)) ∙ chosen) frames' entered free modified tables' old procs changed there pages' kept_now shared' globals_now)
      (list_puts_buffer store.buffers f.0 (Some (replicate PAGE_BYTES 0)) (let count = before.places.buffers in let less = head.within in omega (arith, count, less)), refl)
      (record { ids = before.places.ids; buffers = length-set store.buffers f.0 (Some (replicate PAGE_BYTES 0)) ∙ before.places.buffers; blocks = before.places.blocks; left = before.places.left; firsts = before.places.firsts; size = before.places.size })))
