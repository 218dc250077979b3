-- A deletion closes, and its calls may be made: a page of the range after the other.
use Rattle.std.proofs.Common.{◌≡◌, ℕ, ◌+◌, ◌-◌, ◌≤◌, ◌<◌, false, List, [], ◌∷◌, ◌++◌, Option, Some, None, length, slice_index_or, slice_set, refl, sym, ap, subst}
use Rattle.std.specs.Prelude.{IsSome}
use Rattle.vm_types.specs.BlockView.{BlockView, Tells}
use Rattle.vm_types.specs.PagePlaces.{changed_at}
use Rattle.vm_types.specs.declared.names.Page.TheVariants.{Private}
use Rattle.vm_types.specs.declared.config.Config.{Config}
use Rattle.vm_types.specs.declared.names.Addr.{Addr}
use Rattle.vm_types.specs.declared.names.FrameState.TheVariants as state
use Rattle.vm_types.specs.declared.names.Seat.{Seat}
use Rattle.vm_types.specs.declared.reply.Answer.TheVariants as answer
use Rattle.vm_types.specs.declared.service.Service.TheVariants as service
use Rattle.run_record.specs.RunRecord.{Recorded}
use Rattle.vm_journal.specs.declared.entry.Entry.{Entry}
use Rattle.vm_journal.specs.declared.entry.What.TheVariants as what
use Rattle.page_file.specs.Blocks.{Blocks, IsAssignedBlock, assigned_blocks}
use Rattle.page_tables.specs.PageTables.{IsMapped, PageTables, pte_in}
use Rattle.pfn_database.specs.Frames.{Frames, row_of}
use Rattle.pfn_database.specs.Rows.{IsOneOf}
use Rattle.pte_forms.specs.declared.pte.Pte.{Pte}
use Rattle.section_table.specs.SectionTable.{SectionTable, behind_of}
use Rattle.pager_model.specs.Around.{quiet}
use Rattle.pager_model.specs.Flights.{is_busy, open_flights}
use Rattle.pager_model.specs.Forget.{after_delete}
use Rattle.pager_model.specs.Maps.{page_number, proc}
use Rattle.pager_model.specs.Pager.{Pager}
use Rattle.pager_model.specs.Run.{pager_after}
use Rattle.pager_model.specs.Step.{IsLegal}
use Rattle.pager_rules.specs.Kept.{IsKept}
use Rattle.frame_store.specs.StoreView.{StoreView}
use Rattle.state_parts.specs.ChargedTable.{ChargedTable, IsTableSet, kept_at}
use Rattle.state_parts.specs.declared.charged_page.ChargedPage.{ChargedPage}
use Rattle.state_parts.specs.declared.spoken_row.SpokenRow.{SpokenRow}
use Rattle.state_fits.specs.Forgetting.{emptied_frame, frame_in_transition, released_block, uncharged_page}
use Rattle.state_fits.specs.Parts.{Parts}
use Rattle.state_fits.specs.PartsFit.{PartsFit}
use Rattle.state_fits.proofs.DeletedCan as can
use Rattle.state_fits.proofs.DeletedParts.{deleted_none, deleted_step}
use Rattle.state_fits.proofs.PartsSet.{spoken_read}
use Rattle.state_fits.proofs.ServedParts.{delete_idle, delete_kept}
use Rattle.vm_state.specs.History.{owed}
use Rattle.vm_state.specs.StateKept.{IsState}
use Rattle.vm_state.proofs.Closing.{kept}
use Rattle.vm_state.proofs.ServedCloses.{deleted_closes}
use Rattle.vm_state.proofs.SimpleCloses.{spoken_by_few}

-- what is pushed to a journal that is as it was
pub pushed_on : (before now new : Recorded) (e : Entry) → now ≡ before → new ≡ record now { entries = now.entries ++ e ∷ []; spare = now.spare - 1 } → new ≡ record before { entries = before.entries ++ e ∷ []; spare = before.spare - 1 }
pushed_on before now new e is pushed = subst (λ (j : Recorded). new ≡ record j { entries = j.entries ++ e ∷ []; spare = j.spare - 1 }) is pushed

-- a store that differs in its frames, with other frames
pub frames_in : {B : Type 0} (before now : StoreView B) (frames frames' : Frames) → now ≡ record before { frames = frames } → record now { frames = frames' } ≡ record before { frames = frames' }
frames_in {B} before now frames frames' is = ap (λ (s : StoreView B). record s { frames = frames' }) is

module _ {B : Type 0} {seen : B → BlockView} {tells : Tells} {config : Config} {past : List Entry} {spare : ℕ} {store : StoreView B} {fields : Parts} {numbers : List ℕ}
    (before : IsState seen tells config past spare store fields numbers) (seat : Seat) (at : Addr) (pages : ℕ)
    (legal : IsLegal config past (pager_after config past) (record { seat = seat; what = what.Served (service.Delete at pages) answer.Good })) where
  abbrev a : Pager
  a = pager_after config past

  -- the parts once so many pages are deleted
  abbrev FitDeleted : ℕ → Parts → Type 0
  FitDeleted i parts = PartsFit config past (after_delete config (pager_after config past) seat.0 at.0 i) parts

  calm : IsKept config (quiet (open_flights past)) a
  calm = delete_kept config past a seat at pages (kept before) legal

  still : is_busy seat.0 (open_flights past) ≡ false
  still = delete_idle config past a seat at pages legal

  pub none_deleted : FitDeleted 0 fields
  none_deleted = subst (λ (b : Pager). PartsFit config past b fields) (sym (deleted_none config past a seat.0 at.0 pages calm legal.row.0 still legal.row.1)) before.parts

  module _ (i : ℕ) (below : i < pages) (parts : Parts) (fit : FitDeleted i parts) where
    abbrev v : ℕ
    v = page_number at.0 + i

    pub can_unmap : IsMapped parts.tables seat.0 v × IsSome (behind_of parts.sections seat.0 v)
    can_unmap = can.can_unmap config past a seat.0 at.0 pages calm legal.row.0 still legal.row.1 i v below refl parts fit

    pub can_empty : (pte : Pte) → pte_in parts.tables seat.0 v ≡ Some pte → (f : ℕ) → frame_in_transition pte.place ≡ Some f
        → (f < length (parts.frames).rows) × IsOneOf (state.Free ∷ state.Modified ∷ state.ReadError ∷ []) (row_of parts.frames f).state × ((row_of parts.frames f).flights ≡ 0)
    can_empty = can.can_empty config past a seat.0 at.0 pages calm legal.row.0 still legal.row.1 i v below refl parts fit

    pub can_release : (row : ChargedPage) → kept_at parts.pages (Private (proc seat.0) v) ≡ Some row → (n : ℕ) → row.assigned ≡ Some n → IsAssignedBlock parts.file n
    can_release row found = can.can_release config past a seat.0 at.0 pages calm legal.row.0 still legal.row.1 i v below refl parts fit row found

    pub can_uncharge : (row : ChargedPage) → kept_at parts.pages (Private (proc seat.0) v) ≡ Some row → assigned_blocks (released_block row.assigned parts.file) < (released_block row.assigned parts.file).charged
    can_uncharge row found = can.can_uncharge config past a seat.0 at.0 pages calm legal.row.0 still legal.row.1 i v below refl parts fit row found

    pub one_deleted : (pte : Pte) → pte_in parts.tables seat.0 v ≡ Some pte → (row : Option ChargedPage) → row ≡ kept_at parts.pages (Private (proc seat.0) v)
        → (frames' : Frames) → frames' ≡ emptied_frame (frame_in_transition pte.place) parts.frames → (file' : Blocks) → file' ≡ uncharged_page row parts.file
        → (tables' : PageTables) → tables'.procs ≡ (parts.tables).procs → ((q w : ℕ) → pte_in tables' q w ≡ changed_at (pte_in parts.tables) seat.0 v None q w)
        → (sections' : SectionTable) → sections'.procs ≡ (parts.sections).procs → sections'.parts ≡ (parts.sections).parts → ((q w : ℕ) → behind_of sections' q w ≡ changed_at (behind_of parts.sections) seat.0 v None q w)
        → (pages' : ChargedTable) → IsTableSet parts.pages pages' (Private (proc seat.0) v) None
        → FitDeleted (i + 1) (record parts { frames = frames'; tables = tables'; sections = sections'; pages = pages'; file = file' })
    one_deleted pte there row row_is frames' frames_is file' file_is tables' procs changed sections' procs_s kinds behind pages' charged =
        rw (frames_is, file_is, row_is)
        (deleted_step config past a seat.0 at.0 pages calm legal.row.0 still legal.row.1 i v below refl parts fit pte there tables' procs changed sections' procs_s kinds behind pages' charged)

  pub spoken_few : (i : ℕ) (parts : Parts) → FitDeleted i parts → (y : SpokenRow) → y ≡ slice_index_or parts.spoken seat.0 y → y.count ≤ length past
  spoken_few i parts fit y read =
      subst (λ (n : ℕ). n ≤ length past) (sym (ap (λ (z : SpokenRow). z.count) (spoken_read past (length config.procs) parts.spoken seat.0 y fit.spoken legal.row.0.process read))) (spoken_by_few seat.0 past)

  -- once each page is deleted
  pub delete_closes : owed (record { seat = seat; what = what.Served (service.Delete at pages) answer.Good } ∷ past) + 1 ≤ spare
      → (i : ℕ) → i ≡ pages → (fields' : Parts) → FitDeleted i fields' → (config' : Config) → config' ≡ config → (numbers' : List ℕ) → numbers' ≡ numbers
      → (frames : Frames) (store' : StoreView B) → store' ≡ record store { frames = frames }
      → (y : SpokenRow) → y ≡ slice_index_or fields'.spoken seat.0 y → (number : ℕ) → number ≡ length past + 1
      → IsState seen tells config' (record { seat = seat; what = what.Served (service.Delete at pages) answer.Good } ∷ past) (spare - 1) store'
      (record fields' { spoken = slice_set fields'.spoken seat.0 (record { last = Some number; count = y.count + 1 }) }) numbers'
  delete_closes paid i all fields' fit config' config_is numbers' numbers_is frames store' store_is y read_y number is =
      rw (config_is, numbers_is, store_is)
      (deleted_closes before seat at pages legal paid frames fields' (subst (λ (n : ℕ). FitDeleted n fields') all fit) y read_y number is)
