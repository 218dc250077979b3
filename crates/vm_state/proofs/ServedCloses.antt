-- SERVED closes, by service and answer.
use Rattle.std.proofs.Common.{◌≡◌, ℕ, ◌+◌, ◌-◌, ◌≤◌, Bool, true, false, List, ◌∷◌, Option, Some, length, slice_index_or, slice_set, refl}
use Rattle.std.specs.Option.{option_map}
use Rattle.vm_types.specs.BlockView.{BlockView, Tells}
use Rattle.vm_types.specs.Ring.{Ring}
use Rattle.vm_types.specs.declared.config.Config.{Config}
use Rattle.vm_types.specs.declared.config.Origin.{Origin}
use Rattle.vm_types.specs.declared.config.Origin.TheVariants as origin
use Rattle.vm_types.specs.declared.names.Addr.{Addr}
use Rattle.vm_types.specs.declared.names.Seat.{Seat}
use Rattle.vm_types.specs.declared.reply.Answer.{Answer}
use Rattle.vm_types.specs.declared.reply.Answer.TheVariants as answer
use Rattle.vm_types.specs.declared.service.Service.{Service}
use Rattle.vm_types.specs.declared.service.Service.TheVariants as service
use Rattle.vm_journal.specs.declared.entry.Entry.{Entry}
use Rattle.vm_journal.specs.declared.entry.What.TheVariants as what
use Rattle.pfn_database.specs.Frames.{Frames}
use Rattle.page_tables.specs.PageTables.{PageTables, pte_in}
use Rattle.pte_forms.specs.declared.pte.Place.TheVariants as place
use Rattle.pte_forms.specs.declared.pte.Pte.{Pte}
use Rattle.section_table.specs.SectionTable.{SectionTable, behind_of}
use Rattle.pager_model.specs.Forget.{after_delete}
use Rattle.pager_model.specs.Ring.{range_locked, range_pinned}
use Rattle.pager_model.specs.Run.{pager_after}
use Rattle.pager_model.specs.Served.{with_ring}
use Rattle.pager_model.specs.Step.{IsLegal}
use Rattle.frame_store.specs.StoreView.{StoreView}
use Rattle.state_parts.specs.declared.process_row.ProcessRow.{ProcessRow}
use Rattle.state_parts.specs.declared.spoken_row.SpokenRow.{SpokenRow}
use Rattle.state_fits.specs.Parts.{Parts}
use Rattle.state_fits.specs.PartsFit.{PartsFit}
use Rattle.state_fits.specs.Serving.{is_serving, pin_service, ranged, with_code}
use Rattle.state_fits.proofs.ServedParts.{FitAfter, adjusted_parts, created_parts, deleted_parts, left_parts, locked_parts, pinned_parts, protected_parts, unlocked_parts}
use Rattle.state_pages.specs.Locking.{lock_service}
use Rattle.vm_state.specs.History.{owed}
use Rattle.vm_state.specs.StateKept.{IsState}
use Rattle.vm_state.proofs.Closing.{closed, kept}

module _ {B : Type 0} {seen : B → BlockView} {tells : Tells} {config : Config} {past : List Entry} {spare : ℕ} {store : StoreView B} {fields : Parts} {numbers : List ℕ}
    (before : IsState seen tells config past spare store fields numbers) (seat : Seat) where
  -- no buffer and no block moves; a deletion changes the frames
  pub answered_closes : (s : Service) (w : Answer) → IsLegal config past (pager_after config past) (record { seat = seat; what = what.Served s w }) → owed (record { seat = seat; what = what.Served s w } ∷ past) + 1 ≤ spare
      → (frames : Frames) (fields' : Parts) → FitAfter config past (pager_after config past) seat s w fields'
      → IsState seen tells config (record { seat = seat; what = what.Served s w } ∷ past) (spare - 1) (record store { frames = frames }) fields' numbers
  answered_closes s w legal paid frames fields' fit =
      closed before (record { seat = seat; what = what.Served s w }) (λ told. tt) legal paid (record store { frames = frames }) fields' fit (refl, refl)
      (record { ids = before.places.ids; buffers = before.places.buffers; blocks = before.places.blocks; left = before.places.left; firsts = before.places.firsts; size = before.places.size })

  module _ (y : SpokenRow) (read_y : y ≡ slice_index_or fields.spoken seat.0 y) (number : ℕ) (is : number ≡ length past + 1) where
    abbrev said : List SpokenRow
    said = slice_set fields.spoken seat.0 (record { last = Some number; count = y.count + 1 })

    -- the state after the entry, with these fields
    abbrev Closes : Service → Answer → Parts → Type 0
    Closes s w fields' =
        IsLegal config past (pager_after config past) (record { seat = seat; what = what.Served s w }) → owed (record { seat = seat; what = what.Served s w } ∷ past) + 1 ≤ spare
        → IsState seen tells config (record { seat = seat; what = what.Served s w } ∷ past) (spare - 1) store fields' numbers

    pub left_closes : (s : Service) (w : Answer) → is_serving s w ≡ false → Closes s w (record fields { spoken = said })
    left_closes s w serving legal paid = rw is (answered_closes s w legal paid store.frames _ (left_parts config past (pager_after config past) seat fields before.parts y read_y s w serving legal))

    pub adjusted_closes : (n : ℕ) (x : ProcessRow) → x ≡ slice_index_or fields.processes seat.0 x
        → Closes (service.Adjust n) answer.Good (record fields { processes = slice_set fields.processes seat.0 (record x { limit = n }); spoken = said })
    adjusted_closes n x read legal paid =
        rw is (answered_closes (service.Adjust n) answer.Good legal paid store.frames _ (adjusted_parts config past (pager_after config past) seat fields before.parts y read_y n legal x read))

    locked_closes : (at : Addr) (pages n : ℕ) (x : ProcessRow) → x ≡ slice_index_or fields.processes seat.0 x → (ring : Ring) → ring ≡ range_locked true at.0 pages x.ring
        → Closes (service.Lock at pages) (answer.Count n) (record fields { processes = slice_set fields.processes seat.0 (record x { ring = ring }); spoken = said })
    locked_closes at pages n x read ring marked legal paid =
        rw (is, marked) (answered_closes (service.Lock at pages) (answer.Count n) legal paid store.frames _ (locked_parts config past (pager_after config past) seat fields before.parts y read_y at pages n legal x read))

    unlocked_closes : (at : Addr) (pages n : ℕ) (x : ProcessRow) → x ≡ slice_index_or fields.processes seat.0 x → (ring : Ring) → ring ≡ range_locked false at.0 pages x.ring
        → Closes (service.Unlock at pages) (answer.Count n) (record fields { processes = slice_set fields.processes seat.0 (record x { ring = ring }); spoken = said })
    unlocked_closes at pages n x read ring marked legal paid =
        rw (is, marked) (answered_closes (service.Unlock at pages) (answer.Count n) legal paid store.frames _ (unlocked_parts config past (pager_after config past) seat fields before.parts y read_y at pages n legal x read))

    pub relocked_closes : (lock : Bool) (at : Addr) (pages n : ℕ) (x : ProcessRow) → x ≡ slice_index_or fields.processes seat.0 x → (ring : Ring) → ring ≡ range_locked lock at.0 pages x.ring
        → Closes (lock_service lock at pages) (answer.Count n) (record fields { processes = slice_set fields.processes seat.0 (record x { ring = ring }); spoken = said })
    relocked_closes true = locked_closes
    relocked_closes false = unlocked_closes

    pub protected_closes : (at : Addr) (pages prot : ℕ) (tables' : PageTables) → tables'.procs ≡ (fields.tables).procs
        → ((q w : ℕ) → pte_in tables' q w ≡ ranged (option_map (with_code prot)) seat.0 at.0 pages (pte_in fields.tables) q w)
        → Closes (service.Protect at pages prot) answer.Good (record fields { tables = tables'; spoken = said })
    protected_closes at pages prot tables' procs changed legal paid =
        rw is (answered_closes (service.Protect at pages prot) answer.Good legal paid store.frames _ (protected_parts config past (pager_after config past) seat fields before.parts y read_y at pages prot legal tables' procs changed))

    pub created_closes : (at : Addr) (pages prot : ℕ) (tables' : PageTables) → tables'.procs ≡ (fields.tables).procs
        → ((q w : ℕ) → pte_in tables' q w ≡ ranged (λ (old : Option Pte). Some (record { prot = prot; place = place.DemandZero })) seat.0 at.0 pages (pte_in fields.tables) q w)
        → (sections' : SectionTable) → sections'.procs ≡ (fields.sections).procs → sections'.parts ≡ (fields.sections).parts
        → ((q w : ℕ) → behind_of sections' q w ≡ ranged (λ (old : Option Origin). Some origin.Zero) seat.0 at.0 pages (behind_of fields.sections) q w)
        → Closes (service.Create at pages prot) answer.Good (record fields { tables = tables'; sections = sections'; spoken = said })
    created_closes at pages prot tables' procs changed sections' procs_s kinds behind legal paid =
        rw is (answered_closes (service.Create at pages prot) answer.Good legal paid store.frames _
        (created_parts config past (pager_after config past) seat fields before.parts y read_y at pages prot (kept before) legal tables' procs changed sections' procs_s kinds behind))

  -- once the pages of the range are pinned, or unpinned
  pub pinned_closes : (pin : Bool) (at : Addr) (pages n : ℕ) → IsLegal config past (pager_after config past) (record { seat = seat; what = what.Served (pin_service pin at pages) (answer.Count n) })
      → owed (record { seat = seat; what = what.Served (pin_service pin at pages) (answer.Count n) } ∷ past) + 1 ≤ spare
      → (frames : Frames) (fields' : Parts) → PartsFit config past (with_ring (pager_after config past) seat.0 (range_pinned pin at.0 pages ((pager_after config past).ring seat.0))) fields'
      → (y : SpokenRow) → y ≡ slice_index_or fields'.spoken seat.0 y → (number : ℕ) → number ≡ length past + 1
      → IsState seen tells config (record { seat = seat; what = what.Served (pin_service pin at pages) (answer.Count n) } ∷ past) (spare - 1) (record store { frames = frames })
      (record fields' { spoken = slice_set fields'.spoken seat.0 (record { last = Some number; count = y.count + 1 }) }) numbers
  pinned_closes pin at pages n legal paid frames fields' fit y read_y number is =
      rw is (answered_closes (pin_service pin at pages) (answer.Count n) legal paid frames _ (pinned_parts config past (pager_after config past) seat pin at pages n legal fields' fit y read_y))

  -- once the pages of the range are deleted
  pub deleted_closes : (at : Addr) (pages : ℕ) → IsLegal config past (pager_after config past) (record { seat = seat; what = what.Served (service.Delete at pages) answer.Good })
      → owed (record { seat = seat; what = what.Served (service.Delete at pages) answer.Good } ∷ past) + 1 ≤ spare
      → (frames : Frames) (fields' : Parts) → PartsFit config past (after_delete config (pager_after config past) seat.0 at.0 pages) fields'
      → (y : SpokenRow) → y ≡ slice_index_or fields'.spoken seat.0 y → (number : ℕ) → number ≡ length past + 1
      → IsState seen tells config (record { seat = seat; what = what.Served (service.Delete at pages) answer.Good } ∷ past) (spare - 1) (record store { frames = frames })
      (record fields' { spoken = slice_set fields'.spoken seat.0 (record { last = Some number; count = y.count + 1 }) }) numbers
  deleted_closes at pages legal paid frames fields' fit y read_y number is =
      rw is (answered_closes (service.Delete at pages) answer.Good legal paid frames _ (deleted_parts config past (pager_after config past) seat at pages legal fields' fit y read_y))
