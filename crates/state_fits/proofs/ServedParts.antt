-- SERVED, by service and answer: each of the parts that changes, and the entry that is spoken.
use Rattle.std.proofs.Common.{◌≡◌, ℕ, ◌+◌, ◌<◌, Bool, false, true, List, ◌∷◌, Option, Some, length, slice_set, slice_index_or, refl, sym, subst}
use Rattle.vm_types.specs.declared.config.Config.{Config}
use Rattle.vm_types.specs.declared.config.Origin.{Origin}
use Rattle.vm_types.specs.declared.config.Origin.TheVariants as origin
use Rattle.vm_types.specs.declared.names.Addr.{Addr}
use Rattle.vm_types.specs.declared.names.Seat.{Seat}
use Rattle.vm_types.specs.declared.reply.Answer.{Answer}
use Rattle.vm_types.specs.declared.reply.Answer.TheVariants as answer
use Rattle.vm_types.specs.declared.service.Service.{Service}
use Rattle.vm_types.specs.declared.service.Service.TheVariants as service
use Rattle.vm_journal.specs.declared.entry.Entry.{Entry}
use Rattle.vm_journal.specs.declared.entry.What.TheVariants as what
use Rattle.page_tables.specs.PageTables.{PageTables, pte_in}
use Rattle.pte_forms.specs.declared.pte.Place.TheVariants as place
use Rattle.pte_forms.specs.declared.pte.Pte.{Pte}
use Rattle.section_table.specs.SectionTable.{SectionTable, behind_of}
use Rattle.pager_model.specs.Around.{past_view, quiet}
use Rattle.pager_model.specs.Flights.{is_busy, open_flights}
use Rattle.pager_model.specs.Forget.{after_delete}
use Rattle.pager_model.specs.Pager.{Pager}
use Rattle.pager_model.specs.Ring.{range_locked, range_pinned}
use Rattle.pager_model.specs.Served.{with_ring}
use Rattle.pager_model.specs.Step.{after, IsLegal}
use Rattle.pager_rules.proofs.Turns.{calm, idle}
use Rattle.pager_rules.specs.Kept.{IsKept}
use Rattle.std.specs.Option.{option_map}
use Rattle.state_parts.specs.declared.process_row.ProcessRow.{ProcessRow}
use Rattle.state_parts.specs.declared.spoken_row.SpokenRow.{SpokenRow}
use Rattle.state_fits.specs.Parts.{Parts}
use Rattle.state_fits.specs.PartsFit.{PartsFit}
use Rattle.state_fits.specs.Serving.{is_serving, pin_service, ranged, with_code}
use Rattle.state_fits.proofs.AnswerSpoken.{served_process, served_spoken, state_left}
use Rattle.state_fits.proofs.LimitAndLocks.{adjusted, relocked}
use Rattle.state_fits.proofs.RemappedParts.{created, protected}

module _ (config : Config) (past : List Entry) (a : Pager) (seat : Seat) where
  abbrev pub served_by : Service → Answer → Entry
  served_by s w = record { seat = seat; what = what.Served s w }

  abbrev pub IsLegalAnswer : Service → Answer → Type 0
  IsLegalAnswer s w = IsLegal config past a (record { seat = seat; what = what.Served s w })

  -- the parts stand for the state after the entry
  abbrev pub FitAfter : Service → Answer → Parts → Type 0
  FitAfter s w parts = PartsFit config (record { seat = seat; what = what.Served s w } ∷ past) (after config past a (record { seat = seat; what = what.Served s w })) parts

  module _ (parts : Parts) (fit : PartsFit config past a parts) (y : SpokenRow) (read_y : y ≡ slice_index_or parts.spoken seat.0 y) where
    -- the row of the spoken entries of its process
    abbrev pub said : List SpokenRow
    said = slice_set parts.spoken seat.0 (record { last = Some (length past + 1); count = y.count + 1 })

    -- a refusal, a failure, and a purge
    pub left_parts : (s : Service) (w : Answer) → is_serving s w ≡ false → IsLegalAnswer s w → FitAfter s w (record parts { spoken = said })
    left_parts s w is legal =
        subst (λ (b : Pager). PartsFit config (served_by s w ∷ past) b (record parts { spoken = said })) (sym (state_left config a seat.0 s w is))
        (served_spoken config past seat s w a parts legal.in_turn (served_process config past a seat.0 s w legal.row) fit y read_y)

    pub adjusted_parts : (n : ℕ) → IsLegalAnswer (service.Adjust n) answer.Good → (x : ProcessRow) → x ≡ slice_index_or parts.processes seat.0 x
        → FitAfter (service.Adjust n) answer.Good (record parts { processes = slice_set parts.processes seat.0 (record x { limit = n }); spoken = said })
    adjusted_parts n legal x read =
        served_spoken config past seat (service.Adjust n) answer.Good _ (record parts { processes = slice_set parts.processes seat.0 (record x { limit = n }) }) legal.in_turn legal.row.0.process
        (adjusted config past a seat.0 legal.row.0.process parts fit x read n) y read_y

    pub locked_parts : (at : Addr) (pages n : ℕ) → IsLegalAnswer (service.Lock at pages) (answer.Count n) → (x : ProcessRow) → x ≡ slice_index_or parts.processes seat.0 x
        → FitAfter (service.Lock at pages) (answer.Count n) (record parts { processes = slice_set parts.processes seat.0 (record x { ring = range_locked true at.0 pages x.ring }); spoken = said })
    locked_parts at pages n legal x read =
        served_spoken config past seat (service.Lock at pages) (answer.Count n) _ (record parts { processes = slice_set parts.processes seat.0 (record x { ring = range_locked true at.0 pages x.ring }) }) legal.in_turn legal.row.0.process
        (relocked config past a seat.0 legal.row.0.process parts fit x read true at.0 pages) y read_y

    pub unlocked_parts : (at : Addr) (pages n : ℕ) → IsLegalAnswer (service.Unlock at pages) (answer.Count n) → (x : ProcessRow) → x ≡ slice_index_or parts.processes seat.0 x
        → FitAfter (service.Unlock at pages) (answer.Count n) (record parts { processes = slice_set parts.processes seat.0 (record x { ring = range_locked false at.0 pages x.ring }); spoken = said })
    unlocked_parts at pages n legal x read =
        served_spoken config past seat (service.Unlock at pages) (answer.Count n) _ (record parts { processes = slice_set parts.processes seat.0 (record x { ring = range_locked false at.0 pages x.ring }) }) legal.in_turn legal.row.0.process
        (relocked config past a seat.0 legal.row.0.process parts fit x read false at.0 pages) y read_y

    pub protected_parts : (at : Addr) (pages prot : ℕ) → IsLegalAnswer (service.Protect at pages prot) answer.Good
        → (tables' : PageTables) → tables'.procs ≡ (parts.tables).procs → ((q w : ℕ) → pte_in tables' q w ≡ ranged (option_map (with_code prot)) seat.0 at.0 pages (pte_in parts.tables) q w)
        → FitAfter (service.Protect at pages prot) answer.Good (record parts { tables = tables'; spoken = said })
    protected_parts at pages prot legal tables' procs changed =
        served_spoken config past seat (service.Protect at pages prot) answer.Good _ (record parts { tables = tables' }) legal.in_turn legal.row.0.process
        (protected config past a seat.0 at.0 pages parts fit prot tables' procs changed) y read_y

    pub created_parts : (at : Addr) (pages prot : ℕ) → IsKept config (past_view past) a → IsLegalAnswer (service.Create at pages prot) answer.Good
        → (tables' : PageTables) → tables'.procs ≡ (parts.tables).procs → ((q w : ℕ) → pte_in tables' q w ≡ ranged (λ (old : Option Pte). Some (record { prot = prot; place = place.DemandZero })) seat.0 at.0 pages (pte_in parts.tables) q w)
        → (sections' : SectionTable) → sections'.procs ≡ (parts.sections).procs → sections'.parts ≡ (parts.sections).parts
        → ((q w : ℕ) → behind_of sections' q w ≡ ranged (λ (old : Option Origin). Some origin.Zero) seat.0 at.0 pages (behind_of parts.sections) q w)
        → FitAfter (service.Create at pages prot) answer.Good (record parts { tables = tables'; sections = sections'; spoken = said })
    created_parts at pages prot kept legal tables' procs changed sections' procs_s kinds behind =
        served_spoken config past seat (service.Create at pages prot) answer.Good _ (record parts { tables = tables'; sections = sections' }) legal.in_turn legal.row.0.process
        (created config past a seat.0 at.0 pages parts fit prot kept legal.row.1 tables' procs changed sections' procs_s kinds behind) y read_y

  -- once the pages of the range are deleted
  pub deleted_parts : (at : Addr) (pages : ℕ) → IsLegalAnswer (service.Delete at pages) answer.Good → (parts : Parts) → PartsFit config past (after_delete config a seat.0 at.0 pages) parts
      → (y : SpokenRow) → y ≡ slice_index_or parts.spoken seat.0 y
      → FitAfter (service.Delete at pages) answer.Good (record parts { spoken = slice_set parts.spoken seat.0 (record { last = Some (length past + 1); count = y.count + 1 }) })
  deleted_parts at pages legal parts fit y read_y =
      served_spoken config past seat (service.Delete at pages) answer.Good (after_delete config a seat.0 at.0 pages) parts legal.in_turn legal.row.0.process fit y read_y

  -- once the pages of the range are pinned, or unpinned
  pub pinned_parts : (pin : Bool) (at : Addr) (pages n : ℕ) → IsLegalAnswer (pin_service pin at pages) (answer.Count n) → (parts : Parts) → PartsFit config past (with_ring a seat.0 (range_pinned pin at.0 pages (a.ring seat.0))) parts
      → (y : SpokenRow) → y ≡ slice_index_or parts.spoken seat.0 y
      → FitAfter (pin_service pin at pages) (answer.Count n) (record parts { spoken = slice_set parts.spoken seat.0 (record { last = Some (length past + 1); count = y.count + 1 }) })
  pinned_parts true at pages n legal parts fit y read_y =
      served_spoken config past seat (service.Pin at pages) (answer.Count n) (with_ring a seat.0 (range_pinned true at.0 pages (a.ring seat.0))) parts legal.in_turn (served_process config past a seat.0 (service.Pin at pages) (answer.Count n) legal.row) fit y read_y
  pinned_parts false at pages n legal parts fit y read_y =
      served_spoken config past seat (service.Unpin at pages) (answer.Count n) (with_ring a seat.0 (range_pinned false at.0 pages (a.ring seat.0))) parts legal.in_turn (served_process config past a seat.0 (service.Unpin at pages) (answer.Count n) legal.row) fit y read_y

  -- what the pins of the pages need of it
  pub pin_process : (pin : Bool) (at : Addr) (pages n : ℕ) → IsLegalAnswer (pin_service pin at pages) (answer.Count n) → seat.0 < length config.procs
  pin_process pin at pages n legal = served_process config past a seat.0 (pin_service pin at pages) (answer.Count n) legal.row

  -- what the deletion of each page needs of the entry
  pub delete_kept : (at : Addr) (pages : ℕ) → IsKept config (past_view past) a → IsLegalAnswer (service.Delete at pages) answer.Good → IsKept config (quiet (open_flights past)) a
  delete_kept at pages kept legal = calm config past a (served_by (service.Delete at pages) answer.Good) legal.in_turn refl kept

  pub delete_idle : (at : Addr) (pages : ℕ) → IsLegalAnswer (service.Delete at pages) answer.Good → is_busy seat.0 (open_flights past) ≡ false
  delete_idle at pages legal = idle config past (served_by (service.Delete at pages) answer.Good) legal.in_turn refl
