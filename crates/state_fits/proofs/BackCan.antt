-- BACK: what its calls require.
use Rattle.std.proofs.Common.{◌≡◌, inl, inr, ℕ, ◌<◌, ◌≤◌, true, List, Some, None, length, slice_index_or, refl, sym, ap, ◌∙◌, subst, arith}
use Rattle.std.proofs.lemmas.Bool.{false≢true}
use Rattle.std.proofs.lemmas.Option.{get_or_from_slice_get}
use Rattle.vm_types.specs.declared.limits.TheConstants.{MOST_EXTENT}
use Rattle.vm_types.specs.Configuration.{IsWellFormed}
use Rattle.vm_types.specs.Ring.{filled}
use Rattle.vm_types.specs.declared.config.Config.{Config}
use Rattle.vm_types.specs.declared.names.Addr.{Addr}
use Rattle.vm_types.specs.declared.names.BlockId.TheVariants as block
use Rattle.vm_types.specs.declared.names.FrameState.{FrameState}
use Rattle.vm_types.specs.declared.names.FrameState.TheVariants as state
use Rattle.vm_types.specs.declared.names.Page.{Page}
use Rattle.vm_types.specs.declared.names.Page.TheVariants.{Private}
use Rattle.vm_types.specs.declared.names.Pfn.{Pfn}
use Rattle.vm_types.specs.declared.names.Proc.{Proc}
use Rattle.vm_types.specs.declared.names.ProcStatus.TheVariants as status
use Rattle.vm_types.specs.declared.names.Seat.{Seat}
use Rattle.vm_journal.specs.declared.entry.Entry.{Entry}
use Rattle.vm_journal.specs.declared.entry.What.TheVariants as what
use Rattle.pfn_database.specs.Frames.{row_of}
use Rattle.pfn_database.specs.Rows.{FitsSlotIndex}
use Rattle.pfn_database.specs.declared.row.Row.{Row}
use Rattle.state_parts.specs.ChargedTable.{kept_at}
use Rattle.state_parts.specs.declared.charged_page.ChargedPage.{ChargedPage}
use Rattle.state_parts.specs.declared.process_row.ProcessRow.{ProcessRow}
use Rattle.working_set.specs.Slots.{IsEmptySlot}
use Rattle.pager_laws.proofs.KeptIsSound.{has_from_count}
use Rattle.pager_laws.specs.Laws.{HasFewCounts}
use Rattle.pager_model.specs.Around.{past_view}
use Rattle.pager_model.specs.Back.{IsAnyBack, IsBackComing, may_come_back}
use Rattle.pager_model.specs.Flights.{open_flights}
use Rattle.pager_model.specs.Lookups.{block_of, count_page, page_by}
use Rattle.pager_model.specs.Maps.{page_number, proc}
use Rattle.pager_model.specs.OfConfig.{IsOfConfig}
use Rattle.pager_model.specs.Pager.{Pager}
use Rattle.pager_model.specs.Sets.{has_page}
use Rattle.pager_model.specs.Sound.{IsSwapped}
use Rattle.pager_model.specs.Step.{IsLegal}
use Rattle.pager_rules.specs.Kept.{IsKept}
use Rattle.pager_laws.proofs.RingBounds.{bounded}
use Rattle.state_fits.specs.Parts.{Parts}
use Rattle.state_fits.specs.PartsFit.{PartsFit}
use Rattle.state_fits.specs.Processes.{process_row}
use Rattle.state_fits.proofs.BackParts.{empty, is_coming, is_resident, lay, page_own, page_there, process}
use Rattle.state_fits.proofs.EnterCan.{CanEnter, can_enter}
use Rattle.state_fits.proofs.FrameRows.{row_read}
use Rattle.state_fits.proofs.ChargedRows.{charged_is}
use Rattle.state_fits.proofs.PartsSet.{process_read}

pub record CanBack (config : Config) (p v f : ℕ) (parts : Parts) : Type 0 where
  pub process : p < length parts.processes
  pub usable : ((row_of parts.frames f).state ≡ state.Bad → ⊥) × ((row_of parts.frames f).state ≡ state.ReadError → ⊥)
  pub enter : CanEnter config p v f parts

-- of a resident process
pub record CanBackResident (n : ℕ) (x : ProcessRow) : Type 0 where
  pub below : filled x.ring.slots < x.limit
  pub limit : x.limit ≤ length x.ring.slots
  pub faults : x.faults ≤ n

-- of a coming one
pub record CanBackComing (p v f : ℕ) (parts : Parts) (x : ProcessRow) : Type 0 where
  pub procs : p < parts.swaps.procs
  pub charged : ChargedPage
  pub kept : kept_at parts.pages (Private (proc p) v) ≡ Some charged
  pub slot : ℕ
  pub lies : charged.lies ≡ Some (block.Swap (proc p) slot)
  pub few : slot < MOST_EXTENT
  pub empty : IsEmptySlot x.ring slot
  pub fits : (g : Page) → (row_of parts.frames f).page ≡ Some g → FitsSlotIndex (Some g) slot

usable : (s : FrameState) → may_come_back s ≡ true → (s ≡ state.Bad → ⊥) × (s ≡ state.ReadError → ⊥)
usable s may = (λ is. false≢true (ap may_come_back (sym is) ∙ may), λ is. false≢true (ap may_come_back (sym is) ∙ may))

module _ (config : Config) (past : List Entry) (a : Pager) (seat : Seat) (q : Proc) (address : Addr) (f : Pfn) (from : FrameState) (parts : Parts)
    (formed : IsWellFormed config) (before : IsKept config (past_view past) a) (right : IsOfConfig config a)
    (legal : IsLegal config past a (record { seat = seat; what = what.Back q address f from })) (fit : PartsFit config past a parts) where
  abbrev v : ℕ
  v = page_number address.0

  there : q.0 < length config.procs
  there = process config past a seat q address f from parts before right legal fit

  known_row : (x : ProcessRow) → x ≡ slice_index_or parts.processes q.0 x → x ≡ process_row a.status a.ring a.limit a.references a.faults a.collided q.0
  known_row x read = process_read (process_row a.status a.ring a.limit a.references a.faults a.collided) (length config.procs) parts.processes q.0 x fit.processes there read

  abbrev its : (g : Page) × (page_by config a.map q.0 v ≡ Some g) × (a.page f.0 ≡ Some g)
  its = page_there config past a seat q address f from parts before right legal fit legal.row

  may : IsAnyBack config a seat.0 q.0 address.0 f.0 from → may_come_back (a.state f.0) ≡ true
  may (inl legal) = ap may_come_back legal.1.state ∙ legal.1.may
  may (inr legal) = ap may_come_back (legal.state ∙ legal.free)

  pub back_can : CanBack config q.0 v f.0 parts
  back_can =
      let read = row_read a.state a.page a.modify a.valid a.ring (open_flights past) config.frames a.free a.modified parts.frames f.0 fit.frames in
      record {
        process = omega (arith, there, fit.processes.count);
        usable = usable (row_of parts.frames f.0).state (ap (λ (row : Row). may_come_back row.state) read ∙ may legal.row);
        enter = can_enter config past a q.0 v f.0 its.0 parts formed before right fit its.1 its.2;
      }

  pub back_resident_can : HasFewCounts (length past) a → (x : ProcessRow) → x ≡ slice_index_or parts.processes q.0 x → (x.status ≡ status.Coming → ⊥) → CanBackResident (length past) x
  back_resident_can few x read not_coming =
      let is = known_row x read in
      let back = is_resident config past a seat q address f from parts before right legal fit x read not_coming in
      let bounds = bounded config (past_view past) a formed before q.0 there in
      let same_limit = ap (λ (y : ProcessRow). y.limit) is in
      let same_slots = ap (λ (y : ProcessRow). length y.ring.slots) is in
      let same_filled = ap (λ (y : ProcessRow). filled y.ring.slots) is in
      let same_faults = ap (λ (y : ProcessRow). y.faults) is in
      record {
        below = omega (arith, back.below_limit, same_limit, same_filled);
        limit = omega (arith, bounds.1.most, bounds.1.slots, same_limit, same_slots);
        faults = omega (arith, few.faults q.0, same_faults);
      }

  pub back_coming_can : (x : ProcessRow) → x ≡ slice_index_or parts.processes q.0 x → x.status ≡ status.Coming → CanBackComing q.0 v f.0 parts x
  back_coming_can x read comes =
      let is = known_row x read in
      let bounds = bounded config (past_view past) a formed before q.0 there in
      let within = swap.within in
      let row = row_read a.state a.page a.modify a.valid a.ring (open_flights past) config.frames a.free a.modified parts.frames f.0 fit.frames in
      record {
        procs = omega (arith, there, fit.swaps.procs);
        charged = record { touched = has_page a.touched (Private q v); lies = a.lies (Private q v); assigned = block_of a.assigned (Private q v) };
        kept = fit.pages.each (Private q v) ∙ charged_is a.charged a.touched a.lies a.assigned (Private q v) (has_from_count a.charged (Private q v) is_charged);
        slot = back.slot;
        lies = lay config past a seat q address f from parts before right legal fit back;
        few = omega (arith, within, bounds.1.slots, bounds.2);
        empty = record {
          exists = let same = ap (λ (y : ProcessRow). length y.ring.slots) is in omega (arith, same, within);
          empty = ap (λ (y : ProcessRow). slice_index_or y.ring.slots back.slot None) is ∙ get_or_from_slice_get (a.ring q.0).slots back.slot None None (empty config past a seat q address f from parts before right legal fit back);
        };
        fits = λ g held. subst (λ (h : Page). FitsSlotIndex (Some h) back.slot) (let here = sym (ap (λ (r : Row). r.page) row) ∙ held in let own = page_own config past a seat q address f from parts before right legal fit back in let same : Private q v ≡ g = cc (here, own, back.holds) in same) tt;
      }
    where
      back : IsBackComing config a q.0 address.0 f.0 from
      back = is_coming config past a seat q address f from parts before right legal fit x read comes

      swap : IsSwapped a.lies a.status a.ring a.state a.page back.page q.0 back.slot
      swap = before.swapped back.page q.0 back.slot back.lies

      is_charged : 0 < count_page a.charged (Private q v)
      is_charged = let one = (before.pages (Private q v)).lying _ refl (lay config past a seat q address f from parts before right legal fit back) in omega (arith, one)
