-- The answer to a service, by what the parts keep.
use Rattle.std.proofs.Common.{◌≡◌, ℕ, ◌+◌, ◌-◌, ◌<◌, ◌≤◌, true, false, not, List, Option, Some, None, length, map, slice_get, slice_index_or, refl, sym, ap, ◌∙◌, subst, arith}
use Rattle.std.specs.List.{list_any}
use Rattle.std.specs.Option.{is_some}
use Rattle.std.proofs.lemmas.Option.{slice_get-get_or}
use Rattle.vm_types.specs.declared.limits.TheConstants.{MOST_EXTENT}
use Rattle.vm_types.specs.BlockView.{BlockView, Tells}
use Rattle.vm_types.specs.Configuration.{IsProcess, all_pins}
use Rattle.vm_types.specs.Ring.{Ring}
use Rattle.vm_types.specs.declared.config.Config.{Config}
use Rattle.vm_types.specs.declared.config.ProcSpec.{ProcSpec}
use Rattle.vm_types.specs.declared.names.BlockId.{BlockId}
use Rattle.vm_types.specs.declared.names.Page.{Page}
use Rattle.vm_types.specs.declared.service.Service.{Service}
use Rattle.vm_journal.specs.declared.entry.Entry.{Entry}
use Rattle.pager_model.specs.Forget.{holder, range_of}
use Rattle.pager_model.specs.Lookups.{entry_of}
use Rattle.pager_model.specs.Maps.{Map, Mapped}
use Rattle.pager_model.specs.Pager.{Pager, Valid}
use Rattle.pager_model.specs.Run.{pager_after}
use Rattle.pager_model.specs.MappedRanges.{is_in_use, is_unmapped}
use Rattle.frame_store.specs.StoreView.{StoreView}
use Rattle.state_parts.specs.declared.process_row.ProcessRow.{ProcessRow}
use Rattle.state_fits.specs.Entries.{pte_at, pte_of}
use Rattle.state_fits.specs.Parts.{Parts}
use Rattle.state_pages.specs.ServiceAnswers.{has_entry, service_answer, some_entry}
use Rattle.vm_state.specs.Answering.{answer_in}
use Rattle.vm_state.specs.StateKept.{IsState}
use Rattle.vm_state.proofs.Closing.{kept}
use Rattle.vm_state.proofs.ProcessShows.{row_is}

-- ---- a page number is mapped exactly if it has an entry
entry_there : (config : Config) (m : Map) (valid : List Valid) (page : ℕ → Option Page) (lies : Page → Option BlockId) (p v : ℕ) → is_some (pte_of config m valid page lies p v) ≡ is_some (m p v)
unfolding pte_of
entry_there config m valid page lies p v = by (m p v)
  where
    by : (o : Option Mapped) → is_some (pte_at config p v (holder config page) lies (entry_of valid p v) o) ≡ is_some o
    by None = refl
    by (Some x) = refl

module _ {B : Type 0} {seen : B → BlockView} {tells : Tells} {config : Config} {past : List Entry} {spare : ℕ} {store : StoreView B} {fields : Parts} {numbers : List ℕ}
    (before : IsState seen tells config past spare store fields numbers) where
  abbrev a : Pager
  a = pager_after config past

  mapped_is : (p v : ℕ) → has_entry fields.tables p true v ≡ is_some (a.map p v)
  mapped_is p v = ap is_some (before.parts.tables.each p v) ∙ entry_there config a.map a.valid a.page a.lies p v

  in_use_is : (p address pages : ℕ) → list_any (has_entry fields.tables p true) (range_of address pages) ≡ is_in_use a p address pages
  in_use_is p address pages i = list_any (λ (v : ℕ). mapped_is p v i) (range_of address pages)

  unmapped_is : (p address pages : ℕ) → list_any (has_entry fields.tables p false) (range_of address pages) ≡ is_unmapped a p address pages
  unmapped_is p address pages i = list_any (λ (v : ℕ). not (mapped_is p v i)) (range_of address pages)

  -- ---- a process
  module _ (p : ℕ) (x : ProcessRow) (there : p < length config.procs) (read : x ≡ slice_index_or fields.processes p x) where
    ring_is : x.ring ≡ a.ring p
    ring_is = ap (λ (z : ProcessRow). z.ring) (row_is before p x there read)

    module _ (specs : List ProcSpec) (d : ProcSpec) (are : specs ≡ config.procs) where
      spec_is : slice_get config.procs p ≡ Some (slice_index_or specs p d)
      spec_is = slice_get-get_or config.procs p d there ∙ ap (λ (xs : List ProcSpec). Some (slice_index_or xs p d)) (sym are)

      pub few_slots : length (x.ring).slots ≤ MOST_EXTENT
      few_slots =
          let limits : IsProcess config.frames (length config.bad + all_pins config) (slice_index_or specs p d) = subst (λ (xs : List ProcSpec). IsProcess config.frames (length config.bad + all_pins config) (slice_index_or xs p d)) (sym are) (before.formed.procs p d there) in
          let most = limits.limited.most in
          let slots = (((kept before).processes p).bounds (slice_index_or specs p d) spec_is).slots in
          subst (λ (r : Ring). length r.slots ≤ MOST_EXTENT) (sym ring_is) (omega (arith, most, slots))

      pub answer_is : (s : Service) → service_answer (some_entry fields.tables p true) (some_entry fields.tables p false) x.ring (Some (slice_index_or specs p d)) s ≡ answer_in config a p s
      answer_is s i = service_answer (λ address pages. in_use_is p address pages i) (λ address pages. unmapped_is p address pages i) (ring_is i) (sym spec_is i) s
