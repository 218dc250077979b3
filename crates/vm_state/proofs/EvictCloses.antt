-- EVICT closes, and its calls may be made.
use Rattle.std.proofs.Common.{◌≡◌, ℕ, ◌+◌, ◌-◌, ◌≤◌, Bool, List, ◌∷◌, Some, slice_index_or, slice_set, refl, sym, ap, ◌∙◌, subst}
use Rattle.vm_types.specs.BlockView.{BlockView, Tells}
use Rattle.vm_types.specs.PagePlaces.{changed_at}
use Rattle.vm_types.specs.Ring.{Ring}
use Rattle.vm_types.specs.declared.config.Config.{Config}
use Rattle.vm_types.specs.declared.names.Addr.{Addr}
use Rattle.vm_types.specs.declared.names.FrameState.{FrameState}
use Rattle.vm_types.specs.declared.names.FrameState.TheVariants as state
use Rattle.vm_types.specs.declared.names.Page.{Page}
use Rattle.vm_types.specs.declared.names.Pfn.{Pfn}
use Rattle.vm_types.specs.declared.names.Proc.{Proc}
use Rattle.vm_types.specs.declared.names.Seat.{Seat}
use Rattle.vm_journal.specs.declared.entry.Entry.{Entry}
use Rattle.vm_journal.specs.declared.entry.EvictWhy.{EvictWhy}
use Rattle.vm_journal.specs.declared.entry.What.TheVariants as what
use Rattle.global_pages.specs.GlobalPages.{GlobalPages}
use Rattle.page_tables.specs.PageTables.{PageTables, pte_in}
use Rattle.pte_forms.specs.declared.pte.Place.{Place}
use Rattle.pte_forms.specs.declared.pte.Pte.{Pte}
use Rattle.pfn_database.specs.Frames.{Frames, row_of}
use Rattle.pager_model.specs.Changes.{pushed_if}
use Rattle.pager_model.specs.Evict.{evicted_ring}
use Rattle.pager_model.specs.Lookups.{is}
use Rattle.pager_model.specs.Maps.{page_number}
use Rattle.pager_model.specs.Pager.{Pager}
use Rattle.pager_model.specs.Run.{pager_after}
use Rattle.pager_model.specs.Step.{IsLegal}
use Rattle.frame_store.specs.StoreView.{StoreView}
use Rattle.working_set.specs.Slots.{pin_at}
use Rattle.state_parts.specs.Victim.{slot_given}
use Rattle.state_parts.specs.declared.process_row.ProcessRow.{ProcessRow}
use Rattle.state_fits.specs.Changes.{place_left, unshared_in}
use Rattle.state_fits.specs.Parts.{Parts}
use Rattle.state_fits.proofs.EvictCan.{CanEvict, evict_can}
use Rattle.state_fits.proofs.EvictParts.{evict_parts, left_row, pin_is}
use Rattle.vm_state.specs.History.{owed}
use Rattle.state_pages.specs.SectionPages.{HasShare}
use Rattle.vm_state.specs.StateKept.{IsState}
use Rattle.vm_state.proofs.Closing.{closed, kept, right}
use Rattle.vm_state.proofs.Numbered.{has_share}

module _ {B : Type 0} {seen : B → BlockView} {tells : Tells} {config : Config} {past : List Entry} {spare : ℕ} {store : StoreView B} {fields : Parts} {numbers : List ℕ}
    (before : IsState seen tells config past spare store fields numbers) (seat : Seat) (q : Proc) (address : Addr) (f : Pfn) (why : EvictWhy) (to : FrameState)
    (legal : IsLegal config past (pager_after config past) (record { seat = seat; what = what.Evict q address f why to })) where
  abbrev a : Pager
  a = pager_after config past

  abbrev v : ℕ
  v = page_number address.0

  pub can : CanEvict config why q.0 v f.0 fields
  can = evict_can config past a seat q address f why to fields before.formed (kept before) (right before) legal before.parts

  pub shared : (g : Page) → (row_of fields.frames f.0).page ≡ Some g → HasShare config fields.globals g
  shared g page = has_share config fields.globals g (can.global g page)

  pub evict_closes : owed (record { seat = seat; what = what.Evict q address f why to } ∷ past) + 1 ≤ spare → (x : ProcessRow) → x ≡ slice_index_or fields.processes q.0 x
      → (ring : Ring) → ring ≡ evicted_ring why x.ring x.limit v → (pinned : Bool) → pinned ≡ pin_at x.ring (slot_given why x.ring x.limit v) → (g : Page) → (row_of fields.frames f.0).page ≡ Some g → (frames' : Frames)
      → frames'.rows ≡ slice_set fields.frames.rows f.0 (left_row pinned (row_of fields.frames f.0))
      → frames'.free ≡ pushed_if (is state.Free (left_row pinned (row_of fields.frames f.0)).state) fields.frames.free f.0
      → frames'.modified ≡ pushed_if (is state.Modified (left_row pinned (row_of fields.frames f.0)).state) fields.frames.modified f.0
      → (place : Place) → place ≡ place_left config f.0 g
      → (tables' : PageTables) (old : Pte) → tables'.procs ≡ (fields.tables).procs → ((r w : ℕ) → pte_in tables' r w ≡ changed_at (pte_in fields.tables) q.0 v (Some (record { prot = old.prot; place = place })) r w) → pte_in fields.tables q.0 v ≡ Some old
      → (globals' : GlobalPages) → globals' ≡ unshared_in config g fields.globals
      → IsState seen tells config (record { seat = seat; what = what.Evict q address f why to } ∷ past) (spare - 1) (record store { frames = frames' })
      (record fields { frames = frames'; processes = slice_set fields.processes q.0 (record x { ring = ring }); tables = tables'; globals = globals' }) numbers
  evict_closes paid x read ring given pinned pin g page frames' rows free modified place place_is tables' old procs changed there globals' unshared =
      let its = pin ∙ pin_is config past a seat q address f why to fields (kept before) (right before) legal before.parts x read in
      rw (given, unshared) (closed before (record { seat = seat; what = what.Evict q address f why to }) (λ told. tt) legal paid (record store { frames = frames' }) _
      (evict_parts config past a seat q address f why to fields (kept before) (right before) legal before.parts x g old frames' tables' read page there
      (subst (λ (b : Bool). frames'.rows ≡ slice_set fields.frames.rows f.0 (left_row b (row_of fields.frames f.0))) its rows)
      (subst (λ (b : Bool). frames'.free ≡ pushed_if (is state.Free (left_row b (row_of fields.frames f.0)).state) fields.frames.free f.0) its free)
      (subst (λ (b : Bool). frames'.modified ≡ pushed_if (is state.Modified (left_row b (row_of fields.frames f.0)).state) fields.frames.modified f.0) its modified) procs
      (λ r w. changed r w ∙ ap (λ (y : Place). changed_at (pte_in fields.tables) q.0 v (Some (record { prot = old.prot; place = y })) r w) place_is))
      (refl, refl)
      (record { ids = before.places.ids; buffers = before.places.buffers; blocks = before.places.blocks; left = before.places.left; firsts = before.places.firsts; size = before.places.size }))
