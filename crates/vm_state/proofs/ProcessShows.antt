-- What the readers of processes and lists show is what the parts stand for.
use Rattle.std.proofs.Common.{◌≡◌, ℕ, ◌+◌, ◌<◌, ◌≤◌, Bool, List, Option, Some, None, length, slice_get, slice_index_or, refl, sym, ap, ◌∙◌, subst}
use Rattle.std.specs.Option.{option_map}
use Rattle.std.proofs.lemmas.Option.{none-some, slice_get-get_or}
use Rattle.vm_types.specs.BlockView.{BlockView, Tells}
use Rattle.vm_types.specs.Ring.{Held}
use Rattle.vm_types.specs.declared.config.Config.{Config}
use Rattle.vm_types.specs.declared.config.ProcSpec.{ProcSpec}
use Rattle.vm_types.specs.declared.names.Pfn.{Pfn}
use Rattle.vm_journal.specs.declared.entry.Entry.{Entry}
use Rattle.page_lists.specs.Lists.{IsNext, count_of}
use Rattle.page_lists.specs.declared.list_name.ListName.{ListName}
use Rattle.page_lists.specs.declared.list_name.ListName.TheVariants as name
use Rattle.pfn_database.specs.Frames.{lists_of}
use Rattle.page_tables.specs.PageTables.{pte_in}
use Rattle.pager_model.specs.Lookups.{entry_of, slot_of}
use Rattle.pager_model.specs.Pager.{Pager, Valid}
use Rattle.pager_model.specs.Run.{pager_after}
use Rattle.frame_store.specs.StoreView.{StoreView}
use Rattle.state_parts.specs.declared.process_row.ProcessRow.{ProcessRow}
use Rattle.state_fits.specs.Parts.{Parts}
use Rattle.state_fits.specs.Processes.{process_row}
use Rattle.state_fits.proofs.SimpleParts.{read_process}
use Rattle.vm_state.specs.PageReadings.{frame_of}
use Rattle.vm_state.specs.ProcessReadings.{IsAfter, pending_in, slot_in, slot_with}
use Rattle.vm_state.specs.Readings.{listed}
use Rattle.state_pages.specs.Pending.{pending_by}
use Rattle.state_pages.specs.RingSlots.{held_parts}
use Rattle.state_pages.specs.Shown.{frame_entry}
use Rattle.vm_state.specs.StateKept.{IsState}
use Rattle.vm_state.proofs.Closing.{kept}
use Rattle.vm_state.proofs.PageShows.{frame_is}

-- ---- a slot, by the page number in it and the frame of that
pub slot_missing : (valid : List Valid) (p v : ℕ) (locked pinned : Bool) (o : Option Held) → Some (v, locked, pinned) ≡ option_map held_parts o → None ≡ option_map frame_of (entry_of valid p v) → None ≡ slot_with valid p o
slot_missing valid p v locked pinned None is none = absurd (none-some (v, locked, pinned) (sym is))
slot_missing valid p v locked pinned (Some held) is none =
    let same : (v, locked, pinned) ≡ held_parts held = cc in
    go (entry_of valid p held.vpn) refl (none ∙ ap (λ (w : ℕ × Bool × Bool). option_map frame_of (entry_of valid p w.0)) same)
  where
    go : (e : Option Valid) → entry_of valid p held.vpn ≡ e → None ≡ option_map frame_of e → None ≡ slot_with valid p (Some held)
    go None at missing = rw at refl
    go (Some e) at missing = absurd (none-some e.frame missing)

pub slot_there : (valid : List Valid) (p v : ℕ) (locked pinned : Bool) (f : Pfn) (o : Option Held) → Some (v, locked, pinned) ≡ option_map held_parts o → Some f.0 ≡ option_map frame_of (entry_of valid p v)
    → Some (record { vpn = v; frame = f; locked = locked; pinned = pinned }) ≡ slot_with valid p o
slot_there valid p v locked pinned f None is some = absurd (none-some (v, locked, pinned) (sym is))
slot_there valid p v locked pinned f (Some held) is some =
    let same : (v, locked, pinned) ≡ held_parts held = cc in
    go (entry_of valid p held.vpn) refl (some ∙ ap (λ (w : ℕ × Bool × Bool). option_map frame_of (entry_of valid p w.0)) same) same
  where
    go : (e : Option Valid) → entry_of valid p held.vpn ≡ e → Some f.0 ≡ option_map frame_of e → (v, locked, pinned) ≡ held_parts held → Some (record { vpn = v; frame = f; locked = locked; pinned = pinned }) ≡ slot_with valid p (Some held)
    go None at missing same = absurd (none-some f.0 (sym missing))
    go (Some e) at found same =
        let frame : f.0 ≡ e.frame = cc in
        rw at (λ i. Some (record { vpn = (same i).0; frame = record { 0 = frame i }; locked = (same i).1; pinned = (same i).2 }))

module _ {B : Type 0} {seen : B → BlockView} {tells : Tells} {config : Config} {past : List Entry} {spare : ℕ} {store : StoreView B} {fields : Parts} {numbers : List ℕ}
    (before : IsState seen tells config past spare store fields numbers) where
  abbrev a : Pager
  a = pager_after config past

  abbrev row : ℕ → ProcessRow
  row = process_row a.status a.ring a.limit a.references a.faults a.collided

  pub row_is : (p : ℕ) (x : ProcessRow) → p < length config.procs → x ≡ slice_index_or fields.processes p x → x ≡ row p
  row_is p x there read = read_process config past a (record { 0 = p }) fields before.parts p x there read

  -- ---- the limits of a process
  module _ (p : ℕ) (specs : List ProcSpec) (d : ProcSpec) (there : p < length config.procs) (are : specs ≡ config.procs) where
    spec_at : slice_get config.procs p ≡ Some (slice_index_or specs p d)
    spec_at = slice_get-get_or config.procs p d there ∙ ap (λ (xs : List ProcSpec). Some (slice_index_or xs p d)) (sym are)

    pub limit_most : (x : ProcessRow) → x ≡ slice_index_or fields.processes p x → x.limit ≤ (slice_index_or specs p d).extent
    limit_most x read =
        subst (λ (n : ℕ). n ≤ (slice_index_or specs p d).extent) (sym (ap (λ (z : ProcessRow). z.limit) (row_is p x there read))) (((kept before).processes p).bounds (slice_index_or specs p d) spec_at).most

    pub pending_is : (x : ProcessRow) (free : ℕ) → x ≡ slice_index_or fields.processes p x → free ≡ length a.free → pending_by config.params (slice_index_or specs p d) x free ≡ pending_in config a p
    pending_is x free read count = (λ i. pending_by config.params (slice_index_or specs p d) (row_is p x there read i) (count i)) ∙ rw spec_at refl

  -- ---- a slot
  slot_is : (p n : ℕ) (x : ProcessRow) → p < length config.procs → x ≡ slice_index_or fields.processes p x → slot_with a.valid p (slot_of (slice_get (x.ring).slots n)) ≡ slot_in a p n
  slot_is p n x there read = ap (λ (z : ProcessRow). slot_with a.valid p (slot_of (slice_get (z.ring).slots n))) (row_is p x there read)

  pub slot_none : (p n v : ℕ) (locked pinned : Bool) (x : ProcessRow) → p < length config.procs → x ≡ slice_index_or fields.processes p x → Some (v, locked, pinned) ≡ option_map held_parts (slot_of (slice_get (x.ring).slots n))
      → None ≡ frame_entry (pte_in fields.tables p v) → None ≡ slot_in a p n
  slot_none p n v locked pinned x there read holds none = slot_missing a.valid p v locked pinned (slot_of (slice_get (x.ring).slots n)) holds (none ∙ frame_is before p v) ∙ slot_is p n x there read

  pub slot_some : (p n v : ℕ) (locked pinned : Bool) (f : Pfn) (x : ProcessRow) → p < length config.procs → x ≡ slice_index_or fields.processes p x → Some (v, locked, pinned) ≡ option_map held_parts (slot_of (slice_get (x.ring).slots n))
      → Some f.0 ≡ frame_entry (pte_in fields.tables p v) → Some (record { vpn = v; frame = f; locked = locked; pinned = pinned }) ≡ slot_in a p n
  slot_some p n v locked pinned f x there read holds some = slot_there a.valid p v locked pinned f (slot_of (slice_get (x.ring).slots n)) holds (some ∙ frame_is before p v) ∙ slot_is p n x there read

  -- ---- the next frame on a list
  pub after_is : (f : ℕ) (next : Option ℕ) → IsNext (lists_of fields.frames) f next → IsAfter a f next
  after_is f next is = record { after = after; alone = λ free modified. is.alone (ap (count_in f) before.parts.frames.free_list ∙ free, ap (count_in f) before.parts.frames.modified_list ∙ modified) }
    where
      count_in : ℕ → List ℕ → ℕ
      count_in g xs = count_of xs g

      after : (l : ListName) (place : ℕ) → slice_get (listed a l) place ≡ Some f → next ≡ slice_get (listed a l) (place + 1)
      after name.Free place at =
          is.after name.Free place (ap (λ (xs : List ℕ). slice_get xs place) before.parts.frames.free_list ∙ at) ∙ ap (λ (xs : List ℕ). slice_get xs (place + 1)) before.parts.frames.free_list
      after name.Modified place at =
          is.after name.Modified place (ap (λ (xs : List ℕ). slice_get xs place) before.parts.frames.modified_list ∙ at) ∙ ap (λ (xs : List ℕ). slice_get xs (place + 1)) before.parts.frames.modified_list
