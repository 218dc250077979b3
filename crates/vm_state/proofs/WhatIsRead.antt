-- What readers show is what the parts stand for.
use Rattle.std.proofs.Common.{◌≡◌, ℕ, ◌+◌, ◌≤◌, ◌<◌, Bool, true, false, List, [], ◌∷◌, length, nat_lt, count_by, slice_index_or, refl, sym, ap, ◌∙◌, arith}
use Rattle.std.specs.Prelude.{◌||◌}
use Rattle.std.specs.List.{list_any}
use Rattle.std.proofs.lemmas.Bool.{lt-ltb}
use Rattle.vm_types.specs.BlockView.{BlockView, Tells}
use Rattle.vm_types.specs.Ring.{choose}
use Rattle.vm_types.specs.declared.config.Config.{Config}
use Rattle.vm_types.specs.declared.ring_choice.Choice.{Choice}
use Rattle.vm_journal.specs.declared.entry.Entry.{Entry}
use Rattle.page_lists.specs.Lists.{list_of}
use Rattle.page_lists.specs.declared.list_name.ListName.{ListName}
use Rattle.page_lists.specs.declared.list_name.ListName.TheVariants as name
use Rattle.pfn_database.specs.Frames.{lists_of}
use Rattle.pager_model.specs.Flights.{is_busy, open_flights}
use Rattle.pager_model.specs.Pager.{Pager}
use Rattle.pager_model.specs.Run.{pager_after}
use Rattle.pager_model.specs.Transfers.{flights_of, is_by}
use Rattle.pager_rules.proofs.Basics.{count_cons_no, count_cons_yes}
use Rattle.frame_store.specs.StoreView.{StoreView}
use Rattle.state_parts.specs.declared.process_row.ProcessRow.{ProcessRow}
use Rattle.state_fits.specs.Parts.{Parts}
use Rattle.state_fits.proofs.OnePlace.{read_is}
use Rattle.state_fits.proofs.SimpleParts.{read_process}
use Rattle.vm_state.specs.Readings.{listed}
use Rattle.vm_state.specs.StateKept.{IsState}
use Rattle.vm_state.proofs.Closing.{kept}
use Rattle.vm_state.proofs.ZeroCloses.{slice_get_within_some}

pub some_counted : {X : Type 0} (p : X → Bool) (xs : List X) → nat_lt 0 (count_by p xs) ≡ list_any p xs
some_counted p [] = refl
some_counted p (x ∷ xs) = go (p x) refl (some_counted p xs)
  where
    go : (b : Bool) → p x ≡ b → nat_lt 0 (count_by p xs) ≡ list_any p xs → nat_lt 0 (count_by p (x ∷ xs)) ≡ (p x || list_any p xs)
    go true e rest = (let one = count_cons_yes p x xs e in lt-ltb 0 (count_by p (x ∷ xs)) (omega (arith, one))) ∙ sym (ap (λ (c : Bool). c || list_any p xs) e)
    go false e rest = ap (nat_lt 0) (count_cons_no p x xs e) ∙ rest ∙ sym (ap (λ (c : Bool). c || list_any p xs) e)

module _ {B : Type 0} {seen : B → BlockView} {tells : Tells} {config : Config} {past : List Entry} {spare : ℕ} {store : StoreView B} {fields : Parts} {numbers : List ℕ}
    (before : IsState seen tells config past spare store fields numbers) where
  abbrev a : Pager
  a = pager_after config past

  pub ring_and_limit : (p : ℕ) (x : ProcessRow) → p < length config.procs → x ≡ slice_index_or fields.processes p x → (x.ring ≡ a.ring p) × (x.limit ≡ a.limit p)
  ring_and_limit p x there read = let is = read_process config past a (record { 0 = p }) fields before.parts p x there read in (ap (λ (z : ProcessRow). z.ring) is, ap (λ (z : ProcessRow). z.limit) is)

  pub limit_within : (p : ℕ) (x : ProcessRow) → p < length config.procs → x ≡ slice_index_or fields.processes p x → x.limit ≤ length x.ring.slots
  limit_within p x there read =
      let is = ring_and_limit p x there read in
      let spec = slice_get_within_some config.procs p there in
      let bounded = ((kept before).processes p).bounds spec.0 spec.1 in
      rw (is.0, is.1) (omega (arith, bounded.most, bounded.slots))

  pub choice_is : (p : ℕ) (x : ProcessRow) (choice : Choice) → p < length config.procs → x ≡ slice_index_or fields.processes p x → choice ≡ choose x.ring x.limit → choice ≡ choose (a.ring p) (a.limit p)
  choice_is p x choice there read is = let same = ring_and_limit p x there read in is ∙ (λ i. choose (same.0 i) (same.1 i))

  pub busy_is : (seat n : ℕ) → seat < length config.procs + 2 → n ≡ slice_index_or fields.busy seat n → nat_lt 0 n ≡ is_busy seat (open_flights past)
  busy_is seat n there read =
      let is = read_is fields.busy seat n (flights_of seat (open_flights past)) read (before.parts.seats.each seat there) (let count = before.parts.seats.count in omega (arith, count, there)) in
      ap (nat_lt 0) is ∙ some_counted (is_by seat) (open_flights past)

  pub head_is : (l : ListName) → list_of (lists_of fields.frames) l ≡ listed a l
  head_is name.Free = before.parts.frames.free_list
  head_is name.Modified = before.parts.frames.modified_list
