-- A write begins: what it requires of the store, and how blocks move.
use Rattle.std.proofs.Common.{◌≡◌, ℕ, ◌+◌, ◌-◌, ◌≤◌, ◌<◌, ◌^◌, false, List, [], ◌∷◌, Option, Some, None, length, slice_set, refl, sym, ap, ◌∙◌, subst, inl, inr, arith, length-set}
use Rattle.std.specs.Prelude.{IfSome, IsSome, is_some}
use Rattle.std.specs.Option.{option_map}
use Rattle.std.proofs.lemmas.Option.{get_or_from_slice_get, none-some, same_Some}
use Rattle.vm_types.specs.declared.limits.TheConstants.{PAGE_BYTES}
use Rattle.vm_types.specs.BlockView.{BlockView, Tells}
use Rattle.vm_types.specs.declared.config.Config.{Config}
use Rattle.vm_types.specs.declared.names.BlockId.{BlockId}
use Rattle.vm_types.specs.declared.names.FrameState.{FrameState}
use Rattle.vm_types.specs.declared.names.FrameState.TheVariants as state
use Rattle.vm_types.specs.declared.names.Page.{Page}
use Rattle.vm_types.specs.declared.names.Pfn.{Pfn}
use Rattle.vm_types.specs.declared.names.Seat.{Seat}
use Rattle.vm_types.specs.declared.pool_name.PoolName.{PoolName}
use Rattle.vm_journal.specs.declared.entry.Entry.{Entry}
use Rattle.vm_journal.specs.declared.entry.What.TheVariants as what
use Rattle.pfn_database.specs.Frames.{Frames, row_of}
use Rattle.pfn_database.specs.Rows.{IsOneOf}
use Rattle.pfn_database.specs.declared.row.Row.{Row}
use Rattle.pager_model.specs.Fits.{FitsLift}
use Rattle.pager_model.specs.Flights.{Flight, open_flights, writing}
use Rattle.pager_model.specs.Lookups.{is}
use Rattle.pager_model.specs.Out.{IsAnyOut}
use Rattle.pager_model.specs.Pager.{Pager}
use Rattle.pager_model.specs.Run.{pager_after}
use Rattle.pager_model.specs.Step.{IsLegal}
use Rattle.pager_model.specs.Transfers.{IsHome, reads_on, writes_on}
use Rattle.pager_rules.proofs.Basics.{count_cons_yes, find_none_from_count}
use Rattle.content_laws.specs.Begun.{write_lift}
use Rattle.content_laws.specs.Put.{PutsBlock}
use Rattle.content_laws.proofs.AtHome.{block_is_home, buffer_home}
use Rattle.content_laws.proofs.CarriedFits.{few_calls}
use Rattle.content_laws.proofs.ContentStays.{write_begins}
use Rattle.content_laws.proofs.LiftsStay.{lifts_stay}
use Rattle.frame_store.specs.Blocks.{block_at, held_at, number_in, number_of}
use Rattle.frame_store.specs.LiftView.{LiftView, begun}
use Rattle.frame_store.specs.StoreView.{StoreView, lifted_out}
use Rattle.frame_store.proofs.Blocks.{block_kept, block_set}
use Rattle.state_fits.specs.Frames.{frame_row}
use Rattle.state_fits.specs.Parts.{Parts}
use Rattle.state_fits.specs.Seats.{flight_on, is_on_frame}
use Rattle.state_fits.proofs.FlightsMoved.{on_frame_counts}
use Rattle.state_fits.proofs.OutCan.{CanBeginWrite, can_begin_write}
use Rattle.state_fits.proofs.OutParts.{listed_writable, swap_writable}
use Rattle.lift_carriers.specs.LiftsFit.{LiftFits, lift_seen}
use Rattle.vm_state.specs.StateKept.{IsState, IsStoreOf, home_in, is_writing}
use Rattle.vm_state.proofs.Closing.{kept, right}
use Rattle.vm_state.proofs.SeatFlights.{few_writes}

-- what was mapped to this is there
there_by : {X Y : Type 0} (f : X → Y) (o : Option X) (y : Y) → option_map f o ≡ Some y → (x : X) × (o ≡ Some x) × (f x ≡ y)
there_by f None y is = absurd (none-some y is)
there_by f (Some x) y is = (x, refl, same_Some _ _ is)

not_reading : (s : FrameState) → IsOneOf (state.Modified ∷ state.Active ∷ []) s → is state.Reading s ≡ false
not_reading s (inl modified) = ap (is state.Reading) modified
not_reading s (inr (inl active)) = ap (is state.Reading) active
not_reading s (inr (inr none)) = elim none [ ]

module _ {B : Type 0} {seen : B → BlockView} {tells : Tells} {config : Config} {past : List Entry} {spare : ℕ} {store : StoreView B} {fields : Parts} {numbers : List ℕ}
    (before : IsState seen tells config past spare store fields numbers) (seat : Seat) (f : Pfn) (b : BlockId)
    (legal : IsLegal config past (pager_after config past) (record { seat = seat; what = what.Out f b })) where
  abbrev a : Pager
  a = pager_after config past

  abbrev home : StoreView B → BlockId → Option BlockView
  home s = home_in seen config s

  -- ---- the frame and the block
  pub record IsBegun : Type 0 where
    pub page : Page
    pub holds : a.page f.0 ≡ Some page
    pub within : f.0 < config.frames
    pub still : reads_on f.0 (open_flights past) + writes_on f.0 (open_flights past) ≡ 0
    pub at_home : IsHome config b (open_flights past)

  begins : IsAnyOut config past a f.0 b → IsBegun
  begins (inl out) = let its = listed_writable config past a f.0 b (kept before) out in record { page = out.page; holds = out.holds; within = its.within; still = its.still; at_home = out.home }
  begins (inr out) = let its = swap_writable config past a f.0 b (kept before) out in record { page = out.page; holds = out.holds; within = its.within; still = its.still; at_home = out.home }

  pub on : IsBegun
  on = begins legal.row

  pub can : CanBeginWrite fields seat.0 f.0
  can = can_begin_write config past a seat f b before.formed (kept before) (right before) legal fields before.parts

  row_state : (row_of fields.frames f.0).state ≡ a.state f.0
  unfolding frame_row
  row_state = ap (λ (r : Row). r.state) (before.parts.frames.rows f.0)

  row_page : (row_of fields.frames f.0).page ≡ a.page f.0
  unfolding frame_row
  row_page = ap (λ (r : Row). r.page) (before.parts.frames.rows f.0)

  pub held : IsSome (row_of fields.frames f.0).page
  held = ap is_some (row_page ∙ on.holds)

  pub page_is : (o : Option Page) → o ≡ (row_of fields.frames f.0).page → (g : Page) → o ≡ Some g → g ≡ on.page
  page_is o is g there = same_Some _ _ (sym there ∙ (is ∙ (row_page ∙ on.holds)))

  -- ---- what the store requires
  found_bytes : (bytes : List ℕ) × (held_at store.buffers f.0 ≡ Some bytes) × (length bytes ≡ PAGE_BYTES)
  found_bytes = buffer_home config a.state (held_at store.buffers) f.0 before.bytes.buffers on.within (not_reading (a.state f.0) (subst (IsOneOf (state.Modified ∷ state.Active ∷ [])) row_state can.state))

  pub buffer_there : IsSome (held_at store.buffers f.0)
  buffer_there = ap is_some found_bytes.1

  place : number_in store.ids b ≡ number_of config b
  place = ap (λ (ids : List BlockId). number_in ids b) before.places.ids

  found_view : (view : BlockView) × (home store b ≡ Some view)
  found_view = block_is_home config (open_flights past) (home store) b before.bytes.homes on.at_home

  found_block : (x : B) × (block_at config store.blocks b ≡ Some x) × (seen x ≡ found_view.0)
  found_block = there_by seen (block_at config store.blocks b) found_view.0 found_view.1

  block_here : held_at store.blocks (number_in store.ids b) ≡ Some found_block.0
  block_here = ap (held_at store.blocks) place ∙ found_block.1

  pub block_there : IsSome (held_at store.blocks (number_in store.ids b))
  block_there = ap is_some block_here

  pub buffer_left : 0 < store.left
  buffer_left = let spare = before.places.left in let few = few_writes config past seat f b before.formed before.run legal in omega (arith, spare, few)

  pub none_open : fields.starts ≡ store.flights → held_at store.flights f.0 ≡ None
  none_open same =
      let none : flight_on f.0 (open_flights past) ≡ None = find_none_from_count (is_on_frame f.0) (open_flights past) (on_frame_counts f.0 (open_flights past) ∙ on.still) in
      subst (λ (xs : List (Option ℕ)). held_at xs f.0 ≡ None) same
      (get_or_from_slice_get fields.starts f.0 None None (before.parts.flights.each_start f.0 on.within ∙ ap (λ (o : Option Flight). Some (option_map (λ (y : Flight). y.start) o)) none))

  -- ---- the lift
  module _ (bytes : List ℕ) (has : held_at store.buffers f.0 ≡ Some bytes) (x : B) (at : held_at store.blocks (number_in store.ids b) ≡ Some x) where
    fits_seen : FitsLift tells.content tells.plan config (record { seat = seat; what = what.Out f b } ∷ past) (pager_after config (record { seat = seat; what = what.Out f b } ∷ past)) (write_lift past f.0 b on.page bytes (seen x))
    fits_seen = write_begins tells.content tells.plan config past seat f b on.page bytes (seen x) (held_at store.buffers) (home store)
        before.formed (before.run, legal) on.holds has (ap (option_map seen) (sym (ap (held_at store.blocks) place) ∙ at)) before.bytes

    called_little : 1 ≤ spare → (seen x).reads + (seen x).writes < 2 ^ 48
    called_little some =
        let calls = few_calls tells.content tells.plan config (record { seat = seat; what = what.Out f b } ∷ past) (pager_after config (record { seat = seat; what = what.Out f b } ∷ past)) (write_lift past f.0 b on.page bytes (seen x)) fits_seen refl in
        let short = before.short in
        omega (arith, calls, short, some)

    pub lift_fits : (pool : PoolName) (g : Page) → g ≡ on.page → (k : ℕ) → k ≡ length past + 1 → (lift : LiftView B) → lift ≡ begun pool seat g f.0 b k false bytes x
        → (lift ≡ begun pool seat lift.page f.0 b (length past + 1) false lift.buffer lift.held) × LiftFits seen tells config (record { seat = seat; what = what.Out f b } ∷ past) lift
    lift_fits pool g page_is k number_is lift begun_is =
        let here : lift ≡ begun pool seat on.page f.0 b (length past + 1) false bytes x = begun_is ∙ (λ i. begun pool seat (page_is i) f.0 b (number_is i) false bytes x) in
        subst (λ (l : LiftView B). (l ≡ begun pool seat l.page f.0 b (length past + 1) false l.buffer l.held) × LiftFits seen tells config (record { seat = seat; what = what.Out f b } ∷ past) l)
        (sym here) (refl, fits_seen)

  pub few : 1 ≤ spare → IfSome (held_at store.blocks (number_in store.ids b)) (λ (x : B). (seen x).reads + (seen x).writes < 2 ^ 48)
  few some = subst (λ (o : Option B). IfSome o (λ (x : B). (seen x).reads + (seen x).writes < 2 ^ 48)) (sym block_here) (called_little found_bytes.0 found_bytes.1 found_block.0 block_here some)

  -- every other lift that fits still does
  pub other_fits : (lift : LiftView B) → LiftFits seen tells config past lift → LiftFits seen tells config (record { seat = seat; what = what.Out f b } ∷ past) lift
  other_fits lift fit = lifts_stay tells.content tells.plan config past (record { seat = seat; what = what.Out f b }) (lift_seen seen lift) before.formed (before.run, legal) refl fit

  -- ---- the store after it
  module _ (frames' : Frames) (k : ℕ) where
    abbrev pub store_after : StoreView B
    store_after = lifted_out (record store { frames = frames' }) f.0 b k

    pub block_away : PutsBlock b None (home store) (home store_after)
    block_away =
        subst (λ (n : ℕ). PutsBlock b None (home store) (λ (c : BlockId). option_map seen (block_at config (slice_set store.blocks n None) c)))
        (sym place)
        (record {
          here = ap (option_map seen) (block_set config store.blocks before.places.blocks b on.at_home.exists None);
          others = λ c apart. ap (option_map seen) (block_kept config store.blocks before.places.blocks b on.at_home.exists None c apart);
        })

    pub places : IsStoreOf config (open_flights (record { seat = seat; what = what.Out f b } ∷ past)) store_after numbers
    places = record {
      ids = before.places.ids;
      buffers = before.places.buffers;
      blocks = length-set store.blocks (number_in store.ids b) None ∙ before.places.blocks;
      left = (let spare = before.places.left in
          let some = buffer_left in
          let more = count_cons_yes is_writing (record { start = length past + 1; seat = seat.0; frame = f.0; block = b; direction = writing }) (open_flights past) refl in
          omega (arith, spare, some, more));
      firsts = before.places.firsts;
      size = before.places.size;
    }
