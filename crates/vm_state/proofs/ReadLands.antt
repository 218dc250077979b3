-- A read lands: what it requires of the store, and how buffers and blocks move.
use Rattle.std.proofs.Common.{◌≡◌, ℕ, ◌+◌, ◌<◌, Bool, true, not, List, Option, Some, None, find, length, slice_get, slice_set, if◌then◌else◌, refl, sym, ap, ◌∙◌, subst, arith, length-set}
use Rattle.std.specs.Option.{option_map}
use Rattle.std.proofs.lemmas.Option.{none-some, same_Some, slice_get-get_or}
use Rattle.vm_types.specs.declared.limits.TheConstants.{PAGE_BYTES}
use Rattle.vm_types.specs.BlockView.{BlockView, Tells}
use Rattle.vm_types.specs.Configuration.{IsBlock}
use Rattle.vm_types.specs.declared.config.Config.{Config}
use Rattle.vm_types.specs.declared.names.BlockId.{BlockId}
use Rattle.vm_types.specs.declared.names.FrameState.TheVariants as state
use Rattle.vm_types.specs.declared.names.Seat.{Seat}
use Rattle.vm_journal.specs.declared.entry.Entry.{Entry}
use Rattle.vm_journal.specs.declared.entry.Role.{Role}
use Rattle.pfn_database.specs.Frames.{Frames}
use Rattle.pager_laws.proofs.FlightsBegun.{flight_blocks}
use Rattle.pager_model.specs.Fits.{Result}
use Rattle.pager_model.specs.Flights.{Flight, is_reading, open_flights, reading, without_flight}
use Rattle.pager_model.specs.InOk.{IsLanding}
use Rattle.pager_model.specs.Lookups.{is}
use Rattle.pager_model.specs.Pager.{Pager}
use Rattle.pager_model.specs.Run.{pager_after}
use Rattle.pager_model.specs.Transfers.{starts}
use Rattle.pager_rules.proofs.Lists.{all_found, count_removed_no}
use Rattle.pager_rules.proofs.Quiet.{starts_once}
use Rattle.content_laws.specs.Moved.{BringsBuffer}
use Rattle.content_laws.specs.Put.{PutsBlock}
use Rattle.content_laws.proofs.AtHome.{block_is_away, buffer_away}
use Rattle.content_laws.proofs.ListPuts.{list_puts_buffer}
use Rattle.frame_store.specs.Blocks.{block_at, held_at, number_in, number_of}
use Rattle.frame_store.specs.LiftView.{LiftView}
use Rattle.frame_store.specs.StoreView.{StoreView, landed}
use Rattle.frame_store.proofs.Blocks.{block_kept, block_set, number_within}
use Rattle.state_fits.specs.Parts.{Parts}
use Rattle.vm_state.specs.History.{History}
use Rattle.lift_carriers.specs.LiftsFit.{LiftFits, lift_seen, result_of}
use Rattle.vm_state.specs.StateKept.{IsState, IsStoreOf, home_in, is_writing}

-- what a method requires of a lift is of the value, what it needs is of the fields
pub fits_before : {B : Type 0} (seen : B → BlockView) (tells : Tells) (lift : LiftView B) {s t : History} → s ≡ t
    → LiftFits seen tells t.config t.past lift → LiftFits seen tells s.config s.past lift
fits_before seen tells lift same fits = subst (λ (x : History). LiftFits seen tells x.config x.past lift) (sym same) fits

pub none_there : {X Y : Type 0} (f : X → Y) (o : Option X) → option_map f o ≡ None → o ≡ None
none_there f None is = refl
none_there f (Some x) is = absurd (none-some (f x) (sym is))

module _ {B : Type 0} {seen : B → BlockView} {tells : Tells} {config : Config} {past : List Entry} {spare : ℕ} {store : StoreView B} {fields : Parts} {numbers : List ℕ}
    (before : IsState seen tells config past spare store fields numbers) (seat : Seat) (lift : LiftView B)
    (fits : LiftFits seen tells config past lift) (x : Flight) (r : Role) (lands : IsLanding past seat.0 lift.frame lift.start x) (its_role : x.direction ≡ reading r)
    (within : lift.frame < config.frames) (is_read_now : (pager_after config past).state lift.frame ≡ state.Reading) where
  abbrev a : Pager
  a = pager_after config past

  abbrev home : StoreView B → BlockId → Option BlockView
  home s = home_in seen config s

  -- the lift is of the flight that lands
  same : fits.0 ≡ x
  same = same_Some _ _ (sym (subst (λ (j : ℕ). find (starts j) (open_flights past) ≡ Some fits.0) ((fits.1).flight).start (fits.1).found_x) ∙ lands.open_k)

  pub is_read : lift.is_read ≡ true
  is_read = sym ((fits.1).flight).direction ∙ (ap (λ (y : Flight). is_reading y.direction) same ∙ ap is_reading its_role)

  pub block_is : x.block ≡ lift.block
  block_is = ap (λ (y : Flight). y.block) (sym same) ∙ ((fits.1).flight).block

  flight_known : IsBlock config x.block
  flight_known = all_found (λ (y : Flight). IsBlock config y.block) (starts lift.start) (open_flights past) x (flight_blocks config past before.run) lands.open_k

  known : IsBlock config lift.block
  known = subst (IsBlock config) block_is flight_known

  place : number_in store.ids lift.block ≡ number_of config lift.block
  place = ap (λ (ids : List BlockId). number_in ids lift.block) before.places.ids

  below : number_in store.ids lift.block < length store.blocks
  below = let less = number_within config lift.block known in let many = before.places.blocks in omega (arith, less, place, many)

  away : home store lift.block ≡ None
  away = subst (λ (b : BlockId). home store b ≡ None) block_is (block_is_away config (open_flights past) (home store) lift.start x before.bytes.homes flight_known lands.open_k)

  -- ---- what the store requires
  pub block_out : slice_get store.blocks (number_in store.ids lift.block) ≡ Some None
  block_out =
      slice_get-get_or store.blocks (number_in store.ids lift.block) None below
      ∙ ap Some (ap (held_at store.blocks) place ∙ none_there seen (block_at config store.blocks lift.block) away)

  pub buffer_out : held_at store.buffers lift.frame ≡ None
  buffer_out = buffer_away config a.state (held_at store.buffers) lift.frame before.bytes.buffers within (ap (is state.Reading) is_read_now)

  pub frame_there : lift.frame < length store.buffers
  frame_there = let count = before.places.buffers in omega (arith, within, count)

  -- ---- the store after it
  module _ (frames' : Frames) where
    abbrev pub store_after : StoreView B
    store_after = record store {
      frames = frames';
      buffers = slice_set store.buffers lift.frame (Some lift.buffer);
      blocks = slice_set store.blocks (number_in store.ids lift.block) (Some lift.held);
      flights = slice_set store.flights lift.frame None;
    }

    pub landed_is : landed (record store { frames = frames' }) lift ≡ store_after
    landed_is = ap (λ (b : Bool). record store {
      frames = frames';
      left = if b then store.left else store.left + 1;
      buffers = if b then slice_set store.buffers lift.frame (Some lift.buffer) else store.buffers;
      blocks = slice_set store.blocks (number_in store.ids lift.block) (Some lift.held);
      flights = slice_set store.flights lift.frame None;
    }) is_read

    block_back : PutsBlock lift.block (Some (seen lift.held)) (home store) (home store_after)
    block_back =
        subst (λ (n : ℕ). PutsBlock lift.block (Some (seen lift.held)) (home store) (λ (b : BlockId). option_map seen (block_at config (slice_set store.blocks n (Some lift.held)) b)))
        (sym place)
        (record {
          here = ap (option_map seen) (block_set config store.blocks before.places.blocks lift.block known (Some lift.held));
          others = λ c apart. ap (option_map seen) (block_kept config store.blocks before.places.blocks lift.block known (Some lift.held) c apart);
        })

    pub brings : (result : Result) → result_of lift.result ≡ result → length lift.buffer ≡ PAGE_BYTES
        → BringsBuffer tells.content tells.plan config past a lift.frame lift.start result (held_at store.buffers) (held_at store_after.buffers) (home store) (home store_after)
    brings result ended size = record {
      block = record { lift = lift_seen seen lift; fits = fits; start = refl; ended = ended; back = block_back };
      size = size;
      put = list_puts_buffer store.buffers lift.frame (Some lift.buffer) frame_there;
    }

    pub places : IsStoreOf config (without_flight lift.start (open_flights past)) store_after numbers
    places = record {
      ids = before.places.ids;
      buffers = length-set store.buffers lift.frame (Some lift.buffer) ∙ before.places.buffers;
      blocks = length-set store.blocks (number_in store.ids lift.block) (Some lift.held) ∙ before.places.blocks;
      left = (let few = before.places.left in
          let writes_same = count_removed_no is_writing (starts lift.start) (open_flights past) x lands.open_k (starts_once past lift.start) (ap (λ d. not (is_reading d)) its_role) in
          omega (arith, few, writes_same));
      firsts = before.places.firsts;
      size = before.places.size;
    }
