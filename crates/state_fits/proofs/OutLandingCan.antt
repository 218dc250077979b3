-- OUTOK and OUTFAIL: what their calls require.
use Rattle.std.proofs.Common.{◌≡◌, ℕ, ◌+◌, ◌<◌, List, [], ◌∷◌, Some, length, slice_index_or, sym, ap, ◌∙◌, subst, inl, inr, arith}
use Rattle.std.proofs.lemmas.Bool.{true≢false}
use Rattle.std.proofs.lemmas.Option.{slice_get_within}
use Rattle.vm_types.specs.Configuration.{IsWellFormed}
use Rattle.vm_types.specs.declared.config.Config.{Config}
use Rattle.vm_types.specs.declared.names.BlockId.{BlockId}
use Rattle.vm_types.specs.declared.names.BlockId.TheVariants as block
use Rattle.vm_types.specs.declared.names.FrameState.TheVariants as state
use Rattle.vm_types.specs.declared.names.Page.{Page}
use Rattle.vm_types.specs.declared.names.Page.TheVariants.{Private}
use Rattle.vm_types.specs.declared.names.Pfn.{Pfn}
use Rattle.vm_types.specs.declared.names.Proc.{Proc}
use Rattle.vm_types.specs.declared.names.Seat.{Seat}
use Rattle.vm_journal.specs.declared.entry.Entry.{Entry}
use Rattle.pfn_database.specs.Frames.{row_of}
use Rattle.pfn_database.specs.Rows.{IsOneOf}
use Rattle.pfn_database.specs.declared.row.Row.{Row}
use Rattle.state_parts.specs.ChargedTable.{kept_at}
use Rattle.state_parts.specs.SwapTable.{HasSlot}
use Rattle.state_parts.specs.declared.charged_page.ChargedPage.{ChargedPage}
use Rattle.pager_model.specs.Around.{page_view, past_view, process_view}
use Rattle.pager_model.specs.Flights.{Flight, open_flights, without_flight, writing}
use Rattle.pager_model.specs.InOk.{IsLanding}
use Rattle.pager_model.specs.Maps.{proc}
use Rattle.pager_model.specs.OfConfig.{IsOfConfig}
use Rattle.pager_model.specs.Pager.{Pager}
use Rattle.pager_model.specs.Transfers.{flights_of, reads_on, writes_on}
use Rattle.pager_rules.proofs.Quiet.{starts_once}
use Rattle.pager_rules.specs.Kept.{FitsWrite, IsKept}
use Rattle.state_fits.specs.Frames.{frame_row}
use Rattle.state_fits.specs.Parts.{Parts}
use Rattle.state_fits.specs.PartsFit.{PartsFit}
use Rattle.state_fits.proofs.Bounds.{slot_there}
use Rattle.state_fits.proofs.FlightsMoved.{seat_few, seat_has, seat_read}
use Rattle.state_fits.proofs.LiesNowhere.{charged_lies}
use Rattle.state_fits.proofs.OutLandingParts.{landing_on}
use Rattle.state_fits.proofs.WriteLanded.{IsWrittenOn}

-- of the frame, its flight and its seat
pub record CanEndWrite (parts : Parts) (seat f : ℕ) : Type 0 where
  pub below : f < length (parts.frames).rows
  pub state : IsOneOf (state.Active ∷ state.Writing ∷ state.ReleasePending ∷ []) (row_of parts.frames f).state
  pub flights : (row_of parts.frames f).flights ≡ 1
  pub starts : f < length parts.starts
  pub roles : f < length parts.roles
  pub seats : seat < length parts.busy
  pub busy : (n : ℕ) → n ≡ slice_index_or parts.busy seat n → 0 < n
  pub in_flight : 0 < parts.in_flight

-- of a private page: of the swap block that it lay in, and the one that it was written to
pub record CanLieIn (parts : Parts) (d : BlockId) (p : Proc) (v : ℕ) : Type 0 where
  pub old_slot : (row : ChargedPage) (q : Proc) (n : ℕ) → kept_at parts.pages (Private p v) ≡ Some row → row.lies ≡ Some (block.Swap q n) → HasSlot parts.swaps q.0 n
  pub new_slot : (q : Proc) (n : ℕ) → d ≡ block.Swap q n → HasSlot parts.swaps q.0 n

module _ (config : Config) (past : List Entry) (a : Pager) (seat : Seat) (f : Pfn) (k : ℕ) (x : Flight) (formed : IsWellFormed config) (kept : IsKept config (past_view past) a) (right : IsOfConfig config a)
    (lands : IsLanding past seat.0 f.0 k x) (writes : x.direction ≡ writing) (there : seat.0 < length config.procs + 2) (parts : Parts) (fit : PartsFit config past a parts) where
  abbrev flights : List Flight
  flights = open_flights past

  on : IsWrittenOn config a flights (without_flight k flights) x f.0
  on = landing_on config past a seat f k x kept lands writes there parts fit

  row_state : (row_of parts.frames f.0).state ≡ a.state f.0
  unfolding frame_row
  row_state = ap (λ (r : Row). r.state) (fit.frames.rows f.0)

  row_page : (row_of parts.frames f.0).page ≡ a.page f.0
  unfolding frame_row
  row_page = ap (λ (r : Row). r.page) (fit.frames.rows f.0)

  row_flights : (row_of parts.frames f.0).flights ≡ reads_on f.0 flights + writes_on f.0 flights
  unfolding frame_row
  row_flights = ap (λ (r : Row). r.flights) (fit.frames.rows f.0)

  some : 0 < flights_of seat.0 flights
  some = subst (λ (s : ℕ). 0 < flights_of s flights) lands.seat (seat_has flights (length config.procs + 2) k x lands.open_k (starts_once past k))

  pub can_end_write : CanEndWrite parts seat.0 f.0
  can_end_write = record {
    below = omega (arith, on.within, fit.frames.count);
    state = subst (IsOneOf (state.Active ∷ state.Writing ∷ state.ReleasePending ∷ [])) (sym row_state) on.state;
    flights = row_flights ∙ on.one;
    starts = omega (arith, on.within, fit.flights.start_count);
    roles = omega (arith, on.within, fit.flights.role_count);
    seats = omega (arith, there, fit.seats.count);
    busy = λ n read. let is = seat_read flights (length config.procs + 2) parts.busy parts.in_flight seat.0 n fit.seats there read in omega (arith, is, some);
    in_flight = omega (arith, some, seat_few seat.0 flights, fit.seats.total);
  }

  module _ (p : Proc) (v : ℕ) (page : (row_of parts.frames f.0).page ≡ Some (Private p v)) where
    holds : a.page f.0 ≡ Some (Private p v)
    holds = sym row_page ∙ page

    written_slot : (q : Proc) (n : ℕ) → x.block ≡ block.Swap q n → FitsWrite x (Private p v) (page_view config a (Private p v)) (process_view config a) → HasSlot parts.swaps q.0 n
    written_slot q n goes (inl section) = absurd (true≢false section.0)
    written_slot q n goes (inr (inl file)) = absurd (let e = sym file.2 ∙ goes in cc)
    written_slot q n goes (inr (inr swap)) =
        let blocks = sym swap.block ∙ goes in
        let proc_is : proc swap.p ≡ q = cc in
        let slot_is : swap.n ≡ n = cc in
        let its = slot_there config (past_view past) a parts.swaps swap.p swap.n formed kept fit.swaps (slice_get_within (a.ring swap.p).slots swap.n (Some swap.held) swap.slot) in
        subst (λ (r : Proc). HasSlot parts.swaps r.0 n) proc_is (subst (λ (m : ℕ). HasSlot parts.swaps swap.p m) slot_is its)

    pub can_lie_in : CanLieIn parts x.block p v
    can_lie_in =
        let page_is : on.page ≡ Private p v = let held = sym on.holds ∙ holds in cc in
        record {
          old_slot = λ row q n read lies.
              let there = charged_lies a.charged a.touched a.lies a.assigned (Private p v) row (sym (fit.pages.each (Private p v)) ∙ read) in
              slot_there config (past_view past) a parts.swaps q.0 n formed kept fit.swaps (kept.swapped (Private p v) q.0 n (sym there ∙ lies)).within;
          new_slot = λ q n goes. written_slot q n goes (subst (λ (g : Page). FitsWrite x g (page_view config a g) (process_view config a)) page_is on.fits);
        }
