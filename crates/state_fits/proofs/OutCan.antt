-- OUT: what its calls require.
use Rattle.std.proofs.Common.{◌≡◌, ℕ, ◌+◌, ◌<◌, ◌≤◌, true, List, [], ◌∷◌, Some, None, length, slice_index_or, count_by, sym, ap, ◌∙◌, subst, inl, inr, arith}
use Rattle.std.specs.Option.{option_map}
use Rattle.std.proofs.lemmas.Bool.{true≢false}
use Rattle.std.proofs.lemmas.Option.{none-some}
use Rattle.vm_types.specs.declared.limits.TheConstants.{MOST_FRAMES}
use Rattle.vm_types.specs.Configuration.{IsWellFormed}
use Rattle.vm_types.specs.declared.config.Config.{Config}
use Rattle.vm_types.specs.declared.names.BlockId.{BlockId}
use Rattle.vm_types.specs.declared.names.BlockId.TheVariants as block
use Rattle.vm_types.specs.declared.names.FrameState.TheVariants as state
use Rattle.vm_types.specs.declared.names.Page.{Page}
use Rattle.vm_types.specs.declared.names.Pfn.{Pfn}
use Rattle.vm_types.specs.declared.names.Seat.{Seat}
use Rattle.vm_journal.specs.declared.entry.Entry.{Entry}
use Rattle.vm_journal.specs.declared.entry.What.TheVariants as what
use Rattle.page_file.specs.Blocks.{IsFreeBlock, assigned_blocks}
use Rattle.pfn_database.specs.Frames.{row_of}
use Rattle.pfn_database.specs.Rows.{IsOneOf}
use Rattle.pfn_database.specs.declared.row.Row.{Row}
use Rattle.state_parts.specs.ChargedTable.{kept_at}
use Rattle.state_parts.specs.declared.charged_page.ChargedPage.{ChargedPage}
use Rattle.pager_model.specs.Around.{frame_view, past_view}
use Rattle.pager_model.specs.Flights.{open_flights}
use Rattle.pager_model.specs.Lookups.{block_of, count_page, is_owner}
use Rattle.pager_model.specs.Maps.{is_paged}
use Rattle.pager_model.specs.OfConfig.{IsOfConfig}
use Rattle.pager_model.specs.Out.{IsAnyOut, IsOutBlock}
use Rattle.pager_model.specs.Pager.{Assigned, Pager}
use Rattle.pager_model.specs.Sets.{has_page}
use Rattle.pager_model.specs.Step.{IsLegal}
use Rattle.pager_model.specs.Transfers.{reads_on, writes_on}
use Rattle.pager_laws.proofs.KeptIsSound.{count_from_has}
use Rattle.pager_rules.proofs.Basics.{find_none_from_count}
use Rattle.pager_rules.proofs.Frames.{modified_frame}
use Rattle.pager_rules.proofs.Put.{head_counts, no_blocks}
use Rattle.pager_rules.specs.Kept.{IsKept}
use Rattle.pager_laws.proofs.FewAssigned.{one_unassigned}
use Rattle.state_fits.specs.File.{has_block}
use Rattle.state_fits.specs.Frames.{frame_row}
use Rattle.state_fits.specs.Parts.{Parts}
use Rattle.state_fits.specs.PartsFit.{PartsFit}
use Rattle.state_fits.proofs.ChargedRows.{row_some}
use Rattle.state_fits.proofs.FlightsMoved.{flights_few, seat_few, seat_read}
use Rattle.state_fits.proofs.OutParts.{listed_writable, row_page, swap_active, swap_writable}

-- of the frame, its flight and its seat
pub record CanBeginWrite (parts : Parts) (seat f : ℕ) : Type 0 where
  pub below : f < length (parts.frames).rows
  pub state : IsOneOf (state.Modified ∷ state.Active ∷ []) (row_of parts.frames f).state
  pub flights : (row_of parts.frames f).flights ≡ 0
  pub starts : f < length parts.starts
  pub roles : f < length parts.roles
  pub seats : seat < length parts.busy
  pub busy : (n : ℕ) → n ≡ slice_index_or parts.busy seat n → n ≤ MOST_FRAMES
  pub in_flight : parts.in_flight ≤ MOST_FRAMES

-- of the page, if it is charged, and of the page file block that it is given
pub record CanGiveBlock (parts : Parts) (g : Page) (b : ℕ) : Type 0 where
  pub free : (row : ChargedPage) → kept_at parts.pages g ≡ Some row → row.assigned ≡ None → IsFreeBlock parts.file b
  pub room : (row : ChargedPage) → kept_at parts.pages g ≡ Some row → row.assigned ≡ None → assigned_blocks parts.file < (parts.file).charged

module _ (config : Config) (past : List Entry) (a : Pager) (seat : Seat) (f : Pfn) (d : BlockId) (formed : IsWellFormed config) (kept : IsKept config (past_view past) a) (right : IsOfConfig config a)
    (legal : IsLegal config past a (record { seat = seat; what = what.Out f d })) (parts : Parts) (fit : PartsFit config past a parts) where
  -- the frame holds a page, is modified or active, and no flight is open on it
  record IsStill : Type 0 where
    within : f.0 < config.frames
    still : reads_on f.0 (open_flights past) + writes_on f.0 (open_flights past) ≡ 0
    state : IsOneOf (state.Modified ∷ state.Active ∷ []) (a.state f.0)

  still : IsAnyOut config past a f.0 d → IsStill
  still (inl out) =
      let its = listed_writable config past a f.0 d kept out in
      record { within = its.within; still = its.still; state = inl (modified_frame (frame_view config (past_view past) a f.0) (kept.frames f.0) (head_counts a.modified f.0 out.head)) }
  still (inr out) =
      let its = swap_writable config past a f.0 d kept out in
      record { within = its.within; still = its.still; state = inr (inl (swap_active config past a f.0 d kept out)) }

  row_state : (row_of parts.frames f.0).state ≡ a.state f.0
  unfolding frame_row
  row_state = ap (λ (r : Row). r.state) (fit.frames.rows f.0)

  row_flights : (row_of parts.frames f.0).flights ≡ reads_on f.0 (open_flights past) + writes_on f.0 (open_flights past)
  unfolding frame_row
  row_flights = ap (λ (r : Row). r.flights) (fit.frames.rows f.0)

  few_flights : length (open_flights past) ≤ MOST_FRAMES
  few_flights = let few = flights_few config (past_view past) a kept in omega (arith, few, formed.frames.1)

  pub can_begin_write : CanBeginWrite parts seat.0 f.0
  can_begin_write =
      let its = still legal.row in
      let there : seat.0 < length config.procs + 2 = let few = legal.line.seat in omega (arith, few) in
      record {
        below = omega (arith, its.within, fit.frames.count);
        state = subst (IsOneOf (state.Modified ∷ state.Active ∷ [])) (sym row_state) its.state;
        flights = row_flights ∙ its.still;
        starts = omega (arith, its.within, fit.flights.start_count);
        roles = omega (arith, its.within, fit.flights.role_count);
        seats = omega (arith, there, fit.seats.count);
        busy = λ n read.
            let is = seat_read (open_flights past) (length config.procs + 2) parts.busy parts.in_flight seat.0 n fit.seats there read in
            omega (arith, is, seat_few seat.0 (open_flights past), few_flights);
        in_flight = omega (arith, fit.seats.total, few_flights);
      }

  module _ (g : Page) (b : ℕ) (page : (row_of parts.frames f.0).page ≡ Some g) (goes : d ≡ block.PageFile b) where
    holds : a.page f.0 ≡ Some g
    holds = sym (row_page config past a seat f kept parts fit) ∙ page

    module _ (row : ChargedPage) (read : kept_at parts.pages g ≡ Some row) (none : row.assigned ≡ None) where
      its : (has_page a.charged g ≡ true) × (row ≡ record { touched = has_page a.touched g; lies = a.lies g; assigned = block_of a.assigned g })
      its = row_some a.charged a.touched a.lies a.assigned g row (sym (fit.pages.each g) ∙ read)

      unassigned : block_of a.assigned g ≡ None
      unassigned = sym (ap (λ (r : ChargedPage). r.assigned) its.1) ∙ none

      some : 0 < count_page a.charged g
      some = count_from_has a.charged g its.0

      free_block : (x : Page) → x ≡ g → IsOutBlock config a d x → IsFreeBlock parts.file b
      free_block x is (inl section) = absurd (true≢false (sym ((kept.pages g).paged some) ∙ (ap (is_paged config) (sym is) ∙ section.0)))
      free_block x is (inr (inl had)) = absurd (none-some had.0 (sym unassigned ∙ (ap (block_of a.assigned) (sym is) ∙ had.2)))
      free_block x is (inr (inr free)) =
          let same : free.0 ≡ b = let e = sym free.3 ∙ goes in cc in
          let below : b < config.pagefile = subst (λ (n : ℕ). n < config.pagefile) same free.4 in
          let unowned : count_by (is_owner (block.PageFile b)) a.assigned ≡ 0 = subst (λ (n : ℕ). count_by (is_owner (block.PageFile n)) a.assigned ≡ 0) same free.5 in
          record {
            exists = omega (arith, below, fit.file.count);
            free = fit.file.owners b ∙ ap (option_map (λ (x : Assigned). x.page)) (find_none_from_count (has_block b) a.assigned unowned);
          }

      free_for : IsAnyOut config past a f.0 d → IsFreeBlock parts.file b
      free_for (inl out) = free_block out.page (let held = sym out.holds ∙ holds in cc) out.block
      free_for (inr out) = absurd (let e = sym out.block ∙ goes in cc)

      room_for : assigned_blocks parts.file < (parts.file).charged
      room_for =
          let fewer = one_unassigned config (past_view past) a g kept some (no_blocks a.assigned g unassigned) in
          omega (arith, fewer, fit.file.blocks, fit.file.charges)

    pub can_give_block : CanGiveBlock parts g b
    can_give_block = record { free = λ row read none. free_for row read none legal.row; room = λ row read none. room_for row read none }
