-- INOK and INFAIL: what their calls require.
use Rattle.std.proofs.Common.{◌≡◌, ℕ, ◌<◌, ◌≤◌, ◌+◌, Bool, true, false, List, Option, Some, None, length, slice_get, slice_index_or, refl, sym, ap, ◌∙◌, subst, arith}
use Rattle.std.specs.Prelude.{IsSome, is_some}
use Rattle.std.specs.Option.{option_and_then}
use Rattle.std.proofs.lemmas.Option.{get_or_from_slice_get, slice_get_within}
use Rattle.vm_types.specs.declared.limits.TheConstants.{MOST_EXTENT}
use Rattle.vm_types.specs.Configuration.{IsProcess, IsWellFormed, all_pins}
use Rattle.vm_types.specs.Ring.{filled}
use Rattle.vm_types.specs.Same.{same_page}
use Rattle.vm_types.specs.declared.config.Config.{Config}
use Rattle.vm_types.specs.declared.config.ProcSpec.{ProcSpec}
use Rattle.vm_types.specs.declared.names.Addr.{Addr}
use Rattle.vm_types.specs.declared.names.FrameState.TheVariants as state
use Rattle.vm_types.specs.declared.names.Page.{Page}
use Rattle.vm_types.specs.declared.names.Page.TheVariants.{Private, Shared}
use Rattle.vm_types.specs.declared.names.Pfn.{Pfn}
use Rattle.vm_types.specs.declared.names.Proc.{Proc}
use Rattle.vm_types.specs.declared.names.Seat.{Seat}
use Rattle.vm_types.specs.declared.names.SecId.{SecId}
use Rattle.vm_journal.specs.declared.entry.Entry.{Entry}
use Rattle.vm_journal.specs.declared.entry.Role.{Role}
use Rattle.vm_journal.specs.declared.entry.Role.TheVariants as role
use Rattle.vm_journal.specs.declared.entry.What.TheVariants as what
use Rattle.working_set.specs.Slots.{IsEmptySlot}
use Rattle.page_tables.specs.PageTables.{IsEntry, IsMapped, pte_in}
use Rattle.global_pages.specs.GlobalPages.{count_of}
use Rattle.pte_forms.specs.declared.pte.Place.TheVariants as place
use Rattle.pte_forms.specs.declared.pte.Pte.{Pte}
use Rattle.pfn_database.specs.Frames.{row_of}
use Rattle.pager_model.specs.Around.{past_view}
use Rattle.pager_model.specs.Changes.{swap_slot}
use Rattle.pager_model.specs.Flights.{Flight, open_flights, reading, without_flight}
use Rattle.pager_model.specs.Maps.{pfn, page_number, proc}
use Rattle.pager_model.specs.InOk.{IsLanding}
use Rattle.pager_model.specs.Lookups.{count_page, page_by}
use Rattle.pager_model.specs.OfConfig.{IsOfConfig}
use Rattle.pager_model.specs.Pager.{Pager}
use Rattle.pager_model.specs.Sets.{has_page}
use Rattle.pager_model.specs.Step.{IsLegal}
use Rattle.pager_model.specs.Transfers.{flights_of}
use Rattle.pager_rules.proofs.Basics.{count_none, find_none_from_count}
use Rattle.pager_rules.proofs.Quiet.{starts_once}
use Rattle.pager_rules.specs.Kept.{IsKept}
use Rattle.state_parts.specs.ChargedTable.{kept_at}
use Rattle.state_parts.specs.SwapTable.{HasSlot}
use Rattle.state_parts.specs.declared.process_row.ProcessRow.{ProcessRow}
use Rattle.pager_laws.proofs.Holders.{holder_there}
use Rattle.pager_laws.proofs.SectionNumbers.{number_within}
use Rattle.pager_laws.proofs.EntryPages.{mapped_right}
use Rattle.state_fits.specs.Entries.{section_page_number}
use Rattle.state_fits.specs.Frames.{row_by}
use Rattle.state_fits.specs.Globals.{shares_held}
use Rattle.state_fits.specs.Parts.{Parts}
use Rattle.state_fits.specs.PartsFit.{PartsFit}
use Rattle.state_fits.specs.Processes.{process_row}
use Rattle.state_fits.specs.Seats.{role_by, role_on}
use Rattle.state_fits.proofs.FlightsMoved.{flight_is, one_on_frame, seat_has, seat_read, seat_few}
use Rattle.state_fits.proofs.GoodEntries.{good_valid}
use Rattle.state_fits.proofs.InFailParts.{in_fail_on}
use Rattle.state_fits.proofs.InOkParts.{come_empty, come_lies, come_own, come_page, come_swap, come_there, facts, in_ok_on}
use Rattle.state_fits.proofs.KnownEntries.{placed_entry, pte_known}
use Rattle.state_fits.proofs.ChargedRows.{charged_is}
use Rattle.state_fits.proofs.OnePlace.{read_is}
use Rattle.state_fits.proofs.PartsSet.{process_read}
use Rattle.state_fits.proofs.ReadLanded.{IsLandedOn, landing_row}
use Rattle.state_fits.proofs.UnsharedFrames.{no_entries}

-- a page that a list counts is in it
listed : (pages : List Page) (g : Page) → count_page pages g ≡ 1 → has_page pages g ≡ true
listed pages g one = go (has_page pages g) refl
  where
    go : (b : Bool) → has_page pages g ≡ b → b ≡ true
    go true is = refl
    go false is = absurd (omega (arith, one, count_none (same_page g) pages is))

-- of every landing of a read of this role, whose frame holds this page
pub record CanLand (parts : Parts) (seat f : ℕ) (r : Role) (g : Page) : Type 0 where
  pub below : f < length (parts.frames).rows
  pub row : row_of parts.frames f ≡ row_by state.Reading (Some g) false 0 1 0 0
  pub starts : f < length parts.starts
  pub roles : f < length parts.roles
  pub role : (o : Option Role) → o ≡ slice_index_or parts.roles f o → o ≡ Some r
  pub seats : seat < length parts.busy
  pub busy : (n : ℕ) → n ≡ slice_index_or parts.busy seat n → 0 < n
  pub in_flight : 0 < parts.in_flight

module _ (config : Config) (past : List Entry) (a : Pager) (seat f k : ℕ) (x : Flight) (r : Role) (kept : IsKept config (past_view past) a) (lands : IsLanding past seat f k x) (reads : x.direction ≡ reading r)
    (on : IsLandedOn config a (open_flights past) (without_flight k (open_flights past)) f) (there : seat ≤ length config.procs + 1) (parts : Parts) (fit : PartsFit config past a parts) where
  some : 0 < flights_of seat (open_flights past)
  some = subst (λ (s : ℕ). 0 < flights_of s (open_flights past)) lands.seat (seat_has (open_flights past) (length config.procs + 2) k x lands.open_k (starts_once past k))

  role_is : role_on f (open_flights past) ≡ Some r
  role_is =
      let its = flight_is (open_flights past) config.frames k x lands.open_k (starts_once past k) (one_on_frame config (past_view past) a x.frame kept) in
      ap (λ (g : ℕ). role_on g (open_flights past)) (sym lands.frame) ∙ (ap (option_and_then (λ (y : Flight). role_by y.direction)) its ∙ ap role_by reads)

  pub can_land : CanLand parts seat f r on.page
  can_land = record {
    below = omega (arith, on.within, fit.frames.count);
    row = landing_row config a (open_flights past) (without_flight k (open_flights past)) f config.frames a.free a.modified parts.frames on fit.frames;
    starts = omega (arith, on.within, fit.flights.start_count);
    roles = omega (arith, on.within, fit.flights.role_count);
    role = λ o read. read_is parts.roles f o _ read (fit.flights.each_role f on.within) (omega (arith, on.within, fit.flights.role_count)) ∙ role_is;
    seats = omega (arith, there, fit.seats.count);
    busy = λ n read. let is = seat_read (open_flights past) (length config.procs + 2) parts.busy parts.in_flight seat n fit.seats (omega (arith, there)) read in omega (arith, is, some);
    in_flight = omega (arith, some, seat_few seat (open_flights past), fit.seats.total);
  }

pub can_fail : (config : Config) (past : List Entry) (a : Pager) (seat : Seat) (f : Pfn) (k c d : ℕ) (kept : IsKept config (past_view past) a) (legal : IsLegal config past a (record { seat = seat; what = what.InFail f k c d })) (parts : Parts) (fit : PartsFit config past a parts)
    → CanLand parts seat.0 f.0 legal.row.role (in_fail_on config past a seat f k c d kept legal parts fit).page
can_fail config past a seat f k c d kept legal parts fit =
    can_land config past a seat.0 f.0 k legal.row.flight legal.row.role kept legal.row.lands legal.row.reads (in_fail_on config past a seat f k c d kept legal parts fit) legal.line.seat parts fit

-- a page becomes valid for a process: of its row, its entry and its global page
pub record CanComeIn (config : Config) (parts : Parts) (q v f : ℕ) (g : Page) : Type 0 where
  pub process : q < length parts.processes
  pub mapped : IsMapped parts.tables q v
  pub entry : (pte : Pte) → pte_in parts.tables q v ≡ Some pte → IsEntry (record pte { place = place.Valid false (pfn f) })
  pub global : (s : SecId) (i : ℕ) → g ≡ Shared s i → section_page_number config s.0 i < length (parts.globals).frames
  pub few : (s : SecId) (i : ℕ) → g ≡ Shared s i → count_of parts.globals (section_page_number config s.0 i) ≡ 0

module _ (config : Config) (past : List Entry) (a : Pager) (seat : Seat) (f : Pfn) (k : ℕ) (formed : IsWellFormed config) (kept : IsKept config (past_view past) a) (right : IsOfConfig config a)
    (legal : IsLegal config past a (record { seat = seat; what = what.InOk f k })) (parts : Parts) (fit : PartsFit config past a parts) where
  abbrev on : IsLandedOn config a (open_flights past) (without_flight k (open_flights past)) f.0
  on = in_ok_on config past a seat f k kept right legal parts fit

  pub can_end : CanLand parts seat.0 f.0 legal.row.role on.page
  can_end = can_land config past a seat.0 f.0 k legal.row.flight legal.row.role kept legal.row.lands legal.row.reads on legal.line.seat parts fit

  comes_in : (q v : ℕ) → page_by config a.map q v ≡ Some on.page → CanComeIn config parts q v f.0 on.page
  comes_in q v own =
      let its = mapped_right config a q v on.page right own in
      let none = no_entries config (past_view past) a f.0 q v on.page kept on.holds on.shares own in
      let known = fit.tables.each q v ∙ pte_known config a.map a.valid a.page a.lies q v its.0 on.page its.1 its.2 None (find_none_from_count _ a.valid none) in
      record {
        process = omega (arith, its.3.process, fit.processes.count);
        mapped = ap is_some known;
        entry = λ pte there. placed_entry pte (its.0).prot _ (place.Valid false f) (sym there ∙ known) (good_valid config formed (its.0).prot f.0 its.3.code on.within);
        global = λ s i is. let number = number_within config s.0 i (right.held f.0 (Shared s i) (on.holds ∙ ap Some is)).0 in omega (arith, number, fit.globals.count);
        few = λ s i is.
            let holds = on.holds ∙ ap Some is in
            fit.globals.shared s i (right.held f.0 (Shared s i) holds).0 ∙ (ap (shares_held a.valid) (holder_there config (past_view past) a (Shared s i) f.0 kept holds) ∙ on.shares);
      }

  abbrev row : ℕ → ProcessRow
  row = process_row a.status a.ring a.limit a.references a.faults a.collided

  -- FAULT: the ring is below its limit
  pub can_fault_in : (q : Proc) (address : Addr) → legal.row.role ≡ role.Fault q address → CanComeIn config parts q.0 (page_number address.0) f.0 on.page
  can_fault_in q address is = comes_in q.0 (page_number address.0) (facts config past a seat f k kept right legal parts fit (role.Fault q address) (legal.row.reads ∙ ap reading is)).1.2

  pub can_take_slot : (q : Proc) (address : Addr) → legal.row.role ≡ role.Fault q address → (y : ProcessRow) → y ≡ slice_index_or parts.processes q.0 y → (filled (y.ring).slots < y.limit) × (y.limit ≤ length (y.ring).slots)
  can_take_slot q address is y read = subst (λ (z : ProcessRow). (filled (z.ring).slots < z.limit) × (z.limit ≤ length (z.ring).slots)) (sym y_is) (below, most (slice_get config.procs q.0) refl)
    where
      own : page_by config a.map q.0 (page_number address.0) ≡ Some on.page
      own = (facts config past a seat f k kept right legal parts fit (role.Fault q address) (legal.row.reads ∙ ap reading is)).1.2

      below : filled (a.ring q.0).slots < a.limit q.0
      below = (facts config past a seat f k kept right legal parts fit (role.Fault q address) (legal.row.reads ∙ ap reading is)).1.4

      y_is : y ≡ row q.0
      y_is = process_read row (length config.procs) parts.processes q.0 y fit.processes (mapped_right config a q.0 (page_number address.0) on.page right own).3.process read

      most : (o : Option ProcSpec) → slice_get config.procs q.0 ≡ o → a.limit q.0 ≤ length (a.ring q.0).slots
      most None none = let zero = ((kept.processes q.0).none none).0 in omega (arith, zero)
      most (Some spec) found = let bounded = (kept.processes q.0).bounds spec found in omega (arith, bounded.most, bounded.slots)

  -- COME: the page is the process's own, and its slot is empty
  module _ (q : Proc) (address : Addr) (is : legal.row.role ≡ role.Come q address) where
    pub can_come_in : CanComeIn config parts q.0 (page_number address.0) f.0 on.page
    can_come_in = comes_in q.0 (page_number address.0) (come_own config past a seat f k kept right legal parts fit q address is)

    pub its_page : on.page ≡ Private (proc q.0) (page_number address.0)
    its_page = come_page config past a seat f k kept right legal parts fit q address is

    pub can_put_in_slot : (y : ProcessRow) → y ≡ slice_index_or parts.processes q.0 y → IsEmptySlot y.ring (swap_slot (legal.row.flight).block)
    can_put_in_slot y read =
        let y_is = process_read row (length config.procs) parts.processes q.0 y fit.processes (come_there config past a seat f k kept right legal parts fit q address is) read in
        let empty = come_empty config past a seat f k kept right legal parts fit q address is in
        subst (λ (z : ProcessRow). IsEmptySlot z.ring (swap_slot (legal.row.flight).block)) (sym y_is)
        (record { exists = (come_swap config past a seat f k kept right legal parts fit q address is).within; empty = get_or_from_slice_get (a.ring q.0).slots (swap_slot (legal.row.flight).block) None None empty })

    -- the swap block is one of the table's
    pub can_clear : HasSlot parts.swaps q.0 (swap_slot (legal.row.flight).block)
    can_clear =
        let there = come_there config past a seat f k kept right legal parts fit q address is in
        record { proc = omega (arith, there, fit.swaps.procs); slot = few (slice_get config.procs q.0) refl }
      where
        within : swap_slot (legal.row.flight).block < length (a.ring q.0).slots
        within = (come_swap config past a seat f k kept right legal parts fit q address is).within

        few : (o : Option ProcSpec) → slice_get config.procs q.0 ≡ o → swap_slot (legal.row.flight).block < MOST_EXTENT
        few None none = let zero = ((kept.processes q.0).none none).1 in absurd (omega (arith, zero, within))
        few (Some spec) found =
            let bounded = (kept.processes q.0).bounds spec found in
            let process : IsProcess config.frames (length config.bad + all_pins config) spec
            = subst (IsProcess config.frames (length config.bad + all_pins config)) (get_or_from_slice_get config.procs q.0 spec spec found) (formed.procs q.0 spec (slice_get_within config.procs q.0 spec found)) in
            omega (arith, within, bounded.slots, process.limited.most)

    -- what is kept of the page
    pub come_charged : IsSome (kept_at parts.pages (Private q (page_number address.0)))
    come_charged =
        let lies = ap a.lies (sym its_page) ∙ come_lies config past a seat f k kept right legal parts fit q address is in
        let one = (kept.pages (Private (proc q.0) (page_number address.0))).lying _ refl lies in
        ap is_some (fit.pages.each (Private q (page_number address.0)) ∙ charged_is a.charged a.touched a.lies a.assigned (Private q (page_number address.0)) (listed a.charged (Private (proc q.0) (page_number address.0)) one))
