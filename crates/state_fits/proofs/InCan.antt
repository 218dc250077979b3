-- IN: what its calls require.
use Rattle.std.proofs.Common.{◌≡◌, ◌⊎◌, inl, inr, ℕ, ◌<◌, ◌≤◌, ◌+◌, ◌-◌, ◌^◌, Bool, true, false, cond, Option, List, Some, None, length, nat_le, nat_lt, slice_get, slice_index_or, refl, sym, ap, ◌∙◌, subst, arith}
use Rattle.std.specs.Prelude.{◌&&◌, IsSome, is_some}
use Rattle.std.specs.Option.{option_map}
use Rattle.std.proofs.lemmas.Bool.{and_from, lt-ltb, le-leb}
use Rattle.std.proofs.lemmas.Option.{get_or_from_slice_get, none-some}
use Rattle.vm_types.specs.declared.limits.TheConstants.{MOST_FRAMES, P0_PAGES, P1_PAGES}
use Rattle.vm_types.specs.Configuration.{IsWellFormed}
use Rattle.vm_types.specs.PagePlaces.{region_place}
use Rattle.vm_types.specs.declared.config.Config.{Config}
use Rattle.vm_types.specs.declared.names.Addr.{Addr}
use Rattle.vm_types.specs.declared.names.BlockId.{BlockId}
use Rattle.vm_types.specs.declared.names.Page.{Page}
use Rattle.vm_types.specs.declared.names.Page.TheVariants.{Private, Shared}
use Rattle.vm_types.specs.declared.names.Pfn.{Pfn}
use Rattle.vm_types.specs.declared.names.Proc.{Proc}
use Rattle.vm_types.specs.declared.names.Seat.{Seat}
use Rattle.vm_types.specs.declared.names.SecId.{SecId}
use Rattle.vm_journal.specs.declared.entry.Entry.{Entry}
use Rattle.vm_journal.specs.declared.entry.Role.{Role}
use Rattle.vm_journal.specs.declared.entry.Role.TheVariants as role
use Rattle.vm_journal.specs.declared.entry.What.TheVariants as what
use Rattle.page_tables.specs.PageTables.{IsEntry, IsMapped, pte_in}
use Rattle.pte_forms.specs.declared.pte.Place.{Place}
use Rattle.pte_forms.specs.declared.pte.Place.TheVariants as place
use Rattle.pte_forms.specs.declared.pte.Pte.{Pte}
use Rattle.pfn_database.specs.Frames.{row_of}
use Rattle.pfn_database.specs.declared.row.Row.{Row}
use Rattle.pager_laws.proofs.OfConfigKept.{page_right}
use Rattle.pager_model.specs.Around.{past_view}
use Rattle.pager_model.specs.Flights.{Flight, open_flights, reading}
use Rattle.pager_model.specs.Maps.{pfn, Mapped, is_private, page_number}
use Rattle.pager_model.specs.In.{IsFirstIn}
use Rattle.pager_model.specs.Lookups.{own_page, page_by}
use Rattle.pager_model.specs.OfConfig.{IsMappable, IsMappedRight, IsOfConfig}
use Rattle.pager_model.specs.Pager.{Pager}
use Rattle.pager_model.specs.Step.{IsLegal}
use Rattle.pager_rules.proofs.Basics.{find_none_from_count}
use Rattle.pager_rules.proofs.Put.{no_entry}
use Rattle.pager_rules.specs.Kept.{IsKept}
use Rattle.state_parts.specs.ChargedTable.{HasPage, kept_at}
use Rattle.state_parts.specs.declared.process_row.ProcessRow.{ProcessRow}
use Rattle.pager_laws.proofs.SectionNumbers.{number_within}
use Rattle.pager_laws.proofs.EntryPages.{mapped_right}
use Rattle.state_fits.specs.Entries.{section_page_number}
use Rattle.state_fits.specs.Frames.{frame_row}
use Rattle.state_fits.specs.Parts.{Parts}
use Rattle.state_fits.specs.PartsFit.{PartsFit}
use Rattle.state_fits.specs.Processes.{process_row}
use Rattle.state_fits.specs.Seats.{flight_on, is_on_frame}
use Rattle.state_fits.proofs.FlightsMoved.{flights_few, on_frame_counts, seat_few, seat_read}
use Rattle.state_fits.proofs.GoodEntries.{good_left}
use Rattle.state_fits.proofs.InParts.{IsChargedNow, IsReadable, WasCharged, charges, fault_readable_as}
use Rattle.state_fits.proofs.KnownEntries.{placed_entry}
use Rattle.state_fits.proofs.PartsSet.{process_read}
use Rattle.state_fits.proofs.ReadBegun.{free_row, pte_away}

-- of every role
pub record CanRead (config : Config) (parts : Parts) (seat f : ℕ) (x : Page) : Type 0 where
  pub below : f < length (parts.frames).rows
  pub number : f < MOST_FRAMES
  pub head : slice_get (parts.frames).free 0 ≡ Some f
  pub empty : (row_of parts.frames f).page ≡ None
  pub starts : f < length parts.starts
  pub still : slice_index_or parts.starts f None ≡ None
  pub roles : f < length parts.roles
  pub seats : seat < length parts.busy
  pub busy : (n : ℕ) → n ≡ slice_index_or parts.busy seat n → n ≤ MOST_FRAMES
  pub in_flight : parts.in_flight ≤ MOST_FRAMES
  pub mapped : (p : Proc) (v : ℕ) → x ≡ Private p v → IsMapped parts.tables p.0 v
  pub entry : (p : Proc) (v : ℕ) (pte : Pte) → x ≡ Private p v → pte_in parts.tables p.0 v ≡ Some pte → IsEntry (record pte { place = place.Transition (pfn f) })
  pub global : (s : SecId) (i : ℕ) → x ≡ Shared s i → section_page_number config s.0 i < length (parts.globals).frames

-- a page that may be mapped has a place
pub has_place : (v : ℕ) → IsMappable v → IsSome (region_place v)
has_place v (inl low) = rw (lt-ltb v P0_PAGES low) refl
has_place v (inr high) = go (nat_lt v P0_PAGES)
  where
    inside : (nat_le (2 ^ 22 - P1_PAGES) v && nat_lt v (2 ^ 22)) ≡ true
    inside = and_from _ _ (le-leb (2 ^ 22 - P1_PAGES) v high.0) (lt-ltb v (2 ^ 22) high.1)

    go : (b : Bool) → is_some (cond b (Some v) (cond (nat_le (2 ^ 22 - P1_PAGES) v && nat_lt v (2 ^ 22)) (Some (v - (2 ^ 22 - P1_PAGES) + P0_PAGES)) None)) ≡ true
    go true = refl
    go false = rw inside refl

module _ (config : Config) (past : List Entry) (a : Pager) (seat : Seat) (f : Pfn) (d : BlockId) (r : Role) (formed : IsWellFormed config) (kept : IsKept config (past_view past) a) (right : IsOfConfig config a)
    (legal : IsLegal config past a (record { seat = seat; what = what.In f d r })) (parts : Parts) (fit : PartsFit config past a parts) (x : Page) (readable : IsReadable config a f.0 x) where
  abbrev begun : Flight
  begun = record { start = length past + 1; seat = seat.0; frame = f.0; block = d; direction = reading r }

  within : f.0 < config.frames
  within = (free_row config past a begun x kept readable.head readable.empty readable.out refl readable.own).within

  own_at : (p : Proc) (v : ℕ) → x ≡ Private p v → page_by config a.map p.0 v ≡ Some (Private p v)
  own_at p v is = subst (λ (g : Page). own_page config a.map g ≡ Some g) is (readable.own (ap is_private is))

  -- the page is of a process of the configuration, which may map it
  pub read_page_of : (p : Proc) (v : ℕ) → x ≡ Private p v → (p.0 < length config.procs) × IsSome (region_place v)
  read_page_of p v is = let of = page_right config a.map p.0 v (Private p v) right.mapped (own_at p v is) in (of.0, has_place v of.1)

  found : (p : Proc) (v : ℕ) → x ≡ Private p v → (m : Mapped) × (was : Place) × IsMappedRight config p.0 v m × (pte_in parts.tables p.0 v ≡ Some (record { prot = m.prot; place = was }))
  found p v is =
      let its = mapped_right config a p.0 v (Private p v) right (own_at p v is) in
      let none = no_entry config a.map a.page a.valid p.0 v (Private p v) (own_at p v is) (λ h holds. readable.out h (holds ∙ ap Some (sym is))) kept.valid in
      (its.0, _, its.3, fit.tables.each p.0 v ∙ pte_away config a.map a.valid a.page a.lies p.0 v its.0 (Private p v) its.1 its.2 (find_none_from_count _ a.valid none))

  row_empty : (row_of parts.frames f.0).page ≡ None
  unfolding frame_row
  row_empty = ap (λ (row : Row). row.page) (fit.frames.rows f.0) ∙ readable.empty

  seat_there : seat.0 < length config.procs + 2
  seat_there = let few = legal.line.seat in omega (arith, few)

  few_flights : length (open_flights past) ≤ MOST_FRAMES
  few_flights = let few = flights_few config (past_view past) a kept in omega (arith, few, formed.frames.1)

  none_on : flight_on f.0 (open_flights past) ≡ None
  none_on =
      let still = (free_row config past a begun x kept readable.head readable.empty readable.out refl readable.own).still in
      find_none_from_count (is_on_frame f.0) (open_flights past) (on_frame_counts f.0 (open_flights past) ∙ still)

  pub can_read : CanRead config parts seat.0 f.0 x
  can_read = record {
    below = omega (arith, within, fit.frames.count);
    number = omega (arith, within, formed.frames.1);
    head = ap (λ (xs : List ℕ). slice_get xs 0) (fit.frames.free_list ∙ readable.head.heads);
    empty = row_empty;
    starts = omega (arith, within, fit.flights.start_count);
    still = get_or_from_slice_get parts.starts f.0 None None (fit.flights.each_start f.0 within ∙ ap (λ (o : Option Flight). Some (option_map (λ (y : Flight). y.start) o)) none_on);
    roles = omega (arith, within, fit.flights.role_count);
    seats = omega (arith, seat_there, fit.seats.count);
    busy = λ n read.
        let is = seat_read (open_flights past) (length config.procs + 2) parts.busy parts.in_flight seat.0 n fit.seats seat_there read in
        omega (arith, is, seat_few seat.0 (open_flights past), few_flights);
    in_flight = omega (arith, fit.seats.total, few_flights);
    mapped = λ p v is. ap is_some (found p v is).3;
    entry = λ p v pte is there.
        let its = found p v is in
        placed_entry pte (its.0).prot its.1 (place.Transition (pfn f.0)) (sym there ∙ its.3)
        (good_left config formed (its.0).prot f.0 (Private p v) its.2.code within (page_right config a.map p.0 v (Private p v) right.mapped (own_at p v is)));
    global = λ s i is. let number = number_within config s.0 i (readable.section s i is) in omega (arith, number, fit.globals.count);
  }

-- of the role FAULT: the process's row, and room in the page file for a page that isn't charged yet
pub record CanFault (config : Config) (a : Pager) (parts : Parts) (q : Proc) (x : Page) : Type 0 where
  pub process : q.0 < length parts.processes
  pub faults : (y : ProcessRow) → y ≡ slice_index_or parts.processes q.0 y → y.faults ≡ a.faults q.0
  pub room : (p : Proc) (v : ℕ) → x ≡ Private p v → kept_at parts.pages (Private p v) ≡ None → (parts.file).charged < length (parts.file).owners
  pub page : (p : Proc) (v : ℕ) → x ≡ Private p v → HasPage parts.pages p.0 v

module _ (config : Config) (past : List Entry) (a : Pager) (seat : Seat) (f : Pfn) (d : BlockId) (q : Proc) (address : Addr) (formed : IsWellFormed config) (kept : IsKept config (past_view past) a) (right : IsOfConfig config a)
    (legal : IsLegal config past a (record { seat = seat; what = what.In f d (role.Fault q address) })) (parts : Parts) (fit : PartsFit config past a parts) where
  fault_there : q.0 < length config.procs
  fault_there = subst (λ (p : ℕ). p < length config.procs) (sym legal.row.self) legal.row.own.process

  -- the first read of the page, since it wasn't charged
  first_room : (p : Proc) (v : ℕ) → legal.row.page ≡ Private p v → kept_at parts.pages (Private p v) ≡ None → length a.charged < config.pagefile
  first_room p v is none = by legal.row.from (charges config past a kept parts fit p v)
    where
      by : (a.lies legal.row.page ≡ Some d) ⊎ IsFirstIn config a seat.0 (page_number address.0) d legal.row.page → IsChargedNow a parts p v ⊎ WasCharged a parts p v → length a.charged < config.pagefile
      by (inr first) charged = first.room
      by (inl lies) (inr was) = absurd (none-some was.1.0 (sym none ∙ was.1.1))
      by (inl lies) (inl now) = absurd (not_now now)
        where
          not_now : IsChargedNow a parts p v → ⊥
          not_now now = let one = (kept.pages (Private p v)).lying d refl (ap a.lies (sym is) ∙ lies) in omega (arith, one, now.3)

  pub can_fault : (x : Page) → page_by config a.map q.0 (page_number address.0) ≡ Some x → CanFault config a parts q x
  can_fault x own = record {
    process = omega (arith, fault_there, fit.processes.count);
    faults = λ y read. ap (λ (z : ProcessRow). z.faults) (process_read (process_row a.status a.ring a.limit a.references a.faults a.collided) (length config.procs) parts.processes q.0 y fit.processes fault_there read);
    room = λ p v is none. omega (arith, first_room p v (its ∙ is) none, fit.file.charges, fit.file.count);
    page = λ p v is.
        let of = read_page_of config past a seat f d (role.Fault q address) formed kept right legal parts fit x (fault_readable_as config past a seat f d q address formed kept right legal parts fit x own) p v is in
        record { proc = omega (arith, of.0, fit.pages.procs); page = of.1 };
  }
    where
      its : legal.row.page ≡ x
      its = let first = subst (λ (p : ℕ). page_by config a.map p (page_number address.0) ≡ Some legal.row.page) (sym legal.row.self) legal.row.mapped in cc (first, own)
