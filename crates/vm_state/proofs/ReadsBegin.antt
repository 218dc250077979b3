-- IN closes, its calls may be made, and the lift that begins fits.
use Rattle.std.proofs.Common.{◌≡◌, ℕ, ◌+◌, ◌-◌, ◌^◌, ◌≤◌, ◌<◌, true, List, [], ◌∷◌, ◌++◌, Option, Some, None, IsSome, IfSome, length, slice_index_or, slice_set, refl, sym, ap, ◌∙◌, subst, arith, length-set}
use Rattle.std.specs.List.{AllByRecursion}
use Rattle.std.specs.Option.{option_map}
use Rattle.std.proofs.lemmas.Option.{get_or_from_slice_get, same_Some, slice_get_within}
use Rattle.vm_types.specs.BlockView.{BlockView, Tells}
use Rattle.vm_types.specs.Configuration.{IsBlock}
use Rattle.vm_types.specs.declared.config.Config.{Config}
use Rattle.vm_types.specs.declared.names.BlockId.{BlockId}
use Rattle.vm_types.specs.declared.names.FrameState.TheVariants as state
use Rattle.vm_types.specs.declared.names.Page.{Page}
use Rattle.vm_types.specs.declared.names.Page.TheVariants.{Private, Shared}
use Rattle.vm_types.specs.declared.names.Pfn.{Pfn}
use Rattle.vm_types.specs.declared.names.Proc.{Proc}
use Rattle.vm_types.specs.declared.names.Addr.{Addr}
use Rattle.vm_types.specs.declared.names.Seat.{Seat}
use Rattle.vm_types.specs.declared.names.SecId.{SecId}
use Rattle.vm_types.specs.declared.pool_name.PoolName.{PoolName}
use Rattle.vm_journal.specs.declared.entry.Entry.{Entry}
use Rattle.vm_journal.specs.declared.entry.Role.{Role}
use Rattle.vm_journal.specs.declared.entry.Role.TheVariants as role
use Rattle.vm_journal.specs.declared.entry.What.TheVariants as what
use Rattle.global_pages.specs.GlobalPages.{GlobalPages}
use Rattle.page_file.specs.Blocks.{Blocks}
use Rattle.state_pages.specs.Moves.{HasNumber, MayHold, number_by}
use Rattle.page_tables.specs.PageTables.{PageTables}
use Rattle.pfn_database.specs.Frames.{Frames}
use Rattle.pager_laws.proofs.FewCounts.{counts_few}
use Rattle.pager_model.specs.Fits.{FitsLift}
use Rattle.pager_model.specs.Flights.{open_flights}
use Rattle.pager_model.specs.In.{IsIn, after_in}
use Rattle.pager_model.specs.Lookups.{is, page_by}
use Rattle.pager_model.specs.Maps.{page_number}
use Rattle.pager_model.specs.Own.{IsEmptyHead}
use Rattle.pager_model.specs.Pager.{Pager}
use Rattle.pager_model.specs.Run.{pager_after}
use Rattle.pager_model.specs.Step.{IsLegal, after}
use Rattle.pager_model.specs.Transfers.{IsHome}
use Rattle.pager_rules.proofs.Basics.{at_number_same}
use Rattle.pager_rules.proofs.Put.{head_counts}
use Rattle.content_laws.specs.Begun.{read_lift}
use Rattle.content_laws.specs.Put.{PutsBlock}
use Rattle.content_laws.proofs.AtHome.{block_is_home, buffer_home}
use Rattle.content_laws.proofs.CarriedFits.{few_calls}
use Rattle.content_laws.proofs.ContentStays.{read_begins}
use Rattle.content_laws.proofs.LiftsStay.{lifts_stay}
use Rattle.content_laws.proofs.ListPuts.{list_puts_buffer}
use Rattle.frame_store.specs.Blocks.{block_at, held_at, number_in, number_of}
use Rattle.frame_store.specs.LiftView.{LiftView, begun}
use Rattle.frame_store.specs.StoreView.{StoreView, lifted_in}
use Rattle.frame_store.proofs.Blocks.{block_kept, block_set}
use Rattle.state_parts.specs.ChargedTable.{ChargedTable}
use Rattle.state_parts.specs.declared.process_row.ProcessRow.{ProcessRow}
use Rattle.pager_laws.proofs.Holders.{free_is}
use Rattle.state_fits.specs.Entries.{section_page_number}
use Rattle.state_fits.specs.Parts.{Parts}
use Rattle.state_fits.specs.PartsFit.{PartsFit}
use Rattle.state_fits.specs.ReadBegins.{held_at as page_held_at, held_in, page_number_of}
use Rattle.state_fits.proofs.FirstNumbers as first
use Rattle.state_fits.proofs.InCan.{CanFault, CanRead, can_fault, can_read}
use Rattle.state_fits.proofs.InParts.{IsReadBegun, IsReadable, come_readable, fault_readable_as, in_come_parts, in_fault_parts, in_near_parts, lying_readable}
use Rattle.state_fits.proofs.MappedPages.{page_shown}
use Rattle.state_pages.specs.ReadStarts.{ChargesFault, CountsFault, MayChargeFault, MayCountFault, page_read}
use Rattle.vm_state.specs.History.{owed}
use Rattle.lift_carriers.specs.LiftsFit.{LiftFits, lift_seen}
use Rattle.vm_state.specs.StateKept.{IsState, IsStoreOf, home_in}
use Rattle.vm_state.proofs.Closing.{closed, kept, right}

-- of a legal read of any role: its block is home, and its frame an empty head
home_of : (r : Role) (config : Config) (past : List Entry) (a : Pager) (p f : ℕ) (b : BlockId) → IsIn r config past a p f b → IsHome config b (open_flights past)
home_of (role.Fault q address) config past a p f b legal = legal.home
home_of (role.Near g) config past a p f b legal = legal.lying.home
home_of (role.Come q address) config past a p f b legal = legal.lying.home

head_of : (r : Role) (config : Config) (past : List Entry) (a : Pager) (p f : ℕ) (b : BlockId) → IsIn r config past a p f b → IsEmptyHead a f
head_of (role.Fault q address) config past a p f b legal = legal.frame
head_of (role.Near g) config past a p f b legal = legal.lying.frame
head_of (role.Come q address) config past a p f b legal = legal.lying.frame

-- one more that holds
pub all_and_one : {X : Type 0} (P : X → Type 0) (xs : List X) (x : X) → AllByRecursion P xs → P x → AllByRecursion P (xs ++ x ∷ [])
all_and_one P [] x all one = (one, tt)
all_and_one P (y ∷ ys) x all one = (all.0, all_and_one P ys x all.1 one)

-- the rows of the processes stay as many
pub rows_stay : (r : Role) (rows rows' : List ProcessRow) → CountsFault r rows rows' → length rows' ≡ length rows
rows_stay (role.Fault q address) rows rows' counts = ap length counts.2 ∙ length-set rows q.0 _
rows_stay (role.Near g) rows rows' counts = ap length counts
rows_stay (role.Come q address) rows rows' counts = ap length counts

pub each_some : {X : Type 0} {P : X → Type 0} (o : Option X) → ((x : X) → o ≡ Some x → P x) → IfSome o P
each_some None all = tt
each_some (Some x) all = all x refl

none_mapped : {X Y : Type 0} (f : X → Y) (o : Option X) (y : Y) → option_map f o ≡ Some y → (x : X) × (o ≡ Some x) × (f x ≡ y)
none_mapped f None y is = absurd (cc is)
none_mapped f (Some x) y is = (x, refl, same_Some _ _ is)

module _ {B : Type 0} {seen : B → BlockView} {tells : Tells} {config : Config} {past : List Entry} {spare : ℕ} {store : StoreView B} {fields : Parts} {numbers : List ℕ}
    (before : IsState seen tells config past spare store fields numbers) (seat : Seat) (f : Pfn) (d : BlockId) where
  abbrev a : Pager
  a = pager_after config past

  abbrev entry : Role → Entry
  entry r = record { seat = seat; what = what.In f d r }

  abbrev Legal : Role → Type 0
  Legal r = IsLegal config past a (entry r)

  shown : (q : Proc) (address : Addr) (x : Page) → page_read config fields.sections (role.Come q address) ≡ Some x → page_by config a.map q.0 (page_number address.0) ≡ Some x
  shown q address x page = sym (page_shown config a.map fields.sections q.0 (page_number address.0) before.parts.sections) ∙ page

  -- ---- the page
  some_page : (r : Role) → Legal r → IsSome (page_read config fields.sections r)
  some_page (role.Fault q address) legal =
      let here : page_by config a.map q.0 (page_number address.0) ≡ Some legal.row.page = ap (λ (p : ℕ). page_by config a.map p (page_number address.0)) legal.row.self ∙ legal.row.mapped in
      subst IsSome (sym (page_shown config a.map fields.sections q.0 (page_number address.0) before.parts.sections ∙ here)) refl
  some_page (role.Near g) legal = refl
  some_page (role.Come q address) legal = subst IsSome (sym (page_shown config a.map fields.sections q.0 (page_number address.0) before.parts.sections ∙ legal.row.mapped)) refl

  readable : (r : Role) → Legal r → (x : Page) → page_read config fields.sections r ≡ Some x → IsReadable config a f.0 x
  readable (role.Fault q address) legal x page = fault_readable_as config past a seat f d q address before.formed (kept before) (right before) legal fields before.parts x (shown q address x page)
  readable (role.Near g) legal x page = subst (IsReadable config a f.0) (same_Some _ _ page) (lying_readable config past a f.0 d g (kept before) (right before) legal.row.lying)
  readable (role.Come q address) legal x page = come_readable config past a seat f d q address before.formed (kept before) (right before) legal fields before.parts x (shown q address x page)

  -- it is in the frame after
  page_after : (r : Role) (x : Page) → page_read config fields.sections r ≡ Some x → (after_in config a f.0 r).page f.0 ≡ Some x
  page_after (role.Fault q address) x page = at_number_same a.page f.0 _ ∙ shown q address x page
  page_after (role.Near g) x page = at_number_same a.page f.0 _ ∙ page
  page_after (role.Come q address) x page = at_number_same a.page f.0 _ ∙ shown q address x page

  pub may_count : (r : Role) → Legal r → MayCountFault r fields.processes
  may_count (role.Fault q address) legal =
      let page = some_page (role.Fault q address) legal in
      let here : page_by config a.map q.0 (page_number address.0) ≡ Some legal.row.page = ap (λ (p : ℕ). page_by config a.map p (page_number address.0)) legal.row.self ∙ legal.row.mapped in
      let can = can_fault config past a seat f d q address before.formed (kept before) (right before) legal fields before.parts legal.row.page here in (
        can.process,
        λ y at.
            let faults = can.faults y (sym (get_or_from_slice_get fields.processes q.0 y y at)) in
            let few = (counts_few config past).faults q.0 in
            let short = before.short in
            omega (arith, faults, few, short),
      )
  may_count (role.Near g) legal = tt
  may_count (role.Come q address) legal = tt

  pub may_charge : (r : Role) → Legal r → (x : Page) → page_read config fields.sections r ≡ Some x → MayChargeFault r x fields.pages fields.file
  may_charge (role.Fault q address) legal x page = by x refl
    where
      can : CanFault config a fields q x
      can = can_fault config past a seat f d q address before.formed (kept before) (right before) legal fields before.parts x (shown q address x page)

      by : (h : Page) → x ≡ h → MayChargeFault (role.Fault q address) h fields.pages fields.file
      by (Private p v) is = (can.page p v is, can.room p v is)
      by (Shared s i) is = tt
  may_charge (role.Near g) legal x page = tt
  may_charge (role.Come q address) legal x page = tt

  -- ---- the block
  home_told : (r : Role) → Legal r → (view : BlockView) × (home_in seen config store d ≡ Some view)
  home_told r legal = block_is_home config (open_flights past) (home_in seen config store) d before.bytes.homes (home_of r config past a seat.0 f.0 d legal.row)

  place : number_in store.ids d ≡ number_of config d
  place = ap (λ (ids : List BlockId). number_in ids d) before.places.ids

  home_here : (r : Role) → Legal r → (held : B) × (held_at store.blocks (number_in store.ids d) ≡ Some held)
  home_here r legal =
      let told = home_told r legal in
      let found = none_mapped seen (block_at config store.blocks d) told.0 told.1 in
      (found.0, ap (held_at store.blocks) place ∙ found.1)

  home_as : (held : B) → held_at store.blocks (number_in store.ids d) ≡ Some held → home_in seen config store d ≡ Some (seen held)
  home_as held is = ap (option_map seen) (sym (ap (held_at store.blocks) place) ∙ is)

  module _ (r : Role) (legal : Legal r) where
    abbrev e : Entry
    e = entry r

    pub has_page : IsSome (page_read config fields.sections r)
    has_page = some_page r legal

    pub block_here : IsSome (held_at store.blocks (number_in store.ids d))
    block_here = subst IsSome (sym (home_here r legal).1) refl

    known : IsBlock config d
    known = (home_of r config past a seat.0 f.0 d legal.row).exists

    free : a.state f.0 ≡ state.Free
    free = (free_is config past a f.0 (kept before) (head_counts a.free f.0 (head_of r config past a seat.0 f.0 d legal.row).head)).state

    within : f.0 < config.frames
    within = (free_is config past a f.0 (kept before) (head_counts a.free f.0 (head_of r config past a seat.0 f.0 d legal.row).head)).within

    pub frame_there : f.0 < length store.buffers
    frame_there = let count = before.places.buffers in omega (arith, within, count)

    pub buffer_here : IsSome (held_at store.buffers f.0)
    buffer_here =
        let home = buffer_home config a.state (held_at store.buffers) f.0 before.bytes.buffers within (ap (is state.Reading) free) in
        subst IsSome (sym home.1) refl

    module _ (x : Page) (page : page_read config fields.sections r ≡ Some x) where
      pub can : CanRead config fields seat.0 f.0 x
      can = can_read config past a seat f d r before.formed (kept before) (right before) legal fields before.parts x (readable r legal x page)

      pub still : fields.starts ≡ store.flights → held_at store.flights f.0 ≡ None
      still same = subst (λ (starts : List (Option ℕ)). held_at starts f.0 ≡ None) same can.still

      section_number : (s : SecId) (i : ℕ) → x ≡ Shared s i → first.IsNumbered config numbers s.0 i
      section_number s i same =
          let there = (readable r legal x page).section s i same in
          first.numbered config numbers s.0 i before.formed there (before.places.firsts s.0 (slice_get_within config.sections s.0 there.0 there.1))

      pub number_there : HasNumber numbers x
      number_there = by x refl
        where
          by : (h : Page) → x ≡ h → HasNumber numbers h
          by (Private p v) same = tt
          by (Shared s i) same = let its = section_number s i same in (its.there, its.few)

      number_is : number_by numbers x ≡ page_number_of config x
      number_is = by x refl
        where
          by : (h : Page) → x ≡ h → number_by numbers h ≡ page_number_of config h
          by (Private p v) same = refl
          by (Shared s i) same = (section_number s i same).number

      pub may_hold : (n : ℕ) → n ≡ number_by numbers x → MayHold fields.tables fields.globals f.0 n x
      may_hold n is = by x refl
        where
          by : (h : Page) → x ≡ h → MayHold fields.tables fields.globals f.0 n h
          by (Private p v) same = (can.mapped p v same, let small = can.number in omega (arith, small))
          by (Shared s i) same =
              let there = can.global s i same in
              let named : n ≡ section_page_number config s.0 i = is ∙ (number_is ∙ ap (page_number_of config) same) in
              omega (arith, there, named)

      pub global_held : (n : ℕ) → n ≡ number_by numbers x → (globals' : GlobalPages) → globals' ≡ page_held_at x n f.0 fields.globals → globals' ≡ held_in config x f.0 fields.globals
      global_held n is globals' held = held ∙ ap (λ (k : ℕ). page_held_at x k f.0 fields.globals) (is ∙ number_is)

      -- ---- all parts after it
      module _ (frames' : Frames) (tables' : PageTables) (globals' : GlobalPages) (rows' : List ProcessRow) (pages' : ChargedTable) (file' : Blocks) (n : ℕ) (read : n ≡ slice_index_or fields.busy seat.0 n) where
        abbrev after_parts : Role → List (Option ℕ) → Parts
        after_parts role' starts = record fields {
          frames = frames';
          starts = starts;
          roles = slice_set fields.roles f.0 (Some role');
          processes = rows';
          tables = tables';
          pages = pages';
          globals = globals';
          file = file';
          busy = slice_set fields.busy seat.0 (n + 1);
          in_flight = fields.in_flight + 1;
        }

        parts_by : (r' : Role) (legal' : Legal r') → page_read config fields.sections r' ≡ Some x → IsReadBegun config fields f.0 x frames' tables' globals' → CountsFault r' fields.processes rows' → ChargesFault r' x fields.pages pages' fields.file file'
            → PartsFit config (entry r' ∷ past) (after config past a (entry r')) (after_parts r' (slice_set fields.starts f.0 (Some (length past + 1))))
        parts_by (role.Fault q address) legal' page' moved counts charges =
            rw counts.2 (in_fault_parts config past a seat f d q address before.formed (kept before) (right before) legal' fields before.parts x (shown q address x page') frames' tables' globals' moved
            counts.0 (sym (get_or_from_slice_get fields.processes q.0 counts.0 counts.0 counts.1)) pages' charges.rows file' charges.charge n read)
        parts_by (role.Near g) legal' page' moved counts charges =
            let same : g ≡ x = same_Some _ _ page' in
            rw (counts, charges.0, charges.1) (in_near_parts config past a seat f d g before.formed (kept before) (right before) legal' fields before.parts frames' tables' globals' (subst (λ (h : Page). IsReadBegun config fields f.0 h frames' tables' globals') (sym same) moved) n read)
        parts_by (role.Come q address) legal' page' moved counts charges =
            rw (counts, charges.0, charges.1) (in_come_parts config past a seat f d q address before.formed (kept before) (right before) legal' fields before.parts x (shown q address x page') frames' tables' globals' moved n read)

        -- ---- the store after it
        abbrev store_after : StoreView B
        store_after = lifted_in (record store { frames = frames' }) f.0 d (length past + 1)

        block_away : PutsBlock d None (home_in seen config store) (home_in seen config store_after)
        block_away =
            subst (λ (k : ℕ). PutsBlock d None (home_in seen config store) (λ (b : BlockId). option_map seen (block_at config (slice_set store.blocks k None) b)))
            (sym place)
            (record {
              here = ap (option_map seen) (block_set config store.blocks before.places.blocks d known None);
              others = λ c apart. ap (option_map seen) (block_kept config store.blocks before.places.blocks d known None c apart);
            })

        places : IsStoreOf config (open_flights (e ∷ past)) store_after numbers
        places = record {
          ids = before.places.ids;
          buffers = length-set store.buffers f.0 None ∙ before.places.buffers;
          blocks = length-set store.blocks (number_in store.ids d) None ∙ before.places.blocks;
          left = before.places.left;
          firsts = before.places.firsts;
          size = before.places.size;
        }

        closes_here : fields.starts ≡ store.flights → owed (e ∷ past) + 1 ≤ spare → IsReadBegun config fields f.0 x frames' tables' globals' → CountsFault r fields.processes rows' → ChargesFault r x fields.pages pages' fields.file file'
            → IsState seen tells config (e ∷ past) (spare - 1) store_after (after_parts r (slice_set store.flights f.0 (Some (length past + 1)))) numbers
        closes_here same paid moved counts charges =
            subst (λ (starts : List (Option ℕ)). IsState seen tells config (e ∷ past) (spare - 1) store_after (after_parts r (slice_set starts f.0 (Some (length past + 1)))) numbers) same
            (closed before e (λ told. tt) legal paid store_after _ (parts_by r legal page moved counts charges)
            (list_puts_buffer store.buffers f.0 None frame_there, block_away) places)

        -- with the store that the call leaves
        pub begin_closes : fields.starts ≡ store.flights → owed (e ∷ past) + 1 ≤ spare → IsReadBegun config fields f.0 x frames' tables' globals' → CountsFault r fields.processes rows' → ChargesFault r x fields.pages pages' fields.file file'
            → (start : ℕ) → start ≡ length past + 1 → (store' : StoreView B) → store' ≡ lifted_in (record store { frames = frames' }) f.0 d start
            → IsState seen tells config (e ∷ past) (spare - 1) store' (record fields {
              frames = store'.frames;
              starts = store'.flights;
              roles = slice_set fields.roles f.0 (Some r);
              processes = rows';
              tables = tables';
              pages = pages';
              globals = globals';
              file = file';
              busy = slice_set fields.busy seat.0 (n + 1);
              in_flight = fields.in_flight + 1;
            }) numbers
        begin_closes same paid moved counts charges start start_is store' store_is =
            subst (λ (s : StoreView B). IsState seen tells config (e ∷ past) (spare - 1) s (record fields {
              frames = s.frames;
              starts = s.flights;
              roles = slice_set fields.roles f.0 (Some r);
              processes = rows';
              tables = tables';
              pages = pages';
              globals = globals';
              file = file';
              busy = slice_set fields.busy seat.0 (n + 1);
              in_flight = fields.in_flight + 1;
            }) numbers) (sym (store_is ∙ ap (λ (k : ℕ). lifted_in (record store { frames = frames' }) f.0 d k) start_is)) (closes_here same paid moved counts charges)

      -- ---- the lift
      fits_read : (bytes : List ℕ) (held : B) → held_at store.blocks (number_in store.ids d) ≡ Some held
          → FitsLift tells.content tells.plan config (e ∷ past) (pager_after config (e ∷ past)) (read_lift past f.0 d x bytes (seen held))
      fits_read bytes held is =
          read_begins tells.content tells.plan config past seat f d r x bytes (seen held) (held_at store.buffers) (home_in seen config store)
          before.formed (before.run, legal) (page_after r x page) (home_as held is) before.bytes

      pub few : owed (e ∷ past) + 1 ≤ spare → (held : B) → held_at store.blocks (number_in store.ids d) ≡ Some held → (seen held).reads + (seen held).writes < 2 ^ 48
      few paid held is =
          let calls = few_calls tells.content tells.plan config (e ∷ past) (pager_after config (e ∷ past)) (read_lift past f.0 d x [] (seen held)) (fits_read [] held is) refl in
          let short = before.short in
          omega (arith, paid, calls, short)

      pub lift_begun : (lift : LiftView B) (start : ℕ) (pool : PoolName) → lift ≡ begun pool seat x f.0 d start true lift.buffer lift.held → start ≡ length past + 1 → lift ≡ begun pool seat lift.page f.0 d (length past + 1) true lift.buffer lift.held
      lift_begun lift start pool is start_is =
          let own : x ≡ lift.page = sym (ap (λ (l : LiftView B). l.page) is) in
          is ∙ (λ i. begun pool seat (own i) f.0 d (start_is i) true lift.buffer lift.held)

      pub lift_fits : (lift : LiftView B) (start : ℕ) (pool : PoolName) → lift ≡ begun pool seat x f.0 d start true lift.buffer lift.held → start ≡ length past + 1 → held_at store.blocks (number_in store.ids d) ≡ Some lift.held
          → LiftFits seen tells config (e ∷ past) lift
      lift_fits lift start pool is start_is held =
          subst (LiftFits seen tells config (e ∷ past))
          (sym (is ∙ ap (λ (k : ℕ). begun pool seat x f.0 d k true lift.buffer lift.held) start_is))
          (fits_read lift.buffer lift.held held)

    -- ---- the others
    pub other_fits : (lift : LiftView B) → LiftFits seen tells config past lift → LiftFits seen tells config (e ∷ past) lift
    other_fits lift fit = lifts_stay tells.content tells.plan config past e (lift_seen seen lift) before.formed (before.run, legal) refl fit
