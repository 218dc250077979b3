-- A coming process's page comes to its slot.
use Rattle.pager_rules.proofs.Quiet.{none_failed}
use Rattle.std.proofs.Common.{◌&&◌, ◌≡◌, ◌⊎◌, ℕ, zero, suc, ◌<◌, ◌≤◌, Bool, true, false, cond, List, ◌∷◌, Option, Some, None, length, nat_eq, count_by, slice_get, refl, sym, ap, ◌∙◌, subst, subst₂, inl, inr, arith, length-set}
use Rattle.std.specs.List.{AllByRecursion}
use Rattle.std.proofs.lemmas.Bool.{cases_eq, ne_eqb, eqb-true, eq-eqb, and_left, and_parts, or_left, true≢false, false≢true}
use Rattle.std.proofs.lemmas.Option.{none-some, slice_get-get_or}
use Rattle.vm_types.specs.Same.{same_page}
use Rattle.vm_types.specs.Ring.{Ring, Held, fresh_slot, is_fixed_slot, is_pinned_slot}
use Rattle.vm_types.specs.declared.names.Page.{Page}
use Rattle.vm_types.specs.declared.names.Page.TheVariants.{Private, Shared}
use Rattle.vm_types.specs.declared.names.BlockId.{BlockId}
use Rattle.vm_types.specs.declared.names.BlockId.TheVariants as block
use Rattle.vm_types.specs.declared.names.FrameState.{FrameState}
use Rattle.vm_types.specs.declared.names.FrameState.TheVariants as state
use Rattle.vm_types.specs.declared.names.ProcStatus.TheVariants as status
use Rattle.vm_types.specs.declared.config.Config.{Config}
use Rattle.vm_types.specs.declared.config.ProcSpec.{ProcSpec}
use Rattle.vm_journal.specs.declared.entry.Role.TheVariants as role
use Rattle.page_lists.specs.Lists.{count_of}
use Rattle.pager_model.specs.Around.{FrameView, block_view, entry_view, frame_view, page_view, process_view, quiet}
use Rattle.pager_model.specs.Changes.{valid_at}
use Rattle.pager_model.specs.Flights.{Direction, Flight, reading, writing}
use Rattle.pager_model.specs.Lookups.{count_page, entries_at, has_pin, has_vpn, is_entry, is_of, page_by, shares, slot_of}
use Rattle.pager_model.specs.Maps.{is_private, proc}
use Rattle.pager_model.specs.Opening.{is_bad}
use Rattle.pager_model.specs.Pager.{Pager, Valid}
use Rattle.pager_model.specs.Ring.{slotted}
use Rattle.pager_model.specs.Sets.{at_number, at_page}
use Rattle.pager_model.specs.Sound.{FitsSlot, HasSwapped, IsSwapped, MayHoldSwapped, pins_of_page}
use Rattle.pager_model.specs.Transfers.{faults_of, is_fault, is_fault_of, reads_on, writes_on}
use Rattle.pager_rules.proofs.Basics.{at_number_other, at_number_same, count_cons_no, count_cons_yes, nat_eq_refl, pages_equal, same_page_refl}
use Rattle.pager_rules.proofs.Frames.{from_state}
use Rattle.pager_rules.proofs.Lists.{all_found, all_step, count_found, count_written, found_one, found_passes, slot_unchanged}
use Rattle.pager_rules.proofs.Pages.{own_is}
use Rattle.pager_rules.proofs.PlacedRing.{IsPlaced}
use Rattle.pager_rules.proofs.Put.{lies_other, lies_same, page_apart, unsaved_move}
use Rattle.pager_rules.proofs.Rings.{entries_add, placed_process}
use Rattle.pager_rules.proofs.Transfers.{IsApart, alike, flight_apart, on_frame}
use Rattle.pager_rules.proofs.Views.{frames_move, pages_move}
use Rattle.pager_rules.specs.Kept.{FitsBlock, FitsDirection, FitsFlight, FitsFrame, FitsPage, FitsProcess, HasUnsaved, IsForItsPage, IsInFrame, IsKept, saves, views}
use Rattle.pager_rules.proofs.Pins.{pins_of_less}

-- a page in a frame without shares has no entry
pub idle_entry : (config : Config) (a : Pager) (kept_once : (f g : ℕ) (y : Page) → a.page f ≡ Some y → a.page g ≡ Some y → f ≡ g) (p v f : ℕ) (g : Page) → page_by config a.map p v ≡ Some g → a.page f ≡ Some g → shares a.valid f ≡ 0
    → AllByRecursion (IsForItsPage config a.map a.page) a.valid → entries_at a.valid p v ≡ 0
idle_entry config a once p v f g own held none all = go (entries_at a.valid p v) refl
  where
    go : (n : ℕ) → entries_at a.valid p v ≡ n → entries_at a.valid p v ≡ 0
    go zero e = e
    go (suc n) e =
        let found = found_one (is_entry p v) a.valid (omega arith) in
        let fits = all_found (IsForItsPage config a.map a.page) (is_entry p v) a.valid found.0 all found.1 in
        let parts = and_parts (nat_eq (found.0).proc p) (nat_eq (found.0).vpn v) (found_passes (is_entry p v) a.valid found.0 found.1) in
        let there : page_by config a.map p v ≡ Some fits.0 = subst₂ (λ (q w : ℕ). page_by config a.map q w ≡ Some fits.0) (eqb-true _ _ parts.0) (eqb-true _ _ parts.1) fits.1 in
        let frame : (found.0).frame ≡ f = once (found.0).frame f g (fits.2 ∙ (sym there ∙ own)) held in
        let some = count_found (λ (y : Valid). nat_eq y.frame f) (is_entry p v) a.valid found.0 found.1 (eq-eqb _ _ frame) in
        absurd (omega arith)

no_pin : (b : Bool) → cond {A = ℕ} (b && false) 1 0 ≡ 0
no_pin true = refl
no_pin false = refl

-- the frame that it is in, on its way from the free list or from its read
pub record IsArriving (config : Config) (flights rest : List Flight) (a : Pager) (free : List ℕ) (f : ℕ) : Type 0 where
  pub bad : is_bad config f ≡ false
  pub on_free : count_of free f ≡ 0
  pub on_modified : count_of a.modified f ≡ 0
  pub shares : shares a.valid f ≡ 0
  pub reads : reads_on f rest ≡ 0
  pub writes : writes_on f rest ≡ 0
  pub free_there : (h : ℕ) → (f ≡ h → ⊥) → count_of free h ≡ count_of a.free h
  pub reads_there : (h : ℕ) → (f ≡ h → ⊥) → reads_on h rest ≡ reads_on h flights
  pub writes_there : (h : ℕ) → (f ≡ h → ⊥) → writes_on h rest ≡ writes_on h flights

module _ (config : Config) (a : Pager) (flights rest : List Flight) (free : List ℕ) (p v f n : ℕ) (y : Page)
    (kept : IsKept config (quiet flights) a) (coming : a.status p ≡ status.Coming) (own : page_by config a.map p v ≡ Some y) (holds : a.page f ≡ Some y)
    (lies : a.lies y ≡ Some (block.Swap (proc p) n)) (arriving : IsArriving config flights rest a free f) where
  swap : IsSwapped a.lies a.status a.ring a.state a.page y p n
  swap = kept.swapped y p n lies

  private : (z : Page) → is_of p z ≡ true → is_private z ≡ true
  private (Private r w) is = refl
  private (Shared s i) is = absurd (false≢true is)

  y_is : y ≡ Private (proc p) v
  y_is = own_is config a.map p v y own (private y swap.own)

  abbrev old : ℕ → FrameView
  old = frame_view config (quiet flights) a

  none : entries_at a.valid p v ≡ 0
  none = idle_entry config a kept.held_once p v f y own holds arriving.shares kept.valid

  -- the slot is there and empty
  empty : slice_get (a.ring p).slots n ≡ Some None
  empty = go (slice_get (a.ring p).slots n) refl swap.slot
    where
      go : (o : Option (Option Held)) → slice_get (a.ring p).slots n ≡ o → FitsSlot p (slot_of (slice_get (a.ring p).slots n)) y → slice_get (a.ring p).slots n ≡ Some None
      go None is fits = let in_range = slice_get-get_or (a.ring p).slots n None swap.within in absurd (none-some _ (sym is ∙ in_range))
      go (Some None) is fits = is
      go (Some (Some held)) is fits =
          let there : FitsSlot p (Some held) (Private (proc p) v) = subst₂ (λ (o : Option (Option Held)) (z : Page). FitsSlot p (slot_of o) z) is y_is fits in
          let whole = count_written (has_vpn v) (a.ring p).slots n (Some held) None is in
          let one = ap (λ (b : Bool). cond {A = ℕ} b 1 0) (eq-eqb held.vpn v there.1) in
          absurd (omega (arith, (kept.entries p v).slots, none))

  abbrev new : Ring
  new = slotted (a.ring p) n v

  abbrev b : Pager
  b = record a {
    state = at_number a.state f state.Active;
    modify = at_number a.modify f true;
    free = free;
    ring = at_number a.ring p new;
    valid = valid_at p v f ∷ a.valid;
    lies = at_page a.lies y None;
  }

  is_placed : IsPlaced (a.ring p) new v
  is_placed = record {
    vpns = λ w. let whole = count_written (has_vpn w) (a.ring p).slots n None (fresh_slot v) empty in omega arith;
    pins = λ w. let whole = count_written (has_pin w) (a.ring p).slots n None (fresh_slot v) empty in let off = no_pin (nat_eq v w) in omega arith;
    locks = let whole = count_written is_fixed_slot (a.ring p).slots n None (fresh_slot v) empty in omega arith;
    pinned = let whole = count_written is_pinned_slot (a.ring p).slots n None (fresh_slot v) empty in omega arith;
    slots = length-set (a.ring p).slots n (fresh_slot v);
    hand = hand (slice_get config.procs p) refl;
  }
    where
      hand : (o : Option ProcSpec) → slice_get config.procs p ≡ o → (a.ring p).hand < length (a.ring p).slots
      hand None is = absurd (omega (arith, (kept.processes p).none is, swap.within))
      hand (Some spec) is = let bounds = (kept.processes p).bounds spec is in omega (arith, bounds.hand, bounds.slots)

  here : FitsFrame (frame_view config (quiet rest) b f)
  here = from_state (frame_view config (quiet rest) b f) state.Active (at_number_same a.state f state.Active) (record {
    bad = arriving.bad;
    on_free = arriving.on_free;
    on_modified = arriving.on_modified;
    shares = omega (arith, count_cons_yes (λ (e : Valid). nat_eq e.frame f) (valid_at p v f) a.valid (nat_eq_refl f));
    reads = arriving.reads;
    writes = omega (arith, arriving.writes);
    failed = refl;
    page = (y, holds);
    mark = tt;
  })

  there : (h : ℕ) → (f ≡ h → ⊥) → frame_view config (quiet rest) b h ≡ old h
  there h apart =
      let state_is = at_number_other a.state f state.Active h apart in
      let modify_is = at_number_other a.modify f true h apart in
      let shares_is = count_cons_no (λ (e : Valid). nat_eq e.frame h) (valid_at p v f) a.valid (ne_eqb f h apart) in
      let free_is = arriving.free_there h apart in
      let reads_is = arriving.reads_there h apart in
      let writes_is = arriving.writes_there h apart in
      cc

  process_there : (r : ℕ) → (p ≡ r → ⊥) → process_view config b r ≡ process_view config a r
  process_there r apart = let ring_is = at_number_other a.ring p new r apart in cc

  process_here : FitsProcess (process_view config b p)
  process_here = subst (λ (r : Ring). FitsProcess (record (process_view config a p) { ring = r })) (sym (at_number_same a.ring p new)) (placed_process (process_view config a p) new v is_placed (λ gone. cc coming) (kept.processes p))

  page_there : (g : Page) → same_page g y ≡ false → page_view config b g ≡ page_view config a g
  page_there g apart = let lies_is = lies_other a.lies y g None apart in cc

  page_here : FitsPage y (page_view config b y)
  page_here =
      let page = kept.pages y in
      subst (λ (o : Option BlockId). FitsPage y (record (page_view config a y) { lies = o })) (sym (lies_same a.lies y None)) (record {
        paged = page.paged;
        charged = page.charged;
        touched = page.touched;
        blocks = page.blocks;
        mapped = page.mapped;
        lying = λ d paged lies. absurd (none-some d lies);
        in_file = λ m lies. absurd (none-some _ lies);
        not_in_section = λ s i private lies. none-some _ lies;
        shared = λ s i is file. absurd (false≢true (ap is_private (sym is) ∙ private y swap.own));
      })

  unsaved : HasUnsaved config (quiet rest) b
  unsaved = unsaved_move config (quiet flights) (quiet rest) a b f there step kept.unsaved
    where
      step : (g : Page) → 0 < count_page a.charged g → b.lies g ≡ None → IsInFrame config (quiet rest) b g ⊎ ((0 < count_page a.charged g) × (a.lies g ≡ None) × (a.page f ≡ Some g → saves (old f) ≡ true → IsInFrame config (quiet rest) b g))
      step g some nowhere = go (same_page g y) refl
        where
          go : (c : Bool) → same_page g y ≡ c → IsInFrame config (quiet rest) b g ⊎ ((0 < count_page a.charged g) × (a.lies g ≡ None) × (a.page f ≡ Some g → saves (old f) ≡ true → IsInFrame config (quiet rest) b g))
          go true same = inl (f, holds ∙ ap Some (sym (pages_equal g y same)), or_left _ _ (at_number_same a.modify f true))
          go false apart = inr (some, sym (lies_other a.lies y g None apart) ∙ nowhere, λ held saved. (f, held, or_left _ _ (at_number_same a.modify f true)))

  swapped : HasSwapped b.lies a.status b.ring b.state a.page
  swapped g r m lies_g = go (same_page g y) refl
    where
      go : (c : Bool) → same_page g y ≡ c → IsSwapped b.lies a.status b.ring b.state a.page g r m
      go true same = absurd (none-some _ (sym (lies_same a.lies y None) ∙ (ap b.lies (sym (pages_equal g y same)) ∙ lies_g)))
      go false apart = record {
        own = was.own;
        away = was.away;
        alone = λ other same. alone other same (same_page other y) refl;
        within = (slots (cases_eq p r)).0;
        slot = (slots (cases_eq p r)).1;
        unpinned = pins (cases_eq p r);
        frame = λ h held. frame h held (cases_eq f h);
      }
        where
          lies_was : a.lies g ≡ Some (block.Swap (proc r) m)
          lies_was = sym (lies_other a.lies y g None apart) ∙ lies_g

          was : IsSwapped a.lies a.status a.ring a.state a.page g r m
          was = kept.swapped g r m lies_was

          not_y : g ≡ y → ⊥
          not_y same = true≢false (sym (ap (λ (z : Page). same_page z y) same ∙ same_page_refl y) ∙ apart)

          alone : (other : Page) → b.lies other ≡ b.lies g → (c : Bool) → same_page other y ≡ c → other ≡ g
          alone other same true e = absurd (none-some _ (sym (lies_same a.lies y None) ∙ (ap b.lies (sym (pages_equal other y e)) ∙ (same ∙ lies_g))))
          alone other same false e = was.alone other (sym (lies_other a.lies y other None e) ∙ (same ∙ lies_other a.lies y g None apart))

          apart_slot : p ≡ r → n ≡ m → ⊥
          apart_slot same slot = not_y (swap.alone g (lies_was ∙ sym (lies ∙ λ i. Some (block.Swap (proc (same i)) (slot i)))))

          slots : (p ≡ r) ⊎ (p ≡ r → ⊥) → (m < length (b.ring r).slots) × FitsSlot r (slot_of (slice_get (b.ring r).slots m)) g
          slots (inr far) = let ring_is = sym (at_number_other a.ring p new r far) in (subst (λ (o : Ring). m < length o.slots) ring_is was.within, subst (λ (o : Ring). FitsSlot r (slot_of (slice_get o.slots m)) g) ring_is was.slot)
          slots (inl same) =
              let ring_is : new ≡ b.ring r = sym (subst (λ (j : ℕ). at_number a.ring p new j ≡ new) same (at_number_same a.ring p new)) in
              let here : m < length (a.ring p).slots = subst (λ (j : ℕ). m < length (a.ring j).slots) (sym same) was.within in
              let slot : FitsSlot r (slot_of (slice_get (a.ring p).slots m)) g = subst (λ (j : ℕ). FitsSlot r (slot_of (slice_get (a.ring j).slots m)) g) (sym same) was.slot in (
                subst (λ (o : Ring). m < length o.slots) ring_is (omega (arith, is_placed.slots)),
                subst (λ (o : Ring). FitsSlot r (slot_of (slice_get o.slots m)) g) ring_is (subst (λ (o : Option (Option Held)). FitsSlot r (slot_of o) g) (sym (slot_unchanged (a.ring p).slots n m (fresh_slot v) (apart_slot same))) slot),
              )

          pins : (p ≡ r) ⊎ (p ≡ r → ⊥) → pins_of_page (b.ring r) g ≡ 0
          pins (inr far) = subst (λ (o : Ring). pins_of_page o g ≡ 0) (sym (at_number_other a.ring p new r far)) was.unpinned
          pins (inl same) =
              let ring_is : new ≡ b.ring r = sym (subst (λ (j : ℕ). at_number a.ring p new j ≡ new) same (at_number_same a.ring p new)) in
              let before : pins_of_page (a.ring p) g ≡ 0 = subst (λ (j : ℕ). pins_of_page (a.ring j) g ≡ 0) (sym same) was.unpinned in
              subst (λ (o : Ring). pins_of_page o g ≡ 0) ring_is (pins_of_less g (a.ring p) new (λ w. omega (arith, is_placed.pins w)) before)

          frame : (h : ℕ) → a.page h ≡ Some g → (f ≡ h) ⊎ (f ≡ h → ⊥) → MayHoldSwapped (b.state h) (a.status r)
          frame h held (inl same) = absurd (let own_page = ap a.page same ∙ held in not_y (cc (own_page, holds)))
          frame h held (inr other) = subst (λ (s : FrameState). MayHoldSwapped s (a.status r)) (sym (at_number_other a.state f state.Active h other)) (was.frame h held)

  apart : IsApart (views config a) (views config b) p
  apart = record {
    not_leaving = λ leaving. cc coming;
    status = λ r. refl;
    process = process_there;
    entries = λ r w far. count_cons_no (is_entry r w) (valid_at p v f) a.valid (and_left _ _ (ne_eqb p r far));
    mapped = λ r w far. refl;
  }

  -- a FAULT read of p's seat wants a resident process
  not_fault : (z : Flight) → FitsFlight (views config a) z → is_fault_of p z ≡ false
  not_fault z fit = go (is_fault_of p z) refl
    where
      by : (d : Direction) → is_fault d ≡ true → FitsDirection z fit.page (page_view config a fit.page) (process_view config a) (entry_view config a) d → z.seat ≡ p → ⊥
      by (reading (role.Fault r there)) is old seat = let resident = ap a.status (sym seat ∙ old.1.0) ∙ old.1.1 in cc
      by (reading (role.Near near)) is old seat = false≢true is
      by (reading (role.Come r there)) is old seat = false≢true is
      by writing is old seat = false≢true is

      go : (c : Bool) → is_fault_of p z ≡ c → is_fault_of p z ≡ false
      go false is = is
      go true is = let parts = and_parts (nat_eq z.seat p) (is_fault z.direction) is in absurd (by z.direction parts.1 fit.fits (eqb-true _ _ parts.0))

  other_page : (h : ℕ) (z : Page) → (f ≡ h → ⊥) → a.page h ≡ Some z → same_page z y ≡ false
  other_page h z far held = page_apart z y (λ same. far (kept.held_once f h y holds (held ∙ ap Some same)))

  elsewhere : (z : Flight) → ((t : Flight → Bool) → t z ≡ true → 0 < count_by t rest) → f ≡ z.frame → ⊥
  elsewhere z counts same = omega (arith, on_frame z rest counts f (sym same), arriving.reads, arriving.writes)

  pub came_in : ((d : BlockId) → FitsBlock (block_view (quiet rest) a d)) → AllByRecursion (FitsFlight (views config a)) rest → ((s : ℕ) → faults_of s rest ≤ 1) → IsKept config (quiet rest) b
  came_in blocks transfers one_fault = record {
    frames = frames_move FitsFrame old (frame_view config (quiet rest) b) f there here kept.frames;
    processes = frames_move FitsProcess (process_view config a) (process_view config b) p process_there process_here kept.processes;
    entries = entries_add config a.map a.status a.ring a.valid p v f new is_placed (λ g coming mine. let same : y ≡ g = cc (own, mine) in subst (λ (z : Page). is_private z ≡ true) same (private y swap.own)) none kept.entries;
    valid = ((y, own, holds), kept.valid);
    pages = pages_move FitsPage (page_view config a) (page_view config b) y page_there page_here kept.pages;
    blocks = blocks;
    fit = kept.fit;
    held_once = kept.held_once;
    held_charged = kept.held_charged;
    unsaved = unsaved;
    swapped = swapped;
    coming_once = kept.coming_once;
    transfers = all_step (FitsFlight (views config a)) (FitsFlight (views config b)) rest
        (λ z counts fit. flight_apart (views config a) (views config b) p apart z (not_fault z fit) refl (λ g held. alike _ _ _ (page_there g (other_page z.frame g (elsewhere z counts) held))) fit)
        transfers;
    one_fault = one_fault;
    failed = none_failed _ _;
  }
