-- OUTOK.
use Rattle.std.proofs.Common.{◌≡◌, ◌⊎◌, ℕ, ◌+◌, ◌<◌, ◌≤◌, Bool, true, false, cond, not, ◌&&◌, List, ◌∷◌, Option, Some, None, find, nat_eq, count_by, slice_get, refl, sym, ap, ◌∙◌, subst, subst₂, inl, inr, arith}
use Rattle.std.specs.List.{AllByRecursion}
use Rattle.std.proofs.lemmas.Bool.{cases_eq, ne_eqb, eqb-true, eqb-false, and_from, and_left, or_left, true≢false, false≢true}
use Rattle.std.proofs.lemmas.Option.{none-some, slice_get_within}
use Rattle.vm_types.specs.Same.{same_page}
use Rattle.vm_types.specs.Ring.{Held, Ring}
use Rattle.vm_types.specs.declared.names.Page.{Page}
use Rattle.vm_types.specs.declared.names.Proc.{Proc}
use Rattle.vm_types.specs.declared.names.SecId.{SecId}
use Rattle.vm_types.specs.declared.names.Page.TheVariants.{Private, Shared}
use Rattle.vm_types.specs.declared.names.Pfn.{Pfn}
use Rattle.vm_types.specs.declared.names.Seat.{Seat}
use Rattle.vm_types.specs.declared.names.BlockId.{BlockId}
use Rattle.vm_types.specs.declared.names.BlockId.TheVariants as block
use Rattle.vm_types.specs.declared.names.FrameState.{FrameState}
use Rattle.vm_types.specs.declared.names.FrameState.TheVariants as state
use Rattle.vm_types.specs.declared.names.ProcStatus.{ProcStatus}
use Rattle.vm_types.specs.declared.names.ProcStatus.TheVariants as status
use Rattle.vm_types.specs.declared.config.Config.{Config}
use Rattle.vm_journal.specs.declared.entry.Entry.{Entry}
use Rattle.vm_journal.specs.declared.entry.What.TheVariants as what
use Rattle.pager_model.specs.Around.{FrameView, entry_view, frame_view, page_view, past_view, process_view, quiet}
use Rattle.pager_model.specs.Changes.{is_section_block, pushed_if, settled_to}
use Rattle.pager_model.specs.Flights.{Direction, Flight, is_reading, open_flights, without_flight, writing}
use Rattle.pager_model.specs.Lookups.{count_page, is, is_of, shares, slot_of, slots_with}
use Rattle.pager_model.specs.Maps.{is_paged, is_private, proc}
use Rattle.pager_model.specs.OutLanding.{IsOutOk, after_out_ok, lies_at}
use Rattle.pager_model.specs.Pager.{Pager}
use Rattle.pager_model.specs.Sets.{at_number, at_page}
use Rattle.pager_model.specs.Sound.{FitsSlot, HasSwapped, IsSwapped, MayHoldSwapped, is_out_state, pins_of_page}
use Rattle.pager_model.specs.Transfers.{is_fault_of, is_on_block, is_read_on, is_write_on, reads_on, starts, writes_on}
use Rattle.pager_rules.proofs.Basics.{at_number_other, at_number_same, nat_eq_refl, pages_equal, same_page_refl}
use Rattle.pager_rules.proofs.Frames.{active_frame, at_state, from_state}
use Rattle.pager_rules.proofs.Lists.{all_filter, all_found, all_step, count_filter_le, count_removed_no, count_removed_yes}
use Rattle.pager_rules.proofs.Pages.{swapped_frame}
use Rattle.pager_rules.proofs.Put.{has_block, lies_other, lies_same, page_apart, pushed_other, pushed_same, unsaved_move}
use Rattle.pager_rules.proofs.Quiet.{none_failed, starts_once}
use Rattle.pager_rules.proofs.Transfers.{alike, flight_same, on_frame}
use Rattle.pager_rules.proofs.Views.{frames_move, pages_move}
use Rattle.pager_rules.specs.Kept.{FitsDirection, FitsFlight, FitsFrame, FitsPage, FitsWrite, HasUnsaved, IsInFrame, IsKept, saves, views}
use Rattle.pager_rules.proofs.Pins.{unpinned_there}

-- ---- a frame that is written
record IsWritten (x : FrameView) : Type 0 where
  bad : x.bad ≡ false
  on_free : x.on_free ≡ 0
  on_modified : x.on_modified ≡ 0
  reads : x.reads ≡ 0
  writes : x.writes ≡ 1
  unlisted : x.shares ≡ 0 → (s : ProcStatus) → MayHoldSwapped x.state s → ⊥

written_frame : (x : FrameView) → FitsFrame x → 0 < x.writes → IsWritten x
written_frame x fits some = go x.state refl
  where
    no : (s : ProcStatus) (b : Bool) (c : Bool) → b ≡ false → c ≡ false → (b ≡ true) ⊎ ((s ≡ status.Leaving) × (c ≡ true)) → ⊥
    no s b c bf cf (inl out) = false≢true (sym bf ∙ out)
    no s b c bf cf (inr leaving) = false≢true (sym cf ∙ leaving.1)

    none : (s : FrameState) → x.state ≡ s → FitsFrame (record x { state = s })
    none s e = at_state x s e fits

    go : (s : FrameState) → x.state ≡ s → IsWritten x
    go state.Active e = let row = none state.Active e in record { bad = row.bad; on_free = row.on_free; on_modified = row.on_modified; reads = row.reads; writes = omega (arith, row.writes); unlisted = λ zero s may. omega (arith, row.shares) }
    go state.Writing e = let row = none state.Writing e in record { bad = row.bad; on_free = row.on_free; on_modified = row.on_modified; reads = row.reads; writes = row.writes; unlisted = λ zero s may. no s false false refl refl (subst (λ (t : FrameState). MayHoldSwapped t s) e may) }
    go state.ReleasePending e = let row = none state.ReleasePending e in record { bad = row.bad; on_free = row.on_free; on_modified = row.on_modified; reads = row.reads; writes = row.writes; unlisted = λ zero s may. no s false false refl refl (subst (λ (t : FrameState). MayHoldSwapped t s) e may) }
    go state.Free e = absurd (omega (arith, (none state.Free e).writes))
    go state.Modified e = absurd (omega (arith, (none state.Modified e).writes))
    go state.Bad e = absurd (omega (arith, (none state.Bad e).writes))
    go state.ReadError e = absurd (omega (arith, (none state.ReadError e).writes))
    go state.Reading e = absurd (omega (arith, (none state.Reading e).writes))

-- a slot holds one page
pub one_in_slot : (q : ℕ) (held : Held) (g h : Page) → FitsSlot q (Some held) g → FitsSlot q (Some held) h → g ≡ h
one_in_slot q held (Private p v) (Private r w) fits also =
    let first = fits.0 ∙ sym also.0 in
    let second = sym fits.1 ∙ also.1 in
    λ i. Private (record { 0 = first i }) (second i)
one_in_slot q held (Shared s i) h fits also = absurd fits
one_in_slot q held (Private p v) (Shared s i) fits also = absurd also

private_of : (q : ℕ) (g : Page) → is_of q g ≡ true → is_private g ≡ true
private_of q (Private p v) own = refl
private_of q (Shared s i) own = absurd (false≢true own)

-- a page of a section with a file lies in its block
pub shared_block : (config : Config) (a : Pager) (x : Page) (d : BlockId) → FitsPage x (page_view config a x) → is_paged config x ≡ false → a.lies x ≡ Some d → is_section_block d ≡ true
shared_block config a (Private p v) d fits unpaged lies = absurd (true≢false unpaged)
shared_block config a (Shared s i) d fits unpaged lies = let there = fits.shared s i refl unpaged in let same : block.Section s i ≡ d = cc in ap is_section_block (sym same)

-- the page is in a leaving process's slot
record IsInSwap (a : Pager) (g : Page) (q n : ℕ) : Type 0 where
  own : is_of q g ≡ true
  leaving : a.status q ≡ status.Leaving
  held : Held
  slot : slice_get (a.ring q).slots n ≡ Some (Some held)
  fits : FitsSlot q (Some held) g
  unpinned : held.pinned ≡ false

-- such a page isn't pinned
not_pinned_in : (ring : Ring) (q n : ℕ) (g : Page) (held : Held) → ((v : ℕ) → slots_with ring v ≤ 1) → slice_get ring.slots n ≡ Some (Some held) → FitsSlot q (Some held) g → held.pinned ≡ false → pins_of_page ring g ≡ 0
not_pinned_in ring q n (Private p v) held once slot fits off = unpinned_there ring v n held (once v) slot fits.1 off
not_pinned_in ring q n (Shared s i) held once slot fits off = absurd fits

module _ (config : Config) (a : Pager) (flights : List Flight) (k : ℕ) (x : Flight)
    (kept : IsKept config (quiet flights) a) (found : find (starts k) flights ≡ Some x) (once : count_by (starts k) flights ≤ 1)
    (writes : x.direction ≡ writing) where
  abbrev f : ℕ
  f = x.frame

  abbrev rest : List Flight
  rest = without_flight k flights

  abbrev old : ℕ → FrameView
  old = frame_view config (quiet flights) a

  abbrev fit : FitsFlight (views config a) x
  fit = all_found (FitsFlight (views config a)) (starts k) flights x kept.transfers found

  abbrev g : Page
  g = fit.page

  fits : FitsWrite x g (page_view config a g) (process_view config a)
  fits = subst (FitsDirection x g (page_view config a g) (process_view config a) (entry_view config a)) writes fit.fits

  one_write : writes_on f flights ≡ 1 + writes_on f rest
  one_write = count_removed_yes (is_write_on f) (starts k) flights x found once (and_from _ _ (nat_eq_refl f) (ap (λ (d : Direction). not (is_reading d)) writes))

  was : IsWritten (old f)
  was = written_frame (old f) (kept.frames f) (omega (arith, one_write))

  -- u: no shares; m: the mark
  abbrev b : Bool → Bool → Pager
  b u m = record a {
    state = at_number a.state f (cond u (settled_to m) (a.state f));
    free = pushed_if (u && not m) a.free f;
    modified = pushed_if (u && m) a.modified f;
    lies = lies_at a.lies m (Some g) x.block;
  }

  abbrev now : Bool → Bool → ℕ → FrameView
  now u m = frame_view config (quiet rest) (b u m)

  reads_rest : reads_on f rest ≡ 0
  reads_rest = omega (arith, count_filter_le (is_read_on f) (λ (y : Flight). not (starts k y)) flights, was.reads)

  writes_rest : writes_on f rest ≡ 0
  writes_rest = omega (arith, one_write, was.writes)

  here : (u m : Bool) → nat_eq (shares a.valid f) 0 ≡ u → a.modify f ≡ m → FitsFrame (now u m f)
  here false m some mark =
      let more : 0 < shares a.valid f = omega (arith, eqb-false (shares a.valid f) 0 some) in
      from_state (now false m f) state.Active (at_number_same a.state f (a.state f) ∙ active_frame (old f) (kept.frames f) more) (record {
        bad = was.bad;
        on_free = was.on_free;
        on_modified = was.on_modified;
        shares = more;
        reads = reads_rest;
        writes = omega (arith, writes_rest);
        failed = refl;
        page = (g, fit.held);
        mark = tt;
      })
  here true true none mark = from_state (now true true f) state.Modified (at_number_same a.state f state.Modified) (record {
    bad = was.bad;
    on_free = was.on_free;
    on_modified = pushed_same a.modified f was.on_modified;
    shares = eqb-true (shares a.valid f) 0 none;
    reads = reads_rest;
    writes = writes_rest;
    failed = refl;
    page = (g, fit.held);
    mark = mark;
  })
  here true false none mark = from_state (now true false f) state.Free (at_number_same a.state f state.Free) (record {
    bad = was.bad;
    on_free = pushed_same a.free f was.on_free;
    on_modified = was.on_modified;
    shares = eqb-true (shares a.valid f) 0 none;
    reads = reads_rest;
    writes = writes_rest;
    failed = refl;
    page = tt;
    mark = mark;
  })

  there : (u m : Bool) (h : ℕ) → (f ≡ h → ⊥) → now u m h ≡ old h
  there u m h apart =
      let state_is = at_number_other a.state f (cond u (settled_to m) (a.state f)) h apart in
      let free_is = pushed_other (u && not m) a.free f h apart in
      let modified_is = pushed_other (u && m) a.modified f h apart in
      let reads_is = count_removed_no (is_read_on h) (starts k) flights x found once (and_left _ _ (ne_eqb f h apart)) in
      let writes_is = count_removed_no (is_write_on h) (starts k) flights x found once (and_left _ _ (ne_eqb f h apart)) in
      cc

  -- ---- pages
  unheld : (h : ℕ) (y : Page) → (f ≡ h → ⊥) → a.page h ≡ Some y → same_page y g ≡ false
  unheld h y apart held = page_apart y g (λ same. apart (kept.held_once f h g fit.held (held ∙ ap Some same)))

  page_there : (u m : Bool) (y : Page) → same_page y g ≡ false → page_view config (b u m) y ≡ page_view config a y
  page_there u true y apart = refl
  page_there u false y apart = let lies_is = lies_other a.lies g y (Some x.block) apart in cc

  in_file : (n : ℕ) → x.block ≡ block.PageFile n → FitsWrite x g (page_view config a g) (process_view config a) → (page_view config a g).block ≡ Some n
  in_file n is (inl section) = (kept.pages g).in_file n (section.1 ∙ ap Some is)
  in_file n is (inr (inl file)) = let same : file.0 ≡ n = let e = file.2 in cc in file.1 ∙ ap Some same
  in_file n is (inr (inr swap)) = absurd (let e = swap.block in cc)

  in_section : (s : SecId) (i : ℕ) → x.block ≡ block.Section s i → is_paged config g ≡ true → FitsWrite x g (page_view config a g) (process_view config a) → ⊥
  in_section s i is paged (inl section) = true≢false (sym paged ∙ section.0)
  in_section s i is private (inr (inl file)) = let e = file.2 in cc
  in_section s i is private (inr (inr swap)) = let e = swap.block in cc

  shared : (s : SecId) (i : ℕ) → g ≡ Shared s i → is_paged config g ≡ false → FitsWrite x g (page_view config a g) (process_view config a) → Some x.block ≡ Some (block.Section s i)
  shared s i is unpaged (inl section) = sym section.1 ∙ (kept.pages g).shared s i is unpaged
  shared s i is unpaged (inr (inl file)) =
      let page = kept.pages g in
      absurd (true≢false (sym (page.paged (omega (arith, page.blocks, has_block a.assigned g file.0 file.1))) ∙ unpaged))
  shared s i is unpaged (inr (inr swap)) = absurd (true≢false (sym (private_of swap.p g swap.own) ∙ ap is_private is))

  page_here : (u : Bool) → FitsPage g (page_view config (b u false) g)
  page_here u =
      let page = kept.pages g in
      subst (λ (o : Option BlockId). FitsPage g (record (page_view config a g) { lies = o })) (sym (lies_same a.lies g (Some x.block))) (record {
        paged = page.paged;
        charged = page.charged;
        touched = page.touched;
        blocks = page.blocks;
        mapped = page.mapped;
        lying = λ d paged lies. omega (arith, kept.held_charged f g paged fit.held, page.charged);
        in_file = λ n lies. in_file n (cc) fits;
        not_in_section = λ s i paged lies. in_section s i (cc) paged fits;
        shared = λ s i is unpaged. shared s i is unpaged fits;
      })

  pages : (u m : Bool) → (y : Page) → FitsPage y (page_view config (b u m) y)
  pages u true = kept.pages
  pages u false = pages_move FitsPage (page_view config a) (page_view config (b u false)) g (page_there u false) (page_here u) kept.pages

  unsaved : (u m : Bool) → a.modify f ≡ m → HasUnsaved config (quiet rest) (b u m)
  unsaved u m mark = unsaved_move config (quiet flights) (quiet rest) a (b u m) f (there u m) (step m mark) kept.unsaved
    where
      step : (m : Bool) → a.modify f ≡ m → (y : Page) → 0 < count_page a.charged y → (b u m).lies y ≡ None
          → IsInFrame config (quiet rest) (b u m) y ⊎ ((0 < count_page a.charged y) × (a.lies y ≡ None) × (a.page f ≡ Some y → saves (old f) ≡ true → IsInFrame config (quiet rest) (b u m) y))
      step true mark y some lies = inr (some, lies, λ held saved. (f, held, or_left (a.modify f) _ mark))
      step false mark y some lies = go (same_page y g) refl
        where
          go : (c : Bool) → same_page y g ≡ c → IsInFrame config (quiet rest) (b u false) y ⊎ ((0 < count_page a.charged y) × (a.lies y ≡ None) × (a.page f ≡ Some y → saves (old f) ≡ true → IsInFrame config (quiet rest) (b u false) y))
          go true same = let there = subst (λ (z : Page). at_page a.lies g (Some x.block) z ≡ Some x.block) (sym (pages_equal y g same)) (lies_same a.lies g (Some x.block)) in absurd (none-some _ (sym lies ∙ there))
          go false apart = inr (some, sym (lies_other a.lies g y (Some x.block) apart) ∙ lies, λ held saved. let is : y ≡ g = cc (held, fit.held) in absurd (true≢false (sym (ap (λ (z : Page). same_page z g) is ∙ same_page_refl g) ∙ apart)))

  -- ---- swap blocks
  swapped_marked : (u : Bool) → nat_eq (shares a.valid f) 0 ≡ u → HasSwapped a.lies a.status a.ring (b u true).state a.page
  swapped_marked u is = swapped_frame a.lies a.status a.ring a.state (b u true).state a.page a.page f (λ h apart. at_number_other a.state f (cond u state.Modified (a.state f)) h apart) (λ h apart. refl)
      (λ y q n held old_y. here_may u is (a.status q) (old_y.frame f held)) kept.swapped
    where
      here_may : (u : Bool) → nat_eq (shares a.valid f) 0 ≡ u → (s : ProcStatus) → MayHoldSwapped (a.state f) s → MayHoldSwapped (at_number a.state f (cond u state.Modified (a.state f)) f) s
      here_may false is s may = subst (λ (t : FrameState). MayHoldSwapped t s) (sym (at_number_same a.state f (a.state f))) may
      here_may true is s may = absurd (was.unlisted (eqb-true (shares a.valid f) 0 is) s may)

  swapped_clear : (u : Bool) → nat_eq (shares a.valid f) 0 ≡ u → HasSwapped (at_page a.lies g (Some x.block)) a.status a.ring (b u false).state a.page
  swapped_clear u u_is y q n lies = go (same_page y g) refl
    where
      lies' : Page → Option BlockId
      lies' = at_page a.lies g (Some x.block)

      in_swap : x.block ≡ block.Swap (proc q) n → FitsWrite x g (page_view config a g) (process_view config a) → IsInSwap a g q n
      in_swap d_is (inl section) = absurd (false≢true (sym (ap is_section_block d_is) ∙ shared_block config a g x.block (kept.pages g) section.0 section.1))
      in_swap d_is (inr (inl file)) = absurd (let e = file.2 in cc)
      in_swap d_is (inr (inr swap)) =
          let e = swap.block in
          let proc_is : proc swap.p ≡ proc q = cc in
          let p_is : swap.p ≡ q = ap (λ (z : Proc). z.0) proc_is in
          let n_is : swap.n ≡ n = cc in
          let there : IsInSwap a g swap.p swap.n = record { own = swap.own; leaving = swap.leaving; held = swap.held; slot = swap.slot; fits = swap.fits; unpinned = swap.unpinned } in
          subst₂ (λ (r m : ℕ). IsInSwap a g r m) p_is n_is there

      slot_is : (z : Page) → (w : IsInSwap a g q n) → FitsSlot q (slot_of (slice_get (a.ring q).slots n)) z → z ≡ g
      slot_is z w slot = one_in_slot q w.held z g (subst (λ (o : Option (Option Held)). FitsSlot q (slot_of o) z) w.slot slot) w.fits

      g_lies : lies' g ≡ Some x.block
      g_lies = lies_same a.lies g (Some x.block)

      old_lies : (z : Page) → same_page z g ≡ false → lies' z ≡ a.lies z
      old_lies z apart = lies_other a.lies g z (Some x.block) apart

      -- the page that was written
      written : Some x.block ≡ Some (block.Swap (proc q) n) → IsInSwap a g q n → IsSwapped lies' a.status a.ring (b u false).state a.page g q n
      written d_is w = record {
        own = w.own;
        away = λ resident. let leaving = w.leaving in cc;
        alone = λ other same. alone other same (same_page other g) refl;
        within = slice_get_within (a.ring q).slots n (Some w.held) w.slot;
        slot = subst (λ (o : Option (Option Held)). FitsSlot q (slot_of o) g) (sym w.slot) w.fits;
        unpinned = not_pinned_in (a.ring q) q n g w.held (λ v. omega (arith, (kept.entries q v).once, (kept.entries q v).slots)) w.slot w.fits w.unpinned;
        frame = λ h held. subst (λ (j : ℕ). MayHoldSwapped ((b u false).state j) (a.status q)) (kept.held_once f h g fit.held held) (may u u_is);
      }
        where
          alone : (other : Page) → lies' other ≡ lies' g → (c : Bool) → same_page other g ≡ c → other ≡ g
          alone other same true e = pages_equal other g e
          alone other same false e = slot_is other w (kept.swapped other q n (sym (old_lies other e) ∙ (same ∙ (g_lies ∙ d_is)))).slot

          may : (u : Bool) → nat_eq (shares a.valid f) 0 ≡ u → MayHoldSwapped (at_number a.state f (cond u state.Free (a.state f)) f) (a.status q)
          may true none = inl (ap is_out_state (at_number_same a.state f state.Free))
          may false some = inr (w.leaving, ap (is state.Active) (at_number_same a.state f (a.state f) ∙ active_frame (old f) (kept.frames f) (omega (arith, eqb-false (shares a.valid f) 0 some))))

      -- another page
      elsewhere : same_page y g ≡ false → IsSwapped lies' a.status a.ring (b u false).state a.page y q n
      elsewhere apart = record {
        own = before.own;
        away = before.away;
        alone = λ other same. alone other same (same_page other g) refl;
        within = before.within;
        slot = before.slot;
        unpinned = before.unpinned;
        frame = λ h held. frame h held (cases_eq f h);
      }
        where
          before : IsSwapped a.lies a.status a.ring a.state a.page y q n
          before = kept.swapped y q n (sym (old_lies y apart) ∙ lies)

          not_g : y ≡ g → ⊥
          not_g same = true≢false (sym (ap (λ (z : Page). same_page z g) same ∙ same_page_refl g) ∙ apart)

          alone : (other : Page) → lies' other ≡ lies' y → (c : Bool) → same_page other g ≡ c → other ≡ y
          alone other same false e = before.alone other (sym (old_lies other e) ∙ (same ∙ old_lies y apart))
          alone other same true e =
              let other_is = pages_equal other g e in
              let d_is : Some x.block ≡ Some (block.Swap (proc q) n) = sym g_lies ∙ (ap lies' (sym other_is) ∙ (same ∙ lies)) in
              absurd (not_g (slot_is y (in_swap (cc) fits) before.slot))

          frame : (h : ℕ) → a.page h ≡ Some y → (f ≡ h) ⊎ (f ≡ h → ⊥) → MayHoldSwapped ((b u false).state h) (a.status q)
          frame h held (inl same) = absurd (let here = ap a.page same ∙ held in not_g (cc (here, fit.held)))
          frame h held (inr other) = subst (λ (s : FrameState). MayHoldSwapped s (a.status q)) (sym (at_number_other a.state f (cond u state.Free (a.state f)) h other)) (before.frame h held)

      go : (c : Bool) → same_page y g ≡ c → IsSwapped lies' a.status a.ring (b u false).state a.page y q n
      go false apart = elsewhere apart
      go true same =
          let y_is = pages_equal y g same in
          let d_is : Some x.block ≡ Some (block.Swap (proc q) n) = sym g_lies ∙ (ap lies' (sym y_is) ∙ lies) in
          subst (λ (z : Page). IsSwapped lies' a.status a.ring (b u false).state a.page z q n) (sym y_is) (written d_is (in_swap (cc) fits))

  swapped : (u m : Bool) → nat_eq (shares a.valid f) 0 ≡ u → HasSwapped (b u m).lies a.status a.ring (b u m).state a.page
  swapped u true is = swapped_marked u is
  swapped u false is = swapped_clear u is

  transfers : (u m : Bool) → AllByRecursion (FitsFlight (views config (b u m))) rest
  transfers u m = all_step (FitsFlight (views config a)) (FitsFlight (views config (b u m))) rest
      (λ y counts fits.
      let apart : (f ≡ y.frame → ⊥) = λ same. omega (arith, on_frame y rest counts f (sym same), reads_rest, writes_rest) in
      flight_same (views config a) a.page (page_view config (b u m)) y refl (λ z held. alike _ _ _ (page_there u m z (unheld y.frame z apart held))) fits)
      (all_filter (FitsFlight (views config a)) (λ (y : Flight). not (starts k y)) flights kept.transfers)

  pub out_landed : (u m : Bool) → nat_eq (shares a.valid f) 0 ≡ u → a.modify f ≡ m → IsKept config (quiet rest) (b u m)
  out_landed u m is mark = record {
    frames = frames_move FitsFrame old (now u m) f (there u m) (here u m is mark) kept.frames;
    processes = kept.processes;
    entries = kept.entries;
    valid = kept.valid;
    pages = pages u m;
    blocks = λ d. record { owners = (kept.blocks d).owners; flights = omega (arith, count_filter_le (is_on_block d) (λ (y : Flight). not (starts k y)) flights, (kept.blocks d).flights) };
    fit = kept.fit;
    held_once = kept.held_once;
    held_charged = kept.held_charged;
    unsaved = unsaved u m mark;
    swapped = swapped u m is;
    coming_once = kept.coming_once;
    transfers = transfers u m;
    one_fault = λ s. omega (arith, count_filter_le (is_fault_of s) (λ (y : Flight). not (starts k y)) flights, kept.one_fault s);
    failed = none_failed _ _;
  }

pub write_landed : (config : Config) (past : List Entry) (a : Pager) (seat : Seat) (f : Pfn) (k : ℕ) → IsKept config (quiet (open_flights past)) a → IsOutOk past seat.0 f.0 k
    → IsKept config (quiet (without_flight k (open_flights past))) (after_out_ok a f.0 (find (starts k) (open_flights past)))
write_landed config past a seat f k kept legal =
    let x = legal.flight in
    let fit = all_found (FitsFlight (views config a)) (starts k) (open_flights past) x kept.transfers legal.lands.open_k in
    let landed = out_landed config a (open_flights past) k x kept legal.lands.open_k (starts_once past k) legal.writes (nat_eq (shares a.valid x.frame) 0) (a.modify x.frame) refl refl in
    subst (λ (o : Option Flight). IsKept config (quiet (without_flight k (open_flights past))) (after_out_ok a f.0 o)) (sym legal.lands.open_k)
    (subst (λ (h : ℕ). IsKept config (quiet (without_flight k (open_flights past))) (after_out_ok a h (Some x))) legal.lands.frame
    (subst (λ (o : Option Page). IsKept config (quiet (without_flight k (open_flights past))) (landed_with a x o)) (sym fit.held) landed))
  where
    landed_with : Pager → Flight → Option Page → Pager
    landed_with a x o =
        let u = nat_eq (shares a.valid x.frame) 0 in
        record a {
          state = at_number a.state x.frame (cond u (settled_to (a.modify x.frame)) (a.state x.frame));
          free = pushed_if (u && not (a.modify x.frame)) a.free x.frame;
          modified = pushed_if (u && a.modify x.frame) a.modified x.frame;
          lies = lies_at a.lies (a.modify x.frame) o x.block;
        }

pub out_ok_kept : (config : Config) (past : List Entry) (a : Pager) (seat : Seat) (f : Pfn) (k : ℕ) → IsKept config (quiet (open_flights past)) a → IsOutOk past seat.0 f.0 k
    → IsKept config (past_view (record { seat = seat; what = what.OutOk f k } ∷ past)) (after_out_ok a f.0 (find (starts k) (open_flights past)))
out_ok_kept config past a seat f k before legal = write_landed config past a seat f k before legal
