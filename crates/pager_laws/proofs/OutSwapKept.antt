-- OUT to a swap block, and OUT of either kind.
use Rattle.pager_rules.proofs.Quiet.{none_failed}
use Rattle.std.proofs.Common.{◌≡◌, ℕ, ◌+◌, ◌≤◌, Bool, true, false, List, ◌∷◌, Some, length, count_by, nat_eq, refl, sym, ap, ◌∙◌, subst, subst₂, inl, inr, arith}
use Rattle.std.proofs.lemmas.Bool.{ne_eqb, eqb-true, eq-eqb, and_from, and_left, and_parts, or_right, or_left, lt-ltb, false≢true}
use Rattle.vm_types.specs.Same.{same_block}
use Rattle.vm_types.specs.declared.names.Page.{Page}
use Rattle.vm_types.specs.declared.names.Page.TheVariants.{Private}
use Rattle.vm_types.specs.declared.names.Pfn.{Pfn}
use Rattle.vm_types.specs.declared.names.Seat.{Seat}
use Rattle.vm_types.specs.declared.names.BlockId.{BlockId}
use Rattle.vm_types.specs.declared.names.BlockId.TheVariants as block
use Rattle.vm_types.specs.declared.names.FrameState.TheVariants as state
use Rattle.vm_types.specs.declared.config.Config.{Config}
use Rattle.vm_journal.specs.declared.entry.Entry.{Entry}
use Rattle.vm_journal.specs.declared.entry.What.TheVariants as what
use Rattle.pager_laws.proofs.OutKept.{out_kept}
use Rattle.pager_laws.proofs.OutOkKept.{shared_block}
use Rattle.pager_model.specs.Around.{FrameView, block_view, frame_view, page_view, past_view, process_view, quiet}
use Rattle.pager_model.specs.Flights.{Flight, open_flights, writing}
use Rattle.pager_model.specs.Lookups.{is_entry, is_of, page_by}
use Rattle.pager_model.specs.Maps.{proc}
use Rattle.pager_model.specs.Out.{IsAnyOut, IsOutBlock, IsOutSwap, after_any_out}
use Rattle.pager_model.specs.Pager.{Pager, Valid}
use Rattle.pager_model.specs.Sets.{at_number}
use Rattle.pager_model.specs.Sound.{FitsSlot}
use Rattle.pager_model.specs.Transfers.{is_fault_of, is_on_block, is_read_on, is_write_on, reads_on, writes_on}
use Rattle.pager_rules.proofs.Basics.{at_number_other, count_cons_no, count_cons_yes, nat_eq_refl}
use Rattle.pager_rules.proofs.Frames.{active_frame, at_state, from_state}
use Rattle.pager_rules.proofs.Lists.{all_found, count_found, found_passes}
use Rattle.pager_rules.proofs.Pages.{own_is}
use Rattle.pager_rules.proofs.Put.{and_false, blocks_equal, unsaved_move}
use Rattle.pager_rules.proofs.Views.{frames_move}
use Rattle.pager_rules.specs.Kept.{FitsBlock, FitsFrame, FitsWrite, IsForItsPage, IsKept}

module _ (config : Config) (past : List Entry) (a : Pager) (start seat f : ℕ) (d : BlockId) (kept : IsKept config (quiet (open_flights past)) a) (legal : IsOutSwap config past a f d) where
  abbrev flights : List Flight
  flights = open_flights past

  abbrev begun : Flight
  begun = record { start = start; seat = seat; frame = f; block = d; direction = writing }

  abbrev b : Pager
  b = record a { modify = at_number a.modify f false }

  abbrev old : ℕ → FrameView
  old = frame_view config (quiet flights) a

  abbrev now : ℕ → FrameView
  now = frame_view config (quiet (begun ∷ flights)) b

  was : a.state f ≡ state.Active
  was = active_frame (old f) (kept.frames f) (count_found (λ (y : Valid). nat_eq y.frame f) (is_entry legal.p legal.v) a.valid legal.entry legal.valid (eq-eqb _ _ legal.frame))

  row : FitsFrame (record (old f) { state = state.Active })
  row = at_state (old f) state.Active was (kept.frames f)

  one_write : writes_on f (begun ∷ flights) ≡ 1 + writes_on f flights
  one_write = count_cons_yes (is_write_on f) begun flights (and_from _ _ (nat_eq_refl f) refl)

  here : FitsFrame (now f)
  here = from_state (now f) state.Active was (record {
    bad = row.bad;
    on_free = row.on_free;
    on_modified = row.on_modified;
    shares = row.shares;
    reads = count_cons_no (is_read_on f) begun flights (and_false (nat_eq f f)) ∙ row.reads;
    writes = omega (arith, one_write, legal.still);
    failed = refl;
    page = row.page;
    mark = tt;
  })

  there : (g : ℕ) → (f ≡ g → ⊥) → now g ≡ old g
  there g apart =
      let modify_is = at_number_other a.modify f false g apart in
      let reads_is = count_cons_no (is_read_on g) begun flights (and_left _ _ (ne_eqb f g apart)) in
      let writes_is = count_cons_no (is_write_on g) begun flights (and_left _ _ (ne_eqb f g apart)) in
      cc

  -- the page is p's own at v
  page_is : legal.page ≡ Private (proc legal.p) legal.v
  page_is =
      let e = legal.entry in
      let fits = all_found (IsForItsPage config a.map a.page) (is_entry legal.p legal.v) a.valid e kept.valid legal.valid in
      let parts = and_parts (nat_eq e.proc legal.p) (nat_eq e.vpn legal.v) (found_passes (is_entry legal.p legal.v) a.valid e legal.valid) in
      let mapped : page_by config a.map legal.p legal.v ≡ Some fits.0 = subst₂ (λ (q w : ℕ). page_by config a.map q w ≡ Some fits.0) (eqb-true _ _ parts.0) (eqb-true _ _ parts.1) fits.1 in
      let held = subst (λ (h : ℕ). a.page h ≡ Some fits.0) legal.frame fits.2 in
      let holds = legal.holds in
      let same : fits.0 ≡ legal.page = cc in
      own_is config a.map legal.p legal.v legal.page (mapped ∙ ap Some same) legal.private

  writes : FitsWrite begun legal.page (page_view config a legal.page) (process_view config a)
  writes = inr (inr (record {
    p = legal.p;
    n = legal.slot;
    block = legal.block;
    own = ap (is_of legal.p) page_is ∙ nat_eq_refl legal.p;
    leaving = legal.leaving;
    held = legal.held;
    slot = legal.filled;
    fits = subst (λ (g : Page). FitsSlot legal.p (Some legal.held) g) (sym page_is) (refl, legal.same);
    unpinned = legal.unpinned;
  }))

  block_fits : (e : BlockId) → FitsBlock (block_view (quiet (begun ∷ flights)) b e)
  block_fits e = record { owners = (kept.blocks e).owners; flights = go (same_block e d) refl }
    where
      go : (s : Bool) → same_block e d ≡ s → count_by (is_on_block e) (begun ∷ flights) ≤ 1
      go true same =
          let zero : count_by (is_on_block e) flights ≡ 0 = subst (λ (k : BlockId). count_by (is_on_block k) flights ≡ 0) (sym (blocks_equal e d same)) legal.home.still in
          omega (arith, count_cons_yes (is_on_block e) begun flights same)
      go false other = omega (arith, count_cons_no (is_on_block e) begun flights other, (kept.blocks e).flights)

  swap_begun : IsKept config (quiet (begun ∷ flights)) b
  swap_begun = record {
    frames = frames_move FitsFrame old now f there here kept.frames;
    processes = kept.processes;
    entries = kept.entries;
    valid = kept.valid;
    pages = kept.pages;
    blocks = block_fits;
    fit = kept.fit;
    held_once = kept.held_once;
    held_charged = kept.held_charged;
    unsaved = unsaved_move config (quiet flights) (quiet (begun ∷ flights)) a b f there
        (λ g charged lies. inr (charged, lies, λ held saved. (f, held, or_right (at_number a.modify f false f) _ (or_left _ _ (lt-ltb 0 (reads_on f (begun ∷ flights) + writes_on f (begun ∷ flights)) (omega (arith, one_write)))))))
        kept.unsaved;
    swapped = kept.swapped;
    coming_once = kept.coming_once;
    transfers = (record { page = legal.page; held = legal.holds; fits = writes }, kept.transfers);
    one_fault = λ s. omega (arith, count_cons_no (is_fault_of s) begun flights (and_false (nat_eq seat s)), kept.one_fault s);
    failed = none_failed _ _;
  }

pub any_out_kept : (config : Config) (past : List Entry) (a : Pager) (seat : Seat) (f : Pfn) (d : BlockId) → IsKept config (quiet (open_flights past)) a → IsAnyOut config past a f.0 d
    → IsKept config (past_view (record { seat = seat; what = what.Out f d } ∷ past)) (after_any_out a f.0 d)
any_out_kept config past a seat f (block.Section s i) before (inl legal) = out_kept config past a seat f (block.Section s i) before legal
any_out_kept config past a seat f (block.PageFile n) before (inl legal) = out_kept config past a seat f (block.PageFile n) before legal
any_out_kept config past a seat f (block.Swap p n) before (inl legal) = absurd (no_swap legal.block)
  where
    no_swap : IsOutBlock config a (block.Swap p n) legal.page → ⊥
    no_swap (inl section) = false≢true (shared_block config a legal.page (block.Swap p n) (before.pages legal.page) section.0 section.1)
    no_swap (inr (inl file)) = let e = file.3 in cc
    no_swap (inr (inr new)) = let e = new.3 in cc
any_out_kept config past a seat f (block.Section s i) before (inr legal) = absurd (let e = legal.block in cc)
any_out_kept config past a seat f (block.PageFile n) before (inr legal) = absurd (let e = legal.block in cc)
any_out_kept config past a seat f (block.Swap p n) before (inr legal) = swap_begun config past a (length past + 1) seat.0 f.0 (block.Swap p n) before legal
