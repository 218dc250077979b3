-- OUT of the modified list's head.
use Rattle.pager_rules.proofs.Quiet.{none_failed}
use Rattle.std.proofs.Common.{◌≡◌, ◌⊎◌, ℕ, ◌+◌, ◌<◌, ◌≤◌, Bool, true, false, cond, List, ◌∷◌, Option, Some, None, length, nat_eq, count_by, refl, sym, ap, ◌∙◌, subst, inl, inr, arith}
use Rattle.std.specs.Option.{option_map}
use Rattle.std.proofs.lemmas.Bool.{cases_eq, ne_eqb, eq-eqb, eqb-true, and_from, and_left, or_right, or_left, lt-ltb, true≢false, false≢true}
use Rattle.std.proofs.lemmas.Option.{none-some}
use Rattle.vm_types.specs.Same.{same_page, same_block}
use Rattle.vm_types.specs.declared.names.Page.{Page}
use Rattle.vm_types.specs.declared.names.Page.TheVariants.{Private, Shared}
use Rattle.vm_types.specs.declared.names.Pfn.{Pfn}
use Rattle.vm_types.specs.declared.names.Seat.{Seat}
use Rattle.vm_types.specs.declared.names.BlockId.{BlockId}
use Rattle.vm_types.specs.declared.names.BlockId.TheVariants as block
use Rattle.vm_types.specs.declared.names.FrameState.{FrameState}
use Rattle.vm_types.specs.declared.names.FrameState.TheVariants as state
use Rattle.vm_types.specs.declared.names.ProcStatus.{ProcStatus}
use Rattle.vm_types.specs.declared.config.Config.{Config}
use Rattle.vm_journal.specs.declared.entry.Entry.{Entry}
use Rattle.vm_journal.specs.declared.entry.What.TheVariants as what
use Rattle.page_lists.specs.Lists.{count_of, without}
use Rattle.pager_model.specs.Around.{FrameView, block_view, frame_view, page_view, past_view, process_view, quiet}
use Rattle.pager_model.specs.Flights.{Flight, open_flights, writing}
use Rattle.pager_model.specs.Lookups.{block_of, is_assigned_to, is_owner}
use Rattle.pager_model.specs.Maps.{is_paged}
use Rattle.pager_model.specs.Out.{IsOut, IsOutBlock, after_out, assigned_with}
use Rattle.pager_model.specs.Pager.{Assigned, Pager}
use Rattle.pager_model.specs.Sets.{at_number}
use Rattle.pager_model.specs.Sound.{MayHoldSwapped}
use Rattle.pager_model.specs.Transfers.{is_fault_of, is_on_block, is_read_on, is_write_on, reads_on, writes_on}
use Rattle.pager_rules.proofs.Basics.{at_number_other, at_number_same, count_cons_no, count_cons_yes, find_cons_no, find_cons_yes, nat_eq_refl, same_page_refl}
use Rattle.pager_rules.proofs.Frames.{from_state, modified_frame}
use Rattle.pager_rules.proofs.Lists.{all_step}
use Rattle.pager_rules.proofs.Pages.{swapped_frame}
use Rattle.pager_rules.proofs.Put.{and_false, blocks_equal, head_counts, modified_row, no_block, no_blocks, page_apart, unsaved_move, without_other, without_same}
use Rattle.pager_rules.proofs.Transfers.{alike, flight_same, on_frame}
use Rattle.pager_rules.proofs.Views.{frames_move, pages_move}
use Rattle.pager_rules.specs.Kept.{FitsBlock, FitsFlight, FitsFrame, FitsPage, FitsWrite, HasUnsaved, IsKept, views}

-- a page of a section with a file lies in its block
pub not_in_file : (config : Config) (a : Pager) (x : Page) (n : ℕ) → FitsPage x (page_view config a x) → is_paged config x ≡ false → a.lies x ≡ Some (block.PageFile n) → ⊥
not_in_file config a (Private p v) n fits unpaged lies = true≢false unpaged
not_in_file config a (Shared s i) n fits unpaged lies = let there = fits.shared s i refl unpaged in cc

module _ (config : Config) (a : Pager) (flights : List Flight) (start seat f : ℕ) (d : BlockId) (x : Page) (kept : IsKept config (quiet flights) a) (holds : a.page f ≡ Some x) where
  abbrev begun : Flight
  begun = record { start = start; seat = seat; frame = f; block = d; direction = writing }

  -- the blocks that are assigned afterwards: one more, or as they were
  pub record IsAssigned (more : List Assigned) : Type 0 where
    pub here : FitsPage x (page_view config (record a { assigned = more }) x)
    pub other : (g : Page) → same_page g x ≡ false → page_view config (record a { assigned = more }) g ≡ page_view config a g
    pub owners : (e : BlockId) → count_by (is_owner e) more ≤ 1
    pub fits : FitsWrite begun x (page_view config (record a { assigned = more }) x) (process_view config a)

  assigned_same : ((is_paged config x ≡ false) × (a.lies x ≡ Some d)) ⊎ ((n : ℕ) × (block_of a.assigned x ≡ Some n) × (d ≡ block.PageFile n)) → IsAssigned a.assigned
  assigned_same why = record { here = kept.pages x; other = λ g apart. refl; owners = λ e. (kept.blocks e).owners; fits = by why }
    where
      by : ((is_paged config x ≡ false) × (a.lies x ≡ Some d)) ⊎ ((n : ℕ) × (block_of a.assigned x ≡ Some n) × (d ≡ block.PageFile n)) → FitsWrite begun x (page_view config a x) (process_view config a)
      by (inl section) = inl section
      by (inr file) = inr (inl file)

  assigned_new : (n : ℕ) → is_paged config x ≡ true → block_of a.assigned x ≡ None → count_by (is_assigned_to x) a.assigned ≡ 0 → d ≡ block.PageFile n → count_by (is_owner (block.PageFile n)) a.assigned ≡ 0
      → IsAssigned (record { page = x; block = n } ∷ a.assigned)
  assigned_new n paged unassigned none d_is free = record {
    here = record {
      paged = page.paged;
      charged = page.charged;
      touched = page.touched;
      blocks = omega (arith, count_cons_yes (is_assigned_to x) now a.assigned (same_page_refl x), kept.held_charged f x paged holds);
      mapped = page.mapped;
      lying = page.lying;
      in_file = λ m lies. absurd (none-some m (sym unassigned ∙ page.in_file m lies));
      not_in_section = page.not_in_section;
      shared = page.shared;
    };
    other = λ g apart.
        let blocks_is = count_cons_no (is_assigned_to g) now a.assigned apart in
        let block_is = ap (option_map (λ (y : Assigned). y.block)) (find_cons_no (is_assigned_to g) now a.assigned apart) in
        cc;
    owners = owners;
    fits = inr (inl (n, ap (option_map (λ (y : Assigned). y.block)) (find_cons_yes (is_assigned_to x) now a.assigned (same_page_refl x)), d_is));
  }
    where
      now : Assigned
      now = record { page = x; block = n }

      page : FitsPage x (page_view config a x)
      page = kept.pages x

      owners : (e : BlockId) → count_by (is_owner e) (now ∷ a.assigned) ≤ 1
      owners (block.PageFile m) = go (cases_eq n m)
        where
          go : (n ≡ m) ⊎ (n ≡ m → ⊥) → count_by (is_owner (block.PageFile m)) (now ∷ a.assigned) ≤ 1
          go (inl same) = let zero : count_by (is_owner (block.PageFile m)) a.assigned ≡ 0 = subst (λ (k : ℕ). count_by (is_owner (block.PageFile k)) a.assigned ≡ 0) same free in
              omega (arith, count_cons_yes (is_owner (block.PageFile m)) now a.assigned (eq-eqb n m same))
          go (inr apart) = omega (arith, count_cons_no (is_owner (block.PageFile m)) now a.assigned (ne_eqb n m apart), (kept.blocks (block.PageFile m)).owners)
      owners (block.Section s i) = omega (arith, count_cons_no (is_owner (block.Section s i)) now a.assigned refl, (kept.blocks (block.Section s i)).owners)
      owners (block.Swap q i) = omega (arith, count_cons_no (is_owner (block.Swap q i)) now a.assigned refl, (kept.blocks (block.Swap q i)).owners)

  module _ (more : List Assigned) (is_assigned : IsAssigned more) (home : count_by (is_on_block d) flights ≡ 0) (on_list : 0 < count_of a.modified f) where
    abbrev b : Pager
    b = record a { state = at_number a.state f state.Writing; modify = at_number a.modify f false; modified = without a.modified f; assigned = more }

    abbrev old : ℕ → FrameView
    old = frame_view config (quiet flights) a

    abbrev now : ℕ → FrameView
    now = frame_view config (quiet (begun ∷ flights)) b

    row : FitsFrame (record (old f) { state = state.Modified })
    row = modified_row (old f) (kept.frames f) on_list

    was : a.state f ≡ state.Modified
    was = modified_frame (old f) (kept.frames f) on_list

    one_write : writes_on f (begun ∷ flights) ≡ 1 + writes_on f flights
    one_write = count_cons_yes (is_write_on f) begun flights (and_from _ _ (nat_eq_refl f) refl)

    here : FitsFrame (now f)
    here = from_state (now f) state.Writing (at_number_same a.state f state.Writing) (record {
      bad = row.bad;
      on_free = row.on_free;
      on_modified = without_same a.modified f;
      shares = row.shares;
      reads = count_cons_no (is_read_on f) begun flights (and_false (nat_eq f f)) ∙ row.reads;
      writes = omega (arith, one_write, row.writes);
      failed = refl;
      page = (x, holds);
      mark = tt;
    })

    there : (g : ℕ) → (f ≡ g → ⊥) → now g ≡ old g
    there g apart =
        let state_is = at_number_other a.state f state.Writing g apart in
        let modify_is = at_number_other a.modify f false g apart in
        let modified_is = without_other a.modified f g apart in
        let reads_is = count_cons_no (is_read_on g) begun flights (and_left _ _ (ne_eqb f g apart)) in
        let writes_is = count_cons_no (is_write_on g) begun flights (and_left _ _ (ne_eqb f g apart)) in
        cc

    unsaved : HasUnsaved config (quiet (begun ∷ flights)) b
    unsaved = unsaved_move config (quiet flights) (quiet (begun ∷ flights)) a b f there
        (λ g charged lies. inr (charged, lies, λ held saved. (f, held, or_right (at_number a.modify f false f) _ (or_left _ _ (lt-ltb 0 (reads_on f (begun ∷ flights) + writes_on f (begun ∷ flights)) (omega (arith, one_write)))))))
        kept.unsaved

    not_swapped : (s : ProcStatus) → MayHoldSwapped (a.state f) s → ⊥
    not_swapped s may = by (subst (λ (t : FrameState). MayHoldSwapped t s) was may)
      where
        by : MayHoldSwapped state.Modified s → ⊥
        by (inl out) = false≢true out
        by (inr leaving) = false≢true leaving.1

    block_fits : (e : BlockId) → FitsBlock (block_view (quiet (begun ∷ flights)) b e)
    block_fits e = record { owners = is_assigned.owners e; flights = go (same_block e d) refl }
      where
        go : (s : Bool) → same_block e d ≡ s → count_by (is_on_block e) (begun ∷ flights) ≤ 1
        go true same =
            let zero : count_by (is_on_block e) flights ≡ 0 = subst (λ (k : BlockId). count_by (is_on_block k) flights ≡ 0) (sym (blocks_equal e d same)) home in
            omega (arith, count_cons_yes (is_on_block e) begun flights same)
        go false other = omega (arith, count_cons_no (is_on_block e) begun flights other, (kept.blocks e).flights)

    pub out_begun : IsKept config (quiet (begun ∷ flights)) b
    out_begun = record {
      frames = frames_move FitsFrame old now f there here kept.frames;
      processes = kept.processes;
      entries = kept.entries;
      valid = kept.valid;
      pages = pages_move FitsPage (page_view config a) (page_view config b) x is_assigned.other is_assigned.here kept.pages;
      blocks = block_fits;
      fit = kept.fit;
      held_once = kept.held_once;
      held_charged = kept.held_charged;
      unsaved = unsaved;
      swapped = swapped_frame a.lies a.status a.ring a.state b.state a.page a.page f (λ h apart. at_number_other a.state f state.Writing h apart) (λ h apart. refl)
          (λ g q n held old. absurd (not_swapped (a.status q) (old.frame f held))) kept.swapped;
      coming_once = kept.coming_once;
      transfers = (
        record { page = x; held = holds; fits = is_assigned.fits },
        all_step (FitsFlight (views config a)) (FitsFlight (views config b)) flights
            (λ y counts fits.
            let apart : (f ≡ y.frame → ⊥) = λ same. omega (arith, on_frame y flights counts f (sym same), row.reads, row.writes) in
            flight_same (views config a) a.page (page_view config b) y refl
            (λ g held. alike _ _ _ (is_assigned.other g (page_apart g x (λ same. apart (kept.held_once f y.frame x holds (held ∙ ap Some same)))))) fits)
            kept.transfers,
      );
      one_fault = λ s. omega (arith, count_cons_no (is_fault_of s) begun flights (and_false (nat_eq seat s)), kept.one_fault s);
      failed = none_failed _ _;
    }

pub out_kept : (config : Config) (past : List Entry) (a : Pager) (seat : Seat) (f : Pfn) (d : BlockId) → IsKept config (quiet (open_flights past)) a → IsOut config past a f.0 d
    → IsKept config (past_view (record { seat = seat; what = what.Out f d } ∷ past)) (after_out a f.0 d)
out_kept config past a seat f d before legal =
    subst (λ (o : Option Page). IsKept config (quiet (y ∷ open_flights past)) (record a { state = at_number a.state f.0 state.Writing; modify = at_number a.modify f.0 false; modified = without a.modified f.0; assigned = assigned_with a.assigned o d }))
    (sym legal.holds)
    (out_begun config a (open_flights past) (length past + 1) seat.0 f.0 d x kept legal.holds (assigned_with a.assigned (Some x) d) (by d legal.block) legal.home.still (head_counts a.modified f.0 legal.head))
  where
    kept : IsKept config (quiet (open_flights past)) a
    kept = before

    x : Page
    x = legal.page

    y : Flight
    y = record { start = length past + 1; seat = seat.0; frame = f.0; block = d; direction = writing }

    by : (e : BlockId) → IsOutBlock config a e x → IsAssigned config a (open_flights past) (length past + 1) seat.0 f.0 e x kept legal.holds (assigned_with a.assigned (Some x) e)
    by (block.Section s i) (inl section) = assigned_same config a (open_flights past) (length past + 1) seat.0 f.0 (block.Section s i) x kept legal.holds (inl section)
    by (block.Section s i) (inr (inl file)) = absurd (let e = file.3 in cc)
    by (block.Section s i) (inr (inr new)) = absurd (let e = new.3 in cc)
    by (block.Swap q i) (inl section) = assigned_same config a (open_flights past) (length past + 1) seat.0 f.0 (block.Swap q i) x kept legal.holds (inl section)
    by (block.Swap q i) (inr (inl file)) = absurd (let e = file.3 in cc)
    by (block.Swap q i) (inr (inr new)) = absurd (let e = new.3 in cc)
    by (block.PageFile n) why = go (nat_eq (count_by (is_assigned_to x) a.assigned) 0) refl why
      where
        go : (c : Bool) → nat_eq (count_by (is_assigned_to x) a.assigned) 0 ≡ c → IsOutBlock config a (block.PageFile n) x
            → IsAssigned config a (open_flights past) (length past + 1) seat.0 f.0 (block.PageFile n) x kept legal.holds (cond c (record { page = x; block = n } ∷ a.assigned) a.assigned)
        go true none (inr (inr new)) =
            let same : new.0 ≡ n = let e = new.3 in cc in
            assigned_new config a (open_flights past) (length past + 1) seat.0 f.0 (block.PageFile n) x kept legal.holds n new.1 new.2 (eqb-true _ _ none) refl (subst (λ (m : ℕ). count_by (is_owner (block.PageFile m)) a.assigned ≡ 0) same new.5)
        go true none (inr (inl file)) = absurd (none-some _ (sym (no_block a.assigned x (eqb-true _ _ none)) ∙ file.2))
        go true none (inl section) = absurd (not_in_file config a x n (kept.pages x) section.0 section.1)
        go false some (inr (inr new)) = absurd (false≢true (sym some ∙ eq-eqb _ _ (no_blocks a.assigned x new.2)))
        go false some (inr (inl file)) = assigned_same config a (open_flights past) (length past + 1) seat.0 f.0 (block.PageFile n) x kept legal.holds (inr (file.0, file.2, file.3))
        go false some (inl section) = assigned_same config a (open_flights past) (length past + 1) seat.0 f.0 (block.PageFile n) x kept legal.holds (inl section)
