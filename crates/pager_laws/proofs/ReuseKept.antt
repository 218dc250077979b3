-- REUSE: of the free list's head, and of the frame in read error.
use Rattle.pager_model.specs.InTurn.{is_reuse_of}
use Rattle.std.proofs.Common.{eqb-true, ◌≡◌, ◌⊎◌, ℕ, ◌+◌, ◌<◌, ◌≤◌, Bool, true, false, cond, not, ◌&&◌, ◌||◌, List, [], ◌∷◌, Option, Some, None, length, nat_eq, nat_lt, refl, sym, ap, ◌∙◌, subst, subst₂, inl, inr, arith}
use Rattle.std.specs.List.{AllByRecursion}
use Rattle.std.proofs.lemmas.Bool.{cases_eq, ne_eqb, eq-eqb, and_from, and_parts, false≢true}
use Rattle.std.proofs.lemmas.List.Sums.{length-filter, count_by-le-length}
use Rattle.std.proofs.lemmas.Option.{none-some}
use Rattle.vm_types.specs.Same.{same_page}
use Rattle.vm_types.specs.declared.names.Page.{Page}
use Rattle.vm_types.specs.declared.names.Pfn.{Pfn}
use Rattle.vm_types.specs.declared.names.Seat.{Seat}
use Rattle.vm_types.specs.declared.names.BlockId.{BlockId}
use Rattle.vm_types.specs.declared.names.BlockId.TheVariants as block
use Rattle.vm_types.specs.declared.names.FrameState.TheVariants as state
use Rattle.vm_types.specs.declared.config.Config.{Config}
use Rattle.vm_journal.specs.declared.entry.Entry.{Entry}
use Rattle.vm_journal.specs.declared.entry.Role.{Role}
use Rattle.vm_journal.specs.declared.entry.What.TheVariants as what
use Rattle.page_lists.specs.Lists.{count_of, without}
use Rattle.pager_model.specs.Around.{FrameView, PastView, frame_view, page_view, past_view, quiet}
use Rattle.pager_model.specs.Changes.{is_section_block, without_page}
use Rattle.pager_model.specs.Flights.{failed_flight, awaits_reuse, Flight, open_flights}
use Rattle.pager_model.specs.Lookups.{count_page, shares}
use Rattle.pager_model.specs.Maps.{is_private}
use Rattle.pager_model.specs.Opening.{is_bad}
use Rattle.pager_model.specs.Pager.{Pager, Valid}
use Rattle.pager_model.specs.Reuse.{IsReuse, IsReuseFailed, IsReuseFree, after_reuse, charged_reused}
use Rattle.pager_model.specs.Sets.{at_number}
use Rattle.pager_model.specs.Sound.{is_out_state}
use Rattle.pager_model.specs.Transfers.{reads_on, writes_on}
use Rattle.pager_rules.proofs.Basics.{at_number_other, at_number_same, count_cons_no, count_cons_yes, nat_eq_refl, pages_equal, same_page_refl}
use Rattle.pager_rules.proofs.Frames.{at_state, failed_frame, from_state}
use Rattle.pager_rules.proofs.Lists.{all_step}
use Rattle.pager_rules.proofs.Pages.{behind_section, private_is_paged, swapped_frame}
use Rattle.pager_rules.proofs.Put.{free_row, head_counts, no_blocks, page_apart, unsaved_move, without_other, without_same}
use Rattle.pager_rules.proofs.Quiet.{none_failed, kept_quiet, no_failure, only_failed}
use Rattle.pager_rules.proofs.Transfers.{alike, flight_same, on_frame}
use Rattle.pager_rules.proofs.Views.{frames_move, pages_move}
use Rattle.pager_rules.specs.Kept.{FitsFailure, FitsFlight, FitsFrame, FitsPage, FitsRead, HasUnsaved, HeldCharged, HeldOnce, IsFirstRead, IsForItsPage, IsInFrame, IsKept, saves, views}

-- ---- a page is charged no more
pub uncharged_own : (pages : List Page) (g : Page) → count_page (without_page pages g) g ≡ 0
uncharged_own [] g = refl
uncharged_own (x ∷ pages) g = go (same_page g x) refl (uncharged_own pages g)
  where
    go : (c : Bool) → same_page g x ≡ c → count_page (without_page pages g) g ≡ 0 → count_page (cond (not c) (x ∷ without_page pages g) (without_page pages g)) g ≡ 0
    go true is rest = rest
    go false is rest = count_cons_no (same_page g) x (without_page pages g) is ∙ rest

pub uncharged_other : (pages : List Page) (g h : Page) → same_page h g ≡ false → count_page (without_page pages g) h ≡ count_page pages h
uncharged_other [] g h apart = refl
uncharged_other (x ∷ pages) g h apart = go (same_page g x) refl (uncharged_other pages g h apart)
  where
    go : (c : Bool) → same_page g x ≡ c → count_page (without_page pages g) h ≡ count_page pages h → count_page (cond (not c) (x ∷ without_page pages g) (without_page pages g)) h ≡ count_page (x ∷ pages) h
    go true is rest = rest ∙ sym (count_cons_no (same_page h) x pages (subst (λ (y : Page). same_page h y ≡ false) (pages_equal g x is) apart))
    go false is rest = step (same_page h x) refl
      where
        step : (d : Bool) → same_page h x ≡ d → count_page (x ∷ without_page pages g) h ≡ count_page (x ∷ pages) h
        step true same = count_cons_yes (same_page h) x (without_page pages g) same ∙ (ap (λ (n : ℕ). 1 + n) rest ∙ sym (count_cons_yes (same_page h) x pages same))
        step false other = count_cons_no (same_page h) x (without_page pages g) other ∙ (rest ∙ sym (count_cons_no (same_page h) x pages other))

-- what the frame is before: on the free list with its page, or in read error
pub record IsIdle (config : Config) (o : PastView) (a : Pager) (f : ℕ) : Type 0 where
  pub bad : is_bad config f ≡ false
  pub on_modified : count_of a.modified f ≡ 0
  pub shares : shares a.valid f ≡ 0
  pub reads : reads_on f o.flights ≡ 0
  pub writes : writes_on f o.flights ≡ 0

module _ (config : Config) (o : PastView) (a : Pager) (f : ℕ) (x : Page) (kept : IsKept config o a) (idle : IsIdle config o a f) (holds : a.page f ≡ Some x)
    (fails : (g : ℕ) → (f ≡ g → ⊥) → o.failed g ≡ false) where
  abbrev charged : Bool → List Page
  charged c = cond c (without_page a.charged x) a.charged

  -- the page is charged no more, which was read first, or it is safe
  abbrev Why : Bool → Type 0
  Why true = (r : Flight) × ((role : Role) × IsFirstRead r role x (page_view config a x))
  Why false = a.lies x ≡ None → saves (frame_view config o a f) ≡ true → ⊥

  abbrev b : Bool → Pager
  b c = record a {
    state = at_number a.state f state.Free;
    page = at_number a.page f None;
    modify = at_number a.modify f false;
    free = f ∷ without a.free f;
    charged = charged c;
  }

  abbrev now : Bool → ℕ → FrameView
  now c = frame_view config (quiet o.flights) (b c)

  here : (c : Bool) → FitsFrame (now c f)
  here c = from_state (now c f) state.Free (at_number_same a.state f state.Free) (record {
    bad = idle.bad;
    on_free = count_cons_yes (λ (other : ℕ). nat_eq other f) f (without a.free f) (nat_eq_refl f) ∙ ap (λ (n : ℕ). 1 + n) (without_same a.free f);
    on_modified = idle.on_modified;
    shares = idle.shares;
    reads = idle.reads;
    writes = idle.writes;
    failed = refl;
    page = tt;
    mark = at_number_same a.modify f false;
  })

  there : (c : Bool) (g : ℕ) → (f ≡ g → ⊥) → now c g ≡ frame_view config o a g
  there c g apart =
      let state_is = at_number_other a.state f state.Free g apart in
      let page_is = at_number_other a.page f None g apart in
      let modify_is = at_number_other a.modify f false g apart in
      let free_is = count_cons_no (λ (other : ℕ). nat_eq other g) f (without a.free f) (ne_eqb f g apart) ∙ without_other a.free f g apart in
      let failed_is = fails g apart in
      cc

  -- ---- pages
  unheld : (h : ℕ) (y : Page) → (f ≡ h → ⊥) → a.page h ≡ Some y → same_page y x ≡ false
  unheld h y apart held = page_apart y x (λ same. apart (kept.held_once f h x holds (held ∙ ap Some same)))

  page_there : (c : Bool) (g : Page) → same_page g x ≡ false → page_view config (b c) g ≡ page_view config a g
  page_there false g apart = refl
  page_there true g apart = let charged_is = uncharged_other a.charged x g apart in cc

  pages : (c : Bool) → Why c → (g : Page) → FitsPage g (page_view config (b c) g)
  pages false why = kept.pages
  pages true why = pages_move FitsPage (page_view config a) (page_view config (b true)) x (page_there true) (record {
    paged = λ some. private_is_paged config x why.1.1.private;
    charged = omega (arith, none);
    touched = omega (arith, why.1.1.untouched);
    blocks = omega (arith, no_blocks a.assigned x why.1.1.unassigned);
    mapped = λ some private. absurd (omega (arith, none));
    lying = λ d paged lies. absurd (none-some d (sym why.1.1.nowhere ∙ lies));
    in_file = (kept.pages x).in_file;
    not_in_section = (kept.pages x).not_in_section;
    shared = (kept.pages x).shared;
  }) kept.pages
    where
      none : count_page (without_page a.charged x) x ≡ 0
      none = uncharged_own a.charged x

  fit : (c : Bool) → length (charged c) ≤ config.pagefile
  fit false = kept.fit
  fit true = let shorter = length-filter (λ (y : Page). not (same_page x y)) a.charged in omega (arith, count_by-le-length (λ (y : Page). not (same_page x y)) a.charged, kept.fit)

  held_once : HeldOnce (at_number a.page f None)
  held_once g h y held also = go (cases_eq f g) (cases_eq f h)
    where
      none : (k : ℕ) → f ≡ k → at_number a.page f None k ≡ Some y → ⊥
      none k same is = none-some y (sym (subst (λ (j : ℕ). at_number a.page f None j ≡ None) same (at_number_same a.page f None)) ∙ is)

      go : (f ≡ g) ⊎ (f ≡ g → ⊥) → (f ≡ h) ⊎ (f ≡ h → ⊥) → g ≡ h
      go (inl s) t = absurd (none g s held)
      go (inr s) (inl t) = absurd (none h t also)
      go (inr s) (inr t) = kept.held_once g h y (sym (at_number_other a.page f None g s) ∙ held) (sym (at_number_other a.page f None h t) ∙ also)

  held_charged : (c : Bool) → HeldCharged config (at_number a.page f None) (charged c)
  held_charged c g y private held = go (cases_eq f g)
    where
      counts : (d : Bool) → same_page y x ≡ false → 0 < count_page a.charged y → 0 < count_page (charged d) y
      counts false apart some = some
      counts true apart some = omega (arith, uncharged_other a.charged x y apart)

      go : (f ≡ g) ⊎ (f ≡ g → ⊥) → 0 < count_page (charged c) y
      go (inl same) = absurd (none-some y (sym (subst (λ (j : ℕ). at_number a.page f None j ≡ None) same (at_number_same a.page f None)) ∙ held))
      go (inr apart) = let old = sym (at_number_other a.page f None g apart) ∙ held in counts c (unheld g y apart old) (kept.held_charged g y private old)

  unsaved : (c : Bool) → Why c → HasUnsaved config (quiet o.flights) (b c)
  unsaved c why = unsaved_move config o (quiet o.flights) a (b c) f (there c) (step c why) kept.unsaved
    where
      step : (c : Bool) → Why c → (g : Page) → 0 < count_page (charged c) g → a.lies g ≡ None
          → IsInFrame config (quiet o.flights) (b c) g ⊎ ((0 < count_page a.charged g) × (a.lies g ≡ None) × (a.page f ≡ Some g → saves (frame_view config o a f) ≡ true → IsInFrame config (quiet o.flights) (b c) g))
      step false why g some lies = inr (some, lies, λ held saved. let same : g ≡ x = cc (held, holds) in absurd (why (ap a.lies (sym same) ∙ lies) saved))
      step true why g some lies = go (same_page g x) refl
        where
          go : (d : Bool) → same_page g x ≡ d → IsInFrame config (quiet o.flights) (b true) g ⊎ ((0 < count_page a.charged g) × (a.lies g ≡ None) × (a.page f ≡ Some g → saves (frame_view config o a f) ≡ true → IsInFrame config (quiet o.flights) (b true) g))
          go true same = let is : g ≡ x = pages_equal g x same in let zero : count_page (without_page a.charged x) g ≡ 0 = subst (λ (y : Page). count_page (without_page a.charged x) y ≡ 0) (sym is) (uncharged_own a.charged x) in absurd (omega arith)
          go false apart = inr (omega (arith, uncharged_other a.charged x g apart), lies, λ held saved. let is : g ≡ x = cc (held, holds) in absurd (false≢true (sym apart ∙ (ap (λ (y : Page). same_page y x) is ∙ same_page_refl x))))

  valid : AllByRecursion (IsForItsPage config a.map (at_number a.page f None)) a.valid
  valid = all_step (IsForItsPage config a.map a.page) (IsForItsPage config a.map (at_number a.page f None)) a.valid
      (λ e counts is. (is.0, is.1, at_number_other a.page f None e.frame (λ same. omega (arith, counts (λ (y : Valid). nat_eq y.frame f) (eq-eqb _ _ (sym same)), idle.shares)) ∙ is.2))
      kept.valid

  transfers : (c : Bool) → AllByRecursion (FitsFlight (views config (b c))) o.flights
  transfers c = all_step (FitsFlight (views config a)) (FitsFlight (views config (b c))) o.flights
      (λ y counts fits.
      let apart : (f ≡ y.frame → ⊥) = λ same. omega (arith, on_frame y o.flights counts f (sym same), idle.reads, idle.writes) in
      flight_same (views config a) (b c).page (page_view config (b c)) y (at_number_other a.page f None y.frame apart)
      (λ g held. alike _ _ _ (page_there c g (unheld y.frame g apart held))) fits)
      kept.transfers

  pub reused : (c : Bool) → Why c → IsKept config (quiet o.flights) (b c)
  reused c why = record {
    frames = frames_move FitsFrame (frame_view config o a) (now c) f (there c) (here c) kept.frames;
    processes = kept.processes;
    entries = kept.entries;
    valid = valid;
    pages = pages c why;
    blocks = kept.blocks;
    fit = fit c;
    held_once = held_once;
    held_charged = held_charged c;
    unsaved = unsaved c why;
    swapped = swapped_frame a.lies a.status a.ring a.state (b c).state a.page (b c).page f (λ h apart. at_number_other a.state f state.Free h apart) (λ h apart. at_number_other a.page f None h apart)
        (λ g q n held old. inl (ap is_out_state (at_number_same a.state f state.Free))) kept.swapped;
    coming_once = kept.coming_once;
    transfers = transfers c;
    one_fault = kept.one_fault;
    failed = none_failed _ _;
  }

-- ---- the two cases
-- the failed frame isn't free
pub no_due : (config : Config) (past : List Entry) (a : Pager) (seat f : ℕ) (x : Page) → IsKept config (past_view past) a → (awaits_reuse past ≡ true → is_reuse_of (what.Reuse (record { 0 = f }) x) seat (failed_flight past) ≡ true) → IsReuseFree a f x → awaits_reuse past ≡ false
no_due config past a seat f x kept turn legal = go (awaits_reuse past) refl
  where
    failing : (o : Option Flight) → failed_flight past ≡ o → is_reuse_of (what.Reuse (record { 0 = f }) x) seat o ≡ true → ⊥
    failing None is same = false≢true same
    failing (Some y) is same =
        let frame : y.frame ≡ f = eqb-true _ _ (and_parts (nat_eq y.seat seat) (nat_eq y.frame f) same).1 in
        let failed = subst (λ (g : ℕ). (past_view past).failed g ≡ true) frame (kept.failed.fits y is).frame in
        let row = at_state (frame_view config (past_view past) a f) state.ReadError (failed_frame (frame_view config (past_view past) a f) (kept.frames f) failed) (kept.frames f) in
        absurd (omega (arith, row.on_free, head_counts a.free f legal.head))

    go : (c : Bool) → awaits_reuse past ≡ c → awaits_reuse past ≡ false
    go false is = is
    go true is = absurd (failing (failed_flight past) refl (turn is))

reuse_free : (config : Config) (past : List Entry) (a : Pager) (f : ℕ) (x : Page) → IsKept config (past_view past) a → awaits_reuse past ≡ false → IsReuseFree a f x → IsKept config (quiet (open_flights past)) (after_reuse past a f x)
reuse_free config past a f x before quiet_now legal =
    let kept = kept_quiet config past a quiet_now before in
    let row = free_row (frame_view config (quiet (open_flights past)) a f) (kept.frames f) (head_counts a.free f legal.head) in
    let idle : IsIdle config (quiet (open_flights past)) a f = record { bad = row.bad; on_modified = row.on_modified; shares = row.shares; reads = row.reads; writes = row.writes } in
    subst (λ (o : Option Flight). IsKept config (quiet (open_flights past)) (record a { state = at_number a.state f state.Free; page = at_number a.page f None; modify = at_number a.modify f false; free = f ∷ without a.free f; charged = charged_reused o x a.charged }))
    (sym (no_failure past quiet_now))
    (reused config (quiet (open_flights past)) a f x kept idle legal.holds (λ g apart. refl) false (λ lies saved. not_saved (a.modify f) (reads_on f (open_flights past) + writes_on f (open_flights past)) row.mark (omega (arith, row.reads, row.writes)) saved))
  where
    not_saved : (m : Bool) (n : ℕ) → m ≡ false → n ≡ 0 → (m || (nat_lt 0 n || false)) ≡ true → ⊥
    not_saved m n clear none saved = false≢true (subst₂ (λ (l : Bool) (k : ℕ). (l || (nat_lt 0 k || false)) ≡ true) clear none saved)

reuse_failed : (config : Config) (past : List Entry) (a : Pager) (seat f : ℕ) (x : Page) → IsKept config (past_view past) a → IsReuseFailed past a seat f x → IsKept config (quiet (open_flights past)) (after_reuse past a f x)
reuse_failed config past a seat f x kept legal = subst (λ (o : Option Flight). IsKept config (quiet (open_flights past)) (record a { state = at_number a.state f state.Free; page = at_number a.page f None; modify = at_number a.modify f false; free = f ∷ without a.free f; charged = charged_reused o x a.charged }))
    (sym legal.failed)
    (reused config (past_view past) a f x kept idle legal.holds fails (is_private x && is_section_block legal.flight.block) why)
  where
    failure : FitsFailure (past_view past).failed (views config a) legal.flight
    failure = kept.failed.fits legal.flight legal.failed

    row : FitsFrame (record (frame_view config (past_view past) a f) { state = state.ReadError })
    row = at_state (frame_view config (past_view past) a f) state.ReadError
        (failed_frame (frame_view config (past_view past) a f) (kept.frames f) (subst (λ (g : ℕ). (past_view past).failed g ≡ true) legal.frame failure.frame)) (kept.frames f)

    idle : IsIdle config (past_view past) a f
    idle = record { bad = row.bad; on_modified = row.on_modified; shares = row.shares; reads = row.reads; writes = row.writes }

    fails : (g : ℕ) → (f ≡ g → ⊥) → (past_view past).failed g ≡ false
    fails g apart = only_failed past f g (subst (λ (g : ℕ). (past_view past).failed g ≡ true) legal.frame failure.frame) apart

    x_is : failure.page ≡ x
    x_is = let held = subst (λ (g : ℕ). a.page g ≡ Some failure.page) legal.frame failure.held in cc (held, legal.holds)

    fits : FitsRead legal.flight failure.role x (page_view config a x)
    fits = subst (λ (y : Page). FitsRead legal.flight failure.role y (page_view config a y)) x_is failure.fits

    why : Why config (past_view past) a f x kept idle legal.holds fails (is_private x && is_section_block legal.flight.block)
    why = go (is_private x && is_section_block legal.flight.block) refl fits
      where
        of_block : (d : BlockId) → is_section_block d ≡ true → a.lies x ≡ Some d → is_private x ≡ true → ⊥
        of_block (block.Section s i) is lies private = (kept.pages x).not_in_section s i (private_is_paged config x private) lies
        of_block (block.PageFile n) is lies private = false≢true is
        of_block (block.Swap q n) is lies private = false≢true is

        go : (c : Bool) → (is_private x && is_section_block legal.flight.block) ≡ c → FitsRead legal.flight failure.role x (page_view config a x) → Why config (past_view past) a f x kept idle legal.holds fails c
        go true is (inr first) = (legal.flight, (failure.role, first))
        go false is (inr first) = absurd (false≢true (sym is ∙ and_from _ _ first.private (behind_section a.map x legal.flight.block first.behind)))
        go false is (inl lies) = λ none saved. none-some _ (sym none ∙ lies)
        go true is (inl lies) = let parts = and_parts _ _ is in absurd (of_block legal.flight.block parts.1 lies parts.0)

pub reuse_kept : (config : Config) (past : List Entry) (a : Pager) (seat : Seat) (f : Pfn) (x : Page) → IsKept config (past_view past) a
    → (awaits_reuse past ≡ true → is_reuse_of (what.Reuse f x) seat.0 (failed_flight past) ≡ true) → IsReuse past a seat.0 f.0 x
    → IsKept config (past_view (record { seat = seat; what = what.Reuse f x } ∷ past)) (after_reuse past a f.0 x)
reuse_kept config past a seat f x before turn (inl legal) = reuse_free config past a f.0 x before (no_due config past a seat.0 f.0 x before turn legal) legal
reuse_kept config past a seat f x before turn (inr legal) = reuse_failed config past a seat.0 f.0 x before legal
