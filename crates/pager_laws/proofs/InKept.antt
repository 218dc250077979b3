-- IN.
use Rattle.pager_rules.proofs.Quiet.{none_failed}
use Rattle.std.proofs.Common.{◌≡◌, ◌⊎◌, ℕ, ◌+◌, ◌<◌, ◌≤◌, Bool, true, false, cond, ◌&&◌, List, ◌∷◌, Option, Some, None, length, nat_eq, count_by, refl, sym, ap, ◌∙◌, subst, inl, inr, arith}
use Rattle.std.proofs.lemmas.Bool.{ne_eqb, eqb-true, eq-eqb, and_left, and_from, and_parts, or_right, or_left, lt-ltb, false≢true}
use Rattle.std.proofs.lemmas.Option.{none-some}
use Rattle.vm_types.specs.Same.{same_page, same_block}
use Rattle.vm_types.specs.Ring.{filled}
use Rattle.vm_types.specs.declared.names.Page.{Page}
use Rattle.vm_types.specs.declared.names.Page.TheVariants.{Private}
use Rattle.vm_types.specs.declared.names.Proc.{Proc}
use Rattle.vm_types.specs.declared.names.Addr.{Addr}
use Rattle.vm_types.specs.declared.names.Pfn.{Pfn}
use Rattle.vm_types.specs.declared.names.Seat.{Seat}
use Rattle.vm_types.specs.declared.names.BlockId.{BlockId}
use Rattle.vm_types.specs.declared.names.FrameState.TheVariants as state
use Rattle.vm_types.specs.declared.names.ProcStatus.TheVariants as status
use Rattle.vm_types.specs.declared.config.Config.{Config}
use Rattle.vm_journal.specs.declared.entry.Entry.{Entry}
use Rattle.vm_journal.specs.declared.entry.Role.{Role}
use Rattle.vm_journal.specs.declared.entry.Role.TheVariants as role
use Rattle.vm_journal.specs.declared.entry.What.TheVariants as what
use Rattle.page_lists.specs.Lists.{without}
use Rattle.pager_model.specs.Around.{FrameView, block_view, entry_view, frame_view, page_view, past_view, process_view, quiet}
use Rattle.pager_model.specs.Flights.{Flight, is_busy, open_flights, reading}
use Rattle.pager_model.specs.In.{IsFirstIn, IsIn, IsInFault, IsInLying, after_in, after_in_fault, after_in_lying, charged_with}
use Rattle.pager_model.specs.Lookups.{IsHead, count_page, entries_at, own_page, own_section, page_by}
use Rattle.pager_model.specs.Maps.{is_paged, is_private, page_number}
use Rattle.pager_model.specs.Pager.{Pager}
use Rattle.pager_model.specs.Sets.{at_number}
use Rattle.pager_model.specs.Sound.{HasSwapped, is_out_state}
use Rattle.pager_model.specs.Transfers.{faults_of, is_fault_of, is_fault_role, is_on_block, is_read_on, is_write_on, reads_on, writes_on}
use Rattle.pager_rules.proofs.Basics.{at_number_other, at_number_same, count_cons, count_cons_no, count_cons_yes, nat_eq_refl, pages_equal}
use Rattle.pager_rules.proofs.Frames.{from_state}
use Rattle.pager_rules.proofs.Lists.{all_step}
use Rattle.pager_rules.proofs.Pages.{own_is, private_is_paged, swapped_frame}
use Rattle.pager_rules.proofs.Put.{and_false, blocks_equal, charged_other, charged_same, entries_put, free_row, head_counts, held_charged_put, held_put, idle_no_fault, no_block, no_entry, page_apart, unsaved_move, without_other, without_same}
use Rattle.pager_rules.proofs.Transfers.{alike, flight_same}
use Rattle.pager_rules.proofs.Views.{frames_move, pages_move}
use Rattle.pager_rules.specs.Kept.{FitsBlock, FitsFlight, FitsFrame, FitsPage, FitsRead, FitsRole, HasUnsaved, IsInFrame, IsKept, saves, views}

module _ (config : Config) (a : Pager) (flights : List Flight) (start p f : ℕ) (d : BlockId) (r : Role) (v : ℕ) (faults : ℕ → ℕ) (x : Page) (kept : IsKept config (quiet flights) a) where
  -- the flight that begins
  abbrev begun : Flight
  begun = record { start = start; seat = p; frame = f; block = d; direction = reading r }

  -- the page is charged now, or lies in the block
  abbrev From : Bool → Type 0
  From true = (is_fault_role r ≡ true) × IsFirstIn config a p v d x × (page_by config a.map p v ≡ Some x)
  From false = (a.lies x ≡ Some d) × (is_paged config x ≡ true → 0 < count_page a.charged x)

  abbrev charged : Bool → List Page
  charged c = cond c (x ∷ a.charged) a.charged

  abbrev b : Bool → Pager
  b c = record a {
    state = at_number a.state f state.Reading;
    page = at_number a.page f (Some x);
    free = without a.free f;
    faults = faults;
    charged = charged c;
  }

  more : (c : Bool) (g : Page) → count_page a.charged g ≤ count_page (charged c) g
  more true g = let whole = count_cons (same_page g) x a.charged in omega arith
  more false g = omega arith

  page_there : (c : Bool) (g : Page) → same_page g x ≡ false → page_view config (b c) g ≡ page_view config a g
  page_there true g apart = let charged_is = charged_other x g a.charged apart in cc
  page_there false g apart = refl

  pages : (c : Bool) → From c → (g : Page) → FitsPage g (page_view config (b c) g)
  pages false from = kept.pages
  pages true from = pages_move FitsPage (page_view config a) (page_view config (b true)) x (page_there true) here kept.pages
    where
      x_is : x ≡ Private (record { 0 = p }) v
      x_is = own_is config a.map p v x from.2 from.1.private

      here : FitsPage x (page_view config (b true) x)
      here =
          let fits = kept.pages x in
          let one = charged_same x a.charged in
          record {
            paged = λ some. private_is_paged config x from.1.private;
            charged = omega (arith, from.1.uncharged);
            touched = omega (arith, fits.touched);
            blocks = omega (arith, fits.blocks);
            mapped = λ some private. subst (λ (g : Page). own_page config a.map g ≡ Some x) (sym x_is) from.2;
            lying = λ e paged lies. omega (arith, from.1.uncharged);
            in_file = fits.in_file;
            not_in_section = fits.not_in_section;
            shared = fits.shared;
          }

  fit : (c : Bool) → From c → length (charged c) ≤ config.pagefile
  fit true from = from.1.room
  fit false from = kept.fit

  own_charged : (c : Bool) → From c → is_paged config x ≡ true → 0 < count_page (charged c) x
  own_charged true from paged = omega (arith, charged_same x a.charged)
  own_charged false from paged = from.1 paged

  not_lying : (c : Bool) → From c → (g : Page) → 0 < count_page (charged c) g → a.lies g ≡ None → (g ≡ x) ⊎ (0 < count_page a.charged g)
  not_lying false from g some lies = inr some
  not_lying true from g some lies = go (same_page g x) refl
    where
      go : (e : Bool) → same_page g x ≡ e → (g ≡ x) ⊎ (0 < count_page a.charged g)
      go true same = inl (pages_equal g x same)
      go false apart = inr (omega (arith, charged_other x g a.charged apart))

  read : (c : Bool) → From c → FitsRead begun r x (page_view config (b c) x)
  read false from = inl from.0
  read true from =
      let x_is = own_is config a.map p v x from.2 from.1.private in
      let fits = kept.pages x in
      inr (record {
        fault = from.0;
        private = from.1.private;
        behind = subst (λ (g : Page). own_section a.map g ≡ Some d) (sym x_is) from.1.behind;
        charged = omega (arith, charged_same x a.charged, from.1.uncharged);
        untouched = omega (arith, fits.touched, from.1.uncharged);
        unassigned = no_block a.assigned x (omega (arith, fits.blocks, from.1.uncharged));
        nowhere = nowhere (a.lies x) refl;
      })
    where
      nowhere : (o : Option BlockId) → a.lies x ≡ o → a.lies x ≡ None
      nowhere None is = is
      nowhere (Some e) is = absurd (omega (arith, (kept.pages x).lying e (private_is_paged config x from.1.private) is, from.1.uncharged))

  module _ (c : Bool) (from : From c) (out : (g : ℕ) → a.page g ≡ Some x → ⊥) (fits_role : FitsRole begun x (process_view config a) (entry_view config a) r)
      (not_other : is_fault_role r ≡ true → is_busy p flights ≡ false) (home : count_by (is_on_block d) flights ≡ 0) (head : IsHead a.free f) (empty : a.page f ≡ None) where
    abbrev old : ℕ → FrameView
    old = frame_view config (quiet flights) a

    abbrev now : ℕ → FrameView
    now = frame_view config (quiet (begun ∷ flights)) (b c)

    row : FitsFrame (record (old f) { state = state.Free })
    row = free_row (old f) (kept.frames f) (head_counts a.free f head)

    one_read : reads_on f (begun ∷ flights) ≡ 1 + reads_on f flights
    one_read = count_cons_yes (is_read_on f) begun flights (and_from _ _ (nat_eq_refl f) refl)

    here : FitsFrame (now f)
    here = from_state (now f) state.Reading (at_number_same a.state f state.Reading) (record {
      bad = row.bad;
      on_free = without_same a.free f;
      on_modified = row.on_modified;
      shares = row.shares;
      reads = omega (arith, one_read, row.reads);
      writes = count_cons_no (is_write_on f) begun flights (and_false (nat_eq f f)) ∙ row.writes;
      failed = refl;
      page = (x, at_number_same a.page f (Some x));
      mark = row.mark;
    })

    there : (g : ℕ) → (f ≡ g → ⊥) → now g ≡ old g
    there g apart =
        let state_is = at_number_other a.state f state.Reading g apart in
        let page_is = at_number_other a.page f (Some x) g apart in
        let free_is = without_other a.free f g apart in
        let reads_is = count_cons_no (is_read_on g) begun flights (and_left _ _ (ne_eqb f g apart)) in
        let writes_is = count_cons_no (is_write_on g) begun flights (and_left _ _ (ne_eqb f g apart)) in
        cc

    unsaved : HasUnsaved config (quiet (begun ∷ flights)) (b c)
    unsaved = unsaved_move config (quiet flights) (quiet (begun ∷ flights)) a (b c) f there step kept.unsaved
      where
        in_f : (g : Page) → g ≡ x → IsInFrame config (quiet (begun ∷ flights)) (b c) g
        in_f g is = (f, at_number_same a.page f (Some x) ∙ ap Some (sym is), or_right (a.modify f) _ (or_left _ _ (lt-ltb 0 (reads_on f (begun ∷ flights) + writes_on f (begun ∷ flights)) (omega (arith, one_read)))))

        step : (g : Page) → 0 < count_page (charged c) g → a.lies g ≡ None → IsInFrame config (quiet (begun ∷ flights)) (b c) g ⊎ ((0 < count_page a.charged g) × (a.lies g ≡ None) × (a.page f ≡ Some g → saves (frame_view config (quiet flights) a f) ≡ true → IsInFrame config (quiet (begun ∷ flights)) (b c) g))
        step g some lies = by (not_lying c from g some lies)
          where
            by : (g ≡ x) ⊎ (0 < count_page a.charged g) → IsInFrame config (quiet (begun ∷ flights)) (b c) g ⊎ ((0 < count_page a.charged g) × (a.lies g ≡ None) × (a.page f ≡ Some g → saves (frame_view config (quiet flights) a f) ≡ true → IsInFrame config (quiet (begun ∷ flights)) (b c) g))
            by (inl is) = inl (in_f g is)
            by (inr was) = inr (was, lies, λ holds saved. absurd (none-some g (sym empty ∙ holds)))

    swapped : HasSwapped a.lies a.status a.ring (b c).state (b c).page
    swapped = swapped_frame a.lies a.status a.ring a.state (b c).state a.page (b c).page f
        (λ h apart. at_number_other a.state f state.Reading h apart) (λ h apart. at_number_other a.page f (Some x) h apart)
        (λ g q n holds old. inl (ap is_out_state (at_number_same a.state f state.Reading)))
        kept.swapped

    block_fits : (e : BlockId) → FitsBlock (block_view (quiet (begun ∷ flights)) (b c) e)
    block_fits e = record { owners = (kept.blocks e).owners; flights = go (same_block e d) refl }
      where
        go : (s : Bool) → same_block e d ≡ s → count_by (is_on_block e) (begun ∷ flights) ≤ 1
        go true same =
            let zero : count_by (is_on_block e) flights ≡ 0 = subst (λ (k : BlockId). count_by (is_on_block k) flights ≡ 0) (sym (blocks_equal e d same)) home in
            omega (arith, count_cons_yes (is_on_block e) begun flights same)
        go false other = omega (arith, count_cons_no (is_on_block e) begun flights other, (kept.blocks e).flights)

    one_fault : (s : ℕ) → faults_of s (begun ∷ flights) ≤ 1
    one_fault s = go (is_fault_of s begun) refl
      where
        go : (e : Bool) → is_fault_of s begun ≡ e → faults_of s (begun ∷ flights) ≤ 1
        go true is =
            let parts = and_parts (nat_eq p s) (is_fault_role r) is in
            let zero : faults_of s flights ≡ 0 = subst (λ (q : ℕ). faults_of q flights ≡ 0) (eqb-true p s parts.0) (idle_no_fault p flights (not_other parts.1)) in
            omega (arith, count_cons_yes (is_fault_of s) begun flights is)
        go false other = omega (arith, count_cons_no (is_fault_of s) begun flights other, kept.one_fault s)

    pub read_begun : IsKept config (quiet (begun ∷ flights)) (b c)
    read_begun = record {
      frames = frames_move FitsFrame old now f there here kept.frames;
      processes = kept.processes;
      entries = kept.entries;
      valid = entries_put config a.map a.page f (Some x) a.valid empty kept.valid;
      pages = pages c from;
      blocks = block_fits;
      fit = fit c from;
      held_once = held_put a.page f x out kept.held_once;
      held_charged = held_charged_put config a.page a.charged (charged c) f x (own_charged c from) (more c) kept.held_charged;
      unsaved = unsaved;
      swapped = swapped;
      coming_once = kept.coming_once;
      transfers = (
        record { page = x; held = at_number_same a.page f (Some x); fits = (read c from, fits_role) },
        all_step (FitsFlight (views config a)) (FitsFlight (views config (b c))) flights
            (λ y counts fits.
            flight_same (views config a) (b c).page (page_view config (b c)) y (at_number_other a.page f (Some x) y.frame (λ same. none-some fits.page (sym empty ∙ (ap a.page same ∙ fits.held))))
            (λ g holds. alike _ _ _ (page_there c g (page_apart g x (λ same. out y.frame (holds ∙ ap Some same))))) fits)
            kept.transfers,
      );
      one_fault = one_fault;
      failed = none_failed _ _;
    }

-- ---- FAULT: whether the page is charged now
from_legal : (config : Config) (a : Pager) (flights : List Flight) (p : ℕ) (d : BlockId) (r : Role) (v : ℕ) (faults : ℕ → ℕ) (x : Page) (kept : IsKept config (quiet flights) a) → is_fault_role r ≡ true → page_by config a.map p v ≡ Some x
    → (a.lies x ≡ Some d) ⊎ IsFirstIn config a p v d x → From config a flights 0 p 0 d r v faults x kept (is_private x && nat_eq (count_page a.charged x) 0)
from_legal config a flights p d r v faults x kept fault own from = go (is_private x) refl (nat_eq (count_page a.charged x) 0) refl from
  where
    go : (c : Bool) → is_private x ≡ c → (n : Bool) → nat_eq (count_page a.charged x) 0 ≡ n → (a.lies x ≡ Some d) ⊎ IsFirstIn config a p v d x → From config a flights 0 p 0 d r v faults x kept (c && n)
    go true private true none (inl lies) = let one = (kept.pages x).lying d (private_is_paged config x private) lies in let zero = eqb-true _ _ none in absurd (omega arith)
    go true private false some (inl lies) = (lies, λ paged. omega (arith, (kept.pages x).lying d paged lies))
    go false shared n is (inl lies) = (lies, λ paged. omega (arith, (kept.pages x).lying d paged lies))
    go true private true none (inr first) = (fault, first, own)
    go true private false some (inr first) = absurd (false≢true (sym some ∙ eq-eqb _ _ first.uncharged))
    go false shared n is (inr first) = absurd (false≢true (sym shared ∙ first.private))

in_fault_kept : (config : Config) (past : List Entry) (a : Pager) (seat : Seat) (f : Pfn) (d : BlockId) (q : Proc) (address : Addr) → IsKept config (quiet (open_flights past)) a
    → is_busy seat.0 (open_flights past) ≡ false → IsInFault config past a seat.0 f.0 d q.0 address.0
    → IsKept config (past_view (record { seat = seat; what = what.In f d (role.Fault q address) } ∷ past)) (after_in_fault config a q.0 address.0 f.0)
in_fault_kept config past a seat f d q address before idle legal =
    let kept = before in
    let v = page_number address.0 in
    let faults = at_number a.faults q.0 (a.faults q.0 + 1) in
    let own : page_by config a.map seat.0 v ≡ Some legal.page = legal.mapped in
    let none = no_entry config a.map a.page a.valid seat.0 v legal.page own legal.out kept.valid in
    let fits : FitsRole (record { start = length past + 1; seat = seat.0; frame = f.0; block = d; direction = reading (role.Fault q address) }) legal.page (process_view config a) (entry_view config a) (role.Fault q address)
    = subst (λ (r : ℕ). (seat.0 ≡ r) × (a.status r ≡ status.Resident) × (page_by config a.map r v ≡ Some legal.page) × (entries_at a.valid r v ≡ 0) × (filled (a.ring r).slots < a.limit r)) (sym legal.self) (refl, legal.own.resident, own, none, legal.below_limit) in
    let begun = read_begun config a (open_flights past) (length past + 1) seat.0 f.0 d (role.Fault q address) v faults legal.page kept (is_private legal.page && nat_eq (count_page a.charged legal.page) 0)
    (from_legal config a (open_flights past) seat.0 d (role.Fault q address) v faults legal.page kept refl own legal.from) legal.out fits (λ fault. idle) legal.home.still legal.frame.head legal.frame.empty in
    subst (λ (o : Option Page). IsKept config (quiet (record { start = length past + 1; seat = seat.0; frame = f.0; block = d; direction = reading (role.Fault q address) } ∷ open_flights past))
    (record a { state = at_number a.state f.0 state.Reading; page = at_number a.page f.0 o; free = without a.free f.0; faults = faults; charged = charged_with a.charged o }))
    (sym (subst (λ (r : ℕ). page_by config a.map r v ≡ Some legal.page) (sym legal.self) own)) begun

-- ---- NEAR and COME
lying_begun : (config : Config) (past : List Entry) (a : Pager) (seat f : ℕ) (d : BlockId) (r : Role) (x : Page) → IsKept config (quiet (open_flights past)) a → IsInLying config past a f d x → is_fault_role r ≡ false
    → FitsRole (record { start = length past + 1; seat = seat; frame = f; block = d; direction = reading r }) x (process_view config a) (entry_view config a) r
    → IsKept config (quiet (record { start = length past + 1; seat = seat; frame = f; block = d; direction = reading r } ∷ open_flights past)) (after_in_lying a f (Some x))
lying_begun config past a seat f d r x before legal other fits =
    let kept = before in
    read_begun config a (open_flights past) (length past + 1) seat f d r 0 a.faults x kept false (legal.lies, λ paged. omega (arith, (kept.pages x).lying d paged legal.lies)) legal.out fits
    (λ fault. absurd (false≢true (sym other ∙ fault))) legal.home.still legal.frame.head legal.frame.empty

pub in_kept : (config : Config) (past : List Entry) (a : Pager) (seat : Seat) (f : Pfn) (d : BlockId) (r : Role) → IsKept config (quiet (open_flights past)) a → (is_fault_role r ≡ true → is_busy seat.0 (open_flights past) ≡ false) → IsIn r config past a seat.0 f.0 d
    → IsKept config (past_view (record { seat = seat; what = what.In f d r } ∷ past)) (after_in config a f.0 r)
in_kept config past a seat f d (role.Fault q address) before alone legal = in_fault_kept config past a seat f d q address before (alone refl) legal
in_kept config past a seat f d (role.Near g) before alone legal = lying_begun config past a seat.0 f.0 d (role.Near g) g before legal.lying refl refl
in_kept config past a seat f d (role.Come q address) before alone legal =
    subst (λ (o : Option Page). IsKept config (quiet (record { start = length past + 1; seat = seat.0; frame = f.0; block = d; direction = reading (role.Come q address) } ∷ open_flights past)) (after_in_lying a f.0 o)) (sym legal.mapped)
    (lying_begun config past a seat.0 f.0 d (role.Come q address) legal.page before legal.lying refl (legal.coming, legal.mapped, (legal.slot, legal.block)))
