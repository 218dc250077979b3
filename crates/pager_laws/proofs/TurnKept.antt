-- TURN.
use Rattle.pager_rules.proofs.Quiet.{none_failed}
use Rattle.std.proofs.Common.{◌≡◌, ◌⊎◌, ℕ, zero, suc, ◌+◌, ◌<◌, ◌≤◌, Bool, true, false, cond, List, [], ◌||◌, ◌∷◌, Option, Some, None, length, map, nat_eq, count_by, slice_get, refl, sym, ap, ap₂, ◌∙◌, subst, subst₂, inl, inr, arith}
use Rattle.std.proofs.lemmas.Bool.{cases_eq, eqb-true, eq-eqb, and_from}
use Rattle.std.proofs.lemmas.List.{length-map}
use Rattle.vm_types.specs.Configuration.{pins_of}
use Rattle.vm_types.specs.Ring.{Ring, Held, fixed, is_fixed_slot, is_pinned_slot, is_unpinned_slot, pinned, unpinned}
use Rattle.vm_types.specs.declared.names.Page.{Page}
use Rattle.vm_types.specs.declared.names.Page.TheVariants.{Private, Shared}
use Rattle.vm_types.specs.declared.names.Proc.{Proc}
use Rattle.vm_types.specs.declared.names.Seat.{Seat}
use Rattle.vm_types.specs.declared.names.BlockId.TheVariants as block
use Rattle.vm_types.specs.declared.names.FrameState.TheVariants as state
use Rattle.vm_types.specs.declared.names.ProcStatus.{ProcStatus}
use Rattle.vm_types.specs.declared.names.ProcStatus.TheVariants as status
use Rattle.vm_types.specs.declared.config.Config.{Config}
use Rattle.vm_journal.specs.declared.entry.Entry.{Entry}
use Rattle.vm_journal.specs.declared.entry.What.TheVariants as what
use Rattle.pager_model.specs.Around.{PastView, entry_view, frame_view, past_view, process_view, quiet}
use Rattle.pager_model.specs.Flights.{Flight, open_flights}
use Rattle.pager_model.specs.Lookups.{entries_at, has_pin, has_vpn, is, is_entry, is_of, page_by, pins_with, slot_of, slots_with}
use Rattle.pager_model.specs.Maps.{proc}
use Rattle.pager_model.specs.Pager.{Pager, Valid}
use Rattle.pager_model.specs.Ring.{unlocked_slot}
use Rattle.pager_model.specs.Sets.{at_number}
use Rattle.pager_model.specs.Sound.{FitsSlot, HasSwapped, IsSwapped, MayHoldSwapped, pins_of_page}
use Rattle.pager_model.specs.Transfers.{is_come}
use Rattle.pager_model.specs.Turn.{IsTurn, IsTurned, after_turn, turned_ring}
use Rattle.pager_rules.proofs.Basics.{at_number_other, at_number_same, count_cons, count_none, nat_eq_refl, states_equal}
use Rattle.pager_rules.proofs.Frames.{at_state}
use Rattle.pager_rules.proofs.Lists.{all_found, all_step, count_found, found_one, found_passes}
use Rattle.pager_rules.proofs.Pages.{is_of_private, own_is, own_process}
use Rattle.pager_rules.proofs.Transfers.{IsFar, flight_far}
use Rattle.pager_rules.proofs.Views.{frames_move}
use Rattle.pager_rules.specs.Kept.{ComingOnce, FitsEntry, FitsFlight, FitsProcess, IsForItsPage, IsKept, views}
use Rattle.pager_rules.proofs.Pins.{all_pinned, pins_of_less, unpinned_at}

-- ---- the ring, but for its locks
record IsRelocked (old new : Ring) : Type 0 where
  vpns : (w : ℕ) → slots_with new w ≡ slots_with old w
  pins : (w : ℕ) → pins_with new w ≡ pins_with old w
  pinned : pinned new.slots ≡ pinned old.slots
  unpinned : unpinned new.slots ≡ unpinned old.slots
  locks : fixed new.slots ≤ fixed old.slots
  slots : length new.slots ≡ length old.slots
  hand : new.hand ≡ old.hand
  slot : (p n : ℕ) (g : Page) → FitsSlot p (slot_of (slice_get old.slots n)) g → FitsSlot p (slot_of (slice_get new.slots n)) g

pub count_map : (t u : Option Held → Bool) (f : Option Held → Option Held) → ((o : Option Held) → u (f o) ≡ t o) → (xs : List (Option Held)) → count_by u (map f xs) ≡ count_by t xs
count_map t u f same [] = refl
count_map t u f same (x ∷ xs) = count_cons u (f x) (map f xs) ∙ (ap₂ (λ (b : Bool) (n : ℕ). cond b 1 0 + n) (same x) (count_map t u f same xs) ∙ sym (count_cons t x xs))

-- no more slots pass a test where none passes it anew
pub count_fewer : (t : Option Held → Bool) (f : Option Held → Option Held) → ((o : Option Held) → cond {A = ℕ} (t (f o)) 1 0 ≤ cond {A = ℕ} (t o) 1 0) → (xs : List (Option Held)) → count_by t (map f xs) ≤ count_by t xs
count_fewer t f fewer [] = omega arith
count_fewer t f fewer (x ∷ xs) = omega (arith, fewer x, count_fewer t f fewer xs, count_cons t (f x) (map f xs), count_cons t x xs)

-- a slot fits a page still where each one that fits it does
pub fits_map : (f : Option Held → Option Held) (p n : ℕ) (g : Page) → ((o : Option Held) → FitsSlot p o g → FitsSlot p (f o) g) → (xs : List (Option Held)) → FitsSlot p (slot_of (slice_get xs n)) g
    → FitsSlot p (slot_of (slice_get (map f xs) n)) g
fits_map f p n g one [] fits = fits
fits_map f p zero g one (x ∷ xs) fits = one x fits
fits_map f p (suc n) g one (x ∷ xs) fits = fits_map f p n g one xs fits

relocked : (s : ProcStatus) (ring : Ring) → IsRelocked ring (turned_ring s ring)
relocked status.Leaving ring = record {
  vpns = λ w. count_map (has_vpn w) (has_vpn w) unlocked_slot (vpn w) ring.slots;
  pins = λ w. count_map (has_pin w) (has_pin w) unlocked_slot (pin w) ring.slots;
  pinned = count_map is_pinned_slot is_pinned_slot unlocked_slot pins ring.slots;
  unpinned = count_map is_unpinned_slot is_unpinned_slot unlocked_slot stays ring.slots;
  locks = count_fewer is_fixed_slot unlocked_slot fewer ring.slots;
  slots = length-map ring.slots unlocked_slot;
  hand = refl;
  slot = λ p n g fits. fits_map unlocked_slot p n g (still p g) ring.slots fits;
}
  where
    fewer_by : (b c : Bool) → cond {A = ℕ} c 1 0 ≤ cond {A = ℕ} (b || c) 1 0
    fewer_by true true = omega arith
    fewer_by true false = omega arith
    fewer_by false c = omega arith

    fewer : (o : Option Held) → cond {A = ℕ} (is_fixed_slot (unlocked_slot o)) 1 0 ≤ cond {A = ℕ} (is_fixed_slot o) 1 0
    fewer None = omega arith
    fewer (Some held) = fewer_by held.locked held.pinned

    still : (p : ℕ) (g : Page) (o : Option Held) → FitsSlot p o g → FitsSlot p (unlocked_slot o) g
    still p g None fits = fits
    still p (Private q v) (Some held) fits = fits
    still p (Shared s i) (Some held) fits = fits

    vpn : (w : ℕ) (o : Option Held) → has_vpn w (unlocked_slot o) ≡ has_vpn w o
    vpn w None = refl
    vpn w (Some held) = refl

    pin : (w : ℕ) (o : Option Held) → has_pin w (unlocked_slot o) ≡ has_pin w o
    pin w None = refl
    pin w (Some held) = refl

    pins : (o : Option Held) → is_pinned_slot (unlocked_slot o) ≡ is_pinned_slot o
    pins None = refl
    pins (Some held) = refl

    stays : (o : Option Held) → is_unpinned_slot (unlocked_slot o) ≡ is_unpinned_slot o
    stays None = refl
    stays (Some held) = refl
relocked other ring = record { vpns = λ w. refl; pins = λ w. refl; pinned = refl; unpinned = refl; locks = omega arith; slots = refl; hand = refl; slot = λ p n g fits. fits }

module _ (config : Config) (a : Pager) (flights : List Flight) (p : ℕ) (s : ProcStatus) (kept : IsKept config (quiet flights) a) where
  abbrev new : Ring
  new = turned_ring s (a.ring p)

  abbrev b : Pager
  b = after_turn a p s

  process_there : (q : ℕ) → (p ≡ q → ⊥) → process_view config b q ≡ process_view config a q
  process_there q apart =
      let status_is = at_number_other a.status p s q apart in
      let ring_is = at_number_other a.ring p new q apart in
      cc

  entry_there : (q u : ℕ) → (p ≡ q → ⊥) → entry_view config b q u ≡ entry_view config a q u
  entry_there q u apart =
      let status_is = at_number_other a.status p s q apart in
      let slots_is = ap (λ (r : Ring). slots_with r u) (at_number_other a.ring p new q apart) in
      let pins_is = ap (λ (r : Ring). pins_with r u) (at_number_other a.ring p new q apart) in
      cc

  process_here : (s ≡ status.Gone → unpinned (a.ring p).slots ≡ 0) → FitsProcess (process_view config b p)
  process_here gone =
      let old = kept.processes p in
      let ring = relocked s (a.ring p) in
      subst₂ (λ (t : ProcStatus) (r : Ring). FitsProcess (record (process_view config a p) { status = t; ring = r })) (sym (at_number_same a.status p s)) (sym (at_number_same a.ring p new)) (record {
        bounds = λ spec found. let o = old.bounds spec found in record { locks = omega (arith, ring.locks, o.locks); pins = subst (λ (n : ℕ). n ≤ pins_of config.version spec) (sym ring.pinned) o.pins; least = o.least; most = o.most; slots = ring.slots ∙ o.slots; hand = omega (arith, ring.hand, o.hand) };
        gone = λ is. ring.unpinned ∙ gone is;
        none = λ none. ((old.none none).0, ring.slots ∙ (old.none none).1);
      })

  entry_here : (s ≡ status.Coming → unpinned (a.ring p).slots ≡ 0) → (u : ℕ) → FitsEntry (entry_view config b p u)
  entry_here coming u =
      let old = kept.entries p u in
      let ring = relocked s (a.ring p) in
      subst₂ (λ (t : ProcStatus) (r : Ring). FitsEntry (record { mapped = page_by config a.map p u; entries = entries_at a.valid p u; slots = slots_with r u; pins = pins_with r u; status = t })) (sym (at_number_same a.status p s)) (sym (at_number_same a.ring p new)) (record {
        once = old.once;
        slots = ring.vpns u ∙ old.slots;
        coming = λ g is some mapped. inr (omega (arith, ring.pins u, all_pinned (a.ring p).slots u (coming is), old.slots));
      })

  entries : (s ≡ status.Coming → unpinned (a.ring p).slots ≡ 0) → (q u : ℕ) → FitsEntry (entry_view config b q u)
  entries coming q u = go (cases_eq p q)
    where
      go : (p ≡ q) ⊎ (p ≡ q → ⊥) → FitsEntry (entry_view config b q u)
      go (inl same) = subst (λ (r : ℕ). FitsEntry (entry_view config b r u)) same (entry_here coming u)
      go (inr apart) = subst FitsEntry (sym (entry_there q u apart)) (kept.entries q u)

  -- the pages that lie in p's swap blocks
  pub record IsMoved : Type 0 where
    pub gone : s ≡ status.Gone → unpinned (a.ring p).slots ≡ 0
    pub coming : s ≡ status.Coming → unpinned (a.ring p).slots ≡ 0
    pub alone : s ≡ status.Coming → (q : ℕ) → a.status q ≡ status.Coming → ⊥
    pub away : (g : Page) (n : ℕ) → a.lies g ≡ Some (block.Swap (proc p) n) → s ≡ status.Resident → ⊥
    pub frame : (g : Page) (n f : ℕ) → a.lies g ≡ Some (block.Swap (proc p) n) → a.page f ≡ Some g → MayHoldSwapped (a.state f) (a.status p) → MayHoldSwapped (a.state f) s
    pub far : (x : Flight) → ((t : Flight → Bool) → t x ≡ true → 0 < count_by t flights) → IsFar (views config a) x p

  swapped : IsMoved → HasSwapped a.lies b.status b.ring a.state a.page
  swapped moved g q n lies = go (cases_eq p q)
    where
      old : IsSwapped a.lies a.status a.ring a.state a.page g q n
      old = kept.swapped g q n lies

      Result : ProcStatus → Ring → Type 0
      Result t r = (t ≡ status.Resident → ⊥) × (n < length r.slots) × FitsSlot q (slot_of (slice_get r.slots n)) g × (pins_of_page r g ≡ 0) × ((f : ℕ) → a.page f ≡ Some g → MayHoldSwapped (a.state f) t)

      from : Result (b.status q) (b.ring q) → IsSwapped a.lies b.status b.ring a.state a.page g q n
      from result = record { own = old.own; away = result.0; alone = old.alone; within = result.1; slot = result.2; unpinned = result.3; frame = result.4 }

      go : (p ≡ q) ⊎ (p ≡ q → ⊥) → IsSwapped a.lies b.status b.ring a.state a.page g q n
      go (inr apart) = from (subst₂ Result (sym (at_number_other a.status p s q apart)) (sym (at_number_other a.ring p new q apart)) (old.away, old.within, old.slot, old.unpinned, old.frame))
      go (inl same) =
          let lies_p : a.lies g ≡ Some (block.Swap (proc p) n) = subst (λ (r : ℕ). a.lies g ≡ Some (block.Swap (proc r) n)) (sym same) lies in
          let status_is : b.status q ≡ s = subst (λ (r : ℕ). at_number a.status p s r ≡ s) same (at_number_same a.status p s) in
          let ring_is : b.ring q ≡ new = subst (λ (r : ℕ). at_number a.ring p new r ≡ new) same (at_number_same a.ring p new) in
          from (subst₂ Result (sym status_is) (sym ring_is) (
            moved.away g n lies_p,
            subst (λ (m : ℕ). n < m) (sym (relocked s (a.ring p)).slots) (subst (λ (r : ℕ). n < length (a.ring r).slots) (sym same) old.within),
            (relocked s (a.ring p)).slot q n g (subst (λ (r : ℕ). FitsSlot q (slot_of (slice_get (a.ring r).slots n)) g) (sym same) old.slot),
            pins_of_less g (a.ring p) new (λ w. omega (arith, (relocked s (a.ring p)).pins w)) (subst (λ (r : ℕ). pins_of_page (a.ring r) g ≡ 0) (sym same) old.unpinned),
            λ f held. moved.frame g n f lies_p held (subst (λ (r : ℕ). MayHoldSwapped (a.state f) (a.status r)) (sym same) (old.frame f held)),
          ))

  coming_once : IsMoved → ComingOnce b.status
  coming_once moved q r coming also = go (cases_eq p q) (cases_eq p r)
    where
      own : (k : ℕ) → p ≡ k → b.status k ≡ status.Coming → s ≡ status.Coming
      own k same is = sym (subst (λ (j : ℕ). at_number a.status p s j ≡ s) same (at_number_same a.status p s)) ∙ is

      old : (k : ℕ) → (p ≡ k → ⊥) → b.status k ≡ status.Coming → a.status k ≡ status.Coming
      old k apart is = sym (at_number_other a.status p s k apart) ∙ is

      go : (p ≡ q) ⊎ (p ≡ q → ⊥) → (p ≡ r) ⊎ (p ≡ r → ⊥) → q ≡ r
      go (inl x) (inl y) = sym x ∙ y
      go (inl x) (inr y) = absurd (moved.alone (own q x coming) r (old r y also))
      go (inr x) (inl y) = absurd (moved.alone (own r y also) q (old q x coming))
      go (inr x) (inr y) = kept.coming_once q r (old q x coming) (old r y also)

  pub turned : IsMoved → IsKept config (quiet flights) b
  turned moved = record {
    frames = kept.frames;
    processes = frames_move FitsProcess (process_view config a) (process_view config b) p process_there (process_here moved.gone) kept.processes;
    entries = entries moved.coming;
    valid = kept.valid;
    pages = kept.pages;
    blocks = kept.blocks;
    fit = kept.fit;
    held_once = kept.held_once;
    held_charged = kept.held_charged;
    unsaved = kept.unsaved;
    swapped = swapped moved;
    coming_once = coming_once moved;
    transfers = all_step (FitsFlight (views config a)) (FitsFlight (views config b)) flights
        (λ x counts fits. flight_far (views config a) (process_view config b) (entry_view config b) p x process_there entry_there (moved.far x counts) fits) kept.transfers;
    one_fault = kept.one_fault;
    failed = none_failed _ _;
  }

-- a page of p in an active frame is in p's ring, so it is pinned where all pages of the ring are
in_ring : (config : Config) (o : PastView) (a : Pager) (p : ℕ) → IsKept config o a → (g : Page) (f : ℕ) → is_of p g ≡ true → a.page f ≡ Some g → a.state f ≡ state.Active → unpinned (a.ring p).slots ≡ 0 → pins_of_page (a.ring p) g ≡ 0 → ⊥
in_ring config o a p kept g f own holds active none off =
    let row = at_state (frame_view config o a f) state.Active active (kept.frames f) in
    let found = found_one (λ (y : Valid). nat_eq y.frame f) a.valid row.shares in
    let e = found.0 in
    let fits = all_found (IsForItsPage config a.map a.page) (λ (y : Valid). nat_eq y.frame f) a.valid e kept.valid found.1 in
    let frame : e.frame ≡ f = eqb-true _ _ (found_passes (λ (y : Valid). nat_eq y.frame f) a.valid e found.1) in
    let there : a.page f ≡ Some fits.0 = subst (λ (h : ℕ). a.page h ≡ Some fits.0) frame fits.2 in
    let page : fits.0 ≡ g = cc in
    let mine : e.proc ≡ p = own_process config a.map e.proc e.vpn p g (fits.1 ∙ ap Some page) own in
    let some : 0 < entries_at a.valid p e.vpn = count_found (is_entry p e.vpn) (λ (y : Valid). nat_eq y.frame f) a.valid e found.1 (and_from _ _ (eq-eqb _ _ mine) (nat_eq_refl e.vpn)) in
    let g_is : g ≡ Private (proc e.proc) e.vpn = own_is config a.map e.proc e.vpn g (fits.1 ∙ ap Some page) (is_of_private p g own) in
    let free : pins_with (a.ring p) e.vpn ≡ 0 = subst (λ (y : Page). pins_of_page (a.ring p) y ≡ 0) g_is off in
    omega (arith, (kept.entries p e.vpn).slots, all_pinned (a.ring p).slots e.vpn none)

moved : (config : Config) (a : Pager) (past : List Entry) (p : ℕ) (s : ProcStatus) (kept : IsKept config (quiet (open_flights past)) a) → IsTurned past a p s → IsMoved config a (open_flights past) p s kept
moved config a past p status.Leaving kept legal = record {
  gone = λ is. absurd (cc);
  coming = λ is. absurd (cc);
  alone = λ is. absurd (cc);
  away = λ g n lies is. cc;
  frame = λ g n f lies holds may. out f may legal.was;
  far = λ x counts. record {
    fault = λ q address is seat resident same. omega (arith, counts (λ (y : Flight). nat_eq y.seat p) (eq-eqb _ _ (seat ∙ sym same)), count_none (λ (y : Flight). nat_eq y.seat p) (open_flights past) legal.idle);
    come = λ q address n g is coming d_is lies same. omega (arith, counts (λ (y : Flight). is_come p y.direction) (ap (is_come p) is ∙ eq-eqb _ _ (sym same)), count_none (λ (y : Flight). is_come p y.direction) (open_flights past) legal.no_come);
    swap = λ g w q leaving n held is off same. not_leaving legal.was (ap a.status same ∙ leaving);
  };
}
  where
    not_leaving : (a.status p ≡ status.Resident) ⊎ (a.status p ≡ status.Coming) → a.status p ≡ status.Leaving → ⊥
    not_leaving (inl was) is = cc
    not_leaving (inr was) is = cc

    out : (f : ℕ) → MayHoldSwapped (a.state f) (a.status p) → (a.status p ≡ status.Resident) ⊎ (a.status p ≡ status.Coming) → MayHoldSwapped (a.state f) status.Leaving
    out f (inl is) was = inl is
    out f (inr is) was = absurd (not_leaving was is.0)
moved config a past p status.Gone kept legal = record {
  gone = λ is. legal.1;
  coming = λ is. absurd (cc);
  alone = λ is. absurd (cc);
  away = λ g n lies is. cc;
  frame = λ g n f lies holds may. out g n f lies holds may;
  far = λ x counts. record {
    fault = λ q address is seat resident same. let here = legal.0 in let there = ap a.status same ∙ resident in cc;
    come = λ q address n g is coming d_is lies same. let here = legal.0 in let there = ap a.status same ∙ coming in cc;
    swap = λ g w q leaving n held is off same. omega (arith, legal.1, unpinned_at (a.ring p).slots n held (subst (λ (r : ℕ). slice_get (a.ring r).slots n ≡ Some (Some held)) (sym same) is) off);
  };
}
  where
    out : (g : Page) (n f : ℕ) → a.lies g ≡ Some (block.Swap (proc p) n) → a.page f ≡ Some g → MayHoldSwapped (a.state f) (a.status p) → MayHoldSwapped (a.state f) status.Gone
    out g n f lies holds (inl is) = inl is
    out g n f lies holds (inr is) = absurd (in_ring config (quiet (open_flights past)) a p kept g f (kept.swapped g p n lies).own holds (states_equal _ _ is.1) legal.1 (kept.swapped g p n lies).unpinned)
moved config a past p status.Coming kept legal = record {
  gone = λ is. absurd (cc);
  coming = λ is. (kept.processes p).gone legal.0;
  alone = λ is q other. legal.1 q other;
  away = λ g n lies is. cc;
  frame = λ g n f lies holds may. out f may;
  far = λ x counts. record {
    fault = λ q address is seat resident same. let here = legal.0 in let there = ap a.status same ∙ resident in cc;
    come = λ q address n g is coming d_is lies same. let here = legal.0 in let there = ap a.status same ∙ coming in cc;
    swap = λ g w q leaving n held is off same. let here = legal.0 in let there = ap a.status same ∙ leaving in cc;
  };
}
  where
    out : (f : ℕ) → MayHoldSwapped (a.state f) (a.status p) → MayHoldSwapped (a.state f) status.Coming
    out f (inl is) = inl is
    out f (inr is) = absurd (let here = legal.0 in let there = is.0 in cc)
moved config a past p status.Resident kept legal = record {
  gone = λ is. absurd (cc);
  coming = λ is. absurd (cc);
  alone = λ is. absurd (cc);
  away = λ g n lies is. legal.1 g n lies;
  frame = λ g n f lies holds may. absurd (legal.1 g n lies);
  far = λ x counts. record {
    fault = λ q address is seat resident same. let here = legal.0 in let there = ap a.status same ∙ resident in cc;
    come = λ q address n g is coming d_is lies same. legal.1 g n (lies ∙ ap Some (d_is ∙ ap (λ (r : ℕ). block.Swap (proc r) n) (sym same)));
    swap = λ g w q leaving n held is off same. let here = legal.0 in let there = ap a.status same ∙ leaving in cc;
  };
}

pub turn_kept : (config : Config) (past : List Entry) (a : Pager) (seat : Seat) (q : Proc) (s : ProcStatus) → IsKept config (quiet (open_flights past)) a → IsTurn config past a q.0 s
    → IsKept config (past_view (record { seat = seat; what = what.Turn q s } ∷ past)) (after_turn a q.0 s)
turn_kept config past a seat q s before legal =
    let kept = before in
    turned config a (open_flights past) q.0 s kept (moved config a past q.0 s kept legal.turned)
