-- EVICT, for each of its five reasons.
use Rattle.pager_rules.proofs.Quiet.{none_failed}
use Rattle.std.proofs.Common.{◌≡◌, ◌⊎◌, ℕ, zero, suc, ◌+◌, ◌<◌, Bool, true, false, cond, not, List, [], ◌&&◌, ◌∷◌, Option, Some, None, length, nat_eq, nat_lt, count_by, slice_get, slice_set, refl, sym, ap, ap₂, ◌∙◌, subst, subst₂, inl, inr, arith, length-set}
use Rattle.std.proofs.lemmas.Bool.{cases_eq, ne_eqb, eqb-true, and_left, and_parts, ltb-true, ltb-false, false≢true}
use Rattle.std.proofs.lemmas.Option.{slice_get_within}
use Rattle.std.specs.List.{position_or_len}
use Rattle.vm_types.specs.Ring.{Ring, Held, filled, is_filled_slot, is_fixed_slot, is_pinned_slot, is_unpinned_slot}
use Rattle.vm_types.specs.declared.names.Proc.{Proc}
use Rattle.vm_types.specs.declared.names.Addr.{Addr}
use Rattle.vm_types.specs.declared.names.Pfn.{Pfn}
use Rattle.vm_types.specs.declared.names.Seat.{Seat}
use Rattle.vm_types.specs.declared.names.FrameState.{FrameState}
use Rattle.vm_types.specs.declared.names.FrameState.TheVariants as state
use Rattle.vm_types.specs.declared.names.ProcStatus.TheVariants as status
use Rattle.vm_types.specs.declared.config.ProcSpec.{ProcSpec}
use Rattle.vm_types.specs.declared.names.ProcStatus.{ProcStatus}
use Rattle.vm_types.specs.declared.names.Page.TheVariants.{Private, Shared}
use Rattle.vm_types.specs.declared.names.BlockId.TheVariants as block
use Rattle.vm_types.specs.declared.names.Page.{Page}
use Rattle.vm_types.specs.declared.config.Config.{Config}
use Rattle.vm_journal.specs.declared.entry.Entry.{Entry}
use Rattle.vm_journal.specs.declared.entry.EvictWhy.{EvictWhy}
use Rattle.vm_journal.specs.declared.entry.EvictWhy.TheVariants as evict
use Rattle.vm_journal.specs.declared.entry.Role.TheVariants as role
use Rattle.vm_journal.specs.declared.entry.What.TheVariants as what
use Rattle.pager_model.specs.Around.{FrameView, PastView, entry_view, frame_view, page_view, past_view, process_view, quiet}
use Rattle.pager_model.specs.Changes.{pushed_if, without_entry}
use Rattle.pager_model.specs.Evict.{IsDropped, IsEvict, IsEvicted, IsLeavingEvict, IsReplace, IsRundownEvict, IsTaken, after_evict, evicted_to, victim_of}
use Rattle.pager_model.specs.Flights.{Direction, Flight, open_flights, reading, writing}
use Rattle.pager_model.specs.Lookups.{entries_at, has_pin, has_vpn, is, is_entry, is_of, own_page, page_by, shares, slot_of, slot_with}
use Rattle.pager_model.specs.Maps.{is_private, page_number, proc}
use Rattle.pager_model.specs.Pager.{Pager, Valid}
use Rattle.pager_model.specs.Ring.{cleared}
use Rattle.pager_model.specs.Sets.{at_number}
use Rattle.pager_model.specs.Sound.{FitsSlot, HasSwapped, IsSwapped, MayHoldSwapped, pins_of_page}
use Rattle.pager_model.specs.Transfers.{reads_on, writes_on}
use Rattle.pager_rules.proofs.Basics.{at_number_other, at_number_same, count_cons_no, nat_eq_refl}
use Rattle.pager_rules.proofs.Frames.{active_frame, at_state, from_state}
use Rattle.pager_rules.proofs.Lists.{all_filter, all_found, all_step, count_filter_le, count_found, count_removed_no, count_removed_yes, count_written, found_passes, slot_unchanged}
use Rattle.pager_rules.proofs.Pages.{is_of_private, own_process, private_is_paged}
use Rattle.pager_rules.proofs.Put.{pushed_other, pushed_same}
use Rattle.pager_rules.proofs.Rings.{IsCleared, cleared_process, entries_drop}
use Rattle.pager_rules.proofs.Transfers.{on_frame}
use Rattle.pager_rules.proofs.Views.{frames_move}
use Rattle.pager_rules.specs.Kept.{FitsDirection, FitsFlight, FitsFrame, FitsProcess, IsForItsPage, IsKept, IsSwapWrite, views}
use Rattle.pager_rules.proofs.Pins.{pins_of_less}

next_slot : (x : Option Held) (xs : List (Option Held)) (n : ℕ) → slice_get (x ∷ xs) (1 + n) ≡ slice_get xs n
next_slot x xs n = let e : 1 + n ≡ suc n = omega arith in ap (slice_get (x ∷ xs)) e

-- a valid page's slot
slot_found : (v : ℕ) (xs : List (Option Held)) → 0 < count_by (has_vpn v) xs → (held : Held) × (slice_get xs (position_or_len (has_vpn v) xs) ≡ Some (Some held)) × (held.vpn ≡ v)
slot_found v [] some = absurd (omega arith)
slot_found v (None ∷ xs) some = let later = slot_found v xs (omega (arith, count_cons_no (has_vpn v) None xs refl)) in (later.0, next_slot None xs (position_or_len (has_vpn v) xs) ∙ later.1, later.2)
slot_found v (Some held ∷ xs) some = go (nat_eq held.vpn v) refl (slot_found v xs)
  where
    go : (c : Bool) → nat_eq held.vpn v ≡ c → (0 < count_by (has_vpn v) xs → (h : Held) × (slice_get xs (position_or_len (has_vpn v) xs) ≡ Some (Some h)) × (h.vpn ≡ v))
        → (h : Held) × (slice_get (Some held ∷ xs) (cond (not c) (1 + position_or_len (has_vpn v) xs) 0) ≡ Some (Some h)) × (h.vpn ≡ v)
    go true is rest = (held, refl, eqb-true held.vpn v is)
    go false is rest = let later = rest (omega (arith, count_cons_no (has_vpn v) (Some held) xs is)) in (later.0, next_slot (Some held) xs (position_or_len (has_vpn v) xs) ∙ later.1, later.2)

pub in_its_slot : (config : Config) (past : List Entry) (a : Pager) (p v f : ℕ) (to : FrameState) → IsKept config (quiet (open_flights past)) a → IsTaken past a p v f to → IsEvicted past a p v f (slot_with (a.ring p) v) to
in_its_slot config past a p v f to kept taken =
    let some = count_found (is_entry p v) (is_entry p v) a.valid taken.entry taken.valid (found_passes (is_entry p v) a.valid taken.entry taken.valid) in
    let found = slot_found v (a.ring p).slots (omega (arith, (kept.entries p v).slots)) in
    record { taken = taken; held = found.0; holds = found.1; same = found.2 }

module _ (config : Config) (past : List Entry) (a : Pager) (p v f slot : ℕ) (to : FrameState) (hand : ℕ) (kept : IsKept config (quiet (open_flights past)) a) (legal : IsEvicted past a p v f slot to)
    (hand_is : hand < length (a.ring p).slots) where
  abbrev new : Ring
  new = record { slots = slice_set (a.ring p).slots slot None; hand = hand }

  abbrev left : FrameState → Pager
  left s = record a {
    state = at_number a.state f s;
    free = pushed_if (is state.Free s) a.free f;
    modified = pushed_if (is state.Modified s) a.modified f;
    ring = at_number a.ring p new;
    valid = without_entry a.valid p v;
  }

  abbrev old : ℕ → FrameView
  old = frame_view config (quiet (open_flights past)) a

  abbrev fits : IsForItsPage config a.map a.page legal.taken.entry
  fits = all_found (IsForItsPage config a.map a.page) (is_entry p v) a.valid legal.taken.entry kept.valid legal.taken.valid

  held : a.page f ≡ Some fits.0
  held = subst (λ (g : ℕ). a.page g ≡ Some fits.0) legal.taken.frame fits.2

  own : page_by config a.map p v ≡ Some fits.0
  own =
      let parts = and_parts (nat_eq legal.taken.entry.proc p) (nat_eq legal.taken.entry.vpn v) (found_passes (is_entry p v) a.valid legal.taken.entry legal.taken.valid) in
      subst₂ (λ (q w : ℕ). page_by config a.map q w ≡ Some fits.0) (eqb-true _ _ parts.0) (eqb-true _ _ parts.1) fits.1

  -- ---- frames
  one_share : shares a.valid f ≡ 1 + shares (without_entry a.valid p v) f
  one_share = count_removed_yes (λ (y : Valid). nat_eq y.frame f) (is_entry p v) a.valid legal.taken.entry legal.taken.valid (kept.entries p v).once
      (subst (λ (g : ℕ). nat_eq legal.taken.entry.frame g ≡ true) legal.taken.frame (nat_eq_refl legal.taken.entry.frame))

  was : a.state f ≡ state.Active
  was = active_frame (old f) (kept.frames f) (omega (arith, one_share))

  row : FitsFrame (record (old f) { state = state.Active })
  row = at_state (old f) state.Active was (kept.frames f)

  here_at : (s : FrameState) → FitsFrame (record (frame_view config (quiet (open_flights past)) (left s) f) { state = s }) → FitsFrame (frame_view config (quiet (open_flights past)) (left s) f)
  here_at s is = from_state (frame_view config (quiet (open_flights past)) (left s) f) s (at_number_same a.state f s) is

  goes : (b c m : Bool) → nat_lt 1 (shares a.valid f) ≡ b → nat_lt 0 (reads_on f (open_flights past) + writes_on f (open_flights past)) ≡ c → a.modify f ≡ m
      → FitsFrame (frame_view config (quiet (open_flights past)) (left (cond b state.Active (cond c state.ReleasePending (cond m state.Modified state.Free)))) f)
  goes true c m many open_c marked = here_at state.Active (record {
    bad = row.bad;
    on_free = row.on_free;
    on_modified = row.on_modified;
    shares = let more = ltb-true 1 (shares a.valid f) many in omega (arith, one_share);
    reads = row.reads;
    writes = row.writes;
    failed = refl;
    page = (fits.0, held);
    mark = tt;
  })
  goes false true m few open_c marked = here_at state.ReleasePending (record {
    bad = row.bad;
    on_free = row.on_free;
    on_modified = row.on_modified;
    shares = let less = ltb-false 1 (shares a.valid f) few in omega (arith, one_share);
    reads = row.reads;
    writes = let some = ltb-true 0 _ open_c in omega (arith, row.reads, row.writes);
    failed = refl;
    page = (fits.0, held);
    mark = tt;
  })
  goes false false true few none marked = here_at state.Modified (record {
    bad = row.bad;
    on_free = row.on_free;
    on_modified = pushed_same a.modified f row.on_modified;
    shares = let less = ltb-false 1 (shares a.valid f) few in omega (arith, one_share);
    reads = row.reads;
    writes = let zero = ltb-false 0 _ none in omega (arith, row.reads, row.writes);
    failed = refl;
    page = (fits.0, held);
    mark = marked;
  })
  goes false false false few none marked = here_at state.Free (record {
    bad = row.bad;
    on_free = pushed_same a.free f row.on_free;
    on_modified = row.on_modified;
    shares = let less = ltb-false 1 (shares a.valid f) few in omega (arith, one_share);
    reads = row.reads;
    writes = let zero = ltb-false 0 _ none in omega (arith, row.reads, row.writes);
    failed = refl;
    page = tt;
    mark = marked;
  })

  here : FitsFrame (frame_view config (quiet (open_flights past)) (left to) f)
  here = subst (λ (s : FrameState). FitsFrame (frame_view config (quiet (open_flights past)) (left s) f)) (sym legal.taken.goes) (goes _ _ _ refl refl refl)

  there : (g : ℕ) → (f ≡ g → ⊥) → frame_view config (quiet (open_flights past)) (left to) g ≡ old g
  there g apart =
      let state_is = at_number_other a.state f to g apart in
      let free_is = pushed_other (is state.Free to) a.free f g apart in
      let modified_is = pushed_other (is state.Modified to) a.modified f g apart in
      let shares_is = count_removed_no (λ (y : Valid). nat_eq y.frame g) (is_entry p v) a.valid legal.taken.entry legal.taken.valid (kept.entries p v).once
      (ne_eqb legal.taken.entry.frame g (λ same. apart (sym legal.taken.frame ∙ same))) in
      cc

  -- ---- the ring and the entry
  is_cleared : IsCleared (a.ring p) new v
  is_cleared = record {
    vpns = λ w.
        let whole = count_written (has_vpn w) (a.ring p).slots slot (Some legal.held) None legal.holds in
        let there = ap (λ (u : ℕ). cond {A = ℕ} (nat_eq u w) 1 0) legal.same in
        omega arith;
    pins = λ w apart.
        let whole = count_written (has_pin w) (a.ring p).slots slot (Some legal.held) None legal.holds in
        let off = ap (λ (c : Bool). cond {A = ℕ} (c && (legal.held).pinned) 1 0) (ap (λ (u : ℕ). nat_eq u w) legal.same ∙ ne_eqb v w apart) in
        omega arith;
    fewer_pins = λ w. let whole = count_written (has_pin w) (a.ring p).slots slot (Some legal.held) None legal.holds in omega arith;
    locks = let whole = count_written is_fixed_slot (a.ring p).slots slot (Some legal.held) None legal.holds in omega arith;
    pinned = let whole = count_written is_pinned_slot (a.ring p).slots slot (Some legal.held) None legal.holds in omega arith;
    unpinned = let whole = count_written is_unpinned_slot (a.ring p).slots slot (Some legal.held) None legal.holds in omega arith;
    slots = length-set (a.ring p).slots slot None;
    hand = hand_is;
  }

  fewer : filled new.slots < filled (a.ring p).slots
  fewer = let whole = count_written is_filled_slot (a.ring p).slots slot (Some legal.held) None legal.holds in omega arith

  process_there : (r : ℕ) → (p ≡ r → ⊥) → process_view config (left to) r ≡ process_view config a r
  process_there r apart = let ring_is = at_number_other a.ring p new r apart in cc

  process_here : FitsProcess (process_view config (left to) p)
  process_here = subst (λ (r : Ring). FitsProcess (record (process_view config a p) { ring = r })) (sym (at_number_same a.ring p new)) (cleared_process (process_view config a p) new v is_cleared (kept.processes p))

  entries_there : (r w : ℕ) → (p ≡ r → ⊥) → entries_at (without_entry a.valid p v) r w ≡ entries_at a.valid r w
  entries_there r w far = count_removed_no (is_entry r w) (is_entry p v) a.valid legal.taken.entry legal.taken.valid (kept.entries p v).once
      (and_left _ _ (ne_eqb legal.taken.entry.proc r (λ same. far (sym (eqb-true _ _ (and_parts _ _ (found_passes (is_entry p v) a.valid legal.taken.entry legal.taken.valid)).0) ∙ same))))

  -- ---- what the reason gives: where the page lies in a swap block of p, and where p is leaving
  pub record IsSafe : Type 0 where
    pub frame : (n : ℕ) → a.lies fits.0 ≡ Some (block.Swap (proc p) n) → (a.status p ≡ status.Resident → ⊥) → MayHoldSwapped to (a.status p)
    pub idle : a.status p ≡ status.Leaving → is_private fits.0 ≡ true → reads_on f (open_flights past) + writes_on f (open_flights past) ≡ 0

  swapped : IsSafe → HasSwapped a.lies a.status (left to).ring (left to).state a.page
  swapped safe g q n lies = record {
    own = was.own;
    away = was.away;
    alone = was.alone;
    within = (slots (cases_eq p q)).0;
    slot = (slots (cases_eq p q)).1;
    unpinned = pins (cases_eq p q);
    frame = λ h held. frame h held (cases_eq f h);
  }
    where
      was : IsSwapped a.lies a.status a.ring a.state a.page g q n
      was = kept.swapped g q n lies

      cleared_slot : (xs : List (Option Held)) (i : ℕ) (j : ℕ) → FitsSlot q (slot_of (slice_get xs j)) g → FitsSlot q (slot_of (slice_get (slice_set xs i None) j)) g
      cleared_slot [] i j fits = fits
      cleared_slot (x ∷ xs) zero zero fits = tt
      cleared_slot (x ∷ xs) zero (suc j) fits = fits
      cleared_slot (x ∷ xs) (suc i) zero fits = fits
      cleared_slot (x ∷ xs) (suc i) (suc j) fits = cleared_slot xs i j fits

      slots : (p ≡ q) ⊎ (p ≡ q → ⊥) → (n < length ((left to).ring q).slots) × FitsSlot q (slot_of (slice_get ((left to).ring q).slots n)) g
      slots (inr far) = let ring_is = sym (at_number_other a.ring p new q far) in (subst (λ (o : Ring). n < length o.slots) ring_is was.within, subst (λ (o : Ring). FitsSlot q (slot_of (slice_get o.slots n)) g) ring_is was.slot)
      slots (inl same) =
          let ring_is : new ≡ (left to).ring q = sym (subst (λ (j : ℕ). at_number a.ring p new j ≡ new) same (at_number_same a.ring p new)) in
          let here : n < length (a.ring p).slots = subst (λ (j : ℕ). n < length (a.ring j).slots) (sym same) was.within in
          let old_slot : FitsSlot q (slot_of (slice_get (a.ring p).slots n)) g = subst (λ (j : ℕ). FitsSlot q (slot_of (slice_get (a.ring j).slots n)) g) (sym same) was.slot in
          (subst (λ (o : Ring). n < length o.slots) ring_is (omega (arith, is_cleared.slots)), subst (λ (o : Ring). FitsSlot q (slot_of (slice_get o.slots n)) g) ring_is (cleared_slot (a.ring p).slots slot n old_slot))

      pins : (p ≡ q) ⊎ (p ≡ q → ⊥) → pins_of_page ((left to).ring q) g ≡ 0
      pins (inr far) = subst (λ (o : Ring). pins_of_page o g ≡ 0) (sym (at_number_other a.ring p new q far)) was.unpinned
      pins (inl same) =
          let ring_is : new ≡ (left to).ring q = sym (subst (λ (j : ℕ). at_number a.ring p new j ≡ new) same (at_number_same a.ring p new)) in
          let before : pins_of_page (a.ring p) g ≡ 0 = subst (λ (j : ℕ). pins_of_page (a.ring j) g ≡ 0) (sym same) was.unpinned in
          subst (λ (o : Ring). pins_of_page o g ≡ 0) ring_is (pins_of_less g (a.ring p) new is_cleared.fewer_pins before)

      frame : (h : ℕ) → a.page h ≡ Some g → (f ≡ h) ⊎ (f ≡ h → ⊥) → MayHoldSwapped ((left to).state h) (a.status q)
      frame h holds (inl same) =
          let g_is : fits.0 ≡ g = let here = ap a.page same ∙ holds in cc (here, held) in
          let p_is : p ≡ q = own_process config a.map p v q g (own ∙ ap Some g_is) was.own in
          let there : a.lies fits.0 ≡ Some (block.Swap (proc p) n) = ap a.lies g_is ∙ (lies ∙ ap (λ (r : ℕ). Some (block.Swap (proc r) n)) (sym p_is)) in
          subst (λ (j : ℕ). MayHoldSwapped ((left to).state j) (a.status q)) same (subst₂ (λ (s : FrameState) (t : ProcStatus). MayHoldSwapped s t) (sym (at_number_same a.state f to)) (ap a.status p_is)
          (safe.frame n there (λ resident. was.away (subst (λ (r : ℕ). a.status r ≡ status.Resident) p_is resident))))
      frame h holds (inr other) = subst (λ (s : FrameState). MayHoldSwapped s (a.status q)) (sym (at_number_other a.state f to h other)) (was.frame h holds)

  -- ---- flights
  -- a swap block that is written isn't of this slot
  other_slot : IsSafe → (x : Flight) → ((t : Flight → Bool) → t x ≡ true → 0 < count_by t (open_flights past)) → (y : Page) → a.page x.frame ≡ Some y → (w : IsSwapWrite x y (process_view config a)) → p ≡ w.p → slot ≡ w.n → ⊥
  other_slot safe x counts y holds w same there = omega (arith, on_frame x (open_flights past) counts f frame, safe.idle leaving (ap is_private y_is ∙ private))
    where
      leaving : a.status p ≡ status.Leaving
      leaving = ap a.status same ∙ w.leaving

      private : is_private y ≡ true
      private = is_of_private w.p y w.own

      mine : FitsSlot p (Some legal.held) y
      mine =
          let slot_is : slice_get (a.ring p).slots slot ≡ Some (Some w.held) = subst₂ (λ (r m : ℕ). slice_get (a.ring r).slots m ≡ Some (Some w.held)) (sym same) (sym there) w.slot in
          let held_is : w.held ≡ legal.held = let here = legal.holds in cc in
          subst₂ (λ (r : ℕ) (h : Held). FitsSlot r (Some h) y) (sym same) held_is w.fits

      page : y ≡ Private (proc p) v
      page = of_slot y mine
        where
          of_slot : (z : Page) → FitsSlot p (Some legal.held) z → z ≡ Private (proc p) v
          of_slot (Private r u) fits = let vpn_is : u ≡ v = sym fits.1 ∙ legal.same in λ i. Private (record { 0 = fits.0 i }) (vpn_is i)
          of_slot (Shared s i) fits = absurd fits

      y_is : fits.0 ≡ y
      y_is =
          let charged = kept.held_charged x.frame y (private_is_paged config y private) holds in
          let mapped : own_page config a.map y ≡ Some y = (kept.pages y).mapped charged private in
          let at_v : page_by config a.map p v ≡ Some y = subst (λ (z : Page). own_page config a.map z ≡ Some y) page mapped in
          cc (own, at_v)

      frame : x.frame ≡ f
      frame = kept.held_once x.frame f y holds (held ∙ ap Some y_is)

  flight_left : IsSafe → (x : Flight) → ((t : Flight → Bool) → t x ≡ true → 0 < count_by t (open_flights past)) → FitsFlight (views config a) x → FitsFlight (views config (left to)) x
  flight_left safe x counts fit = record { page = fit.page; held = fit.held; fits = by x.direction fit.fits }
    where
      ring_at : (q : ℕ) → p ≡ q → (left to).ring q ≡ new
      ring_at q same = subst (λ (j : ℕ). at_number a.ring p new j ≡ new) same (at_number_same a.ring p new)

      below : (q : ℕ) → (p ≡ q) ⊎ (p ≡ q → ⊥) → filled (a.ring q).slots < a.limit q → filled ((left to).ring q).slots < a.limit q
      below q (inr far) less = subst (λ (r : Ring). filled r.slots < a.limit q) (sym (at_number_other a.ring p new q far)) less
      below q (inl same) less =
          let here : filled (a.ring p).slots < a.limit q = subst (λ (j : ℕ). filled (a.ring j).slots < a.limit q) (sym same) less in
          subst (λ (r : Ring). filled r.slots < a.limit q) (sym (ring_at q same)) (omega (arith, fewer))

      by : (d : Direction) → FitsDirection x fit.page (page_view config a fit.page) (process_view config a) (entry_view config a) d → FitsDirection x fit.page (page_view config a fit.page) (process_view config (left to)) (entry_view config (left to)) d
      by (reading (role.Fault q address)) old = (
        old.0,
        (
          old.1.0,
          old.1.1,
          old.1.2,
          omega (arith, old.1.3, count_filter_le (is_entry q.0 (page_number address.0)) (λ (e : Valid). not (is_entry p v e)) a.valid),
          below q.0 (cases_eq p q.0) old.1.4,
        ),
      )
      by (reading (role.Near near)) old = old
      by (reading (role.Come q address)) old = old
      by writing (inl section) = inl section
      by writing (inr (inl file)) = inr (inl file)
      by writing (inr (inr swap)) = inr (inr (record { p = swap.p; n = swap.n; block = swap.block; own = swap.own; leaving = swap.leaving; held = swap.held; slot = slot_is (cases_eq p swap.p); fits = swap.fits; unpinned = swap.unpinned }))
        where
          slot_is : (p ≡ swap.p) ⊎ (p ≡ swap.p → ⊥) → slice_get ((left to).ring swap.p).slots swap.n ≡ Some (Some swap.held)
          slot_is (inr far) = subst (λ (r : Ring). slice_get r.slots swap.n ≡ Some (Some swap.held)) (sym (at_number_other a.ring p new swap.p far)) swap.slot
          slot_is (inl same) =
              let old_slot : slice_get (a.ring p).slots swap.n ≡ Some (Some swap.held) = subst (λ (j : ℕ). slice_get (a.ring j).slots swap.n ≡ Some (Some swap.held)) (sym same) swap.slot in
              subst (λ (r : Ring). slice_get r.slots swap.n ≡ Some (Some swap.held)) (sym (ring_at swap.p same))
              (slot_unchanged (a.ring p).slots slot swap.n None (other_slot safe x counts fit.page fit.held swap same) ∙ old_slot)

  pub evicted : IsSafe → IsKept config (quiet (open_flights past)) (left to)
  evicted safe = record {
    frames = frames_move FitsFrame old (frame_view config (quiet (open_flights past)) (left to)) f there here kept.frames;
    processes = frames_move FitsProcess (process_view config a) (process_view config (left to)) p process_there process_here kept.processes;
    entries = entries_drop config a.map a.status a.ring a.valid p v legal.taken.entry new is_cleared legal.taken.valid kept.entries;
    valid = all_filter (IsForItsPage config a.map a.page) (λ (y : Valid). not (is_entry p v y)) a.valid kept.valid;
    pages = kept.pages;
    blocks = kept.blocks;
    fit = kept.fit;
    held_once = kept.held_once;
    held_charged = kept.held_charged;
    unsaved = kept.unsaved;
    swapped = swapped safe;
    coming_once = kept.coming_once;
    transfers = all_step (FitsFlight (views config a)) (FitsFlight (views config (left to))) (open_flights past) (λ x counts fit. flight_left safe x counts fit) kept.transfers;
    one_fault = kept.one_fault;
    failed = none_failed _ _;
  }

-- ---- the five reasons
old_hand : (config : Config) (o : PastView) (a : Pager) (p slot : ℕ) (held : Held) → IsKept config o a → slice_get (a.ring p).slots slot ≡ Some (Some held) → (a.ring p).hand < length (a.ring p).slots
old_hand config o a p slot held kept holds = go (slice_get config.procs p) refl
  where
    go : (spec : Option ProcSpec) → slice_get config.procs p ≡ spec → (a.ring p).hand < length (a.ring p).slots
    go None none = absurd (omega (arith, (kept.processes p).none none, slice_get_within (a.ring p).slots slot (Some held) holds))
    go (Some spec) some = let bounds = (kept.processes p).bounds spec some in omega (arith, bounds.hand, bounds.slots)

module _ (config : Config) (past : List Entry) (a : Pager) (p address f : ℕ) (to : FrameState) (kept : IsKept config (quiet (open_flights past)) a) where
  abbrev Result : EvictWhy → Type 0
  Result why = IsKept config (quiet (open_flights past)) (after_evict a why p address f to)

  replaced : IsReplace config past a p address f to → Result evict.Replace
  replaced legal = subst (λ (slot : ℕ). IsKept config (quiet (open_flights past)) (with_ring (cleared (a.ring p) slot))) (sym (ap victim_of legal.chosen))
      (evicted config past a p (page_number address) f legal.slot to legal.slot kept legal.evicted (slice_get_within (a.ring p).slots legal.slot (Some (legal.evicted).held) (legal.evicted).holds)
      (record { frame = λ n lies away. absurd (away legal.own.resident); idle = λ leaving private. let resident = legal.own.resident in absurd (cc) }))
    where
      with_ring : Ring → Pager
      with_ring ring = record a {
        state = at_number a.state f to;
        free = pushed_if (is state.Free to) a.free f;
        modified = pushed_if (is state.Modified to) a.modified f;
        ring = at_number a.ring p ring;
        valid = without_entry a.valid p (page_number address);
      }

  abbrev place : ℕ
  place = slot_with (a.ring p) (page_number address)

  abbrev in_place : IsEvicted past a p (page_number address) f place to → IsKept config (quiet (open_flights past)) a → Type 0
  in_place legal k = IsSafe config past a p (page_number address) f place to (a.ring p).hand k legal (old_hand config (quiet (open_flights past)) a p place legal.held k legal.holds) → IsKept config (quiet (open_flights past)) (record a {
    state = at_number a.state f to;
    free = pushed_if (is state.Free to) a.free f;
    modified = pushed_if (is state.Modified to) a.modified f;
    ring = at_number a.ring p (record { slots = slice_set (a.ring p).slots place None; hand = (a.ring p).hand });
    valid = without_entry a.valid p (page_number address);
  })

  placed : (legal : IsEvicted past a p (page_number address) f place to) → in_place legal kept
  placed legal = evicted config past a p (page_number address) f place to (a.ring p).hand kept legal (old_hand config (quiet (open_flights past)) a p place legal.held kept legal.holds)

  resident_safe : (legal : IsEvicted past a p (page_number address) f place to) → a.status p ≡ status.Resident
      → IsSafe config past a p (page_number address) f place to (a.ring p).hand kept legal (old_hand config (quiet (open_flights past)) a p place legal.held kept legal.holds)
  resident_safe legal resident = record { frame = λ n lies away. absurd (away resident); idle = λ leaving private. absurd (cc) }

  in_slot : IsTaken past a p (page_number address) f to → IsEvicted past a p (page_number address) f place to
  in_slot taken = in_its_slot config past a p (page_number address) f to kept taken

  purged : IsDropped config past a p address f true to → Result evict.Purge
  purged legal = placed (in_slot legal.taken) (resident_safe (in_slot legal.taken) legal.own.resident)

  deleted : IsDropped config past a p address f false to → Result evict.Delete
  deleted legal = placed (in_slot legal.taken) (resident_safe (in_slot legal.taken) legal.own.resident)

  left_out : IsLeavingEvict config past a p address f to → Result evict.Leave
  left_out legal = placed (in_slot legal.taken) (record { frame = λ n lies away. goes (safe ((kept.swapped g p n lies).own)); idle = λ leaving private. (legal.private g there private).2 })
    where
      g : Page
      g = (fits config past a p (page_number address) f place to (a.ring p).hand kept (in_slot legal.taken) (old_hand config (quiet (open_flights past)) a p place (in_slot legal.taken).held kept (in_slot legal.taken).holds)).0

      there : a.page f ≡ Some g
      there = held config past a p (page_number address) f place to (a.ring p).hand kept (in_slot legal.taken) (old_hand config (quiet (open_flights past)) a p place (in_slot legal.taken).held kept (in_slot legal.taken).holds)

      safe : is_of p g ≡ true → (a.modify f ≡ false) × (reads_on f (open_flights past) + writes_on f (open_flights past) ≡ 0)
      safe mine = let facts = legal.private g there (is_of_private p g mine) in (facts.1, facts.2)

      goes : (a.modify f ≡ false) × (reads_on f (open_flights past) + writes_on f (open_flights past) ≡ 0) → MayHoldSwapped to (a.status p)
      goes facts = subst (λ (s : FrameState). MayHoldSwapped s (a.status p)) (sym (legal.taken.goes ∙ ap₂ (λ (n : ℕ) (m : Bool). evicted_to (shares a.valid f) n m) facts.1 facts.0)) (by (nat_lt 1 (shares a.valid f)))
        where
          by : (b : Bool) → MayHoldSwapped (cond b state.Active state.Free) (a.status p)
          by true = inr (legal.leaving, refl)
          by false = inl refl

  run_down : (seat : ℕ) → IsRundownEvict config past a seat p address f to → Result evict.Rundown
  run_down seat legal = placed (in_slot legal.taken) (record { frame = λ n lies away. absurd (false≢true (sym shared ∙ is_of_private p g (kept.swapped g p n lies).own)); idle = λ leaving private. absurd (false≢true (sym shared ∙ private)) })
    where
      g : Page
      g = (fits config past a p (page_number address) f place to (a.ring p).hand kept (in_slot legal.taken) (old_hand config (quiet (open_flights past)) a p place (in_slot legal.taken).held kept (in_slot legal.taken).holds)).0

      shared : is_private g ≡ false
      shared = legal.shared g (held config past a p (page_number address) f place to (a.ring p).hand kept (in_slot legal.taken) (old_hand config (quiet (open_flights past)) a p place (in_slot legal.taken).held kept (in_slot legal.taken).holds))

pub evict_kept : (config : Config) (past : List Entry) (a : Pager) (seat : Seat) (q : Proc) (address : Addr) (f : Pfn) (why : EvictWhy) (to : FrameState) → IsKept config (quiet (open_flights past)) a
    → IsEvict why config past a seat.0 q.0 address.0 f.0 to
    → IsKept config (past_view (record { seat = seat; what = what.Evict q address f why to } ∷ past)) (after_evict a why q.0 address.0 f.0 to)
evict_kept config past a seat q address f evict.Replace to before legal = replaced config past a q.0 address.0 f.0 to before legal.1
evict_kept config past a seat q address f evict.Purge to before legal = purged config past a q.0 address.0 f.0 to before legal.1
evict_kept config past a seat q address f evict.Delete to before legal = deleted config past a q.0 address.0 f.0 to before legal.1
evict_kept config past a seat q address f evict.Leave to before legal = left_out config past a q.0 address.0 f.0 to before legal
evict_kept config past a seat q address f evict.Rundown to before legal = run_down config past a q.0 address.0 f.0 to before seat.0 legal
