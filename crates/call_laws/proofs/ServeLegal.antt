-- What is made for a service is legal.
use Rattle.std.proofs.Common.{◌≡◌, ◌⊎◌, inl, inr, ℕ, ◌+◌, ◌<◌, ◌≤◌, ◌^◌, ◌&&◌, Bool, true, false, cond, not, List, [], ◌∷◌, Option, Some, None, length, find, count_by, nat_eq, nat_le, slice_get, slice_index_or, refl, sym, ap, ap₂, ◌||◌, ◌*◌, ◌∙◌, subst, arith}
use Rattle.std.specs.List.{AllByRecursion, list_any}
use Rattle.std.specs.Option.{is_some}
use Rattle.std.proofs.lemmas.Bool.{not-true, and_from, and_parts, cases_lt, eqb-true, false≢true, leb-false, leb-true, lt-ltb, ltb-false}
use Rattle.std.proofs.lemmas.List.Folds.{find_at}
use Rattle.std.proofs.lemmas.Option.{none-some, same_Some, slice_get_cases}
use Rattle.vm_types.specs.declared.limits.TheConstants.{PAGE_BYTES}
use Rattle.vm_types.specs.Ring.{Held, Ring, fixed, is_fixed, is_fixed_slot}
use Rattle.vm_types.specs.Same.{same_page}
use Rattle.vm_types.specs.WellFormed.{IsRange, IsServiceOf, IsWellFormedService}
use Rattle.vm_types.specs.declared.config.Config.{Config}
use Rattle.vm_types.specs.declared.config.ProcSpec.{ProcSpec}
use Rattle.vm_types.specs.declared.names.Addr.{Addr}
use Rattle.vm_types.specs.declared.names.Page.{Page}
use Rattle.vm_types.specs.declared.names.Page.TheVariants.{Private}
use Rattle.vm_types.specs.declared.reply.Answer.{Answer}
use Rattle.vm_types.specs.declared.reply.Answer.TheVariants as answer
use Rattle.vm_types.specs.declared.service.Service.{Service}
use Rattle.vm_types.specs.declared.service.Service.TheVariants as service
use Rattle.vm_text.specs.Services.{HasAnswerWords}
use Rattle.vm_journal.specs.declared.entry.Entry.{Entry}
use Rattle.vm_journal.specs.declared.entry.EvictWhy.{EvictWhy}
use Rattle.vm_journal.specs.declared.entry.EvictWhy.TheVariants as evict
use Rattle.vm_journal.specs.declared.entry.What.TheVariants as what
use Rattle.page_lists.specs.Lists.{count_of}
use Rattle.pager_model.specs.Around.{past_view}
use Rattle.pager_model.specs.Evict.{IsDropped, IsEvict}
use Rattle.pager_model.specs.FlatService.{in_range}
use Rattle.pager_model.specs.Flights.{open_flights}
use Rattle.pager_model.specs.Forget.{own_pages, range_of}
use Rattle.pager_policy.specs.Given.{eviction, goes_to, is_stopped}
use Rattle.pager_model.specs.Lookups.{passes, count_page, entries_at, entry_of, has_vpn, page_at, page_by, slot_of, slot_with}
use Rattle.vm_types.specs.Status.{is_resident}
use Rattle.pager_model.specs.Maps.{Mapped, page_behind, proc}
use Rattle.pager_model.specs.Pager.{Pager, Valid}
use Rattle.pager_model.specs.Ring.{range_locked, range_pinned}
use Rattle.pager_model.specs.Run.{pager_after}
use Rattle.pager_policy.specs.Serve.{GivenServe, delete_given, evict_given, is_fixed_at, is_page_in_flight, is_range_in_flight, is_valid_at, limits_given, lock_given, loose_in, purge_given, served_with, service_gives, serve_gives, valid_in}
use Rattle.pager_model.specs.MappedRanges.{is_in_use, is_mapped_at, is_unmapped, is_unmapped_at}
use Rattle.pager_model.specs.Served.{AreMapped, IsInUse, IsLocking, IsOverLocking, IsServed, IsUnmapped, is_fixed_in, is_locked_in, is_pinned_in, is_slot_in}
use Rattle.pager_model.specs.Transfers.{is_in_flight, reads_on, writes_on}
use Rattle.pager_rules.proofs.Basics.{count_cons, count_cons_yes, count_from_no_find, each_fails, nat_eq_refl, pages_equal}
use Rattle.pager_rules.proofs.Lists.{all_found, all_step, count_found, found_one, found_passes}
use Rattle.pager_laws.proofs.DeleteKept.{inside_from, inside_to, own_has}
use Rattle.pager_laws.proofs.Holders.{holder_there}
use Rattle.pager_laws.proofs.RingBounds.{slots_few}
use Rattle.pager_laws.proofs.ValidEntries.{IsValidAt, valid_at_page}
use Rattle.call_laws.specs.AreLegal.{AreLegal}
use Rattle.call_laws.specs.Ready.{IsReady}
use Rattle.call_laws.proofs.FreeTurn.{free_turn, page_starts, same_number}
use Rattle.call_laws.proofs.WaitsLegal.{found_once, held_small, kept, mapped_small, seat_small, waits_not}

-- ---- one of the numbers in a list
any_number : (t : ℕ → Bool) (xs : List ℕ) → list_any t xs ≡ true → (v : ℕ) × (0 < count_of xs v) × (t v ≡ true)
any_number t [] some = absurd (false≢true some)
any_number t (x ∷ xs) some = go (t x) refl some (any_number t xs)
  where
    later : (v : ℕ) × (0 < count_of xs v) × (t v ≡ true) → (v : ℕ) × (0 < count_of (x ∷ xs) v) × (t v ≡ true)
    later found = (found.0, (omega (arith, found.1, count_cons (λ (y : ℕ). nat_eq y found.0) x xs)), found.2)

    go : (b : Bool) → t x ≡ b → list_any t (x ∷ xs) ≡ true → (list_any t xs ≡ true → (v : ℕ) × (0 < count_of xs v) × (t v ≡ true)) → (v : ℕ) × (0 < count_of (x ∷ xs) v) × (t v ≡ true)
    go true is some rest = (x, (omega (arith, count_cons_yes (λ (y : ℕ). nat_eq y x) x xs (nat_eq_refl x))), is)
    go false is some rest = later (rest (sym (ap (λ (b : Bool). b || list_any t xs) is) ∙ some))

no_number : (t : ℕ → Bool) (xs : List ℕ) (v : ℕ) → list_any t xs ≡ false → 0 < count_of xs v → t v ≡ false
no_number t xs v none inside = go (found_one (λ (y : ℕ). nat_eq y v) xs inside)
  where
    go : (x : ℕ) × (find (λ (y : ℕ). nat_eq y v) xs ≡ Some x) → t v ≡ false
    go found = subst (λ (y : ℕ). t y ≡ false) (eqb-true found.0 v (found_passes (λ (y : ℕ). nat_eq y v) xs found.0 found.1)) (all_found (λ (y : ℕ). t y ≡ false) (λ (y : ℕ). nat_eq y v) xs found.0 (each_fails t xs none) found.1)

pub unfound : (t : ℕ → Bool) (xs : List ℕ) (v : ℕ) → find t xs ≡ None → 0 < count_of xs v → t v ≡ true → ⊥
unfound t xs v none inside passes = go (found_one (λ (y : ℕ). nat_eq y v) xs inside)
  where
    go : (x : ℕ) × (find (λ (y : ℕ). nat_eq y v) xs ≡ Some x) → ⊥
    go found = omega (arith, count_from_no_find t xs none, count_found t (λ (y : ℕ). nat_eq y v) xs found.0 found.1 (subst (λ (y : ℕ). t y ≡ true) (sym (eqb-true found.0 v (found_passes (λ (y : ℕ). nat_eq y v) xs found.0 found.1))) passes))

-- the slots of a range that are all locked or pinned
all_fixed : (address pages : ℕ) (slots : List (Option Held)) → AllByRecursion (λ (x : Option Held). is_slot_in address pages x ≡ true → is_fixed_slot x ≡ true) slots → count_by (is_slot_in address pages) slots ≡ count_by (is_fixed_in address pages) slots
all_fixed address pages [] each = refl
all_fixed address pages (x ∷ slots) each =
    let rest = all_fixed address pages slots each.1 in
    let counts = count_cons (is_slot_in address pages) x slots in
    let locks = count_cons (is_fixed_in address pages) x slots in
    by (is_slot_in address pages x) refl each.0 rest counts locks
  where
    by : (b : Bool) → is_slot_in address pages x ≡ b → (is_slot_in address pages x ≡ true → is_fixed_slot x ≡ true) → count_by (is_slot_in address pages) slots ≡ count_by (is_fixed_in address pages) slots
        → count_by (is_slot_in address pages) (x ∷ slots) ≡ cond (is_slot_in address pages x) 1 0 + count_by (is_slot_in address pages) slots
        → count_by (is_fixed_in address pages) (x ∷ slots) ≡ cond (is_fixed_in address pages x) 1 0 + count_by (is_fixed_in address pages) slots
        → count_by (is_slot_in address pages) (x ∷ slots) ≡ count_by (is_fixed_in address pages) (x ∷ slots)
    by b is locked rest counts locks =
        counts ∙ (same b is ∙ sym locks)
      where
        same : (c : Bool) → is_slot_in address pages x ≡ c → cond (is_slot_in address pages x) 1 0 + count_by (is_slot_in address pages) slots ≡ cond (is_fixed_in address pages x) 1 0 + count_by (is_fixed_in address pages) slots
        same true inside = ap₂ (λ (b : Bool) (n : ℕ). cond b 1 0 + n) (inside ∙ sym (and_from _ _ inside (locked inside))) rest
        same false outside = ap₂ (λ (b : Bool) (n : ℕ). cond b 1 0 + n) (outside ∙ sym (ap (λ (b : Bool). b && is_fixed_slot x) outside)) rest

module _ (config : Config) (past : List Entry) (p : ℕ) (ready : IsReady config past p) where
  abbrev a : Pager
  a = pager_after config past

  abbrev Legal : GivenServe → Type 0
  Legal x = AreLegal config past p x.made

  either : (b : Bool) (x y : GivenServe) → (b ≡ true → Legal x) → (b ≡ false → Legal y) → Legal (cond b x y)
  either true x y first second = first refl
  either false x y first second = second refl

  -- ---- mapped and unmapped pages
  there : (v : ℕ) → is_some (a.map p v) ≡ true → (g : Page) × (page_by config a.map p v ≡ Some g)
  there v is = by (a.map p v) is
    where
      by : (o : Option Mapped) → is_some o ≡ true → (g : Page) × (page_at config p v o ≡ Some g)
      by None is = absurd (false≢true is)
      by (Some m) is = (page_behind config p v m.origin, refl)

  not_there : (v : ℕ) → is_some (a.map p v) ≡ false → a.map p v ≡ None
  not_there v is = by (a.map p v) is
    where
      by : (o : Option Mapped) → is_some o ≡ false → o ≡ None
      by None is = refl
      by (Some m) is = absurd (false≢true (sym is))

  is_there : (v : ℕ) → is_unmapped_at a p v ≡ false → is_some (a.map p v) ≡ true
  is_there v is = by (is_some (a.map p v)) is
    where
      by : (b : Bool) → not b ≡ false → b ≡ true
      by true is = refl
      by false is = absurd (false≢true (sym is))

  isnt_there : (v : ℕ) → is_unmapped_at a p v ≡ true → is_some (a.map p v) ≡ false
  isnt_there v is = by (is_some (a.map p v)) is
    where
      by : (b : Bool) → not b ≡ true → b ≡ false
      by false is = refl
      by true is = absurd (false≢true is)

  all_mapped : (address pages : ℕ) → is_unmapped a p address pages ≡ false → AreMapped config a p address pages
  all_mapped address pages none v inside = there v (is_there v (no_number (is_unmapped_at a p) (range_of address pages) v none (inside_to address pages v inside)))

  some_unmapped : (address pages : ℕ) → is_unmapped a p address pages ≡ true → IsUnmapped config a p address pages
  some_unmapped address pages some =
      let found = any_number (is_unmapped_at a p) (range_of address pages) some in
      record { v = found.0; inside = inside_from address pages found.0 found.1; unmapped = ap (page_at config p found.0) (not_there found.0 (isnt_there found.0 found.2)) }

  some_mapped : (address pages : ℕ) → is_in_use a p address pages ≡ true → IsInUse config a p address pages
  some_mapped address pages some =
      let found = any_number (is_mapped_at a p) (range_of address pages) some in
      let page = there found.0 found.2 in
      record { v = found.0; inside = inside_from address pages found.0 found.1; page = page.0; mapped = page.1 }

  -- ---- one answer
  served : (s : Service) (w : Answer) → IsWellFormedService s → HasAnswerWords w → IsServed config past a p s w → Legal (served_with s w)
  served s w formed words legal = (record { in_turn = free_turn config past p (what.Served s w) ready.free; line = record { seat = seat_small config past p ready; what = (formed, words) }; row = legal }, tt)

  few_slots : (t : Option Held → Bool) → count_by t (a.ring p).slots < 2 ^ 32
  few_slots t = let most = count_most t (a.ring p).slots in let slots = slots_few config (past_view past) a ready.formed (kept config past p ready) p in omega (arith, most, slots)
    where
      count_most : (t : Option Held → Bool) (xs : List (Option Held)) → count_by t xs ≤ length xs
      count_most t [] = omega arith
      count_most t (x ∷ xs) = let rest = count_most t xs in by (t x) rest (count_cons t x xs)
        where
          by : (b : Bool) → count_by t xs ≤ length xs → count_by t (x ∷ xs) ≡ cond b 1 0 + count_by t xs → count_by t (x ∷ xs) ≤ length (x ∷ xs)
          by true rest is = omega (arith, rest, is)
          by false rest is = omega (arith, rest, is)

  -- ---- an eviction of a page of the range
  abbrev IsDropReason : EvictWhy → Type 0
  IsDropReason why = (why ≡ evict.Purge) ⊎ (why ≡ evict.Delete)

  loose_there : (v : ℕ) → is_fixed_at a p v ≡ false → (held : Held) → slice_get (a.ring p).slots (slot_with (a.ring p) v) ≡ Some (Some held) → is_fixed held ≡ false
  loose_there v free held is = sym (ap (λ (o : Option (Option Held)). passes is_fixed (slot_of o)) is) ∙ free

  dropped : (v : ℕ) (e : Valid) → entry_of a.valid p v ≡ Some e → is_stopped config past a e.frame ≡ false → IsValidAt config a p v e → (purged : Bool) → (purged ≡ true → is_fixed_at a p v ≡ false)
      → IsDropped config past a p (PAGE_BYTES * v) e.frame purged (goes_to past a e.frame)
  dropped v e valid goes known purged free = record {
    own = ready.own;
    taken = record { entry = e; valid = ap (entry_of a.valid p) (same_number v) ∙ valid; frame = refl; goes = refl };
    loose = λ held is purging. loose_there v (free purging) held (ap (λ (w : ℕ). slice_get (a.ring p).slots (slot_with (a.ring p) w)) (sym (same_number v)) ∙ is);
    waits = waits_not config past a e.frame goes;
  }

  evicted : (v : ℕ) (why : EvictWhy) → ((e : Valid) → entry_of a.valid p v ≡ Some e → is_stopped config past a e.frame ≡ false → IsEvict why config past a p p (PAGE_BYTES * v) e.frame (goes_to past a e.frame)) → (o : Option Valid) → entry_of a.valid p v ≡ o → Legal (evict_given config past a p v why o)
  evicted v why row None valid = tt
  evicted v why row (Some e) valid =
      let known = valid_at_page config past a p v e (kept config past p ready) valid in
      either (is_stopped config past a e.frame) _ _ (λ stopped. tt) (λ goes. (
        record {
          in_turn = free_turn config past p (eviction past a p v e.frame why) ready.free;
          line = record { seat = seat_small config past p ready; what = ((ready.own.process, page_starts v (mapped_small config past p ready v known.page known.mapped)), held_small config past p ready e.frame known.page known.holds) };
          row = row e valid goes;
        },
        tt,
      ))

  -- ---- DELTVA: no page of the range is valid or moves
  still_pages : (address pages : ℕ) → is_range_in_flight config past a p address pages ≡ false → (v f : ℕ) → in_range address pages v ≡ true → AreMapped config a p address pages → a.page f ≡ Some (Private (proc p) v) → reads_on f (open_flights past) + writes_on f (open_flights past) ≡ 0
  still_pages address pages none v f inside mapped holds =
      let page = mapped v inside in
      let own : page.0 ≡ Private (proc p) v = own_of page.0 page.1 in
      let listed = own_has config a.map p (range_of address pages) v (Private (proc p) v) (inside_to address pages v inside) (page.1 ∙ ap Some own) refl in
      let still = no_page (is_page_in_flight config past a) (own_pages config a.map p (range_of address pages)) (Private (proc p) v) none listed in
      let at = ap (λ (o : Option ℕ). passes (λ (k : ℕ). is_in_flight k (open_flights past)) o) (holder_there config (past_view past) a (Private (proc p) v) f (kept config past p ready) holds) in
      let most = ltb-false 0 (reads_on f (open_flights past) + writes_on f (open_flights past)) (sym at ∙ still) in
      omega (arith, most)
    where
      own_of : (g : Page) → page_by config a.map p v ≡ Some g → g ≡ Private (proc p) v
      own_of g is =
          let charged = (kept config past p ready).held_charged f (Private (proc p) v) refl holds in
          let there = ((kept config past p ready).pages (Private (proc p) v)).mapped charged refl in
          same_Some g (Private (proc p) v) (sym is ∙ there)

      no_page : (t : Page → Bool) (xs : List Page) (g : Page) → list_any t xs ≡ false → 0 < count_page xs g → t g ≡ false
      no_page t xs g none inside = go (found_one (same_page g) xs inside)
        where
          go : (x : Page) × (find (same_page g) xs ≡ Some x) → t g ≡ false
          go found = subst (λ (y : Page). t y ≡ false) (sym (pages_equal g found.0 (found_passes (same_page g) xs found.0 found.1))) (all_found (λ (y : Page). t y ≡ false) (same_page g) xs found.0 (each_fails t xs none) found.1)

  deleted : (at : Addr) (pages : ℕ) → IsRange at.0 pages → AreMapped config a p at.0 pages → (o : Option ℕ) → valid_in a p at.0 pages ≡ o → Legal (delete_given config past a p at pages o)
  deleted at pages formed mapped (Some v) found = evicted v evict.Delete (λ e valid goes. (refl, dropped v e valid goes (valid_at_page config past a p v e (kept config past p ready) valid) false (λ no_purge. absurd (false≢true no_purge)))) (entry_of a.valid p v) refl
  deleted at pages formed mapped None found =
      either (is_range_in_flight config past a p at.0 pages) _ _ (λ moves. tt) (λ still.
      served (service.Delete at pages) answer.Good formed tt (
        ready.own,
        record {
          mapped = mapped;
          not_valid = λ v inside. none_valid v inside;
          not_in_flight = λ v f inside holds. still_pages at.0 pages still v f inside mapped holds;
        },
        tt,
      ))
    where
      none_valid : (v : ℕ) → in_range at.0 pages v ≡ true → entries_at a.valid p v ≡ 0
      none_valid v inside = go (cases_lt 0 (entries_at a.valid p v))
        where
          go : (0 < entries_at a.valid p v) ⊎ (entries_at a.valid p v ≤ 0) → entries_at a.valid p v ≡ 0
          go (inl some) = absurd (unfound (is_valid_at a p) (range_of at.0 pages) v found (inside_to at.0 pages v inside) (lt-ltb 0 (entries_at a.valid p v) some))
          go (inr no_more) = omega (arith, no_more)

  -- ---- PURGWS: each valid page of the range is locked or pinned
  purged : (at : Addr) (pages : ℕ) → IsRange at.0 pages → (o : Option ℕ) → loose_in a p at.0 pages ≡ o → Legal (purge_given config past a p at pages o)
  purged at pages formed (Some v) found =
      let both = and_parts (is_valid_at a p v) (not (is_fixed_at a p v)) (found_passes (λ (u : ℕ). is_valid_at a p u && not (is_fixed_at a p u)) (range_of at.0 pages) v found) in
      evicted v evict.Purge (λ e valid goes. (refl, dropped v e valid goes (valid_at_page config past a p v e (kept config past p ready) valid) true (λ purging. not-true (is_fixed_at a p v) both.1))) (entry_of a.valid p v) refl
  purged at pages formed None found = served (service.Purge at pages) answer.Good formed tt (ready.own, all_fixed at.0 pages (a.ring p).slots each, tt)
    where
      each : AllByRecursion (λ (x : Option Held). is_slot_in at.0 pages x ≡ true → is_fixed_slot x ≡ true) (a.ring p).slots
      each = all_step (λ (x : Option Held). Unit {0}) (λ (x : Option Held). is_slot_in at.0 pages x ≡ true → is_fixed_slot x ≡ true) (a.ring p).slots (λ x counts u inside. at_slot x counts inside) (all_units (a.ring p).slots)
        where
          all_units : (xs : List (Option Held)) → AllByRecursion (λ (x : Option Held). Unit {0}) xs
          all_units [] = tt
          all_units (x ∷ xs) = (tt, all_units xs)

          at_slot : (x : Option Held) → ((t : Option Held → Bool) → t x ≡ true → 0 < count_by t (a.ring p).slots) → is_slot_in at.0 pages x ≡ true → is_fixed_slot x ≡ true
          at_slot None counts inside = absurd (false≢true inside)
          at_slot (Some held) counts inside = by (is_fixed held) refl
            where
              -- one that isn't would have been found
              open_slot : Option Held → Bool
              open_slot y = has_vpn held.vpn y && not (is_fixed_slot y)

              once : count_by (has_vpn held.vpn) (a.ring p).slots ≤ 1
              once = let fits = (kept config past p ready).entries p held.vpn in omega (arith, fits.slots, fits.once)

              is_unlocked : (z : Option Held) → find open_slot (a.ring p).slots ≡ Some z → is_fixed_at a p held.vpn ≡ false
              is_unlocked z is =
                  let parts = and_parts (has_vpn held.vpn z) (not (is_fixed_slot z)) (found_passes open_slot (a.ring p).slots z is) in
                  let at_first = sym (find_at (has_vpn held.vpn) (a.ring p).slots) ∙ found_once open_slot (has_vpn held.vpn) (a.ring p).slots z is parts.0 once in
                  ap (λ (o : Option (Option Held)). passes is_fixed (slot_of o)) at_first ∙ off z parts.1
                where
                  off : (z : Option Held) → not (is_fixed_slot z) ≡ true → passes is_fixed (slot_of (Some z)) ≡ false
                  off None is = refl
                  off (Some h) is = not-true (is_fixed h) is

              by : (b : Bool) → is_fixed held ≡ b → is_fixed held ≡ true
              by true is = is
              by false is =
                  let some = found_one open_slot (a.ring p).slots (counts open_slot (and_from _ _ (nat_eq_refl held.vpn) (ap not is))) in
                  let valid = (let fits = (kept config past p ready).entries p held.vpn in let slots = counts (has_vpn held.vpn) (nat_eq_refl held.vpn) in lt-ltb 0 (entries_at a.valid p held.vpn) (omega (arith, fits.slots, slots))) in
                  absurd (unfound (λ (u : ℕ). is_valid_at a p u && not (is_fixed_at a p u)) (range_of at.0 pages) held.vpn found (inside_to at.0 pages held.vpn inside) (and_from _ _ valid (ap not (is_unlocked some.0 some.1))))

  -- ---- LKWSET, LCKPAG and ADJWSL: the process's bounds
  spec_there : (P : Type 0) → slice_get config.procs p ≡ None → P
  spec_there P none = go (slice_get_cases config.procs p).1
    where
      go : ((spec : ProcSpec) × (p < length config.procs) × (slice_get config.procs p ≡ Some spec) × (slice_index_or config.procs p spec ≡ spec)) ⊎ ((length config.procs ≤ p) × (slice_get config.procs p ≡ None)) → P
      go (inl found) = absurd (none-some found.0 (sym none ∙ found.2))
      go (inr past_end) = let below = ready.own.process in absurd (omega (arith, past_end.0, below))

  -- of a service that marks the valid pages of the range, which makes the ring this one
  abbrev IsMarking : Service → Addr → ℕ → Ring → Type 0
  IsMarking s at pages ring =
      ((n : ℕ) → n < 2 ^ 32 → IsLocking config a p at.0 pages ring n → Legal (served_with s (answer.Count n)))
      × (IsOverLocking config a p at.0 pages ring → Legal (served_with s answer.LockLimit))

  marking : (s : Service) (at : Addr) (pages : ℕ) (ring : Ring) → IsMarking s at pages ring → AreMapped config a p at.0 pages → (o : Option ProcSpec) → slice_get config.procs p ≡ o → Legal (lock_given a p s at.0 pages ring o)
  marking s at pages ring legal mapped None is = spec_there (Legal (lock_given a p s at.0 pages ring None)) is
  marking s at pages ring legal mapped (Some spec) is =
      either (nat_le (fixed ring.slots) spec.locks) _ _
      (λ fits. legal.0 (count_by (is_slot_in at.0 pages) (a.ring p).slots) (few_slots (is_slot_in at.0 pages))
      (record { mapped = mapped; fits = λ other same. subst (λ (s : ProcSpec). fixed ring.slots ≤ s.locks) (same_Some spec other (sym is ∙ same)) (leb-true _ _ fits); counted = refl }))
      (λ over. legal.1 (record { mapped = mapped; spec = spec; process = is; over = (let more = leb-false (fixed ring.slots) spec.locks over in omega (arith, more)) }))

  limiting : (n : ℕ) → n < 2 ^ 32 → (o : Option ProcSpec) → slice_get config.procs p ≡ o → Legal (limits_given n o)
  limiting n small None is = spec_there (Legal (limits_given n None)) is
  limiting n small (Some spec) is =
      either (nat_le (spec.locks + 2) n && nat_le n spec.extent) _ _
      (λ within. let both = and_parts (nat_le (spec.locks + 2) n) (nat_le n spec.extent) within in
      served (service.Adjust n) answer.Good small tt (ready.own, (λ other same. subst (λ (s : ProcSpec). (s.locks + 2 ≤ n) × (n ≤ s.extent)) (same_Some spec other (sym is ∙ same)) (leb-true _ _ both.0, leb-true _ _ both.1)), tt))
      (λ out. served (service.Adjust n) answer.BadLimit small tt (ready.own, (spec, is, outside (nat_le (spec.locks + 2) n) refl out), tt))
    where
      outside : (b : Bool) → nat_le (spec.locks + 2) n ≡ b → (b && nat_le n spec.extent) ≡ false → (n < spec.locks + 2) ⊎ (spec.extent < n)
      outside false low out = inl (let less = leb-false (spec.locks + 2) n low in omega (arith, less))
      outside true high out = inr (let less = leb-false n spec.extent out in omega (arith, less))

  -- ---- the services
  service_legal : (s : Service) → IsServiceOf config.version s → IsWellFormedService s → Legal (service_gives config past a p s)
  service_legal (service.Create at pages prot) known formed = by (is_in_use a p at.0 pages) refl
    where
      by : (b : Bool) → is_in_use a p at.0 pages ≡ b → Legal (served_with (service.Create at pages prot) (cond b answer.InUse answer.Good))
      by true used = served (service.Create at pages prot) answer.InUse formed tt (ready.own, some_mapped at.0 pages used, tt)
      by false unused = served (service.Create at pages prot) answer.Good formed tt (ready.own, (λ v inside. not_there v (no_number (is_mapped_at a p) (range_of at.0 pages) v unused (inside_to at.0 pages v inside))), tt)
  service_legal (service.Delete at pages) known formed =
      either (is_unmapped a p at.0 pages) _ _ (λ some. served (service.Delete at pages) answer.Unmapped formed tt (ready.own, some_unmapped at.0 pages some, tt))
      (λ none. deleted at pages formed (all_mapped at.0 pages none) (valid_in a p at.0 pages) refl)
  service_legal (service.Protect at pages prot) known formed = by (is_unmapped a p at.0 pages) refl
    where
      by : (b : Bool) → is_unmapped a p at.0 pages ≡ b → Legal (served_with (service.Protect at pages prot) (cond b answer.Unmapped answer.Good))
      by true some = served (service.Protect at pages prot) answer.Unmapped formed tt (ready.own, some_unmapped at.0 pages some, tt)
      by false none = served (service.Protect at pages prot) answer.Good formed tt (ready.own, all_mapped at.0 pages none, tt)
  service_legal (service.Lock at pages) known formed =
      either (is_unmapped a p at.0 pages) _ _ (λ some. served (service.Lock at pages) answer.Unmapped formed tt (ready.own, some_unmapped at.0 pages some, tt))
      (λ none. marking (service.Lock at pages) at pages (range_locked true at.0 pages (a.ring p)) ((λ n small fits. served (service.Lock at pages) (answer.Count n) formed small (ready.own, fits, tt)), (λ over. served (service.Lock at pages) answer.LockLimit formed tt (ready.own, over, tt))) (all_mapped at.0 pages none) (slice_get config.procs p) refl)
  service_legal (service.Unlock at pages) known formed = by (is_unmapped a p at.0 pages) refl
    where
      by : (b : Bool) → is_unmapped a p at.0 pages ≡ b → Legal (served_with (service.Unlock at pages) (cond b answer.Unmapped (answer.Count (count_by (is_locked_in at.0 pages) (a.ring p).slots))))
      by true some = served (service.Unlock at pages) answer.Unmapped formed tt (ready.own, some_unmapped at.0 pages some, tt)
      by false none = served (service.Unlock at pages) (answer.Count (count_by (is_locked_in at.0 pages) (a.ring p).slots)) formed (few_slots (is_locked_in at.0 pages)) (ready.own, (all_mapped at.0 pages none, refl), tt)
  service_legal (service.Pin at pages) known formed =
      either (is_unmapped a p at.0 pages) _ _ (λ some. served (service.Pin at pages) answer.Unmapped formed tt (ready.own, some_unmapped at.0 pages some, known))
      (λ none. marking (service.Pin at pages) at pages (range_pinned true at.0 pages (a.ring p)) ((λ n small fits. served (service.Pin at pages) (answer.Count n) formed small (ready.own, fits, known)), (λ over. served (service.Pin at pages) answer.LockLimit formed tt (ready.own, over, known))) (all_mapped at.0 pages none) (slice_get config.procs p) refl)
  service_legal (service.Unpin at pages) known formed = by (is_unmapped a p at.0 pages) refl
    where
      by : (b : Bool) → is_unmapped a p at.0 pages ≡ b → Legal (served_with (service.Unpin at pages) (cond b answer.Unmapped (answer.Count (count_by (is_pinned_in at.0 pages) (a.ring p).slots))))
      by true some = served (service.Unpin at pages) answer.Unmapped formed tt (ready.own, some_unmapped at.0 pages some, known)
      by false none = served (service.Unpin at pages) (answer.Count (count_by (is_pinned_in at.0 pages) (a.ring p).slots)) formed (few_slots (is_pinned_in at.0 pages)) (ready.own, (all_mapped at.0 pages none, refl), known)
  service_legal (service.Purge at pages) known formed = purged at pages formed (loose_in a p at.0 pages) refl
  service_legal (service.Adjust n) known formed = limiting n formed (slice_get config.procs p) refl

  -- what is made for the service is legal
  pub serve_legal : (s : Service) → IsServiceOf config.version s → IsWellFormedService s → AreLegal config past p (serve_gives config past a p s).made
  serve_legal s known formed = either (is_resident (a.status p)) _ _ (λ resident. service_legal s known formed) (λ away. tt)
