-- What is made for a leaving process is legal.
use Rattle.std.proofs.Common.{◌≡◌, inl, inr, ℕ, zero, suc, ◌+◌, ◌*◌, ◌<◌, ◌≤◌, ◌^◌, ◌&&◌, ◌++◌, Bool, true, false, cond, not, List, [], ◌∷◌, Option, Some, None, length, count_by, nat_lt, slice_get, refl, sym, ap, ◌∙◌, subst, subst₂, arith}
use Rattle.std.specs.List.{range_with_len}
use Rattle.std.proofs.lemmas.Bool.{not-true, and_from, and_parts, eq-eqb, false≢true, ltb-false, ne_eqb, true≢false}
use Rattle.std.proofs.lemmas.Option.{same_Some, slice_get_within}
use Rattle.vm_types.specs.declared.limits.TheConstants.{PAGE_BYTES}
use Rattle.vm_types.specs.Configuration.{IsBlock}
use Rattle.vm_types.specs.Ring.{Held, filled, unpinned}
use Rattle.vm_types.specs.declared.config.Config.{Config}
use Rattle.vm_types.specs.declared.config.ProcSpec.{ProcSpec}
use Rattle.vm_types.specs.declared.names.BlockId.{BlockId}
use Rattle.vm_types.specs.declared.names.BlockId.TheVariants as block
use Rattle.vm_types.specs.declared.names.Page.{Page}
use Rattle.vm_types.specs.declared.names.Page.TheVariants.{Private, Shared}
use Rattle.vm_types.specs.declared.names.ProcStatus.TheVariants as status
use Rattle.vm_journal.specs.declared.entry.Entry.{Entry}
use Rattle.vm_journal.specs.declared.entry.EvictWhy.TheVariants as evict
use Rattle.vm_journal.specs.declared.entry.What.TheVariants as what
use Rattle.pager_model.specs.Lying.{lies_in}
use Rattle.pager_model.specs.Around.{past_view, PastView, page_view, process_view}
use Rattle.pager_model.specs.Flights.{Direction, Flight, is_reading, open_flights, reading, writing}
use Rattle.pager_policy.specs.Given.{Seen, by_seat, eviction, is_stopped, leading, seen_at, slots_of}
use Rattle.pager_model.specs.Lookups.{passes, entry_of, has_vpn, page_by, slot_of, slot_with}
use Rattle.pager_model.specs.Maps.{pfn, is_private, page_number, proc}
use Rattle.pager_model.specs.OfConfig.{IsMappable, IsOfConfig}
use Rattle.pager_model.specs.Pager.{Pager}
use Rattle.pager_model.specs.Run.{pager_after}
use Rattle.pager_model.specs.Sound.{FitsSlot}
use Rattle.pager_model.specs.Step.{IsLegal}
use Rattle.pager_policy.specs.Swap.{GivenSwap, is_saved, is_shared_unpinned, is_still, is_to_save, leave_gives, leave_page, leave_saved, leave_shared, leave_unsaved, slot_where, turned_gone, write_slot, write_slots}
use Rattle.pager_model.specs.Transfers.{is_on_block, is_read_on, is_write_on, reads_on, writes_on}
use Rattle.pager_model.specs.Sets.{at_number}
use Rattle.pager_rules.proofs.Basics.{at_number_other, count_cons_no, nat_eq_refl}
use Rattle.pager_rules.proofs.Lists.{all_found, count_found, found_passes}
use Rattle.pager_rules.proofs.Put.{blocks_equal}
use Rattle.pager_rules.specs.Kept.{IsKept, FitsDirection, FitsFlight, views}
use Rattle.pager_laws.proofs.EntryPages.{mapped_right}
use Rattle.pager_laws.proofs.Holders.{holds_within}
use Rattle.pager_laws.proofs.ValidEntries.{IsValidAt, valid_at_page}
use Rattle.call_laws.proofs.SlotsOnce.{only_place}
use Rattle.call_laws.proofs.WritesHome.{IsStill, moved_by_none}
use Rattle.call_laws.proofs.WritesLegal.{HasWritten, IsAtWork, Joins, out_turn, written_more}
use Rattle.call_laws.proofs.HaveNames.{block_named}
use Rattle.pager_laws.proofs.OutOkKept.{one_in_slot}
use Rattle.pager_rules.proofs.Pages.{behind_section, own_is}
use Rattle.pager_rules.proofs.Transfers.{on_frame}
use Rattle.pager_model.specs.Changes.{swap_slot}
use Rattle.page_lists.specs.Lists.{count_of}
use Rattle.pager_laws.proofs.OpeningKept.{in_range}
use Rattle.call_laws.proofs.ServeLegal.{unfound}
use Rattle.pager_laws.proofs.OfConfigKept.{run_right}
use Rattle.pager_laws.proofs.RunsAreSound.{run_kept}
use Rattle.call_laws.specs.AreLegal.{AreLegal}
use Rattle.call_laws.proofs.FollowingPages.{lies_there}
use Rattle.call_laws.specs.Ready.{MayWork}
use Rattle.call_laws.proofs.FreeTurn.{free_turn, page_starts, same_number}
use Rattle.call_laws.proofs.WaitsLegal.{IsSeen, is_seen, waits_not}

-- a slot that was looked for, and what is seen in it
found_slot : (a : Pager) (p : ℕ) (t : ℕ → Seen → Bool) (n : ℕ) (s : Seen) → slot_where a p t ≡ Some n → seen_at a p n ≡ Some s → t n s ≡ true
found_slot a p t n s found seen = sym (ap (passes (t n)) seen) ∙ found_passes (λ (m : ℕ). passes (t m) (seen_at a p m)) (slots_of a p) n found

module _ (config : Config) (past : List Entry) (seat p : ℕ) (may : MayWork config past seat) (process : p < length config.procs) (leaving : (pager_after config past).status p ≡ status.Leaving) where
  abbrev a : Pager
  a = pager_after config past

  kept : IsKept config (past_view past) a
  kept = run_kept config past may.formed may.run

  right : IsOfConfig config a
  right = run_right config past may.formed may.run

  abbrev Legal : GivenSwap → Type 0
  Legal x = AreLegal config past seat x.made

  either : (b : Bool) (x y : GivenSwap) → (b ≡ true → Legal x) → (b ≡ false → Legal y) → Legal (cond b x y)
  either true x y first second = first refl
  either false x y first second = second refl

  small_frame : (f : ℕ) (g : Page) → a.page f ≡ Some g → f < 2 ^ 32
  small_frame f g holds = let within = holds_within config (past_view past) a f g kept holds in let most = may.formed.frames.1 in omega (arith, within, most)

  small_page : (v : ℕ) (g : Page) → page_by config a.map p v ≡ Some g → v < 2 ^ 23
  small_page v g mapped = by (mapped_right config a p v g right mapped).3.page
    where
      by : IsMappable v → v < 2 ^ 23
      by (inl less) = omega (arith, less)
      by (inr most) = let below = most.1 in omega (arith, below)

  -- a page stands in one slot
  slot_is : (n : ℕ) (s : Seen) → IsSeen a p n s → slot_with (a.ring p) s.vpn ≡ n
  slot_is n s there = only_place (has_vpn s.vpn) (a.ring p).slots n (Some there.held) there.slot (eq-eqb there.held.vpn s.vpn there.vpn) (let fits = kept.entries p s.vpn in omega (arith, fits.slots, fits.once))

  -- and isn't pinned there, if that was seen
  unpinned_seen : (n : ℕ) (s : Seen) → IsSeen a p n s → s.pinned ≡ false → (held : Held) → slice_get (a.ring p).slots (slot_with (a.ring p) s.vpn) ≡ Some (Some held) → held.pinned ≡ false
  unpinned_seen n s there off held at =
      let here : slice_get (a.ring p).slots n ≡ Some (Some held) = sym (ap (slice_get (a.ring p).slots) (slot_is n s there)) ∙ at in
      let both : ◌≡◌ {A = Option (Option Held)} (Some (Some held)) (Some (Some there.held)) = sym here ∙ there.slot in
      ap (λ (h : Held). h.pinned) (same_Some held there.held (same_Some (Some held) (Some there.held) both)) ∙ (there.pin ∙ off)

  still_zero : (f : ℕ) → is_still past f ≡ true → reads_on f (open_flights past) + writes_on f (open_flights past) ≡ 0
  still_zero f is = let most = ltb-false 0 (reads_on f (open_flights past) + writes_on f (open_flights past)) (not-true _ is) in omega (arith, most)

  -- ---- EVICT with LEAVE
  abbrev IsSavedPage : ℕ → Seen → Type 0
  IsSavedPage n s = (a.lies s.page ≡ Some (block.Swap (proc p) n)) × (a.modify s.frame ≡ false) × (reads_on s.frame (open_flights past) + writes_on s.frame (open_flights past) ≡ 0)

  evict_legal : (n : ℕ) (s : Seen) → seen_at a p n ≡ Some s → s.pinned ≡ false → (is_private s.page ≡ true → IsSavedPage n s) → is_stopped config past a s.frame ≡ false → IsLegal config past a (by_seat seat (eviction past a p s.vpn s.frame evict.Leave))
  evict_legal n s seen off saved goes = record {
    in_turn = free_turn config past seat _ may.free;
    line = record { seat = may.seat_there; what = ((process, page_starts s.vpn (small_page s.vpn known.page known.mapped)), small_frame s.frame s.page there.page) };
    row = record {
      leaving = leaving;
      unpinned = λ held at. unpinned_seen n s there off held (sym (ap (λ (w : ℕ). slice_get (a.ring p).slots (slot_with (a.ring p) w)) (same_number s.vpn)) ∙ at);
      taken = record { entry = there.entry; valid = ap (entry_of a.valid p) (same_number s.vpn) ∙ there.valid; frame = there.frame; goes = refl };
      private = λ g holds private. by_page g (same_Some s.page g (sym there.page ∙ holds)) private;
      waits = waits_not config past a s.frame goes;
    };
  }
    where
      there : IsSeen a p n s
      there = is_seen a p n s seen

      known : IsValidAt config a p s.vpn there.entry
      known = valid_at_page config past a p s.vpn there.entry kept there.valid

      by_page : (g : Page) → s.page ≡ g → is_private g ≡ true
          → (a.lies g ≡ Some (block.Swap (proc p) (slot_with (a.ring p) (page_number (PAGE_BYTES * s.vpn))))) × (a.modify s.frame ≡ false) × (reads_on s.frame (open_flights past) + writes_on s.frame (open_flights past) ≡ 0)
      by_page g same private =
          let facts = saved (ap is_private same ∙ private) in
          let slot = ap (slot_with (a.ring p)) (same_number s.vpn) ∙ slot_is n s there in
          (ap a.lies (sym same) ∙ (facts.0 ∙ ap (λ (m : ℕ). Some (block.Swap (proc p) m)) (sym slot)), facts.1, facts.2)

  leave_page_legal : (n : ℕ) → ((s : Seen) → seen_at a p n ≡ Some s → s.pinned ≡ false) → ((s : Seen) → seen_at a p n ≡ Some s → is_private s.page ≡ true → IsSavedPage n s) → (o : Option Seen) → seen_at a p n ≡ o → Legal (leave_page config past a p o)
  leave_page_legal n off saved None seen = tt
  leave_page_legal n off saved (Some s) seen = either (is_stopped config past a s.frame) _ _ (λ stopped. tt) (λ goes. (evict_legal n s seen (off s seen) (saved s seen) goes, tt))

  shared_legal : (n : ℕ) → slot_where a p (λ (m : ℕ) (s : Seen). is_shared_unpinned s) ≡ Some n → Legal (leave_page config past a p (seen_at a p n))
  shared_legal n found = leave_page_legal n (λ s seen. not-true _ (parts s seen).1) (λ s seen private. absurd (true≢false (sym private ∙ not-true _ (parts s seen).0))) (seen_at a p n) refl
    where
      parts : (s : Seen) → seen_at a p n ≡ Some s → (not (is_private s.page) ≡ true) × (not s.pinned ≡ true)
      parts s seen = and_parts (not (is_private s.page)) (not s.pinned) (found_slot a p (λ (m : ℕ) (x : Seen). is_shared_unpinned x) n s found seen)

  saved_legal : (n : ℕ) → slot_where a p (is_saved past a p) ≡ Some n → Legal (leave_page config past a p (seen_at a p n))
  saved_legal n found = leave_page_legal n (λ s seen. not-true _ (and_parts (is_private s.page) (not s.pinned) (and_parts (is_private s.page && not s.pinned) _ (found_slot a p (is_saved past a p) n s found seen)).0).1) saved (seen_at a p n) refl
    where
      saved : (s : Seen) → seen_at a p n ≡ Some s → is_private s.page ≡ true → IsSavedPage n s
      saved s seen private =
          let first = and_parts (is_private s.page && not s.pinned) _ (found_slot a p (is_saved past a p) n s found seen) in
          let second = and_parts (lies_in (a.lies s.page) (block.Swap (proc p) n)) _ first.1 in
          let third = and_parts (not (a.modify s.frame)) (is_still past s.frame) second.1 in
          (lies_there (a.lies s.page) (block.Swap (proc p) n) second.0, not-true (a.modify s.frame) third.0, still_zero s.frame third.1)

  -- ---- TURN to gone
  gone_legal : Legal (turned_gone a p)
  gone_legal =
      either (nat_lt 0 (unpinned (a.ring p).slots)) _ _ (λ some. tt) (λ none. (
        record {
          in_turn = free_turn config past seat _ may.free;
          line = record { seat = may.seat_there; what = process };
          row = record { process = process; turned = (leaving, (let most = ltb-false 0 (unpinned (a.ring p).slots) none in omega (arith, most))) };
        },
        tt,
      ))

-- ---- the swap block of a slot is home, if no flight moves the slot's page
module _ (config : Config) (o : PastView) (a : Pager) (kept : IsKept config o a) (p m : ℕ) (held : Held) (slot : slice_get (a.ring p).slots m ≡ Some (Some held)) (g : Page) (fits : FitsSlot p (Some held) g) (still : IsStill o a g) where
  slot_page : (y : Page) → a.lies y ≡ Some (block.Swap (proc p) m) → y ≡ g
  slot_page y lies =
      let swapped = kept.swapped y p m lies in
      one_in_slot p held y g (subst (λ (u : Option (Option Held)). FitsSlot p (slot_of u) y) slot swapped.slot) fits

  moves_slot : (x : Flight) (y : Page) → x.block ≡ block.Swap (proc p) m → (d : Direction) → FitsDirection x y (page_view config a y) (process_view config a) (views config a).entry d → y ≡ g
  moves_slot x y is (reading r) (inl lies, role) = slot_page y (lies ∙ ap Some is)
  moves_slot x y is (reading r) (inr first, role) = absurd (false≢true (behind_section a.map y (block.Swap (proc p) m) (first.behind ∙ ap Some is)))
  moves_slot x y is writing (inl shared) = slot_page y (shared.1 ∙ ap Some is)
  moves_slot x y is writing (inr (inl file)) = absurd (let both : block.Swap (proc p) m ≡ block.PageFile file.0 = sym is ∙ file.2 in cc)
  moves_slot x y is writing (inr (inr swap)) = same_slot swap.p swap.n (sym swap.block ∙ is) swap.held swap.slot swap.fits
    where
      process_of : BlockId → ℕ
      process_of (block.Swap q n) = q.0
      process_of other = 0

      same_slot : (q n : ℕ) → block.Swap (proc q) n ≡ block.Swap (proc p) m → (h : Held) → slice_get (a.ring q).slots n ≡ Some (Some h) → FitsSlot q (Some h) y → y ≡ g
      same_slot q n same h filled fits_y =
          let owner : q ≡ p = ap process_of same in
          let number : n ≡ m = ap swap_slot same in
          let there : slice_get (a.ring p).slots m ≡ Some (Some h) = subst₂ (λ (r k : ℕ). slice_get (a.ring r).slots k ≡ Some (Some h)) owner number filled in
          let alike : ◌≡◌ {A = Option (Option Held)} (Some (Some h)) (Some (Some held)) = sym there ∙ slot in
          let one : h ≡ held = same_Some h held (same_Some (Some h) (Some held) alike) in
          one_in_slot p held y g (subst (λ (z : Held). FitsSlot p (Some z) y) one (subst (λ (r : ℕ). FitsSlot r (Some h) y) owner fits_y)) fits

  swap_home : count_by (is_on_block (block.Swap (proc p) m)) o.flights ≡ 0
  swap_home = moved_by_none o.flights (is_on_block (block.Swap (proc p) m)) (λ x found.
      let moved = all_found (λ (y : Flight). FitsFlight (views config a) y) (is_on_block (block.Swap (proc p) m)) o.flights x kept.transfers found in
      let same = moves_slot x moved.page (sym (blocks_equal (block.Swap (proc p) m) x.block (found_passes (is_on_block (block.Swap (proc p) m)) o.flights x found))) x.direction moved.fits in
      let moves = on_frame x o.flights (λ t passes. count_found t (is_on_block (block.Swap (proc p) m)) o.flights x found passes) x.frame refl in
      let none = still x.frame (moved.held ∙ ap Some same) in
      omega (arith, moves, none))

-- ---- the writes of a run of slots
module _ (config : Config) (a₀ : Pager) (past₀ : List Entry) (seat p : ℕ) (process : p < length config.procs) (leaving : a₀.status p ≡ status.Leaving) where
  -- only modify marks have changed, and not those of the frames that are still to be written
  record IsAsBefore (past : List Entry) (from : ℕ) : Type 0 where
    pub modify : ℕ → Bool
    pub same : pager_after config past ≡ record a₀ { modify = modify }
    pub unmarked : (k : ℕ) (s : Seen) → from ≤ k → seen_at a₀ p k ≡ Some s → modify s.frame ≡ a₀.modify s.frame
    pub still : (k : ℕ) (s : Seen) → from ≤ k → seen_at a₀ p k ≡ Some s → is_to_save past₀ s ≡ true → reads_on s.frame (open_flights past) + writes_on s.frame (open_flights past) ≡ 0

  abbrev test : ℕ → Bool
  test m = passes (is_to_save past₀) (seen_at a₀ p m)

  write_step : (past : List Entry) (m begun : ℕ) (last : Option BlockId) (s : Seen) → IsAtWork config past seat → HasWritten past seat last begun → Joins last (block.Swap (proc p) m) → begun < config.params.wrtcluster → IsAsBefore past m
      → seen_at a₀ p m ≡ Some s → is_to_save past₀ s ≡ true → is_saved past₀ a₀ p m s ≡ false → IsLegal config past (pager_after config past) (by_seat seat (what.Out (pfn s.frame) (block.Swap (proc p) m)))
  write_step past m begun last s work written joins room before seen saves unsaved = record {
    in_turn = out_turn config past seat work last begun s.frame (block.Swap (proc p) m) written joins room;
    line = record { seat = work.seat_there; what = (small, block_named config work.formed (block.Swap (proc p) m) real) };
    row = inr (record {
      home = record { exists = real; still = swap_home config (past_view past) now kept_then p m there.held there.slot s.page fits_slot moved_none };
      page = s.page;
      holds = there.page;
      private = parts.0;
      p = p;
      v = s.vpn;
      slot = m;
      block = refl;
      leaving = ap (λ (b : Pager). b.status p) before.same ∙ leaving;
      entry = there.entry;
      valid = there.valid;
      frame = there.frame;
      held = there.held;
      filled = there.slot;
      same = there.vpn;
      unpinned = there.pin ∙ not-true _ loose.1;
      still = before.still m s (omega arith) seen saves;
      changed = λ lies clear. not_saved (sym (ap (λ (b : Pager). b.lies s.page) before.same) ∙ lies) (sym (before.unmarked m s (omega arith) seen) ∙ (sym (ap (λ (b : Pager). b.modify s.frame) before.same) ∙ clear));
    });
  }
    where
      now : Pager
      now = pager_after config past

      kept_then : IsKept config (past_view past) (pager_after config past)
      kept_then = run_kept config past work.formed work.run

      right_then : IsOfConfig config (pager_after config past)
      right_then = run_right config past work.formed work.run

      loose : (is_private s.page ≡ true) × (not s.pinned ≡ true)
      loose = and_parts (is_private s.page) (not s.pinned) (and_parts (is_private s.page && not s.pinned) (is_still past₀ s.frame) saves).0

      parts : (is_private s.page ≡ true) × (is_still past₀ s.frame ≡ true)
      parts = (loose.0, (and_parts (is_private s.page && not s.pinned) (is_still past₀ s.frame) saves).1)

      there : IsSeen (pager_after config past) p m s
      there = is_seen (pager_after config past) p m s (ap (λ (b : Pager). seen_at b p m) before.same ∙ seen)

      known : IsValidAt config (pager_after config past) p s.vpn there.entry
      known = valid_at_page config past (pager_after config past) p s.vpn there.entry kept_then there.valid

      page_is : s.page ≡ Private (proc p) s.vpn
      page_is = own_is config (pager_after config past).map p s.vpn s.page (known.mapped ∙ ap Some (same_Some known.page s.page (sym known.holds ∙ (ap (pager_after config past).page there.frame ∙ there.page)))) parts.0

      fits_slot : FitsSlot p (Some there.held) s.page
      fits_slot = subst (FitsSlot p (Some there.held)) (sym page_is) (refl, there.vpn)

      moved_none : IsStill (past_view past) (pager_after config past) s.page
      moved_none k holds = subst (λ (n : ℕ). reads_on n (open_flights past) + writes_on n (open_flights past) ≡ 0) (kept_then.held_once s.frame k s.page there.page holds) (before.still m s (omega arith) seen saves)

      small : s.frame < 2 ^ 32
      small = let within = holds_within config (past_view past) (pager_after config past) s.frame s.page kept_then there.page in let most = work.formed.frames.1 in omega (arith, within, most)

      real : IsBlock config (block.Swap (proc p) m)
      real = by (slice_get config.procs p) refl
        where
          by : (o : Option ProcSpec) → slice_get config.procs p ≡ o → IsBlock config (block.Swap (proc p) m)
          by None is = absurd (let none = (kept_then.processes p).none is in let within = slice_get_within ((pager_after config past).ring p).slots m (Some there.held) there.slot in omega (arith, within, none.1))
          by (Some spec) is = let slots = ((kept_then.processes p).bounds spec is).slots in let within = slice_get_within ((pager_after config past).ring p).slots m (Some there.held) there.slot in (spec, is, omega (arith, within, slots))

      not_saved : a₀.lies s.page ≡ Some (block.Swap (proc p) m) → a₀.modify s.frame ≡ false → ⊥
      not_saved lies clear =
          false≢true (sym unsaved ∙ and_from _ _ (and_from _ _ loose.0 loose.1) (and_from _ _ (ap (λ (b : Option BlockId). lies_in b (block.Swap (proc p) m)) lies ∙ and_from _ _ (nat_eq_refl p) (nat_eq_refl m)) (and_from _ _ (ap not clear) parts.1)))

  -- two slots show two frames, if a private page is in one of them
  frames_apart : (past : List Entry) (work : IsAtWork config past seat) (modify : ℕ → Bool) → pager_after config past ≡ record a₀ { modify = modify } → (m k : ℕ) (s t : Seen) → seen_at a₀ p m ≡ Some s → seen_at a₀ p k ≡ Some t → is_private s.page ≡ true → (m ≡ k → ⊥) → s.frame ≡ t.frame → ⊥
  frames_apart past work modify same m k s t seen also private apart at = apart (sym (place m s at_m) ∙ (ap (slot_with (now.ring p)) vpns ∙ place k t at_k))
    where
      now : Pager
      now = pager_after config past

      kept_then : IsKept config (past_view past) (pager_after config past)
      kept_then = run_kept config past work.formed work.run

      at_m : IsSeen (pager_after config past) p m s
      at_m = is_seen (pager_after config past) p m s (ap (λ (b : Pager). seen_at b p m) same ∙ seen)

      at_k : IsSeen (pager_after config past) p k t
      at_k = is_seen (pager_after config past) p k t (ap (λ (b : Pager). seen_at b p k) same ∙ also)

      place : (n : ℕ) (u : Seen) → IsSeen (pager_after config past) p n u → slot_with ((pager_after config past).ring p) u.vpn ≡ n
      place n u there = only_place (has_vpn u.vpn) ((pager_after config past).ring p).slots n (Some there.held) there.slot (eq-eqb there.held.vpn u.vpn there.vpn) (let fits = kept_then.entries p u.vpn in omega (arith, fits.slots, fits.once))

      pages : s.page ≡ t.page
      pages = same_Some s.page t.page (sym at_m.page ∙ (ap (pager_after config past).page at ∙ at_k.page))

      page_at_slot : (n : ℕ) (u : Seen) → IsSeen (pager_after config past) p n u → is_private u.page ≡ true → u.page ≡ Private (proc p) u.vpn
      page_at_slot n u there own =
          let known = valid_at_page config past (pager_after config past) p u.vpn there.entry kept_then there.valid in
          own_is config (pager_after config past).map p u.vpn u.page (known.mapped ∙ ap Some (same_Some known.page u.page (sym known.holds ∙ (ap (pager_after config past).page there.frame ∙ there.page)))) own

      number_of : Page → ℕ
      number_of (Private q v) = v
      number_of (Shared q i) = 0

      vpns : s.vpn ≡ t.vpn
      vpns = ap number_of (sym (page_at_slot m s at_m private) ∙ (pages ∙ page_at_slot k t at_k (ap is_private (sym pages) ∙ private)))

  step_before : (past : List Entry) (work : IsAtWork config past seat) (m : ℕ) (s : Seen) → IsAsBefore past m → seen_at a₀ p m ≡ Some s → is_private s.page ≡ true → IsAsBefore (by_seat seat (what.Out (pfn s.frame) (block.Swap (proc p) m)) ∷ past) (m + 1)
  step_before past work m s before seen private = record {
    modify = at_number before.modify s.frame false;
    same = ap (λ (b : Pager). record b { modify = at_number b.modify s.frame false }) before.same;
    unmarked = λ k t least also. at_number_other before.modify s.frame false t.frame (apart k t least also) ∙ before.unmarked k t (omega (arith, least)) also;
    still = λ k t least also saves.
        let far = ne_eqb s.frame t.frame (apart k t least also) in
        let reads = count_cons_no (is_read_on t.frame) begun (open_flights past) (ap (λ (b : Bool). b && is_reading begun.direction) far) in
        let writes = count_cons_no (is_write_on t.frame) begun (open_flights past) (ap (λ (b : Bool). b && not (is_reading begun.direction)) far) in
        let old = before.still k t (omega (arith, least)) also saves in
        omega (arith, reads, writes, old);
  }
    where
      begun : Flight
      begun = record { start = length past + 1; seat = seat; frame = s.frame; block = block.Swap (proc p) m; direction = writing }

      apart : (k : ℕ) (t : Seen) → m + 1 ≤ k → seen_at a₀ p k ≡ Some t → s.frame ≡ t.frame → ⊥
      apart k t least also = frames_apart past work before.modify before.same m k s t seen also private (λ same. omega (arith, same, least))

  run_legal : ((m : ℕ) (s : Seen) → seen_at a₀ p m ≡ Some s → is_saved past₀ a₀ p m s ≡ false) → (k m begun : ℕ) (last : Option BlockId) (past : List Entry) → IsAtWork config past seat → HasWritten past seat last begun → Joins last (block.Swap (proc p) m) → IsAsBefore past m → begun + k ≤ config.params.wrtcluster
      → AreLegal config past seat (write_slots a₀ p (leading test (range_with_len m k)))
  run_legal unsaved zero m begun last past work written joins before room = tt
  run_legal unsaved (suc k) m begun last past work written joins before room =
      by (seen_at a₀ p m) refl (λ s work' written' before'. run_legal unsaved k (m + 1) (begun + 1) (Some (block.Swap (proc p) m)) (by_seat seat (what.Out (pfn s.frame) (block.Swap (proc p) m)) ∷ past) work' written' (and_from _ _ (nat_eq_refl p) (nat_eq_refl (m + 1))) before' (omega (arith, room)))
    where
      goes : (s : Seen) → seen_at a₀ p m ≡ Some s → (b : Bool) → is_to_save past₀ s ≡ b
          → ((s : Seen) → IsAtWork config (by_seat seat (what.Out (pfn s.frame) (block.Swap (proc p) m)) ∷ past) seat → HasWritten (by_seat seat (what.Out (pfn s.frame) (block.Swap (proc p) m)) ∷ past) seat (Some (block.Swap (proc p) m)) (begun + 1)
          → IsAsBefore (by_seat seat (what.Out (pfn s.frame) (block.Swap (proc p) m)) ∷ past) (m + 1) → AreLegal config (by_seat seat (what.Out (pfn s.frame) (block.Swap (proc p) m)) ∷ past) seat (write_slots a₀ p (leading test (range_with_len (m + 1) k))))
          → AreLegal config past seat (write_slots a₀ p (cond b (m ∷ leading test (range_with_len (m + 1) k)) []))
      goes s seen false saves later = tt
      goes s seen true saves later =
          let legal = write_step past m begun last s work written joins (omega (arith, room)) before seen saves (unsaved m s seen) in
          subst (λ (o : Option Seen). AreLegal config past seat (write_slot p m o ++ write_slots a₀ p (leading test (range_with_len (m + 1) k)))) (sym seen)
          (legal, later s (record { formed = work.formed; run = (work.run, legal); calm = refl; seat_there = work.seat_there }) (written_more config past seat work last begun s.frame (block.Swap (proc p) m) written) (step_before past work m s before seen (and_parts (is_private s.page) (not s.pinned) (and_parts (is_private s.page && not s.pinned) (is_still past₀ s.frame) saves).0).0))

      by : (o : Option Seen) → seen_at a₀ p m ≡ o
          → ((s : Seen) → IsAtWork config (by_seat seat (what.Out (pfn s.frame) (block.Swap (proc p) m)) ∷ past) seat → HasWritten (by_seat seat (what.Out (pfn s.frame) (block.Swap (proc p) m)) ∷ past) seat (Some (block.Swap (proc p) m)) (begun + 1)
          → IsAsBefore (by_seat seat (what.Out (pfn s.frame) (block.Swap (proc p) m)) ∷ past) (m + 1) → AreLegal config (by_seat seat (what.Out (pfn s.frame) (block.Swap (proc p) m)) ∷ past) seat (write_slots a₀ p (leading test (range_with_len (m + 1) k))))
          → AreLegal config past seat (write_slots a₀ p (cond (passes (is_to_save past₀) (seen_at a₀ p m)) (m ∷ leading test (range_with_len (m + 1) k)) []))
      by None seen later = subst (λ (o : Option Seen). AreLegal config past seat (write_slots a₀ p (cond (passes (is_to_save past₀) o) (m ∷ leading test (range_with_len (m + 1) k)) []))) (sym seen) tt
      by (Some s) seen later =
          subst (λ (b : Bool). AreLegal config past seat (write_slots a₀ p (cond b (m ∷ leading test (range_with_len (m + 1) k)) []))) (sym (ap (passes (is_to_save past₀)) seen)) (goes s seen (is_to_save past₀ s) refl later)

-- what a step of a leaving process makes is legal
module _ (config : Config) (past : List Entry) (seat p : ℕ) (may : MayWork config past seat) (process : p < length config.procs) (leaving : (pager_after config past).status p ≡ status.Leaving) where
  none_saved : slot_where (pager_after config past) p (is_saved past (pager_after config past) p) ≡ None → (m : ℕ) (s : Seen) → seen_at (pager_after config past) p m ≡ Some s → is_saved past (pager_after config past) p m s ≡ false
  none_saved none m s seen = by (is_saved past (pager_after config past) p m s) refl
    where
      there : IsSeen (pager_after config past) p m s
      there = is_seen (pager_after config past) p m s seen

      inside : 0 < count_of (slots_of (pager_after config past) p) m
      inside = let within = slice_get_within ((pager_after config past).ring p).slots m (Some there.held) there.slot in let listed = in_range 0 (length ((pager_after config past).ring p).slots) m (omega arith) (omega (arith, within)) in omega (arith, listed)

      by : (b : Bool) → is_saved past (pager_after config past) p m s ≡ b → b ≡ false
      by false is = refl
      by true is = absurd (unfound (λ (n : ℕ). passes (is_saved past (pager_after config past) p n) (seen_at (pager_after config past) p n)) (slots_of (pager_after config past) p) m none inside (ap (passes (is_saved past (pager_after config past) p m)) seen ∙ is))

  unsaved_legal : slot_where (pager_after config past) p (is_saved past (pager_after config past) p) ≡ None → (o : Option ℕ) → AreLegal config past seat (leave_unsaved config past (pager_after config past) p o).made
  unsaved_legal none None = gone_legal config past seat p may process leaving
  unsaved_legal none (Some n) =
      run_legal config (pager_after config past) past seat p process leaving (none_saved none) config.params.wrtcluster n 0 None past
      (record { formed = may.formed; run = may.run; calm = may.free.calm; seat_there = may.seat_there }) (may.free.idle, refl) tt
      (record {
        modify = (pager_after config past).modify;
        same = refl;
        unmarked = λ k s least seen. refl;
        still = λ k s least seen saves. still_zero config past seat p may process leaving s.frame (and_parts (is_private s.page && not s.pinned) (is_still past s.frame) saves).1;
      }) (omega arith)

  saved_or_not : (o : Option ℕ) → slot_where (pager_after config past) p (is_saved past (pager_after config past) p) ≡ o → AreLegal config past seat (leave_saved config past (pager_after config past) p o).made
  saved_or_not (Some n) found = saved_legal config past seat p may process leaving n found
  saved_or_not None found = unsaved_legal found (slot_where (pager_after config past) p (λ (n : ℕ) (s : Seen). is_to_save past s))

  shared_or_not : (o : Option ℕ) → slot_where (pager_after config past) p (λ (n : ℕ) (s : Seen). is_shared_unpinned s) ≡ o → AreLegal config past seat (leave_shared config past (pager_after config past) p o).made
  shared_or_not (Some n) found = shared_legal config past seat p may process leaving n found
  shared_or_not None found = saved_or_not (slot_where (pager_after config past) p (is_saved past (pager_after config past) p)) refl

  pub leave_legal : AreLegal config past seat (leave_gives config past (pager_after config past) p).made
  leave_legal = shared_or_not (slot_where (pager_after config past) p (λ (n : ℕ) (s : Seen). is_shared_unpinned s)) refl
