-- What waits for the modified list is an eviction that is held up.
use Rattle.std.proofs.Common.{◌≡◌, ℕ, ◌+◌, ◌*◌, ◌≤◌, ◌&&◌, Bool, true, false, cond, not, List, [], ◌∷◌, Option, Some, None, length, find, nat_eq, nat_le, nat_lt, slice_get, refl, sym, ap, ◌∙◌, arith}
use Rattle.std.proofs.lemmas.Bool.{and_parts, eq-eqb, false≢true, leb-true, ltb-true, not-true, true≢false}
use Rattle.std.proofs.lemmas.Option.{none-some, same_Some}
use Rattle.vm_types.specs.declared.limits.TheConstants.{PAGE_BYTES}
use Rattle.vm_types.specs.Ring.{Held, Ring, choose, filled, fixed, is_fixed, unpinned}
use Rattle.vm_types.specs.Status.{is_resident}
use Rattle.vm_types.specs.declared.names.Addr.{Addr}
use Rattle.vm_types.specs.declared.names.BlockId.{BlockId}
use Rattle.vm_types.specs.declared.names.FrameState.TheVariants as state
use Rattle.vm_types.specs.declared.names.Page.{Page}
use Rattle.vm_types.specs.declared.names.ProcStatus.TheVariants as status
use Rattle.vm_types.specs.declared.config.Config.{Config}
use Rattle.vm_types.specs.declared.config.ProcSpec.{ProcSpec}
use Rattle.vm_types.specs.declared.reference.Ref.{Ref}
use Rattle.vm_types.specs.declared.reply.Why.{Why}
use Rattle.vm_types.specs.declared.ring_choice.Choice.{Choice}
use Rattle.vm_types.specs.declared.ring_choice.Choice.TheVariants.{Victim}
use Rattle.vm_types.specs.declared.service.Request.TheVariants as request
use Rattle.vm_types.specs.declared.service.Service.{Service}
use Rattle.vm_types.specs.declared.service.Service.TheVariants as service
use Rattle.vm_journal.specs.declared.entry.Entry.{Entry}
use Rattle.vm_journal.specs.declared.entry.EvictWhy.{EvictWhy}
use Rattle.vm_journal.specs.declared.entry.EvictWhy.TheVariants as evict
use Rattle.pager_model.specs.Around.{past_view}
use Rattle.pager_model.specs.Charging.{is_uncharged}
use Rattle.pager_model.specs.Evict.{IsEvict, evicted_to, victim_of}
use Rattle.pager_model.specs.Flat.{flat_refusal}
use Rattle.pager_model.specs.Flights.{Flight, open_flights}
use Rattle.pager_model.specs.Forget.{holder, range_of}
use Rattle.pager_model.specs.Lookups.{entry_of, has_vpn, is, is_entry, is_pending, page_by, passes, shares, slot_of, slot_with}
use Rattle.pager_model.specs.MappedRanges.{is_unmapped}
use Rattle.pager_model.specs.Maps.{is_private, page_number}
use Rattle.pager_model.specs.Order.{IsAnswered}
use Rattle.pager_model.specs.Pager.{Pager, Valid}
use Rattle.pager_model.specs.Ring.{range_locked, range_pinned}
use Rattle.pager_model.specs.Run.{pager_after}
use Rattle.pager_model.specs.Served.{AreMapped}
use Rattle.pager_model.specs.Sound.{IsBounded}
use Rattle.pager_model.specs.Spoken.{flat_after}
use Rattle.pager_model.specs.Transfers.{is_read_on, reads_on, writes_on}
use Rattle.pager_policy.specs.Advance.{GivenNext, advance_gives, again_modified_full, entry_given, fault_given, frame_given, held_given, is_busy_block, is_named, limit_given, mapped_given, next_again, read_given, refused_given, replace_seen, room_given, source_of}
use Rattle.pager_policy.specs.Given.{Seen, goes_to, is_stopped, seen_at, slots_of}
use Rattle.pager_policy.specs.Serve.{GivenServe, delete_given, evict_given, is_fixed_at, is_range_in_flight, is_valid_at, limits_given, lock_given, loose_in, purge_given, serve_again, serve_gives, serve_modified_full, service_gives, valid_in}
use Rattle.pager_policy.specs.Swap.{GivenSwap, is_saved, is_shared_unpinned, is_still, is_to_save, leave_gives, leave_page, leave_saved, leave_shared, leave_unsaved, slot_where, swap_again, swap_modified_full, turned_gone}
use Rattle.pager_rules.proofs.Basics.{count_from_no_find, states_equal}
use Rattle.pager_rules.proofs.Lists.{found_one, found_passes}
use Rattle.pager_rules.specs.Kept.{IsKept}
use Rattle.pager_laws.proofs.RingBounds.{bounded}
use Rattle.pager_laws.proofs.RunsAreSound.{run_kept}
use Rattle.call_laws.proofs.Chosen.{has_victim}
use Rattle.call_laws.proofs.FreeTurn.{same_number}
use Rattle.call_laws.proofs.SlotsOnce.{only_place}
use Rattle.call_laws.proofs.WaitsLegal.{IsSeen, is_seen}
use Rattle.call_laws.specs.Ready.{IsReady, MayWork}
use Rattle.entry_causes.specs.EvictCause.{IsEvictCause}
use Rattle.entry_causes.specs.HeldUp.{IsHeldUp, with_wait_limit}
use Rattle.entry_causes.specs.NextRequest.{next_request}
use Rattle.entry_causes.specs.Wanted.{IsWanted}
use Rattle.cause_laws.proofs.ServeCaused.{all_mapped, inside_found, inside_named}
use Rattle.cause_laws.specs.Laws.{SeesVictim}

-- ---- an eviction that is stopped would add to a modified list that is at the wait limit
record IsStopped (config : Config) (past : List Entry) (a : Pager) (f : ℕ) : Type 0 where
  pub goes : state.Modified ≡ evicted_to (shares a.valid f) (reads_on f (open_flights past) + writes_on f (open_flights past)) (a.modify f)
  pub at_limit : config.params.waitlimit ≤ length a.modified

stopped_is : (config : Config) (past : List Entry) (a : Pager) (f : ℕ) → is_stopped config past a f ≡ true → IsStopped config past a f
stopped_is config past a f full =
    let parts = and_parts (is state.Modified (goes_to past a f)) (nat_le config.params.waitlimit (length a.modified)) full in
    record { goes = sym (states_equal (goes_to past a f) state.Modified parts.0); at_limit = leb-true _ _ parts.1 }

-- an unmodified page goes elsewhere
clean_goes : (n m : ℕ) → state.Modified ≡ evicted_to n m false → ⊥
clean_goes n m = by (nat_lt 1 n) (nat_lt 0 m)
  where
    by : (b c : Bool) → state.Modified ≡ cond b state.Active (cond c state.ReleasePending state.Free) → ⊥
    by true c is = absurd (cc)
    by false true is = absurd (cc)
    by false false is = absurd (cc)

-- ---- the replacement that a reference needs
module _ (config : Config) (past : List Entry) (p : ℕ) (ready : IsReady config past p) where
  abbrev a : Pager
  a = pager_after config past

  kept : IsKept config (past_view past) a
  kept = run_kept config past ready.formed ready.run

  replace_held : (s : Seen) → ((v : ℕ) × IsWanted config past a p v) → a.limit p ≤ filled (a.ring p).slots → seen_at a p (victim_of (choose (a.ring p) (a.limit p))) ≡ Some s → is_stopped config past a s.frame ≡ true → IsHeldUp config past a
  replace_held s wanted full seen is = record {
    seat = p;
    p = p;
    address = PAGE_BYTES * s.vpn;
    f = s.frame;
    why = evict.Replace;
    caused = wanted;
    legal = (
      refl,
      record {
        own = record { process = ready.own.process; resident = ready.own.resident };
        full = full;
        slot = victim.0;
        chosen = victim.1;
        evicted = record {
          taken = record { entry = there.entry; valid = ap (entry_of a.valid p) (same_number s.vpn) ∙ there.valid; frame = there.frame; goes = stopped.goes };
          held = there.held;
          holds = there.slot;
          same = there.vpn ∙ sym (same_number s.vpn);
        };
        waits = λ goes. omega arith;
      },
    );
    at_limit = stopped.at_limit;
  }
    where
      bounds : IsBounded config.version (bounded config (past_view past) a ready.formed kept p ready.own.process).0 (a.ring p) (a.limit p)
      bounds = (bounded config (past_view past) a ready.formed kept p ready.own.process).1

      victim : (slot : ℕ) × (choose (a.ring p) (a.limit p) ≡ Victim slot)
      victim = has_victim (a.ring p) (a.limit p) full (let least = bounds.least in let few = bounds.locks in omega (arith, least, few))

      there : IsSeen a p victim.0 s
      there = is_seen a p victim.0 s (ap (λ (c : Choice). seen_at a p (victim_of c)) (sym victim.1) ∙ seen)

      stopped : IsStopped config past a s.frame
      stopped = stopped_is config past a s.frame is

module _ (config : Config) (past : List Entry) (p : ℕ) (r : Ref) (ready : IsReady config past p) (next : next_request config past p ≡ Some (request.Reference r)) (sees : SeesVictim (pager_after config past) p) where
  abbrev here : Pager
  here = pager_after config past

  abbrev v : ℕ
  v = page_number (r.addr).0

  abbrev Waiting : GivenNext → Type 0
  Waiting x = x.answer ≡ next_again again_modified_full → IsHeldUp config past here

  either : (b : Bool) (x y : GivenNext) → (b ≡ true → Waiting x) → (b ≡ false → Waiting y) → Waiting (cond b x y)
  either true x y first second = first refl
  either false x y first second = second refl

  module _ (none : flat_refusal config (flat_after config past) p r ≡ None) (invalid : entry_of here.valid p v ≡ None) where
    wanted : IsWanted config past here p v
    wanted = record { r = r; next = next; here = refl; granted = none; not_valid = count_from_no_find (is_entry p v) here.valid invalid }

    replaced : here.limit p ≤ filled (here.ring p).slots → (o : Option Seen) → seen_at here p (victim_of (choose (here.ring p) (here.limit p))) ≡ o → Waiting (replace_seen config past here p o)
    replaced full None seen = λ is. absurd (let there = sees full in none-some there.0 (sym seen ∙ there.1))
    replaced full (Some s) seen = either (is_stopped config past here s.frame) _ _ (λ stopped is. replace_held config past p ready s (v, wanted) full seen stopped) (λ goes is. absurd (cc))

    framed : (g : Page) (o : Option BlockId) (frames : List ℕ) → Waiting (frame_given config here p r g o frames)
    framed g o [] = λ is. absurd (cc)
    framed g None (f ∷ fs) = λ is. absurd (cc)
    framed g (Some b) (f ∷ fs) = λ is. absurd (cc)

    held : (g : Page) (o : Option ℕ) → Waiting (held_given config past here p r g o)
    held g (Some f) = λ is. absurd (cc)
    held g None =
        either (is_busy_block past (source_of config here g (here.map p v))) _ _ (λ busy is. absurd (cc))
        (λ still. framed g (source_of config here g (here.map p v)) here.free)

    roomed : (g : Page) → Waiting (room_given config past here p r g)
    roomed g =
        either (is_uncharged config here g && nat_eq (length here.charged) config.pagefile) _ _ (λ charging is. absurd (cc))
        (λ room. either (nat_le (here.limit p) (filled (here.ring p).slots)) _ _ (λ full. replaced (leb-true _ _ full) (seen_at here p (victim_of (choose (here.ring p) (here.limit p)))) refl)
        (λ below. held g (holder config here.page g)))

    read : (g : Page) (f : ℕ) (o : Option Flight) → Waiting (read_given config past here p r g f o)
    read g f None = roomed g
    read g f (Some x) = either (nat_eq x.seat p) _ _ (λ own. roomed g) (λ other. either (is_named (here.collided p) x.start) _ _ (λ again is. absurd (cc)) (λ first is. absurd (cc)))

    faulted : (g : Page) (o : Option ℕ) → Waiting (fault_given config past here p r g o)
    faulted g None = roomed g
    faulted g (Some f) = read g f (find (is_read_on f) (open_flights past))

    found : (o : Option Page) → Waiting (mapped_given config past here p r o)
    found None = λ is. absurd (cc)
    found (Some g) = faulted g (holder config here.page g)

  entered : flat_refusal config (flat_after config past) p r ≡ None → (o : Option Valid) → entry_of here.valid p v ≡ o → Waiting (entry_given config past here p r o)
  entered none (Some e) valid = λ is. absurd (cc)
  entered none None invalid = found none invalid (page_by config here.map p v)

  refused : (o : Option Why) → flat_refusal config (flat_after config past) p r ≡ o → Waiting (refused_given config past here p r o)
  refused (Some reason) at = λ is. absurd (cc)
  refused None at = entered at (entry_of here.valid p v) refl

  adjusted : (o : Option ProcSpec) → Waiting (limit_given config here p o)
  adjusted None = λ is. absurd (cc)
  adjusted (Some spec) = λ is. absurd (cc)

  pub reference_held : (advance_gives config past (pager_after config past) p r).answer ≡ next_again again_modified_full → IsHeldUp config past (pager_after config past)
  reference_held =
      either (not (is_resident (here.status p))) _ _ (λ gone is. absurd (cc))
      (λ there. either (is_pending config (here.references p)) _ _ (λ pending. adjusted (slice_get config.procs p))
      (λ calm. refused (flat_refusal config (flat_after config past) p r) refl))

-- ---- an eviction that a service needs
module _ (config : Config) (past : List Entry) (p : ℕ) (ready : IsReady config past p) where
  abbrev now : Pager
  now = pager_after config past

  abbrev Stopped : GivenServe → Type 0
  Stopped x = x.answer ≡ serve_again serve_modified_full → IsHeldUp config past now

  choice : (b : Bool) (x y : GivenServe) → (b ≡ true → Stopped x) → (b ≡ false → Stopped y) → Stopped (cond b x y)
  choice true x y first second = first refl
  choice false x y first second = second refl

  dropped : (v : ℕ) (why : EvictWhy) (e : Valid) → IsEvictCause why config past now p (PAGE_BYTES * v) → IsEvict why (with_wait_limit config (length now.modified + 1)) past now p p (PAGE_BYTES * v) e.frame state.Modified → IsStopped config past now e.frame → IsHeldUp config past now
  dropped v why e caused legal stopped = record { seat = p; p = p; address = PAGE_BYTES * v; f = e.frame; why = why; caused = caused; legal = legal; at_limit = stopped.at_limit }

  evicted : (v : ℕ) (why : EvictWhy) → is_valid_at now p v ≡ true → IsEvictCause why config past now p (PAGE_BYTES * v)
      → ((e : Valid) → entry_of now.valid p v ≡ Some e → IsStopped config past now e.frame → IsEvict why (with_wait_limit config (length now.modified + 1)) past now p p (PAGE_BYTES * v) e.frame state.Modified)
      → (o : Option Valid) → entry_of now.valid p v ≡ o → Stopped (evict_given config past now p v why o)
  evicted v why there caused row None invalid = λ is. absurd (let one = found_one (is_entry p v) now.valid (ltb-true _ _ there) in none-some one.0 (sym invalid ∙ one.1))
  evicted v why there caused row (Some e) valid =
      choice (is_stopped config past now e.frame) _ _
      (λ full is. let stopped = stopped_is config past now e.frame full in dropped v why e caused (row e valid stopped) stopped) (λ goes is. absurd (cc))

  loose : (v : ℕ) → is_fixed_at now p v ≡ false → (held : Held) → slice_get (now.ring p).slots (slot_with (now.ring p) (page_number (PAGE_BYTES * v))) ≡ Some (Some held) → is_fixed held ≡ false
  loose v free held at =
      sym (ap (λ (o : Option (Option Held)). passes is_fixed (slot_of o)) (ap (λ (w : ℕ). slice_get (now.ring p).slots (slot_with (now.ring p) w)) (sym (same_number v)) ∙ at)) ∙ free

  purged : (at : Addr) (pages : ℕ) → next_request config past p ≡ Some (request.Service (service.Purge at pages)) → (o : Option ℕ) → loose_in now p at.0 pages ≡ o → Stopped (purge_given config past now p at pages o)
  purged at pages next None found = λ is. absurd (cc)
  purged at pages next (Some v) found =
      let test : ℕ → Bool = λ u. is_valid_at now p u && not (is_fixed_at now p u) in
      let parts = and_parts (is_valid_at now p v) (not (is_fixed_at now p v)) (found_passes test (range_of at.0 pages) v found) in
      evicted v evict.Purge parts.0 (record { at = at; pages = pages; next = next; inside = inside_named at.0 pages v (inside_found at.0 pages test v found) })
      (λ e valid stopped. (
        refl,
        record {
          own = record { process = ready.own.process; resident = ready.own.resident };
          taken = record { entry = e; valid = ap (entry_of now.valid p) (same_number v) ∙ valid; frame = refl; goes = stopped.goes };
          loose = λ held is purging. loose v (not-true _ parts.1) held is;
          waits = λ goes. omega arith;
        },
      )) (entry_of now.valid p v) refl

  deleted : (at : Addr) (pages : ℕ) → next_request config past p ≡ Some (request.Service (service.Delete at pages)) → AreMapped config now p at.0 pages → (o : Option ℕ) → valid_in now p at.0 pages ≡ o → Stopped (delete_given config past now p at pages o)
  deleted at pages next mapped None found = choice (is_range_in_flight config past now p at.0 pages) _ _ (λ flies is. absurd (cc)) (λ still is. absurd (cc))
  deleted at pages next mapped (Some v) found =
      evicted v evict.Delete (found_passes (is_valid_at now p) (range_of at.0 pages) v found)
      (record { at = at; pages = pages; next = next; inside = inside_named at.0 pages v (inside_found at.0 pages (is_valid_at now p) v found); mapped = mapped })
      (λ e valid stopped. (
        refl,
        record {
          own = record { process = ready.own.process; resident = ready.own.resident };
          taken = record { entry = e; valid = ap (entry_of now.valid p) (same_number v) ∙ valid; frame = refl; goes = stopped.goes };
          loose = λ held is purging. absurd (false≢true purging);
          waits = λ goes. omega arith;
        },
      )) (entry_of now.valid p v) refl

  locked : (s : Service) (address pages : ℕ) (ring : Ring) (o : Option ProcSpec) → Stopped (lock_given now p s address pages ring o)
  locked s address pages ring None = λ is. absurd (cc)
  locked s address pages ring (Some spec) = choice (nat_le (fixed ring.slots) spec.locks) _ _ (λ fits is. absurd (cc)) (λ over is. absurd (cc))

  limited : (n : ℕ) (o : Option ProcSpec) → Stopped (limits_given n o)
  limited n None = λ is. absurd (cc)
  limited n (Some spec) = choice (nat_le (spec.locks + 2) n && nat_le n spec.extent) _ _ (λ fits is. absurd (cc)) (λ over is. absurd (cc))

  served : (s : Service) → next_request config past p ≡ Some (request.Service s) → Stopped (service_gives config past now p s)
  served (service.Create at pages prot) next = λ is. absurd (cc)
  served (service.Delete at pages) next =
      choice (is_unmapped now p at.0 pages) _ _ (λ refused is. absurd (cc)) (λ none. deleted at pages next (all_mapped config past p at.0 pages none) (valid_in now p at.0 pages) refl)
  served (service.Protect at pages prot) next = λ is. absurd (cc)
  served (service.Lock at pages) next = choice (is_unmapped now p at.0 pages) _ _ (λ refused is. absurd (cc)) (λ none. locked (service.Lock at pages) at.0 pages (range_locked true at.0 pages (now.ring p)) (slice_get config.procs p))
  served (service.Unlock at pages) next = λ is. absurd (cc)
  served (service.Purge at pages) next = purged at pages next (loose_in now p at.0 pages) refl
  served (service.Pin at pages) next = choice (is_unmapped now p at.0 pages) _ _ (λ refused is. absurd (cc)) (λ none. locked (service.Pin at pages) at.0 pages (range_pinned true at.0 pages (now.ring p)) (slice_get config.procs p))
  served (service.Unpin at pages) next = λ is. absurd (cc)
  served (service.Adjust n) next = limited n (slice_get config.procs p)

  pub service_held : (s : Service) → next_request config past p ≡ Some (request.Service s) → (serve_gives config past (pager_after config past) p s).answer ≡ serve_again serve_modified_full → IsHeldUp config past (pager_after config past)
  service_held s next = choice (is_resident (now.status p)) _ _ (λ there. served s next) (λ gone is. absurd (cc))

-- ---- an eviction of a process that leaves: of a shared page, since what is saved isn't modified
module _ (config : Config) (past : List Entry) (seat p : ℕ) (may : MayWork config past seat) (leaving : (pager_after config past).status p ≡ status.Leaving) where
  abbrev before : Pager
  before = pager_after config past

  abbrev Waits : GivenSwap → Type 0
  Waits x = x.answer ≡ swap_again swap_modified_full → IsHeldUp config past before

  one_of : (b : Bool) (x y : GivenSwap) → (b ≡ true → Waits x) → (b ≡ false → Waits y) → Waits (cond b x y)
  one_of true x y first second = first refl
  one_of false x y first second = second refl

  kept_before : IsKept config (past_view past) before
  kept_before = run_kept config past may.formed may.run

  unpinned_there : (n : ℕ) (s : Seen) → IsSeen before p n s → s.pinned ≡ false → (held : Held) → slice_get (before.ring p).slots (slot_with (before.ring p) (page_number (PAGE_BYTES * s.vpn))) ≡ Some (Some held) → held.pinned ≡ false
  unpinned_there n s there off held at =
      let place : slot_with (before.ring p) s.vpn ≡ n = only_place (has_vpn s.vpn) (before.ring p).slots n (Some there.held) there.slot (eq-eqb there.held.vpn s.vpn there.vpn) (let fits = kept_before.entries p s.vpn in omega (arith, fits.slots, fits.once)) in
      let here : slice_get (before.ring p).slots n ≡ Some (Some held) = sym (ap (λ (w : ℕ). slice_get (before.ring p).slots (slot_with (before.ring p) w)) (same_number s.vpn) ∙ ap (slice_get (before.ring p).slots) place) ∙ at in
      let both : ◌≡◌ {A = Option (Option Held)} (Some (Some held)) (Some (Some there.held)) = sym here ∙ there.slot in
      ap (λ (h : Held). h.pinned) (same_Some held there.held (same_Some (Some held) (Some there.held) both)) ∙ (there.pin ∙ off)

  leave_held : (n : ℕ) (s : Seen) → seen_at before p n ≡ Some s → s.pinned ≡ false → is_private s.page ≡ false → is_stopped config past before s.frame ≡ true → IsHeldUp config past before
  leave_held n s seen off shared is =
      let there = is_seen before p n s seen in
      let stopped = stopped_is config past before s.frame is in
      record {
        seat = seat;
        p = p;
        address = PAGE_BYTES * s.vpn;
        f = s.frame;
        why = evict.Leave;
        caused = tt;
        legal = record {
          leaving = leaving;
          unpinned = unpinned_there n s there off;
          taken = record { entry = there.entry; valid = ap (entry_of before.valid p) (same_number s.vpn) ∙ there.valid; frame = there.frame; goes = stopped.goes };
          private = λ g holds private. absurd (true≢false (sym private ∙ (ap is_private (same_Some g s.page (sym holds ∙ there.page)) ∙ shared)));
          waits = λ goes. omega arith;
        };
        at_limit = stopped.at_limit;
      }

  page_held : (n : ℕ) → ((s : Seen) → seen_at before p n ≡ Some s → is_stopped config past before s.frame ≡ true → IsHeldUp config past before) → (o : Option Seen) → seen_at before p n ≡ o → Waits (leave_page config past before p o)
  page_held n held None seen = λ is. absurd (cc)
  page_held n held (Some s) seen = one_of (is_stopped config past before s.frame) _ _ (λ stopped is. held s seen stopped) (λ goes is. absurd (cc))

  found_slot : (t : ℕ → Seen → Bool) (n : ℕ) (s : Seen) → slot_where before p t ≡ Some n → seen_at before p n ≡ Some s → t n s ≡ true
  found_slot t n s found seen = sym (ap (passes (t n)) seen) ∙ found_passes (λ (m : ℕ). passes (t m) (seen_at before p m)) (slots_of before p) n found

  gone_held : Waits (turned_gone before p)
  gone_held = one_of (nat_lt 0 (unpinned (before.ring p).slots)) _ _ (λ some is. absurd (cc)) (λ none is. absurd (cc))

  unsaved_held : (o : Option ℕ) → Waits (leave_unsaved config past before p o)
  unsaved_held (Some n) = λ is. absurd (cc)
  unsaved_held None = gone_held

  saved_clean : (n : ℕ) (s : Seen) → slot_where before p (is_saved past before p) ≡ Some n → seen_at before p n ≡ Some s → before.modify s.frame ≡ false
  saved_clean n s found seen =
      let first = and_parts (is_private s.page && not s.pinned) _ (found_slot (is_saved past before p) n s found seen) in
      let second = and_parts _ (not (before.modify s.frame) && is_still past s.frame) first.1 in
      not-true (before.modify s.frame) (and_parts (not (before.modify s.frame)) (is_still past s.frame) second.1).0

  saved_held : (o : Option ℕ) → slot_where before p (is_saved past before p) ≡ o → Waits (leave_saved config past before p o)
  saved_held None found = unsaved_held (slot_where before p (λ (n : ℕ) (s : Seen). is_to_save past s))
  saved_held (Some n) found =
      page_held n (λ s seen is. absurd (clean_goes (shares before.valid s.frame) (reads_on s.frame (open_flights past) + writes_on s.frame (open_flights past))
      ((stopped_is config past before s.frame is).goes ∙ ap (evicted_to (shares before.valid s.frame) (reads_on s.frame (open_flights past) + writes_on s.frame (open_flights past))) (saved_clean n s found seen)))) (seen_at before p n) refl

  shared_held : (o : Option ℕ) → slot_where before p (λ (n : ℕ) (s : Seen). is_shared_unpinned s) ≡ o → Waits (leave_shared config past before p o)
  shared_held None found = saved_held (slot_where before p (is_saved past before p)) refl
  shared_held (Some n) found =
      page_held n (λ s seen is.
      let parts = and_parts (not (is_private s.page)) (not s.pinned) (found_slot (λ (m : ℕ) (x : Seen). is_shared_unpinned x) n s found seen) in
      leave_held n s seen (not-true _ parts.1) (not-true _ parts.0) is) (seen_at before p n) refl

  pub leaving_held : (leave_gives config past (pager_after config past) p).answer ≡ swap_again swap_modified_full → IsHeldUp config past (pager_after config past)
  leaving_held = shared_held (slot_where before p (λ (n : ℕ) (s : Seen). is_shared_unpinned s)) refl

-- ---- an eviction of the rundown
pub rundown_held : (config : Config) (past : List Entry) (p n : ℕ) (s : Seen) → IsAnswered config past → seen_at (pager_after config past) p n ≡ Some s → is_private s.page ≡ false → is_stopped config past (pager_after config past) s.frame ≡ true → IsHeldUp config past (pager_after config past)
rundown_held config past p n s answered seen shared is =
    let there = is_seen (pager_after config past) p n s seen in
    let stopped = stopped_is config past (pager_after config past) s.frame is in
    record {
      seat = length config.procs;
      p = p;
      address = PAGE_BYTES * s.vpn;
      f = s.frame;
      why = evict.Rundown;
      caused = tt;
      legal = record {
        writer = refl;
        answered = answered;
        taken = record { entry = there.entry; valid = ap (entry_of ((pager_after config past).valid) p) (same_number s.vpn) ∙ there.valid; frame = there.frame; goes = stopped.goes };
        shared = λ g holds. ap is_private (same_Some g s.page (sym holds ∙ there.page)) ∙ shared;
        waits = λ goes. omega arith;
      };
      at_limit = stopped.at_limit;
    }
