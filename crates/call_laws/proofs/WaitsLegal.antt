-- What a fault makes before its page is valid is legal: an adjustment, a collision, and a replacement.
use Rattle.std.proofs.Common.{◌≡◌, inl, inr, ℕ, ◌+◌, ◌<◌, ◌≤◌, ◌^◌, ◌&&◌, Bool, true, false, cond, List, [], ◌∷◌, Option, Some, None, length, find, count_by, slice_get, nat_eq, nat_le, refl, sym, ap, ◌∙◌, subst, arith}
use Rattle.std.proofs.lemmas.Bool.{and_parts, eqb-true, false≢true, leb-false}
use Rattle.std.proofs.lemmas.Option.{get_or_from_slice_get, none-some, same_Some, slice_get_within}
use Rattle.vm_types.specs.Adjust.{adjust}
use Rattle.vm_types.specs.Configuration.{IsProcess, all_pins}
use Rattle.vm_types.specs.Ring.{Held, choose, filled}
use Rattle.vm_types.specs.declared.config.Config.{Config}
use Rattle.vm_types.specs.declared.config.ProcSpec.{ProcSpec}
use Rattle.vm_types.specs.declared.names.FrameState.TheVariants as state
use Rattle.vm_types.specs.declared.names.Page.{Page}
use Rattle.vm_types.specs.declared.ring_choice.Choice.{Choice}
use Rattle.vm_types.specs.declared.ring_choice.Choice.TheVariants.{Victim}
use Rattle.vm_journal.specs.declared.entry.Entry.{Entry}
use Rattle.vm_journal.specs.declared.entry.EvictWhy.TheVariants as evict
use Rattle.vm_journal.specs.declared.entry.What.TheVariants as what
use Rattle.pager_policy.specs.Advance.{is_named}
use Rattle.pager_model.specs.Around.{past_view}
use Rattle.pager_model.specs.Evict.{victim_of}
use Rattle.pager_model.specs.Flights.{Flight, is_reading, open_flights}
use Rattle.pager_model.specs.Forget.{holder}
use Rattle.pager_policy.specs.Given.{Seen, by_seat, eviction, goes_to, is_stopped, page_address, seen_at, seen_by, seen_in, seen_page}
use Rattle.pager_model.specs.Maps.{pfn}
use Rattle.pager_model.specs.Lookups.{entry_of, is, is_pending, page_by, slot_of}
use Rattle.pager_model.specs.OfConfig.{IsMappable, IsOfConfig}
use Rattle.pager_model.specs.Pager.{Pager, Valid}
use Rattle.pager_model.specs.Run.{pager_after}
use Rattle.pager_model.specs.Sound.{IsBounded}
use Rattle.pager_model.specs.Step.{IsLegal}
use Rattle.pager_model.specs.Transfers.{is_read_on, starts}
use Rattle.pager_rules.proofs.Basics.{count_cons, nat_eq_refl}
use Rattle.pager_rules.proofs.Lists.{count_found, found_passes}
use Rattle.pager_rules.proofs.Quiet.{starts_once}
use Rattle.pager_rules.specs.Kept.{IsKept}
use Rattle.pager_laws.proofs.FewCounts.{counts_few}
use Rattle.pager_laws.proofs.LimitKept.{adjust_within}
use Rattle.pager_laws.proofs.OfConfigKept.{run_right}
use Rattle.pager_laws.proofs.RunsAreSound.{run_kept}
use Rattle.pager_laws.proofs.Holders.{holder_holds, holds_within}
use Rattle.pager_laws.proofs.RingBounds.{bounded}
use Rattle.pager_laws.proofs.ValidEntries.{IsValidAt, valid_at_page}
use Rattle.pager_laws.proofs.EntryPages.{mapped_right}
use Rattle.content_laws.proofs.FlightLeft.{started}
use Rattle.call_laws.proofs.Chosen.{has_victim}
use Rattle.call_laws.specs.Ready.{IsReady}
use Rattle.call_laws.proofs.FreeTurn.{free_turn, page_starts, same_number}

-- the one that passes a test which one passes at most
pub found_once : {X : Type 0} (s t : X → Bool) (xs : List X) (x : X) → find s xs ≡ Some x → t x ≡ true → count_by t xs ≤ 1 → find t xs ≡ Some x
found_once s t [] x is passes once = absurd (none-some x is)
found_once {X} s t (y ∷ xs) x is passes once = go (s y) refl (t y) refl is (omega (arith, once, count_cons t y xs)) (λ is once. found_once s t xs x is passes once)
  where
    go : (b : Bool) → s y ≡ b → (c : Bool) → t y ≡ c → cond b (Some y) (find s xs) ≡ Some x → cond c 1 0 + count_by t xs ≤ 1 → (find s xs ≡ Some x → count_by t xs ≤ 1 → find t xs ≡ Some x) → cond c (Some y) (find t xs) ≡ Some x
    go true first true there is once rest = is
    go true first false there is once rest = absurd (let same = same_Some y x is in cc)
    go false first true there is once rest = absurd (omega (arith, once, count_found t s xs x is passes))
    go false first false there is once rest = rest is (omega (arith, once))

-- what is seen in a slot: it is filled, its entry is valid for the frame, and the frame holds the page
pub record IsSeen (a : Pager) (p n : ℕ) (s : Seen) : Type 0 where
  pub held : Held
  pub slot : slice_get (a.ring p).slots n ≡ Some (Some held)
  pub vpn : held.vpn ≡ s.vpn
  pub entry : Valid
  pub valid : entry_of a.valid p s.vpn ≡ Some entry
  pub frame : entry.frame ≡ s.frame
  pub page : a.page s.frame ≡ Some s.page
  pub pin : held.pinned ≡ s.pinned

pub is_seen : (a : Pager) (p n : ℕ) (s : Seen) → seen_at a p n ≡ Some s → IsSeen a p n s
is_seen a p n s is = by_slot (slice_get (a.ring p).slots n) refl is
  where
    by_page : (held : Held) (e : Valid) (o : Option Page) → slice_get (a.ring p).slots n ≡ Some (Some held) → entry_of a.valid p held.vpn ≡ Some e → a.page e.frame ≡ o → seen_page held e.frame o ≡ Some s → IsSeen a p n s
    by_page held e None slot valid page is = absurd (none-some s is)
    by_page held e (Some g) slot valid page is =
        let same = same_Some _ s is in
        let vpn : held.vpn ≡ s.vpn = ap (λ (x : Seen). x.vpn) same in
        let frame : e.frame ≡ s.frame = ap (λ (x : Seen). x.frame) same in
        let holds : g ≡ s.page = ap (λ (x : Seen). x.page) same in
        record {
          held = held;
          slot = slot;
          vpn = vpn;
          entry = e;
          valid = subst (λ (v : ℕ). entry_of a.valid p v ≡ Some e) vpn valid;
          frame = frame;
          page = subst (λ (f : ℕ). a.page f ≡ Some s.page) frame (page ∙ ap Some holds);
          pin = ap (λ (x : Seen). x.pinned) same;
        }

    by_entry : (held : Held) (o : Option Valid) → slice_get (a.ring p).slots n ≡ Some (Some held) → entry_of a.valid p held.vpn ≡ o → seen_by a held o ≡ Some s → IsSeen a p n s
    by_entry held None slot valid is = absurd (none-some s is)
    by_entry held (Some e) slot valid is = by_page held e (a.page e.frame) slot valid refl is

    by_slot : (o : Option (Option Held)) → slice_get (a.ring p).slots n ≡ o → seen_in a p (slot_of o) ≡ Some s → IsSeen a p n s
    by_slot None slot is = absurd (none-some s is)
    by_slot (Some None) slot is = absurd (none-some s is)
    by_slot (Some (Some held)) slot is = by_entry held (entry_of a.valid p held.vpn) slot refl is

-- an eviction that isn't stopped waits for nothing
pub waits_not : (config : Config) (past : List Entry) (a : Pager) (f : ℕ) → is_stopped config past a f ≡ false → goes_to past a f ≡ state.Modified → length a.modified < config.params.waitlimit
waits_not config past a f free goes = go (nat_le config.params.waitlimit (length a.modified)) refl
  where
    to_modified : is state.Modified (goes_to past a f) ≡ true
    to_modified = ap (is state.Modified) goes

    go : (b : Bool) → nat_le config.params.waitlimit (length a.modified) ≡ b → length a.modified < config.params.waitlimit
    go true least = absurd (false≢true (sym free ∙ (ap (λ (b : Bool). b && nat_le config.params.waitlimit (length a.modified)) to_modified ∙ least)))
    go false more = let less = leb-false config.params.waitlimit (length a.modified) more in omega (arith, less)

module _ (config : Config) (past : List Entry) (p : ℕ) (ready : IsReady config past p) where
  abbrev a : Pager
  a = pager_after config past

  pub kept : IsKept config (past_view past) a
  kept = run_kept config past ready.formed ready.run

  pub right : IsOfConfig config a
  right = run_right config past ready.formed ready.run

  pub seat_small : p ≤ length config.procs + 1
  seat_small = let below = ready.own.process in omega (arith, below)

  pub frame_small : (f : ℕ) → f < config.frames → f < 2 ^ 32
  frame_small f below = let most = ready.formed.frames.1 in omega (arith, below, most)

  pub held_small : (f : ℕ) (g : Page) → a.page f ≡ Some g → f < 2 ^ 32
  held_small f g holds = frame_small f (holds_within config (past_view past) a f g kept holds)

  -- the number of a page that is mapped
  pub mapped_small : (v : ℕ) (g : Page) → page_by config a.map p v ≡ Some g → v < 2 ^ 23
  mapped_small v g mapped = by (mapped_right config a p v g right mapped).3.page
    where
      by : IsMappable v → v < 2 ^ 23
      by (inl less) = omega (arith, less)
      by (inr most) = let below = most.1 in omega (arith, below)

  -- ---- LIMIT
  pub limit_legal : (spec : ProcSpec) → slice_get config.procs p ≡ Some spec → is_pending config (a.references p) ≡ true
      → IsLegal config past a (by_seat p (what.Limit (adjust config.params spec (a.faults p) (a.limit p) (length a.free)) (a.faults p)))
  limit_legal spec found pending = record {
    in_turn = free_turn config past p _ ready.free;
    line = record { seat = seat_small; what = (small, few) };
    row = record { own = ready.own; pending = pending; counted = refl; adjusted = λ other is. ap (λ (s : ProcSpec). adjust config.params s (a.faults p) (a.limit p) (length a.free)) (same_Some spec other (sym found ∙ is)) };
  }
    where
      few : a.faults p < 2 ^ 64
      few = let most = (counts_few config past).faults p in let short = ready.few in omega (arith, most, short)

      process : IsProcess config.frames (length config.bad + all_pins config) spec
      process = subst (λ (x : ProcSpec). IsProcess config.frames (length config.bad + all_pins config) x) (get_or_from_slice_get config.procs p spec spec found) (ready.formed.procs p spec (slice_get_within config.procs p spec found))

      small : adjust config.params spec (a.faults p) (a.limit p) (length a.free) < 2 ^ 32
      small =
          let old = (kept.processes p).bounds spec found in
          let within = adjust_within config.params spec (a.faults p) (a.limit p) (length a.free) process.limited.quota process.limited.extent old.least old.most in
          let most = process.limited.most in
          omega (arith, within.1, most)

  -- ---- COLLIDE
  pub collide_legal : (v f : ℕ) (g : Page) (x : Flight) → page_by config a.map p v ≡ Some g → holder config a.page g ≡ Some f → find (is_read_on f) (open_flights past) ≡ Some x → nat_eq x.seat p ≡ false → is_named (a.collided p) x.start ≡ false
      → IsLegal config past a (by_seat p (what.Collide (page_address v) (pfn f) x.start))
  collide_legal v f g x mapped holds reads other unnamed = record {
    in_turn = free_turn config past p _ ready.free;
    line = record { seat = seat_small; what = (page_starts v (mapped_small v g mapped), held_small f g held, few) };
    row = record {
      own = ready.own;
      flight = x;
      open_k = found_once (is_read_on f) (starts x.start) (open_flights past) x reads (nat_eq_refl x.start) (starts_once past x.start);
      frame = eqb-true x.frame f parts.0;
      reads = parts.1;
      other = λ same. absurd (false≢true (sym other ∙ (ap (λ (n : ℕ). nat_eq n p) same ∙ nat_eq_refl p)));
      page = g;
      mapped = ap (page_by config a.map p) (same_number v) ∙ mapped;
      holds = held;
      not_named = λ named. absurd (false≢true (sym unnamed ∙ (ap (λ (o : Option ℕ). is_named o x.start) named ∙ nat_eq_refl x.start)));
    };
  }
    where
      held : a.page f ≡ Some g
      held = holder_holds config a.page g f holds

      parts : (nat_eq x.frame f ≡ true) × (is_reading x.direction ≡ true)
      parts = and_parts (nat_eq x.frame f) (is_reading x.direction) (found_passes (is_read_on f) (open_flights past) x reads)

      few : x.start < 2 ^ 64
      few = let most = started past x (found_once (is_read_on f) (starts x.start) (open_flights past) x reads (nat_eq_refl x.start) (starts_once past x.start)) in let short = ready.few in omega (arith, most, short)

  -- ---- EVICT with REPLACE
  pub replace_legal : (s : Seen) → a.limit p ≤ filled (a.ring p).slots → seen_at a p (victim_of (choose (a.ring p) (a.limit p))) ≡ Some s → is_stopped config past a s.frame ≡ false
      → IsLegal config past a (by_seat p (eviction past a p s.vpn s.frame evict.Replace))
  replace_legal s full seen goes = record {
    in_turn = free_turn config past p _ ready.free;
    line = record { seat = seat_small; what = ((ready.own.process, page_starts s.vpn (mapped_small s.vpn known.page known.mapped)), held_small s.frame s.page there.page) };
    row = (
      refl,
      record {
        own = ready.own;
        full = full;
        slot = victim.0;
        chosen = victim.1;
        evicted = record {
          taken = record { entry = there.entry; valid = ap (entry_of a.valid p) (same_number s.vpn) ∙ there.valid; frame = there.frame; goes = refl };
          held = there.held;
          holds = there.slot;
          same = there.vpn ∙ sym (same_number s.vpn);
        };
        waits = waits_not config past a s.frame goes;
      },
    );
  }
    where
      bounds : IsBounded config.version (bounded config (past_view past) a ready.formed kept p ready.own.process).0 (a.ring p) (a.limit p)
      bounds = (bounded config (past_view past) a ready.formed kept p ready.own.process).1

      victim : (slot : ℕ) × (choose (a.ring p) (a.limit p) ≡ Victim slot)
      victim = has_victim (a.ring p) (a.limit p) full (let least = bounds.least in let few = bounds.locks in omega (arith, least, few))

      there : IsSeen a p victim.0 s
      there = is_seen a p victim.0 s (ap (λ (c : Choice). seen_at a p (victim_of c)) (sym victim.1) ∙ seen)

      known : IsValidAt config a p s.vpn there.entry
      known = valid_at_page config past a p s.vpn there.entry kept there.valid
