-- SERVED Lock, Unlock, Pin and Unpin: the ring of a resident process, but for its marks.
use Rattle.pager_rules.proofs.Quiet.{none_failed}
use Rattle.std.proofs.Common.{◌≡◌, ◌⊎◌, ℕ, ◌≤◌, Bool, true, false, cond, List, ◌||◌, Option, Some, None, length, map, nat_eq, slice_get, refl, sym, ap, ◌∙◌, subst, inl, inr, arith}
use Rattle.std.proofs.lemmas.Bool.{cases_eq}
use Rattle.std.proofs.lemmas.List.{length-map}
use Rattle.vm_types.specs.Configuration.{pins_of}
use Rattle.vm_types.specs.Ring.{Ring, Held, fixed, is_fixed_slot, is_pinned_slot, pinned}
use Rattle.vm_types.specs.declared.names.Page.{Page}
use Rattle.vm_types.specs.declared.names.Page.TheVariants.{Private, Shared}
use Rattle.vm_types.specs.declared.config.Config.{Config}
use Rattle.vm_types.specs.declared.config.ProcSpec.{ProcSpec}
use Rattle.vm_types.specs.Versions.{is_first}
use Rattle.vm_journal.specs.declared.entry.Entry.{Entry}
use Rattle.pager_laws.proofs.TurnKept.{count_fewer, count_map, fits_map}
use Rattle.pager_model.specs.Around.{entry_view, process_view, quiet}
use Rattle.pager_model.specs.FlatService.{in_range}
use Rattle.pager_model.specs.Flights.{is_busy, open_flights}
use Rattle.pager_model.specs.Lookups.{has_vpn, pins_with, slot_of, slots_with}
use Rattle.pager_model.specs.Own.{IsResident}
use Rattle.pager_model.specs.Pager.{Pager}
use Rattle.pager_model.specs.Ring.{range_locked, range_pinned, relocked_slot, repinned_slot}
use Rattle.pager_model.specs.Served.{with_ring}
use Rattle.pager_model.specs.Sound.{FitsSlot}
use Rattle.pager_rules.proofs.Basics.{at_number_other, at_number_same}
use Rattle.pager_rules.proofs.Pages.{swapped_move}
use Rattle.pager_rules.proofs.Transfers.{alike, transfers_idle}
use Rattle.pager_rules.proofs.Views.{frames_move}
use Rattle.pager_rules.specs.Kept.{FitsEntry, FitsProcess, IsKept, views}
use Rattle.pager_rules.proofs.Pins.{pinned_few}

-- each slot has the page that it had
pub record HasSameSlots (old new : Ring) : Type 0 where
  pub vpns : (w : ℕ) → slots_with new w ≡ slots_with old w
  pub slots : length new.slots ≡ length old.slots
  pub hand : new.hand ≡ old.hand
  pub slot : (p n : ℕ) (g : Page) → FitsSlot p (slot_of (slice_get old.slots n)) g → FitsSlot p (slot_of (slice_get new.slots n)) g

-- a change of the marks of a slot keeps the page in it
record IsMarking (f : Option Held → Option Held) : Type 0 where
  none : f None ≡ None
  some : (held : Held) → (new : Held) × (f (Some held) ≡ Some new) × (new.vpn ≡ held.vpn)

locking : (lock : Bool) (address pages : ℕ) → IsMarking (relocked_slot lock address pages)
locking lock address pages = record { none = refl; some = λ held. (record held { locked = cond (in_range address pages held.vpn) lock held.locked }, refl, refl) }

pinning : (pin : Bool) (address pages : ℕ) → IsMarking (repinned_slot pin address pages)
pinning pin address pages = record { none = refl; some = λ held. (record held { pinned = cond (in_range address pages held.vpn) pin held.pinned }, refl, refl) }

marked : (f : Option Held → Option Held) → IsMarking f → (ring : Ring) → HasSameSlots ring (record { slots = map f ring.slots; hand = ring.hand })
marked f marking ring = record {
  vpns = λ w. count_map (has_vpn w) (has_vpn w) f (vpn w) ring.slots;
  slots = length-map ring.slots f;
  hand = refl;
  slot = λ p n g fits. fits_map f p n g (still p g) ring.slots fits;
}
  where
    vpn : (w : ℕ) (o : Option Held) → has_vpn w (f o) ≡ has_vpn w o
    vpn w None = ap (has_vpn w) marking.none
    vpn w (Some held) = let new = marking.some held in ap (has_vpn w) new.1 ∙ ap (λ (v : ℕ). nat_eq v w) new.2

    still : (p : ℕ) (g : Page) (o : Option Held) → FitsSlot p o g → FitsSlot p (f o) g
    still p g None fits = subst (λ (o : Option Held). FitsSlot p o g) (sym marking.none) fits
    still p (Private q v) (Some held) fits = let new = marking.some held in subst (λ (o : Option Held). FitsSlot p o (Private q v)) (sym new.1) (fits.0, new.2 ∙ fits.1)
    still p (Shared s i) (Some held) fits = absurd fits

-- unlocking fixes no more, and neither locking nor unlocking pins
one_less : (b c d : Bool) → cond {A = ℕ} (cond b false c || d) 1 0 ≤ cond {A = ℕ} (c || d) 1 0
one_less true true true = omega arith
one_less true true false = omega arith
one_less true false d = omega arith
one_less false c d = omega arith

one_loose : (b c d : Bool) → cond {A = ℕ} (c || cond b false d) 1 0 ≤ cond {A = ℕ} (c || d) 1 0
one_loose true true d = omega arith
one_loose true false true = omega arith
one_loose true false false = omega arith
one_loose false c d = omega arith

unlocked_less : (address pages : ℕ) (xs : List (Option Held)) → fixed (map (relocked_slot false address pages) xs) ≤ fixed xs
unlocked_less address pages xs = count_fewer is_fixed_slot (relocked_slot false address pages) one xs
  where
    one : (o : Option Held) → cond {A = ℕ} (is_fixed_slot (relocked_slot false address pages o)) 1 0 ≤ cond {A = ℕ} (is_fixed_slot o) 1 0
    one None = omega arith
    one (Some held) = one_less (in_range address pages held.vpn) held.locked held.pinned

unpinned_less : (address pages : ℕ) (xs : List (Option Held)) → fixed (map (repinned_slot false address pages) xs) ≤ fixed xs
unpinned_less address pages xs = count_fewer is_fixed_slot (repinned_slot false address pages) one xs
  where
    one : (o : Option Held) → cond {A = ℕ} (is_fixed_slot (repinned_slot false address pages o)) 1 0 ≤ cond {A = ℕ} (is_fixed_slot o) 1 0
    one None = omega arith
    one (Some held) = one_loose (in_range address pages held.vpn) held.locked held.pinned

pins_left : (address pages : ℕ) (xs : List (Option Held)) → pinned (map (repinned_slot false address pages) xs) ≤ pinned xs
pins_left address pages xs = count_fewer is_pinned_slot (repinned_slot false address pages) one xs
  where
    less : (b d : Bool) → cond {A = ℕ} (cond b false d) 1 0 ≤ cond {A = ℕ} d 1 0
    less true d = omega arith
    less false d = omega arith

    one : (o : Option Held) → cond {A = ℕ} (is_pinned_slot (repinned_slot false address pages o)) 1 0 ≤ cond {A = ℕ} (is_pinned_slot o) 1 0
    one None = omega arith
    one (Some held) = less (in_range address pages held.vpn) held.pinned

pins_same : (lock : Bool) (address pages : ℕ) (xs : List (Option Held)) → pinned (map (relocked_slot lock address pages) xs) ≡ pinned xs
pins_same lock address pages xs = count_map is_pinned_slot is_pinned_slot (relocked_slot lock address pages) same xs
  where
    same : (o : Option Held) → is_pinned_slot (relocked_slot lock address pages o) ≡ is_pinned_slot o
    same None = refl
    same (Some held) = refl

pub ring_relocked : (config : Config) (past : List Entry) (a : Pager) (p : ℕ) (new : Ring) → IsKept config (quiet (open_flights past)) a → IsResident config a p → is_busy p (open_flights past) ≡ false → HasSameSlots (a.ring p) new
    → ((spec : ProcSpec) → slice_get config.procs p ≡ Some spec → fixed new.slots ≤ spec.locks)
    → ((spec : ProcSpec) → slice_get config.procs p ≡ Some spec → pinned new.slots ≤ pins_of config.version spec) → IsKept config (quiet (open_flights past)) (with_ring a p new)
ring_relocked config past a p new kept own idle same locks pins =
    record {
      frames = kept.frames;
      processes = frames_move FitsProcess (process_view config a) (process_view config b) p there here kept.processes;
      entries = entries;
      valid = kept.valid;
      pages = kept.pages;
      blocks = kept.blocks;
      fit = kept.fit;
      held_once = kept.held_once;
      held_charged = kept.held_charged;
      unsaved = kept.unsaved;
      swapped = swapped_move a.lies a.status a.ring b.ring a.state a.state a.page a.page p 0 own.resident (λ r apart. at_number_other a.ring p new r apart) (λ h apart. refl) (λ h apart. refl)
          (λ g q n holds lies own_g apart. (kept.swapped g q n lies).frame 0 holds) kept.swapped;
      coming_once = kept.coming_once;
      transfers = transfers_idle (views config a) (views config b) p (record { not_leaving = λ leaving. let resident = own.resident in cc; status = λ r. refl; process = there; entries = λ r w far. refl; mapped = λ r w far. refl })
          (open_flights past) idle (λ x counts fits. (refl, λ g holds. alike _ _ _ refl)) kept.transfers;
      one_fault = kept.one_fault;
      failed = none_failed _ _;
    }
  where
    b : Pager
    b = with_ring a p new

    there : (r : ℕ) → (p ≡ r → ⊥) → process_view config b r ≡ process_view config a r
    there r apart = let ring_is = at_number_other a.ring p new r apart in cc

    here : FitsProcess (process_view config b p)
    here = subst (λ (r : Ring). FitsProcess (record (process_view config a p) { ring = r })) (sym (at_number_same a.ring p new)) (record {
      bounds = λ spec found. let old = (kept.processes p).bounds spec found in record { locks = locks spec found; pins = pins spec found; least = old.least; most = old.most; slots = same.slots ∙ old.slots; hand = omega (arith, same.hand, old.hand) };
      gone = λ gone. let resident = own.resident in absurd (cc);
      none = λ none. (((kept.processes p).none none).0, same.slots ∙ ((kept.processes p).none none).1);
    })

    entries : (q w : ℕ) → FitsEntry (entry_view config b q w)
    entries q w = at (cases_eq p q)
      where
        own_entry : FitsEntry (entry_view config b p w)
        own_entry = record {
          once = (kept.entries p w).once;
          slots = ap (λ (r : Ring). slots_with r w) (at_number_same a.ring p new) ∙ (same.vpns w ∙ (kept.entries p w).slots);
          coming = λ g coming some mapped. let resident = own.resident in absurd (cc);
        }

        at : (p ≡ q) ⊎ (p ≡ q → ⊥) → FitsEntry (entry_view config b q w)
        at (inl is) = subst (λ (r : ℕ). FitsEntry (entry_view config b r w)) is own_entry
        at (inr apart) =
            let ring_is = at_number_other a.ring p new q apart in
            subst (λ (r : Ring). FitsEntry (record (entry_view config a q w) { slots = slots_with r w; pins = pins_with r w })) (sym ring_is) (kept.entries q w)

pub locked_range : (config : Config) (past : List Entry) (a : Pager) (p address pages : ℕ) → IsKept config (quiet (open_flights past)) a → IsResident config a p → is_busy p (open_flights past) ≡ false
    → ((spec : ProcSpec) → slice_get config.procs p ≡ Some spec → fixed (range_locked true address pages (a.ring p)).slots ≤ spec.locks)
    → IsKept config (quiet (open_flights past)) (with_ring a p (range_locked true address pages (a.ring p)))
locked_range config past a p address pages kept own idle locks = ring_relocked config past a p (range_locked true address pages (a.ring p)) kept own idle (marked (relocked_slot true address pages) (locking true address pages) (a.ring p)) locks
    (λ spec found. subst (λ (n : ℕ). n ≤ pins_of config.version spec) (sym (pins_same true address pages (a.ring p).slots)) ((kept.processes p).bounds spec found).pins)

pub unlocked_range : (config : Config) (past : List Entry) (a : Pager) (p address pages : ℕ) → IsKept config (quiet (open_flights past)) a → IsResident config a p → is_busy p (open_flights past) ≡ false
    → IsKept config (quiet (open_flights past)) (with_ring a p (range_locked false address pages (a.ring p)))
unlocked_range config past a p address pages kept own idle =
    ring_relocked config past a p (range_locked false address pages (a.ring p)) kept own idle (marked (relocked_slot false address pages) (locking false address pages) (a.ring p))
    (λ spec found. omega (arith, unlocked_less address pages (a.ring p).slots, ((kept.processes p).bounds spec found).locks))
    (λ spec found. subst (λ (n : ℕ). n ≤ pins_of config.version spec) (sym (pins_same false address pages (a.ring p).slots)) ((kept.processes p).bounds spec found).pins)

pub pinned_range : (config : Config) (past : List Entry) (a : Pager) (p address pages : ℕ) → is_first config.version ≡ false → IsKept config (quiet (open_flights past)) a → IsResident config a p → is_busy p (open_flights past) ≡ false
    → ((spec : ProcSpec) → slice_get config.procs p ≡ Some spec → fixed (range_pinned true address pages (a.ring p)).slots ≤ spec.locks)
    → IsKept config (quiet (open_flights past)) (with_ring a p (range_pinned true address pages (a.ring p)))
pinned_range config past a p address pages later kept own idle locks =
    ring_relocked config past a p (range_pinned true address pages (a.ring p)) kept own idle (marked (repinned_slot true address pages) (pinning true address pages) (a.ring p)) locks
    (λ spec found. subst (λ (b : Bool). pinned (range_pinned true address pages (a.ring p)).slots ≤ cond b 0 spec.locks) (sym later) (omega (arith, pinned_few (range_pinned true address pages (a.ring p)).slots, locks spec found)))

pub unpinned_range : (config : Config) (past : List Entry) (a : Pager) (p address pages : ℕ) → IsKept config (quiet (open_flights past)) a → IsResident config a p → is_busy p (open_flights past) ≡ false
    → IsKept config (quiet (open_flights past)) (with_ring a p (range_pinned false address pages (a.ring p)))
unpinned_range config past a p address pages kept own idle =
    ring_relocked config past a p (range_pinned false address pages (a.ring p)) kept own idle (marked (repinned_slot false address pages) (pinning false address pages) (a.ring p))
    (λ spec found. omega (arith, unpinned_less address pages (a.ring p).slots, ((kept.processes p).bounds spec found).locks))
    (λ spec found. omega (arith, pins_left address pages (a.ring p).slots, ((kept.processes p).bounds spec found).pins))
