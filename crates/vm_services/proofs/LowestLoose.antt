-- The lowest page of a range that may be purged, by what the slots of the working set show.
use Rattle.std.proofs.Common.{◌≡◌, ℕ, ◌+◌, ◌<◌, ◌≤◌, ◌&&◌, Bool, true, false, cond, not, List, Option, Some, None, length, find, count_by, nat_le, nat_lt, slice_get, slice_index_or, refl, sym, ap, ◌∙◌, subst, arith}
use Rattle.std.proofs.lemmas.Bool.{and_from, and_parts, eqb-true, false≢true, le-leb, leb-true, lt-ltb, ltb-true, not-true}
use Rattle.std.proofs.lemmas.List.Folds.{find_at}
use Rattle.std.proofs.lemmas.Option.{none-some, same_Some, slice_get-get_or, slice_get_within}
use Rattle.vm_types.specs.Ring.{Held, is_fixed}
use Rattle.vm_types.specs.declared.config.Config.{Config}
use Rattle.vm_types.specs.declared.config.ProcSpec.{ProcSpec}
use Rattle.vm_journal.specs.declared.entry.Entry.{Entry}
use Rattle.pager_model.specs.Around.{past_view}
use Rattle.pager_model.specs.FlatService.{in_range}
use Rattle.pager_model.specs.Lookups.{passes, entries_at, entry_of, has_vpn, is_entry, slot_of, slot_with as place_of}
use Rattle.pager_model.specs.Maps.{page_number}
use Rattle.pager_model.specs.Pager.{Pager, Valid}
use Rattle.pager_policy.specs.Serve.{is_fixed_at, is_valid_at, loose_in}
use Rattle.pager_rules.proofs.Basics.{nat_eq_refl}
use Rattle.pager_rules.proofs.Lists.{count_found, found_one, found_passes}
use Rattle.pager_rules.specs.Kept.{IsKept}
use Rattle.call_laws.proofs.SlotsOnce.{only_place}
use Rattle.call_begins.proofs.Branches.{if_true}
use Rattle.vm_state.specs.ProcessReadings.{slot_by, slot_in, slot_with}
use Rattle.vm_services.specs.Lowest.{purged_in}
use Rattle.vm_services.proofs.Searches.{IsLeastOf, found_least}

module _ (config : Config) (past : List Entry) (a : Pager) (p address pages : ℕ) (kept : IsKept config (past_view past) a) where
  -- what a slot has to purge, and whether a page may be purged
  abbrev in_slot : ℕ → Option ℕ
  in_slot k = purged_in address pages (slot_in a p k)

  abbrev may_go : ℕ → Bool
  may_go v = is_valid_at a p v && not (is_fixed_at a p v)

  once : (v : ℕ) → count_by (has_vpn v) (a.ring p).slots ≤ 1
  once v = let fits = kept.entries p v in omega (arith, fits.slots, fits.once)

  -- ---- such a page stands in a slot
  stands : (v : ℕ) → is_valid_at a p v ≡ true → (held : Held) × (slice_get (a.ring p).slots (place_of (a.ring p) v) ≡ Some (Some held)) × (held.vpn ≡ v)
  stands v valid =
      let some : 0 < entries_at a.valid p v = ltb-true 0 (entries_at a.valid p v) valid in
      let fits = kept.entries p v in
      let found = found_one (has_vpn v) (a.ring p).slots (omega (arith, some, fits.slots)) in
      by found.0 found.1 (found_passes (has_vpn v) (a.ring p).slots found.0 found.1)
    where
      by : (o : Option Held) → find (has_vpn v) (a.ring p).slots ≡ Some o → has_vpn v o ≡ true → (held : Held) × (slice_get (a.ring p).slots (place_of (a.ring p) v) ≡ Some (Some held)) × (held.vpn ≡ v)
      by None found has = absurd (false≢true has)
      by (Some held) found has = (held, sym (find_at (has_vpn v) (a.ring p).slots) ∙ found, eqb-true held.vpn v has)

  shown : (v : ℕ) → may_go v ≡ true → in_range address pages v ≡ true → (k : ℕ) × (k < length (a.ring p).slots) × (in_slot k ≡ Some v)
  shown v goes inside = (place_of (a.ring p) v, slice_get_within (a.ring p).slots (place_of (a.ring p) v) (Some held.0) held.1, reads)
    where
      parts : (is_valid_at a p v ≡ true) × (not (is_fixed_at a p v) ≡ true)
      parts = and_parts (is_valid_at a p v) (not (is_fixed_at a p v)) goes

      held : (h : Held) × (slice_get (a.ring p).slots (place_of (a.ring p) v) ≡ Some (Some h)) × (h.vpn ≡ v)
      held = stands v parts.0

      loose : is_fixed held.0 ≡ false
      loose = sym (ap (λ (o : Option (Option Held)). passes (λ (h : Held). is_fixed h) (slot_of o)) held.1) ∙ not-true (is_fixed_at a p v) parts.1

      entry : (e : Valid) × (entry_of a.valid p v ≡ Some e)
      entry = found_one (is_entry p v) a.valid (ltb-true 0 (entries_at a.valid p v) parts.0)

      reads : in_slot (place_of (a.ring p) v) ≡ Some v
      reads =
          ap (λ (o : Option (Option Held)). purged_in address pages (slot_with a.valid p (slot_of o))) held.1
          ∙ (ap (λ (o : Option Valid). purged_in address pages (slot_by held.0 o)) (ap (entry_of a.valid p) held.2 ∙ entry.1)
          ∙ (if_true (in_range address pages (held.0).vpn && not (is_fixed held.0)) (Some (held.0).vpn) None (and_from _ _ (ap (in_range address pages) held.2 ∙ inside) (ap not loose)) ∙ ap Some held.2))

  -- ---- and what stands in a slot is such a page
  is_free : (k : ℕ) (held : Held) → slice_get (a.ring p).slots k ≡ Some (Some held) → is_fixed held ≡ false → is_fixed_at a p held.vpn ≡ false
  is_free k held slot free =
      ap (λ (m : ℕ). passes (λ (h : Held). is_fixed h) (slot_of (slice_get (a.ring p).slots m))) (only_place (has_vpn held.vpn) (a.ring p).slots k (Some held) slot (nat_eq_refl held.vpn) (once held.vpn))
      ∙ (ap (λ (o : Option (Option Held)). passes (λ (h : Held). is_fixed h) (slot_of o)) slot ∙ free)

  goes : (k v : ℕ) → in_slot k ≡ Some v → (may_go v ≡ true) × (in_range address pages v ≡ true)
  goes k v is = by_slot (slice_get (a.ring p).slots k) refl is
    where
      Goes : ℕ → Type 0
      Goes w = (may_go w ≡ true) × (in_range address pages w ≡ true)

      by_test : (held : Held) (e : Valid) (b : Bool) → slice_get (a.ring p).slots k ≡ Some (Some held) → entry_of a.valid p held.vpn ≡ Some e → (in_range address pages held.vpn && not (is_fixed held)) ≡ b → cond b (Some held.vpn) None ≡ Some v → Goes v
      by_test held e false slot valid test is = absurd (none-some v is)
      by_test held e true slot valid test is =
          let parts = and_parts (in_range address pages held.vpn) (not (is_fixed held)) test in
          let some = count_found (is_entry p held.vpn) (is_entry p held.vpn) a.valid e valid (found_passes (is_entry p held.vpn) a.valid e valid) in
          subst Goes (same_Some held.vpn v is) (and_from _ _ (lt-ltb 0 (entries_at a.valid p held.vpn) some) (ap not (is_free k held slot (not-true (is_fixed held) parts.1))), parts.0)

      by_entry : (held : Held) (o : Option Valid) → slice_get (a.ring p).slots k ≡ Some (Some held) → entry_of a.valid p held.vpn ≡ o → purged_in address pages (slot_by held o) ≡ Some v → Goes v
      by_entry held None slot valid is = absurd (none-some v is)
      by_entry held (Some e) slot valid is = by_test held e (in_range address pages held.vpn && not (is_fixed held)) slot valid refl is

      by_slot : (o : Option (Option Held)) → slice_get (a.ring p).slots k ≡ o → purged_in address pages (slot_with a.valid p (slot_of o)) ≡ Some v → Goes v
      by_slot None slot is = absurd (none-some v is)
      by_slot (Some None) slot is = absurd (none-some v is)
      by_slot (Some (Some held)) slot is = by_entry held (entry_of a.valid p held.vpn) slot refl is

  pub loose_is : (o : Option ℕ) → IsLeastOf in_slot (length (a.ring p).slots) o → o ≡ loose_in a p address pages
  loose_is o is =
      found_least may_go (page_number address) pages in_slot (length (a.ring p).slots) o is
      (λ v passes least most. shown v passes (and_from _ _ (le-leb (page_number address) v least) (lt-ltb v (page_number address + pages) most)))
      (λ k v there.
      let both = goes k v there in
      let bounds = and_parts (nat_le (page_number address) v) (nat_lt v (page_number address + pages)) both.1 in
      (both.0, leb-true (page_number address) v bounds.0, ltb-true v (page_number address + pages) bounds.1))

-- a ring has as many slots as the process's extent
pub slots_of : (config : Config) (past : List Entry) (a : Pager) (p : ℕ) (specs : List ProcSpec) (spec : ProcSpec) → IsKept config (past_view past) a → specs ≡ config.procs → p < length config.procs → length (a.ring p).slots ≡ (slice_index_or specs p spec).extent
slots_of config past a p specs spec kept are there = ((kept.processes p).bounds (slice_index_or specs p spec) (slice_get-get_or config.procs p spec there ∙ ap (λ (xs : List ProcSpec). Some (slice_index_or xs p spec)) (sym are))).slots
