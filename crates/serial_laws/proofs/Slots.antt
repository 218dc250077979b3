-- Each filled slot is seen.
use Rattle.std.proofs.Common.{◌≡◌, ℕ, zero, suc, ◌<◌, Bool, true, List, [], ◌∷◌, Option, Some, None, length, count_by, slice_get, refl, ap, ◌∙◌, arith, cond, false, not}
use Rattle.std.proofs.lemmas.Bool.{false≢true}
use Rattle.std.proofs.lemmas.Option.{none-some, same_Some, slice_get_within}
use Rattle.vm_types.specs.Ring.{Held, filled, is_unpinned_slot, unpinned}
use Rattle.vm_types.specs.declared.config.Config.{Config}
use Rattle.vm_journal.specs.declared.entry.Entry.{Entry}
use Rattle.page_lists.specs.Lists.{count_of}
use Rattle.pager_model.specs.Around.{past_view}
use Rattle.pager_policy.specs.Given.{Seen, seen_at, seen_by, seen_in, seen_page, slots_of}
use Rattle.pager_model.specs.Lookups.{passes, entry_of, has_vpn, is_entry, slot_of}
use Rattle.pager_model.specs.Pager.{Pager, Valid}
use Rattle.pager_model.specs.Run.{pager_after}
use Rattle.pager_rules.proofs.Basics.{count_cons, count_cons_no, count_cons_yes, nat_eq_refl}
use Rattle.pager_rules.proofs.Lists.{found_one}
use Rattle.pager_rules.specs.Kept.{IsKept}
use Rattle.pager_laws.proofs.OpeningKept.{in_range}
use Rattle.pager_laws.proofs.ValidEntries.{IsValidAt, valid_at_page}

-- an item that passes counts
pub slot_counts : {X : Type 0} (t : X → Bool) (xs : List X) (n : ℕ) (x : X) → slice_get xs n ≡ Some x → t x ≡ true → 0 < count_by t xs
slot_counts t [] n x is passes = absurd (none-some x is)
slot_counts t (y ∷ xs) zero x is passes = let one = count_cons_yes t y xs (ap t (same_Some y x is) ∙ passes) in omega (arith, one)
slot_counts t (y ∷ xs) (suc n) x is passes = let rest = slot_counts t xs n x is passes in let more = count_cons t y xs in omega (arith, rest, more)

-- what passes is there
pub passing : {X : Type 0} (t : X → Bool) (o : Option X) → passes t o ≡ true → (x : X) × (o ≡ Some x) × (t x ≡ true)
passing t None is = absurd (false≢true is)
passing t (Some x) is = (x, refl, is)

-- a filled slot of the ring that isn't pinned
record HasUnpinned (slots : List (Option Held)) : Type 0 where
  pub n : ℕ
  pub held : Held
  pub is : slice_get slots n ≡ Some (Some held)
  pub off : held.pinned ≡ false

unpinned_slot : (slots : List (Option Held)) → 0 < unpinned slots → HasUnpinned slots
unpinned_slot [] some = absurd (omega (arith, some))
unpinned_slot (None ∷ slots) some = let rest = unpinned_slot slots (omega (arith, some, count_cons_no is_unpinned_slot None slots refl)) in record { n = suc rest.n; held = rest.held; is = rest.is; off = rest.off }
unpinned_slot (Some held ∷ slots) some = by held.pinned refl (unpinned_slot slots)
  where
    by : (b : Bool) → held.pinned ≡ b → (0 < unpinned slots → HasUnpinned slots) → HasUnpinned (Some held ∷ slots)
    by false off later = record { n = 0; held = held; is = refl; off = off }
    by true on later =
        let rest = later (let none = count_cons is_unpinned_slot (Some held) slots in let zero = ap (λ (b : Bool). cond {A = ℕ} (not b) 1 0) on in omega (arith, some, none, zero)) in
        record { n = suc rest.n; held = rest.held; is = rest.is; off = rest.off }

-- what is seen in a slot
pub record IsSeenAt (a : Pager) (p n : ℕ) : Type 0 where
  pub seen : Seen
  pub is : seen_at a p n ≡ Some seen
  pub listed : 0 < count_of (slots_of a p) n

module _ (config : Config) (past : List Entry) (kept : IsKept config (past_view past) (pager_after config past)) (p : ℕ) where
  abbrev a : Pager
  a = pager_after config past

  -- what stands in a filled slot
  pub slot_seen : (n : ℕ) (held : Held) → slice_get (a.ring p).slots n ≡ Some (Some held) → IsSeenAt a p n
  slot_seen n held is = record {
    seen = record { vpn = held.vpn; frame = entry.0.frame; page = known.page; pinned = held.pinned };
    is = ap (λ (o : Option (Option Held)). seen_in a p (slot_of o)) is ∙ (ap (seen_by a held) entry.1 ∙ ap (seen_page held entry.0.frame) known.holds);
    listed = (let within = slice_get_within (a.ring p).slots n (Some held) is in let one = in_range 0 (length (a.ring p).slots) n (omega arith) (omega (arith, within)) in omega (arith, one));
  }
    where
      entry : (e : Valid) × (entry_of a.valid p held.vpn ≡ Some e)
      entry = found_one (is_entry p held.vpn) a.valid (let slots = (kept.entries p held.vpn).slots in let some = slot_counts (has_vpn held.vpn) (a.ring p).slots n (Some held) is (nat_eq_refl held.vpn) in omega (arith, slots, some))

      known : IsValidAt config (pager_after config past) p held.vpn entry.0
      known = valid_at_page config past (pager_after config past) p held.vpn entry.0 kept entry.1

  pub unpinned_seen : 0 < unpinned (a.ring p).slots → (n : ℕ) × (found : IsSeenAt a p n) × ((found.seen).pinned ≡ false)
  unfolding slot_seen
  unpinned_seen some = let found = unpinned_slot (a.ring p).slots some in (found.n, slot_seen found.n found.held found.is, found.off)
