-- The slots of a process that were read are those of its ring, and each filled one has a valid entry.
use Rattle.std.proofs.Common.{◌≡◌, ℕ, zero, suc, ◌+◌, ◌<◌, ◌≤◌, true, false, cond, List, [], ◌∷◌, ◌++◌, Option, Some, None, count_by, get_or, length, map, nat_eq, slice_get, take, refl, sym, ap, ◌∙◌, arith}
use Rattle.std.proofs.lemmas.List.Sorted.{IsNonDecreasingBy-from_sort, sum_by-IsPermutation}
use Rattle.std.proofs.lemmas.Option.{none-some, slice_get-get_or}
use Rattle.std.specs.List.{AllByRecursion}
use Rattle.std.specs.List.Sorted.{IsNonDecreasingBy, IsPermutation, IsSorted}
use Rattle.std.specs.Ordering.{nat_cmp}
use Rattle.vm_types.specs.Ring.{Held}
use Rattle.vm_types.specs.declared.config.Config.{Config}
use Rattle.vm_types.specs.declared.config.ProcSpec.{ProcSpec}
use Rattle.state_pages.specs.declared.found.Slot.{Slot}
use Rattle.pager_model.specs.Around.{PastView}
use Rattle.pager_model.specs.Lookups.{entry_of, has_vpn, is_entry, slot_of}
use Rattle.pager_model.specs.Pager.{Pager, Valid}
use Rattle.pager_rules.proofs.Basics.{count_cons, count_cons_yes, count_from_no_find, nat_eq_refl}
use Rattle.pager_rules.specs.Kept.{IsKept}
use Rattle.vm_state.specs.ProcessReadings.{slot_by, slot_in, slot_with}
use Rattle.dump_bytes.specs.declared.dump.SlotRec.{SlotRec}
use Rattle.dump_laws.specs.DumpAfter.{dumped_slot, pages_of, valid_pages}
use Rattle.dump_laws.proofs.Entries.{pages_in, same_pages}
use Rattle.dump_laws.proofs.Numbers.{Rises, ascending_rises, count_ascending, same_rising}
use Rattle.state_dump.specs.Slots.{page_in}
use Rattle.state_dump.proofs.Walks.{next_place}

-- a filled slot that stands in a ring counts there
filled_counts : (slots : List (Option Held)) (n : ℕ) (held : Held) → slot_of (slice_get slots n) ≡ Some held → 0 < count_by (has_vpn held.vpn) slots
filled_counts [] n held is = absurd (none-some held is)
filled_counts (slot ∷ slots) zero held is =
    let one = count_cons_yes (has_vpn held.vpn) slot slots (ap (has_vpn held.vpn) is ∙ nat_eq_refl held.vpn) in omega (arith, one)
filled_counts (slot ∷ slots) (suc n) held is = let more = count_cons (has_vpn held.vpn) slot slots in let rest = filled_counts slots n held is in omega (arith, more, rest)

-- what a dump has of a slot that was read
abbrev pub read_slot : Option Slot → SlotRec
read_slot None = record { filled = false; locked = false; pinned = false; vpn = 0 }
read_slot (Some slot) = record { filled = true; locked = slot.locked; pinned = slot.pinned; vpn = slot.vpn }

abbrev pub read_page : Option Slot → List ℕ
read_page None = []
read_page (Some slot) = slot.vpn ∷ []

module _ (config : Config) (o : PastView) (a : Pager) (kept : IsKept config o a) (p : ℕ) where
  -- it has an entry
  pub has_entry : (n : ℕ) (held : Held) → slot_of (slice_get (a.ring p).slots n) ≡ Some held → entry_of a.valid p held.vpn ≡ None → ⊥
  has_entry n held is none =
      let some = filled_counts (a.ring p).slots n held is in
      let same = (kept.entries p held.vpn).slots in
      let no = count_from_no_find (is_entry p held.vpn) a.valid none in
      omega (arith, some, same, no)

  pub slot_shown : (n : ℕ) → read_slot (slot_in a p n) ≡ dumped_slot (slot_of (slice_get (a.ring p).slots n))
  slot_shown n = go (slot_of (slice_get (a.ring p).slots n)) refl
    where
      by : (held : Held) (e : Option Valid) → slot_of (slice_get (a.ring p).slots n) ≡ Some held → entry_of a.valid p held.vpn ≡ e → read_slot (slot_by held e) ≡ dumped_slot (Some held)
      by held None is none = absurd (has_entry n held is none)
      by held (Some e) is found = refl

      go : (s : Option Held) → slot_of (slice_get (a.ring p).slots n) ≡ s → read_slot (slot_with a.valid p s) ≡ dumped_slot s
      go None is = refl
      go (Some held) is = by held (entry_of a.valid p held.vpn) is refl

  pub page_shown : (n : ℕ) → read_page (slot_in a p n) ≡ page_in (slot_of (slice_get (a.ring p).slots n))
  page_shown n = go (slot_of (slice_get (a.ring p).slots n)) refl
    where
      by : (held : Held) (e : Option Valid) → slot_of (slice_get (a.ring p).slots n) ≡ Some held → entry_of a.valid p held.vpn ≡ e → read_page (slot_by held e) ≡ page_in (Some held)
      by held None is none = absurd (has_entry n held is none)
      by held (Some e) is found = refl

      go : (s : Option Held) → slot_of (slice_get (a.ring p).slots n) ≡ s → read_page (slot_with a.valid p s) ≡ page_in s
      go None is = refl
      go (Some held) is = by held (entry_of a.valid p held.vpn) is refl

  -- as many slots as the process's extent
  pub extent_is : (specs : List ProcSpec) (d : ProcSpec) → specs ≡ config.procs → p < length config.procs → (get_or specs p d).extent ≡ length (a.ring p).slots
  extent_is specs d are there =
      let at : slice_get config.procs p ≡ Some (get_or specs p d) = slice_get-get_or config.procs p d there ∙ ap (λ (xs : List ProcSpec). Some (get_or xs p d)) (sym are) in
      sym ((kept.processes p).bounds (get_or specs p d) at).slots

-- the pages of slots, and of one slot more
next_page : (slots : List (Option Held)) (n : ℕ) → n < length slots → pages_in (take (suc n) slots) ≡ pages_in (take n slots) ++ page_in (slot_of (slice_get slots n))
next_page [] n less = absurd (omega (arith, less))
next_page (None ∷ slots) zero less = refl
next_page (Some held ∷ slots) zero less = refl
next_page (None ∷ slots) (suc n) less = next_page slots n (omega (arith, less))
next_page (Some held ∷ slots) (suc n) less = ap (λ (vs : List ℕ). held.vpn ∷ vs) (next_page slots n (omega (arith, less)))

pub one_page_more : (slots : List (Option Held)) (n : ℕ) → n < length slots → pages_in (take (n + 1) slots) ≡ pages_in (take n slots) ++ page_in (slot_of (slice_get slots n))
one_page_more slots n less = ap (λ (k : ℕ). pages_in (take k slots)) (next_place n) ∙ next_page slots n less

-- what a dump has of slots, and of one slot more
next_slot : (slots : List (Option Held)) (n : ℕ) → n < length slots → map dumped_slot (take (suc n) slots) ≡ map dumped_slot (take n slots) ++ dumped_slot (slot_of (slice_get slots n)) ∷ []
next_slot [] n less = absurd (omega (arith, less))
next_slot (slot ∷ slots) zero less = refl
next_slot (slot ∷ slots) (suc n) less = ap (λ (rs : List SlotRec). dumped_slot slot ∷ rs) (next_slot slots n (omega (arith, less)))

pub one_slot_more : (slots : List (Option Held)) (n : ℕ) → n < length slots → map dumped_slot (take (n + 1) slots) ≡ map dumped_slot (take n slots) ++ dumped_slot (slot_of (slice_get slots n)) ∷ []
one_slot_more slots n less = ap (λ (k : ℕ). map dumped_slot (take k slots)) (next_place n) ∙ next_slot slots n less

-- sorted, the pages of all slots are those of the valid entries
rises : (ns : List ℕ) → IsNonDecreasingBy (λ (n : ℕ). n) ns → Rises ns
rises [] sorted = tt
rises (n ∷ ns) sorted = (above ns (λ k less. sorted 0 (suc k) 0 (omega arith) (omega (arith, less))), rises ns (λ i j d least less. sorted (suc i) (suc j) d (omega (arith, least)) (omega (arith, less))))
  where
    above : (ms : List ℕ) → ((k : ℕ) → k < length ms → n ≤ get_or ms k 0) → AllByRecursion (λ (m : ℕ). n ≤ m) ms
    above [] each = tt
    above (m ∷ ms) each = (each 0 (omega arith), above ms (λ k less. each (suc k) (omega (arith, less))))

pub sorted_pages : (config : Config) (o : PastView) (a : Pager) → IsKept config o a → (p : ℕ) (sorted : List ℕ) → IsPermutation (pages_in (a.ring p).slots) sorted → IsSorted nat_cmp sorted
    → sorted ≡ valid_pages a.valid p
sorted_pages config o a kept p sorted moved order =
    same_rising sorted (valid_pages a.valid p) (rises sorted (IsNonDecreasingBy-from_sort (λ (n : ℕ). n) sorted order)) (ascending_rises (pages_of a.valid p))
    (λ v. sum_by-IsPermutation (λ (n : ℕ). cond (nat_eq n v) 1 0) (pages_in (a.ring p).slots) sorted moved ∙ same_pages config o a kept p v ∙ sym (count_ascending (λ (n : ℕ). nat_eq n v) (pages_of a.valid p)))
