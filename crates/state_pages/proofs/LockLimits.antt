-- The locked and pinned pages that there would be after a lock, or a pin, and its answer.
use Rattle.std.proofs.Common.{◌≡◌, ℕ, ◌+◌, ◌<◌, ◌≤◌, Bool, true, false, cond, ◌&&◌, List, [], ◌∷◌, Option, Some, None, count_by, map, nat_le, refl, sym, ap, ◌∙◌, arith}
use Rattle.std.specs.Prelude.{◌||◌}
use Rattle.std.proofs.lemmas.Bool.{le-leb, leb-true}
use Rattle.vm_types.specs.Ring.{Held, Ring, fixed, is_fixed_slot}
use Rattle.vm_types.specs.declared.config.ProcSpec.{ProcSpec}
use Rattle.vm_types.specs.declared.reply.Answer.TheVariants as answer
use Rattle.pager_model.specs.FlatService.{in_range}
use Rattle.pager_model.specs.Ring.{relocked_slot, repinned_slot}
use Rattle.pager_model.specs.Served.{is_fixed_in, is_slot_in}
use Rattle.pager_rules.proofs.Basics.{count_cons}
use Rattle.state_pages.specs.ServiceAnswers.{lock_answer}

-- a change of the slots that fixes those of the range
abbrev Fixes : ℕ → ℕ → (Option Held → Option Held) → Type 0
Fixes address pages f =
    (o : Option Held) → cond {A = ℕ} (is_fixed_slot (f o)) 1 0 + cond {A = ℕ} (is_fixed_in address pages o) 1 0 ≡ cond {A = ℕ} (is_fixed_slot o) 1 0 + cond {A = ℕ} (is_slot_in address pages o) 1 0

pub locks_fix : (address pages : ℕ) → Fixes address pages (relocked_slot true address pages)
locks_fix address pages None = refl
locks_fix address pages (Some held) = by (in_range address pages held.vpn) held.locked held.pinned
  where
    by : (i l p : Bool) → cond {A = ℕ} (cond i true l || p) 1 0 + cond {A = ℕ} (i && (l || p)) 1 0 ≡ cond {A = ℕ} (l || p) 1 0 + cond {A = ℕ} i 1 0
    by true true p = refl
    by true false true = refl
    by true false false = refl
    by false true p = refl
    by false false true = refl
    by false false false = refl

pub pins_fix : (address pages : ℕ) → Fixes address pages (repinned_slot true address pages)
pins_fix address pages None = refl
pins_fix address pages (Some held) = by (in_range address pages held.vpn) held.locked held.pinned
  where
    by : (i l p : Bool) → cond {A = ℕ} (l || cond i true p) 1 0 + cond {A = ℕ} (i && (l || p)) 1 0 ≡ cond {A = ℕ} (l || p) 1 0 + cond {A = ℕ} i 1 0
    by true true p = refl
    by true false true = refl
    by true false false = refl
    by false true p = refl
    by false false true = refl
    by false false false = refl

fixed_more : (address pages : ℕ) (f : Option Held → Option Held) → Fixes address pages f → (slots : List (Option Held))
    → count_by is_fixed_slot (map f slots) + count_by (is_fixed_in address pages) slots ≡ count_by is_fixed_slot slots + count_by (is_slot_in address pages) slots
fixed_more address pages f fixes [] = refl
fixed_more address pages f fixes (o ∷ slots) =
    let after = count_cons is_fixed_slot (f o) (map f slots) in
    let both = count_cons (is_fixed_in address pages) o slots in
    let locks = count_cons is_fixed_slot o slots in
    let inside = count_cons (is_slot_in address pages) o slots in
    omega (arith, after, both, locks, inside, fixes o, fixed_more address pages f fixes slots)

-- the ring that there would be
abbrev fixed_by : (Option Held → Option Held) → Ring → Ring
fixed_by f ring = record { slots = map f ring.slots; hand = ring.hand }

pub too_many : (ring : Ring) (spec : ProcSpec) (address pages n : ℕ) (f : Option Held → Option Held) → Fixes address pages f → n ≡ count_by (is_slot_in address pages) ring.slots → spec.locks + count_by (is_fixed_in address pages) ring.slots < fixed ring.slots + n
    → answer.LockLimit ≡ lock_answer ring (fixed_by f ring) address pages (Some spec)
too_many ring spec address pages n f fixes count more =
    let all = fixed_more address pages f fixes ring.slots in
    sym (ap (λ (b : Bool). cond b (answer.Count (count_by (is_slot_in address pages) ring.slots)) answer.LockLimit) (lt-leb-false _ _ (omega (arith, all, count, more))))
  where
    lt-leb-false : (m k : ℕ) → k < m → nat_le m k ≡ false
    lt-leb-false m k less = go (nat_le m k) refl
      where
        go : (b : Bool) → nat_le m k ≡ b → nat_le m k ≡ false
        go false is = is
        go true is = absurd (let least = leb-true m k is in omega (arith, least, less))

pub few_enough : (ring : Ring) (spec : ProcSpec) (address pages n : ℕ) (f : Option Held → Option Held) → Fixes address pages f → n ≡ count_by (is_slot_in address pages) ring.slots → fixed ring.slots + n ≤ spec.locks + count_by (is_fixed_in address pages) ring.slots
    → answer.Count n ≡ lock_answer ring (fixed_by f ring) address pages (Some spec)
few_enough ring spec address pages n f fixes count few =
    let all = fixed_more address pages f fixes ring.slots in
    ap answer.Count count ∙ sym (ap (λ (b : Bool). cond b (answer.Count (count_by (is_slot_in address pages) ring.slots)) answer.LockLimit) (le-leb _ _ (omega (arith, all, count, few))))
