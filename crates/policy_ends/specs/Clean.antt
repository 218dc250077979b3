-- What the rundown has cleaned, by where it is, as long as no transfer of it failed. This project's own.
use Rattle.std.specs.Prelude.{◌≡◌, ◌⊎◌, ℕ, false, ◌<◌, ◌≤◌, List, length, count_by}
use Rattle.vm_journal.specs.declared.entry.Entry.{Entry}
use Rattle.pager_policy.specs.Cleaning.{Cleaning, evicting, rounds}
use Rattle.pager_policy.specs.Moves.{Control, cleaning, control}
use Rattle.pager_model.specs.Pager.{Pager}
use Rattle.pager_policy.specs.Rundown.{is_shared_at, is_shared_listed}
use Rattle.serial_laws.specs.Refused.{is_failure}

-- how many transfers of these entries failed
abbrev pub failures : List Entry → ℕ
failures past = count_by (λ (e : Entry). is_failure e.what) past

abbrev pub NoneFailed : List Entry → Type 0
NoneFailed entries = failures entries ≡ 0

-- slot m of process q comes before slot n of process p
abbrev pub IsEarlier : ℕ → ℕ → ℕ → ℕ → Type 0
IsEarlier q m p n = (q < p) ⊎ ((q ≡ p) × (m < n))

-- no slot before this one has a shared page
abbrev pub NoneBefore : Pager → ℕ → ℕ → Type 0
NoneBefore a p n = (q m : ℕ) → IsEarlier q m p n → is_shared_at a q m ≡ false

-- no slot has one
abbrev pub NoneShared : Pager → Type 0
NoneShared a = (q m : ℕ) → is_shared_at a q m ≡ false

-- at a slot no carrier has failed, and no slot before it has a shared page; in the rounds no slot has one, and the
-- modified list is no longer than what is left of the round
abbrev pub IsClean : Pager → Cleaning → Type 0
IsClean a (evicting p n failed) = (failed ≡ false) × NoneBefore a p n
IsClean a (rounds following left) = NoneShared a × (length a.modified ≤ left)

-- the policy is in the rundown, at such a place
pub record IsCleanAt (a : Pager) (c : Control) : Type 0 where
  pub at : Cleaning
  pub is : c ≡ control (cleaning at)
  pub clean : IsClean a at

-- where it rests no slot has a shared page, and none is on the modified list
abbrev pub NoneSharedLeft : Pager → Type 0
NoneSharedLeft a = NoneShared a × (is_shared_listed a ≡ false)
