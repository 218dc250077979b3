-- What a search of the processes finds.
use Rattle.std.proofs.Common.{◌≡◌, ℕ, suc, ◌+◌, ◌-◌, ◌<◌, ◌≤◌, Bool, true, Option, Some, None, find, not, refl, ap, ◌∙◌, arith}
use Rattle.std.specs.List.{range_with_len}
use Rattle.std.proofs.lemmas.Bool.{and_parts, false≢true}
use Rattle.vm_types.specs.declared.names.ProcStatus.{ProcStatus}
use Rattle.vm_types.specs.declared.names.ProcStatus.TheVariants as status
use Rattle.vm_types.specs.Status.{is_coming, is_leaving}
use Rattle.pager_model.specs.Pager.{Pager}
use Rattle.pager_policy.specs.Swap.{is_but}
use Rattle.pager_rules.proofs.Basics.{find_cons_yes}
use Rattle.seat_steps.specs.Leaving.{is_other_leaving}

pub find_here : (t : ℕ → Bool) (k n : ℕ) → k < n → t k ≡ true → find t (range_with_len k (n - k)) ≡ Some k
find_here t k n less is =
    (let more : n - k ≡ suc (n - (k + 1)) = omega (arith, less) in ap (λ (m : ℕ). find t (range_with_len k m)) more)
    ∙ find_cons_yes t k (range_with_len (k + 1) (n - (k + 1))) is

pub find_end : (t : ℕ → Bool) (k n : ℕ) → n ≤ k → find t (range_with_len k (n - k)) ≡ None
find_end t k n past = let none : n - k ≡ 0 = omega (arith, past) in ap (λ (m : ℕ). find t (range_with_len k m)) none

leaves : (s : ProcStatus) → is_leaving s ≡ true → s ≡ status.Leaving
leaves status.Leaving is = refl
leaves status.Resident is = absurd (false≢true is)
leaves status.Coming is = absurd (false≢true is)
leaves status.Gone is = absurd (false≢true is)

pub is_leaving_there : (a : Pager) (but : Option ℕ) (q : ℕ) → is_other_leaving a but q ≡ true → a.status q ≡ status.Leaving
is_leaving_there a but q is = leaves (a.status q) (and_parts (not (is_but but q)) (is_leaving (a.status q)) is).1

pub is_coming_there : (s : ProcStatus) → is_coming s ≡ true → s ≡ status.Coming
is_coming_there status.Coming is = refl
is_coming_there status.Resident is = absurd (false≢true is)
is_coming_there status.Leaving is = absurd (false≢true is)
is_coming_there status.Gone is = absurd (false≢true is)
