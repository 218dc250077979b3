-- One frame more of which the next one on its list is known.
use Rattle.std.proofs.Common.{◌≡◌, ℕ, ◌+◌, ◌-◌, ◌<◌, ◌≤◌, List, [], ◌∷◌, ◌++◌, Option, Some, length, slice_get, length-append, sym, ap, ◌∙◌, subst, arith, inl, inr}
use Rattle.std.specs.Prelude.{◌⊎◌}
use Rattle.std.specs.Option.{option_map}
use Rattle.std.proofs.lemmas.Bool.{cases_lt}
use Rattle.std.proofs.lemmas.Option.{same_Some, slice_get_within}
use Rattle.vm_types.specs.declared.names.Pfn.{Pfn}
use Rattle.frame_store.proofs.Rows.{get_before, get_past}
use Rattle.pager_model.specs.Pager.{Pager}
use Rattle.vm_state.specs.ProcessReadings.{IsAfter}
use Rattle.state_pages.specs.Shown.{frame_number}
use Rattle.seat_schedules.specs.Played.{AreNext}

pub none_next : (a : Pager) (nexts : List (Option Pfn)) → nexts ≡ [] → AreNext a 0 nexts
none_next a nexts none = record {
  count = ap length none;
  each = λ f next there. absurd (let within = slice_get_within nexts f next there in let count = ap length none in omega (arith, within, count));
}

pub next_added : (a : Pager) (n : ℕ) (old new : List (Option Pfn)) (x : Option Pfn) → AreNext a n old → IsAfter a n (option_map frame_number x) → new ≡ old ++ x ∷ [] → AreNext a (n + 1) new
next_added a n old new x known after made = subst (AreNext a (n + 1)) (sym made) (record {
  count = length-append old (x ∷ []) ∙ ap (λ (k : ℕ). k + 1) known.count;
  each = λ f next there. there_after f next there (cases_lt f n);
})
  where
    there_after : (f : ℕ) (next : Option Pfn) → slice_get (old ++ x ∷ []) f ≡ Some next → (f < n) ⊎ (n ≤ f) → IsAfter a f (option_map frame_number next)
    there_after f next there (inl below) = known.each f next (get_before old (x ∷ []) f next (let count = known.count in omega (arith, below, count)) there)
    there_after f next there (inr past) =
        let within = slice_get_within (old ++ x ∷ []) f next there in
        let count = known.count in
        let both = length-append old (x ∷ []) in
        let same : f ≡ n = omega (arith, within, both, count, past) in
        let got = get_past old (x ∷ []) n f next known.count past there in
        let none : f - n ≡ 0 = omega (arith, same) in
        let first : slice_get (x ∷ []) 0 ≡ Some next = subst (λ (k : ℕ). slice_get (x ∷ []) k ≡ Some next) none got in
        subst (λ (k : ℕ). IsAfter a k (option_map frame_number next)) (sym same)
        (subst (λ (y : Option Pfn). IsAfter a n (option_map frame_number y)) (same_Some x next first) after)
