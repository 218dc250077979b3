use Rattle.std.proofs.Common.{◌≡◌, ◌≤◌, ℕ, List, [], Some, IsTrue, slice_get, length, subst}
use Rattle.shadow_history.specs.Lefts.{Left, left_of}
use Rattle.shadow_history.proofs.Lefts.{all_past, none_left}
use Rattle.shadow_history.proofs.orders.Orders.is_empty.Goals as goal

pub returns : goal.returns
returns c =
    let next : List ℕ = c.self.inside.next.items in
    let body = c.self.inside.body.now in
    let l : Left = record { body = c.self.inside.body.now; next = next } in
    let says =
    subst (λ (xs : List ℕ). (IsTrue c.are_past.result → (p i : ℕ) → slice_get xs p ≡ Some i → length body ≤ i) × (((p i : ℕ) → slice_get xs p ≡ Some i → length body ≤ i) → IsTrue c.are_past.result))
    c.deref.ensures.value (subst (λ (n : ℕ). (IsTrue c.are_past.result → (p i : ℕ) → slice_get c.deref.result.now p ≡ Some i → n ≤ i) × (((p i : ℕ) → slice_get c.deref.result.now p ≡ Some i → n ≤ i) → IsTrue c.are_past.result)) c.len.ensures c.are_past.ensures) in
    subst (λ (v : Left). (IsTrue c.are_past.result → (p : ℕ) → left_of v p ≡ []) × (((p : ℕ) → left_of v p ≡ []) → IsTrue c.are_past.result)) c.self.view_is
    (λ yes. none_left l (says.0 yes), λ none. says.1 (all_past body next c.self.inside.after.items c.self.invariant none))
