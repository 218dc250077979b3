-- What follows from the lock's rule, and what stays when one view changes.
use Rattle.std.proofs.Common.{◌≡◌, ℕ, ◌+◌, ◌%◌, ◌<◌, ◌≤◌, ◌≢◌, List, length, set, refl, sym, ap, ◌∙◌, subst, arith, Contains, Option as StdOption, Some, None}
use mathlib.Core.Option.{Option, some}
use mathlib.Core.Logic.{dite}
use native.Mathlib.Decide.{ℕ_discrete}
use lib.ListN.{get_elem?}
use Rattle.atomic_table.specs.Table.{State}
use Rattle.atomic_table.proofs.Lists.{set_here, set_else}
use Rattle.vm_journal.specs.declared.entry.Entry.{Entry}
use Rattle.vm_journal.specs.Own.{own_entries}
use Rattle.history_lock.specs.declared.view.View.{View}
use Rattle.history_lock.specs.declared.stage.Stage.{Stage}
use Rattle.history_lock.specs.declared.stage.Stage.TheVariants.{Idle, Sleeping, Joined, Waiting, Holding, Published, Spent}
use Rattle.history_lock.specs.Views.{tickets, IsAway, IsLive}
use Rattle.history_lock.specs.Rule.{total, HasParts, HasTicket, HasSlot, Serves}
use Rattle.history_lock.proofs.Sums.{total-le, at_below, at_one}

pub wraps : (a k : ℕ) → (a % 18446744073709551616 + k) % 18446744073709551616 ≡ (a + k) % 18446744073709551616
wraps a k = omega arith

pub tickets_le : (st : Stage) (n : ℕ) → (IsLive st → 0 < n) → tickets st ≤ n
tickets_le Idle n h = omega arith
tickets_le Sleeping n h = omega arith
tickets_le (Joined ys ks ms) n h = omega arith
tickets_le (Waiting t) n h = omega (arith, h tt)
tickets_le (Holding t) n h = omega (arith, h tt)
tickets_le (Published t) n h = omega (arith, h tt)
tickets_le Spent n h = omega arith

-- the view that is inside has the ticket that is served
pub in_ticket : (holder : ℕ → ℕ) (inside : StdOption ℕ) (serving next j : ℕ) (st : Stage) → IsAway st → HasTicket holder inside serving next j st → (holder serving ≡ j) × (inside ≡ Some j)
in_ticket holder inside serving next j Idle i h = absurd i
in_ticket holder inside serving next j Sleeping i h = absurd i
in_ticket holder inside serving next j (Joined ys ks ms) i h = absurd i
in_ticket holder inside serving next j (Waiting t) i h = absurd i
in_ticket holder inside serving next j (Holding t) i h = (ap holder (sym h.0) ∙ h.2, h.3)
in_ticket holder inside serving next j (Published t) i h = (ap holder (sym h.0) ∙ h.2, h.3)
in_ticket holder inside serving next j Spent i h = absurd i

-- a new ticket leaves the old ones
pub ticket_later : (holder holder' : ℕ → ℕ) (inside : StdOption ℕ) (serving next next' j : ℕ) → ((t : ℕ) → t < next → holder' t ≡ holder t) → next ≤ next' → (st : Stage)
    → HasTicket holder inside serving next j st → HasTicket holder' inside serving next' j st
ticket_later holder holder' inside serving next next' j same le Idle h = tt
ticket_later holder holder' inside serving next next' j same le Sleeping h = tt
ticket_later holder holder' inside serving next next' j same le (Joined ys ks ms) h = tt
ticket_later holder holder' inside serving next next' j same le (Waiting t) h = let l = h.1 in (h.0, omega arith, same t l ∙ h.2)
ticket_later holder holder' inside serving next next' j same le (Holding t) h = let l = h.1 in (h.0, omega arith, same t l ∙ h.2, h.3)
ticket_later holder holder' inside serving next next' j same le (Published t) h = let l = h.1 in (h.0, omega arith, same t l ∙ h.2, h.3)
ticket_later holder holder' inside serving next next' j same le Spent h = tt

-- while nobody is inside, one may go in
pub ticket_enters : (holder : ℕ → ℕ) (serving next j i : ℕ) (st : Stage) → HasTicket holder None serving next j st → HasTicket holder (Some i) serving next j st
ticket_enters holder serving next j i Idle h = tt
ticket_enters holder serving next j i Sleeping h = tt
ticket_enters holder serving next j i (Joined ys ks ms) h = tt
ticket_enters holder serving next j i (Waiting t) h = h
ticket_enters holder serving next j i (Holding t) h = let e = h.3 in absurd (cc)
ticket_enters holder serving next j i (Published t) h = let e = h.3 in absurd (cc)
ticket_enters holder serving next j i Spent h = tt

-- the one that is inside goes out, and the next ticket is served
pub ticket_passes : (holder : ℕ → ℕ) (serving next j i : ℕ) → holder serving ≡ i → j ≢ i → (st : Stage) → HasTicket holder (Some i) serving next j st → HasTicket holder None (serving + 1) next j st
ticket_passes holder serving next j i hs ne Idle h = tt
ticket_passes holder serving next j i hs ne Sleeping h = tt
ticket_passes holder serving next j i hs ne (Joined ys ks ms) h = tt
ticket_passes holder serving next j i hs ne (Waiting t) h = let le = h.0 in dite (ℕ_discrete t serving) (λ e. absurd (ne (sym h.2 ∙ (ap holder e ∙ hs)))) (λ n. (omega arith, h.1, h.2))
ticket_passes holder serving next j i hs ne (Holding t) h = let e = h.3 in absurd (ne (cc))
ticket_passes holder serving next j i hs ne (Published t) h = let e = h.3 in absurd (ne (cc))
ticket_passes holder serving next j i hs ne Spent h = tt

-- the view at a place keeps a fact that the changed view keeps
pub stays : {B : Type 0} (P : View B → Type 0) (views : List (View B)) (i id : ℕ) (v w : View B) → get_elem? views id ≡ some v → (P v → P w) → (x : View B) × (get_elem? views i ≡ some x) × P x
    → (x : View B) × (get_elem? (set views id w) i ≡ some x) × P x
stays P views i id v w at keeps o = dite (ℕ_discrete i id)
    (λ e. (w, ap (λ (j : ℕ). get_elem? (set views id w) j) e ∙ set_here views id w (at_below views id v at), keeps (subst P (at_one views id o.0 v (ap (λ (j : ℕ). get_elem? views j) (sym e) ∙ o.1) at) o.2)))
    (λ n. (o.0, set_else views id i w n ∙ o.1, o.2))

module _ {B : Type 0} (seats : ℕ) (owner : ℕ → ℕ) where
  abbrev pub Owned : List (View B) → Type 0
  Owned views = (k : ℕ) → k < seats → (v : View B) × (get_elem? views (owner k) ≡ some v) × Contains v.numbers k

  pub owned_stays : (views : List (View B)) (id : ℕ) (v w : View B) → get_elem? views id ≡ some v → ((k : ℕ) → Contains v.numbers k → Contains w.numbers k) → Owned views → Owned (set views id w)
  owned_stays views id v w at grows owned k l = stays (λ (x : View B). Contains x.numbers k) views (owner k) id v w at (grows k) (owned k l)

module _ {T B : Type 0} (journal : T → List Entry) (base : T → B) where
  pub slot_stays : (o : StdOption ℕ) (b : B) (present : List Entry) (homes : List (Option (StdOption T))) (views views' : List (View B)) → ((i : ℕ) → o ≡ Some i → get_elem? views' i ≡ get_elem? views i)
      → HasSlot journal base o b present homes views → HasSlot journal base o b present homes views'
  slot_stays None b present homes views views' same h = h
  slot_stays (Some i) b present homes views views' same h = (h.0, same i refl ∙ h.1, h.2, h.3, h.4)

  pub slot_moves : (o : StdOption ℕ) (b : B) (present : List Entry) (homes : List (Option (StdOption T))) (views views' : List (View B)) → ((i : ℕ) (d : View B) → o ≡ Some i → get_elem? views i ≡ some d → get_elem? views' i ≡ some d)
      → HasSlot journal base o b present homes views → HasSlot journal base o b present homes views'
  slot_moves None b present homes views views' same h = h
  slot_moves (Some i) b present homes views views' same h = (h.0, same i h.0 refl h.1, h.2, h.3, h.4)

  module _ (b : B) (seats : ℕ) where
    abbrev pub Rule : State (StdOption T) (View B) → Type 0
    Rule = Serves journal base b seats

    -- no more tickets are out than there are seats
    pub bound : (s : State (StdOption T) (View B)) (r : Rule s) → r.next ≤ r.serving + seats
    bound s r = let f : View B → ℕ = λ v. tickets v.stage in let g : View B → ℕ = λ v. length v.numbers in
        let le : total f s.views ≤ total g s.views = total-le f g s.views (λ j v e. tickets_le v.stage (length v.numbers) (λ h. ((r.each j v e).live h).1)) in
        let out : r.next ≡ r.serving + total f s.views = r.out in let many : total g s.views ≡ seats = r.many in omega arith

    -- the view that is inside is another than one that isn't
    pub not_inside : (s : State (StdOption T) (View B)) (r : Rule s) (id : ℕ) (v : View B) → get_elem? s.views id ≡ some v → (IsAway v.stage → ⊥) → (i : ℕ) → r.inside ≡ Some i → i ≢ id
    not_inside s r id v at out i e same = let slot = subst (λ (o : StdOption ℕ). HasSlot journal base o b r.present s.homes s.views) e r.slot in
        let one : slot.0 ≡ v = at_one s.views id slot.0 v (ap (λ (j : ℕ). get_elem? s.views j) (sym same) ∙ slot.1) at in out (subst (λ (x : View B). IsAway x.stage) one slot.2)

    -- nobody is inside while the ticket that is served waits
    nobody : (s : State (StdOption T) (View B)) (r : Rule s) (id : ℕ) (v : View B) → get_elem? s.views id ≡ some v → (IsAway v.stage → ⊥) → r.holder r.serving ≡ id → (o : StdOption ℕ) → r.inside ≡ o → r.inside ≡ None
    nobody s r id v at out has None e = e
    nobody s r id v at out has (Some i) e = let slot = subst (λ (o : StdOption ℕ). HasSlot journal base o b r.present s.homes s.views) e r.slot in
        let t = in_ticket r.holder r.inside r.serving r.next i slot.0.stage slot.2 (r.each i slot.0 slot.1).ticket in absurd (not_inside s r id v at out i e (sym t.0 ∙ has))

    pub nobody_inside : (s : State (StdOption T) (View B)) (r : Rule s) (id : ℕ) (v : View B) → get_elem? s.views id ≡ some v → (IsAway v.stage → ⊥) → r.holder r.serving ≡ id → r.inside ≡ None
    nobody_inside s r id v at out has = nobody s r id v at out has r.inside refl

-- what the parts of a pass had seen still has all entries of their numbers
pub parts_later : (numbers : List ℕ) (seen present now : List Entry) → ((k : ℕ) → Contains numbers k → own_entries k now ≡ own_entries k present) → (st : Stage) → HasParts numbers seen present st → HasParts numbers seen now st
parts_later numbers seen present now same Idle h = tt
parts_later numbers seen present now same Sleeping h = tt
parts_later numbers seen present now same (Joined ys ks ms) h = (λ k has a. same k has ∙ h.0 k has a, λ k has a. same k has ∙ h.1 k has a)
parts_later numbers seen present now same (Waiting t) h = tt
parts_later numbers seen present now same (Holding t) h = tt
parts_later numbers seen present now same (Published t) h = tt
parts_later numbers seen present now same Spent h = tt
