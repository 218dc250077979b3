-- Counting a pass among those that sleep, and counting it there no longer, keep the rule.
use Rattle.std.proofs.Common.{◌≡◌, ℕ, ◌+◌, ◌-◌, ◌%◌, ◌^◌, List, [], ◌∷◌, length, get_or, set, refl, sym, ap, ◌∙◌, subst, arith, Option}
use mathlib.Core.Option.{some, none}
use mathlib.Core.List.{IsPrefix}
use lib.ListN.{get_elem?}
use Rattle.atomic_table.specs.Table.{State, Me, step, Allows, keeps}
use Rattle.atomic_table.proofs.Lists.{set_else}
use Rattle.vm_journal.specs.declared.entry.Entry.{Entry}
use Rattle.vm_journal.specs.Own.{own_entries}
use Rattle.history_lock.specs.declared.view.View.{View}
use Rattle.history_lock.specs.declared.stage.Stage.{Stage}
use Rattle.history_lock.specs.declared.stage.Stage.TheVariants.{Idle, Sleeping}
use Rattle.history_lock.specs.Views.{tickets, sleeps, heard, told, IsAway, IsLive}
use Rattle.history_lock.specs.Rule.{IsTicketOf, HasTicket, HasParts, total, Fits}
use Rattle.history_lock.specs.Plays.{slept, rose}
use Rattle.history_lock.proofs.Sums.{total-set, set_each}
use Rattle.history_lock.proofs.Facts.{Rule, wraps, stays, owned_stays, slot_stays, not_inside}

-- a pass at this stage has no ticket, and took no other pass in
record Rests (st : Stage) : Type 0 where
  no_ticket : tickets st ≡ 0
  lives : IsLive st
  is_out : IsAway st → ⊥
  heard_none : heard st ≡ []
  told_own : (xs : List Entry) → told st xs ≡ xs
  fits : (holder : ℕ → ℕ) (inside : Option ℕ) (serving next j : ℕ) → HasTicket holder inside serving next j st
  whole : (numbers : List ℕ) (seen present : List Entry) → HasParts numbers seen present st
  has_none : (t : ℕ) → IsTicketOf t st → ⊥

idle_rests : Rests Idle
idle_rests = record {
  no_ticket = refl;
  lives = tt;
  is_out = λ i. i;
  heard_none = refl;
  told_own = λ xs. refl;
  fits = λ holder inside serving next j. tt;
  whole = λ numbers seen present. tt;
  has_none = λ t i. i;
}

sleeping_rests : Rests Sleeping
sleeping_rests = record {
  no_ticket = refl;
  lives = tt;
  is_out = λ i. i;
  heard_none = refl;
  told_own = λ xs. refl;
  fits = λ holder inside serving next j. tt;
  whole = λ numbers seen present. tt;
  has_none = λ t i. i;
}

module _ {T B : Type 0} (journal : T → List Entry) (base : T → B) (b : B) (seats : ℕ) where
  -- the rule holds with another stage without a ticket, where word 3 is the new count
  restages : (s : State (Option T) (View B)) (r : Rule journal base b seats s) (id : ℕ) (words : List ℕ) (v : View B) (st : Stage) → get_elem? s.views id ≡ some v → Rests v.stage → Rests st
      → words ≡ r.next % 18446744073709551616 ∷ r.serving % 18446744073709551616 ∷ length r.present % 18446744073709551616 ∷ total (λ (x : View B). sleeps x.stage) (set s.views id (record v { stage = st })) % 18446744073709551616 ∷ []
      → Rule journal base b seats record { words = words; homes = s.homes; views = set s.views id (record v { stage = st }) }
  restages s r id words v st at old new now = let w : View B = record v { stage = st } in
      let fits = r.each id v at in
      let f : View B → ℕ = λ x. tickets x.stage in let g : View B → ℕ = λ x. length x.numbers in
      let same : total f (set s.views id w) + tickets v.stage ≡ total f s.views + tickets st = total-set f s.views id v w at in
      let as_many : total g (set s.views id w) + length v.numbers ≡ total g s.views + length v.numbers = total-set g s.views id v w at in
      let none_old = old.no_ticket in let none_new = new.no_ticket in
      let out : r.next ≡ r.serving + total f s.views = r.out in let many : total g s.views ≡ seats = r.many in record {
        next = r.next;
        serving = r.serving;
        asleep = total (λ (x : View B). sleeps x.stage) (set s.views id w);
        present = r.present;
        owner = r.owner;
        holder = r.holder;
        inside = r.inside;
        words = now;
        few = r.few;
        out = omega arith;
        counted = refl;
        many = omega arith;
        each = set_each (λ j d. Fits b seats r.owner r.holder r.inside r.serving r.next r.present j d) s.views id w
            record {
              live = λ l. fits.live old.lives;
              mine = fits.mine;
              ticket = new.fits r.holder r.inside r.serving r.next id;
              seen = fits.seen;
              heard = subst (λ (l : List Entry). IsPrefix l r.present) (sym new.heard_none) (r.present, refl);
              own = λ k h. fits.own k h ∙ ap (own_entries k) (old.told_own v.seen ∙ sym (new.told_own v.seen));
              parts = new.whole v.numbers v.seen r.present;
            }
            (λ j d other there. r.each j d there);
        owned = owned_stays seats r.owner s.views id v w at (λ k h. h) r.owned;
        held = λ x l m. stays (λ (y : View B). IsTicketOf x y.stage) s.views (r.holder x) id v w at (λ z. absurd (old.has_none x z)) (r.held x l m);
        slot = slot_stays journal base r.inside b r.present s.homes s.views (set s.views id w) (λ i e. set_else s.views id i w (not_inside journal base b seats s r id v at old.is_out i e)) r.slot;
        theirs = r.theirs;
      }

  pub sleeps_next : (n id : ℕ) (m : Me (Option T) (View B)) → m.0.stage ≡ Idle → Allows (Rule journal base b seats) n id m 3 (λ y. (y + 1) % 2 ^ 64) (slept (step n 3 1 0 none) m)
  sleeps_next n id m e s r wide at _ = let w : View B = record m.0 { stage = Sleeping } in let h : View B → ℕ = λ x. sleeps x.stage in
      let more : total h (set s.views id w) + sleeps m.0.stage ≡ total h s.views + 1 = total-set h s.views id m.0 w at in
      let none : sleeps m.0.stage ≡ 0 = ap sleeps e in
      let count : r.asleep + 1 ≡ total h (set s.views id w) = omega (arith, r.counted) in (
        w,
        keeps,
        tt,
        restages s r id _ m.0 Sleeping at (subst Rests (sym e) idle_rests) sleeping_rests
            (ap (λ (ws : List ℕ). set ws 3 ((get_or ws 3 0 + 1) % 18446744073709551616)) r.words
            ∙ ap (λ (x : ℕ). r.next % 18446744073709551616 ∷ r.serving % 18446744073709551616 ∷ length r.present % 18446744073709551616 ∷ x ∷ []) (wraps r.asleep 1 ∙ ap (λ (x : ℕ). x % 18446744073709551616) count)),
        refl,
      )

  pub rises : (n id : ℕ) (m : Me (Option T) (View B)) → m.0.stage ≡ Sleeping → Allows (Rule journal base b seats) n id m 3 (λ y. (y + (2 ^ 64 - 1)) % 2 ^ 64) (rose (step n 3 1 0 none) m)
  rises n id m e s r wide at _ = let w : View B = record m.0 { stage = Idle } in let h : View B → ℕ = λ x. sleeps x.stage in
      let less : total h (set s.views id w) + sleeps m.0.stage ≡ total h s.views + 0 = total-set h s.views id m.0 w at in
      let one : sleeps m.0.stage ≡ 1 = ap sleeps e in
      let count : r.asleep ≡ total h (set s.views id w) + 1 = omega (arith, r.counted) in
      let fewer : (r.asleep + 18446744073709551615) % 18446744073709551616 ≡ total h (set s.views id w) % 18446744073709551616 = omega arith in (
        w,
        keeps,
        tt,
        restages s r id _ m.0 Idle at (subst Rests (sym e) sleeping_rests) idle_rests
            (ap (λ (ws : List ℕ). set ws 3 ((get_or ws 3 0 + 18446744073709551615) % 18446744073709551616)) r.words
            ∙ ap (λ (x : ℕ). r.next % 18446744073709551616 ∷ r.serving % 18446744073709551616 ∷ length r.present % 18446744073709551616 ∷ x ∷ []) (wraps r.asleep 18446744073709551615 ∙ fewer)),
        refl,
      )

-- a pass that was counted, and is counted no longer, is as it was
pub as_before : {T B : Type 0} (m₀ m m₁ m₂ : Me (Option T) (View B)) → m ≡ m₀ → m₀.0.stage ≡ Idle → m₁ ≡ (record m.0 { stage = Sleeping }, m.1) → m₂ ≡ (record m₁.0 { stage = Idle }, m₁.1) → m₂ ≡ m₀
as_before {T} {B} m₀ m m₁ m₂ same idle down up = up ∙ (ap (λ (z : Me (Option T) (View B)). (record z.0 { stage = Idle }, z.1)) (down ∙ ap (λ (z : Me (Option T) (View B)). (record z.0 { stage = Sleeping }, z.1)) same) ∙ (λ i. (record m₀.0 { stage = sym idle i }, m₀.1)))
