-- Taking a ticket keeps the rule.
use Rattle.std.proofs.Common.{◌≡◌, ℕ, ◌+◌, ◌%◌, ◌^◌, ◌<◌, ◌≤◌, List, [], ◌∷◌, length, get_or, set, cond, eqb, eq-eqb, ne_eqb, refl, sym, ap, ◌∙◌, subst, arith, Option}
use mathlib.Core.Option.{none}
use mathlib.Core.Logic.{dite}
use native.Mathlib.Decide.{ℕ_discrete}
use lib.ListN.{get_elem?}
use Rattle.atomic_table.specs.Table.{Me, step, Allows, keeps}
use Rattle.atomic_table.proofs.Lists.{set_else, set_here}
use Rattle.vm_journal.specs.declared.entry.Entry.{Entry}
use Rattle.history_lock.specs.declared.view.View.{View}
use Rattle.history_lock.specs.declared.stage.Stage.TheVariants.{Idle, Waiting}
use Rattle.history_lock.specs.Views.{tickets, sleeps}
use Rattle.history_lock.specs.Rule.{IsTicketOf, total, Fits}
use Rattle.history_lock.specs.Plays.{took}
use Rattle.history_lock.proofs.Sums.{total-set, set_each, at_below}
use Rattle.history_lock.proofs.Facts.{Rule, wraps, ticket_later, stays, owned_stays, slot_stays, not_inside, bound}

module _ {T B : Type 0} (journal : T → List Entry) (base : T → B) (b : B) (seats : ℕ) where
  takes_at : (n id : ℕ) (u : View B) (c : List (ℕ × Option T)) → let v : View B = record u { stage = Idle } in
      Allows (Rule journal base b seats) n id (v, c) 0 (λ y. (y + 1) % 2 ^ 64) (took (step n 0 1 0 none) (v, c))
  takes_at n id u c s r wide at _ = let v : View B = record u { stage = Idle } in let w : View B = record u { stage = Waiting r.next } in
      let holder : ℕ → ℕ = λ t. cond (eqb t r.next) id (r.holder t) in
      let f : View B → ℕ = λ x. tickets x.stage in let g : View B → ℕ = λ x. length x.numbers in
      let all : r.next ≤ r.serving + seats = bound journal base b seats s r in
      let more : total f (set s.views id w) + 0 ≡ total f s.views + 1 = total-set f s.views id v w at in
      let same : total g (set s.views id w) + length u.numbers ≡ total g s.views + length u.numbers = total-set g s.views id v w at in
      let slept : total (λ (x : View B). sleeps x.stage) (set s.views id w) + 0 ≡ total (λ (x : View B). sleeps x.stage) s.views + 0 = total-set (λ (x : View B). sleeps x.stage) s.views id v w at in
      let out : r.next ≡ r.serving + total f s.views = r.out in let many : total g s.views ≡ seats = r.many in
      let fits = r.each id v at in
      let old : (t : ℕ) → t < r.next → holder t ≡ r.holder t = λ t l. ap (λ x. cond x id (r.holder t)) (ne_eqb t r.next (λ e. omega arith)) in (
        w,
        keeps,
        tt,
        record {
          next = r.next + 1;
          serving = r.serving;
          asleep = r.asleep;
          present = r.present;
          owner = r.owner;
          holder = holder;
          inside = r.inside;
          words = ap (λ (ws : List ℕ). set ws 0 ((get_or ws 0 0 + 1) % 18446744073709551616)) r.words ∙ ap (λ (x : ℕ). x ∷ r.serving % 18446744073709551616 ∷ length r.present % 18446744073709551616 ∷ r.asleep % 18446744073709551616 ∷ []) (wraps r.next 1);
          few = r.few;
          out = omega arith;
          counted = omega (arith, slept, r.counted);
          many = omega arith;
          each = set_each (λ j d. Fits b seats r.owner holder r.inside r.serving (r.next + 1) r.present j d) s.views id w
              record {
                live = fits.live;
                mine = fits.mine;
                ticket = (omega arith, omega arith, ap (λ x. cond x id (r.holder r.next)) (eq-eqb r.next r.next refl));
                seen = fits.seen;
                heard = fits.heard;
                own = fits.own;
                parts = tt;
              }
              (λ j d other there. let h = r.each j d there in record {
                live = h.live;
                mine = h.mine;
                ticket = ticket_later r.holder holder r.inside r.serving r.next (r.next + 1) j old (omega arith) d.stage h.ticket;
                seen = h.seen;
                heard = h.heard;
                own = h.own;
                parts = h.parts;
              });
          owned = owned_stays seats r.owner s.views id v w at (λ k h. h) r.owned;
          held = λ t l m. dite (ℕ_discrete t r.next) (λ e. (w, ap (λ (j : ℕ). get_elem? (set s.views id w) j) (ap (λ x. cond x id (r.holder t)) (eq-eqb t r.next e)) ∙ set_here s.views id w (at_below s.views id v at), sym e)) (λ n. let o = stays (λ (x : View B). IsTicketOf t x.stage) s.views (r.holder t) id v w at (λ z. absurd z) (r.held t l (omega arith)) in (o.0, ap (λ (j : ℕ). get_elem? (set s.views id w) j) (old t (omega arith)) ∙ o.1, o.2));
          slot = slot_stays journal base r.inside b r.present s.homes s.views (set s.views id w) (λ i e. set_else s.views id i w (not_inside journal base b seats s r id v at (λ z. z) i e)) r.slot;
          theirs = r.theirs;
        },
        (r.next, sym (ap (λ (ws : List ℕ). get_or ws 0 0) r.words), refl),
      )

  pub takes_ticket : (n id : ℕ) (m : Me (Option T) (View B)) → m.0.stage ≡ Idle → Allows (Rule journal base b seats) n id m 0 (λ y. (y + 1) % 2 ^ 64) (took (step n 0 1 0 none) m)
  takes_ticket n id m e = subst (λ (v : View B). Allows (Rule journal base b seats) n id (v, m.1) 0 (λ y. (y + 1) % 2 ^ 64) (took (step n 0 1 0 none) (v, m.1))) (λ i. record m.0 { stage = sym e i }) (takes_at n id m.0 m.1)
