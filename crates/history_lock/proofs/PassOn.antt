-- Passing the turn on, with the value back, keeps the rule.
use Rattle.std.proofs.Common.{◌≡◌, ℕ, ◌+◌, ◌%◌, ◌^◌, List, [], ◌∷◌, length, get_or, set, refl, sym, ap, ◌∙◌, subst, arith, Option, Some, None}
use mathlib.Core.Option.{some, none}
use Rattle.atomic_table.specs.Table.{Me, step, Allows, gives}
use Rattle.vm_journal.specs.declared.entry.Entry.{Entry}
use Rattle.history_lock.specs.declared.view.View.{View}
use Rattle.history_lock.specs.declared.stage.Stage.TheVariants.{Idle, Published}
use Rattle.history_lock.specs.Views.{tickets, sleeps}
use Rattle.history_lock.specs.Rule.{IsTicketOf, total, HasTicket, HasSlot, Fits}
use Rattle.history_lock.specs.Plays.{passed}
use Rattle.history_lock.proofs.Sums.{total-set, set_each, at_one}
use Rattle.history_lock.proofs.Facts.{Rule, wraps, ticket_passes, stays, owned_stays}

module _ {T B : Type 0} (journal : T → List Entry) (base : T → B) (b : B) (seats : ℕ) where
  passes_at : (n id t : ℕ) (u : View B) (value : T) → u.seen ≡ journal value → u.base ≡ Some (base value)
      → let m : Me (Option T) (View B) = (record u { stage = Published t }, (0, Some value) ∷ []) in Allows (Rule journal base b seats) n id m 1 (λ y. (y + 1) % 2 ^ 64) (passed (step n 1 1 0 none) m)
  passes_at n id t u value knows based s r wide at _ = let v : View B = record u { stage = Published t } in
      let w : View B = record u { stage = Idle } in
      let fits = r.each id v at in
      let slot = subst (λ (o : Option ℕ). HasSlot journal base o b r.present s.homes s.views) fits.ticket.3 r.slot in
      let me : slot.0 ≡ v = at_one s.views id slot.0 v slot.1 at in
      let found : u.seen ≡ r.present = ap (λ (x : View B). x.seen) (sym me) ∙ slot.3 in
      let its : base value ≡ b = let e = (fits.live tt).0 in cc in
      let has : r.holder r.serving ≡ id = ap r.holder (sym fits.ticket.0) ∙ fits.ticket.2 in
      let f : View B → ℕ = λ x. tickets x.stage in let g : View B → ℕ = λ x. length x.numbers in
      let less : total f (set s.views id w) + 1 ≡ total f s.views + 0 = total-set f s.views id v w at in
      let as_many : total g (set s.views id w) + length u.numbers ≡ total g s.views + length u.numbers = total-set g s.views id v w at in
      let slept : total (λ (x : View B). sleeps x.stage) (set s.views id w) + 0 ≡ total (λ (x : View B). sleeps x.stage) s.views + 0 = total-set (λ (x : View B). sleeps x.stage) s.views id v w at in
      let out : r.next ≡ r.serving + total f s.views = r.out in let many : total g s.views ≡ seats = r.many in (
        w,
        gives,
        tt,
        record {
          next = r.next;
          serving = r.serving + 1;
          asleep = r.asleep;
          present = r.present;
          owner = r.owner;
          holder = r.holder;
          inside = None;
          words = ap (λ (ws : List ℕ). set ws 1 ((get_or ws 1 0 + 1) % 18446744073709551616)) r.words ∙ ap (λ (x : ℕ). r.next % 18446744073709551616 ∷ x ∷ length r.present % 18446744073709551616 ∷ r.asleep % 18446744073709551616 ∷ []) (wraps r.serving 1);
          few = r.few;
          out = omega arith;
          counted = omega (arith, slept, r.counted);
          many = omega arith;
          each = set_each (λ j d. Fits b seats r.owner r.holder None (r.serving + 1) r.next r.present j d) s.views id w
              record {
                live = fits.live;
                mine = fits.mine;
                ticket = tt;
                seen = fits.seen;
                heard = fits.heard;
                own = fits.own;
                parts = tt;
              }
              (λ j d other there. let h = r.each j d there in record {
                live = h.live;
                mine = h.mine;
                ticket = ticket_passes r.holder r.serving r.next j id has other d.stage (subst (λ (o : Option ℕ). HasTicket r.holder o r.serving r.next j d.stage) fits.ticket.3 h.ticket);
                seen = h.seen;
                heard = h.heard;
                own = h.own;
                parts = h.parts;
              });
          owned = owned_stays seats r.owner s.views id v w at (λ k h. h) r.owned;
          held = λ x l m. let mine = fits.ticket.0 in stays (λ (y : View B). IsTicketOf x y.stage) s.views (r.holder x) id v w at (λ (z : t ≡ x). absurd (omega arith)) (r.held x (omega arith) m);
          slot = (value, ap (λ hs. set hs 0 (some (Some value))) slot.4, its, sym knows ∙ found);
          theirs = r.theirs;
        },
        refl,
      )

  pub passes : (n id t : ℕ) (m : Me (Option T) (View B)) (value : T) → m.0.stage ≡ Published t → m.1 ≡ (0, Some value) ∷ [] → m.0.seen ≡ journal value → m.0.base ≡ Some (base value)
      → Allows (Rule journal base b seats) n id m 1 (λ y. (y + 1) % 2 ^ 64) (passed (step n 1 1 0 none) m)
  passes n id t m value e c knows based = subst (λ (x : Me (Option T) (View B)). Allows (Rule journal base b seats) n id x 1 (λ y. (y + 1) % 2 ^ 64) (passed (step n 1 1 0 none) x))
      (λ i. (record m.0 { stage = sym e i }, sym c i)) (passes_at n id t m.0 value knows based)
