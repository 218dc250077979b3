-- Publishing the journal's new length keeps the rule.
use Rattle.std.proofs.Common.{◌≡◌, ℕ, ◌+◌, ◌%◌, ◌^◌, List, [], ◌∷◌, ◌++◌, length, get_or, set, refl, sym, ap, ◌∙◌, subst, arith, Option, Some}
use mathlib.Core.Option.{none}
use Rattle.atomic_table.specs.Table.{Me, step, Allows, keeps}
use Rattle.atomic_table.proofs.Lists.{set_here}
use Rattle.vm_journal.specs.declared.entry.Entry.{Entry}
use Rattle.history_lock.specs.declared.view.View.{View}
use Rattle.history_lock.specs.declared.stage.Stage.TheVariants.{Holding, Published}
use Rattle.history_lock.specs.Known.{Adds}
use Rattle.history_lock.specs.Views.{tickets, sleeps}
use Rattle.history_lock.specs.Rule.{IsTicketOf, total, HasSlot, Fits}
use Rattle.history_lock.specs.Plays.{published}
use Rattle.history_lock.proofs.Prefixes.{prefix_self, prefix_trans}
use Rattle.history_lock.proofs.Own.{own_same}
use Rattle.history_lock.proofs.Sums.{total-set, set_each, at_below, at_one}
use Rattle.history_lock.proofs.Facts.{parts_later, Rule, wraps, stays, owned_stays}

module _ {T B : Type 0} (journal : T → List Entry) (base : T → B) (b : B) (seats : ℕ) where
  publishes_at : (n id t added : ℕ) (u : View B) (value : T) → Adds u (journal value) → added + length u.seen ≡ length (journal value)
      → let m : Me (Option T) (View B) = (record u { stage = Holding t }, (0, Some value) ∷ []) in Allows (Rule journal base b seats) n id m 2 (λ y. (y + added) % 2 ^ 64) (published journal (step n 2 added 0 none) m)
  publishes_at n id t added u value adds long s r wide at _ = let v : View B = record u { stage = Holding t } in
      let now : List Entry = journal value in let w : View B = record u { stage = Published t; seen = now } in
      let fits = r.each id v at in
      let slot = subst (λ (o : Option ℕ). HasSlot journal base o b r.present s.homes s.views) fits.ticket.3 r.slot in
      let me : slot.0 ≡ v = at_one s.views id slot.0 v slot.1 at in
      let found : u.seen ≡ r.present = ap (λ (x : View B). x.seen) (sym me) ∙ slot.3 in
      let later : List Entry = adds.0 in
      let whole : r.present ++ later ≡ now = ap (λ (l : List Entry). l ++ later) (sym found) ∙ adds.1 in
      let count : length r.present + added ≡ length now = let e = ap length found in omega arith in
      let f : View B → ℕ = λ x. tickets x.stage in let g : View B → ℕ = λ x. length x.numbers in
      let more : total f (set s.views id w) + 1 ≡ total f s.views + 1 = total-set f s.views id v w at in
      let as_many : total g (set s.views id w) + length u.numbers ≡ total g s.views + length u.numbers = total-set g s.views id v w at in
      let slept : total (λ (x : View B). sleeps x.stage) (set s.views id w) + 0 ≡ total (λ (x : View B). sleeps x.stage) s.views + 0 = total-set (λ (x : View B). sleeps x.stage) s.views id v w at in
      let out : r.next ≡ r.serving + total f s.views = r.out in let many : total g s.views ≡ seats = r.many in (
        w,
        keeps,
        tt,
        record {
          next = r.next;
          serving = r.serving;
          asleep = r.asleep;
          present = now;
          owner = r.owner;
          holder = r.holder;
          inside = r.inside;
          words = ap (λ (ws : List ℕ). set ws 2 ((get_or ws 2 0 + added) % 18446744073709551616)) r.words
              ∙ ap (λ (x : ℕ). r.next % 18446744073709551616 ∷ r.serving % 18446744073709551616 ∷ x ∷ r.asleep % 18446744073709551616 ∷ []) (wraps (length r.present) added ∙ ap (λ (x : ℕ). x % 18446744073709551616) count);
          few = r.few;
          out = omega arith;
          counted = omega (arith, slept, r.counted);
          many = omega arith;
          each = set_each (λ j d. Fits b seats r.owner r.holder r.inside r.serving r.next now j d) s.views id w
              record {
                live = fits.live;
                mine = fits.mine;
                ticket = fits.ticket;
                seen = prefix_self now;
                heard = (now, refl);
                own = λ k h. refl;
                parts = tt;
              }
              (λ j d other there. let h = r.each j d there in record {
                live = h.live;
                mine = h.mine;
                ticket = h.ticket;
                seen = prefix_trans d.seen r.present now h.seen (later, whole);
                heard = prefix_trans _ r.present now h.heard (later, whole);
                own = λ k has. own_same k r.present later now whole (λ i e l is. other (sym (h.mine k has).0 ∙ (ap r.owner (sym is) ∙ (fits.mine _ (adds.2 i e l)).0))) ∙ h.own k has;
                parts =
                    parts_later d.numbers d.seen r.present now (λ k has. own_same k r.present later now whole (λ i e l is. other (sym (h.mine k has).0 ∙ (ap r.owner (sym is) ∙ (fits.mine _ (adds.2 i e l)).0)))) d.stage h.parts;
              });
          owned = owned_stays seats r.owner s.views id v w at (λ k h. h) r.owned;
          held = λ x l m. stays (λ (y : View B). IsTicketOf x y.stage) s.views (r.holder x) id v w at (λ z. z) (r.held x l m);
          slot = subst (λ (o : Option ℕ). HasSlot journal base o b now s.homes (set s.views id w)) (sym fits.ticket.3) (w, set_here s.views id w (at_below s.views id v at), tt, refl, slot.4);
          theirs = λ k l. own_same k r.present later now whole (λ i e short is. let below = (fits.mine _ (adds.2 i e short)).1 in omega arith) ∙ r.theirs k l;
        },
        refl,
      )

  pub publishes : (n id t added : ℕ) (m : Me (Option T) (View B)) (value : T) → m.0.stage ≡ Holding t → m.1 ≡ (0, Some value) ∷ [] → Adds m.0 (journal value) → added + length m.0.seen ≡ length (journal value)
      → Allows (Rule journal base b seats) n id m 2 (λ y. (y + added) % 2 ^ 64) (published journal (step n 2 added 0 none) m)
  publishes n id t added m value e c adds long = subst (λ (x : Me (Option T) (View B)). Allows (Rule journal base b seats) n id x 2 (λ y. (y + added) % 2 ^ 64) (published journal (step n 2 added 0 none) x))
      (λ i. (record m.0 { stage = sym e i }, sym c i)) (publishes_at n id t added m.0 value adds long)
