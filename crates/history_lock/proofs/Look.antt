-- Looking at the ticket that is served keeps the rule; where the turn has come, the pass has the value and knows it.
use Rattle.std.proofs.Common.{◌≡◌, ℕ, ◌+◌, ◌%◌, ◌≤◌, List, length, get_or, set, refl, sym, ap, ◌∙◌, subst, arith, Option, Some, None}
use mathlib.Core.Option.{none}
use mathlib.Core.Logic.{dite}
use mathlib.Core.List.{IsPrefix}
use native.Mathlib.Decide.{ℕ_discrete}
use lib.ListN.{get_elem?}
use lib.Seq.{set-get_or}
use Rattle.atomic_table.specs.Table.{Me, step, Allows, keeps, takes}
use Rattle.atomic_table.proofs.Lists.{set_here, set_again, one_turn}
use Rattle.vm_journal.specs.declared.entry.Entry.{Entry}
use Rattle.vm_journal.specs.Own.{own_entries}
use Rattle.history_lock.specs.declared.view.View.{View}
use Rattle.history_lock.specs.declared.stage.Stage.TheVariants.{Waiting, Holding}
use Rattle.history_lock.specs.Views.{tickets, sleeps}
use Rattle.history_lock.specs.Rule.{IsTicketOf, total, HasTicket, HasSlot, Fits}
use Rattle.history_lock.specs.Plays.{looked}
use Rattle.history_lock.proofs.Prefixes.{prefix_self}
use Rattle.history_lock.proofs.Sums.{total-set, set_each, at_below}
use Rattle.history_lock.proofs.Facts.{Rule, ticket_enters, stays, owned_stays, nobody_inside, bound}

module _ {T B : Type 0} (journal : T → List Entry) (base : T → B) (b : B) (seats : ℕ) where
  looks_at : (n id t : ℕ) (u : View B) (c : List (ℕ × Option T)) → let v : View B = record u { stage = Waiting t } in
      Allows (Rule journal base b seats) n id (v, c) 1 (λ y. y) (looked journal base (step n 1 0 0 none) (v, c))
  looks_at n id t u c s r wide at _ = let v : View B = record u { stage = Waiting t } in
      let fits = r.each id v at in
      let served : get_or s.words 1 0 ≡ r.serving % 18446744073709551616 = ap (λ (ws : List ℕ). get_or ws 1 0) r.words in
      dite (ℕ_discrete (get_or s.words 1 0) (t % 18446744073709551616))
      (λ hit.
      let all : r.next ≤ r.serving + seats = bound journal base b seats s r in let few = r.few in let from = fits.ticket.0 in let below = fits.ticket.1 in
      let same : r.serving ≡ t = one_turn r.serving t 18446744073709551616 from (omega arith) (sym served ∙ hit) in
      let none_in : r.inside ≡ None = nobody_inside journal base b seats s r id v at (λ z. z) (ap r.holder same ∙ fits.ticket.2) in
      let slot = subst (λ (o : Option ℕ). HasSlot journal base o b r.present s.homes s.views) none_in r.slot in
      let value : T = slot.0 in let mine : journal value ≡ r.present = slot.3 in
      let w : View B = record u { stage = Holding t; seen = journal value } in
      let f : View B → ℕ = λ x. tickets x.stage in let g : View B → ℕ = λ x. length x.numbers in
      let more : total f (set s.views id w) + 1 ≡ total f s.views + 1 = total-set f s.views id v w at in
      let as_many : total g (set s.views id w) + length u.numbers ≡ total g s.views + length u.numbers = total-set g s.views id v w at in
      let slept : total (λ (x : View B). sleeps x.stage) (set s.views id w) + 0 ≡ total (λ (x : View B). sleeps x.stage) s.views + 0 = total-set (λ (x : View B). sleeps x.stage) s.views id v w at in
      let out : r.next ≡ r.serving + total f s.views = r.out in let many : total g s.views ≡ seats = r.many in (
        w,
        takes 0 (Some value),
        ap (λ hs. get_elem? hs 0) slot.1,
        record {
          next = r.next;
          serving = r.serving;
          asleep = r.asleep;
          present = r.present;
          owner = r.owner;
          holder = r.holder;
          inside = Some id;
          words = set-get_or s.words 1 0 ∙ r.words;
          few = r.few;
          out = omega arith;
          counted = omega (arith, slept, r.counted);
          many = omega arith;
          each = set_each (λ j d. Fits b seats r.owner r.holder (Some id) r.serving r.next r.present j d) s.views id w
              record {
                live = fits.live;
                mine = fits.mine;
                ticket = (sym same, fits.ticket.1, fits.ticket.2, refl);
                seen = subst (λ (l : List Entry). IsPrefix (journal value) l) mine (prefix_self (journal value));
                heard = (r.present, refl);
                own = λ k h. ap (own_entries k) (sym mine);
                parts = tt;
              }
              (λ j d other there. let h = r.each j d there in record {
                live = h.live;
                mine = h.mine;
                ticket = ticket_enters r.holder r.serving r.next j id d.stage (subst (λ (o : Option ℕ). HasTicket r.holder o r.serving r.next j d.stage) none_in h.ticket);
                seen = h.seen;
                heard = h.heard;
                own = h.own;
                parts = h.parts;
              });
          owned = owned_stays seats r.owner s.views id v w at (λ k h. h) r.owned;
          held = λ x l m. stays (λ (y : View B). IsTicketOf x y.stage) s.views (r.holder x) id v w at (λ z. z) (r.held x l m);
          slot = (w, set_here s.views id w (at_below s.views id v at), tt, mine, ap (λ hs. set hs 0 none) slot.1);
          theirs = r.theirs;
        },
        (
          λ e. (
            value,
            refl,
            record {
              base_is = (fits.live tt).0 ∙ ap (λ (x : B). Some x) (sym slot.2);
              begins = subst (λ (l : List Entry). IsPrefix u.seen l) (sym mine) fits.seen;
              own = λ k h. ap (own_entries k) mine ∙ fits.own k h;
            },
          ),
          λ ne. absurd (ne hit),
        ),
      ))
      (λ miss. (
        v,
        keeps,
        tt,
        subst (λ (p : List ℕ × List (View B)). Rule journal base b seats record { words = p.0; homes = s.homes; views = p.1 }) (λ i. (sym (set-get_or s.words 1 0) i, sym (set_again s.views id v at) i)) r,
        (λ e. absurd (miss e), λ ne. refl),
      ))

  pub looks : (n id t : ℕ) (m : Me (Option T) (View B)) → m.0.stage ≡ Waiting t → Allows (Rule journal base b seats) n id m 1 (λ y. y) (looked journal base (step n 1 0 0 none) m)
  looks n id t m e = subst (λ (v : View B). Allows (Rule journal base b seats) n id (v, m.1) 1 (λ y. y) (looked journal base (step n 1 0 0 none) (v, m.1))) (λ i. record m.0 { stage = sym e i }) (looks_at n id t m.0 m.1)
