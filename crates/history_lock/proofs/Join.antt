-- Making two views one, and settling which of the two journals is the longer, keep the rule.
use Rattle.std.proofs.Common.{◌≡◌, ℕ, ◌+◌, ◌≢◌, List, ◌++◌, length, set, refl, sym, ap, ◌∙◌, subst, arith, ⊎_elim, Contains, Option, length-append}
use Rattle.std.proofs.lemmas.List.Elements.{Contains-append_left, Contains-append_right, Contains-append_cases}
use mathlib.Core.Option.{some, none}
use mathlib.Core.List.{IsPrefix}
use mathlib.Core.Logic.{dite}
use native.Mathlib.Decide.{ℕ_discrete}
use lib.ListN.{get_elem?}
use lib.Seq.{set-get_or}
use Rattle.atomic_table.specs.Table.{Me, step, Allows, Joins, keeps}
use Rattle.atomic_table.proofs.Lists.{set_here, set_else}
use Rattle.vm_journal.specs.declared.entry.Entry.{Entry}
use Rattle.vm_journal.specs.Own.{own_entries}
use Rattle.history_lock.specs.declared.view.View.{View}
use Rattle.history_lock.specs.declared.stage.Stage.TheVariants.{Idle, Joined}
use Rattle.history_lock.specs.Views.{tickets, sleeps, longer, merged, gone}
use Rattle.history_lock.specs.Rule.{IsTicketOf, total, Fits}
use Rattle.history_lock.specs.Plays.{settled}
use Rattle.history_lock.proofs.Prefixes.{longer_has, longer_begins}
use Rattle.history_lock.proofs.Own.{own_between}
use Rattle.history_lock.proofs.Sums.{total-set, set_each, at_below, at_one, no_element, decide_contains, moved, moved_there, moved_else}
use Rattle.history_lock.proofs.Facts.{Rule, slot_stays, slot_moves, stays, owned_stays, not_inside}

module _ {T B : Type 0} (journal : T → List Entry) (base : T → B) (b : B) (seats : ℕ) where
  joins_at : (id other : ℕ) (u y : View B) → let v : View B = record u { stage = Idle } in let w : View B = record y { stage = Idle } in Joins (Rule journal base b seats) id v other w (merged v w) gone
  joins_at id other u y s r at apart at' = let v : View B = record u { stage = Idle } in let w : View B = record y { stage = Idle } in let m : View B = merged v w in
      let vs : List (View B) = set s.views id m in let all : List (View B) = set vs other gone in
      let from : get_elem? s.views other ≡ some w = sym (set_else s.views id other m apart) ∙ at' in
      let owner : ℕ → ℕ = moved y.numbers id r.owner in
      let fits = r.each id v at in let gits = r.each other w from in
      let f : View B → ℕ = λ x. tickets x.stage in let g : View B → ℕ = λ x. length x.numbers in
      let f₁ : total f vs + 0 ≡ total f s.views + 0 = total-set f s.views id v m at in
      let f₂ : total f all + 0 ≡ total f vs + 0 = total-set f vs other w gone at' in
      let g₁ : total g vs + length u.numbers ≡ total g s.views + length (u.numbers ++ y.numbers) = total-set g s.views id v m at in
      let g₂ : total g all + length y.numbers ≡ total g vs + 0 = total-set g vs other w gone at' in
      let h : View B → ℕ = λ x. sleeps x.stage in
      let h₁ : total h vs + 0 ≡ total h s.views + 0 = total-set h s.views id v m at in
      let h₂ : total h all + 0 ≡ total h vs + 0 = total-set h vs other w gone at' in
      let both : length (u.numbers ++ y.numbers) ≡ length u.numbers + length y.numbers = length-append u.numbers y.numbers in
      let out : r.next ≡ r.serving + total f s.views = r.out in let many : total g s.views ≡ seats = r.many in
      let K : ℕ → View B → Type 0 = λ j d. Fits b seats owner r.holder r.inside r.serving r.next r.present j d in
      let begin = longer_begins u.seen y.seen r.present fits.seen gits.seen in
      let long : IsPrefix (longer u.seen y.seen) r.present = longer_has (λ l. IsPrefix l r.present) u.seen y.seen fits.seen gits.seen in
      let mid : K id m = record {
        live = λ l. let some_own = (fits.live tt).1 in ((fits.live tt).0, omega arith);
        mine = λ k h. elim (decide_contains y.numbers k) [
          | yes c ↦ (moved_there y.numbers id r.owner k c, (gits.mine k c).1)
          | no c ↦ ⊎_elim (λ (a : Contains u.numbers k). (moved_else y.numbers id r.owner k c ∙ (fits.mine k a).0, (fits.mine k a).1)) (λ (a : Contains y.numbers k). absurd (c a)) (Contains-append_cases u.numbers y.numbers k h)
        ];
        ticket = tt;
        seen = fits.seen;
        heard = gits.seen;
        own = λ k h. ⊎_elim (λ (a : Contains u.numbers k). own_between k u.seen (longer u.seen y.seen) r.present begin.0 long (fits.own k a))
            (λ (a : Contains y.numbers k). own_between k y.seen (longer u.seen y.seen) r.present begin.1 long (gits.own k a)) (Contains-append_cases u.numbers y.numbers k h);
        parts = (λ k h a. fits.own k a, λ k h a. gits.own k a);
      } in
      let spent : K other gone = record {
        live = λ l. absurd l;
        mine = λ k h. absurd (no_element k h);
        ticket = tt;
        seen = (r.present, refl);
        heard = (r.present, refl);
        own = λ k h. absurd (no_element k h);
        parts = tt;
      } in
      let rest : (j : ℕ) (d : View B) → j ≢ id → get_elem? s.views j ≡ some d → j ≢ other → K j d = λ j d n₁ there n₂. let h = r.each j d there in record {
        live = h.live;
        mine = λ k has. let old = h.mine k has in (moved_else y.numbers id r.owner k (λ c. n₂ (sym old.0 ∙ (gits.mine k c).0)) ∙ old.0, old.1);
        ticket = h.ticket;
        seen = h.seen;
        heard = h.heard;
        own = h.own;
        parts = h.parts;
      } in
      let first = set_each (λ j d. j ≢ other → K j d) s.views id m (λ _. mid) rest in
      let mine_now : get_elem? all id ≡ some m = set_else vs other id gone (λ e. apart (sym e)) ∙ set_here s.views id m (at_below s.views id v at) in
      record {
        next = r.next;
        serving = r.serving;
        asleep = r.asleep;
        present = r.present;
        owner = owner;
        holder = r.holder;
        inside = r.inside;
        words = r.words;
        few = r.few;
        out = omega arith;
        counted = omega (arith, h₁, h₂, r.counted);
        many = omega arith;
        each = set_each K vs other gone spent (λ j d n there. first j d there n);
        owned = λ k l. let old = r.owned k l in elim (decide_contains y.numbers k) [
          | yes c ↦ (m, ap (λ (j : ℕ). get_elem? all j) (moved_there y.numbers id r.owner k c) ∙ mine_now, Contains-append_right u.numbers y.numbers k c)
          | no c ↦ let stays : owner k ≡ r.owner k = moved_else y.numbers id r.owner k c in dite (ℕ_discrete (r.owner k) id)
              (λ e. (
                m,
                ap (λ (j : ℕ). get_elem? all j) (stays ∙ e) ∙ mine_now,
                Contains-append_left u.numbers y.numbers k (subst (λ (x : View B). Contains x.numbers k) (at_one s.views id old.0 v (ap (λ (j : ℕ). get_elem? s.views j) (sym e) ∙ old.1) at) old.2),
              ))
              (λ n. (
                old.0,
                ap (λ (j : ℕ). get_elem? all j) stays ∙ (set_else vs other (r.owner k) gone
                    (λ e. c (subst (λ (x : View B). Contains x.numbers k) (at_one s.views other old.0 w (ap (λ (j : ℕ). get_elem? s.views j) (sym e) ∙ old.1) from) old.2)) ∙ (set_else s.views id (r.owner k) m n ∙ old.1)),
                old.2,
              ))
        ];
        held = λ t l n. stays (λ (x : View B). IsTicketOf t x.stage) vs (r.holder t) other w gone at' (λ q. absurd q) (stays (λ (x : View B). IsTicketOf t x.stage) s.views (r.holder t) id v m at (λ q. q) (r.held t l n));
        slot = slot_moves journal base r.inside b r.present s.homes s.views all
            (λ i d e h. set_else vs other i gone (not_inside journal base b seats s r other w from (λ z. z) i e) ∙ (set_else s.views id i m (not_inside journal base b seats s r id v at (λ z. z) i e) ∙ h)) r.slot;
        theirs = r.theirs;
      }

  pub joins : (id other : ℕ) (v w : View B) → v.stage ≡ Idle → w.stage ≡ Idle → Joins (Rule journal base b seats) id v other w (merged v w) gone
  joins id other v w e d = subst (λ (p : View B × View B). Joins (Rule journal base b seats) id p.0 other p.1 (merged p.0 p.1) gone) (λ i. (record v { stage = sym e i }, record w { stage = sym d i })) (joins_at id other v w)

  settles_at : (n id : ℕ) (xs : List Entry) (ks ms : List ℕ) (u : View B) (c : List (ℕ × Option T)) → let v : View B = record u { stage = Joined xs ks ms } in
      Allows (Rule journal base b seats) n id (v, c) 2 (λ y. y) (settled (step n 2 0 0 none) (v, c))
  settles_at n id xs ks ms u c s r wide at _ = let v : View B = record u { stage = Joined xs ks ms } in let w : View B = record u { stage = Idle; seen = longer u.seen xs } in
      let fits = r.each id v at in
      let f : View B → ℕ = λ x. tickets x.stage in let g : View B → ℕ = λ x. length x.numbers in
      let same : total f (set s.views id w) + 0 ≡ total f s.views + 0 = total-set f s.views id v w at in
      let as_many : total g (set s.views id w) + length u.numbers ≡ total g s.views + length u.numbers = total-set g s.views id v w at in
      let slept : total (λ (x : View B). sleeps x.stage) (set s.views id w) + 0 ≡ total (λ (x : View B). sleeps x.stage) s.views + 0 = total-set (λ (x : View B). sleeps x.stage) s.views id v w at in
      let out : r.next ≡ r.serving + total f s.views = r.out in let many : total g s.views ≡ seats = r.many in
      let begin = longer_begins u.seen xs r.present fits.seen fits.heard in
      let long : IsPrefix (longer u.seen xs) r.present = longer_has (λ l. IsPrefix l r.present) u.seen xs fits.seen fits.heard in
      let between : (k : ℕ) (zs : List Entry) → IsPrefix zs (longer u.seen xs) → own_entries k r.present ≡ own_entries k zs → own_entries k r.present ≡ own_entries k (longer u.seen xs) = λ k zs p e. own_between k zs (longer u.seen xs) r.present p long e in (
        w,
        keeps,
        tt,
        record {
          next = r.next;
          serving = r.serving;
          asleep = r.asleep;
          present = r.present;
          owner = r.owner;
          holder = r.holder;
          inside = r.inside;
          words = set-get_or s.words 2 0 ∙ r.words;
          few = r.few;
          out = omega arith;
          counted = omega (arith, slept, r.counted);
          many = omega arith;
          each = set_each (λ j d. Fits b seats r.owner r.holder r.inside r.serving r.next r.present j d) s.views id w
              record {
                live = fits.live;
                mine = fits.mine;
                ticket = tt;
                seen = longer_has (λ l. IsPrefix l r.present) u.seen xs fits.seen fits.heard;
                heard = (r.present, refl);
                own = fits.own;
                parts = tt;
              }
              (λ j d other there. r.each j d there);
          owned = owned_stays seats r.owner s.views id v w at (λ k h. h) r.owned;
          held = λ x l m. stays (λ (y : View B). IsTicketOf x y.stage) s.views (r.holder x) id v w at (λ z. z) (r.held x l m);
          slot = slot_stays journal base r.inside b r.present s.homes s.views (set s.views id w) (λ i e. set_else s.views id i w (not_inside journal base b seats s r id v at (λ z. z) i e)) r.slot;
          theirs = r.theirs;
        },
        (
          refl,
          begin.0,
          begin.1,
          (
            λ k h a. sym (between k u.seen begin.0 (fits.parts.0 k h a)) ∙ fits.parts.0 k h a,
            λ k h a. sym (between k xs begin.1 (fits.parts.1 k h a)) ∙ fits.parts.1 k h a,
          ),
        ),
      )

  pub settles : (n id : ℕ) (xs : List Entry) (ks ms : List ℕ) (m : Me (Option T) (View B)) → m.0.stage ≡ Joined xs ks ms → Allows (Rule journal base b seats) n id m 2 (λ y. y) (settled (step n 2 0 0 none) m)
  settles n id xs ks ms m e = subst (λ (v : View B). Allows (Rule journal base b seats) n id (v, m.1) 2 (λ y. y) (settled (step n 2 0 0 none) (v, m.1))) (λ i. record m.0 { stage = sym e i }) (settles_at n id xs ks ms m.0 m.1)
