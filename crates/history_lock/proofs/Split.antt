-- Cutting a view that has seen nothing keeps the rule.
use Rattle.std.proofs.Common.{◌≡◌, ℕ, ◌+◌, ◌<◌, ◌≢◌, List, [], ◌∷◌, ◌++◌, length, set, sym, ap, ◌∙◌, subst, arith, ⊎_elim, Contains, length-set}
use mathlib.Core.Option.{some}
use mathlib.Core.Logic.{dite}
use native.Mathlib.Decide.{ℕ_discrete}
use lib.ListN.{get_elem?}
use Rattle.atomic_table.specs.Table.{Splits}
use Rattle.atomic_table.proofs.Lists.{set_here, set_else, at_longer, at_last}
use Rattle.vm_journal.specs.declared.entry.Entry.{Entry}
use Rattle.history_lock.specs.declared.view.View.{View}
use Rattle.history_lock.specs.Views.{tickets, sleeps, unseen, kept, given}
use Rattle.history_lock.specs.Rule.{IsTicketOf, total, Fits}
use Rattle.history_lock.proofs.Sums.{total-set, total-append, set_each, at_end, at_below, at_one, sole, has_first, has_later, has_cases, decide_contains, moved, moved_there, moved_else}
use Rattle.history_lock.proofs.Facts.{Rule, stays, slot_moves, not_inside}

module _ {T B : Type 0} (journal : T → List Entry) (base : T → B) (b : B) (seats : ℕ) where
  -- a view that has seen nothing is cut into its first number and the others
  splits_at : (id k x : ℕ) (ks : List ℕ) (o : B) → (Contains (x ∷ ks) k → ⊥) → let v : View B = unseen (k ∷ x ∷ ks) o in Splits (Rule journal base b seats) id v (kept v) (given v)
  splits_at id k x ks o apart s r at = let v : View B = unseen (k ∷ x ∷ ks) o in
      let w : View B = kept v in let z : View B = given v in let vs : List (View B) = set s.views id w in let end : ℕ = length s.views in
      let owner : ℕ → ℕ = moved (x ∷ ks) end r.owner in
      let fits = r.each id v at in
      let inner : id < end = at_below s.views id v at in
      let long : length vs ≡ end = length-set s.views id w in
      let f : View B → ℕ = λ y. tickets y.stage in let g : View B → ℕ = λ y. length y.numbers in
      let more : total f vs + 0 ≡ total f s.views + 0 = total-set f s.views id v w at in
      let more' : total f (vs ++ z ∷ []) ≡ total f vs + (0 + 0) = total-append f vs (z ∷ []) in
      let as_many : total g vs + length (k ∷ x ∷ ks) ≡ total g s.views + 1 = total-set g s.views id v w at in
      let as_many' : total g (vs ++ z ∷ []) ≡ total g vs + (length (x ∷ ks) + 0) = total-append g vs (z ∷ []) in
      let h : View B → ℕ = λ y. sleeps y.stage in
      let slept : total h vs + 0 ≡ total h s.views + 0 = total-set h s.views id v w at in
      let slept' : total h (vs ++ z ∷ []) ≡ total h vs + (0 + 0) = total-append h vs (z ∷ []) in
      let out : r.next ≡ r.serving + total f s.views = r.out in let many : total g s.views ≡ seats = r.many in
      let first : View B → (j : ℕ) → Type 0 = λ d j. Fits b seats owner r.holder r.inside r.serving r.next r.present j d in
      let low : first w id = record {
        live = λ l. ((fits.live tt).0, omega arith);
        mine = λ i h. let same : k ≡ i = sole k i h in let old = fits.mine i (subst (λ (y : ℕ). Contains (k ∷ x ∷ ks) y) same (has_first k (x ∷ ks))) in
            (moved_else (x ∷ ks) end r.owner i (λ c. apart (subst (λ (y : ℕ). Contains (x ∷ ks) y) (sym same) c)) ∙ old.0, old.1);
        ticket = tt;
        seen = fits.seen;
        heard = fits.heard;
        own = λ i h. let same : k ≡ i = sole k i h in fits.own i (subst (λ (y : ℕ). Contains (k ∷ x ∷ ks) y) same (has_first k (x ∷ ks)));
        parts = tt;
      } in
      let high : first z end = record {
        live = λ l. ((fits.live tt).0, omega arith);
        mine = λ i h. (moved_there (x ∷ ks) end r.owner i h, (fits.mine i (has_later k i (x ∷ ks) h)).1);
        ticket = tt;
        seen = fits.seen;
        heard = fits.heard;
        own = λ i h. fits.own i (has_later k i (x ∷ ks) h);
        parts = tt;
      } in
      let rest : (j : ℕ) (d : View B) → j ≢ id → get_elem? s.views j ≡ some d → first d j = λ j d other there. let h = r.each j d there in record {
        live = h.live;
        mine = λ i has. let old = h.mine i has in (moved_else (x ∷ ks) end r.owner i (λ c. other (sym old.0 ∙ (fits.mine i (has_later k i (x ∷ ks) c)).0)) ∙ old.0, old.1);
        ticket = h.ticket;
        seen = h.seen;
        heard = h.heard;
        own = h.own;
        parts = h.parts;
      } in
      let there : (i : ℕ) (d : View B) → i ≢ id → get_elem? s.views i ≡ some d → get_elem? (vs ++ z ∷ []) i ≡ some d = λ i d other h. at_longer vs (z ∷ []) i d (set_else s.views id i w other ∙ h) in
      record {
        next = r.next;
        serving = r.serving;
        asleep = r.asleep;
        present = r.present;
        owner = owner;
        holder = r.holder;
        inside = r.inside;
        words = r.words;
        few = r.few;
        out = omega arith;
        counted = omega (arith, slept, slept', r.counted);
        many = omega arith;
        each = λ j d e. ⊎_elim (set_each (λ i y. first y i) s.views id w low rest j d) (λ (t : (j ≡ length vs) × (z ≡ d)). subst (λ (p : ℕ × View B). first p.1 p.0) (λ h. (sym (t.0 ∙ long) h, t.1 h)) high) (at_end vs z d j e);
        owned = λ i l. let old = r.owned i l in elim (decide_contains (x ∷ ks) i) [
          | yes c ↦ (z, ap (λ (j : ℕ). get_elem? (vs ++ z ∷ []) j) (moved_there (x ∷ ks) end r.owner i c) ∙ at_last vs z end long, c)
          | no c ↦ let stays : owner i ≡ r.owner i = moved_else (x ∷ ks) end r.owner i c in dite (ℕ_discrete (r.owner i) id)
              (λ e. (
                w,
                ap (λ (j : ℕ). get_elem? (vs ++ z ∷ []) j) (stays ∙ e) ∙ at_longer vs (z ∷ []) id w (set_here s.views id w inner),
                let has : Contains (k ∷ x ∷ ks) i = subst (λ (y : View B). Contains y.numbers i) (at_one s.views id old.0 v (ap (λ (j : ℕ). get_elem? s.views j) (sym e) ∙ old.1) at) old.2 in
                    ⊎_elim (λ (same : k ≡ i). subst (λ (y : ℕ). Contains (k ∷ []) y) same (has_first k [])) (λ (h : Contains (x ∷ ks) i). absurd (c h)) (has_cases k i (x ∷ ks) has),
              ))
              (λ n. (old.0, ap (λ (j : ℕ). get_elem? (vs ++ z ∷ []) j) stays ∙ there (r.owner i) old.0 n old.1, old.2))
        ];
        held = λ t l m. let o = stays (λ (y : View B). IsTicketOf t y.stage) s.views (r.holder t) id v w at (λ q. q) (r.held t l m) in (o.0, at_longer vs (z ∷ []) (r.holder t) o.0 o.1, o.2);
        slot = slot_moves journal base r.inside b r.present s.homes s.views (vs ++ z ∷ []) (λ i d e h. there i d (not_inside journal base b seats s r id v at (λ y. y) i e) h) r.slot;
        theirs = r.theirs;
      }

  pub splits : (id k x : ℕ) (ks : List ℕ) (v : View B) (o : B) → v ≡ unseen (k ∷ x ∷ ks) o → (Contains (x ∷ ks) k → ⊥) → Splits (Rule journal base b seats) id v (kept v) (given v)
  splits id k x ks v o e apart = subst (λ (y : View B). Splits (Rule journal base b seats) id y (kept y) (given y)) (sym e) (splits_at id k x ks o apart)
