-- The rule holds of a new lock, and at the end it tells the value.
use Rattle.std.proofs.Common.{◌≡◌, ℕ, zero, suc, ◌<◌, List, [], ◌∷◌, ◌++◌, length, refl, sym, ap, ◌∙◌, subst, arith, Option, Some, None, IsSome, append-nil}
use Rattle.std.specs.List.{range_with_len}
use Rattle.std.proofs.lemmas.List.FromFn.{length-range_with_len}
use mathlib.Core.Option.{some, some-injective, some-ne-none}
use mathlib.Core.Logic.{dite}
use mathlib.Core.List.{IsPrefix}
use native.Mathlib.Decide.{dec_le}
use lib.ListN.{get_elem?}
use Rattle.atomic_table.specs.Table.{State, opening, Final, Seen}
use Rattle.vm_journal.specs.declared.entry.Entry.{Entry}
use Rattle.vm_journal.specs.Own.{own_entries}
use Rattle.history_lock.specs.declared.view.View.{View}
use Rattle.history_lock.specs.declared.stage.Stage.{Stage}
use Rattle.history_lock.specs.declared.stage.Stage.TheVariants.{Idle, Sleeping, Joined, Waiting, Holding, Published, Spent}
use Rattle.history_lock.specs.Known.{Known, OwnsAll}
use Rattle.history_lock.specs.Views.{starting, IsAway, IsLive}
use Rattle.history_lock.specs.Rule.{HasSlot, Fits, Serves}
use Rattle.history_lock.proofs.Own.{own_more}
use Rattle.history_lock.proofs.Ranges.{in_range, range_has, some_number}
use Rattle.history_lock.proofs.Facts.{Rule, not_inside}

in_lives : (st : Stage) → IsAway st → IsLive st
in_lives Idle i = absurd i
in_lives Sleeping i = absurd i
in_lives (Joined ys ks ms) i = absurd i
in_lives (Waiting t) i = absurd i
in_lives (Holding t) i = tt
in_lives (Published t) i = tt
in_lives Spent i = absurd i

module _ {T B : Type 0} (journal : T → List Entry) (base : T → B) where
  one_fits : (b : B) (n : ℕ) → 0 < n → (j : ℕ) (v : View B) → get_elem? (starting b n ∷ []) j ≡ some v → Fits b n (λ _. 0) (λ _. 0) None 0 0 [] j v
  one_fits b n some_pass zero v e = subst (λ (x : View B). Fits b n (λ _. 0) (λ _. 0) None 0 0 [] 0 x) (some-injective (starting b n) v e) record {
    live = λ _. (refl, let l = length-range_with_len 0 n in omega arith);
    mine = λ k h. let l = (in_range 0 n k h).1 in (refl, omega arith);
    ticket = tt;
    seen = ([], refl);
    heard = ([], refl);
    own = λ k h. refl;
    parts = tt;
  }
  one_fits b n some_pass (suc j) v e = absurd (some-ne-none v (sym e))

  pub starts : (value : T) (n : ℕ) → 0 < n → n < 4294967296 → journal value ≡ [] → Serves journal base (base value) n (opening (0 ∷ 0 ∷ 0 ∷ 0 ∷ []) (Some value ∷ []) (starting (base value) n))
  starts value n some_pass few empty = let long : length (range_with_len 0 n) ≡ n = length-range_with_len 0 n in record {
    next = 0;
    serving = 0;
    asleep = 0;
    present = [];
    owner = λ _. 0;
    holder = λ _. 0;
    inside = None;
    words = refl;
    few = few;
    out = refl;
    counted = refl;
    many = omega arith;
    each = one_fits (base value) n some_pass;
    owned = λ k l. (starting (base value) n, refl, range_has 0 n k (omega arith) (omega arith));
    held = λ t l m. absurd (omega arith);
    slot = (value, refl, refl, empty);
    theirs = λ k l. refl;
  }

  module _ (b : B) (seats : ℕ) where
    -- nothing stands behind what a pass with all numbers has seen
    whole : (s : State (Option T) (View B)) (r : Rule journal base b seats s) (id : ℕ) (v : View B) → get_elem? s.views id ≡ some v → v.stage ≡ Idle → OwnsAll seats v.numbers → (later : List Entry) → v.seen ++ later ≡ r.present → r.present ≡ v.seen
    whole s r id v at idle all [] e = sym e ∙ append-nil v.seen
    whole s r id v at idle all (x ∷ later) e = let k : ℕ = (x.seat).0 in
        let more : length (own_entries k v.seen) < length (own_entries k (v.seen ++ x ∷ later)) = own_more k v.seen x later refl in
        let same : length (own_entries k (v.seen ++ x ∷ later)) ≡ length (own_entries k r.present) = ap (λ (l : List Entry). length (own_entries k l)) e in
        let fits : Fits b seats r.owner r.holder r.inside r.serving r.next r.present id (record v { stage = Idle }) = subst (λ (st : Stage). Fits b seats r.owner r.holder r.inside r.serving r.next r.present id (record v { stage = st })) idle (r.each id v at) in
        dite (dec_le seats k)
        (λ l. let none_own : length (own_entries k r.present) ≡ 0 = ap length (r.theirs k l) in absurd (omega arith))
        (λ n. let own : length (own_entries k r.present) ≡ length (own_entries k v.seen) = ap length (fits.own k (all k (omega arith))) in absurd (omega arith))

    -- nobody is inside once one idle pass has all numbers
    nobody : (s : State (Option T) (View B)) (r : Rule journal base b seats s) (id : ℕ) (v : View B) → get_elem? s.views id ≡ some v → v.stage ≡ Idle → OwnsAll seats v.numbers → (o : Option ℕ) → r.inside ≡ o → r.inside ≡ None
    nobody s r id v at idle all None e = e
    nobody s r id v at idle all (Some i) e = let slot = subst (λ (o : Option ℕ). HasSlot journal base o b r.present s.homes s.views) e r.slot in
        let fits = r.each i slot.0 slot.1 in let has = some_number slot.0.numbers (fits.live (in_lives slot.0.stage slot.2)).1 in
        let theirs = fits.mine has.0 has.1 in let mine = (r.each id v at).mine has.0 (all has.0 theirs.1) in
        absurd (not_inside journal base b seats s r id v at (λ z. subst IsAway idle z) i e (sym theirs.0 ∙ mine.0))

    pub ends : (s : State (Option T) (View B)) (r : Rule journal base b seats s) (id : ℕ) (v : View B) → get_elem? s.views id ≡ some v → v.stage ≡ Idle → OwnsAll seats v.numbers
        → (value : T) × (s.homes ≡ some (Some value) ∷ []) × Known journal base value v × (journal value ≡ v.seen)
    ends s r id v at idle all = let slot = subst (λ (o : Option ℕ). HasSlot journal base o b r.present s.homes s.views) (nobody s r id v at idle all r.inside refl) r.slot in
        let fits : Fits b seats r.owner r.holder r.inside r.serving r.next r.present id (record v { stage = Idle }) = subst (λ (st : Stage). Fits b seats r.owner r.holder r.inside r.serving r.next r.present id (record v { stage = st })) idle (r.each id v at) in (
          slot.0,
          slot.1,
          record {
            base_is = (fits.live tt).0 ∙ ap (λ (x : B). Some x) (sym slot.2);
            begins = subst (λ (l : List Entry). IsPrefix v.seen l) (sym slot.3) fits.seen;
            own = λ k h. ap (own_entries k) slot.3 ∙ fits.own k h;
          },
          slot.3 ∙ whole s r id v at idle all fits.seen.0 fits.seen.1,
        )

    -- the value that the table's one slot has at the end
    pub closes : (ws : List ℕ) (xs : List (Option T)) (id : ℕ) (v : View B) (o : Option T) → Final (Seen (Rule journal base b seats) id v) ws xs → v.stage ≡ Idle → OwnsAll seats v.numbers → get_elem? xs 0 ≡ some o
        → (value : T) × (o ≡ Some value) × Known journal base value v × (journal value ≡ v.seen)
    closes ws xs id v o final idle all taken = let e = ends final.0 final.1.0 id v final.1.1 idle all in
        (e.0, some-injective o (Some e.0) (sym taken ∙ final.4 0 (Some e.0) (ap (λ hs. get_elem? hs 0) e.1)), e.2, e.3)

some_there : {T : Type 0} (o : Option T) (value : T) → o ≡ Some value → IsSome o
some_there o value e = subst (λ x. IsSome x) (sym e) refl

one_value : {T : Type 0} (o : Option T) (v w : T) → o ≡ Some v → o ≡ Some w → v ≡ w
one_value o v w e d = cc

module _ {T B : Type 0} (journal : T → List Entry) (base : T → B) (b : B) (seats : ℕ) where
  pub slot_full : (ws : List ℕ) (xs : List (Option T)) (id : ℕ) (v : View B) (o : Option T) → Final (Seen (Rule journal base b seats) id v) ws xs → v.stage ≡ Idle → OwnsAll seats v.numbers → get_elem? xs 0 ≡ some o → IsSome o
  slot_full ws xs id v o final idle all taken = let e = closes journal base b seats ws xs id v o final idle all taken in some_there o e.0 e.1

  pub known : (ws : List ℕ) (xs : List (Option T)) (id : ℕ) (v : View B) (o : Option T) (w : T) → Final (Seen (Rule journal base b seats) id v) ws xs → v.stage ≡ Idle → OwnsAll seats v.numbers → get_elem? xs 0 ≡ some o → o ≡ Some w
      → Known journal base w v × (journal w ≡ v.seen)
  known ws xs id v o w final idle all taken is = let e = closes journal base b seats ws xs id v o final idle all taken in let same : e.0 ≡ w = one_value o e.0 w e.1 is in
      (subst (λ (x : T). Known journal base x v) same e.2, ap journal (sym same) ∙ e.3)
