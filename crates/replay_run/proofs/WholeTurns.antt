-- A journal of which each seat's entries are made in turns is made of turns.
use Rattle.std.proofs.Common.{◌≡◌, ◌≢◌, ◌⊎◌, ℕ, zero, suc, ◌<◌, ◌≤◌, Bool, true, false, List, [], ◌∷◌, length, nat_eq, refl, sym, ap, ◌∙◌, subst, inl, inr, arith}
use Rattle.std.specs.List.{AllByRecursion}
use Rattle.std.proofs.lemmas.Bool.{eqb-true, eqb-false}
use Rattle.vm_types.specs.declared.config.Config.{Config}
use Rattle.vm_journal.specs.declared.entry.Entry.{Entry}
use Rattle.vm_journal.specs.declared.entry.What.{What}
use Rattle.pager_policy.specs.Given.{by_seat, made_by}
use Rattle.seat_steps.specs.Turns.{EachInTurn}
use Rattle.vm_actors.specs.InTurns.{GoesInTurns, IsAfter, IsOthersEntry, IsOwnTurn}
use Rattle.replay_run.proofs.SeatBounds.{IsBelow}

heads : {e f : Entry} {xs ys : List Entry} → e ∷ xs ≡ f ∷ ys → (e ≡ f) × (xs ≡ ys)
heads same = (cc, cc)

never_nil : {A : Type 0} (x : A) (xs : List A) → x ∷ xs ≡ [] → ⊥
never_nil x xs same = omega (arith, ap length same)

-- ---- what a seat has made
last_own : (k : ℕ) (ws : List What) (x : Entry) (past : List Entry) (e : Entry) (rest : List Entry) → (x.seat).0 ≡ k → e ∷ rest ≡ made_by k ws (x ∷ past) → (e.seat).0 ≡ k
last_own k [] x past e rest own same = ap (λ (y : Entry). (y.seat).0) (heads same).0 ∙ own
last_own k (w ∷ ws) x past e rest own same = last_own k ws (by_seat k w) (x ∷ past) e rest refl same

made_longer : (k : ℕ) (ws : List What) (past : List Entry) → length past ≤ length (made_by k ws past)
made_longer k [] past = omega arith
made_longer k (w ∷ ws) past = (let more = made_longer k ws (by_seat k w ∷ past) in omega (arith, more))

made_below : (n k : ℕ) (ws : List What) (past : List Entry) → AllByRecursion (IsBelow n) (made_by k ws past) → AllByRecursion (IsBelow n) past
made_below n k [] past below = below
made_below n k (w ∷ ws) past below = (made_below n k ws (by_seat k w ∷ past) below).1

module _ (config : Config) where
  abbrev Goes : ℕ → List Entry → Type 0
  Goes k past = GoesInTurns config k [] past

  -- ---- without an entry of another seat
  without_by : (k n : ℕ) (e : Entry) (past : List Entry) → (e.seat).0 ≢ k → IsAfter config k [] n (e ∷ past) → Goes k past
  without_by k zero e past other none = absurd (never_nil e past none)
  without_by k (suc n) e past other after = by after.last (λ before. without_by k n e past other before)
    where
      made : (ws : List What) → e ∷ past ≡ made_by k ws after.earlier → (IsAfter config k [] n (e ∷ past) → Goes k past) → Goes k past
      made [] same rest = rest (subst (IsAfter config k [] n) (sym same) after.before)
      made (w ∷ ws) same rest = absurd (other (last_own k ws (by_seat k w) after.earlier e past refl same))

      by : IsOthersEntry k after.earlier (e ∷ past) ⊎ IsOwnTurn config k after.earlier (e ∷ past) → (IsAfter config k [] n (e ∷ past) → Goes k past) → Goes k past
      by (inl one) rest = record { count = n; after = subst (IsAfter config k [] n) (sym (heads one.is).1) after.before }
      by (inr turn) rest = made turn.made turn.own rest

  without_made : (k j : ℕ) (ws : List What) (past : List Entry) → j ≢ k → Goes k (made_by j ws past) → Goes k past
  without_made k j [] past other goes = goes
  without_made k j (w ∷ ws) past other goes =
      let rest = without_made k j ws (by_seat j w ∷ past) other goes in
      without_by k rest.count (by_seat j w) past other rest.after

  -- ---- the turn in which the last entry was made
  record EndsATurn (k : ℕ) (past : List Entry) : Type 0 where
    earlier : List Entry
    before : Goes k earlier
    turn : IsOwnTurn config k earlier past
    shorter : length earlier < length past

  last_turn : (k n : ℕ) (e : Entry) (past : List Entry) → (e.seat).0 ≡ k → IsAfter config k [] n (e ∷ past) → EndsATurn k (e ∷ past)
  last_turn k zero e past own none = absurd (never_nil e past none)
  last_turn k (suc n) e past own after = by after.last (λ before. last_turn k n e past own before)
    where
      longer : (w : What) (ws : List What) → e ∷ past ≡ made_by k (w ∷ ws) after.earlier → length after.earlier < length (e ∷ past)
      longer w ws same = (let more = made_longer k ws (by_seat k w ∷ after.earlier) in let count = ap length same in omega (arith, more, count))

      made : (turn : IsOwnTurn config k after.earlier (e ∷ past)) (ws : List What) → e ∷ past ≡ made_by k ws after.earlier → (IsAfter config k [] n (e ∷ past) → EndsATurn k (e ∷ past)) → EndsATurn k (e ∷ past)
      made turn [] same rest = rest (subst (IsAfter config k [] n) (sym same) after.before)
      made turn (w ∷ ws) same rest = record { earlier = after.earlier; before = record { count = n; after = after.before }; turn = turn; shorter = longer w ws same }

      by : IsOthersEntry k after.earlier (e ∷ past) ⊎ IsOwnTurn config k after.earlier (e ∷ past) → (IsAfter config k [] n (e ∷ past) → EndsATurn k (e ∷ past)) → EndsATurn k (e ∷ past)
      by (inl one) rest = absurd (one.other (ap (λ (y : Entry). (y.seat).0) (sym (heads one.is).0) ∙ own))
      by (inr turn) rest = made turn turn.made turn.own rest

  one_more : (k : ℕ) (earlier past : List Entry) → IsOwnTurn config k earlier past → EachInTurn config earlier → EachInTurn config past
  one_more k earlier past turn rest = record {
    turns = suc rest.turns;
    after = record { earlier = earlier; before = rest.after; turn = record { seat = k; request = turn.request; due = turn.due; stepped = turn.stepped } };
  }

  -- ---- all seats
  others_before : (j : ℕ) (earlier past : List Entry) → IsOwnTurn config j earlier past → Goes j earlier → (k : ℕ) → Goes k past → Goes k earlier
  others_before j earlier past turn mine k goes = by (nat_eq j k) refl
    where
      by : (b : Bool) → nat_eq j k ≡ b → Goes k earlier
      by true is = subst (λ (i : ℕ). Goes i earlier) (eqb-true j k is) mine
      by false is = without_made k j turn.made earlier (eqb-false j k is) (subst (Goes k) turn.own goes)

  turns_within : (n bound : ℕ) (past : List Entry) → length past ≤ bound → AllByRecursion (IsBelow n) past → ((k : ℕ) → k < n → Goes k past) → EachInTurn config past
  turns_within n bound [] most below all = record { turns = 0; after = refl }
  turns_within n zero (e ∷ past) most below all = absurd (omega (arith, most))
  turns_within n (suc bound) (e ∷ past) most below all =
      let mine = all (e.seat).0 below.0 in
      let last = last_turn (e.seat).0 mine.count e past refl mine.after in
      let shorter = last.shorter in
      one_more (e.seat).0 last.earlier (e ∷ past) last.turn
      (turns_within n bound last.earlier (omega (arith, most, shorter)) (made_below n (e.seat).0 last.turn.made last.earlier (subst (AllByRecursion (IsBelow n)) last.turn.own below))
      (λ k under. others_before (e.seat).0 last.earlier (e ∷ past) last.turn last.before k (all k under)))

  pub whole_in_turns : (n : ℕ) (past : List Entry) → AllByRecursion (IsBelow n) past → ((k : ℕ) → k < n → Goes k past) → EachInTurn config past
  whole_in_turns n past below all = turns_within n (length past) past (omega arith) below all
