-- What the rundown does is the table's first row that holds.
use Rattle.std.proofs.Common.{◌≡◌, ℕ, zero, suc, ◌+◌, ◌-◌, ◌&&◌, Bool, true, false, cond, not, List, [], ◌∷◌, Option, Some, None, length, nat_le, nat_lt, refl, sym, ap, subst}
use Rattle.std.specs.List.{range_with_len}
use Rattle.std.proofs.lemmas.Bool.{and_parts}
use Rattle.std.proofs.lemmas.Option.{none-some, same_Some}
use Rattle.vm_types.specs.declared.config.Config.{Config}
use Rattle.vm_journal.specs.declared.entry.Entry.{Entry}
use Rattle.vm_journal.specs.declared.entry.EvictWhy.TheVariants as evict
use Rattle.vm_journal.specs.declared.entry.What.{What}
use Rattle.pager_model.specs.Pager.{Pager}
use Rattle.pager_policy.specs.Cleaning.{Cleaning, evicting, rounds}
use Rattle.pager_policy.specs.Given.{Seen, eviction, seen_at, slots_of}
use Rattle.pager_policy.specs.Moves.{Move, carries, cleaning, control, goes, makes, rests}
use Rattle.pager_policy.specs.Rundown.{Place, at_slot, clean_move, cleaning_move, is_shared_at, is_shared_listed, later_move, next_round, place_in, place_move, round_move, rounds_move, shared_from, shared_of_processes, shared_place, writer_of, written_for_need}
use Rattle.pager_policy.specs.Swap.{is_shared_seen}
use Rattle.policy_tables.specs.Rows.{first_case, if_there, one_fewer, only_if, otherwise, that_is, when}
use Rattle.policy_tables.specs.RundownCases.{rounds_cases, rundown_cases}
use Rattle.policy_tables.specs.Words.{SharedPage, cluster, may_go, shared_at, shared_behind, shared_seen}
use Rattle.policy_tables.proofs.Clusters.{made_for_need}
use Rattle.policy_tables.proofs.Found.{found_passes, passing}

-- a place that was found has a page
abbrev Shows : Pager → Option Place → Type 0
Shows a o = (at : Place) → o ≡ Some at → (s : Seen) × (seen_at a at.process at.slot ≡ Some s)

module _ (a : Pager) where
  in_process : (p n : ℕ) (o : Option ℕ) (later : Option Place) → shared_from a p n ≡ o → Shows a later → Shows a (place_in p o later)
  in_process p n None later found shows at is = shows at is
  in_process p n (Some m) later found shows at is =
      let there = passing is_shared_seen (seen_at a p m) (and_parts (nat_le n m) (is_shared_at a p m) (found_passes (λ (k : ℕ). nat_le n k && is_shared_at a p k) (slots_of a p) m found)).1 in
      subst (λ (place : Place). (s : Seen) × (seen_at a place.process place.slot ≡ Some s)) (same_Some (record { process = p; slot = m }) at is) there

  in_processes : (processes : List ℕ) → Shows a (shared_of_processes a processes)
  in_processes [] at is = absurd (none-some at is)
  in_processes (p ∷ processes) at is = in_process p 0 (shared_from a p 0) (shared_of_processes a processes) refl (in_processes processes) at is

  shown_place : (config : Config) (p n : ℕ) → Shows a (shared_place config a p n)
  shown_place config p n = in_process p n (shared_from a p n) (shared_of_processes a (range_with_len (p + 1) (length config.procs - (p + 1)))) refl (in_processes (range_with_len (p + 1) (length config.procs - (p + 1))))

module _ (config : Config) (past : List Entry) (a : Pager) where
  -- the first of these rows says this
  abbrev Says : List (Option Move) → Move → Type 0
  Says rows m = first_case rows ≡ Some m

  -- ---- the rounds
  abbrev round_with : List What → ℕ → ℕ → Move
  round_with ws following left = carries (writer_of config) ws (λ (all first : Bool). goes (control (cleaning (rounds following (left - length ws)))))

  round_same : (following left : ℕ) → round_with (cluster config a) following left ≡ round_move config a following left
  round_same following left = ap (λ (ws : List What). round_with ws following left) (sym (made_for_need config a))

  next_rounds : (following : ℕ) → Says (if_there (one_fewer following) (λ (more : ℕ). round_with (cluster config a) more (length a.modified)) ∷ otherwise rests ∷ []) (next_round config a following)
  next_rounds zero = refl
  next_rounds (suc following) = ap Some (round_same following (length a.modified))

  in_round : (some : Bool) (following left : ℕ)
      → Says (when some (round_with (cluster config a) following left) ∷ if_there (one_fewer following) (λ (more : ℕ). round_with (cluster config a) more (length a.modified)) ∷ otherwise rests ∷ [])
      (cond some (round_move config a following left) (next_round config a following))
  in_round true following left = ap Some (round_same following left)
  in_round false following left = next_rounds following

  listed : (some : Bool) (following left : ℕ)
      → Says (when (not some) rests ∷ when (nat_lt 0 left) (round_with (cluster config a) following left) ∷ if_there (one_fewer following) (λ (more : ℕ). round_with (cluster config a) more (length a.modified)) ∷ otherwise rests ∷ [])
      (cond some (cond (nat_lt 0 left) (round_move config a following left) (next_round config a following)) rests)
  listed true following left = in_round (nat_lt 0 left) following left
  listed false following left = refl

  in_rounds : (following left : ℕ) → Says (rounds_cases config past a following left) (rounds_move config a following left)
  in_rounds following left = listed (is_shared_listed a) following left

  -- ---- at a slot
  abbrev evicts : SharedPage → Move
  evicts g = makes (writer_of config) (eviction past a (g.place).process (g.seen).vpn (g.seen).frame evict.Rundown ∷ []) (at_slot (g.place).process ((g.place).slot + 1) false)

  abbrev writes_with : List What → Place → Move
  writes_with ws at = carries (writer_of config) ws (λ (all first : Bool). goes (at_slot at.process at.slot all))

  writes_same : (at : Place) → writes_with (cluster config a) at ≡ writes_with (written_for_need config a) at
  writes_same at = ap (λ (ws : List What). writes_with ws at) (sym (made_for_need config a))

  abbrev place_rows : Bool → Option SharedPage → List (Option Move) → List (Option Move)
  place_rows failed o rest =
      if_there (that_is (λ (g : SharedPage). may_go config past a g.seen) o) evicts
      ∷ if_there (only_if (not failed) o) (λ (g : SharedPage). writes_with (cluster config a) g.place)
      ∷ rest

  abbrev evicted : Place → Seen → Move
  evicted at s = evicts (record { place = at; seen = s })

  -- with what is done if its cluster failed
  cleaned : (at : Place) (s : Seen) (rest : List (Option Move)) (later : Move) (may failed : Bool) → (failed ≡ true → Says rest later)
      → Says (if_there (only_if may (Some (record { place = at; seen = s }))) evicts ∷ if_there (only_if (not failed) (Some (record { place = at; seen = s }))) (λ (g : SharedPage). writes_with (cluster config a) g.place) ∷ rest)
      (cond may (evicted at s) (cond failed later (writes_with (written_for_need config a) at)))
  cleaned at s rest later true failed is = refl
  cleaned at s rest later false true is = is refl
  cleaned at s rest later false false is = ap Some (writes_same at)

  at_place : (at : Place) (rest : List (Option Move)) (later : Move) (failed : Bool) → (s : Seen) × (seen_at a at.process at.slot ≡ Some s) → (failed ≡ true → Says rest later)
      → Says (place_rows failed (shared_at a (Some at)) rest) (clean_move config past a at failed later (seen_at a at.process at.slot))
  at_place at rest later failed seen is =
      subst (λ (o : Option Seen). Says (place_rows failed (shared_seen at o) rest) (clean_move config past a at failed later o)) (sym seen.1) (cleaned at seen.0 rest later (may_go config past a seen.0) failed is)

  later_rows : (o : Option Place) → Shows a o → Says (place_rows false (shared_at a o) (rounds_cases config past a 2 0)) (place_move config past a false (λ (next : Place). rests) o)
  later_rows None shows = in_rounds 2 0
  later_rows (Some at) shows = at_place at (rounds_cases config past a 2 0) rests false (shows at refl) (λ is. absurd (cc))

  behind_rows : (at : Place) (s : Seen)
      → Says (place_rows false (shared_behind config a (shared_seen at (Some s))) (rounds_cases config past a 2 0)) (later_move config past a at)
  behind_rows at s = later_rows (shared_place config a at.process (at.slot + 1)) (shown_place a config at.process (at.slot + 1))

  first_rows : (failed : Bool) (o : Option Place) → Shows a o
      → Says (place_rows failed (shared_at a o) (place_rows false (shared_behind config a (shared_at a o)) (rounds_cases config past a 2 0))) (place_move config past a failed (later_move config past a) o)
  first_rows true None shows = in_rounds 2 0
  first_rows false None shows = in_rounds 2 0
  first_rows failed (Some at) shows =
      let seen = shows at refl in
      subst (λ (o : Option Seen). Says (place_rows failed (shared_seen at o) (place_rows false (shared_behind config a (shared_seen at o)) (rounds_cases config past a 2 0))) (clean_move config past a at failed (later_move config past a at) o)) (sym seen.1)
      (cleaned at seen.0 (place_rows false (shared_behind config a (shared_seen at (Some seen.0))) (rounds_cases config past a 2 0)) (later_move config past a at) (may_go config past a seen.0) failed (λ is. behind_rows at seen.0))

  pub goes_by_cases : (at : Cleaning) → Says (rundown_cases config past a at) (cleaning_move config past a at)
  unfolding rundown_cases
  goes_by_cases (evicting p n failed) = first_rows failed (shared_place config a p n) (shown_place a config p n)
  goes_by_cases (rounds following left) = in_rounds following left
