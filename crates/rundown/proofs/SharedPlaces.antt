-- The slots that have a shared page, one after another.
use Rattle.std.proofs.Common.{◌≡◌, ℕ, suc, ◌+◌, ◌-◌, ◌<◌, ◌≤◌, ◌&&◌, Bool, true, List, Option, Some, None, find, length, nat_le, sym, ap, ◌∙◌, arith}
use Rattle.std.specs.List.{range_with_len}
use Rattle.std.proofs.lemmas.Bool.{and_parts}
use Rattle.std.proofs.lemmas.Option.{slice_get_past}
use Rattle.vm_types.specs.declared.limits.TheConstants.{MOST_EXTENT}
use Rattle.vm_types.specs.Configuration.{IsWellFormed}
use Rattle.vm_types.specs.declared.config.Config.{Config}
use Rattle.vm_types.specs.declared.names.Proc.{Proc}
use Rattle.vm_journal.specs.declared.entry.Entry.{Entry}
use Rattle.pager_policy.specs.Given.{slots_of}
use Rattle.pager_model.specs.Pager.{Pager}
use Rattle.pager_model.specs.Run.{IsRun, pager_after}
use Rattle.pager_policy.specs.Rundown.{Place as PlaceIs, is_shared_at, place_in, shared_from, shared_of_processes, shared_place}
use Rattle.pager_rules.proofs.Lists.{found_passes}
use Rattle.pager_laws.proofs.RunsAreSound.{run_kept}
use Rattle.vm_state.specs.History.{History, pager}
use Rattle.rundown.specs.Places.{IsThere}

-- whether a slot comes in question
abbrev pub is_in_question : Pager → ℕ → ℕ → ℕ → Bool
is_in_question a p n m = nat_le n m && is_shared_at a p m

-- a slot that was found has a shared page
pub found_shared : (a : Pager) (p n m : ℕ) → Some m ≡ shared_from a p n → is_shared_at a p m ≡ true
found_shared a p n m is = (and_parts (nat_le n m) (is_shared_at a p m) (found_passes (is_in_question a p n) (slots_of a p) m (sym is))).1

pub place_there : (s : History) (p : Proc) (n m : ℕ) → p.0 < length s.config.procs → m < MOST_EXTENT → Some m ≡ shared_from (pager s) p.0 n → IsThere s (record { process = p; slot = m })
place_there s p n m within small is = record { within = within; small = small; shared = found_shared (pager s) p.0 n m is }

-- a place in plain numbers
abbrev pub place_at : ℕ → ℕ → PlaceIs
place_at p m = record { process = p; slot = m }

-- ---- the processes from a number on
abbrev pub of_those_from : Pager → ℕ → ℕ → Option PlaceIs
of_those_from a count q = shared_of_processes a (range_with_len q (count - q))

module _ (a : Pager) (count q : ℕ) where
  one_less : q < count → of_those_from a count q ≡ place_in q (shared_from a q 0) (of_those_from a count (q + 1))
  one_less less = let more : count - q ≡ suc (count - (q + 1)) = omega (arith, less) in ap (λ (k : ℕ). shared_of_processes a (range_with_len q k)) more

  pub found_of : (m : ℕ) → q < count → Some m ≡ shared_from a q 0 → of_those_from a count q ≡ Some (place_at q m)
  found_of m less is = one_less less ∙ ap (λ (o : Option ℕ). place_in q o (of_those_from a count (q + 1))) (sym is)

  pub none_of : q < count → None ≡ shared_from a q 0 → of_those_from a count q ≡ of_those_from a count (q + 1)
  none_of less is = one_less less ∙ ap (λ (o : Option ℕ). place_in q o (of_those_from a count (q + 1))) (sym is)

  pub none_behind : count ≤ q → of_those_from a count q ≡ None
  none_behind least = let none : count - q ≡ 0 = omega (arith, least) in ap (λ (k : ℕ). shared_of_processes a (range_with_len q k)) none

-- ---- from a slot of a process on
module _ (config : Config) (a : Pager) (p n : ℕ) where
  pub place_found : (m : ℕ) → Some m ≡ shared_from a p n → Some (place_at p m) ≡ shared_place config a p n
  place_found m is = ap (λ (o : Option ℕ). place_in p o (of_those_from a (length config.procs) (p + 1))) is

  pub later_found : (o : Option PlaceIs) → None ≡ shared_from a p n → o ≡ of_those_from a (length config.procs) (p + 1) → o ≡ shared_place config a p n
  later_found o none is = is ∙ ap (λ (x : Option ℕ). place_in p x (of_those_from a (length config.procs) (p + 1))) none

-- a process that isn't there has no slots
pub none_absent : (config : Config) (past : List Entry) (p n : ℕ) → IsWellFormed config → IsRun config past → length config.procs ≤ p → None ≡ shared_place config (pager_after config past) p n
none_absent config past p n formed run least = later_found config now p n None (sym no_slots) (sym (none_behind now (length config.procs) (p + 1) (omega (arith, least))))
  where
    now : Pager
    now = pager_after config past

    none : length (now.ring p).slots ≡ 0
    none = (((run_kept config past formed run).processes p).none (slice_get_past config.procs p least)).1

    no_slots : shared_from now p n ≡ None
    no_slots = ap (λ (k : ℕ). find (is_in_question now p n) (range_with_len 0 k)) none
