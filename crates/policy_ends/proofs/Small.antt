-- Each number of a rank is small, by the limits of the configuration.
use Rattle.std.proofs.Common.{◌≡◌, ◌⊎◌, inl, inr, ℕ, ◌*◌, ◌^◌, ◌<◌, ◌≤◌, Bool, true, false, not, cond, List, [], ◌+◌, ◌∷◌, Option, Some, None, length, count_by, nat_eq, nat_le, slice_get, refl, sym, ap, ◌∙◌, subst, arith}
use Rattle.std.specs.List.{AllByRecursion, sum_by}
use Rattle.std.proofs.Math.Nat.{le_trans}
use Rattle.std.proofs.lemmas.Bool.{and_from, cases_lt, eq-eqb, eqb-true, le-leb, or_left}
use Rattle.std.proofs.lemmas.List.FromFn.{length-range_with_len}
use Rattle.std.proofs.lemmas.List.Sums.{sum_by-cons}
use Rattle.std.proofs.lemmas.Option.{get_or_from_slice_get, slice_get_within}
use Rattle.vm_types.specs.declared.limits.TheConstants.{MOST_EXTENT}
use Rattle.vm_types.specs.Configuration.{IsProcess, IsWellFormed, all_pins}
use Rattle.vm_types.proofs.Versions.{requests_at_most}
use Rattle.vm_types.specs.Ring.{Held, filled, is_filled_slot}
use Rattle.vm_types.specs.declared.names.Page.{Page}
use Rattle.vm_types.specs.declared.names.FrameState.{FrameState}
use Rattle.vm_types.specs.declared.names.FrameState.TheVariants as state
use Rattle.vm_types.specs.declared.names.ProcStatus.{ProcStatus}
use Rattle.vm_types.specs.declared.names.ProcStatus.TheVariants as status
use Rattle.vm_types.specs.declared.config.Config.{Config}
use Rattle.vm_types.specs.declared.config.ProcSpec.{ProcSpec}
use Rattle.vm_types.specs.declared.config.Task.{Task}
use Rattle.vm_journal.specs.declared.entry.Entry.{Entry}
use Rattle.page_lists.proofs.Counts.{length-once}
use Rattle.pager_model.specs.Around.{past_view}
use Rattle.pager_model.specs.Lookups.{has_vpn, is, is_entry, is_pending}
use Rattle.vm_types.specs.Status.{is_coming}
use Rattle.pager_policy.specs.Moves.{Control, Doing, asking, cleaning, freeing, saving}
use Rattle.pager_model.specs.Pager.{Pager, Valid}
use Rattle.pager_policy.specs.Policy.{next_task}
use Rattle.pager_model.specs.Run.{IsRun, pager_after}
use Rattle.pager_model.specs.Sets.{has}
use Rattle.pager_rules.proofs.Basics.{count_cons_no, nat_eq_refl, states_equal}
use Rattle.pager_rules.proofs.Lists.{all_step}
use Rattle.pager_rules.specs.Kept.{IsKept, one_if}
use Rattle.pager_laws.proofs.OpeningKept.{in_range}
use Rattle.pager_laws.proofs.RunsAreSound.{run_kept}
use Rattle.serial_laws.proofs.Counting.{each_is, pairs_same, sum_less, sum_ones}
use Rattle.policy_ends.specs.Rank.{absence, filled_slots, is_met, is_unsaved, left_to_come, lies_in_swap, phase, presence, presence_of_others, process_at_hand, processes_of, rank, swapped_out, unmet, unmet_of}
use Rattle.policy_ends.proofs.Order.{fewer_pass}
use Rattle.policy_ends.proofs.WriteSteps.{count_most}

-- ---- sums and cases
sum_most : {X : Type 0} (f : X → ℕ) (xs : List X) → ((x : X) → f x ≤ MOST_EXTENT) → sum_by f xs ≤ MOST_EXTENT * length xs
sum_most f [] each = omega arith
sum_most f (x ∷ xs) each = let first = each x in omega (arith, first, sum_by-cons f x xs, sum_most f xs each)

one_most : (b : Bool) → one_if b ≤ 1
one_most true = omega arith
one_most false = omega arith

phase_most : (doing : Doing) → phase doing ≤ 4
phase_most asking = omega arith
phase_most (saving true p) = omega arith
phase_most (saving false p) = omega arith
phase_most (freeing true p) = omega arith
phase_most (freeing false p) = omega arith
phase_most (cleaning at) = omega arith

presence_most : (s : ProcStatus) → presence s ≤ 2
presence_most status.Gone = omega arith
presence_most status.Leaving = omega arith
presence_most status.Coming = omega arith
presence_most status.Resident = omega arith

absence_most : (s : ProcStatus) → absence s ≤ 3
absence_most status.Gone = omega arith
absence_most status.Leaving = omega arith
absence_most status.Coming = omega arith
absence_most status.Resident = omega arith

unmet_most : (config : Config) (past : List Entry) (doing : Doing) → unmet config past doing ≤ 1
unmet_most config past asking = by (next_task config past)
  where
    by : (o : Option Task) → unmet_of (pager_after config past) o ≤ 1
    by None = omega arith
    by (Some task) = one_most (not (is_met (pager_after config past) (task.proc).0 task.request))
unmet_most config past (saving begun p) = omega arith
unmet_most config past (freeing begun p) = omega arith
unmet_most config past (cleaning at) = omega arith

module _ (config : Config) (past : List Entry) (formed : IsWellFormed config) (run : IsRun config past) where
  abbrev a : Pager
  a = pager_after config past

  kept : IsKept config (past_view past) a
  kept = run_kept config past formed run

  -- ---- slots
  few_filled : (q : ℕ) → filled (a.ring q).slots ≤ MOST_EXTENT
  few_filled q = by (slice_get config.procs q) refl
    where
      by : (o : Option ProcSpec) → slice_get config.procs q ≡ o → filled (a.ring q).slots ≤ MOST_EXTENT
      by None is = let none = (kept.processes q).none is in omega (arith, none.1, count_most is_filled_slot (a.ring q).slots)
      by (Some spec) is =
          let known : IsProcess config.frames (length config.bad + all_pins config) spec = subst (λ (s : ProcSpec). IsProcess config.frames (length config.bad + all_pins config) s) (get_or_from_slice_get config.procs q spec spec is) (formed.procs q spec (slice_get_within config.procs q spec is)) in
          let slots = ((kept.processes q).bounds spec is).slots in
          let most = known.limited.most in
          omega (arith, slots, most, count_most is_filled_slot (a.ring q).slots)

  processes_length : length (processes_of config) ≡ length config.procs
  processes_length = length-range_with_len 0 (length config.procs)

  filled_most : filled_slots config a ≤ 16384
  filled_most = let most = formed.some_process in omega (arith, most.1, processes_length, sum_most (λ (q : ℕ). filled (a.ring q).slots) (processes_of config) few_filled)

  others_most : (p : ℕ) → presence_of_others config a p ≤ 16384
  others_most p = let most = formed.some_process in
      omega (arith, most.1, processes_length, sum_most (λ (q : ℕ). cond (nat_eq q p) 0 (presence (a.status q))) (processes_of config) (λ q. by (nat_eq q p) (presence_most (a.status q))))
    where
      by : {n : ℕ} (b : Bool) → n ≤ 2 → cond b 0 n ≤ MOST_EXTENT
      by true less = omega arith
      by false less = omega (arith, less)

  -- ---- valid entries: each stands in a slot of its process
  module _ (q : ℕ) where
    abbrev pair : Valid → Option Held → Bool
    pair e None = false
    pair e (Some held) = is_entry q held.vpn e

    in_slot : AllByRecursion (λ (e : Valid). cond {A = ℕ} (nat_eq e.proc q) 1 0 ≤ count_by (pair e) (a.ring q).slots) a.valid
    in_slot =
        all_step (λ (e : Valid). Unit {0}) (λ (e : Valid). cond {A = ℕ} (nat_eq e.proc q) 1 0 ≤ count_by (pair e) (a.ring q).slots) a.valid (λ e counts u. by e counts (nat_eq e.proc q) refl)
        (each_is (λ (e : Valid). Unit {0}) (λ e. tt) a.valid)
      where
        of_slot : (e : Valid) → nat_eq e.proc q ≡ true → (o : Option Held) → has_vpn e.vpn o ≡ true → pair e o ≡ true
        of_slot e own None has = has
        of_slot e own (Some held) has = and_from _ _ own (eq-eqb e.vpn held.vpn (sym (eqb-true held.vpn e.vpn has)))

        by : (e : Valid) → ((t : Valid → Bool) → t e ≡ true → 0 < count_by t a.valid) → (b : Bool) → nat_eq e.proc q ≡ b → cond {A = ℕ} b 1 0 ≤ count_by (pair e) (a.ring q).slots
        by e counts false is = omega arith
        by e counts true is =
            let some = counts (is_entry q e.vpn) (and_from _ _ is (nat_eq_refl e.vpn)) in
            let slots = (kept.entries q e.vpn).slots in
            let more = fewer_pass (has_vpn e.vpn) (pair e) (a.ring q).slots (each_is _ (of_slot e is) (a.ring q).slots) in
            omega (arith, some, slots, more)

    none_pass : (valid : List Valid) → count_by (λ (e : Valid). false) valid ≤ 0
    none_pass [] = omega arith
    none_pass (e ∷ valid) = omega (arith, count_cons_no (λ (x : Valid). false) e valid refl, none_pass valid)

    once_in_slot : (o : Option Held) → count_by (λ (e : Valid). pair e o) a.valid ≤ cond {A = ℕ} (is_filled_slot o) 1 0
    once_in_slot None = none_pass a.valid
    once_in_slot (Some held) = (kept.entries q held.vpn).once

    in_process : count_by (λ (e : Valid). nat_eq e.proc q) a.valid ≤ filled (a.ring q).slots
    in_process =
        let each = sum_less (λ (e : Valid). cond {A = ℕ} (nat_eq e.proc q) 1 0) (λ (e : Valid). count_by (pair e) (a.ring q).slots) a.valid in_slot in
        let turned = pairs_same pair a.valid (a.ring q).slots in
        let few = sum_less (λ (o : Option Held). count_by (λ (e : Valid). pair e o) a.valid) (λ (o : Option Held). cond {A = ℕ} (is_filled_slot o) 1 0) (a.ring q).slots (each_is _ once_in_slot (a.ring q).slots) in
        let counted : count_by (λ (e : Valid). nat_eq e.proc q) a.valid ≡ sum_by (λ (e : Valid). cond {A = ℕ} (nat_eq e.proc q) 1 0) a.valid = refl in
        let slots : filled (a.ring q).slots ≡ sum_by (λ (o : Option Held). cond {A = ℕ} (is_filled_slot o) 1 0) (a.ring q).slots = refl in
        omega (arith, each, turned, few, counted, slots)

  -- and its process is one of the configuration
  its_process : AllByRecursion (λ (e : Valid). 1 ≤ count_by (λ (q : ℕ). nat_eq e.proc q) (processes_of config)) a.valid
  its_process =
      all_step (λ (e : Valid). Unit {0}) (λ (e : Valid). 1 ≤ count_by (λ (q : ℕ). nat_eq e.proc q) (processes_of config)) a.valid (λ e counts u. by e counts (cases_lt e.proc (length config.procs)))
      (each_is (λ (e : Valid). Unit {0}) (λ e. tt) a.valid)
    where
      there : (e : Valid) → e.proc < length config.procs → 1 ≤ count_by (λ (q : ℕ). nat_eq e.proc q) (processes_of config)
      there e below =
          let one = in_range 0 (length config.procs) e.proc (omega arith) (omega (arith, below)) in
          let more = fewer_pass (λ (q : ℕ). nat_eq q e.proc) (λ (q : ℕ). nat_eq e.proc q) (processes_of config) (each_is _ (λ q same. eq-eqb e.proc q (sym (eqb-true q e.proc same))) (processes_of config)) in
          omega (arith, one, more)

      by : (e : Valid) → ((t : Valid → Bool) → t e ≡ true → 0 < count_by t a.valid) → (e.proc < length config.procs) ⊎ (length config.procs ≤ e.proc)
          → 1 ≤ count_by (λ (q : ℕ). nat_eq e.proc q) (processes_of config)
      by e counts (inl below) = there e below
      by e counts (inr outside) = absurd (absent (slice_get config.procs e.proc) refl)
        where
          absent : (o : Option ProcSpec) → slice_get config.procs e.proc ≡ o → ⊥
          absent None is =
              let none = (kept.processes e.proc).none is in
              let some = counts (λ (x : Valid). nat_eq x.proc e.proc) (nat_eq_refl e.proc) in
              omega (arith, none.1, some, in_process e.proc, count_most is_filled_slot (a.ring e.proc).slots)
          absent (Some spec) is = omega (arith, outside, slice_get_within config.procs e.proc spec is)

  valid_few : length a.valid ≤ filled_slots config a
  valid_few =
      let each = sum_less (λ (e : Valid). 1) (λ (e : Valid). count_by (λ (q : ℕ). nat_eq e.proc q) (processes_of config)) a.valid its_process in
      let turned = pairs_same (λ (e : Valid) (q : ℕ). nat_eq e.proc q) a.valid (processes_of config) in
      let few = sum_less (λ (q : ℕ). count_by (λ (e : Valid). nat_eq e.proc q) a.valid) (λ (q : ℕ). filled (a.ring q).slots) (processes_of config) (each_is _ in_process (processes_of config)) in
      omega (arith, each, turned, few, sum_ones a.valid)

  -- ---- the modified list
  outside_bad : (f : ℕ) → config.frames ≤ f → a.state f ≡ state.Bad
  outside_bad f outside = states_equal (a.state f) state.Bad (sym (kept.frames f).bad ∙ or_left (nat_le config.frames f) (has config.bad f) (le-leb config.frames f outside))

  modified_few : length a.modified ≤ config.frames
  modified_few =
      length-once a.modified config.frames
      (λ f outside. (kept.frames f).on_modified ∙ ap (λ (s : FrameState). one_if (is state.Modified s)) (outside_bad f outside))
      (λ f. let once = (kept.frames f).on_modified in let most = one_most (is state.Modified (a.state f)) in omega (arith, once, most))

  -- ---- the pages of a coming process
  come_most : (p : ℕ) → left_to_come a p ≤ config.pagefile
  come_most p = by (is_coming (a.status p)) (let fit = kept.fit in omega (arith, fit, count_most (λ (g : Page). lies_in_swap p (a.lies g)) a.charged))
    where
      by : (b : Bool) → swapped_out a p ≤ config.pagefile → cond b (swapped_out a p) 0 ≤ config.pagefile
      by true less = less
      by false less = omega arith

  pub small_numbers : (c : Control) → AllByRecursion (λ (n : ℕ). n < 2 ^ 23) (rank config past c)
  small_numbers c =
      let p = process_at_hand config past c.doing in
      let tasks = le_trans formed.few_tasks (requests_at_most config.version) in
      let file = formed.pagefile in
      let frames = formed.frames in (
        omega (arith, tasks),
        (
          omega (arith, phase_most c.doing),
          (
            omega (arith, others_most p),
            (
              omega (arith, absence_most (a.status p)),
              (
                omega (arith, come_most p, file.1),
                (
                  omega (arith, one_most (is_pending config (a.references p))),
                  (
                    omega (arith, unmet_most config past c.doing),
                    (
                      omega (arith, filled_most),
                      (omega (arith, filled_most, valid_few, count_most (is_unsaved past a) a.valid), (omega (arith, modified_few, frames.1), tt)),
                    ),
                  ),
                ),
              ),
            ),
          ),
        ),
      )
