-- While the slots of a process are passed: what is filled so far, and the shares so far.
use Rattle.std.proofs.Common.{◌≡◌, ℕ, ◌+◌, ◌^◌, ◌<◌, ◌≤◌, Bool, true, false, cond, ◌&&◌, List, Option, Some, None, count_by, get_or, length, length-set, length-take-le, nat_eq, replicate, set, slice_get, take, take_all, refl, sym, ap, ◌∙◌, subst, arith}
use Rattle.std.proofs.lemmas.Bool.{eqb-false, eqb-true}
use Rattle.std.proofs.lemmas.List.{get_or-replicate, get_or-set_other, get_or-set_same, length-replicate}
use Rattle.std.proofs.lemmas.List.Sums.{count_by-le-length, get_or-le-sum_by, sum_by_more}
use Rattle.std.proofs.lemmas.Option.{none-some, same_Some, slice_get-get_or}
use Rattle.vm_types.specs.declared.limits.TheConstants.{MOST_EXTENT}
use Rattle.vm_types.specs.Configuration.{IsWellFormed}
use Rattle.vm_types.specs.Ring.{Held, filled, is_filled_slot}
use Rattle.vm_types.specs.declared.config.Config.{Config}
use Rattle.vm_types.specs.declared.config.ProcSpec.{ProcSpec}
use Rattle.vm_journal.specs.declared.entry.Entry.{Entry}
use Rattle.pager_model.specs.Around.{past_view}
use Rattle.pager_model.specs.Lookups.{entries_at, entry_of, has_vpn, is_entry, shares, slot_of}
use Rattle.pager_model.specs.OfConfig.{IsOfConfig}
use Rattle.pager_model.specs.Pager.{Pager, Valid}
use Rattle.pager_model.specs.Report.{pins_on}
use Rattle.pager_model.specs.Run.{IsRun, pager_after}
use Rattle.pager_rules.specs.Kept.{IsForItsPage, IsKept}
use Rattle.pager_rules.proofs.Basics.{count_from_no_find, each_weaker, nat_eq_refl}
use Rattle.pager_laws.proofs.OfConfigKept.{run_right}
use Rattle.pager_laws.proofs.RunsAreSound.{run_kept}
use Rattle.pager_laws.proofs.EntryPages.{mapped_right}
use Rattle.pager_laws.proofs.Pins.{few_pins}
use Rattle.pager_laws.proofs.ValidEntries.{valid_at_page}
use Rattle.state_fits.proofs.FewShares.{few_shares}
use Rattle.vm_state.specs.ProcessReadings.{slot_by, slot_in, slot_with}
use Rattle.state_pages.specs.declared.found.Slot.{Slot}
use Rattle.pfn_report.specs.Counts.{AreFrameCounts, is_named, is_pinned_for, is_slot_for, passed, pins_below, pins_passed, shares_below}
use Rattle.pfn_report.proofs.SlotPins.{all_pinned, and_false, and_true, fewer_pinned, more_pinned, own_pins}
use Rattle.pfn_report.proofs.SlotShares.{all_below, fewer_below, more_below, slots_share}

abbrev one : Bool → ℕ
one b = cond b 1 0

-- ---- a slot that was read
pub record IsSlotOf (valid : List Valid) (p : ℕ) (x : Slot) (o : Option Held) : Type 0 where
  pub held : Held
  pub fills : o ≡ Some held
  pub entry : Valid
  pub found : entry_of valid p held.vpn ≡ Some entry
  pub frame : (x.frame).0 ≡ entry.frame
  pub pinned : x.pinned ≡ held.pinned

slot_there : (valid : List Valid) (p : ℕ) (x : Slot) (o : Option Held) → Some x ≡ slot_with valid p o → IsSlotOf valid p x o
slot_there valid p x None is = absurd (none-some x (sym is))
slot_there valid p x (Some held) is = by (entry_of valid p held.vpn) refl is
  where
    by : (e : Option Valid) → entry_of valid p held.vpn ≡ e → Some x ≡ slot_by held e → IsSlotOf valid p x (Some held)
    by None at is = absurd (none-some x (sym is))
    by (Some e) at is = record { held = held; fills = refl; entry = e; found = at; frame = ap (λ (y : Slot). (y.frame).0) (same_Some x _ is); pinned = ap (λ (y : Slot). y.pinned) (same_Some x _ is) }

slot_missing : (valid : List Valid) (p : ℕ) (held : Held) → None ≡ slot_with valid p (Some held) → entry_of valid p held.vpn ≡ None
slot_missing valid p held is = by (entry_of valid p held.vpn) is
  where
    by : (e : Option Valid) → None ≡ slot_by held e → e ≡ None
    by None is = refl
    by (Some e) is = absurd (none-some _ is)

-- ---- counts
pub counts_as : (n : ℕ) (before after : ℕ → ℕ) (counts : List ℕ) → AreFrameCounts n before counts → ((k : ℕ) → after k ≡ before k) → AreFrameCounts n after counts
counts_as n before after counts are same = record { size = are.size; each = λ k below. are.each k below ∙ sym (same k) }

-- no count yet
pub counts_none : (n : ℕ) → AreFrameCounts n (λ f. 0) (replicate n 0)
counts_none n = record { size = length-replicate n 0; each = λ f below. get_or-replicate n f 0 0 below }

-- one count more
pub counts_more : (n f : ℕ) (before after : ℕ → ℕ) (counts : List ℕ) → AreFrameCounts n before counts → f < n → ((k : ℕ) → after k ≡ before k + one (nat_eq f k)) → AreFrameCounts n after (set counts f (get_or counts f 0 + 1))
counts_more n f before after counts are within more =
    record { size = length-set counts f (get_or counts f 0 + 1) ∙ are.size; each = λ k below. go k below (nat_eq f k) refl }
  where
    inside : f < length counts
    inside = omega (arith, within, are.size)

    go : (k : ℕ) → k < n → (b : Bool) → nat_eq f k ≡ b → get_or (set counts f (get_or counts f 0 + 1)) k 0 ≡ after k
    go k below true is =
        let step : after f ≡ before f + 1 = more f ∙ ap (λ (b : Bool). before f + one b) (nat_eq_refl f) in
        subst (λ (j : ℕ). get_or (set counts f (get_or counts f 0 + 1)) j 0 ≡ after j) (eqb-true f k is)
        (get_or-set_same counts f (get_or counts f 0 + 1) 0 inside ∙ omega (arith, are.each f within, step))
    go k below false is =
        let step : after k ≡ before k + 0 = more k ∙ ap (λ (b : Bool). before k + one b) is in
        get_or-set_other counts f k (get_or counts f 0 + 1) 0 (λ same. eqb-false f k is (sym same)) ∙ omega (arith, are.each k below, step)

-- one count more, or none
pub counts_plus : (n f : ℕ) (more : Bool) (before after : ℕ → ℕ) (counts : List ℕ) → AreFrameCounts n before counts → f < n → ((k : ℕ) → after k ≡ before k + one (nat_eq f k && more)) → AreFrameCounts n after (set counts f (get_or counts f 0 + one more))
counts_plus n f true before after counts are within step = counts_more n f before after counts are within (λ k. step k ∙ ap (λ (b : Bool). before k + one b) (and_true (nat_eq f k)))
counts_plus n f false before after counts are within step =
    record {
      size = length-set counts f (get_or counts f 0 + 0) ∙ are.size;
      each = λ k below. read k ∙ (are.each k below ∙ sym (let none = step k ∙ ap (λ (b : Bool). before k + one b) (and_false (nat_eq f k)) in omega (arith, none)));
    }
  where
    read : (k : ℕ) → get_or (set counts f (get_or counts f 0 + 0)) k 0 ≡ get_or counts k 0
    read k = go (nat_eq f k) refl
      where
        go : (b : Bool) → nat_eq f k ≡ b → get_or (set counts f (get_or counts f 0 + 0)) k 0 ≡ get_or counts k 0
        go true is = subst (λ (j : ℕ). get_or (set counts f (get_or counts f 0 + 0)) j 0 ≡ get_or counts j 0) (eqb-true f k is) (get_or-set_same counts f (get_or counts f 0 + 0) 0 (omega (arith, within, are.size)) ∙ omega arith)
        go false is = get_or-set_other counts f k (get_or counts f 0 + 0) 0 (λ same. eqb-false f k is (sym same))

-- ---- a run's process
module _ (config : Config) (past : List Entry) (formed : IsWellFormed config) (run : IsRun config past) where
  abbrev a : Pager
  a = pager_after config past

  kept : IsKept config (past_view past) a
  kept = run_kept config past formed run

  right : IsOfConfig config a
  right = run_right config past formed run

  -- all shares are those of the processes
  pub all_counted : (f : ℕ) → shares_below a.valid (length config.procs) f ≡ shares a.valid f
  all_counted f =
      all_below a.valid (length config.procs) f
      (each_weaker (IsForItsPage config a.map a.page) (λ (e : Valid). e.proc < length config.procs) (λ e its. (mapped_right config a e.proc e.vpn its.0 right its.1).3.process) a.valid kept.valid)

  -- and all pins
  pub all_pins_counted : (f : ℕ) → pins_below a (length config.procs) f ≡ pins_on a f
  all_pins_counted f =
      all_pinned a (length config.procs) f
      (each_weaker (IsForItsPage config a.map a.page) (λ (e : Valid). e.proc < length config.procs) (λ e its. (mapped_right config a e.proc e.vpn its.0 right its.1).3.process) a.valid kept.valid)

  module _ (p : ℕ) where
    abbrev slots : List (Option Held)
    slots = (a.ring p).slots

    pub few_passed : (n f : ℕ) → n ≤ length slots → passed a p n f ≤ 2 ^ 26 + n
    few_passed n f within =
        omega (
          arith,
          fewer_below a.valid p f,
          few_shares config (past_view past) a f formed kept right,
          count_by-le-length (is_slot_for a.valid p f) (take n slots),
          length-take-le n slots within,
        )

    pub few_pins_passed : (n f : ℕ) → n ≤ length slots → pins_passed a p n f ≤ 2 ^ 26 + n
    few_pins_passed n f within =
        omega (
          arith,
          fewer_pinned a p f,
          few_pins a f,
          few_shares config (past_view past) a f formed kept right,
          count_by-le-length (is_pinned_for a.valid p f) (take n slots),
          length-take-le n slots within,
        )

    reading : (n : ℕ) → n < length slots → slot_in a p n ≡ slot_with a.valid p (get_or slots n None)
    reading n within = ap (λ (o : Option (Option Held)). slot_with a.valid p (slot_of o)) (slice_get-get_or slots n None within)

    -- one slot more
    module _ (n : ℕ) (within : n < length slots) where
      fills_more : (o : Option Held) → get_or slots n None ≡ o → filled (take (n + 1) slots) ≡ filled (take n slots) + one (is_filled_slot o)
      fills_more o is = sum_by_more (λ (s : Option Held). one (is_filled_slot s)) slots n None within ∙ ap (λ (s : Option Held). filled (take n slots) + one (is_filled_slot s)) is

      shares_more : (f : ℕ) (o : Option Held) → get_or slots n None ≡ o → passed a p (n + 1) f ≡ passed a p n f + one (is_slot_for a.valid p f o)
      shares_more f o is =
          let step = sum_by_more (λ (s : Option Held). one (is_slot_for a.valid p f s)) slots n None within in
          let here : one (is_slot_for a.valid p f (get_or slots n None)) ≡ one (is_slot_for a.valid p f o) = ap (λ (s : Option Held). one (is_slot_for a.valid p f s)) is in
          omega (arith, step, here)

      pins_more : (f : ℕ) (o : Option Held) → get_or slots n None ≡ o → pins_passed a p (n + 1) f ≡ pins_passed a p n f + one (is_pinned_for a.valid p f o)
      pins_more f o is =
          let step = sum_by_more (λ (s : Option Held). one (is_pinned_for a.valid p f s)) slots n None within in
          let here : one (is_pinned_for a.valid p f (get_or slots n None)) ≡ one (is_pinned_for a.valid p f o) = ap (λ (s : Option Held). one (is_pinned_for a.valid p f s)) is in
          omega (arith, step, here)

      module _ (x : Slot) (is : Some x ≡ slot_in a p n) where
        there : IsSlotOf a.valid p x (get_or slots n None)
        there = slot_there a.valid p x (get_or slots n None) (is ∙ reading n within)

        pub slot_within : (x.frame).0 < config.frames
        slot_within = subst (λ (f : ℕ). f < config.frames) (sym there.frame) (valid_at_page config past a p (there.held).vpn there.entry kept there.found).within

        pub fills_one : filled (take (n + 1) slots) ≡ filled (take n slots) + 1
        fills_one = fills_more (Some there.held) there.fills

        pub shares_one : (f : ℕ) → passed a p (n + 1) f ≡ passed a p n f + one (nat_eq (x.frame).0 f)
        shares_one f =
            shares_more f (Some there.held) there.fills
            ∙ (ap (λ (e : Option Valid). passed a p n f + one (is_named f e)) there.found ∙ ap (λ (g : ℕ). passed a p n f + one (nat_eq g f)) (sym there.frame))

        pub pins_one : (f : ℕ) → pins_passed a p (n + 1) f ≡ pins_passed a p n f + one (nat_eq (x.frame).0 f && x.pinned)
        pins_one f =
            pins_more f (Some there.held) there.fills
            ∙ (ap (λ (e : Option Valid). pins_passed a p n f + one (is_named f e && (there.held).pinned)) there.found
            ∙ (ap (λ (g : ℕ). pins_passed a p n f + one (nat_eq g f && (there.held).pinned)) (sym there.frame)
            ∙ ap (λ (b : Bool). pins_passed a p n f + one (nat_eq (x.frame).0 f && b)) (sym there.pinned)))

      module _ (is : None ≡ slot_in a p n) where
        empty : get_or slots n None ≡ None
        empty = go (get_or slots n None) refl
          where
            go : (o : Option Held) → get_or slots n None ≡ o → o ≡ None
            go None at = refl
            go (Some held) at =
                let missing : entry_of a.valid p held.vpn ≡ None = slot_missing a.valid p held (is ∙ (reading n within ∙ ap (slot_with a.valid p) at)) in
                let none : entries_at a.valid p held.vpn ≡ 0 = count_from_no_find (is_entry p held.vpn) a.valid missing in
                let some = get_or-le-sum_by (λ (s : Option Held). one (has_vpn held.vpn s)) slots n None within in
                let here : one (has_vpn held.vpn (get_or slots n None)) ≡ 1 = ap (λ (s : Option Held). one (has_vpn held.vpn s)) at ∙ ap one (nat_eq_refl held.vpn) in
                absurd (omega (arith, none, some, here, (kept.entries p held.vpn).slots))

        pub fills_none : filled (take (n + 1) slots) ≡ filled (take n slots)
        fills_none = omega (arith, fills_more None empty)

        pub shares_none : (f : ℕ) → passed a p (n + 1) f ≡ passed a p n f
        shares_none f = omega (arith, shares_more f None empty)

        pub pins_none : (f : ℕ) → pins_passed a p (n + 1) f ≡ pins_passed a p n f
        pins_none f = omega (arith, pins_more f None empty)

    -- none passed yet, and all
    pub no_pins_passed : (f : ℕ) → pins_passed a p 0 f ≡ pins_below a p f
    no_pins_passed f = omega arith

    pub all_pins_passed : (f : ℕ) → pins_passed a p (length slots) f ≡ pins_below a (p + 1) f
    all_pins_passed f =
        let whole = ap (count_by (is_pinned_for a.valid p f)) (take_all (length slots) slots (omega arith)) in
        let owned = own_pins a p f (λ v. (kept.entries p v).once) (λ v. let once = (kept.entries p v).once in let as_many = (kept.entries p v).slots in omega (arith, once, as_many)) in
        omega (arith, whole, owned, more_pinned a p f)

    pub none_passed : (f : ℕ) → passed a p 0 f ≡ shares_below a.valid p f
    none_passed f = omega arith

    pub all_passed : (f : ℕ) → passed a p (length slots) f ≡ shares_below a.valid (p + 1) f
    all_passed f =
        let whole = ap (count_by (is_slot_for a.valid p f)) (take_all (length slots) slots (omega arith)) in
        let shared = slots_share a.valid p f slots (λ v. (kept.entries p v).slots) (λ v. (kept.entries p v).once) in
        omega (arith, whole, shared, more_below a.valid p f)

    pub all_filled : filled (take (length slots) slots) ≡ filled slots
    all_filled = ap filled (take_all (length slots) slots (omega arith))

    -- as many slots as the process's extent
    pub extent_is : (specs : List ProcSpec) (d : ProcSpec) → specs ≡ config.procs → p < length config.procs → (get_or specs p d).extent ≡ length slots
    extent_is specs d are there =
        let at : slice_get config.procs p ≡ Some (get_or specs p d) = slice_get-get_or config.procs p d there ∙ ap (λ (xs : List ProcSpec). Some (get_or xs p d)) (sym are) in
        sym ((kept.processes p).bounds (get_or specs p d) at).slots

    pub few_slots : p < length config.procs → length slots ≤ MOST_EXTENT
    few_slots there =
        let none : ProcSpec = record { limit = 0; quota = 0; extent = 0; locks = 0 } in
        omega (arith, extent_is config.procs none refl there, (formed.procs p none there).limited.most)
