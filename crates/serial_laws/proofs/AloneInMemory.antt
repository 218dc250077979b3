-- A process alone in memory finds a free page or a modified one: its working set is smaller than memory.
use Rattle.std.proofs.Common.{◌≡◌, ◌⊎◌, inl, inr, ℕ, zero, suc, ◌+◌, ◌<◌, ◌≤◌, ◌&&◌, Bool, true, false, cond, List, [], ◌*◌, ◌∷◌, Option, Some, None, length, count_by, nat_eq, nat_le, slice_get, slice_index_or, refl, sym, ap, ap₂, ◌∙◌, subst, arith, not}
use Rattle.std.specs.List.{AllByRecursion, range_with_len, sum_by}
use Rattle.std.proofs.lemmas.Bool.{and_from, cases_eq, cases_lt, eq-eqb, eqb-true, false≢true, leb-true, ne_eqb, or_cases}
use Rattle.std.proofs.lemmas.List.FromFn.{length-range_with_len}
use Rattle.std.proofs.lemmas.List.Sums.{sum_by-cons}
use Rattle.std.proofs.lemmas.Option.{get_or_from_slice_get, none-some, slice_get_cases, slice_get_within}
use Rattle.vm_types.specs.Configuration.{IsProcess, IsWellFormed, all_pins, pins_of}
use Rattle.vm_types.specs.Ring.{Held, filled, is_filled_slot, is_pinned_slot, is_unpinned_slot, pinned, unpinned}
use Rattle.vm_types.specs.declared.config.Config.{Config}
use Rattle.vm_types.specs.declared.config.ProcSpec.{ProcSpec}
use Rattle.vm_types.specs.declared.names.FrameState.{FrameState}
use Rattle.vm_types.specs.declared.names.FrameState.TheVariants as state
use Rattle.vm_journal.specs.declared.entry.Entry.{Entry}
use Rattle.page_lists.specs.Lists.{count_of}
use Rattle.pager_model.specs.Around.{FrameView, frame_view, past_view}
use Rattle.pager_model.specs.Flights.{awaits_reuse, open_flights}
use Rattle.pager_model.specs.Lookups.{entries_at, has_vpn, is, is_entry, shares, slots_with}
use Rattle.pager_model.specs.Pager.{Pager, Valid}
use Rattle.pager_model.specs.Run.{IsRun, pager_after}
use Rattle.pager_model.specs.Sets.{has}
use Rattle.pager_model.specs.Transfers.{reads_on, writes_on}
use Rattle.pager_rules.proofs.Basics.{count_cons, count_cons_no, count_cons_yes, nat_eq_refl, no_failed_read}
use Rattle.pager_rules.proofs.Frames.{at_state}
use Rattle.pager_rules.proofs.Lists.{all_step}
use Rattle.pager_rules.specs.Kept.{FitsFrame, IsKept}
use Rattle.pager_laws.proofs.RunsAreSound.{run_kept}
use Rattle.serial_laws.specs.Alone.{IsAlone}
use Rattle.serial_laws.proofs.Counting.{each_is, once_in_range, pairs_same, range_holds, sum_both, sum_less, sum_ones}

-- ---- counts in lists
filled_most : (slots : List (Option Held)) → filled slots ≤ length slots
filled_most [] = omega arith
filled_most (None ∷ slots) = omega (arith, filled_most slots, count_cons_no is_filled_slot None slots refl)
filled_most (Some held ∷ slots) = omega (arith, filled_most slots, count_cons_yes is_filled_slot (Some held) slots refl)

filled_sum : (slots : List (Option Held)) → sum_by (λ (o : Option Held). cond (is_filled_slot o) 1 0) slots ≡ filled slots
filled_sum slots = refl

one_at_most : (n : ℕ) (b : Bool) → cond {A = ℕ} b 1 0 ≤ 1
one_at_most n true = omega arith
one_at_most n false = omega arith

module _ (config : Config) (past : List Entry) (p : ℕ) (formed : IsWellFormed config) (run : IsRun config past) (process : p < length config.procs) (idle : open_flights past ≡ []) (calm : awaits_reuse past ≡ false) (alone : IsAlone config (pager_after config past) p) where
  abbrev a : Pager
  a = pager_after config past

  kept : IsKept config (past_view past) a
  kept = run_kept config past formed run

  -- ---- a process has no more entries than filled slots
  sees_same : (q v : ℕ) (e : Valid) → (nat_eq e.proc q && nat_eq v e.vpn) ≡ is_entry q v e
  sees_same q v e = ap (λ (b : Bool). nat_eq e.proc q && b) (agree (cases_eq v e.vpn))
    where
      agree : (v ≡ e.vpn) ⊎ (v ≡ e.vpn → ⊥) → nat_eq v e.vpn ≡ nat_eq e.vpn v
      agree (inl same) = eq-eqb v e.vpn same ∙ sym (eq-eqb e.vpn v (sym same))
      agree (inr apart) = ne_eqb v e.vpn apart ∙ sym (ne_eqb e.vpn v (λ same. apart (sym same)))

  same_count : (q v : ℕ) (valid : List Valid) → count_by (λ (e : Valid). nat_eq e.proc q && nat_eq v e.vpn) valid ≡ entries_at valid q v
  same_count q v [] = refl
  same_count q v (e ∷ valid) =
      count_cons (λ (x : Valid). nat_eq x.proc q && nat_eq v x.vpn) e valid
      ∙ (ap₂ (λ (b : Bool) (n : ℕ). cond b 1 0 + n) (sees_same q v e) (same_count q v valid) ∙ sym (count_cons (is_entry q v) e valid))

  abbrev entries_of : ℕ → ℕ
  entries_of q = count_by (λ (e : Valid). nat_eq e.proc q) a.valid

  entries_in : (q : ℕ) → entries_of q ≤ filled (a.ring q).slots
  entries_in q =
      let each = sum_less (λ (e : Valid). cond (nat_eq e.proc q) 1 0) (λ (e : Valid). count_by (pair e) (a.ring q).slots) a.valid in_slot in
      let turned = pairs_same pair a.valid (a.ring q).slots in
      let few = sum_less (λ (o : Option Held). count_by (λ (e : Valid). pair e o) a.valid) (λ (o : Option Held). cond (is_filled_slot o) 1 0) (a.ring q).slots (each_is _ once_in_slot (a.ring q).slots) in
      omega (arith, each, turned, few, entries_sum, filled_sum (a.ring q).slots)
    where
      pair : Valid → Option Held → Bool
      pair e o = nat_eq e.proc q && has_vpn e.vpn o

      entries_sum : sum_by (λ (e : Valid). cond (nat_eq e.proc q) 1 0) a.valid ≡ entries_of q
      entries_sum = refl

      in_slot : AllByRecursion (λ (e : Valid). cond (nat_eq e.proc q) 1 0 ≤ count_by (pair e) (a.ring q).slots) a.valid
      in_slot = all_step (λ (e : Valid). Unit {0}) (λ (e : Valid). cond (nat_eq e.proc q) 1 0 ≤ count_by (pair e) (a.ring q).slots) a.valid
          (λ e counts u. at e counts (nat_eq e.proc q) refl) (each_is (λ (e : Valid). Unit {0}) (λ e. tt) a.valid)
        where
          at : (e : Valid) → ((t : Valid → Bool) → t e ≡ true → 0 < count_by t a.valid) → (b : Bool) → nat_eq e.proc q ≡ b → cond (nat_eq e.proc q) 1 0 ≤ count_by (pair e) (a.ring q).slots
          at e counts false is = subst (λ (c : Bool). cond c 1 0 ≤ count_by (pair e) (a.ring q).slots) (sym is) (omega arith)
          at e counts true is =
              let some = counts (is_entry q e.vpn) (and_from _ _ is (nat_eq_refl e.vpn)) in
              let slots = (kept.entries q e.vpn).slots in
              subst (λ (c : Bool). cond c 1 0 ≤ count_by (λ (o : Option Held). c && has_vpn e.vpn o) (a.ring q).slots) (sym is) (omega (arith, some, slots))

      off : (b : Bool) → (b && false) ≡ false
      off true = refl
      off false = refl

      once_in_slot : (o : Option Held) → count_by (λ (e : Valid). pair e o) a.valid ≤ cond (is_filled_slot o) 1 0
      once_in_slot None = none a.valid
        where
          none : (valid : List Valid) → count_by (λ (e : Valid). nat_eq e.proc q && false) valid ≤ 0
          none [] = omega arith
          none (e ∷ valid) = omega (arith, count_cons_no (λ (x : Valid). nat_eq x.proc q && false) e valid (off (nat_eq e.proc q)), none valid)
      once_in_slot (Some held) = let once = (kept.entries q held.vpn).once in omega (arith, same_count q held.vpn a.valid, once)

  -- ---- a process that is gone has pinned pages alone
  whole_ring : (slots : List (Option Held)) → filled slots ≡ pinned slots + unpinned slots
  whole_ring [] = refl
  whole_ring (None ∷ slots) = whole_ring slots
  whole_ring (Some held ∷ slots) =
      omega (arith, whole_ring slots, count_cons_yes is_filled_slot (Some held) slots refl, count_cons is_pinned_slot (Some held) slots, count_cons is_unpinned_slot (Some held) slots, either held.pinned)
    where
      either : (b : Bool) → cond {A = ℕ} b 1 0 + cond (not b) 1 0 ≡ 1
      either true = refl
      either false = refl

  abbrev pins_at : ℕ → Option ProcSpec → ℕ
  pins_at q None = 0
  pins_at q (Some spec) = pins_of config.version spec

  -- its extent, or its pins
  held_by : (extent q : ℕ) → ((spec : ProcSpec) → slice_get config.procs p ≡ Some spec → spec.extent ≡ extent) → filled (a.ring q).slots ≤ cond (nat_eq p q) extent 0 + pins_at q (slice_get config.procs q)
  held_by extent q is_extent = by (slice_get config.procs q) refl (cases_eq p q)
    where
      by : (o : Option ProcSpec) → slice_get config.procs q ≡ o → (p ≡ q) ⊎ (p ≡ q → ⊥) → filled (a.ring q).slots ≤ cond (nat_eq p q) extent 0 + pins_at q (slice_get config.procs q)
      by None is same = let none = (kept.processes q).none is in omega (arith, none.1, filled_most (a.ring q).slots)
      by (Some spec) is (inl same) =
          let slots = ((kept.processes q).bounds spec is).slots in
          let mine = is_extent spec (ap (slice_get config.procs) same ∙ is) in
          let here = ap (λ (b : Bool). cond {A = ℕ} b extent 0) (eq-eqb p q same) in
          omega (arith, slots, mine, here, filled_most (a.ring q).slots)
      by (Some spec) is (inr other) =
          let gone = (kept.processes q).gone (alone q (slice_get_within config.procs q spec is) (λ same. other (sym same))) in
          let pins = ((kept.processes q).bounds spec is).pins in
          let at = ap (pins_at q) is in
          omega (arith, gone, pins, at, whole_ring (a.ring q).slots)

  -- ---- so memory has no more entries than the extent and all pins
  sum_pins : (specs : List ProcSpec) (s : ℕ) → ((k : ℕ) → slice_get config.procs (s + k) ≡ slice_get specs k) → sum_by (λ (q : ℕ). pins_at q (slice_get config.procs q)) (range_with_len s (length specs)) ≡ sum_by (pins_of config.version) specs
  sum_pins [] s same = refl
  sum_pins (spec ∷ specs) s same =
      let rest = sum_pins specs (s + 1) (λ k.
      let on : s + 1 + k ≡ s + (1 + k) = omega arith in
      let one : 1 + k ≡ suc k = omega arith in
      ap (slice_get config.procs) on ∙ (same (1 + k) ∙ ap (slice_get (spec ∷ specs)) one)) in
      let first : s ≡ s + 0 = omega arith in
      let here : slice_get config.procs s ≡ Some spec = ap (slice_get config.procs) first ∙ same 0 in
      let value = ap (pins_at s) here in
      omega (arith, rest, value, sum_by-cons (λ (q : ℕ). pins_at q (slice_get config.procs q)) s (range_with_len (s + 1) (length specs)), sum_by-cons (pins_of config.version) spec specs)

  sum_extent : (extent s n : ℕ) → sum_by (λ (q : ℕ). cond (nat_eq p q) extent 0) (range_with_len s n) ≤ extent
  sum_extent extent s n = omega (arith, go (range_with_len s n), scaled, once_in_range p s n)
    where
      scaled : count_by (nat_eq p) (range_with_len s n) * extent ≤ extent
      scaled = by (count_by (nat_eq p) (range_with_len s n)) (once_in_range p s n)
        where
          by : (m : ℕ) → m ≤ 1 → m * extent ≤ extent
          by zero most = omega arith
          by (suc zero) most = omega arith
          by (suc (suc m)) most = absurd (omega arith)

      go : (xs : List ℕ) → sum_by (λ (q : ℕ). cond (nat_eq p q) extent 0) xs ≡ count_by (nat_eq p) xs * extent
      go [] = omega arith
      go (x ∷ xs) = step (nat_eq p x) refl (go xs)
        where
          step : (b : Bool) → nat_eq p x ≡ b → sum_by (λ (q : ℕ). cond (nat_eq p q) extent 0) xs ≡ count_by (nat_eq p) xs * extent → sum_by (λ (q : ℕ). cond (nat_eq p q) extent 0) (x ∷ xs) ≡ count_by (nat_eq p) (x ∷ xs) * extent
          step true is rest =
              let value = ap (λ (b : Bool). cond {A = ℕ} b extent 0) is in
              let more = ap (λ (n : ℕ). n * extent) (count_cons_yes (nat_eq p) x xs is) in
              omega (arith, rest, value, more, sum_by-cons (λ (q : ℕ). cond (nat_eq p q) extent 0) x xs)
          step false is rest =
              let value = ap (λ (b : Bool). cond {A = ℕ} b extent 0) is in
              let more = ap (λ (n : ℕ). n * extent) (count_cons_no (nat_eq p) x xs is) in
              omega (arith, rest, value, more, sum_by-cons (λ (q : ℕ). cond (nat_eq p q) extent 0) x xs)

  inside : (e : Valid) → ((t : Valid → Bool) → t e ≡ true → 0 < count_by t a.valid) → 1 ≤ count_by (nat_eq e.proc) (range_with_len 0 (length config.procs))
  inside e counts = by (slice_get config.procs e.proc) refl
    where
      by : (o : Option ProcSpec) → slice_get config.procs e.proc ≡ o → 1 ≤ count_by (nat_eq e.proc) (range_with_len 0 (length config.procs))
      by (Some spec) is = range_holds e.proc 0 (length config.procs) (omega arith) (omega (arith, slice_get_within config.procs e.proc spec is))
      by None is =
          let none = (kept.processes e.proc).none is in
          let mine = entries_in e.proc in
          absurd (omega (arith, none.1, mine, filled_most (a.ring e.proc).slots, counts (λ (x : Valid). nat_eq x.proc e.proc) (nat_eq_refl e.proc)))

  entries_few : (extent : ℕ) → ((spec : ProcSpec) → slice_get config.procs p ≡ Some spec → spec.extent ≡ extent) → length a.valid ≤ extent + all_pins config
  entries_few extent is_extent =
      let processes : List ℕ = range_with_len 0 (length config.procs) in
      let each = sum_less (λ (e : Valid). 1) (λ (e : Valid). count_by (nat_eq e.proc) processes) a.valid
      (all_step (λ (e : Valid). Unit {0}) (λ (e : Valid). 1 ≤ count_by (nat_eq e.proc) processes) a.valid (λ e counts u. inside e counts) (each_is (λ (e : Valid). Unit {0}) (λ e. tt) a.valid)) in
      let turned = pairs_same (λ (e : Valid) (q : ℕ). nat_eq e.proc q) a.valid processes in
      let held = sum_less (λ (q : ℕ). entries_of q) (λ (q : ℕ). cond (nat_eq p q) extent 0 + pins_at q (slice_get config.procs q)) processes (each_is _ (λ q. bound q) processes) in
      let both = sum_both (λ (q : ℕ). cond (nat_eq p q) extent 0) (λ (q : ℕ). pins_at q (slice_get config.procs q)) processes in
      omega (arith, each, turned, held, both, sum_ones a.valid, sum_extent extent 0 (length config.procs), sum_pins config.procs 0 (λ k. let on : 0 + k ≡ k = omega arith in ap (slice_get config.procs) on))
    where
      bound : (q : ℕ) → entries_of q ≤ cond (nat_eq p q) extent 0 + pins_at q (slice_get config.procs q)
      bound q = omega (arith, entries_in q, held_by extent q is_extent)

  -- ---- each frame is bad, or a valid entry is for it
  module _ (no_free : a.free ≡ []) (no_modified : a.modified ≡ []) where
    no_transfer : (f : ℕ) → (reads_on f (open_flights past) ≡ 0) × (writes_on f (open_flights past) ≡ 0)
    no_transfer f = (ap (reads_on f) idle, ap (writes_on f) idle)

    covered : (f : ℕ) → f < config.frames → 1 ≤ count_of config.bad f + shares a.valid f
    covered f inside = by (a.state f) refl
      where
        view : FrameView
        view = frame_view config (past_view past) a f

        at : (s : FrameState) → a.state f ≡ s → FitsFrame (record (frame_view config (past_view past) a f) { state = s })
        at s is = at_state (frame_view config (past_view past) a f) s is (kept.frames f)

        bad_counts : (xs : List ℕ) → has xs f ≡ true → 1 ≤ count_of xs f
        bad_counts [] is = absurd (false≢true is)
        bad_counts (x ∷ xs) is = go (nat_eq x f) refl (or_cases _ _ is) (bad_counts xs)
          where
            go : (b : Bool) → nat_eq x f ≡ b → (nat_eq f x ≡ true) ⊎ (has xs f ≡ true) → (has xs f ≡ true → 1 ≤ count_of xs f) → 1 ≤ count_of (x ∷ xs) f
            go true same either rest = omega (arith, count_cons_yes (λ (y : ℕ). nat_eq y f) x xs same)
            go false apart (inl same) rest = absurd (false≢true (sym apart ∙ eq-eqb x f (sym (eqb-true f x same))))
            go false apart (inr later) rest = let some = rest later in omega (arith, some, count_cons_no (λ (y : ℕ). nat_eq y f) x xs apart)

        bad : a.state f ≡ state.Bad → 1 ≤ count_of config.bad f + shares a.valid f
        bad is = go (or_cases (nat_le config.frames f) (has config.bad f) (at state.Bad is).bad)
          where
            go : (nat_le config.frames f ≡ true) ⊎ (has config.bad f ≡ true) → 1 ≤ count_of config.bad f + shares a.valid f
            go (inl outside) = absurd (let past_end = leb-true config.frames f outside in omega (arith, past_end, inside))
            go (inr listed) = let some = bad_counts config.bad listed in omega (arith, some)

        by : (s : FrameState) → a.state f ≡ s → 1 ≤ count_of config.bad f + shares a.valid f
        by state.Bad is = bad is
        by state.Active is = let some = (at state.Active is).shares in omega (arith, some)
        by state.Free is = absurd (let one = (at state.Free is).on_free in let none = ap (λ (xs : List ℕ). count_of xs f) no_free in omega (arith, one, none))
        by state.Modified is = absurd (let one = (at state.Modified is).on_modified in let none = ap (λ (xs : List ℕ). count_of xs f) no_modified in omega (arith, one, none))
        by state.Reading is = absurd (let one = (at state.Reading is).reads in let none = no_transfer f in omega (arith, one, none.0))
        by state.Writing is = absurd (let one = (at state.Writing is).writes in let none = no_transfer f in omega (arith, one, none.1))
        by state.ReleasePending is = absurd (let one = (at state.ReleasePending is).writes in let none = no_transfer f in omega (arith, one, none.1))
        by state.ReadError is = absurd (false≢true (sym (no_failed_read past f calm) ∙ (at state.ReadError is).failed))

    all_covered : (s n : ℕ) → s + n ≤ config.frames → AllByRecursion (λ (f : ℕ). 1 ≤ count_of config.bad f + shares a.valid f) (range_with_len s n)
    all_covered s zero most = tt
    all_covered s (suc n) most = (covered s (omega (arith, most)), all_covered (s + 1) n (omega (arith, most)))

    frames_few : config.frames ≤ length config.bad + length a.valid
    frames_few =
        let frames : List ℕ = range_with_len 0 config.frames in
        let each = sum_less (λ (f : ℕ). 1) (λ (f : ℕ). count_of config.bad f + shares a.valid f) frames (all_covered 0 config.frames (omega arith)) in
        let both = sum_both (λ (f : ℕ). count_of config.bad f) (λ (f : ℕ). shares a.valid f) frames in
        let bads = pairs_same (λ (f b : ℕ). nat_eq b f) frames config.bad in
        let entries = pairs_same (λ (f : ℕ) (e : Valid). nat_eq e.frame f) frames a.valid in
        let bad_few = sum_less (λ (b : ℕ). count_by (λ (f : ℕ). nat_eq b f) frames) (λ (b : ℕ). 1) config.bad (each_is _ (λ b. once_in_range b 0 config.frames) config.bad) in
        let valid_few = sum_less (λ (e : Valid). count_by (λ (f : ℕ). nat_eq e.frame f) frames) (λ (e : Valid). 1) a.valid (each_is _ (λ e. once_in_range e.frame 0 config.frames) a.valid) in
        omega (arith, each, both, bads, entries, bad_few, valid_few, sum_ones frames, sum_ones config.bad, sum_ones a.valid, length-range_with_len 0 config.frames)

    pub alone_finds_a_page : ⊥
    alone_finds_a_page = by (slice_get config.procs p) refl
      where
        by : (o : Option ProcSpec) → slice_get config.procs p ≡ o → ⊥
        by None is = absent (slice_get_cases config.procs p).1
          where
            absent : ((spec : ProcSpec) × (p < length config.procs) × (slice_get config.procs p ≡ Some spec) × (slice_index_or config.procs p spec ≡ spec)) ⊎ ((length config.procs ≤ p) × (slice_get config.procs p ≡ None)) → ⊥
            absent (inl found) = none-some found.0 (sym is ∙ found.2)
            absent (inr outside) = omega (arith, outside.0, process)
        by (Some spec) is =
            let few = entries_few spec.extent (λ other also. let both = sym also ∙ is in let same : other ≡ spec = cc in ap (λ (x : ProcSpec). x.extent) same) in
            let limits : IsProcess config.frames (length config.bad + all_pins config) spec = subst (λ (x : ProcSpec). IsProcess config.frames (length config.bad + all_pins config) x) (get_or_from_slice_get config.procs p spec spec is) (formed.procs p spec (slice_get_within config.procs p spec is)) in
            let room = limits.room in
            omega (arith, frames_few, few, room)
