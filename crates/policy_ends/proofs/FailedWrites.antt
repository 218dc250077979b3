-- What single entries of a cluster of the rundown leave: a frame whose last write failed has its modify mark set, unless a
-- write is open on it; and on the modified list each frame but the first ones is of that kind.
use Rattle.std.proofs.Common.{◌≡◌, ◌⊎◌, inl, inr, ℕ, suc, ◌+◌, ◌<◌, ◌≤◌, ◌&&◌, Bool, true, false, not, cond, List, [], ◌∷◌, ◌++◌, Some, length, find, nat_eq, nat_le, refl, sym, ap, ◌∙◌, subst, arith}
use Rattle.std.specs.List.{AllByRecursion}
use Rattle.std.proofs.lemmas.Bool.{and_from, cases_eq, eq-eqb, false≢true, le-leb, leb-true}
use Rattle.std.proofs.lemmas.List.{length-append}
use Rattle.vm_types.specs.declared.names.BlockId.{BlockId}
use Rattle.vm_types.specs.declared.names.FrameState.{FrameState}
use Rattle.vm_types.specs.declared.names.FrameState.TheVariants as state
use Rattle.vm_types.specs.declared.names.Pfn.{Pfn}
use Rattle.vm_types.specs.declared.config.Config.{Config}
use Rattle.vm_journal.specs.declared.entry.Entry.{Entry}
use Rattle.vm_journal.specs.declared.entry.What.TheVariants as what
use Rattle.page_lists.specs.Lists.{count_of, without}
use Rattle.pager_model.specs.Around.{frame_view, past_view}
use Rattle.pager_model.specs.Changes.{pushed_if}
use Rattle.pager_model.specs.Flights.{Direction, Flight, is_reading, open_flights, without_flight, writing}
use Rattle.pager_policy.specs.Given.{by_seat}
use Rattle.pager_model.specs.Maps.{pfn}
use Rattle.pager_model.specs.Lookups.{is, shares}
use Rattle.pager_model.specs.Out.{IsOut, after_out}
use Rattle.pager_model.specs.OutLanding.{after_out_ok, marked}
use Rattle.pager_model.specs.Pager.{Pager}
use Rattle.pager_model.specs.Transfers.{is_write_on, starts, writes_on}
use Rattle.pager_rules.proofs.Basics.{at_number_other, count_cons, count_cons_yes, nat_eq_refl}
use Rattle.pager_rules.proofs.Frames.{at_state, modified_frame}
use Rattle.pager_rules.proofs.Lists.{all_found, count_found, count_removed_no}
use Rattle.pager_rules.proofs.Quiet.{starts_once}
use Rattle.pager_rules.specs.Kept.{HasWrites, IsKept, one_if}
use Rattle.policy_ends.specs.Dirty.{failed_by, last_write_failed}
use Rattle.policy_ends.proofs.Beyond.{AreBeyond, beyond_both, beyond_each, beyond_more, beyond_pushed, beyond_taken, none_is}
use Rattle.policy_ends.proofs.Clusters.{IsStill}
use Rattle.policy_ends.proofs.WriteSteps.{AreClear, IsClear}

-- ---- whether the last landed write of a frame failed, of the entries after the first n
abbrev pub failed_since : ℕ → List Entry → ℕ → Bool
failed_since n [] f = false
failed_since n (e ∷ past) f = cond (nat_le n (length past)) (failed_by f (failed_since n past f) e.what) false

pub since_one : (n : ℕ) (e : Entry) (past : List Entry) (f : ℕ) → n ≤ length past → failed_since n (e ∷ past) f ≡ failed_by f (failed_since n past f) e.what
since_one n e past f within = ap (λ (b : Bool). cond b (failed_by f (failed_since n past f) e.what) false) (le-leb n (length past) within)

pub since_start : (past : List Entry) (f : ℕ) → failed_since (length past) past f ≡ false
since_start [] f = refl
since_start (e ∷ past) f = by (nat_le (suc (length past)) (length past)) refl
  where
    by : (b : Bool) → nat_le (suc (length past)) (length past) ≡ b → cond b (failed_by f (failed_since (suc (length past)) past f) e.what) false ≡ false
    by false is = refl
    by true is = absurd (let less = leb-true (suc (length past)) (length past) is in omega (arith, less))

pub since_rest : (rest past : List Entry) (f : ℕ) → failed_since (length past) (rest ++ past) f ≡ last_write_failed rest f
since_rest [] past f = since_start past f
since_rest (e ∷ rest) past f =
    since_one (length past) e (rest ++ past) f (let both = length-append rest past in omega (arith, both)) ∙ ap (λ (b : Bool). failed_by f b e.what) (since_rest rest past f)

-- ---- the modify mark is set, or a write is open
abbrev pub IsMarkedOrOpen : List Entry → Pager → ℕ → Type 0
IsMarkedOrOpen past a f = (a.modify f ≡ true) ⊎ (0 < writes_on f (open_flights past))

abbrev pub AreMarked : ℕ → List Entry → Pager → Type 0
AreMarked n past a = (f : ℕ) → failed_since n past f ≡ true → IsMarkedOrOpen past a f

abbrev pub AreTried : ℕ → List Entry → Pager → ℕ → Type 0
AreTried n past a left = AreBeyond (λ (f : ℕ). failed_since n past f ≡ true) left a.modified

-- ---- entries of a cluster, of which so many begin a write
pub record IsWritten (n : ℕ) (past more : List Entry) (a b : Pager) (writes : ℕ) : Type 0 where
  pub still : IsStill a b
  pub longer : length past ≤ length more
  pub marks : (f : ℕ) → 0 < shares a.valid f → a.modify f ≡ true → b.modify f ≡ true
  pub failed : AreMarked n past a → AreMarked n more b
  pub tried : (left later : ℕ) → left ≤ later + writes → AreTried n past a left → AreTried n more b later

-- ---- a write of the modified list's head begins
module _ (config : Config) (n : ℕ) (past : List Entry) (a : Pager) (seat : ℕ) (f : Pfn) (b : BlockId) (kept : IsKept config (past_view past) a) (within : n ≤ length past) (row : IsOut config past a f.0 b) where
  abbrev begins : List Entry
  begins = by_seat seat (what.Out f b) ∷ past

  since_begun : (g : ℕ) → failed_since n begins g ≡ failed_since n past g
  since_begun g = since_one n (by_seat seat (what.Out f b)) past g within

  unshared : shares a.valid f.0 ≡ 0
  unshared =
      (at_state (frame_view config (past_view past) a f.0) state.Modified
      (modified_frame (frame_view config (past_view past) a f.0) (kept.frames f.0) (let heads = ap (λ (xs : List ℕ). count_of xs f.0) row.head.heads in
      let one = count_cons_yes (λ (y : ℕ). nat_eq y f.0) f.0 row.head.rest (nat_eq_refl f.0) in omega (arith, heads, one)))
      (kept.frames f.0)).shares

  begun_marked : AreMarked n past a → AreMarked n begins (after_out a f.0 b)
  begun_marked marks g is = by (cases_eq f.0 g) (marks g (sym (since_begun g) ∙ is))
    where
      begun : Flight
      begun = record { start = length past + 1; seat = seat; frame = f.0; block = b; direction = writing }

      by : (f.0 ≡ g) ⊎ (f.0 ≡ g → ⊥) → IsMarkedOrOpen past a g → IsMarkedOrOpen begins (after_out a f.0 b) g
      by (inl same) before = inr (let one = count_cons_yes (is_write_on g) begun (open_flights past) (and_from (nat_eq f.0 g) true (eq-eqb f.0 g same) refl) in omega (arith, one))
      by (inr apart) (inl mark) = inl (at_number_other a.modify f.0 false g apart ∙ mark)
      by (inr apart) (inr some) = inr (let one = count_cons (is_write_on g) begun (open_flights past) in omega (arith, one, some))

  pub out_written : IsWritten n past begins a (after_out a f.0 b) 1
  out_written = record {
    still = record { ring = refl; valid = refl; page = refl };
    longer = omega arith;
    marks = λ g some mark. at_number_other a.modify f.0 false g (λ same. let none = unshared in let here = ap (shares a.valid) same in omega (arith, none, here, some)) ∙ mark;
    failed = begun_marked;
    tried = λ left later less tried.
        beyond_each (λ (g : ℕ). failed_since n past g ≡ true) (λ (g : ℕ). failed_since n begins g ≡ true) (λ g is. since_begun g ∙ is) later (without a.modified f.0)
        (beyond_taken (λ (g : ℕ). failed_since n past g ≡ true) left later a.modified row.head.rest f.0 row.head.heads less tried);
  }

-- ---- a frame with an open write isn't on the modified list
unlisted : (s : FrameState) (writes listed : ℕ) → HasWrites s writes → 0 < writes → listed ≡ one_if (is state.Modified s) → listed ≡ 0
unlisted state.Modified writes listed has some is = absurd (omega (arith, has, some))
unlisted other writes listed has some is = is

none_pushed : (c m : Bool) (xs : List ℕ) (f : ℕ) → m ≡ false → pushed_if (c && m) xs f ≡ xs
none_pushed true false xs f clear = refl
none_pushed false false xs f clear = refl
none_pushed c true xs f clear = absurd (false≢true (sym clear))

-- ---- a write lands
module _ (config : Config) (n : ℕ) (past : List Entry) (a : Pager) (seat k f : ℕ) (kept : IsKept config (past_view past) a) (within : n ≤ length past) (clear : AreClear past a) (x : Flight)
    (found : find (starts k) (open_flights past) ≡ Some x) (frame : x.frame ≡ f) where
  is_clear : IsClear a x
  is_clear = all_found (IsClear a) (starts k) (open_flights past) x clear found

  mark : a.modify f ≡ false
  mark = ap a.modify (sym frame) ∙ is_clear.1

  open_here : 0 < writes_on f (open_flights past)
  open_here = count_found (is_write_on f) (starts k) (open_flights past) x found (and_from _ _ (eq-eqb x.frame f frame) (ap (λ (d : Direction). not (is_reading d)) is_clear.0))

  not_listed : count_of a.modified f ≡ 0
  not_listed = unlisted (a.state f) (writes_on f (open_flights past)) (count_of a.modified f) (kept.frames f).writes open_here (kept.frames f).on_modified

  others : AllByRecursion (λ (g : ℕ). nat_eq f g ≡ false) a.modified
  others = none_is a.modified f not_listed

  -- another frame's writes stay open
  still_open : (g : ℕ) → nat_eq f g ≡ false → 0 < writes_on g (open_flights past) → 0 < writes_on g (without_flight k (open_flights past))
  still_open g other some =
      let same = count_removed_no (is_write_on g) (starts k) (open_flights past) x found (starts_once past k) (ap (λ (h : ℕ). nat_eq h g && not (is_reading x.direction)) frame ∙ ap (λ (c : Bool). c && not (is_reading x.direction)) other) in
      omega (arith, same, some)

  -- ---- well
  abbrev well : List Entry
  well = by_seat seat (what.OutOk (pfn f) k) ∷ past

  since_well : (g : ℕ) → failed_since n well g ≡ cond (nat_eq f g) false (failed_since n past g)
  since_well g = since_one n (by_seat seat (what.OutOk (pfn f) k)) past g within

  well_marked : AreMarked n past a → AreMarked n well (after_out_ok a f (Some x))
  well_marked marks g is = by (nat_eq f g) refl (sym (since_well g) ∙ is)
    where
      after : nat_eq f g ≡ false → IsMarkedOrOpen past a g → IsMarkedOrOpen well (after_out_ok a f (Some x)) g
      after other (inl set) = inl set
      after other (inr some) = inr (still_open g other some)

      by : (c : Bool) → nat_eq f g ≡ c → cond c false (failed_since n past g) ≡ true → IsMarkedOrOpen well (after_out_ok a f (Some x)) g
      by true same failed = absurd (false≢true failed)
      by false other failed = after other (marks g failed)

  pub well_written : IsWritten n past well a (after_out_ok a f (Some x)) 0
  well_written = record {
    still = record { ring = refl; valid = refl; page = refl };
    longer = omega arith;
    marks = λ g some set. set;
    failed = well_marked;
    tried = λ left later less tried.
        subst (AreBeyond (λ (g : ℕ). failed_since n well g ≡ true) later) (sym (none_pushed (nat_eq (shares a.valid f) 0) (a.modify f) a.modified f mark))
        (beyond_both (λ (g : ℕ). failed_since n past g ≡ true) (λ (g : ℕ). nat_eq f g ≡ false) (λ (g : ℕ). failed_since n well g ≡ true)
        (λ g failed other. since_well g ∙ (ap (λ (c : Bool). cond c false (failed_since n past g)) other ∙ failed)) later a.modified
        (beyond_more (λ (g : ℕ). failed_since n past g ≡ true) left later a.modified (omega (arith, less)) tried) others);
  }

  -- ---- badly
  module _ (c d : ℕ) where
    abbrev badly : List Entry
    badly = by_seat seat (what.OutFail (pfn f) k c d) ∷ past

    since_badly : (g : ℕ) → failed_since n badly g ≡ cond (nat_eq f g) true (failed_since n past g)
    since_badly g = since_one n (by_seat seat (what.OutFail (pfn f) k c d)) past g within

    set_here : (g : ℕ) → nat_eq f g ≡ true → (marked a f).modify g ≡ true
    set_here g same = ap (λ (t : Bool). cond t true (a.modify g)) same

    stays_set : (g : ℕ) → a.modify g ≡ true → (marked a f).modify g ≡ true
    stays_set g set = by (nat_eq f g)
      where
        by : (t : Bool) → cond t true (a.modify g) ≡ true
        by true = refl
        by false = set

    stays_failed : (g : ℕ) → failed_since n past g ≡ true → failed_since n badly g ≡ true
    stays_failed g failed = since_badly g ∙ by (nat_eq f g)
      where
        by : (t : Bool) → cond t true (failed_since n past g) ≡ true
        by true = refl
        by false = failed

    badly_marked : AreMarked n past a → AreMarked n badly (after_out_ok (marked a f) f (Some x))
    badly_marked marks g is = by (nat_eq f g) refl (sym (since_badly g) ∙ is)
      where
        after : nat_eq f g ≡ false → IsMarkedOrOpen past a g → IsMarkedOrOpen badly (after_out_ok (marked a f) f (Some x)) g
        after other (inl set) = inl (stays_set g set)
        after other (inr some) = inr (still_open g other some)

        by : (t : Bool) → nat_eq f g ≡ t → cond t true (failed_since n past g) ≡ true → IsMarkedOrOpen badly (after_out_ok (marked a f) f (Some x)) g
        by true same failed = inl (set_here g same)
        by false other failed = after other (marks g failed)

    pushed_tried : (t : Bool) (later : ℕ) → AreBeyond (λ (g : ℕ). failed_since n past g ≡ true) later a.modified → AreBeyond (λ (g : ℕ). failed_since n badly g ≡ true) later (pushed_if t a.modified f)
    pushed_tried false later tried = beyond_each (λ (g : ℕ). failed_since n past g ≡ true) (λ (g : ℕ). failed_since n badly g ≡ true) stays_failed later a.modified tried
    pushed_tried true later tried =
        beyond_pushed (λ (g : ℕ). failed_since n badly g ≡ true) later a.modified f (since_badly f ∙ ap (λ (t : Bool). cond t true (failed_since n past f)) (nat_eq_refl f))
        (beyond_each (λ (g : ℕ). failed_since n past g ≡ true) (λ (g : ℕ). failed_since n badly g ≡ true) stays_failed later a.modified tried)

    pub badly_written : IsWritten n past badly a (after_out_ok (marked a f) f (Some x)) 0
    badly_written = record {
      still = record { ring = refl; valid = refl; page = refl };
      longer = omega arith;
      marks = λ g some set. stays_set g set;
      failed = badly_marked;
      tried = λ left later less tried.
          pushed_tried (nat_eq (shares a.valid f) 0 && (marked a f).modify f) later (beyond_more (λ (g : ℕ). failed_since n past g ≡ true) left later a.modified (omega (arith, less)) tried);
    }
