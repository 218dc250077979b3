-- Every whole run ends with those shared pages dirty of which the last write in the rundown failed, or that are still
-- valid.
use Rattle.std.proofs.Common.{◌≡◌, ◌⊎◌, inl, inr, ℕ, zero, suc, ◌+◌, ◌<◌, ◌≤◌, ◌&&◌, ◌||◌, Bool, true, false, not, List, [], ◌∷◌, ◌++◌, Some, length, refl, sym, ap, ◌∙◌, subst, arith}
use Rattle.std.specs.List.{list_any, range_with_len}
use Rattle.std.proofs.lemmas.Bool.{and_from, and_parts, cases_eq, false≢true}
use Rattle.vm_types.specs.declared.names.Page.{Page}
use Rattle.vm_types.specs.declared.config.Config.{Config}
use Rattle.vm_journal.specs.declared.entry.Entry.{Entry}
use Rattle.page_lists.specs.Lists.{count_of}
use Rattle.pager_model.specs.Around.{past_view}
use Rattle.pager_policy.specs.Cleaning.{evicting}
use Rattle.pager_model.specs.Forget.{holds_page}
use Rattle.pager_model.specs.Maps.{is_private}
use Rattle.pager_policy.specs.Moves.{Control, cleaning, control}
use Rattle.pager_model.specs.Pager.{Pager}
use Rattle.pager_policy.specs.Policy.{move_of}
use Rattle.pager_model.specs.Run.{IsRun, pager_after}
use Rattle.pager_policy.specs.Rundown.{at_slot, holds_shared, is_shared_listed}
use Rattle.pager_policy.specs.Serial.{Heard, IsMove, IsReached}
use Rattle.pager_model.specs.DirtyPages.{is_dirty}
use Rattle.pager_model.specs.Transfers.{writes_on}
use Rattle.pager_rules.proofs.Basics.{same_page_refl}
use Rattle.pager_rules.specs.Kept.{IsKept}
use Rattle.pager_laws.proofs.RunsAreSound.{run_kept}
use Rattle.pager_laws.proofs.Holders.{holds_within}
use Rattle.call_laws.proofs.WaitsLegal.{is_seen}
use Rattle.serial_laws.specs.Between.{IsBetween}
use Rattle.serial_laws.proofs.Kept.{moves_between}
use Rattle.serial_laws.proofs.Rundowns.{cleaning_fits}
use Rattle.policy_ends.specs.Clean.{IsEarlier}
use Rattle.policy_ends.specs.Dirty.{HasFailedWrite, StaysInSlot}
use Rattle.policy_ends.specs.RundownLaws.{DirtyBecause}
use Rattle.policy_ends.proofs.Beyond.{each_counted}
use Rattle.policy_ends.proofs.CleanRuns.{move_back, run_past}
use Rattle.policy_ends.proofs.DirtyMoves.{IsAtRest, IsPassedAt, cleaning_passes}
use Rattle.policy_ends.proofs.Ended.{dirty_where, held_page, listed_passes}
use Rattle.policy_ends.proofs.FailedWrites.{AreTried, IsMarkedOrOpen, failed_since, since_rest, since_start}

-- ---- lists
found_any : (t : ℕ → Bool) (xs : List ℕ) → list_any t xs ≡ true → (x : ℕ) × (t x ≡ true)
found_any t [] is = absurd (false≢true is)
found_any t (x ∷ xs) is = by (t x) refl is (found_any t xs)
  where
    by : (b : Bool) → t x ≡ b → (b || list_any t xs) ≡ true → (list_any t xs ≡ true → (y : ℕ) × (t y ≡ true)) → (y : ℕ) × (t y ≡ true)
    by true passes is rest = (x, passes)
    by false fails is rest = rest is

range_passes : (t : ℕ → Bool) (from n f : ℕ) → from ≤ f → f < from + n → t f ≡ true → list_any t (range_with_len from n) ≡ true
range_passes t from zero f low high passes = absurd (omega (arith, low, high))
range_passes t from (suc n) f low high passes = by (cases_eq from f) (λ less. range_passes t (from + 1) n f less (omega (arith, high)) passes)
  where
    here : (b c : Bool) → b ≡ true → (b || c) ≡ true
    here true c is = refl
    here false c is = absurd (false≢true is)

    later : (b c : Bool) → c ≡ true → (b || c) ≡ true
    later true c is = refl
    later false c is = is

    by : (from ≡ f) ⊎ (from ≡ f → ⊥) → (from + 1 ≤ f → list_any t (range_with_len (from + 1) n) ≡ true) → list_any t (range_with_len from (suc n)) ≡ true
    by (inl same) rest = here (t from) (list_any t (range_with_len (from + 1) n)) (ap t same ∙ passes)
    by (inr apart) rest = later (t from) (list_any t (range_with_len (from + 1) n)) (rest (omega (arith, low, apart)))

-- ---- a rundown so far
record IsPassedRun (config : Config) (start past : List Entry) (c : Control) : Type 0 where
  pub between : IsBetween config past
  pub passed : IsPassedAt (length start) past (pager_after config past) c
  pub longer : length start ≤ length past

module _ (config : Config) (start : List Entry) (first : IsBetween config start) where
  none_yet : IsPassedRun config start start (at_slot 0 0 false)
  none_yet = record {
    between = first;
    passed = record { at = evicting 0 0 false; is = refl; passed = λ q m earlier. absurd (by q m earlier); marked = λ f failed. absurd (false≢true (sym (since_start start f) ∙ failed)) };
    longer = omega arith;
  }
    where
      by : (q m : ℕ) → IsEarlier q m 0 0 → ⊥
      by q m (inl less) = omega (arith, less)
      by q m (inr (same, less)) = omega (arith, less)

  -- one move more
  further : (past : List Entry) (c : Control) (heard : Heard) (more : List Entry) (next : Control) → IsPassedRun config start past c → IsMove config past c heard more next → IsRun config more → IsPassedRun config start more next
  further past c heard more next earlier made run = record {
    between = moves_between config past (control (cleaning earlier.passed.at)) heard more next earlier.between (cleaning_fits config past earlier.passed.at) move run;
    passed = kept.0;
    longer = (let short = earlier.longer in let long = kept.1 in omega (arith, short, long));
  }
    where
      move : IsMove config past (control (cleaning earlier.passed.at)) heard more next
      move = subst (λ (d : Control). IsMove config past d heard more next) earlier.passed.is made

      kept : IsPassedAt (length start) more (pager_after config more) next × (length past ≤ length more)
      kept = (cleaning_passes config (length start) past earlier.between earlier.longer earlier.passed.marked earlier.passed.at earlier.passed.passed).keeps heard more next move run

  passed_run : (told : List Heard) (past : List Entry) (c : Control) → IsReached config start (at_slot 0 0 false) told past c → IsRun config past → IsPassedRun config start past c
  passed_run [] past c reached run = subst (λ (xs : List Entry). IsPassedRun config start xs c) (sym reached.0) (subst (λ (d : Control). IsPassedRun config start start d) (sym reached.1) none_yet)
  passed_run (heard ∷ told) past c reached run =
      let back = move_back config reached.earlier_past heard past c (move_of config reached.earlier_past reached.earlier_control) reached.move in
      further reached.earlier_past reached.earlier_control heard past c (passed_run told reached.earlier_past reached.earlier_control reached.before (back.ran run)) reached.move run

-- ---- its end
module _ (config : Config) (past rest : List Entry) (between : IsBetween config (rest ++ past)) (over : IsAtRest (length past) (rest ++ past) (pager_after config (rest ++ past))) (g : Page) (shared : is_private g ≡ false) where
  abbrev a : Pager
  a = pager_after config (rest ++ past)

  kept : IsKept config (past_view (rest ++ past)) a
  kept = run_kept config (rest ++ past) between.formed between.run

  dirty_from : (f : ℕ) → a.page f ≡ Some g → a.modify f ≡ true → is_dirty config a g ≡ true
  dirty_from f holds mark =
      range_passes (λ (h : ℕ). holds_page g (a.page h) && a.modify h) 0 config.frames f (omega arith) (let less = holds_within config (past_view (rest ++ past)) a f g kept holds in omega (arith, less))
      (and_from _ _ (ap (holds_page g) holds ∙ same_page_refl g) mark)

  unwritten_dirty : HasFailedWrite rest a g → is_dirty config a g ≡ true
  unwritten_dirty u = by (over.marked u.frame (since_rest rest past u.frame ∙ u.failed))
    where
      by : IsMarkedOrOpen (rest ++ past) a u.frame → is_dirty config a g ≡ true
      by (inl mark) = dirty_from u.frame u.holds mark
      by (inr some) = absurd (let none = ap (writes_on u.frame) between.landed in omega (arith, none, some))

  staying_dirty : StaysInSlot a g → is_dirty config a g ≡ true
  staying_dirty stays =
      dirty_from stays.seen.frame ((is_seen a stays.process stays.slot stays.seen stays.is).page ∙ ap Some stays.page)
      (over.slots stays.process stays.slot stays.seen stays.is (ap (λ (h : Page). not (is_private h)) stays.page ∙ ap not shared))

  listed_failed : (f : ℕ) → a.page f ≡ Some g → 0 < count_of a.modified f → failed_since (length past) (rest ++ past) f ≡ true
  listed_failed f holds listed = by over.listed
    where
      by : (is_shared_listed a ≡ false) ⊎ AreTried (length past) (rest ++ past) a 0 → failed_since (length past) (rest ++ past) f ≡ true
      by (inl none) = absurd (false≢true (sym none ∙ listed_passes (λ (h : ℕ). holds_shared (a.page h)) a.modified f listed (ap holds_shared holds ∙ ap not shared)))
      by (inr tried) = each_counted (λ (h : ℕ). failed_since (length past) (rest ++ past) h ≡ true) a.modified f tried listed

  dirty_why : is_dirty config a g ≡ true → HasFailedWrite rest a g ⊎ StaysInSlot a g
  dirty_why is = by_frame found.0 (held_page g (a.page found.0) parts.0) parts.1
    where
      found : (f : ℕ) × ((holds_page g (a.page f) && a.modify f) ≡ true)
      found = found_any (λ (h : ℕ). holds_page g (a.page h) && a.modify h) (range_with_len 0 config.frames) is

      parts : (holds_page g (a.page found.0) ≡ true) × (a.modify found.0 ≡ true)
      parts = and_parts (holds_page g (a.page found.0)) (a.modify found.0) found.1

      by_frame : (f : ℕ) → a.page f ≡ Some g → a.modify f ≡ true → HasFailedWrite rest a g ⊎ StaysInSlot a g
      by_frame f holds mark = by (dirty_where config (rest ++ past) between f g holds mark)
        where
          by : StaysInSlot a g ⊎ (0 < count_of a.modified f) → HasFailedWrite rest a g ⊎ StaysInSlot a g
          by (inl stays) = inr stays
          by (inr listed) = inl (record { frame = f; holds = holds; failed = sym (since_rest rest past f) ∙ listed_failed f holds listed })

-- ---- the whole of it
pub dirty_because : DirtyBecause
dirty_because config past rest formed run whole g shared = record {
  because = dirty_why config past rest so_far.between over g shared;
  unwritten = unwritten_dirty config past rest so_far.between over g shared;
  stays = staying_dirty config past rest so_far.between over g shared;
}
  where
    so_far : IsPassedRun config past (rest ++ past) whole.rundown.control
    so_far =
        passed_run config past (record { formed = formed; run = run_past config rest past run; landed = whole.landed; reused = whole.reused }) whole.rundown.told (rest ++ past) whole.rundown.control whole.rundown.reached run

    over : IsAtRest (length past) (rest ++ past) (pager_after config (rest ++ past))
    over =
        (cleaning_passes config (length past) (rest ++ past) so_far.between so_far.longer so_far.passed.marked so_far.passed.at so_far.passed.passed).over
        (ap (move_of config (rest ++ past)) (sym so_far.passed.is) ∙ whole.rundown.rests)
