-- The rundown's moves: evictions and write clusters.
use Rattle.std.proofs.Common.{◌≡◌, ℕ, zero, suc, ◌+◌, ◌-◌, ◌<◌, Bool, true, false, cond, not, List, [], ◌∷◌, Option, Some, None, length, nat_lt, refl, sym, subst, arith}
use Rattle.std.proofs.lemmas.Option.{none-some}
use Rattle.std.specs.List.{list_any}
use Rattle.std.proofs.lemmas.Bool.{false≢true, not-false}
use Rattle.vm_types.specs.declared.config.Config.{Config}
use Rattle.vm_journal.specs.declared.entry.Entry.{Entry}
use Rattle.vm_journal.specs.declared.entry.EvictWhy.TheVariants as evict
use Rattle.vm_journal.specs.declared.entry.What.{What}
use Rattle.pager_policy.specs.Cleaning.{Cleaning, evicting, rounds}
use Rattle.pager_policy.specs.Given.{Seen, is_stopped, seen_at}
use Rattle.pager_policy.specs.Moves.{Control, Move, carries, cleaning, control, goes, rests}
use Rattle.pager_model.specs.Pager.{Pager}
use Rattle.pager_model.specs.Run.{pager_after}
use Rattle.pager_policy.specs.Rundown.{Place, at_slot, clean_move, cleaning_move, holds_shared, is_shared_listed, later_move, next_round, place_move, round_move, rounds_move, shared_place, writer_of, written_for_need}
use Rattle.serial_laws.specs.Between.{IsBetween}
use Rattle.serial_laws.specs.Controlled.{IsControlled}
use Rattle.serial_laws.proofs.Begins.{IsWriting, need_writing, stopped_some}
use Rattle.pager_policy.specs.Given.{made_by}
use Rattle.pager_policy.specs.Landings.{all_bad, first_bad}
use Rattle.vm_journal.specs.declared.entry.What.TheVariants as what
use Rattle.serial_laws.proofs.Known.{MoveIsKnown, landed_from}
use Rattle.serial_laws.proofs.Leaves.{evict_known}
use Rattle.serial_laws.proofs.Writes.{carrying_writes, goes_not, same_control}

-- where the rundown is, always fits
pub cleaning_fits : (config : Config) (past : List Entry) (at : Cleaning) → IsControlled config past (control (cleaning at))
cleaning_fits config past at = record { leaving = λ q is. absurd (none-some q is); answered_process = tt; waiting = tt; touched = tt }

cleaning_on : (config : Config) (at : Cleaning) (c : Control) → goes (control (cleaning at)) ≡ goes c → (more : List Entry) → IsControlled config more c
cleaning_on config at c is more = subst (λ (d : Control). IsControlled config more d) (same_control (control (cleaning at)) c is) (cleaning_fits config more at)

any_some : (t : ℕ → Bool) (xs : List ℕ) → list_any t xs ≡ true → 0 < length xs
any_some t [] is = absurd (false≢true is)
any_some t (x ∷ xs) is = omega arith

module _ (config : Config) (past : List Entry) (between : IsBetween config past) where
  abbrev a : Pager
  a = pager_after config past

  abbrev IsKnown : Move → Type 0
  IsKnown m = MoveIsKnown config past (Unit {0}) m

  either : (b : Bool) (x y : Move) → (b ≡ true → IsKnown x) → (b ≡ false → IsKnown y) → IsKnown (cond b x y)
  either true x y first second = first refl
  either false x y first second = second refl

  resting : IsKnown rests
  resting = record { known = tt }

  -- a cluster, after which the rundown goes on
  cluster : (ws : List What) → IsWriting ws → (to : Bool → Bool → Cleaning) → IsKnown (carries (writer_of config) ws (λ (all first : Bool). goes (control (cleaning (to all first)))))
  cluster ws w to = subst (λ (xs : List What). IsKnown (carries (writer_of config) xs (λ (all first : Bool). goes (control (cleaning (to all first)))))) (sym w.is) (record {
    known = record {
      some = omega arith;
      carrying = carrying_writes config past (writer_of config) between.landed w.frame w.to w.rest w.writes;
      goes_on = λ outcomes c is each. cleaning_on config (to (all_bad outcomes) (first_bad outcomes)) c is (landed_from config (made_by (writer_of config) (what.Out w.frame w.to ∷ w.rest) past) (writer_of config) outcomes);
      refused = λ outcomes is each. goes_not (control (cleaning (to (all_bad outcomes) (first_bad outcomes)))) is;
    };
  })

  -- ---- the two rounds
  round_known : (following left : ℕ) → is_shared_listed a ≡ true → IsKnown (round_move config a following left)
  round_known following left listed = cluster (written_for_need config a) (need_writing config past between (any_some (λ (f : ℕ). holds_shared (a.page f)) a.modified listed)) (λ (all first : Bool). rounds following (left - length (written_for_need config a)))

  next_round_known : (following : ℕ) → is_shared_listed a ≡ true → IsKnown (next_round config a following)
  next_round_known zero listed = resting
  next_round_known (suc following) listed = round_known following (length a.modified) listed

  rounds_known : (following left : ℕ) → IsKnown (rounds_move config a following left)
  rounds_known following left =
      either (is_shared_listed a) _ _ (λ listed. either (nat_lt 0 left) _ _ (λ some. round_known following left listed) (λ none. next_round_known following listed)) (λ none. resting)

  -- ---- the slots
  clean_known : (at : Place) (failed : Bool) (later : Move) (o : Option Seen) → IsKnown later → IsKnown (clean_move config past a at failed later o)
  clean_known at failed later None known = known
  clean_known at failed later (Some s) known =
      either (not (is_stopped config past a s.frame)) _ _
      (λ free. evict_known config past (Unit {0}) (writer_of config) at.process s.vpn s.frame evict.Rundown (at_slot at.process (at.slot + 1) false) (cleaning_fits config _ (evicting at.process (at.slot + 1) false)))
      (λ stopped. either failed _ _ (λ bad. known) (λ good. cluster (written_for_need config a) (need_writing config past between (stopped_some config past between s.frame (not-false _ stopped))) (λ (all first : Bool). evicting at.process at.slot all)))

  place_known : (failed : Bool) (later : Place → Move) (o : Option Place) → ((at : Place) → IsKnown (later at)) → IsKnown (place_move config past a failed later o)
  place_known failed later None known = rounds_known 2 0
  place_known failed later (Some at) known = clean_known at failed (later at) (seen_at a at.process at.slot) (known at)

  later_known : (at : Place) → IsKnown (later_move config past a at)
  later_known at = place_known false (λ (next : Place). rests) (shared_place config a at.process (at.slot + 1)) (λ next. resting)

  pub cleaning_known : (at : Cleaning) → IsKnown (cleaning_move config past a at)
  cleaning_known (evicting p n failed) = place_known failed (later_move config past a) (shared_place config a p n) later_known
  cleaning_known (rounds following left) = rounds_known following left
