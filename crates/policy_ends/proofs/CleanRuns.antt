-- Every whole run of which the rundown has no failed transfer ends with no dirty page.
use Rattle.std.proofs.Common.{inl, inr, ℕ, ◌≤◌, false, List, [], ◌∷◌, ◌++◌, Option, Some, None, map, refl, sym, ap, ◌∙◌, subst, arith}
use Rattle.vm_types.specs.declared.config.Config.{Config}
use Rattle.vm_types.specs.declared.config.Task.{Task}
use Rattle.vm_journal.specs.declared.entry.Entry.{Entry}
use Rattle.pager_policy.specs.Cleaning.{evicting}
use Rattle.pager_policy.specs.Given.{by_seat, made_by, with_reply}
use Rattle.pager_policy.specs.Landings.{all_bad, first_bad, landed_by}
use Rattle.pager_model.specs.Flights.{carrier_of}
use Rattle.pager_policy.specs.Moves.{After, Control, Move, carries, cleaning, control, goes, makes, refuses, rests}
use Rattle.pager_policy.specs.Policy.{move_of, next_task}
use Rattle.pager_model.specs.Run.{IsRun, pager_after}
use Rattle.pager_policy.specs.Rundown.{at_slot}
use Rattle.pager_policy.specs.Serial.{GoesOn, Heard, IsMade, IsMove, IsReached, IsRefused, refusal_of}
use Rattle.serial_laws.specs.Between.{IsBetween}
use Rattle.serial_laws.proofs.Kept.{moves_between}
use Rattle.serial_laws.proofs.Rundowns.{cleaning_fits}
use Rattle.policy_ends.proofs.WriteCarriers.{run_before, run_landed}
use Rattle.policy_ends.specs.Clean.{IsCleanAt, IsEarlier, NoneSharedLeft, failures}
use Rattle.policy_ends.specs.RundownLaws.{NoFailureNoDirt}
use Rattle.policy_ends.proofs.CleanMoves.{cleaning_cleans}
use Rattle.policy_ends.proofs.Ended.{none_dirty}
use Rattle.policy_ends.proofs.Unfailed.{failures_both, more_landed, more_made, one_more}

-- ---- what was before a move
pub record GoesBack (config : Config) (past more : List Entry) : Type 0 where
  pub ran : IsRun config more → IsRun config past
  pub fewer : failures past ≤ failures more

back_then : (config : Config) (past middle more : List Entry) → GoesBack config past middle → GoesBack config middle more → GoesBack config past more
back_then config past middle more first rest = record {
  ran = λ run. first.ran (rest.ran run);
  fewer = (let one = first.fewer in let other = rest.fewer in omega (arith, one, other));
}

module _ (config : Config) (past : List Entry) (heard : Heard) (more : List Entry) (next : Control) where
  back_on : (landed : List Entry) (after : After) → GoesBack config past landed → GoesOn config landed more next after → GoesBack config past more
  back_on landed (goes c) back on = subst (GoesBack config past) (sym on.0) back
  back_on landed refuses back on = by (next_task config landed) on
    where
      by : (o : Option Task) → IsRefused landed more next o → GoesBack config past more
      by None refused = absurd refused
      by (Some task) refused =
          let e : Entry = by_seat (task.proc).0 (refusal_of task) in
          subst (GoesBack config past) (sym refused.0) (back_then config past landed (e ∷ landed) back (record { ran = λ run. run.0; fewer = one_more e landed }))

  pub move_back : (m : Move) → IsMade config past heard more next m → GoesBack config past more
  move_back (makes seat ws c) made =
      subst (GoesBack config past) (sym made.0) (record { ran = run_before config seat (map (with_reply heard.reply) ws) past; fewer = more_made seat (map (with_reply heard.reply) ws) past })
  move_back (carries seat ws onward) made =
      let begun : List Entry = made_by seat ws past in
      back_on (landed_by config seat (carrier_of seat begun) heard.outcomes begun) (onward (all_bad heard.outcomes) (first_bad heard.outcomes))
      (record {
        ran = λ run. run_before config seat ws past (run_landed config seat (carrier_of seat begun) heard.outcomes begun run);
        fewer = omega (arith, more_made seat ws past, more_landed config seat (carrier_of seat begun) heard.outcomes begun);
      }) made.on
  move_back rests made = absurd made

-- ---- a rundown so far
record IsCleanRun (config : Config) (start past : List Entry) (c : Control) : Type 0 where
  pub between : IsBetween config past
  pub clean : IsCleanAt (pager_after config past) c
  pub more : failures start ≤ failures past

module _ (config : Config) (start : List Entry) (first : IsBetween config start) where
  none_yet : IsCleanRun config start start (at_slot 0 0 false)
  none_yet = record {
    between = first;
    clean = record { at = evicting 0 0 false; is = refl; clean = (refl, λ q m earlier. absurd (by q m earlier)) };
    more = omega arith;
  }
    where
      by : (q m : ℕ) → IsEarlier q m 0 0 → ⊥
      by q m (inl less) = omega (arith, less)
      by q m (inr (same, less)) = omega (arith, less)

  -- one move more
  module _ (past : List Entry) (c : Control) (heard : Heard) (more : List Entry) (next : Control) (earlier : IsCleanRun config start past c) (made : IsMove config past c heard more next)
      (run : IsRun config more) (none : failures more ≤ failures start) where
    back : GoesBack config past more
    back = move_back config past heard more next (move_of config past c) made

    move : IsMove config past (control (cleaning earlier.clean.at)) heard more next
    move = subst (λ (d : Control). IsMove config past d heard more next) earlier.clean.is made

    further : IsCleanRun config start more next
    further = record {
      between = moves_between config past (control (cleaning earlier.clean.at)) heard more next earlier.between (cleaning_fits config past earlier.clean.at) move run;
      clean = (cleaning_cleans config past earlier.between earlier.clean.at earlier.clean.clean).keeps heard more next move run (let less = earlier.more in omega (arith, none, less));
      more = (let less = earlier.more in let one = back.fewer in omega (arith, less, one));
    }

  clean_run : (told : List Heard) (past : List Entry) (c : Control) → IsReached config start (at_slot 0 0 false) told past c → IsRun config past → failures past ≤ failures start → IsCleanRun config start past c
  clean_run [] past c reached run none =
      subst (λ (xs : List Entry). IsCleanRun config start xs c) (sym reached.0) (subst (λ (d : Control). IsCleanRun config start start d) (sym reached.1) none_yet)
  clean_run (heard ∷ told) past c reached run none =
      let back = move_back config reached.earlier_past heard past c (move_of config reached.earlier_past reached.earlier_control) reached.move in
      let earlier = clean_run told reached.earlier_past reached.earlier_control reached.before (back.ran run) (let one = back.fewer in omega (arith, none, one)) in
      further reached.earlier_past reached.earlier_control heard past c earlier reached.move run none

-- ---- the whole of it
pub run_past : (config : Config) (rest past : List Entry) → IsRun config (rest ++ past) → IsRun config past
run_past config [] past run = run
run_past config (e ∷ rest) past run = run_past config rest past run.0

pub no_failure_no_dirt : NoFailureNoDirt
no_failure_no_dirt config past rest formed run whole none = none_dirty config (rest ++ past) over_run.between over
  where
    over_run : IsCleanRun config past (rest ++ past) whole.rundown.control
    over_run =
        clean_run config past (record { formed = formed; run = run_past config rest past run; landed = whole.landed; reused = whole.reused }) whole.rundown.told (rest ++ past) whole.rundown.control whole.rundown.reached run
        (omega (arith, none, failures_both rest past))

    over : NoneSharedLeft (pager_after config (rest ++ past))
    over =
        (cleaning_cleans config (rest ++ past) over_run.between over_run.clean.at over_run.clean.clean).over
        (ap (move_of config (rest ++ past)) (sym over_run.clean.is) ∙ whole.rundown.rests)
