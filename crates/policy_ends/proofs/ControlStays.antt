-- Where the policy is fits the past under a body with one more request, and it goes on to that request.
use Rattle.std.proofs.Common.{◌≡◌, ◌⊎◌, inl, inr, ℕ, false, List, [], ◌∷◌, ◌++◌, Option, Some, None, length, refl, sym, ap, ◌∙◌}
use Rattle.std.proofs.lemmas.Option.{none-some}
use Rattle.vm_types.specs.Configuration.{IsWellFormed}
use Rattle.vm_types.specs.declared.config.Config.{Config}
use Rattle.vm_types.specs.declared.config.Task.{Task}
use Rattle.vm_journal.specs.declared.entry.Entry.{Entry}
use Rattle.pager_model.specs.Run.{IsRun, pager_after}
use Rattle.pager_model.specs.Spoken.{spoken}
use Rattle.pager_policy.specs.Moves.{Control, Doing, asking, cleaning, freeing, rests, saving}
use Rattle.pager_policy.specs.Policy.{move_of, next_task, task_move}
use Rattle.pager_policy.specs.Serial.{IsSerialTo}
use Rattle.serial_laws.specs.Between.{IsBetween}
use Rattle.serial_laws.specs.Controlled.{AreTouched, HasTouched, IsControlled, IsInBody, IsRead, MayRefuseMeanwhile}
use Rattle.serial_laws.proofs.Kept.{rests_last}
use Rattle.pager_laws.specs.Bodies.{MayBeAdded, has_rundown, with_task}
use Rattle.policy_ends.specs.BodyMoves.{move_at}
use Rattle.policy_ends.proofs.BodyMoves.{HasTask, placed}
use Rattle.policy_ends.proofs.MovesStay.{ends_go_on, next_behind, next_stays}
use Rattle.pager_laws.proofs.RunsStay.{formed_stays, runs_stay}

module _ (config : Config) (task : Task) (past : List Entry) where
  abbrev more : Config
  more = with_task config task

  read_stays : AreTouched (pager_after config past) ⊎ IsRead config past → AreTouched (pager_after config past) ⊎ IsRead more past
  read_stays (inl touched) = inl touched
  read_stays (inr read) = inr (record {
    task = read.task;
    next = next_stays config past task read.task read.next;
    reference = read.reference;
    asked = read.asked;
    resident = read.resident;
    allowed = read.allowed;
    entry = read.entry;
    valid = read.valid;
    page = read.page;
    mapped = read.mapped;
    others = read.others;
  })

  touched_stays : (d : Doing) (o : Option ℕ) → HasTouched config past d o → HasTouched more past d o
  touched_stays asking None touched = read_stays touched
  touched_stays asking (Some q) touched = touched
  touched_stays (saving begun p) o touched = touched
  touched_stays (freeing begun p) o touched = touched
  touched_stays (cleaning at) o touched = touched

  -- the request that comes next is the same
  waiting_by : (q : ℕ) (o : Option Task) → next_task config past ≡ o → (o ≡ None → ⊥) → MayRefuseMeanwhile config past asking (Some q) → MayRefuseMeanwhile more past asking (Some q)
  waiting_by q None next some waits = absurd (some refl)
  waiting_by q (Some first) next some waits =
      λ other is. waits other (next ∙ (sym (next_stays config past task first next) ∙ is))

  waiting_stays : (d : Doing) (o : Option ℕ) → HasTask config past d o → MayRefuseMeanwhile config past d o → MayRefuseMeanwhile more past d o
  waiting_stays asking None has waits = tt
  waiting_stays asking (Some q) has waits = waiting_by q (next_task config past) refl has waits
  waiting_stays (saving begun p) o has waits = tt
  waiting_stays (freeing begun p) o has waits = tt
  waiting_stays (cleaning at) o has waits = tt

  fits_longer : (c : Control) → HasTask config past c.doing c.leaving → IsControlled config past c → IsControlled more past c
  fits_longer c has fits = record {
    leaving = fits.leaving;
    answered_process = fits.answered_process;
    waiting = waiting_stays c.doing c.leaving has fits.waiting;
    touched = touched_stays c.doing c.leaving fits.touched;
  }

  pub control_stays : (c : Control) → IsWellFormed config → IsRun config past → IsSerialTo config past c → IsControlled more past c
  control_stays c formed run serial =
      let at = placed config serial.told past c formed serial.reached run in
      fits_longer c at.task at.controlled

  -- ---- the move at the shorter body's end
  between_stays : MayBeAdded config task → has_rundown past ≡ false → IsBetween config past → IsBetween more past
  between_stays may none between = record {
    formed = formed_stays config task between.formed may;
    run = runs_stay config (config.body ++ task ∷ []) past none between.run;
    landed = between.landed;
    reused = between.reused;
  }

  -- it doesn't rest under the longer one
  not_resting : (c : Control) → MayBeAdded config task → has_rundown past ≡ false → IsBetween config past → HasTask config past c.doing c.leaving → IsControlled config past c → IsInBody c.doing → spoken past ≡ length config.body
      → move_of more past c ≡ rests → ⊥
  not_resting c may none between has fits body all is =
      none-some task (sym (rests_last more past c (between_stays may none between) (fits_longer c has fits) body is) ∙ next_behind config past task all)

  by_end : (c : Control) → (move_of more past c ≡ rests → ⊥) → move_of config past c ≡ rests
      → (move_of more past c ≡ move_of config past c) ⊎ ((move_of config past c ≡ rests) × (move_of more past c ≡ move_at config task past c)) → move_of more past c ≡ move_at config task past c
  by_end c some rested (inl same) = absurd (some (same ∙ rested))
  by_end c some rested (inr goes_on) = goes_on.1

  asks : (o : Option ℕ) → next_task more past ≡ Some task → move_of more past (record { doing = asking; leaving = o }) ≡ move_at config task past (record { doing = asking; leaving = o })
  asks o is = ap (task_move config past (pager_after config past) o) is

  pub rests_go_on : (c : Control) → MayBeAdded config task → has_rundown past ≡ false → IsBetween config past → IsControlled config past c → IsInBody c.doing → spoken past ≡ length config.body
      → move_of config past c ≡ rests → move_of more past c ≡ move_at config task past c
  rests_go_on c may none between fits body all rested = by c.doing c.leaving body fits rested
    where
      at_end : (d : Doing) (o : Option ℕ) → HasTask config past d o → IsInBody d → IsControlled config past (record { doing = d; leaving = o }) → move_of config past (record { doing = d; leaving = o }) ≡ rests
          → move_of more past (record { doing = d; leaving = o }) ≡ move_at config task past (record { doing = d; leaving = o })
      at_end d o has inside there is =
          by_end (record { doing = d; leaving = o }) (not_resting (record { doing = d; leaving = o }) may none between has there inside all) is (ends_go_on config past task (record { doing = d; leaving = o }) all)

      by : (d : Doing) (o : Option ℕ) → IsInBody d → IsControlled config past (record { doing = d; leaving = o }) → move_of config past (record { doing = d; leaving = o }) ≡ rests
          → move_of more past (record { doing = d; leaving = o }) ≡ move_at config task past (record { doing = d; leaving = o })
      by asking o inside there is = asks o (next_behind config past task all)
      by (saving begun p) o inside there is = at_end (saving begun p) o tt inside there is
      by (freeing begun p) o inside there is = at_end (freeing begun p) o tt inside there is
      by (cleaning at) o inside there is = absurd inside
