-- A run whose body and rundown are done.
use Rattle.std.proofs.Common.{◌≡◌, ℕ, ◌+◌, ◌^◌, ◌≤◌, Bool, true, List, [], ◌++◌, length, sym, ap, ◌∙◌, subst, arith}
use Rattle.std.proofs.lemmas.List.{append-nil}
use Rattle.vm_types.specs.declared.config.Config.{Config}
use Rattle.vm_journal.specs.declared.entry.Entry.{Entry}
use Rattle.pager_model.specs.Order.{IsAnswered, IsInOrder, answered}
use Rattle.pager_model.specs.Report.{report_of}
use Rattle.pager_model.specs.Run.{IsRun, pager_after}
use Rattle.pager_policy.specs.Serial.{IsRundown, IsSerial, IsWhole}
use Rattle.pager_model.specs.Spoken.{IsRight}
use Rattle.pager_model.specs.DirtyPages.{dirty_pages}
use Rattle.content_laws.proofs.EndContent.{nowhere_uncharged}
use Rattle.call_laws.proofs.SerialInOrder.{serial_answered}
use Rattle.run_text.specs.Printable.{IsPrintable}
use Rattle.policy_ends.proofs.CleanRuns.{no_failure_no_dirt}
use Rattle.policy_ends.proofs.DirtyRuns.{dirty_because}
use Rattle.serial_laws.specs.Between.{IsBetween}
use Rattle.carried_landings.specs.Moved.{IsSameBut}
use Rattle.vm_state.specs.History.{History}
use Rattle.serial_run.specs.AtReport.{IsAtReport, IsReportReached}
use Rattle.serial_run.specs.Ended.{HasEnded}
use Rattle.serial_run.specs.declared.run.Ending.{Ending}

-- at the report's place the run is between two moves
pub between_there : (tells : Bool) (config : Config) (past : List Entry) → IsAtReport tells config past → IsBetween config past
between_there tells config past there = record { formed = there.formed; run = there.run; landed = there.landed; reused = there.reused }

-- where the policy rests every request is answered
answered_there : (s : History) → IsSerial s.config s.past → IsAnswered s.config s.past
answered_there s serial = serial_answered s.config s.past serial.control serial.reached serial.none_left

-- between two moves, where every request is answered, is the report's place
pub at_report : (tells : Bool) (config : Config) (past : List Entry) → IsBetween config past → IsAnswered config past → (tells ≡ true → IsRight config past) → IsAtReport tells config past
at_report tells config past between all right = record {
  formed = between.formed;
  run = between.run;
  right = right;
  in_order = λ p. ([], append-nil (answered p past) ∙ all p);
  answered = all;
  landed = between.landed;
  reused = between.reused;
}

-- where the policy rests is the report's place
pub is_there : (tells : Bool) (s : History) → IsBetween s.config s.past → IsSerial s.config s.past → (tells ≡ true → IsRight s.config s.past) → IsAtReport tells s.config s.past
is_there tells s between serial right = at_report tells s.config s.past between (answered_there s serial) right

-- a state that was started with the configuration and has come there
pub is_reached : (tells : Bool) (config : Config) (first s : History) → first.config ≡ config → first.keeps ≡ true → IsSameBut first s → IsAtReport tells s.config s.past → IsSerial s.config s.past → IsReportReached tells config s
is_reached tells config first s own keeps same there serial =
    let config_is : s.config ≡ config = ap (λ (x : History). x.config) same ∙ own in
    record {
      same = config_is;
      keeps = ap (λ (x : History). x.keeps) same ∙ keeps;
      there = subst (λ (k : Config). IsAtReport tells k s.past) config_is there;
      serial = subst (λ (k : Config). IsSerial k s.past) config_is serial;
    }

-- and there by its own configuration
pub reached_there : (tells : Bool) (config : Config) (s : History) → IsReportReached tells config s → IsAtReport tells s.config s.past
reached_there tells config s reached = subst (λ (k : Config). IsAtReport tells k s.past) (sym reached.same) reached.there

-- each entry has a number, whatever places are spare
pub few_entries : (past : List Entry) (spare : ℕ) → length past + spare ≤ 2 ^ 48 → length past ≤ 2 ^ 48
few_entries past spare short = omega (arith, short)

module _ (tells : Bool) (mid s : History) (ending : Ending) (same : IsSameBut mid s) where
  config_is : s.config ≡ mid.config
  config_is = ap (λ (x : History). x.config) same

  there : (P : Config → Type 0) → P mid.config → P s.config
  there P = subst P (sym config_is)

  pub has_ended : IsAtReport tells mid.config mid.past → IsBetween s.config s.past → IsAnswered s.config s.past → (tells ≡ true → IsRight s.config s.past)
      → (rest : List Entry) × (s.past ≡ rest ++ mid.past) × IsRundown mid.config mid.past rest
      → ending.at ≡ length mid.past → ending.report ≡ report_of mid.config mid.past (pager_after mid.config mid.past) → IsPrintable mid.config.sections ending.report
      → (ending.dirty).items ≡ dirty_pages s.config (pager_after s.config s.past) → length s.past ≤ 2 ^ 48 → HasEnded tells mid.past s ending
  has_ended begun ended all right down at report printable dirty few =
      let ran : IsRun s.config (down.0 ++ mid.past) = subst (λ (p : List Entry). IsRun s.config p) down.1 ended.run in
      let whole : IsWhole s.config mid.past down.0 = record {
        answered = there (λ (k : Config). IsAnswered k mid.past) begun.answered;
        landed = begun.landed;
        reused = begun.reused;
        rundown = there (λ (k : Config). IsRundown k mid.past down.0) down.2;
      } in
      record {
        rest = down.0;
        all = down.1;
        landed = ended.landed;
        nowhere = nowhere_uncharged s.config s.past ended.formed ended.run ended.landed ended.reused;
        run = record {
          run = ran;
          right = λ told. subst (IsRight s.config) down.1 (right told);
          in_order = subst (λ (p : List Entry). IsInOrder s.config p) down.1 (λ p. ([], append-nil (answered p s.past) ∙ all p));
          whole = whole;
          few = subst (λ (p : List Entry). length p ≤ 2 ^ 48) down.1 few;
        };
        at = at;
        report = there (λ (k : Config). ending.report ≡ report_of k mid.past (pager_after k mid.past)) report;
        printable = there (λ (k : Config). IsPrintable k.sections ending.report) printable;
        dirty = subst (λ (p : List Entry). (ending.dirty).items ≡ dirty_pages s.config (pager_after s.config p)) down.1 dirty;
        clean = no_failure_no_dirt s.config mid.past down.0 ended.formed ran whole;
        dirty_because = dirty_because s.config mid.past down.0 ended.formed ran whole;
      }
