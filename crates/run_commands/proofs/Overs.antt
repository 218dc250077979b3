-- A run that is over, seen by what is seen of the depot before and after.
use Rattle.std.proofs.Common.{◌≡◌, ◌∙◌, ◌<◌, ◌^◌, List, ◌++◌, length, subst, sym, arith}
use Rattle.vm_types.specs.BlockView.{Retired, Tells}
use Rattle.vm_types.specs.Configuration.{IsWellFormed}
use Rattle.vm_types.specs.Moved.{moved}
use Rattle.vm_types.specs.declared.config.Config.{Config}
use Rattle.vm_types.specs.declared.names.Page.{Page}
use Rattle.vm_journal.specs.declared.entry.Entry.{Entry}
use Rattle.disk_trait.specs.DepotView.{DepotView}
use Rattle.pager_model.specs.Run.{IsRun}
use Rattle.pager_policy.specs.Serial.{IsWhole}
use Rattle.pager_laws.specs.Laws.{RunsAreSound}
use Rattle.entry_causes.specs.Caused.{IsCausedThroughout}
use Rattle.serial_run.specs.Ended.{IsOver}
use Rattle.run_commands.specs.Headline.{IsRunOver}

-- whoever so makes the entries up to the report's place, each entry of the run has its cause
abbrev pub MakesAreCaused : (Config → List Entry → Type 0) → Type 0
MakesAreCaused Makes =
    (config : Config) (past rest : List Entry) → IsWellFormed config → IsRun config (rest ++ past) → length (rest ++ past) < 2 ^ 63 → Makes config past → IsWhole config past rest
    → IsCausedThroughout config (rest ++ past)

pub run_over : (Makes : Config → List Entry → Type 0) (tells : Tells) (config : Config) (taken : List Retired) (dirty : List Page) (past rest : List Entry) (depot depot' : DepotView) → depot.tells ≡ tells → IsWellFormed config
    → IsOver tells config taken dirty past rest → Makes config past → depot'.retired ≡ depot.retired ++ taken → RunsAreSound → MakesAreCaused Makes → IsRunOver (Makes config) (moved depot depot') config past rest
run_over Makes tells config taken dirty past rest depot depot' known formed over made longer sound caused =
    let its = subst (λ (t : Tells). IsOver t config taken dirty past rest) (sym known) over in
    record {
      legal = its.run.run;
      right = its.run.right;
      in_order = its.run.in_order;
      whole = its.run.whole;
      made = made;
      caused = let few = over.run.few in caused config past rest formed over.run.run (omega (arith, few)) made over.run.whole;
      sound = sound config (rest ++ past) formed over.run.run;
      taken = taken;
      longer = longer;
      asked = its.asked;
      few = its.few;
      complete = λ none. ((its.complete none).0, sym its.left ∙ (its.complete none).1);
      dirty_because = its.dirty_because;
      written = its.written;
    }
