-- A run that has ended is an answer to its configuration.
use Rattle.std.proofs.Common.{◌≡◌, ℕ, Bool, true, false, List, ◌++◌, length, refl, sym, ◌∙◌, ap, subst, inl, inr}
use Rattle.std.specs.Prelude.{◌⊎◌, nat_eq, if◌then◌else◌}
use Rattle.vm_types.specs.BlockView.{Retired, Tells}
use Rattle.vm_types.specs.Configuration.{IsWellFormed}
use Rattle.vm_types.specs.declared.config.Config.{Config}
use Rattle.vm_types.specs.declared.names.Page.{Page}
use Rattle.vm_journal.specs.declared.entry.Entry.{Entry}
use Rattle.disk_trait.specs.DepotView.{DepotView}
use Rattle.run_words.specs.Text.{run_text}
use Rattle.pager_laws.specs.Laws.{RunsAreSound}
use Rattle.vm_types.specs.Moved.{moved}
use Rattle.command_ends.specs.Concludes.{IsOutcome}
use Rattle.run_text.specs.Parts.{run_status}
use Rattle.run_text.specs.Reported.{AreParts, IsReported}
use Rattle.serial_run.specs.Ended.{IsFinished}
use Rattle.serial_run.specs.declared.finished.Finished.{Finished}
use Rattle.run_commands.specs.Headline.{IsFinishedRun}
use Rattle.run_commands.proofs.Overs.{MakesAreCaused, run_over}

abbrev status_by : Bool → ℕ
status_by none = if none then 0 else 5

-- the status of a run is 0 or 5
pub run_ends : (dirty : List Page) → (run_status dirty ≡ 0) ⊎ (run_status dirty ≡ 5)
run_ends dirty = by (nat_eq (length dirty) 0) where
  by : (none : Bool) → (status_by none ≡ 0) ⊎ (status_by none ≡ 5)
  by true = inl refl
  by false = inr refl

pub run_outcome : (dirty : List Page) → IsOutcome (run_status dirty)
run_outcome dirty = elim (run_ends dirty) [ inl zero ↦ inl zero | inr five ↦ inr (inl five) ]

module _ (Makes : Config → List Entry → Type 0) (tells : Tells) (config : Config) (taken : List Retired) (f : Finished) (entries : List Entry) (dirty : List Page)
    (formed : IsWellFormed config) (ended : IsFinished Makes tells config taken f)
    (all : entries ≡ (f.entries).items) (left : dirty ≡ (f.dirty).items) where
  pub are_parts : AreParts entries f.at ended.past ended.rest
  are_parts = record { all = all ∙ ended.all; place = ended.at }

  pub is_reported : IsReported f.config entries f.at f.report dirty
  is_reported =
      subst (λ (x : Config). IsReported x entries f.at f.report dirty) (sym ended.same)
      (record {
        past = ended.past;
        rest = ended.rest;
        parts = are_parts;
        formed = formed;
        legal = ended.over.run.run;
        recount = ended.report;
        printable = ended.printable;
        last = left ∙ ended.over.left;
      })

  module _ (depot depot' : DepotView) (known : depot.tells ≡ tells) (longer : depot'.retired ≡ depot.retired ++ taken) (sound : RunsAreSound) (caused : MakesAreCaused Makes) where
    pub finished_run : IsFinishedRun (Makes config) (moved depot depot') config (run_status dirty) (run_text f.config ended.past ended.rest (run_status dirty))
    finished_run = record {
      past = ended.past;
      rest = ended.rest;
      over = run_over Makes tells config taken (f.dirty).items ended.past ended.rest depot depot' known formed ended.over ended.made longer sound caused;
      ending = ap run_status (left ∙ ended.over.left);
      lines = ap (λ (x : Config). run_text x ended.past ended.rest (run_status dirty)) ended.same;
    }
