-- What a command that runs a trace tells, by what reading and running answer.
use Rattle.std.proofs.Common.{◌≡◌, ℕ, List, refl, arith, inl, inr}
use Rattle.std.specs.Prelude.{◌⊎◌, IfSome, None, Ok, Err}
use Rattle.std.specs.declared.option.Option.{Option}
use Rattle.vm_types.specs.declared.config.Config.{Config}
use Rattle.vm_types.specs.Moved.{moved}
use Rattle.vm_journal.specs.declared.entry.Entry.{Entry}
use Rattle.disk_trait.specs.DepotView.{DepotView}
use Rattle.outside_io.specs.Views.{SinkView, SourceView}
use Rattle.trace_reader.specs.Answer.{AnswersTrace, FaultsByTrace}
use Rattle.trace_reader.specs.declared.fault.TraceFault.{TraceFault}
use Rattle.run_words.specs.Text.{status_line}
use Rattle.command_ends.specs.Concludes.{Concludes, EndsAnswered, IsOutcome}
use Rattle.command_ends.specs.Ends.{Ends}
use Rattle.command_ends.specs.FaultText.{fault_status, fault_told}
use Rattle.command_ends.specs.Tells.{answered, no_memory}
use Rattle.command_ends.specs.Wrongs.{TellsWrong, wrong_of}
use Rattle.command_ends.specs.declared.wrong.Wrong.{Wrong}
use Rattle.command_ends.proofs.Telling.{fault_tells}
use Rattle.command_ends.proofs.Wronging.{fault_wrong, outcome_right, seven_right}
use Rattle.run_commands.specs.Headline.{IsRunAnswer, RunTells}

-- an outcome isn't that of input that is no trace or can't be read
pub not_early : (status : ℕ) → IsOutcome status → (status ≡ 2) ⊎ (status ≡ 3) → ⊥
not_early status outcome early =
    elim outcome [
      | inl zero ↦ elim early [ inl two ↦ omega (arith, zero, two) | inr three ↦ omega (arith, zero, three) ]
      | inr more ↦ elim more [
        | inl five ↦ elim early [ inl two ↦ omega (arith, five, two) | inr three ↦ omega (arith, five, three) ]
        | inr six ↦ elim early [ inl two ↦ omega (arith, six, two) | inr three ↦ omega (arith, six, three) ]
      ]
    ]

module _ (Makes : Config → List Entry → Type 0) {before after : SourceView} {depot depot' : DepotView} {sink sink' : SinkView} {result : ℕ} where
  -- the trace was read, and its configuration was answered
  pub concludes_run : (config : Config) → IfSome before.left (λ text. AnswersTrace (Ok config) text after.left) → FaultsByTrace (Ok config) before.failures after.failures
      → EndsAnswered (IsRunAnswer (Makes config) (moved depot depot') config) sink sink' result → Concludes (TellsWrong (RunTells Makes (moved before after) (moved depot depot')) None) sink sink' result
  concludes_run config means counts (inl told) = record {
    status = told.status;
    text = told.text;
    tells_it = record {
      told = record {
        tells = answered config told.status told.text told.outcome counts means told.answers;
        keeps = λ early. absurd (not_early told.status told.outcome early);
      };
      says = outcome_right told.status told.text told.outcome;
    };
    ends = told.ends;
  }
  concludes_run config means counts (inr none) = record {
    status = 7;
    text = status_line 7;
    tells_it = record {
      told = record {
        tells = no_memory counts;
        keeps = λ early. absurd (elim early [ inl two ↦ omega (arith, two) | inr three ↦ omega (arith, three) ]);
      };
      says = seven_right (status_line 7);
    };
    ends = none;
  }

-- there is no configuration, and no block was made
pub concludes_unread : (Makes : Config → List Entry → Type 0) {before after : SourceView} {depot : DepotView} {sink sink' : SinkView} {result : ℕ} (f : TraceFault) (wrong : Option Wrong)
    → wrong ≡ wrong_of f → IfSome before.left (λ text. AnswersTrace (Err f) text after.left) → FaultsByTrace (Err f) before.failures after.failures
    → Ends sink sink' (fault_status f) (fault_told f) result → Concludes (TellsWrong (RunTells Makes (moved before after) (moved depot depot)) wrong) sink sink' result
concludes_unread Makes {depot = depot} f wrong is means counts ends = record {
  status = fault_status f;
  text = fault_told f;
  tells_it = record { told = record { tells = fault_tells (λ config. IsRunAnswer (Makes config) (moved depot depot) config) f means counts; keeps = λ early. refl }; says = fault_wrong f wrong is };
  ends = ends;
}
