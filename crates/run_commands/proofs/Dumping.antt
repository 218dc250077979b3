-- What `dump` tells, by what reading and running answer.
use Rattle.std.proofs.Common.{◌≡◌, ℕ, List, ◌++◌, ap, refl, subst, sym, arith, inl, inr}
use Rattle.std.specs.Prelude.{◌⊎◌, IfSome, None, Ok, Err, true}
use Rattle.std.specs.declared.option.Option.{Option}
use Rattle.vm_types.specs.BlockView.{Retired, Tells}
use Rattle.vm_types.specs.Configuration.{IsWellFormed}
use Rattle.vm_types.specs.declared.config.Config.{Config}
use Rattle.vm_types.specs.Counts.{Rose}
use Rattle.vm_types.specs.Moved.{Moved, moved}
use Rattle.vm_journal.specs.declared.entry.Entry.{Entry}
use Rattle.disk_trait.specs.DepotView.{DepotView}
use Rattle.outside_io.specs.Views.{SinkView, SourceView}
use Rattle.trace_reader.specs.Answer.{AnswersTrace, FaultsByTrace}
use Rattle.trace_reader.specs.declared.fault.TraceFault.{TraceFault}
use Rattle.pager_model.specs.Asked.{IsAsked}
use Rattle.pager_policy.specs.Serial.{IsSerial}
use Rattle.pager_model.specs.Spoken.{IsRight}
use Rattle.run_words.specs.Text.{status_line}
use Rattle.pager_laws.specs.Laws.{RunsAreSound}
use Rattle.command_ends.specs.Concludes.{Concludes, EndsAnswered}
use Rattle.command_ends.specs.Ends.{Ends}
use Rattle.command_ends.specs.FaultText.{fault_status, fault_told}
use Rattle.command_ends.specs.Tells.{IsTrace, Tells as TraceTells, answered, no_memory}
use Rattle.command_ends.specs.Wrongs.{TellsWrong, wrong_of}
use Rattle.command_ends.specs.declared.wrong.Wrong.{Wrong}
use Rattle.command_ends.proofs.Concluding.{unfailed_status}
use Rattle.command_ends.proofs.Telling as telling
use Rattle.command_ends.proofs.Telling.{fault_tells}
use Rattle.command_calls.specs.Moves.{HasNoFailure}
use Rattle.command_calls.proofs.Calling.{HasCauses}
use Rattle.command_ends.proofs.Wronging.{fault_wrong, outcome_right, seven_right}
use Rattle.dump_bytes.specs.Dumped.{Dumped}
use Rattle.dump_bytes.specs.Text.{dump_text}
use Rattle.dump_laws.specs.DumpAfter.{dump_after}
use Rattle.dump_laws.specs.Laws.{DumpsAreSound}
use Rattle.serial_run.specs.AtReport.{IsAtReport}
use Rattle.run_commands.specs.DumpAnswer.{DumpTells, IsDumpAnswer, IsDumpedRun, IsRunToReport}
use Rattle.run_commands.proofs.Running.{HasEnding, Holds, told_made}
use Rattle.run_commands.proofs.Serving.{not_early}

-- a run up to the report's place, seen by what is seen of the depot before and after
pub run_to_report_over : (tells : Tells) (config : Config) (past : List Entry) (depot depot' : DepotView) → depot.tells ≡ tells → IsAtReport tells.content config past → IsSerial config past
    → (taken : List Retired) × (depot'.retired ≡ depot.retired ++ taken) × IsAsked tells.plan config past taken → RunsAreSound → IsRunToReport (moved depot depot') config past
run_to_report_over tells config past depot depot' known there made back sound = record {
  legal = there.run;
  right = subst (λ (t : Tells). t.content ≡ true → IsRight config past) (sym known) there.right;
  in_order = there.in_order;
  answered = there.answered;
  made = made;
  landed = there.landed;
  reused = there.reused;
  sound = sound config past there.formed there.run;
  taken = back.0;
  longer = back.1;
  asked = subst (λ (t : Tells). IsAsked t.plan config past back.0) (sym known) back.2;
}

-- its dump is an answer
pub dumped_run : (depot : Moved DepotView) (config : Config) (d : Dumped) (past : List Entry) → IsWellFormed config → IsRunToReport depot config past → d ≡ dump_after config past → DumpsAreSound
    → IsDumpedRun depot config 0 (dump_text d)
dumped_run depot config d past formed run is sound = record { past = past; run = run; ending = refl; bytes = ap dump_text is; shown = sound config past formed run.legal }

module _ {before after : SourceView} {depot depot' : DepotView} {sink sink' : SinkView} {result : ℕ} where
  -- the trace was read, and its configuration was answered
  pub concludes_dumped : (config : Config) → IfSome before.left (λ text. AnswersTrace (Ok config) text after.left) → FaultsByTrace (Ok config) before.failures after.failures
      → EndsAnswered (IsDumpAnswer (moved depot depot') config) sink sink' result → Concludes (TellsWrong (DumpTells (moved before after) (moved depot depot')) None) sink sink' result
  concludes_dumped config means counts (inl told) = record {
    status = told.status;
    text = told.text;
    tells_it = record {
      told = record {
        tells = answered config told.status told.text told.outcome counts means told.answers;
        keeps = λ early. absurd (not_early told.status told.outcome early);
      };
      says = outcome_right told.status told.text told.outcome;
    };
    ends = told.ends;
  }
  concludes_dumped config means counts (inr none) = record {
    status = 7;
    text = status_line 7;
    tells_it = record {
      told = record {
        tells = no_memory counts;
        keeps = λ early. absurd (elim early [ inl two ↦ omega (arith, two) | inr three ↦ omega (arith, three) ]);
      };
      says = seven_right (status_line 7);
    };
    ends = none;
  }

-- there is no configuration, and no block was made
pub concludes_undumped : {before after : SourceView} {depot : DepotView} {sink sink' : SinkView} {result : ℕ} (f : TraceFault) (wrong : Option Wrong)
    → wrong ≡ wrong_of f → IfSome before.left (λ text. AnswersTrace (Err f) text after.left) → FaultsByTrace (Err f) before.failures after.failures
    → Ends sink sink' (fault_status f) (fault_told f) result → Concludes (TellsWrong (DumpTells (moved before after) (moved depot depot)) wrong) sink sink' result
concludes_undumped {depot = depot} f wrong is means counts ends = record {
  status = fault_status f;
  text = fault_told f;
  tells_it = record { told = record { tells = fault_tells (IsDumpAnswer (moved depot depot)) f means counts; keeps = λ early. refl }; says = fault_wrong f wrong is };
  ends = ends;
}

-- ---- what follows of the status
abbrev pub IsDumpStatus : ℕ → Type 0
IsDumpStatus status = (status ≡ 0) ⊎ (status ≡ 7)

dump_ending : (depot depot' : DepotView) (config : Config) (status : ℕ) (text : List ℕ) → IsDumpAnswer (moved depot depot') config status text → HasEnding depot depot' status
dump_ending depot depot' config status text (inl run) = inl (inl run.ending)
dump_ending depot depot' config status text (inr none) = inr (none.ending, none.failed)

-- without a failure of the depot it is 0
dump_zero : (depot depot' : DepotView) (config : Config) (status : ℕ) (text : List ℕ) → (Rose depot.failures depot'.failures → ⊥) → IsDumpAnswer (moved depot depot') config status text → status ≡ 0
dump_zero depot depot' config status text made (inl run) = run.ending
dump_zero depot depot' config status text made (inr none) = absurd (made none.failed)

module _ {before after : SourceView} {depot depot' : DepotView} where
  pub told_by_dump : (status : ℕ) (text : List ℕ) → TraceTells (IsDumpAnswer (moved depot depot')) before after status text → Holds (IsTrace before) IsDumpStatus before after depot depot' status
  told_by_dump status text told = record {
    not_four = telling.not_four status text told;
    not_one = telling.not_one status text told;
    read = telling.told_read status text told;
    made = told_made depot depot' (IsDumpAnswer (moved depot depot')) (dump_ending depot depot') status text told;
    complete = λ trace unfailed made. telling.told_answered (λ m. m ≡ 0) (λ config n t outcome right. dump_zero depot depot' config n t made right) status text told trace unfailed;
  }

-- no text goes with status 4, and with 3 and 6 an end failed
pub causes : {before after : SourceView} {output : Moved SinkView} {depot depot' : DepotView}
    → HasCauses DumpTells (record { source = moved before after; output = output; depot = moved depot depot' })
causes = record {
  not_four = λ status text told. (told_by_dump status text told.tells).not_four;
  read = λ status text told. (told_by_dump status text told.tells).read;
  made = λ status text told. (told_by_dump status text told.tells).made;
}

-- over a trace, where nothing failed
pub dump_complete : {before after : SourceView} {depot depot' : DepotView} {sink sink' : SinkView} {result : ℕ}
    → Concludes (DumpTells (moved before after) (moved depot depot')) sink sink' result → IsTrace before
    → HasNoFailure (record { source = moved before after; output = moved sink sink'; depot = moved depot depot' }) → IsDumpStatus result
dump_complete c trace none =
    subst IsDumpStatus (sym (unfailed_status c none.wrote none.took)) ((told_by_dump c.status c.text c.tells_it.tells).complete trace none.read none.made)
