-- A made trace's run is an answer.
use Rattle.std.specs.Prelude.{◌⊎◌, None}
use Rattle.std.proofs.Common.{◌≡◌, ℕ, List, ◌++◌, ◌∙◌, ap, refl, reverse, subst, sym, arith, inl, inr}
use Rattle.vm_types.specs.BlockView.{Retired, Tells}
use Rattle.vm_types.specs.Configuration.{IsWellFormed}
use Rattle.vm_types.specs.declared.config.Config.{Config}
use Rattle.vm_types.specs.Moved.{Moved, moved}
use Rattle.disk_trait.specs.DepotView.{DepotView}
use Rattle.outside_io.specs.Views.{SinkView, SourceView}
use Rattle.pager_model.specs.Run.{pager_after}
use Rattle.pager_model.specs.DirtyPages.{dirty_pages}
use Rattle.pager_policy.specs.Serial.{IsSerial}
use Rattle.run_words.specs.Text.{status_line}
use Rattle.pager_laws.specs.Laws.{RunsAreSound}
use Rattle.command_ends.specs.Concludes.{Concludes, EndsAnswered}
use Rattle.command_ends.specs.Wrongs.{TellsWrong}
use Rattle.command_ends.proofs.Concluding.{unfailed_status}
use Rattle.command_ends.proofs.Telling as telling
use Rattle.command_ends.proofs.Wronging.{outcome_right, seven_right}
use Rattle.command_calls.specs.Moves.{HasNoFailure}
use Rattle.command_calls.proofs.Calling.{HasCauses}
use Rattle.run_text.specs.Parts.{run_status}
use Rattle.serial_run.specs.Ended.{IsCounted}
use Rattle.serial_run.specs.declared.finished.Counted.{Counted}
use Rattle.trace_maker.specs.Made.{made_config}
use Rattle.run_commands.specs.MakeAnswer.{IsCountedRun, IsMakeAnswer, MakeTells, made, no_memory}
use Rattle.run_commands.specs.MakeText.{make_lines}
use Rattle.run_commands.specs.Headline.{IsRunOver, finished_status}
use Rattle.run_commands.specs.declared.make.Make.{Make}
use Rattle.run_commands.proofs.Finishing.{run_ends}
use Rattle.run_commands.proofs.Overs.{MakesAreCaused, run_over}
use Rattle.run_commands.proofs.Running.{HasEnding, Holds, IsRunStatus, is_run_status, six, unfailed_ending}

-- what `make` tells, by how it ends
pub concludes_made : {make : Make} {depot : Moved DepotView} {sink sink' : SinkView} {result : ℕ} → EndsAnswered (IsMakeAnswer make depot) sink sink' result
    → Concludes (TellsWrong (MakeTells make depot) None) sink sink' result
concludes_made (inl told) = record {
  status = told.status;
  text = told.text;
  tells_it = record { told = made told.status told.text told.outcome told.answers; says = outcome_right told.status told.text told.outcome };
  ends = told.ends;
}
concludes_made (inr none) = record { status = 7; text = status_line 7; tells_it = record { told = no_memory; says = seven_right (status_line 7) }; ends = none }

module _ (tells : Tells) (make : Make) (config : Config) (is : config ≡ made_config make.seed make.procs make.refs) (taken : List Retired) (f : Counted) (formed : IsWellFormed config)
    (ended : IsCounted tells config taken f) (depot depot' : DepotView) (known : depot.tells ≡ tells) (longer : depot'.retired ≡ depot.retired ++ taken) (sound : RunsAreSound) (caused : MakesAreCaused IsSerial) where
  pub counted_run : IsCountedRun make (moved depot depot') (run_status (f.dirty).items) (make_lines make (reverse (ended.rest ++ ended.past)) ++ status_line (run_status (f.dirty).items))
  counted_run = record {
    past = ended.past;
    rest = ended.rest;
    over = subst (λ (x : Config). IsRunOver (IsSerial x) (moved depot depot') x ended.past ended.rest) is
        (run_over IsSerial tells config taken (f.dirty).items ended.past ended.rest depot depot' known formed ended.over ended.made longer sound caused);
    ending = ap run_status ended.over.left ∙ ap (λ (x : Config). finished_status x (ended.rest ++ ended.past)) is;
    lines = refl;
  }

-- ---- what follows of the status
make_ending : (make : Make) (depot depot' : DepotView) (status : ℕ) (text : List ℕ) → IsMakeAnswer make (moved depot depot') status text → HasEnding depot depot' status
make_ending make depot depot' status text (inl run) =
    let config = made_config make.seed make.procs make.refs in
    inl (subst (λ n. (n ≡ 0) ⊎ (n ≡ 5)) (sym run.ending) (run_ends (dirty_pages config (pager_after config (run.rest ++ run.past)))))
make_ending make depot depot' status text (inr none) = inr (none.ending, none.failed)

module _ {before after : SourceView} {depot depot' : DepotView} where
  pub told_by_make : (make : Make) (status : ℕ) (text : List ℕ) → MakeTells make (moved depot depot') status text → Holds (Unit {0}) IsRunStatus before after depot depot' status
  told_by_make make status text (made own t outcome right) =
      let ends = make_ending make depot depot' status text right in
      record {
        not_four = (telling.other_number status outcome).2;
        not_one = (telling.other_number status outcome).0;
        read = λ e. absurd ((telling.other_number status outcome).1 e);
        made = six depot depot' status ends;
        complete = λ none unfailed failed. is_run_status status (inl (unfailed_ending depot depot' status failed ends));
      }
  told_by_make make status text no_memory = record {
    not_four = λ e. omega (arith, e);
    not_one = λ e. omega (arith, e);
    read = λ e. absurd (omega (arith, e));
    made = λ e. absurd (omega (arith, e));
    complete = λ none unfailed failed. inr (inr refl);
  }

-- no text goes with status 4 and 3, and with 6 the depot failed
pub causes : (make : Make) {before after : SourceView} {output : Moved SinkView} {depot depot' : DepotView}
    → HasCauses (λ source depot. MakeTells make depot) (record { source = moved before after; output = output; depot = moved depot depot' })
causes make {before = before} {after = after} = record {
  not_four = λ status text told. (told_by_make {before = before} {after = after} make status text told).not_four;
  read = λ status text told. (told_by_make {before = before} {after = after} make status text told).read;
  made = λ status text told. (told_by_make {before = before} {after = after} make status text told).made;
}

-- where nothing failed
pub make_complete : (make : Make) {before after : SourceView} {depot depot' : DepotView} {sink sink' : SinkView} {result : ℕ}
    → Concludes (MakeTells make (moved depot depot')) sink sink' result
    → HasNoFailure (record { source = moved before after; output = moved sink sink'; depot = moved depot depot' }) → IsRunStatus result
make_complete make {before = before} {after = after} c none =
    subst IsRunStatus (sym (unfailed_status c none.wrote none.took)) ((told_by_make {before = before} {after = after} make c.status c.text c.tells_it).complete tt none.read none.made)
