-- What ends the command, and that a trace doesn't have the process that is studied. Source: this project's own.
use Rattle.std.specs.Prelude.{◌≡◌, ℕ, nat_le, length, None, Some, Result, Ok, Err, if◌then◌else◌}
use Rattle.std.specs.declared.option.Option.{Option}
use Rattle.vm_types.specs.declared.config.Config.{Config}
use Rattle.vm_types.specs.declared.names.Proc.{Proc}
use Rattle.trace_reader.specs.declared.fault.TraceFault.{TraceFault}
use Rattle.outside_io.specs.Views.{SinkView}
use Rattle.command_ends.specs.Concludes.{EndsAnswered}
use Rattle.command_ends.specs.Ends.{Ends}
use Rattle.command_ends.specs.FaultText.{fault_status, fault_told}
use Rattle.command_ends.specs.Wrongs.{wrong_of}
use Rattle.command_ends.specs.declared.wrong.Wrong.{Wrong}
use Rattle.command_ends.specs.declared.wrong.Wrong.TheVariants.{Undeclared}
use Rattle.study_command.specs.StudyText.{IsStudyAnswer}
use Rattle.study_command.specs.declared.words.Study.{Study}

abbrev pub undeclared : Config → Proc → Option Wrong
undeclared config process = if nat_le (length config.procs) process.0 then Some (Undeclared process) else None

-- how the command ends, and what is wrong: by the configuration, or by what is wrong with the trace
abbrev pub EndsStudied : Study → Result Config TraceFault → SinkView → SinkView → ℕ → Option Wrong → Type 0
EndsStudied study (Ok config) before after status wrong = EndsAnswered (IsStudyAnswer study config) before after status × (wrong ≡ undeclared config study.process)
EndsStudied study (Err fault) before after status wrong = Ends before after (fault_status fault) (fault_told fault) status × (wrong ≡ wrong_of fault)
