-- A run by threads has nothing without a cause: it is made in turns of seats, and its rundown follows.
use Rattle.std.proofs.Common.{false, List, ◌++◌, length, length-append, arith}
use Rattle.vm_types.specs.declared.config.Config.{Config}
use Rattle.vm_journal.specs.declared.entry.Entry.{Entry}
use Rattle.pager_policy.specs.Rundown.{at_slot}
use Rattle.serial_causes.specs.Laws.{RundownIsCaused}
use Rattle.turn_causes.specs.Laws.{WholeInTurnsIsCaused}
use Rattle.serial_causes.proofs.SerialCaused.{reached_run}
use Rattle.replay_run.specs.Replayed.{HasWorkedAfterAnswers}
use Rattle.run_commands.proofs.Overs.{MakesAreCaused}

pub replays_caused : WholeInTurnsIsCaused → RundownIsCaused → MakesAreCaused HasWorkedAfterAnswers
replays_caused in_turns after config past rest formed run few worked whole =
    let rundown = whole.rundown in
    let run_there = reached_run config past (at_slot 0 0 false) rundown.told (rest ++ past) rundown.control rundown.reached run in
    let size = length-append rest past in
    after config past rest whole (in_turns config past formed run_there (omega (arith, few, size)) worked.turns)
