-- The rundown's next move, as one of the model's. This project's own.
use Rattle.std.specs.Prelude.{Bool, true, false, [], ◌∷◌, Option, Some, None}
use Rattle.vm_types.specs.declared.config.Config.{Config}
use Rattle.vm_journal.specs.declared.entry.EvictWhy.TheVariants as evict
use Rattle.vm_journal.specs.declared.entry.What.{What}
use Rattle.vm_journal.specs.declared.entry.What.TheVariants as what
use Rattle.pager_policy.specs.Given.{page_address}
use Rattle.pager_policy.specs.Moves.{Move, carries, goes, makes, rests}
use Rattle.pager_model.specs.Pager.{Pager}
use Rattle.pager_policy.specs.Rundown.{at_slot, round_move, writer_of, written_for_need}
use Rattle.log_rundown.specs.declared.choice.Choice.{Choice}
use Rattle.log_rundown.specs.declared.choice.Choice.TheVariants.{EvictsPage, Rests, WritesBefore, WritesRound}
use Rattle.log_rundown.specs.declared.eviction.Eviction.{Eviction}

-- the entry that an eviction is
abbrev pub eviction_as : Eviction → What
eviction_as x = what.Evict x.process (page_address x.vpn) x.frame evict.Rundown x.to

-- the move that is chosen
abbrev pub move_as : Config → Pager → Choice → Move
move_as config a (EvictsPage x next) = makes (writer_of config) (eviction_as x ∷ []) (at_slot (x.process).0 next false)
move_as config a (WritesBefore p n) = carries (writer_of config) (written_for_need config a) (λ (all first : Bool). goes (at_slot p.0 n all))
move_as config a (WritesRound following left) = round_move config a following left
move_as config a Rests = rests

-- the move that is chosen at a place, or the later one if there is none
abbrev pub move_or : Config → Pager → Move → Option Choice → Move
move_or config a later None = later
move_or config a later (Some c) = move_as config a c

abbrev pub is_rest : Choice → Bool
is_rest Rests = true
is_rest other = false
