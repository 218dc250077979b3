use Rattle.vm_state.specs.Based.{base_of}
use Rattle.replay_run.proofs.Joining.{both_ended}
use Rattle.replay_run.proofs.ending.join_ends.Goals as goal

pub returns-clause-ended : goal.returns-clause-ended
returns-clause-ended g c =
    both_ended c.args.lock.now (base_of c.args._of.now.value) c.args.first c.args.second _ c.requires.first c.requires.second c.absorb.ensures.same c.absorb.ensures.idle c.absorb.ensures.base c.absorb.ensures.numbers c.absorb.ensures.seen c.absorb.ensures.begins c.absorb.ensures.other_begins c.absorb.ensures.entries c.absorb.ensures.other_entries c.either-any.ensures
