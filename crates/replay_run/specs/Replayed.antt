-- A run by threads, and who made its entries. A past is a journal's list of entries, the newest first. This project's own.
use Rattle.std.specs.Prelude.{◌≡◌, ◌+◌, Bool, true, List, length}
use Rattle.vm_types.specs.declared.config.Config.{Config}
use Rattle.vm_journal.specs.declared.entry.Entry.{Entry}
use Rattle.pager_model.specs.Order.{IsAnswered}
use Rattle.pager_model.specs.Spoken.{IsRight}
use Rattle.serial_laws.specs.Between.{IsBetween}
use Rattle.vm_state.specs.Based.{base_of}
use Rattle.vm_state.specs.History.{History}
use Rattle.vm_state.specs.declared.base.StateBase.{StateBase}
use Rattle.seat_steps.specs.Turns.{EachInTurn}
use Rattle.seat_turns.specs.Rests.{SwapperRests, WriterRests}
use Rattle.replay_run.specs.Worked.{HasWorkedAt}

-- from the last answer on the modified page writer and the swapper have worked, or had nothing to do; and the whole past
-- is made in turns, each of which makes one step of the policy for what its seat works for
pub record HasWorkedAfterAnswers (config : Config) (past : List Entry) : Type 0 where
  pub writer : HasWorkedAt config past (length config.procs) (λ k older a. WriterRests k a)
  pub swapper : HasWorkedAt config past (length config.procs + 1) SwapperRests
  pub turns : EachInTurn config past

-- the state of such a base, at which all requests are answered and nothing is open, after a run by threads; the values
-- that it shows are right where the bytes of blocks are known
pub record HasPlayed (tells : Bool) (b : StateBase) (s : History) : Type 0 where
  pub same : base_of s ≡ b
  pub between : IsBetween s.config s.past
  pub answered : IsAnswered s.config s.past
  pub right : tells ≡ true → IsRight s.config s.past
  pub threaded : HasWorkedAfterAnswers s.config s.past
