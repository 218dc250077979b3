-- The state that comes out of the lock once all workers have ended.
use Rattle.std.proofs.Common.{◌≡◌, ℕ, ◌+◌, ◌<◌, Bool, true, false, List, Some, length, reverse, sym, ap, ◌∙◌, subst}
use Rattle.std.specs.Prelude.{Contains}
use Rattle.std.proofs.lemmas.Option.{same_Some}
use Rattle.vm_types.specs.declared.config.Config.{Config}
use Rattle.vm_journal.specs.declared.entry.Entry.{Entry}
use Rattle.history_lock.specs.Known.{Known}
use Rattle.history_lock.specs.Passes.{numbers, seen}
use Rattle.history_lock.specs.declared.lock.HistoryLock.{HistoryLock}
use Rattle.history_lock.specs.declared.view.View.{View}
use Rattle.pager_model.specs.Order.{IsAnswered}
use Rattle.pager_model.specs.Run.{IsRun}
use Rattle.pager_model.specs.Spoken.{IsRight}
use Rattle.serial_laws.specs.Between.{IsBetween}
use Rattle.seat_steps.specs.Turns.{EachInTurn}
use Rattle.seat_turns.specs.Rests.{SwapperRests, WriterRests}
use Rattle.vm_state.specs.Based.{base_of, kept_entries}
use Rattle.vm_state.specs.History.{History}
use Rattle.vm_state.specs.declared.base.StateBase.{StateBase}
use Rattle.vm_actors.specs.Between.{IsCalm}
use Rattle.vm_actors.specs.declared.ended.Ended.{Ended}
use Rattle.vm_actors.proofs.StillOut.{past_of}
use Rattle.replay_run.specs.Jobs.{IsPlayable}
use Rattle.replay_run.specs.Workers.{AreEnded, WasDone}
use Rattle.replay_run.specs.Replayed.{HasPlayed}
use Rattle.replay_run.specs.Worked.{HasWorkedAt}
use Rattle.replay_run.proofs.Concluding.{all_answered, all_in_turns, is_between, swapper_worked, writer_worked}

pub same_base : (s : History) (v : View StateBase) (b : StateBase) → Known kept_entries base_of s v → v.base ≡ Some b → base_of s ≡ b
same_base s v b known is = same_Some (base_of s) b (sym known.base_is ∙ is)

module _ (b : StateBase) (playable : IsPlayable b) (s : History) (base : base_of s ≡ b) (journal : List Entry) (whole : kept_entries s ≡ journal) (run : IsRun s.config s.past) (calm : IsCalm journal) (done : (k : ℕ) → k < length b.config.procs + 2 → WasDone b k journal) where
  config_is : s.config ≡ b.config
  config_is = ap (λ (x : StateBase). x.config) base

  past_is : s.past ≡ reverse journal
  past_is = past_of s (ap (λ (x : StateBase). x.keeps) base ∙ playable.keeps) ∙ ap reverse whole

  ran : IsRun b.config (reverse journal)
  ran = subst (λ (c : Config). IsRun c (reverse journal)) config_is (subst (IsRun s.config) past_is run)

  -- what holds of the base's configuration and of the journal holds of the state
  there : (P : Config → List Entry → Type 0) → P b.config (reverse journal) → P s.config s.past
  there P holds = subst (λ (c : Config). P c s.past) (sym config_is) (subst (P b.config) (sym past_is) holds)

  played_between : IsBetween s.config s.past
  played_between = there IsBetween (is_between b playable journal ran done calm)

  played_answered : IsAnswered s.config s.past
  played_answered = there IsAnswered (all_answered b playable journal ran done)

  played_writer : HasWorkedAt s.config s.past (length s.config.procs) (λ config older a. WriterRests config a)
  played_writer = there (λ (c : Config) (past : List Entry). HasWorkedAt c past (length c.procs) (λ config older a. WriterRests config a)) (writer_worked b playable journal ran done)

  played_swapper : HasWorkedAt s.config s.past (length s.config.procs + 1) SwapperRests
  played_swapper = there (λ (c : Config) (past : List Entry). HasWorkedAt c past (length c.procs + 1) SwapperRests) (swapper_worked b playable journal ran done)

  played_turns : EachInTurn s.config s.past
  played_turns = there EachInTurn (all_in_turns b playable journal ran done)

  pub has_played : (tells : Bool) → (tells ≡ true → IsRight s.config s.past) → HasPlayed tells b s
  has_played tells right = record {
    same = base;
    between = played_between;
    answered = played_answered;
    right = right;
    threaded = record { writer = played_writer; swapper = played_swapper; turns = played_turns };
  }

-- all numbers are among those of the pass
pub all_done : (b : StateBase) (numbers : List ℕ) (n : ℕ) (journal : List Entry) → ((k : ℕ) → Contains numbers k → WasDone b k journal) → ((k : ℕ) → k < n → Contains numbers k) → (k : ℕ) → k < n → WasDone b k journal
all_done b numbers n journal done all k under = done k (all k under)

-- ---- where the joined ends of all workers stand
module _ {B : Type 0} (lock : HistoryLock History StateBase) (b : StateBase) (n : ℕ) (count : n ≡ length b.config.procs) (ended : Ended B) (are : AreEnded lock b ended) (sufficed : ended.short ≡ false) (all : (k : ℕ) → k < n + 2 → Contains (numbers ended.pass) k) where
  pub every_done : (k : ℕ) → k < length b.config.procs + 2 → WasDone b k (seen ended.pass)
  every_done = subst (λ (m : ℕ). (k : ℕ) → k < m + 2 → WasDone b k (seen ended.pass)) count (all_done b (numbers ended.pass) (n + 2) (seen ended.pass) (are.done sufficed) all)
