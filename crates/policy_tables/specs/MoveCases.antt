-- The moves of the serial policy, as tables, by where it is. This project's own; the writer's and swapper's triggers
-- by Kenah and Bate, "VAX/VMS Internals and Data Structures", the modified page writer (HILIMIT, LOLIMIT) and the
-- swapper (FREELIM, FREEGOAL).
use Rattle.std.specs.Prelude.{ℕ, Bool, true, false, ◌&&◌, List, ◌∷◌, Option, None}
use Rattle.vm_types.specs.declared.config.Config.{Config}
use Rattle.vm_types.specs.declared.reply.Reply.{Reply}
use Rattle.vm_journal.specs.declared.entry.Entry.{Entry}
use Rattle.pager_model.specs.Pager.{Pager}
use Rattle.pager_policy.specs.Given.{Given}
use Rattle.pager_policy.specs.Moves.{Control, Doing, Move, asking, cleaning, control, freeing, saving}
use Rattle.pager_policy.specs.Policy.{ends_part, is_freeing, is_saving, swapper_of}
use Rattle.pager_policy.specs.WriteCluster.{BeginIs, reason_high}
use Rattle.policy_tables.specs.BeginCases.{begin_cases}
use Rattle.policy_tables.specs.Rows.{first_case, only_if, row_on}
use Rattle.policy_tables.specs.RundownCases.{rundown_cases}
use Rattle.policy_tables.specs.Steps.{after_beginning}
use Rattle.policy_tables.specs.AskingCases.{asking_cases, finding_cases, leaves}

-- this reply, whatever it is, stands in the DONE of a reference that is answered next
module _ (config : Config) (past : List Entry) (a : Pager) (reply : Reply) where
  -- in the swapper's part after an answer to process p, which may have begun, and is done if a carrier fails
  abbrev pub freeing_cases : Option ℕ → Bool → ℕ → List (Option Move)
  freeing_cases left begun p =
      -- a process is being swapped out: a step of its leaving, or a cluster if its eviction is stopped; here, begun,
      -- and until it has left it is being swapped out
      row_on left (λ (q : ℕ). leaves config past a reply (swapper_of config) q (ends_part (control asking)) (freeing true p))
      -- the free list is shorter than FREEGOAL, and unless the part has begun also than FREELIM, and a row of finding
      -- a frame holds: finding a frame; here, begun
      ∷ only_if (is_freeing config a begun && is_freeing config a true) (first_case (finding_cases config past a reply (swapper_of config) p (ends_part (control asking)) (freeing true p)))
      -- the part is done: the rows at the next request
      ∷ asking_cases config past a reply left

  -- in the writer's part after an answer to process p, which may have begun, and is done if a carrier fails
  abbrev pub saving_cases : Bool → ℕ → List (Option Move)
  saving_cases begun p =
      -- the modified list is longer than LOLIMIT, and unless the part has begun also than HILIMIT: a cluster; here,
      -- begun
      row_on (only_if (is_saving config a begun) (first_case (begin_cases config a reason_high))) (λ (g : Given BeginIs). after_beginning config p g.made g.answer)
      -- the part is done: the rows in the swapper's part
      ∷ freeing_cases None false p

  abbrev pub move_cases : Control → List (Option Move)
  move_cases c = by c.doing where
    by : Doing → List (Option Move)
    by asking = asking_cases config past a reply c.leaving
    by (saving begun p) = saving_cases begun p
    by (freeing begun p) = freeing_cases c.leaving begun p
    by (cleaning at) = rundown_cases config past a at
