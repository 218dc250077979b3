-- What a step leads to, by its answer, and where the policy is then. Where a step waits for the modified list a
-- cluster is made, and where it waits for a frame one is found. Where it waits for anything else the policy rests: a
-- law of serial_laws says that before the rundown it rests only where each request is answered. This project's own.
use Rattle.std.specs.Prelude.{ℕ, true, false, List, Option, Some, None}
use Rattle.vm_types.specs.declared.config.Config.{Config}
use Rattle.vm_journal.specs.declared.entry.What.{What}
use Rattle.pager_model.specs.Pager.{Pager}
use Rattle.pager_policy.specs.Advance.{NextIs, again_modified_full, again_no_frame, next_again, next_answered, next_carry, next_more}
use Rattle.pager_policy.specs.Moves.{Control, Doing, Move, asking, carries, control, freeing, makes, rests, saving, while_leaving}
use Rattle.pager_policy.specs.Policy.{Ends, ends_part, ends_request, unless_all_failed, unless_first_failed}
use Rattle.pager_policy.specs.Serve.{ServeIs, serve_again, serve_answered, serve_modified_full, serve_more}
use Rattle.pager_policy.specs.Swap.{SwapIs, swap_again, swap_carry, swap_modified_full, swap_more, swap_no_frame, swap_settled}
use Rattle.pager_policy.specs.Rundown.{writer_of}
use Rattle.pager_policy.specs.WriteCluster.{BeginIs, begin_carry, begin_nothing}
use Rattle.policy_tables.specs.Words.{cluster}

-- where no row of finding a frame holds the policy rests
abbrev pub or_rest : Option Move → Move
or_rest None = rests
or_rest (Some m) = m

-- a cluster of this seat, because room is needed; if all of its flights fail it ends this
abbrev pub writes : Config → Pager → ℕ → Ends → Control → Move
writes config a seat ends c = carries seat (cluster config a) (unless_all_failed ends c)

-- a step of the leaving of process q, by this seat: if its eviction is stopped, a cluster in its place
abbrev pub after_leaving : Config → Pager → ℕ → ℕ → Ends → Doing → List What → SwapIs → Move
after_leaving config a seat q ends doing made swap_carry = carries seat made (unless_all_failed ends (while_leaving doing q))
after_leaving config a seat q ends doing made swap_more = makes seat made (while_leaving doing q)
after_leaving config a seat q ends doing made swap_settled = makes seat made (control doing)
after_leaving config a seat q ends doing made (swap_again swap_modified_full) = writes config a seat ends (while_leaving doing q)
after_leaving config a seat q ends doing made (swap_again other) = rests

-- a step of the coming of process p: if it waits for a frame, finding one
abbrev pub after_coming : ℕ → Move → List What → SwapIs → Move
after_coming p finding made swap_carry = carries p made (unless_all_failed ends_request (control asking))
after_coming p finding made swap_more = makes p made (control asking)
after_coming p finding made swap_settled = makes p made (control asking)
after_coming p finding made (swap_again swap_no_frame) = finding
after_coming p finding made (swap_again other) = rests

-- a step for a reference: if an eviction is stopped, a cluster; if it waits for a frame, finding one; if the first of
-- its reads fails it is refused
abbrev pub after_advancing : Config → Pager → ℕ → Move → List What → NextIs → Move
after_advancing config a p finding made next_answered = makes p made (control (saving false p))
after_advancing config a p finding made next_carry = carries p made (unless_first_failed (control asking))
after_advancing config a p finding made next_more = makes p made (control asking)
after_advancing config a p finding made (next_again again_modified_full) = writes config a p ends_request (control asking)
after_advancing config a p finding made (next_again again_no_frame) = finding
after_advancing config a p finding made (next_again other) = rests

-- a step for a service: if an eviction is stopped, a cluster
abbrev pub after_serving : Config → Pager → ℕ → List What → ServeIs → Move
after_serving config a p made serve_answered = makes p made (control (saving false p))
after_serving config a p made serve_more = makes p made (control asking)
after_serving config a p made (serve_again serve_modified_full) = writes config a p ends_request (control asking)
after_serving config a p made (serve_again other) = rests

-- a cluster because the modified list is long, after an answer to process p: if there is none, or all of its flights
-- fail, the writer's part is done
abbrev pub after_beginning : Config → ℕ → List What → BeginIs → Option Move
after_beginning config p made begin_carry = Some (carries (writer_of config) made (unless_all_failed (ends_part (control (freeing false p))) (control (saving true p))))
after_beginning config p made begin_nothing = None
