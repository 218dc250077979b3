-- The moves of the serial policy at a request, as tables. This project's own.
use Rattle.std.specs.Prelude.{ℕ, List, [], ◌∷◌, Option, Some, length, nat_lt, not}
use Rattle.std.specs.Option.{is_some}
use Rattle.vm_types.specs.Status.{is_coming, is_leaving}
use Rattle.vm_types.specs.declared.config.Config.{Config}
use Rattle.vm_types.specs.declared.config.Task.{Task}
use Rattle.vm_types.specs.declared.names.ProcStatus.TheVariants as status
use Rattle.vm_types.specs.declared.reference.Ref.{Ref}
use Rattle.vm_types.specs.declared.reply.Reply.{Reply}
use Rattle.vm_types.specs.declared.service.Request.{Request}
use Rattle.vm_types.specs.declared.service.Service.{Service}
use Rattle.vm_journal.specs.declared.entry.Entry.{Entry}
use Rattle.vm_journal.specs.declared.entry.What.TheVariants as what
use Rattle.pager_model.specs.Maps.{proc}
use Rattle.pager_model.specs.Pager.{Pager}
use Rattle.pager_policy.specs.Advance.{GivenNext}
use Rattle.pager_policy.specs.Moves.{Doing, Move, asking, control, makes, rests, while_leaving}
use Rattle.pager_policy.specs.Policy.{Ends, coming_process, ends_request, leaving_other, next_task}
use Rattle.pager_policy.specs.Serve.{GivenServe}
use Rattle.pager_policy.specs.Swap.{GivenSwap, victim_gives}
use Rattle.policy_tables.specs.AdvanceCases.{advance_cases}
use Rattle.policy_tables.specs.ComeCases.{come_cases}
use Rattle.policy_tables.specs.LeaveCases.{leave_cases}
use Rattle.policy_tables.specs.Rows.{first_case, if_there, only_if, row_on, rows_on, when}
use Rattle.policy_tables.specs.ServeCases.{serve_cases}
use Rattle.policy_tables.specs.Steps.{after_advancing, after_coming, after_leaving, after_serving, or_rest, writes}
use Rattle.policy_tables.specs.Words.{is_gone, reference_of, service_of}

-- this reply, whatever it is, stands in the DONE of a reference that is answered next
module _ (config : Config) (past : List Entry) (a : Pager) (reply : Reply) where
  -- a step of the leaving of process q, by this seat; a carrier that fails ends this
  abbrev pub leaves : ℕ → ℕ → Ends → Doing → Option Move
  leaves seat q ends doing = if_there (first_case (leave_cases config past a q)) (λ (g : GivenSwap). after_leaving config a seat q ends doing g.made g.answer)

  -- finding a frame, by this seat, for process p; if a carrier fails, that ends the request or the part it is for
  abbrev pub finding_cases : ℕ → ℕ → Ends → Doing → List (Option Move)
  finding_cases seat p ends doing =
      -- the modified list isn't empty: a cluster; here
      when (nat_lt 0 (length a.modified)) (writes config a seat ends (control doing))
      -- another process is leaving: a step of the leaving of the lowest such one, or a cluster if its eviction is
      -- stopped; here, and until it has left that process is being swapped out
      ∷ row_on (leaving_other config a p) (λ (q : ℕ). leaves seat q ends doing)
      -- another process may leave: TURN to leaving of the resident one that has spoken least recently (the lowest of
      -- several that haven't), or else of the coming one; here, and that process is being swapped out
      ∷ if_there (victim_gives config past a (Some p)) (λ (q : ℕ). makes seat (what.Turn (proc q) status.Leaving ∷ []) (while_leaving doing q))
      ∷ []

  abbrev finds : ℕ → Move
  finds p = or_rest (first_case (finding_cases p p ends_request asking))

  -- at a request of process p, which is refused if a carrier fails
  abbrev pub request_cases : Option ℕ → ℕ → Request → List (Option Move)
  request_cases left p request =
      -- a process is being swapped out: a step of its leaving, or a cluster if its eviction is stopped; here, and until
      -- it has left it is being swapped out
      row_on left (λ (q : ℕ). leaves p q ends_request asking)
      -- the process is leaving: a step of its leaving, or a cluster if its eviction is stopped; here, and until it has
      -- left it is being swapped out
      ∷ only_if (is_leaving (a.status p)) (leaves p p ends_request asking)
      -- it is gone, and another one is coming: TURN of that one to leaving; here, and that one is being swapped out
      ∷ if_there (only_if (is_gone (a.status p)) (coming_process config a)) (λ (q : ℕ). makes p (what.Turn (proc q) status.Leaving ∷ []) (while_leaving asking q))
      -- it is gone, and none is coming: TURN of it to coming; here
      ∷ when (is_gone (a.status p)) (makes p (what.Turn (proc p) status.Coming ∷ []) (control asking))
      -- it is coming: a step of its coming, or finding a frame if it waits for one; here
      ∷ only_if (is_coming (a.status p)) (if_there (first_case (come_cases config past a p)) (λ (g : GivenSwap). after_coming p (finds p) g.made g.answer))
      -- it is resident, and makes a reference: a step for it, or a cluster if its eviction is stopped, or finding a
      -- frame if it waits for one; here, but after an answer in the writer's part
      ∷ row_on (reference_of request) (λ (r : Ref). if_there (first_case (advance_cases config past a p r reply)) (λ (g : GivenNext). after_advancing config a p (finds p) g.made g.answer))
      -- it is resident, and asks for a service: a step for it, or a cluster if its eviction is stopped; here, but after
      -- an answer in the writer's part
      ∷ row_on (service_of request) (λ (s : Service). if_there (first_case (serve_cases config past a p s)) (λ (g : GivenServe). after_serving config a p g.made g.answer))
      ∷ []

  -- at the next request
  abbrev pub asking_cases : Option ℕ → List (Option Move)
  asking_cases left =
      -- each request is answered: none; it rests
      when (not (is_some (next_task config past))) rests
      -- a request is to be answered: the rows at a request, for the next one
      ∷ rows_on (next_task config past) (λ (task : Task). request_cases left (task.proc).0 task.request)
