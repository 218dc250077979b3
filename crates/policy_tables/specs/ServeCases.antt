-- One step for a service, as a table. Source: Kenah and Bate, "VAX/VMS Internals and Data Structures", memory
-- management system services; the order of the rows is this project's own.
use Rattle.std.specs.Prelude.{ℕ, List, [], ◌∷◌, Option, not}
use Rattle.vm_types.specs.Status.{is_resident}
use Rattle.vm_types.specs.declared.config.Config.{Config}
use Rattle.vm_types.specs.declared.reply.Answer.{Answer}
use Rattle.vm_types.specs.declared.service.Service.{Service}
use Rattle.vm_journal.specs.declared.entry.Entry.{Entry}
use Rattle.vm_journal.specs.declared.entry.What.{What}
use Rattle.vm_journal.specs.declared.entry.What.TheVariants as what
use Rattle.pager_model.specs.Pager.{Pager}
use Rattle.pager_policy.specs.Given.{given}
use Rattle.pager_policy.specs.Serve.{GivenServe, ServeWhy, serve_again, serve_answered, serve_in_flight, serve_modified_full, serve_more, serve_not_resident}
use Rattle.policy_tables.specs.Rows.{if_there, otherwise, when}
use Rattle.policy_tables.specs.ServiceWords.{InWay, bounds_refusal, done_answer, eviction_of, is_deleted_in_flight, page_in_way, range_refusal}

-- of this service by process p
module _ (config : Config) (past : List Entry) (a : Pager) (p : ℕ) (s : Service) where
  abbrev waits : ServeWhy → GivenServe
  waits reason = given [] (serve_again reason)

  abbrev more : What → GivenServe
  more w = given (w ∷ []) serve_more

  abbrev served : Answer → GivenServe
  served w = given (what.Served s w ∷ []) serve_answered

  unfoldable pub serve_cases : List (Option GivenServe)
  serve_cases =
      -- the process isn't resident: none; it waits until it is
      when (not (is_resident (a.status p))) (waits serve_not_resident)
      -- a page of the range is mapped (CRETVA), or one isn't (DELTVA, SETPRT, LKWSET, ULWSET, LCKPAG, ULKPAG): SERVED
      -- with that refusal; answered
      ∷ if_there (range_refusal a p s) served
      -- a page of the range is valid (DELTVA), or valid and neither locked nor pinned (PURGWS), and the eviction of
      -- the lowest of them isn't stopped: EVICT of it, for DELETE or PURGE; a step more
      ∷ if_there (eviction_of config past a p (page_in_way a p s)) more
      -- a page of the range is valid (DELTVA), or valid and neither locked nor pinned (PURGWS): none; it waits for the
      -- modified list
      ∷ if_there (page_in_way a p s) (λ (g : InWay). waits serve_modified_full)
      -- a private page of the range is in a frame with an open flight (DELTVA): none; it waits for that flight
      ∷ when (is_deleted_in_flight config past a p s) (waits serve_in_flight)
      -- with the range more pages would be locked or pinned than the process's `locks` (LKWSET, LCKPAG), or the new
      -- limit is below `locks` + 2 or above the extent (ADJWSL): SERVED with that refusal; answered
      ∷ if_there (bounds_refusal config a p s) served
      -- nothing is in its way: SERVED with OK, or with the pages' count (LKWSET, ULWSET, LCKPAG, ULKPAG); answered
      ∷ otherwise (served (done_answer a p s))
      ∷ []
