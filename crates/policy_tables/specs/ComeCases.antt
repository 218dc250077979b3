-- One step of a process that comes back to memory, as a table. Source: Kenah and Bate, "VAX/VMS Internals and Data
-- Structures", the swapper: inswap; the steps and their order are this project's own.
use Rattle.std.specs.Prelude.{ℕ, List, [], ◌∷◌, Option, length, nat_eq}
use Rattle.vm_types.specs.Adjust.{lesser}
use Rattle.vm_types.specs.declared.config.Config.{Config}
use Rattle.vm_types.specs.declared.names.FrameState.TheVariants as state
use Rattle.vm_types.specs.declared.names.ProcStatus.TheVariants as status
use Rattle.vm_journal.specs.declared.entry.Entry.{Entry}
use Rattle.vm_journal.specs.declared.entry.What.TheVariants as what
use Rattle.pager_model.specs.Flights.{open_flights}
use Rattle.pager_model.specs.Lookups.{passes}
use Rattle.pager_model.specs.Lying.{lying_in}
use Rattle.pager_model.specs.Maps.{pfn, proc}
use Rattle.pager_model.specs.Pager.{Pager}
use Rattle.pager_model.specs.Transfers.{has_come}
use Rattle.pager_policy.specs.Given.{address_of, given, reads_made}
use Rattle.pager_policy.specs.Swap.{GivenSwap, SwapWhy, come_targets, is_back_on_free, is_out_page, run_from, swap_again, swap_carry, swap_in_flight, swap_more, swap_no_frame, swap_settled, swap_where}
use Rattle.policy_tables.specs.Rows.{if_there, only_if, otherwise, when}
use Rattle.policy_tables.specs.Words.{HeldPage, held_in_slot}

-- of process p
module _ (config : Config) (past : List Entry) (a : Pager) (p : ℕ) where
  -- the page of the first swap block whose page is in a free frame; and the first swap block whose page is out
  abbrev kept : Option HeldPage
  kept = held_in_slot config a p (swap_where a p (is_back_on_free config a))

  abbrev out : Option ℕ
  out = swap_where a p (is_out_page config a)

  abbrev waits : SwapWhy → GivenSwap
  waits reason = given [] (swap_again reason)

  unfoldable pub come_cases : List (Option GivenSwap)
  come_cases =
      -- a page that lies in a swap block of the process is in a free frame: BACK of the page of the first such block;
      -- a step more
      if_there kept (λ (g : HeldPage). given (what.Back (proc p) (address_of g.page) (pfn g.frame) state.Free ∷ []) swap_more)
      -- a page that lies in one is out, and the free list is empty: none; it waits for a frame
      ∷ if_there (only_if (nat_eq (length a.free) 0) out) (λ (n : ℕ). waits swap_no_frame)
      -- a page that lies in one is out: the INs from the first such block on, as long as the pages of the blocks behind
      -- it are out, at most PFC and at most the free frames, each behind a REUSE if its frame holds a page; the reads
      -- are carried
      ∷ if_there out (λ (n : ℕ). given (reads_made a.page a.free (come_targets a p (run_from (λ (m : ℕ). passes (is_out_page config a) (lying_in a p m)) n (lesser config.params.pfc (length a.free))))) swap_carry)
      -- a COME read for the process is open: none; it waits for that flight
      ∷ when (has_come p (open_flights past)) (waits swap_in_flight)
      -- none of these: TURN to resident; it has come
      ∷ otherwise (given (what.Turn (proc p) status.Resident ∷ []) swap_settled)
      ∷ []
