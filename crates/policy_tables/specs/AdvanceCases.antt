-- One step for a reference, as a table. Source: Kenah and Bate, "VAX/VMS Internals and Data Structures", paging
-- dynamics (the page fault handler); the order of the rows is this project's own.
use Rattle.std.specs.Prelude.{ℕ, Bool, List, [], ◌∷◌, Option, length, not}
use Rattle.vm_types.specs.Adjust.{adjust}
use Rattle.vm_types.specs.Status.{is_resident}
use Rattle.vm_types.specs.declared.config.Config.{Config}
use Rattle.vm_types.specs.declared.config.ProcSpec.{ProcSpec}
use Rattle.vm_types.specs.declared.names.Addr.{Addr}
use Rattle.vm_types.specs.declared.names.BlockId.{BlockId}
use Rattle.vm_types.specs.declared.names.Page.{Page}
use Rattle.vm_types.specs.declared.reference.Ref.{Ref}
use Rattle.vm_types.specs.declared.reply.Reply.{Reply}
use Rattle.vm_types.specs.declared.reply.Why.{Why}
use Rattle.vm_journal.specs.declared.entry.Entry.{Entry}
use Rattle.vm_journal.specs.declared.entry.EvictWhy.TheVariants as evict
use Rattle.vm_journal.specs.declared.entry.What.{What}
use Rattle.vm_journal.specs.declared.entry.What.TheVariants as what
use Rattle.pager_model.specs.Flat.{flat_refusal}
use Rattle.pager_model.specs.Forget.{holder}
use Rattle.pager_model.specs.Lookups.{entry_of, page_by}
use Rattle.pager_model.specs.Maps.{page_number, pfn, proc}
use Rattle.pager_model.specs.Pager.{Pager, Valid}
use Rattle.pager_model.specs.Spoken.{flat_after}
use Rattle.pager_policy.specs.Advance.{AgainWhy, GivenNext, again_block_busy, again_charging, again_collided, again_modified_full, again_no_frame, again_not_resident, cluster_targets, is_busy_block, is_named, next_again, next_answered, next_carry, next_more, source_of}
use Rattle.pager_policy.specs.Given.{Seen, eviction, given, page_address, reads_made, reuse_first}
use Rattle.policy_tables.specs.Rows.{first_of_list, if_there, is_none_left, only_if, rows_on, that_is, when}
use Rattle.policy_tables.specs.Words.{OpenRead, foreign_read, is_at_limit, is_page_file_charged, may_go, pending_limit, victim}

-- of a reference by process p; this reply, whatever it is, stands in the DONE that answers it
module _ (config : Config) (past : List Entry) (a : Pager) (p : ℕ) (r : Ref) (reply : Reply) where
  abbrev v : ℕ
  v = page_number (r.addr).0

  abbrev here : Addr
  here = page_address v

  abbrev read_by_other : Page → Option OpenRead
  read_by_other g = foreign_read past p (holder config a.page g)

  abbrev is_new : OpenRead → Bool
  is_new met = not (is_named (a.collided p) (met.flight).start)

  abbrev source : Page → Option BlockId
  source g = source_of config a g (a.map p v)

  abbrev limit_entry : ProcSpec → What
  limit_entry spec = what.Limit (adjust config.params spec (a.faults p) (a.limit p) (length a.free)) (a.faults p)

  abbrev waits : AgainWhy → GivenNext
  waits reason = given [] (next_again reason)

  abbrev more : What → GivenNext
  more w = given (w ∷ []) next_more

  abbrev answered : List What → GivenNext
  answered made = given made next_answered

  unfoldable pub advance_cases : List (Option GivenNext)
  advance_cases =
      -- the process isn't resident: none; it waits until it is
      when (not (is_resident (a.status p))) (waits again_not_resident)
      -- an adjustment of its limit is pending (AWSTIME): LIMIT; a step more
      ∷ if_there (pending_limit config a p) (λ (spec : ProcSpec). more (limit_entry spec))
      -- the flat machine refuses the reference: DENIED with its cause; answered
      ∷ if_there (flat_refusal config (flat_after config past) p r) (λ (why : Why). answered (what.Denied r why ∷ []))
      -- the process's entry for the page is valid: DONE with the reply; answered
      ∷ if_there (entry_of a.valid p v) (λ (e : Valid). answered (what.Done r reply ∷ []))
      ∷ rows_on (page_by config a.map p v) (λ (g : Page).
      -- another seat reads the page, and the process's last collision named another read or none: COLLIDE; a step
      -- more
      if_there (that_is is_new (read_by_other g)) (λ (met : OpenRead). more (what.Collide here (pfn met.frame) (met.flight).start))
      -- another seat reads the page: none; it waits for that read
      ∷ if_there (read_by_other g) (λ (met : OpenRead). waits again_collided)
      -- the page is paged (private, or of a section in the page file) and not charged, and as many pages are charged
      -- as the page file has blocks: none; it waits for a charge
      ∷ when (is_page_file_charged config a g) (waits again_charging)
      -- the working set is at its limit or above, and the eviction of the ring's victim isn't stopped: EVICT of it,
      -- for REPLACE; a step more
      ∷ if_there (only_if (is_at_limit a p) (that_is (may_go config past a) (victim a p))) (λ (s : Seen). more (eviction past a p s.vpn s.frame evict.Replace))
      -- the working set is at its limit or above: none; it waits for the modified list
      ∷ when (is_at_limit a p) (waits again_modified_full)
      -- a frame holds the page: BACK from the frame's state (free, modified, being written, release pending, or active
      -- for another process), DONE with the reply; answered
      ∷ if_there (holder config a.page g) (λ (f : ℕ). answered (what.Back (proc p) here (pfn f) (a.state f) ∷ what.Done r reply ∷ []))
      -- the block from which the page is to be read is in a flight: none; it waits for that block
      ∷ when (is_busy_block past (source g)) (waits again_block_busy)
      -- the free list is empty: none; it waits for a frame
      ∷ when (is_none_left a.free) (waits again_no_frame)
      -- there is a block from which the page is to be read: an IN for the fault, and one for each neighbour of its
      -- cluster (`cluster_targets`), each behind a REUSE if its frame holds a page; the reads are carried
      ∷ if_there (source g) (λ (b : BlockId). given (reads_made a.page a.free (cluster_targets config a p r g b)) next_carry)
      -- there is no such block, so the page is made of zeros: ZERO in the first free frame and DONE with the reply,
      -- behind a REUSE if that frame holds a page; answered
      ∷ if_there (first_of_list a.free) (λ (f : ℕ). answered (reuse_first (a.page f) f (what.Zero here (pfn f) ∷ what.Done r reply ∷ [])))
      ∷ [])
