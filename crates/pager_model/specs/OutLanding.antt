-- OUTOK and OUTFAIL: a write lands. Source: Kenah and Bate, "VAX/VMS Internals and Data Structures", the
-- modified page writer, write completion; failed writes are this project's own.
use Rattle.std.specs.Prelude.{◌≡◌, ℕ, Bool, true, ◌&&◌, List, Option, Some, None, nat_eq, not, if◌then◌else◌}
use Rattle.vm_types.specs.declared.names.Page.{Page}
use Rattle.vm_types.specs.declared.names.BlockId.{BlockId}
use Rattle.vm_journal.specs.declared.entry.Entry.{Entry}
use Rattle.pager_model.specs.Changes.{pushed_if, settled_to}
use Rattle.pager_model.specs.Counted.{IsCounted}
use Rattle.pager_model.specs.Flights.{Flight, writing}
use Rattle.pager_model.specs.InOk.{IsLanding}
use Rattle.pager_model.specs.Lookups.{shares}
use Rattle.pager_model.specs.Pager.{Pager}
use Rattle.pager_model.specs.Sets.{at_number, at_page}

pub record IsOutOk (past : List Entry) (seat f k : ℕ) : Type 0 where
  pub flight : Flight
  pub lands : IsLanding past seat f k flight
  pub writes : flight.direction ≡ writing

-- unless it was modified meanwhile, the page lies in the block
abbrev pub lies_at : (Page → Option BlockId) → Bool → Option Page → BlockId → Page → Option BlockId
lies_at lies modify None b = lies
lies_at lies modify (Some g) b = if modify then lies else at_page lies g (Some b)

-- a frame that no entry shares settles
abbrev pub after_out_ok : Pager → ℕ → Option Flight → Pager
after_out_ok a f None = a
after_out_ok a f (Some x) =
    let unshared = nat_eq (shares a.valid f) 0 in
    record a {
      state = at_number a.state f (if unshared then settled_to (a.modify f) else a.state f);
      free = pushed_if (unshared && not (a.modify f)) a.free f;
      modified = pushed_if (unshared && a.modify f) a.modified f;
      lies = lies_at a.lies (a.modify f) (a.page f) x.block;
    }

pub record IsOutFail (past : List Entry) (seat f k c d : ℕ) : Type 0 where
  pub write : IsOutOk past seat f k
  pub counted : IsCounted past write.flight.block c d

abbrev pub marked : Pager → ℕ → Pager
marked a f = record a { modify = at_number a.modify f true }

-- a failed write sets the modify mark; then it is as for a good one, so the page lies where it lay
abbrev pub after_out_fail : Pager → ℕ → Option Flight → Pager
after_out_fail a f o = after_out_ok (marked a f) f o
