use Rattle.std.proofs.Common.{ℕ, List, slice_get, ap, ◌∙◌}
use Rattle.page_lists.specs.Lists.{list_of}
use Rattle.pfn_database.specs.Frames.{Frames, lists_of}
use Rattle.vm_state.specs.History.{History, pager}
use Rattle.vm_state.specs.Readings.{listed}
use Rattle.vm_state.proofs.WhatIsRead as reads
use Rattle.vm_state.proofs.state.State.head.Goals as goal

pub returns : goal.returns
returns g c =
    c.list_head.ensures.head
    ∙ ap (λ (fs : Frames). slice_get (list_of (lists_of fs) c.args.l) 0) c.frames.ensures
    ∙ ap (λ (xs : List ℕ). slice_get xs 0) (reads.head_is c.self.invariant c.args.l)
    ∙ ap (λ (s : History). slice_get (listed (pager s) c.args.l) 0) c.self.view_is
