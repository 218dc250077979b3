use Rattle.std.proofs.Common.{subst}
use Rattle.std.specs.Option.{option_map}
use Rattle.page_lists.specs.Lists.{IsNext}
use Rattle.pfn_database.specs.Frames.{Frames, lists_of}
use Rattle.vm_state.specs.History.{History, pager}
use Rattle.vm_state.specs.ProcessReadings.{IsAfter}
use Rattle.state_pages.specs.Shown.{frame_number}
use Rattle.vm_state.proofs.ProcessShows as shows
use Rattle.vm_state.proofs.state.State.next.Goals as goal

pub returns : goal.returns
returns g c =
    subst (λ (s : History). IsAfter (pager s) c.args.f.0 (option_map frame_number c.list_next.result)) c.self.view_is
    (shows.after_is c.self.invariant c.args.f.0 (option_map frame_number c.list_next.result)
    (subst (λ (fs : Frames). IsNext (lists_of fs) c.args.f.0 (option_map frame_number c.list_next.result)) c.frames.ensures c.list_next.ensures.next))
