use Rattle.std.proofs.Common.{◌<◌, length, ap, sym, subst, ◌∙◌}
use Rattle.vm_state.specs.History.{History, pager}
use Rattle.vm_state.specs.ProcessReadings.{pending_in}
use Rattle.vm_state.proofs.ProcessShows as shows
use Rattle.vm_state.proofs.state.State.pending.Goals as goal

pub pending_by-requires-clause-limit : goal.pending_by-requires-clause-limit
pending_by-requires-clause-limit g c =
    shows.limit_most c.self.invariant c.args.p.0 c.items.result.now _ (subst (λ (s : History). c.args.p.0 < length s.config.procs) (sym c.self.view_is) c.requires) c.items.ensures c.index-row.result.now c.index-row.ensures

pub returns : goal.returns
returns g c =
    c.pending_by.ensures
    ∙ shows.pending_is c.self.invariant c.args.p.0 c.items.result.now _ (subst (λ (s : History). c.args.p.0 < length s.config.procs) (sym c.self.view_is) c.requires) c.items.ensures c.index-row.result.now c.free_len.result c.index-row.ensures
    (c.free_len.ensures ∙ ap (λ (s : History). length (pager s).free) (sym c.self.view_is))
    ∙ ap (λ (s : History). pending_in s.config (pager s) c.args.p.0) c.self.view_is
