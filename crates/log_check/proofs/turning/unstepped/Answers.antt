use Rattle.std.proofs.Common.{inl, subst}
use Rattle.pager_model.specs.Pager.{Pager}
use Rattle.log_reasons.specs.EntryReasons.{EntryFails}
use Rattle.log_check.proofs.turning.unstepped.Goals as goal

pub returns-in-Some : goal.returns-in-Some
returns-in-Some c =
    let s = c.args.followed.now.past in
    inl (subst (λ (a : Pager). EntryFails s.config s.past a c.args.e c.in-Some.reason) c.requires.followed.follows.pager c.in-Some.ensures.said)
