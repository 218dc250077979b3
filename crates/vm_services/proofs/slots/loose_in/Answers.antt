use Rattle.std.proofs.Common.{◌≡◌, ℕ, ◌+◌, Option, sym, ap, subst, ◌∙◌, arith, length}
use Rattle.vm_types.specs.declared.config.Config.{Config}
use Rattle.vm_types.specs.declared.config.ProcSpec.{ProcSpec}
use Rattle.vm_state.specs.History.{pager}
use Rattle.vm_state.specs.ProcessReadings.{slot_in}
use Rattle.pager_laws.proofs.RunsAreSound.{run_kept}
use Rattle.vm_services.specs.Lowest.{lower, purged_in}
use Rattle.vm_services.proofs.LowestLoose.{slots_of, loose_is}
use Rattle.vm_services.proofs.Searches.{IsLeastOf, least_next}
use Rattle.vm_services.proofs.slots.loose_in.Goals as goal

pub loop-n-preserved : goal.loop-n-preserved
loop-n-preserved g c =
    subst (λ (o : Option ℕ). IsLeastOf (λ (k : ℕ). purged_in c.args.at.0 c.args.pages (slot_in (pager c.args.state.now) c.args.p.0 k)) (c.loop-n.n + 1) o)
    (sym (c.lower-lowest.ensures ∙ ap (lower c.loop-n.lowest) (c.purged_in.ensures ∙ ap (purged_in c.args.at.0 c.args.pages) c.slot.ensures)))
    (least_next (λ (k : ℕ). purged_in c.args.at.0 c.args.pages (slot_in (pager c.args.state.now) c.args.p.0 k)) c.loop-n.n c.loop-n.lowest c.loop-n.invariant)

pub returns : goal.returns
returns g c =
    loose_is c.args.state.now.config c.args.state.now.past (pager c.args.state.now) c.args.p.0 c.args.at.0 c.args.pages
    (run_kept c.args.state.now.config c.args.state.now.past c.run_law.ensures.formed c.run_law.ensures.run) c.loop-n.lowest
    (subst (λ (n : ℕ). IsLeastOf (λ (k : ℕ). purged_in c.args.at.0 c.args.pages (slot_in (pager c.args.state.now) c.args.p.0 k)) n c.loop-n.lowest) all c.loop-n.invariant)
  where
    all : c.loop-n.n ≡ length ((pager c.args.state.now).ring c.args.p.0).slots
    all =
        let none : ProcSpec = record { limit = 0; quota = 0; extent = 0; locks = 0 } in
        let slots = slots_of c.args.state.now.config c.args.state.now.past (pager c.args.state.now) c.args.p.0 c.items.result.now none (run_kept c.args.state.now.config c.args.state.now.past c.run_law.ensures.formed c.run_law.ensures.run)
        (c.items.ensures ∙ ap (λ (x : Config). x.procs) c.config.ensures) c.requires.process in
        let least = c.loop-n-test.false in let most = c.loop-n.auto.n-end in omega (arith, slots, least, most)
