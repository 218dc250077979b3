use Rattle.std.proofs.Common.{◌∙◌, List, ◌++◌, ap, subst}
use Rattle.vm_types.specs.BlockView.{Retired}
use Rattle.vm_types.specs.declared.config.Config.{Config}
use Rattle.pager_model.specs.Asked.{IsAsked}
use Rattle.dump_laws.specs.DumpAfter.{dump_after}
use Rattle.run_commands.proofs.Dumping.{run_to_report_over}
use Rattle.run_commands.proofs.dump_call.dumped_run.Goals as goal

pub returns-clause-run : goal.returns-clause-run
returns-clause-run g c =
    let s = c.in_ok-state.state in
    let reached = c.in_ok-state.ensures.reached in
    let back = c.in_ok-give_back.ensures.asked in (
      s.past,
      run_to_report_over g.D.Block.Block.tells c.args.config s.past (g.D.Depot.seen c.args.depot.now) (g.D.Depot.seen c.give_back.new.depot) (g.met.D.Depot.known c.args.depot.now) reached.there reached.serial
          (back.0, back.1 ∙ ap (λ (xs : List Retired). xs ++ back.0) c.run_to_report.ensures.retired, subst (λ (k : Config). IsAsked g.D.Block.Block.tells.plan k s.past back.0) reached.same back.2)
          c.runs_are_sound.ensures,
      c.in_ok-dump.ensures.dump ∙ ap (λ (k : Config). dump_after k s.past) reached.same,
    )
