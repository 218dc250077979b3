use Rattle.std.proofs.Common.{◌≡◌, ◌∙◌, List, ap, map, refl}
use Rattle.vm_types.specs.declared.config.Config.{Config}
use Rattle.vm_journal.specs.declared.entry.Entry.{Entry}
use Rattle.vm_state.specs.History.{History}
use Rattle.disk_trait.specs.DepotView.{given_back}
use Rattle.serial_run.proofs.RunsFinish.{is_finished}
use Rattle.serial_run.proofs.run.finish_run.Goals as goal

pub returns-clause-finished : goal.returns-clause-finished
returns-clause-finished g c = (
  map (given_back g.D.Block.Block.seen) c.finish-config.result.2.items,
  c.in_ok-retire_blocks.ensures.ok,
  is_finished g.D.Block.Block.seen g.D.Block.Block.tells (λ _ past. past ≡ c.args.state.past) c.args.state.config c.args.state.past c.end_state.new.state c.in_ok-ending.ending _ c.finish-config.result.2.items
      (ap (λ (x : History). x.config) c.in_ok-ending.ensures.same) c.in_ok-ending.ensures.ended refl
      c.finish-config.ensures.config (c.finish-config.ensures.entries (ap (λ (x : History). x.keeps) c.in_ok-ending.ensures.same ∙ c.requires.keeps)) refl refl refl c.finish-config.ensures.names c.finish-config.ensures.blocks,
)
