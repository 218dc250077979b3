use Rattle.std.proofs.Common.{◌∙◌, ◌++◌, List, ap, map, refl, subst}
use Rattle.vm_state.specs.History.{History}
use Rattle.vm_types.specs.BlockView.{Retired}
use Rattle.vm_types.specs.declared.config.Config.{Config}
use Rattle.pager_policy.specs.Serial.{IsSerial}
use Rattle.disk_trait.specs.DepotView.{given_back}
use Rattle.serial_run.proofs.RunsFinish.{is_counted}
use Rattle.serial_run.proofs.run.count_serial.Goals as goal

pub returns-clause-counted : goal.returns-clause-counted
returns-clause-counted g c = (
  map (given_back g.D.Block.Block.seen) c.finish-blocks.result.2.items,
  c.in_ok-retire_blocks.ensures.ok ∙ ap (λ (xs : List Retired). xs ++ map (given_back g.D.Block.Block.seen) c.finish-blocks.result.2.items) c.make_blocks.ensures.retired,
  is_counted g.D.Block.Block.seen g.D.Block.Block.tells c.args.config c.answer_requests.new.state.past c.end_state.new.state c.in_ok-ending.ending _ c.finish-blocks.result.2.items
      (ap (λ (x : History). x.config) c.in_ok-ending.ensures.same ∙ (ap (λ (x : History). x.config) c.in_ok-answer_requests.ensures.same ∙ ap (λ (x : History). x.config) c.in_ok-state.ensures)) c.in_ok-ending.ensures.ended (subst (λ (k : Config). IsSerial k c.answer_requests.new.state.past) (ap (λ (x : History). x.config) c.in_ok-answer_requests.ensures.same ∙ ap (λ (x : History). x.config) c.in_ok-state.ensures) c.in_ok-answer_requests.ensures.serial)
      c.entry_count-all.ensures (c.kinds-kinds.ensures (ap (λ (x : History). x.keeps) c.in_ok-ending.ensures.same ∙ (ap (λ (x : History). x.keeps) c.in_ok-answer_requests.ensures.same ∙ ap (λ (x : History). x.keeps) c.in_ok-state.ensures))) refl c.finish-blocks.ensures.names c.finish-blocks.ensures.blocks,
)
