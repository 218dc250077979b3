use Rattle.std.proofs.Common.{ap, ◌∙◌}
use Rattle.vm_types.specs.declared.config.Config.{Config}
use Rattle.vm_swapper.proofs.Leaves.{writes_of}
use Rattle.vm_swapper.proofs.Makes.{carries, may_as}
use Rattle.vm_swapper.proofs.leave.write_from.Goals as goal

pub write_all-requires-clause-may : goal.write_all-requires-clause-may
write_all-requires-clause-may g c κs within =
    (may_as _ _ (writes_of c.args.state.now ((c.args.run).p).0 (c.args.run).slot _ c.as_slice.result.now (c.as_slice.ensures.value ∙ c.gathered-frames.ensures) (ap (λ (x : Config). (x.params).wrtcluster) c.config.ensures)) c.requires.may).legal

pub returns : goal.returns
returns g c =
    carries c.args.state.now _ (c.args.run).seat _ _ _ _
    (writes_of c.args.state.now ((c.args.run).p).0 (c.args.run).slot _ c.as_slice.result.now (c.as_slice.ensures.value ∙ c.gathered-frames.ensures) (ap (λ (x : Config). (x.params).wrtcluster) c.config.ensures))
    c.write_all.ensures.made c.write_all.ensures.lifts
