use Rattle.std.proofs.Common.{◌∙◌}
use Rattle.std.proofs.lemmas.Bool.{ne_eqb}
use Rattle.vm_types.specs.Adjust.{lesser}
use Rattle.vm_swapper.proofs.Comes.{reads_of}
use Rattle.vm_swapper.proofs.Makes.{carries, may_as}
use Rattle.vm_swapper.proofs.come.read_from.Goals as goal

pub read_all-requires-clause-may : goal.read_all-requires-clause-may
read_all-requires-clause-may g c κs within =
    (may_as _ _ (reads_of c.args.state.now ((c.args.run).p).0 (c.args.run).slot c.free_len-free.result c.lesser-most.result c.as_slice.result.now c.free_len-free.ensures
    (ne_eqb c.free_len-free.result 0 c.if-free-eq0.false) (c.as_slice.ensures.value ∙ c.gathered-addresses.ensures)
    (c.lesser-most.ensures ∙ (λ i. lesser ((c.config.ensures i).params).pfc (c.free_len-free.ensures i)))) c.requires.may).legal

pub returns : goal.returns
returns g c =
    carries c.args.state.now _ (c.args.run).seat _ _ _ _
    (reads_of c.args.state.now ((c.args.run).p).0 (c.args.run).slot c.free_len-free.result c.lesser-most.result c.as_slice.result.now c.free_len-free.ensures
    (ne_eqb c.free_len-free.result 0 c.if-free-eq0.false) (c.as_slice.ensures.value ∙ c.gathered-addresses.ensures)
    (c.lesser-most.ensures ∙ (λ i. lesser ((c.config.ensures i).params).pfc (c.free_len-free.ensures i))))
    c.read_all.ensures.made c.read_all.ensures.lifts
