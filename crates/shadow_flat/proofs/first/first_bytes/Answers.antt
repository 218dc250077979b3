use Rattle.std.proofs.Common.{List, subst, sym}
use Rattle.vm_types.specs.declared.config.Section.{Section}
use Rattle.flat_model.specs.Usable.{IsOrigin}
use Rattle.shadow_flat.proofs.Origins.{origin_in}
use Rattle.shadow_flat.proofs.first.first_bytes.Goals as goal

pub bytes_in-requires : goal.bytes_in-requires
bytes_in-requires c = subst (λ (sections : List Section). IsOrigin sections c.args.origin) (sym c.items.ensures) (origin_in c.args.config.now c.args.origin c.requires)

pub returns : goal.returns
returns c = c.bytes_in.ensures c.args.config.now c.items.ensures
