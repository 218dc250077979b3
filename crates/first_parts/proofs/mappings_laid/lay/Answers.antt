use Rattle.std.proofs.Common.{sym, subst}
use Rattle.vm_types.specs.declared.config.Origin.{Origin}
use Rattle.first_parts.specs.Laying.{CanPlace}
use Rattle.first_parts.proofs.Layable.{can_place, can_say, good_first}
use Rattle.first_parts.proofs.mappings_laid.lay.Goals as goal

pub origin_after-requires : goal.origin_after-requires
origin_after-requires c = can_say c.args.config.now c.args.firsts.now (c.args.tables.now).procs c.loop-k.k c.args.mapping.now c.requires c.loop-k-test.true

pub place_of-place-requires : goal.place_of-place-requires
place_of-place-requires c =
    subst (λ (o : Origin). CanPlace c.args.config.now c.args.firsts.now o) (sym c.origin_after.ensures)
    (can_place c.args.config.now c.args.firsts.now (c.args.tables.now).procs c.loop-k.k c.args.mapping.now c.requires c.loop-k-test.true)

pub put-requires-clause-entry : goal.put-requires-clause-entry
put-requires-clause-entry c =
    good_first c.args.config.now c.args.firsts.now (c.args.mapping.now).prot c.origin_after.result c.place_of-place.result (c.requires).code
    (subst (λ (o : Origin). CanPlace c.args.config.now c.args.firsts.now o) (sym c.origin_after.ensures)
    (can_place c.args.config.now c.args.firsts.now (c.args.tables.now).procs c.loop-k.k c.args.mapping.now c.requires c.loop-k-test.true))
    c.place_of-place.ensures
