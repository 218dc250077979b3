use Rattle.std.proofs.Common.{◌<◌, None, length, sym, ◌∙◌, refl, arith}
use Rattle.page_tables.specs.Packed.{absent}
use Rattle.page_tables.proofs.Changes.{packed_with, mapped_in, changed_with}
use Rattle.page_tables.proofs.tables.Tables.unmap.Goals as goal

pub index_mut-requires : goal.index_mut-requires
index_mut-requires c =
    let within : c.unwrap-place.result < length c.self.inside.words.items =
    mapped_in c.args.self.now c.self.inside.procs c.self.inside.words.items c.self.view_is
    c.args.p.0 c.args.vpn c.unwrap-place.result (sym c.page_place.ensures ∙ c.unwrap-place.ensures) c.requires in
    omega (arith, c.self.inside.words.ok)

pub invariant_of-self : goal.invariant_of-self
invariant_of-self c =
    let within = mapped_in c.args.self.now c.self.inside.procs c.self.inside.words.items c.self.view_is
    c.args.p.0 c.args.vpn c.unwrap-place.result (sym c.page_place.ensures ∙ c.unwrap-place.ensures) c.requires in
    packed_with c.self.inside.procs c.self.inside.words.items c.self.invariant
    c.unwrap-place.result absent within (λ counts. absurd (let no : ⊥ = grind (arith, counts) in no))

pub returns-clause-changed : goal.returns-clause-changed
returns-clause-changed c =
    let at = sym c.page_place.ensures ∙ c.unwrap-place.ensures in
    let within = mapped_in c.args.self.now c.self.inside.procs c.self.inside.words.items c.self.view_is
    c.args.p.0 c.args.vpn c.unwrap-place.result at c.requires in
    changed_with c.args.self.now c.self.inside.procs c.self.inside.words.items c.self.view_is
    c.args.p.0 c.args.vpn c.unwrap-place.result at absent None within refl
