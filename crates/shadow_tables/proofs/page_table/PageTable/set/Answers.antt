use Rattle.std.proofs.Common.{◌≡◌, ◌<◌, ◌≤◌, None, refl, sym, subst, ◌∙◌, arith, length, slice_set}
use Rattle.shadow_tables.specs.PageTables.{IsTableSet, item_of}
use Rattle.shadow_tables.proofs.PageTables.{no_place, no_section, own_told, section_told}
use Rattle.shadow_tables.proofs.page_table.PageTable.set.Goals as goal

pub returns-in-Some : goal.returns-in-Some
returns-in-Some g c =
    let in-self = c.self.inside in
    subst (λ v. IsTableSet v (c.set_in.new.rows, in-self.sections.items) c.args.page c.args.item c.set_in.result) c.self.view_is
    (subst (λ page. IsTableSet (in-self.own, in-self.sections.items) (c.set_in.new.rows, in-self.sections.items) page c.args.item c.set_in.result) (sym c.in-Private.is)
    (own_told in-self.own c.set_in.new.rows in-self.sections.items c.in-Some.place c.args.item c.in-Private.p c.in-Private.vpn (sym c.page_place.ensures ∙ c.in-Some.is) c.set_in.result c.set_in.ensures))

pub returns-then-s-len : goal.returns-then-s-len
returns-then-s-len g c =
    let in-self = c.self.inside in
    let there : c.in-Shared.s.0 < length in-self.sections.items = omega (arith, c.if-s-len.true, c.len.ensures, in-self.sections.ok.0) in
    let now = slice_set in-self.sections.items c.in-Shared.s.0 c.set_in-then-s-len.new.rows in
    subst (λ v. IsTableSet v (in-self.own, now) c.args.page c.args.item c.set_in-then-s-len.result) c.self.view_is
    (subst (λ page. IsTableSet (in-self.own, in-self.sections.items) (in-self.own, now) page c.args.item c.set_in-then-s-len.result) (sym c.in-Shared.is)
    (section_told in-self.own in-self.sections.items c.index_mut.result.now c.set_in-then-s-len.new.rows c.in-Shared.s c.in-Shared.i c.args.item there c.index_mut.ensures.value c.set_in-then-s-len.result c.set_in-then-s-len.ensures))

pub returns-in-None : goal.returns-in-None
returns-in-None g c = (
  subst (λ page. item_of c.args.self.now page ≡ None) (sym c.in-Private.is) (no_place c.args.self.now c.in-Private.p c.in-Private.vpn (sym c.page_place.ensures ∙ c.in-None.is)),
  refl,
)

pub returns-else-s-len : goal.returns-else-s-len
returns-else-s-len g c =
    let in-self = c.self.inside in
    let past : length in-self.sections.items ≤ c.in-Shared.s.0 = omega (arith, c.if-s-len.false, c.len.ensures, in-self.sections.ok.0) in (
      subst (λ v. item_of v c.args.page ≡ None) c.self.view_is
          (subst (λ page. item_of (in-self.own, in-self.sections.items) page ≡ None) (sym c.in-Shared.is) (no_section in-self.own in-self.sections.items c.in-Shared.s c.in-Shared.i past)),
      refl,
    )
