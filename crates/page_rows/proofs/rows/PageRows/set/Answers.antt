use Rattle.std.proofs.Common.{rules, ◌≡◌, ◌∙◌, ◌/◌, None, ap, arith, get_or, length, slice_set, subst, sym}
use Rattle.std.proofs.lemmas.List.{get_or_default}
use Rattle.page_rows.proofs.Runs.{length_all, shut_kept}
use Rattle.page_rows.proofs.rows.PageRows.set.Goals as goal
use Rattle.page_rows.proofs.rows.PageRows.set.Goals.{then-is_none+else-is_none-2, else-is_none}

pub index-requires : goal.index-requires
index-requires g c =
    let firsts = c.self.inside.firsts in
    let long = length_all firsts.items c.self.inside.items.items in
    let same = ap length c.self.view_is in
    omega (arith, long, same, c.requires, firsts.ok.0)

pub open-requires-clause-within : goal.open-requires-clause-within
open-requires-clause-within g c =
    let long = length_all c.self.inside.firsts.items c.self.inside.items.items in
    let same = ap length c.self.view_is in
    omega (arith, long, same, c.requires)

pub returns-then-is_none-2 : goal.returns-then-is_none-2
returns-then-is_none-2 g c =
    let firsts = c.self.inside.firsts.items in
    let long = length_all firsts c.self.inside.items.items in
    let same = ap length c.self.view_is in
    let read = get_or_default firsts (c.args.place / 64) None c.index.result.now (omega (arith, long, same, c.requires)) ∙ sym c.index.ensures in
    let none : c.index.result.now ≡ None = search rules in
    let shut : get_or firsts (c.args.place / 64) None ≡ None = read ∙ none in
    let empty : c.args.item ≡ None = search rules in
    subst (λ xs. xs ≡ slice_set xs c.args.place c.args.item) c.self.view_is (shut_kept firsts c.self.inside.items.items c.args.place shut c.args.item empty)

pub put-requires-clause-open : goal.put-requires-clause-open
put-requires-clause-open g c =
    let firsts = c.self.inside.firsts.items in
    let long = length_all firsts c.self.inside.items.items in
    let same = ap length c.self.view_is in
    let read = get_or_default firsts (c.args.place / 64) None c.index.result.now (omega (arith, long, same, c.requires)) ∙ sym c.index.ensures in
    elim c.if-is_none.branch [
      | then-is_none+else-is_none-2 w ↦ rw (c.deref.ensures.value, w.self-inside-is) w.open.ensures.open
      | else-is_none w ↦ rw (c.deref.ensures.value, w.self-inside-is, read) (search rules)
    ]
