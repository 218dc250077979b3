use Rattle.std.proofs.Common.{Some, ◌<◌, length, sym, ◌∙◌, ap, arith}
use Rattle.page_tables.specs.PageTables.{PageTables}
use Rattle.vm_types.proofs.Places.{page_place-lt}
use Rattle.page_tables.proofs.Changes.{packed_with, changed_with}
use Rattle.page_tables.proofs.EntryWords.{word_is_kept, kept_by-word}
use Rattle.page_tables.proofs.tables.Tables.map.Goals as goal

pub invariant_of-self : goal.invariant_of-self
invariant_of-self c =
    let at = sym c.page_place.ensures ∙ c.unwrap-place.ensures in
    let procs = ap (λ (t : PageTables). t.procs) c.self.view_is in
    let ends = page_place-lt c.args.p.0 c.args.vpn c.unwrap-place.result at in
    let within : c.unwrap-place.result < length c.self.inside.words.items =
    omega (arith, c.self.invariant.count, procs, ends.1, c.requires.page.proc) in
    packed_with c.self.inside.procs c.self.inside.words.items c.self.invariant
    c.unwrap-place.result c.to_word.result within (λ counts. word_is_kept c.args.pte c.to_word.result c.requires.entry c.to_word.ensures)

pub returns-clause-changed : goal.returns-clause-changed
returns-clause-changed c =
    let at = sym c.page_place.ensures ∙ c.unwrap-place.ensures in
    let procs = ap (λ (t : PageTables). t.procs) c.self.view_is in
    let ends = page_place-lt c.args.p.0 c.args.vpn c.unwrap-place.result at in
    let within : c.unwrap-place.result < length c.self.inside.words.items =
    omega (arith, c.self.invariant.count, procs, ends.1, c.requires.page.proc) in
    changed_with c.args.self.now c.self.inside.procs c.self.inside.words.items c.self.view_is
    c.args.p.0 c.args.vpn c.unwrap-place.result at c.to_word.result (Some c.args.pte) within
    (kept_by-word c.args.pte c.to_word.result c.requires.entry c.to_word.ensures)
