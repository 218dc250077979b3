use Rattle.std.proofs.Common.{Some, sym, ◌∙◌, arith, ◌<◌, length}
use Rattle.page_tables.proofs.Changes.{packed_with, mapped_in, changed_with}
use Rattle.page_tables.proofs.EntryWords.{word_is_kept, kept_by-word}
use Rattle.page_tables.proofs.tables.Tables.set.Goals as goal

pub index_mut-requires : goal.index_mut-requires
index_mut-requires c =
    let within : c.unwrap-index.result < length c.self.inside.words.items =
    mapped_in c.args.self.now c.self.inside.procs c.self.inside.words.items c.self.view_is
    c.args.p.0 c.args.vpn c.unwrap-index.result (sym c.page_place.ensures ∙ c.unwrap-index.ensures) c.requires.mapped in
    omega (arith, c.self.inside.words.ok)

pub invariant_of-self : goal.invariant_of-self
invariant_of-self c =
    let within = mapped_in c.args.self.now c.self.inside.procs c.self.inside.words.items c.self.view_is
    c.args.p.0 c.args.vpn c.unwrap-index.result (sym c.page_place.ensures ∙ c.unwrap-index.ensures) c.requires.mapped in
    packed_with c.self.inside.procs c.self.inside.words.items c.self.invariant
    c.unwrap-index.result c.to_word.result within (λ counts. word_is_kept c.args.pte c.to_word.result c.requires.entry c.to_word.ensures)

pub returns-clause-changed : goal.returns-clause-changed
returns-clause-changed c =
    let at = sym c.page_place.ensures ∙ c.unwrap-index.ensures in
    let within = mapped_in c.args.self.now c.self.inside.procs c.self.inside.words.items c.self.view_is
    c.args.p.0 c.args.vpn c.unwrap-index.result at c.requires.mapped in
    changed_with c.args.self.now c.self.inside.procs c.self.inside.words.items c.self.view_is
    c.args.p.0 c.args.vpn c.unwrap-index.result at c.to_word.result (Some c.args.pte) within
    (kept_by-word c.args.pte c.to_word.result c.requires.entry c.to_word.ensures)
