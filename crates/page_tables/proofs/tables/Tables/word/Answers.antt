use Rattle.std.proofs.Common.{sym, ◌∙◌}
use Rattle.page_tables.proofs.Changes.{entries_in_tables, word_in_tables}
use Rattle.page_tables.proofs.tables.Tables.word.Goals as goal

pub returns-in-Some-clause-value : goal.returns-in-Some-clause-value
returns-in-Some-clause-value c =
    let at = sym c.page_place.ensures ∙ c.in-Some.is in
    rw (c.word_at.ensures, c.as_slice-words.ensures.value)
    (word_in_tables c.self.inside.procs c.self.inside.words.items c.self.invariant c.args.self.now c.self.view_is
    c.args.p.0 c.args.vpn c.in-Some.place at)

pub returns-in-Some-clause-entries : goal.returns-in-Some-clause-entries
returns-in-Some-clause-entries c =
    entries_in_tables c.self.inside.procs c.self.inside.words.items c.self.invariant c.args.self.now c.self.view_is

pub returns-in-None-clause-entries : goal.returns-in-None-clause-entries
returns-in-None-clause-entries c =
    entries_in_tables c.self.inside.procs c.self.inside.words.items c.self.invariant c.args.self.now c.self.view_is
