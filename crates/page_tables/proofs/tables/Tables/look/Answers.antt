use Rattle.std.proofs.Common.{sym, ◌∙◌}
use Rattle.page_tables.specs.PageTables.{pte_in}
use Rattle.page_tables.proofs.EntryWords.{shown}
use Rattle.page_tables.proofs.tables.Tables.look.Goals as goal

pub returns-in-Some-clause-value : goal.returns-in-Some-clause-value
returns-in-Some-clause-value c =
    rw c.entry_by.ensures
    (shown (pte_in c.args.self.now c.args.p.0 c.args.vpn) c.in-Some.word (c.word.ensures.entries c.args.p.0 c.args.vpn) (sym c.in-Some.is ∙ c.word.ensures.value))
