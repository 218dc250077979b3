use Rattle.state_parts.proofs.TableSet.{none_kept}
use Rattle.state_parts.proofs.charged_pages.ChargedPages.new.Goals as goal

pub returns-clause-none : goal.returns-clause-none
returns-clause-none c =
    none_kept (record { procs = c.args.procs; pages = c.in_ok-new.field-0; shared = c.in_ok-section_rows.field-0.items }) _ c.args.sections.now c.in_ok-new.ensures c.in_ok-section_rows.ensures
