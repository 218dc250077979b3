use Rattle.std.proofs.Common.{◌∙◌, ap, subst, sym}
use Rattle.std.proofs.lemmas.Bool.{eqb-false}
use Rattle.vm_types.specs.Configuration.{IsWellFormed}
use Rattle.vm_types.specs.declared.config.Config.{Config}
use Rattle.pager_model.specs.DirtyPages.{dirty_pages}
use Rattle.run_text.proofs.DirtyPages.{told_printable}
use Rattle.shadow_pager.specs.Shown.{shown}
use Rattle.log_report.proofs.ShownReport.{shown_ending}
use Rattle.log_report.proofs.WholeText.{whole_ended, whole_taken}
use Rattle.log_report.proofs.ending.ending_text.Goals as goal

pub dirty_pages-requires : goal.dirty_pages-requires
dirty_pages-requires c = subst IsWellFormed (sym c.config-config.ensures) c.requires.formed

pub print_ending-status-requires : goal.print_ending-status-requires
print_ending-status-requires c =
    let a = (shown c.args.pager.now).pager in
    told_printable c.args.past.now.config a _ _ c.requires.formed (c.items.ensures ∙ ap (λ (x : Config). x.sections) c.config-config.ensures)
    (c.as_slice.ensures.value ∙ (c.in_ok-dirty.ensures ∙ ap (λ (x : Config). dirty_pages x a) c.config-config.ensures))

pub returns : goal.returns
returns c =
    let a = (shown c.args.pager.now).pager in
    let whole = whole_ended _ _ _ _ _ c.print_ending-status.ensures (eqb-false _ 4 (sym c.is_cut.ensures ∙ c.if-is_cut.false)) in
    whole_taken _ _ _ _ c.new-sink.ensures.taken c.into_bytes.ensures whole
    ∙ shown_ending c.args.past.now.config c.args.past.now.past (shown c.args.pager.now) c.requires _ _ (c.items.ensures ∙ ap (λ (x : Config). x.sections) c.config-config.ensures)
    (c.as_slice.ensures.value ∙ (c.in_ok-dirty.ensures ∙ ap (λ (x : Config). dirty_pages x a) c.config-config.ensures))
