use Rattle.std.proofs.Common.{◌∙◌, ap}
use Rattle.vm_types.specs.declared.config.Config.{Config}
use Rattle.shadow_pager.specs.Shown.{shown}
use Rattle.log_report.proofs.ShownReport.{shown_printable, shown_text}
use Rattle.log_report.proofs.WholeText.{whole_taken}
use Rattle.log_report.proofs.report.report_text.Goals as goal

pub print-requires : goal.print-requires
print-requires c =
    shown_printable c.args.past.now.config c.args.past.now.past (shown c.args.pager.now) c.requires _ _
    (c.items.ensures ∙ ap (λ (x : Config). x.sections) c.config.ensures) c.in_ok-report.ensures

pub returns-in-Ok : goal.returns-in-Ok
returns-in-Ok c =
    whole_taken _ _ _ _ c.new-sink.ensures.taken c.into_bytes.ensures c.in-Ok.ensures.bytes
    ∙ shown_text c.args.past.now.config c.args.past.now.past (shown c.args.pager.now) c.requires _ _
    (c.items.ensures ∙ ap (λ (x : Config). x.sections) c.config.ensures) c.in_ok-report.ensures
