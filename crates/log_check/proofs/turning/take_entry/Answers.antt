use Rattle.std.proofs.Common.{Option, subst}
use Rattle.std.specs.Option.{is_none}
use Rattle.std.specs.Prelude.{IfErr, IfSome}
use Rattle.std.proofs.lemmas.Result.{IfErr-weaker, IfOk-weaker}
use Rattle.log_model.specs.Stand.{report_after}
use Rattle.log_check.specs.declared.place.Place.TheVariants.{Entries}
use Rattle.log_reasons.specs.LineReasons.{IsEntryRefused}
use Rattle.log_reasons.specs.declared.line_reason.LineReason.{LineReason}
use Rattle.log_check.specs.Followed.{IsEntered}
use Rattle.log_check.specs.Leading.{Leads, ReportLeads}
use Rattle.log_check.specs.Refusing.{FailsAt, IsNeither}
use Rattle.log_check.specs.Results.{ok_of}
use Rattle.log_check.proofs.Led.{its_here, none_here, not_entry_here, report_leads, entered_leads, refused_leads}
use Rattle.log_check.proofs.Refused.{entry_refused, unreported}
use Rattle.log_check.proofs.turning.take_entry.Goals as goal

pub enter-requires-clause-line : goal.enter-requires-clause-line
enter-requires-clause-line c =
    (its_here c.args.followed.now c.requires.followed c.args.line.now c.requires.line c.requires.few c.config.result.now c.count-number.result c.in-Ok.e c.config.ensures c.count-number.ensures c.in-Ok.ensures.entry).has

pub returns-in-None-clause-leads : goal.returns-in-None-clause-leads
returns-in-None-clause-leads c =
    let its = its_here c.args.followed.now c.requires.followed c.args.line.now c.requires.line c.requires.few c.config.result.now c.count-number.result c.in-Ok.e c.config.ensures c.count-number.ensures c.in-Ok.ensures.entry in
    entered_leads c.args.followed.now c.requires.followed c.args.line.now c.requires.line c.requires.few c.in-Ok.e c.enter.new.self its
    (subst (λ (o : Option LineReason). IsEntered c.args.followed.now c.in-Ok.e c.enter.new.self (is_none o)) c.in-None.is c.in_ok-enter-in-Ok.ensures.entered)

pub returns-in-Some-clause-leads : goal.returns-in-Some-clause-leads
returns-in-Some-clause-leads c =
    let its = its_here c.args.followed.now c.requires.followed c.args.line.now c.requires.line c.requires.few c.config.result.now c.count-number.result c.in-Ok.e c.config.ensures c.count-number.ensures c.in-Ok.ensures.entry in
    refused_leads c.args.followed.now c.requires.followed c.args.line.now c.requires.line c.requires.few c.in-Ok.e c.enter.new.self its
    (subst (λ (o : Option LineReason). IsEntered c.args.followed.now c.in-Ok.e c.enter.new.self (is_none o)) c.in-Some.is c.in_ok-enter-in-Ok.ensures.entered)

pub returns-in-Some-clause-refused : goal.returns-in-Some-clause-refused
returns-in-Some-clause-refused c =
    let its = its_here c.args.followed.now c.requires.followed c.args.line.now c.requires.line c.requires.few c.config.result.now c.count-number.result c.in-Ok.e c.config.ensures c.count-number.ensures c.in-Ok.ensures.entry in
    entry_refused c.args.followed.now.past c.args.line.now c.in-Ok.e c.in-Some.why its
    (subst (λ (o : Option LineReason). IfSome o (IsEntryRefused c.args.followed.now.past.config c.args.followed.now.past.past c.in-Ok.e)) c.in-Some.is c.in_ok-enter-in-Ok.ensures.refused)

pub returns-in-Err-clause-leads : goal.returns-in-Err-clause-leads
returns-in-Err-clause-leads c =
    let none = none_here c.args.followed.now c.requires.followed c.args.line.now c.requires.line c.requires.few c.config.result.now c.count-number.result c.config.ensures c.count-number.ensures c.in-Err.ensures.entry in
    IfOk-weaker c.begin_report.result (λ r. ReportLeads c.args.followed.now.past c.args.line.now (ok_of r)) (λ r. Leads c.args.followed.now Entries c.args.line.now c.args.followed.now (ok_of r))
    (λ r led. report_leads c.args.followed.now c.requires.followed c.args.line.now c.requires.line c.requires.few (ok_of r) none led) c.begin_report.ensures.leads

pub returns-in-Err-clause-refused : goal.returns-in-Err-clause-refused
returns-in-Err-clause-refused c =
    let none = not_entry_here c.args.followed.now c.requires.followed c.args.line.now c.requires.line c.requires.few c.config.result.now c.count-number.result c.in-Err.known c.config.ensures c.count-number.ensures c.in-Err.ensures.none in
    let s = c.args.followed.now.past in
    let P = IsNeither c.in-Err.known (report_after s.config s.past) c.args.line.now in
    let Q = FailsAt s Entries c.args.line.now in
    IfOk-weaker c.begin_report.result (λ r. IfErr r P) (λ r. IfErr r Q)
    (λ r refused. IfErr-weaker r P Q (λ w is. unreported s c.args.line.now c.in-Err.known w none is) refused) c.begin_report.ensures.refused
