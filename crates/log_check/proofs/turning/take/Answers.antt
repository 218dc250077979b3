use Rattle.std.proofs.Common.{sym, subst}
use Rattle.std.specs.Prelude.{IfErr}
use Rattle.std.proofs.lemmas.Result.{IfErr-weaker}
use Rattle.log_check.specs.declared.place.Place.{Place}
use Rattle.log_check.specs.declared.place.Place.TheVariants.{Ending, Report}
use Rattle.log_check.specs.Leading.{Leads}
use Rattle.log_check.specs.Refusing.{FailsAt, IsNotIn}
use Rattle.log_check.specs.Results.{ok_of}
use Rattle.log_check.proofs.Led.{last_leads, text_leads}
use Rattle.log_check.proofs.Refused.{unfinished, untold}
use Rattle.log_check.proofs.turning.take.Goals as goal

pub returns-in-Report-clause-leads : goal.returns-in-Report-clause-leads
returns-in-Report-clause-leads c =
    subst (λ (p : Place). Leads c.args.followed.now p c.args.line.now c.args.followed.now (ok_of c.go_on_report.result)) (sym c.in-Report.is)
    (text_leads c.args.followed.now c.requires.followed c.args.line.now c.requires.line c.requires.few c.in-Report.left (ok_of c.go_on_report.result) c.go_on_report.ensures.leads)

pub returns-in-Report-clause-refused : goal.returns-in-Report-clause-refused
returns-in-Report-clause-refused c =
    let s = c.args.followed.now.past in
    subst (λ (p : Place). IfErr c.go_on_report.result (FailsAt s p c.args.line.now)) (sym c.in-Report.is)
    (IfErr-weaker c.go_on_report.result (IsNotIn c.in-Report.left c.args.line.now) (FailsAt s (Report c.in-Report.left) c.args.line.now) (untold s c.args.line.now c.in-Report.left) c.go_on_report.ensures.refused)

pub returns-in-Ending-clause-leads : goal.returns-in-Ending-clause-leads
returns-in-Ending-clause-leads c =
    subst (λ (p : Place). Leads c.args.followed.now p c.args.line.now c.args.followed.now (ok_of c.go_on_ending.result)) (sym c.in-Ending.is)
    (last_leads c.args.followed.now c.requires.followed c.args.line.now c.requires.line c.requires.few c.in-Ending.entries c.in-Ending.left (ok_of c.go_on_ending.result) c.go_on_ending.ensures.leads)

pub returns-in-Ending-clause-refused : goal.returns-in-Ending-clause-refused
returns-in-Ending-clause-refused c =
    let s = c.args.followed.now.past in
    subst (λ (p : Place). IfErr c.go_on_ending.result (FailsAt s p c.args.line.now)) (sym c.in-Ending.is)
    (IfErr-weaker c.go_on_ending.result (IsNotIn c.in-Ending.left c.args.line.now) (FailsAt s (Ending c.in-Ending.entries c.in-Ending.left) c.args.line.now) (unfinished s c.args.line.now c.in-Ending.entries c.in-Ending.left) c.go_on_ending.ensures.refused)
