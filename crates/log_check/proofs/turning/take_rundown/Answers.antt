use Rattle.std.specs.Prelude.{IfErr}
use Rattle.std.proofs.lemmas.Result.{IfErr-weaker, IfOk-weaker}
use Rattle.log_model.specs.Stand.{ending_after}
use Rattle.log_check.specs.declared.place.Place.TheVariants.{Rundown}
use Rattle.log_check.specs.Leading.{EndingLeads, Leads, RundownLeads}
use Rattle.log_check.specs.Refusing.{FailsAt, IsNeither, IsUnstepped}
use Rattle.log_check.specs.Results.{ok_of}
use Rattle.log_check.proofs.Led.{ending_leads, its_here, none_here, not_entry_here, rundown_leads}
use Rattle.log_check.proofs.Refused.{unended, unstepped}
use Rattle.log_check.proofs.turning.take_rundown.Goals as goal

pub step_rundown-requires-clause-line : goal.step_rundown-requires-clause-line
step_rundown-requires-clause-line c =
    (its_here c.args.followed.now c.requires.followed c.args.line.now c.requires.line c.requires.few c.config.result.now c.count-number.result c.in-Ok.e c.config.ensures c.count-number.ensures c.in-Ok.ensures.entry).has

pub returns-in-Ok-clause-leads : goal.returns-in-Ok-clause-leads
returns-in-Ok-clause-leads c =
    let its = its_here c.args.followed.now c.requires.followed c.args.line.now c.requires.line c.requires.few c.config.result.now c.count-number.result c.in-Ok.e c.config.ensures c.count-number.ensures c.in-Ok.ensures.entry in
    IfOk-weaker c.step_rundown.result (λ r. RundownLeads c.args.followed.now c.args.underway c.in-Ok.e c.step_rundown.new.followed (ok_of r)) (λ r. Leads c.args.followed.now (Rundown c.args.underway) c.args.line.now c.step_rundown.new.followed (ok_of r))
    (λ r led. rundown_leads c.args.followed.now c.requires.followed c.args.line.now c.requires.line c.requires.few c.args.underway c.in-Ok.e c.step_rundown.new.followed (ok_of r) its led) c.step_rundown.ensures.leads

pub returns-in-Ok-clause-refused : goal.returns-in-Ok-clause-refused
returns-in-Ok-clause-refused c =
    let its = its_here c.args.followed.now c.requires.followed c.args.line.now c.requires.line c.requires.few c.config.result.now c.count-number.result c.in-Ok.e c.config.ensures c.count-number.ensures c.in-Ok.ensures.entry in
    let s = c.args.followed.now.past in
    let P = IsUnstepped s c.args.underway c.in-Ok.e in
    let Q = FailsAt s (Rundown c.args.underway) c.args.line.now in
    IfOk-weaker c.step_rundown.result (λ r. IfErr r P) (λ r. IfErr r Q)
    (λ r refused. IfErr-weaker r P Q (λ w is. unstepped c.args.followed.now c.requires.followed c.args.line.now c.args.underway c.in-Ok.e w its is) refused) c.step_rundown.ensures.refused

pub returns-in-Err-clause-leads : goal.returns-in-Err-clause-leads
returns-in-Err-clause-leads c =
    let none = none_here c.args.followed.now c.requires.followed c.args.line.now c.requires.line c.requires.few c.config.result.now c.count-number.result c.config.ensures c.count-number.ensures c.in-Err.ensures.entry in
    IfOk-weaker c.begin_ending.result (λ r. EndingLeads c.args.followed.now.past c.args.underway c.args.line.now (ok_of r)) (λ r. Leads c.args.followed.now (Rundown c.args.underway) c.args.line.now c.args.followed.now (ok_of r))
    (λ r led. ending_leads c.args.followed.now c.requires.followed c.args.line.now c.requires.line c.requires.few c.args.underway (ok_of r) none led) c.begin_ending.ensures.leads

pub returns-in-Err-clause-refused : goal.returns-in-Err-clause-refused
returns-in-Err-clause-refused c =
    let none = not_entry_here c.args.followed.now c.requires.followed c.args.line.now c.requires.line c.requires.few c.config.result.now c.count-number.result c.in-Err.known c.config.ensures c.count-number.ensures c.in-Err.ensures.none in
    let s = c.args.followed.now.past in
    let P = IsNeither c.in-Err.known (ending_after s.config s.past) c.args.line.now in
    let Q = FailsAt s (Rundown c.args.underway) c.args.line.now in
    IfOk-weaker c.begin_ending.result (λ r. IfErr r P) (λ r. IfErr r Q)
    (λ r refused. IfErr-weaker r P Q (λ w is. unended s c.args.line.now c.args.underway c.in-Err.known w none is) refused) c.begin_ending.ensures.refused
