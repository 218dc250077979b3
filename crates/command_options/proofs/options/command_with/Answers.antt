use Rattle.std.proofs.Common.{rules, ◌≡◌, ◌∙◌, ap, ap₂, codes, get_or, map, take}
use Rattle.clap.specs.Walk.{rule_of}
use Rattle.clap.specs.Simple.{app_of, with_rule}
use Rattle.command_options.specs.Apps.{option_rule, options_app}
use Rattle.command_options.proofs.Apps.{more_rules}
use Rattle.command_options.proofs.options.command_with.Goals as goal

pub loop-name-preserved : goal.loop-name-preserved
loop-name-preserved c =
    let names = c.args.names.now in
    let i = c.loop-name.name-index in
    let name = c.new-in-loop-name.result.id in
    let rule_is : rule_of c.action-option.result ≡ option_rule name.now = search rules in
    let here : name ≡ get_or c.args.names.now c.loop-name.name-index name = search rules in
    let shape : app_of c.in-Ok.more ≡ with_rule (app_of c.loop-name.command) (rule_of c.action-option.result) = c.in-Ok.ensures.shape (search rules) in
    shape ∙ ap₂ with_rule c.loop-name.invariant rule_is
    ∙ ap (λ x. with_rule (options_app (map (λ n. n.now) (take i names)) (codes "options")) (option_rule x.now)) here ∙ more_rules names i name (codes "options") c.loop-name-test.true
