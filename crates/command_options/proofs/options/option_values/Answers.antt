use Rattle.std.proofs.Common.{◌∙◌, codes}
use Rattle.clap.specs.Simple.{app_of}
use Rattle.command_options.proofs.Values.{are_texts, ended, found_values, none_found}
use Rattle.command_options.proofs.options.option_values.Goals as goal

pub returns-then-has_end-clause-all : goal.returns-then-has_end-clause-all
returns-then-has_end-clause-all c = λ values has. absurd (ended c.args.names.now c.args.words.now values c.requires (c.has_end.ensures.some c.if-has_end.true) has)

pub returns-in-Ok-clause-some : goal.returns-in-Ok-clause-some
returns-in-Ok-clause-some c =
    (found_values c.args.names.now c.args.words.now (codes "options") (app_of c.in_ok-command.command) c.in_ok-command.ensures c.requires c.in-Ok.matches
    (are_texts c.args.words.now (c.has_end.ensures.none c.if-has_end.false) (c.has_end.ensures.text c.if-has_end.false)) c.in-Ok.ensures.kinds c.in-Ok.ensures.matches
    c.first_values.result c.first_values.ensures.some c.first_values.ensures.none).some

pub returns-in-Ok-clause-all : goal.returns-in-Ok-clause-all
returns-in-Ok-clause-all c =
    (found_values c.args.names.now c.args.words.now (codes "options") (app_of c.in_ok-command.command) c.in_ok-command.ensures c.requires c.in-Ok.matches
    (are_texts c.args.words.now (c.has_end.ensures.none c.if-has_end.false) (c.has_end.ensures.text c.if-has_end.false)) c.in-Ok.ensures.kinds c.in-Ok.ensures.matches
    c.first_values.result c.first_values.ensures.some c.first_values.ensures.none).all

pub returns : goal.returns
returns c = record {
  some = tt;
  all = λ values has. absurd (none_found c.args.names.now c.args.words.now (codes "options") (app_of c.in_ok-command.command) c.in_ok-command.ensures c.requires c.in-Err.error
      (λ memory. c.in_default.not-OutOfMemory (c.kind.ensures ∙ memory)) c.in-Err.ensures.kinds values has);
}
