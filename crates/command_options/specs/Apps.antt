-- A command of clap with an option for each name, which has to be given and takes a value. Source: this
-- project's own.
use Rattle.std.specs.Prelude.{true, List, [], Some, map}
use Rattle.clap.specs.Walk.{Rule, Text}
use Rattle.clap.specs.Simple.{App, new_rule, new_shape}
use Rattle.clap.specs.declared.builder.action.ArgAction.TheVariants.{Set}

abbrev pub option_rule : Text → Rule
option_rule name = record (new_rule name) {
  long = Some name;
  action = Some Set;
  required = true;
}

-- no flags for help or the version, and the first word is an option's
abbrev pub options_app : List Text → Text → App
options_app names name = record {
  top = record (new_shape name) {
    rules = map option_rule names;
    no_binary_name = true;
    disable_help_flag = true;
    disable_version_flag = true;
  };
  subs = [];
}
