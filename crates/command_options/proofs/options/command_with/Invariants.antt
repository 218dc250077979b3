use Rattle.std.proofs.Common.{◌≡◌, codes, map, take}
use Rattle.clap.specs.Simple.{app_of}
use Rattle.command_options.specs.Apps.{options_app}
use Rattle.command_options.proofs.options.command_with.Given as goal

abbrev pub invariant-loop-name : goal.invariant-loop-name
invariant-loop-name l = app_of l.command ≡ options_app (map (λ name. name.now) (take l.name-index l.names)) (codes "options")
