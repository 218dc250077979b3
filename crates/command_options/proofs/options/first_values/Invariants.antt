use Rattle.std.proofs.Common.{◌≡◌, Some, map, take}
use Rattle.clap.specs.Matches.{first_value, found_of}
use Rattle.command_options.proofs.options.first_values.Given as goal

abbrev pub invariant-loop-name : goal.invariant-loop-name
invariant-loop-name l = map (λ name. first_value (found_of l.matches) name.now) (take l.name-index l.names) ≡ map (λ value. Some value.now) l.values.items
