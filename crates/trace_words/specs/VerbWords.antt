-- What may stand second in a request. Source: this project's own.
use Rattle.std.specs.Prelude.{ℕ, List, Option, Some, option_map}
use Rattle.std.specs.Option.{option_map_or}
use Rattle.trace_words.specs.declared.verbs.Verb.{Verb}
use Rattle.trace_words.specs.declared.verbs.Verb.TheVariants.{Op, Service}
use Rattle.trace_words.specs.OpWords.{op_name}
use Rattle.trace_words.specs.ServiceWords.{service_name}

-- an operation or a service
abbrev pub verb_of : List ℕ → Option Verb
verb_of word = option_map_or (λ op. Some (Op op)) (op_name word) (option_map Service (service_name word))
