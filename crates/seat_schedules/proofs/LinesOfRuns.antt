-- The entries of a run, oldest first, have lines, and the sections of its configuration have names.
use Rattle.std.proofs.Common.{List, length, reverse}
use Rattle.std.specs.Prelude.{All}
use Rattle.std.proofs.lemmas.List.Elements.{All-from_recursion, All-weaker, recursion_from_All}
use Rattle.vm_types.specs.Configuration.{IsName, IsSection, IsWellFormed}
use Rattle.vm_types.specs.declared.config.Config.{Config}
use Rattle.vm_types.specs.declared.config.Section.{Section}
use Rattle.vm_text.specs.Named.{AreNames}
use Rattle.carried_landings.proofs.Reversed.{all_reverse}

pub all_turned : {X : Type 0} (P : X → Type 0) (xs : List X) → All P xs → All P (reverse xs)
all_turned P xs all = All-from_recursion P (reverse xs) (all_reverse P xs (recursion_from_All P xs all))

pub are_names : (config : Config) → IsWellFormed config → AreNames (length config.procs) config.sections
are_names config formed = record {
  few = formed.some_process.1;
  named = All-weaker (IsSection config.version) (λ (section : Section). IsName section.name) (λ section is. is.name) config.sections formed.sections.each;
  differ = formed.sections.differ;
}
