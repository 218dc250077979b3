-- The law that ties the grammar of traces to what was meant. Source: this project's own.
use Rattle.std.specs.Prelude.{◌≡◌, ◌^◌, ◌<◌, ◌≤◌, length, All}
use Rattle.vm_types.specs.Configuration.{IsWellFormed}
use Rattle.vm_types.specs.Versions.{most_lines}
use Rattle.vm_types.specs.declared.config.Config.{Config}
use Rattle.trace_reader.specs.Meaning.{Configuration, trace_of}
use Rattle.trace_spelling.specs.Spelling.{lines_of, spelling}

-- the sections hold bytes, and the numbers of calls have 32 bits, as in the code
pub record IsTyped (config : Config) : Type 0 where
  pub bytes : All (λ section. All (λ b. b < 2 ^ 8) section.bytes) config.sections
  pub calls : All (λ fails. All (λ call. call < 2 ^ 32) fails.calls) config.fails

-- the plain spelling of a configuration is read as what it spells, if it has no more lines than a trace of its
-- version may have
abbrev pub SpellingIsRead : Type 0
SpellingIsRead = (config : Config) → IsWellFormed config → IsTyped config → length (lines_of config) ≤ most_lines config.version → trace_of (spelling config) ≡ Configuration config
