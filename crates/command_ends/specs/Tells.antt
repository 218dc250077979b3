-- What a command that reads a trace tells, by its status. Source: this project's own.
use Rattle.std.specs.Prelude.{◌≡◌, ℕ, List, [], ◌++◌, Some, IfSome, true}
use Rattle.vm_types.specs.Counts.{Rose}
use Rattle.vm_types.specs.declared.config.Config.{Config}
use Rattle.outside_io.specs.Views.{SourceView}
use Rattle.trace_lines.specs.declared.breach.Breach.{Breach}
use Rattle.trace_reader.specs.Answer.{IsTextTaken, HasShown}
use Rattle.trace_reader.specs.Meaning.{Configuration, Faulty, trace_of, shows_no_fault}
use Rattle.trace_reader.specs.Meaning as meaning
use Rattle.run_words.specs.Text.{status_line}
use Rattle.command_ends.specs.Concludes.{IsOutcome}
use Rattle.command_ends.specs.FaultText.{fault_text, unfinished_text}

-- if the source's bytes are known, they stand for the configuration and were read to their end
abbrev pub Reads : SourceView → SourceView → Config → Type 0
Reads before after config = IfSome before.left (λ text. (trace_of text ≡ Configuration config) × (after.left ≡ Some []))

-- the bytes have this first faulty line, and those taken show it
abbrev pub HasFault : SourceView → SourceView → ℕ → Breach → Type 0
HasFault before after n breach = IfSome before.left (λ text. (trace_of text ≡ Faulty n breach) × HasShown text after.left)

-- the bytes are accepted lines that end too early
abbrev pub IsUnfinished : SourceView → SourceView → Type 0
IsUnfinished before after = IfSome before.left (λ text. (trace_of text ≡ meaning.Unfinished) × (after.left ≡ Some []))

-- no line of the bytes taken is at fault
abbrev pub IsFaultless : SourceView → SourceView → Type 0
IsFaultless before after = IfSome before.left (λ text. (taken : List ℕ) × IsTextTaken text taken after.left × (shows_no_fault taken ≡ true))

-- the text that goes with a status, each with its cause. With a status of an outcome it is an answer
-- to the configuration; the source's count of failures rises with status 3 alone
pub data Tells (answer : Config → ℕ → List ℕ → Type 0) (before after : SourceView) : ℕ → List ℕ → Type 0 where
  answered : (config : Config) (status : ℕ) (text : List ℕ) → IsOutcome status → after.failures ≡ before.failures → Reads before after config → answer config status text
      → Tells answer before after status text
  faulty : (n : ℕ) (breach : Breach) → after.failures ≡ before.failures → HasFault before after n breach
      → Tells answer before after 2 (fault_text n breach.cause ++ status_line 2)
  unfinished : after.failures ≡ before.failures → IsUnfinished before after
      → Tells answer before after 2 (unfinished_text ++ status_line 2)
  unread : Rose before.failures after.failures → IsFaultless before after
      → Tells answer before after 3 (status_line 3)
  no_memory : after.failures ≡ before.failures → Tells answer before after 7 (status_line 7)

-- the source's bytes are known, and they stand for a configuration
abbrev pub IsTrace : SourceView → Type 0
IsTrace before = (text : List ℕ) × ((config : Config) × (before.left ≡ Some text) × (trace_of text ≡ Configuration config))
