-- The answer to a text that begins with a trace and goes on with a log, with its status and its lines. Source: this
-- project's own.
use Rattle.std.specs.Prelude.{◌≡◌, ℕ, List, [], ◌++◌, Some, IfSome, codes, decimal}
use Rattle.vm_types.specs.declared.config.Config.{Config}
use Rattle.outside_io.specs.Views.{SourceView}
use Rattle.run_words.specs.Text.{ended, status_line}
use Rattle.trace_reader.specs.Head.{Configured, head_of}
use Rattle.command_ends.specs.Wrongs.{log_fault_text, log_too_long_text}
use Rattle.log_model.specs.Log.{IsAtFault, IsLegalLog, IsTooLong}

-- the line before the status of a legal log
abbrev pub legal_line : ℕ → List ℕ
legal_line entries = ended (codes "LOG OK " ++ decimal entries)

-- what is said of a configuration and a log, of the trace up to END and the bytes behind the line LOG
pub record HasLog (says : Config → List ℕ → Type 0) (text : List ℕ) : Type 0 where
  pub config : Config
  pub log : List ℕ
  pub head : head_of text ≡ Configured config log
  pub said : says config log

-- the answer to what the source had: the log is legal, with so many entries, and was read to its end; the line
-- of this number is the first that isn't a legal next line; or the log goes on after as many legal lines as one
-- may have
pub data IsCheckAnswer (before after : SourceView) : ℕ → List ℕ → Type 0 where
  legal : (entries : ℕ) → IfSome before.left (λ text. HasLog (λ config log. IsLegalLog config log entries) text × (after.left ≡ Some []))
      → IsCheckAnswer before after 0 (legal_line entries ++ status_line 0)
  at_fault : (number : ℕ) → IfSome before.left (HasLog (λ config log. IsAtFault config log number))
      → IsCheckAnswer before after 8 (log_fault_text number ++ status_line 8)
  too_long : IfSome before.left (HasLog IsTooLong)
      → IsCheckAnswer before after 2 (log_too_long_text ++ status_line 2)
