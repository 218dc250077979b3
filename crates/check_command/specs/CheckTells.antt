-- What `check` tells, by its status. Source: this project's own.
use Rattle.std.specs.Prelude.{◌≡◌, ◌⊎◌, ℕ, List, [], ◌++◌, Option, Some, IfSome}
use Rattle.vm_types.specs.Counts.{Rose}
use Rattle.vm_types.specs.declared.config.Config.{Config}
use Rattle.outside_io.specs.Views.{SourceView}
use Rattle.trace_lines.specs.declared.breach.Breach.{Breach}
use Rattle.trace_reader.specs.Head.{Configured, Faulty, head_of}
use Rattle.trace_reader.specs.Head as head
use Rattle.trace_reader.specs.HeadAnswer.{IsCutShort as IsHeadCut}
use Rattle.log_model.specs.Log.{IsTooLong}
use Rattle.log_check.specs.Judged.{IsCutShort as IsLogCut}
use Rattle.run_words.specs.Text.{status_line}
use Rattle.command_ends.specs.FaultText.{fault_text, unfinished_text}
use Rattle.check_command.specs.Answers.{IsRead}
use Rattle.check_command.specs.CheckText.{HasLog, IsCheckAnswer}

-- no line that was taken is at fault: of a trace, and then a part of a line was taken; or of a trace and of a log,
-- and then a part of a line or a line; this is left
abbrev pub IsFaultlessCheck : List ℕ → Option (List ℕ) → Type 0
IsFaultlessCheck text left = IsHeadCut text left ⊎ HasLog (λ config log. IsLogCut config log left) text

-- the text that goes with a status, each with its cause; the source's count of failures rises with status 3 alone
pub data CheckTells (before after : SourceView) : ℕ → List ℕ → Type 0 where
  answered : (status : ℕ) (text : List ℕ) → after.failures ≡ before.failures → IsCheckAnswer before after status text
      → CheckTells before after status text
  faulty : (n : ℕ) (breach : Breach) → after.failures ≡ before.failures → IfSome before.left (λ text. head_of text ≡ Faulty n breach)
      → CheckTells before after 2 (fault_text n breach.cause ++ status_line 2)
  unfinished : after.failures ≡ before.failures → IfSome before.left (λ text. (head_of text ≡ head.Unfinished) × (after.left ≡ Some []))
      → CheckTells before after 2 (unfinished_text ++ status_line 2)
  unread : Rose before.failures after.failures → IfSome before.left (λ text. IsRead (IsFaultlessCheck text) after.left)
      → CheckTells before after 3 (status_line 3)
  no_memory : after.failures ≡ before.failures → CheckTells before after 7 (status_line 7)

-- the source's bytes are known: a trace and a log behind it, which hasn't more lines than a log may have
pub record HasCheckInput (before : SourceView) : Type 0 where
  pub text : List ℕ
  pub config : Config
  pub log : List ℕ
  pub known : before.left ≡ Some text
  pub head : head_of text ≡ Configured config log
  pub few : IsTooLong config log → ⊥
