-- A line is that of one number and one entry.
use Rattle.std.proofs.Common.{◌≡◌, ℕ, List, length, sym, ap, ◌∙◌, subst}
use Rattle.vm_types.specs.Configuration.{IsWellFormed}
use Rattle.vm_types.specs.declared.config.Config.{Config}
use Rattle.vm_types.specs.declared.config.ProcSpec.{ProcSpec}
use Rattle.vm_types.specs.declared.config.Section.{Section}
use Rattle.vm_text.specs.Named.{AreNames}
use Rattle.vm_journal.specs.HasLine.{HasLine, IsEntryNumber}
use Rattle.vm_journal.specs.Line.{line_text}
use Rattle.vm_journal.specs.declared.entry.Entry.{Entry}
use Rattle.entry_lines.proofs.OneToOne.{line_same}
use Rattle.log_check.specs.EntryLine.{IsItsLine}

names_are : (config : Config) → IsWellFormed config → AreNames (length config.procs) config.sections
names_are config formed = record { few = formed.some_process.1; named = λ k d within. (formed.sections.each k d within).name; differ = formed.sections.differ }

-- the line of number n is no other number's
pub other_number : (config : Config) (line : List ℕ) (n number : ℕ) (e f : Entry) → IsWellFormed config → IsEntryNumber n → IsEntryNumber number → (n ≡ number → ⊥)
    → IsItsLine config n line e → IsItsLine config number line f → ⊥
other_number config line n number e f formed small small' differ is is' =
    differ (line_same (length config.procs) config.sections n number e f (names_are config formed) small small' is.has is'.has (sym is.text ∙ is'.text)).0

-- what is read by other lists that are the configuration's
pub its_line : (config : Config) (procs : List ProcSpec) (names : List Section) (line : List ℕ) (n : ℕ) (e : Entry) → procs ≡ config.procs → names ≡ config.sections
    → HasLine (length procs) names e × (line_text n e (length procs) names ≡ line) → IsItsLine config n line e
its_line config procs names line n e procs_are names_are has = record {
  has = subst (λ (s : List Section). HasLine (length config.procs) s e) names_are (subst (λ (p : List ProcSpec). HasLine (length p) names e) procs_are has.0);
  text = sym has.1 ∙ (ap (λ (p : List ProcSpec). line_text n e (length p) names) procs_are ∙ ap (λ (s : List Section). line_text n e (length config.procs) s) names_are);
}
