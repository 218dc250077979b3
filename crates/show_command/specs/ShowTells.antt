-- What `show` tells, by its status. Source: this project's own.
use Rattle.std.specs.Prelude.{◌≡◌, ◌⊎◌, ℕ, ◌≤◌, List, [], ◌++◌, None, Some, IfSome}
use Rattle.std.specs.declared.option.Option.{Option}
use Rattle.std.specs.Io.KnownBytes.{Consumes}
use Rattle.vm_types.specs.Counts.{Rose}
use Rattle.outside_io.specs.Views.{SinkView, SourceView}
use Rattle.run_words.specs.Text.{status_line}
use Rattle.command_ends.specs.Ends.{Ends}
use Rattle.command_ends.specs.Wrongs.{dump_bad_text}
use Rattle.command_ends.specs.declared.wrong.Wrong.{Wrong}
use Rattle.command_ends.specs.declared.wrong.Wrong.TheVariants.{DumpByte}
use Rattle.dump_bytes.specs.Begins.{BeginsDump, IsBadAfter, IsTextOf}
use Rattle.dump_bytes.specs.Bounds.{IsDump}
use Rattle.dump_bytes.specs.Dumped.{Dumped}
use Rattle.dump_bytes.specs.declared.fault.DumpFault.{DumpFault}
use Rattle.dump_bytes.specs.declared.fault.DumpFault.TheVariants as fault
use Rattle.dump_lines.specs.ShowText.{show_text}

-- the dump keeps the bounds of its layout; if the source's bytes are known, they are its text, and were read to their end
pub record ReadsDump (before after : SourceView) (d : Dumped) : Type 0 where
  pub bounds : IsDump d
  pub text : IfSome before.left (λ text. IsTextOf text d × (after.left ≡ Some []))

-- the bytes stop being a dump after so many
abbrev pub IsBad : SourceView → ℕ → Type 0
IsBad before n = IfSome before.left (λ text. IsBadAfter text n)

-- the bytes taken begin some dump
abbrev pub HasBegun : SourceView → SourceView → Type 0
HasBegun before after = IfSome before.left (λ text. (taken : List ℕ) × BeginsDump taken × Consumes (Some text) after.left taken)

-- the text that goes with a status, each with its cause; the source's count of failures rises with status 3, and may
-- have risen behind the bytes that are bad
pub data ShowTells (before after : SourceView) : ℕ → List ℕ → Type 0 where
  shown : (d : Dumped) → after.failures ≡ before.failures → ReadsDump before after d → ShowTells before after 0 (show_text d)
  bad : (n : ℕ) → before.failures ≤ after.failures → IsBad before n → ShowTells before after 2 (dump_bad_text n ++ status_line 2)
  unread : Rose before.failures after.failures → HasBegun before after → ShowTells before after 3 (status_line 3)
  no_memory : after.failures ≡ before.failures → ShowTells before after 7 (status_line 7)

-- the source's bytes are known, and they are a dump's text
pub record HasDump (before : SourceView) : Type 0 where
  pub text : List ℕ
  pub dump : Dumped
  pub known : before.left ≡ Some text
  pub is : IsTextOf text dump

-- a dump's text with status 0, or status 7 because memory ran out
abbrev pub EndsShown : Dumped → SinkView → SinkView → ℕ → Type 0
EndsShown d before after result = Ends before after 0 (show_text d) result ⊎ Ends before after 7 (status_line 7) result

-- where the input gives no dump: the status, the text, and what is wrong
abbrev pub fault_status : DumpFault → ℕ
fault_status (fault.Bad n) = 2
fault_status fault.ReadFault = 3
fault_status fault.NoMemory = 7

abbrev pub fault_told : DumpFault → List ℕ
fault_told (fault.Bad n) = dump_bad_text n ++ status_line 2
fault_told fault.ReadFault = status_line 3
fault_told fault.NoMemory = status_line 7

abbrev pub wrong_in_dump : DumpFault → Option Wrong
wrong_in_dump (fault.Bad n) = Some (DumpByte n)
wrong_in_dump fault.ReadFault = None
wrong_in_dump fault.NoMemory = None
