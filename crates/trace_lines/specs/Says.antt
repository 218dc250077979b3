-- What a line says. Source: this project's own.
use Rattle.std.specs.Prelude.{ℕ, List, Result, Ok, Err}
use Rattle.vm_types.specs.declared.names.BlockId.{BlockId}
use Rattle.vm_types.specs.declared.config.Mapping.{Mapping}
use Rattle.vm_types.specs.declared.config.ProcSpec.{ProcSpec}
use Rattle.vm_types.specs.declared.config.SectionKind.{SectionKind}
use Rattle.vm_types.specs.declared.config.Task.{Task}
use Rattle.vm_types.specs.declared.config.Version.{Version as Format}
use Rattle.trace_words.specs.declared.params.Param.{Param as Parameter}
use Rattle.trace_lines.specs.declared.breach.Breach.{Breach}
use Rattle.trace_lines.specs.declared.line.Line.{Line}
use Rattle.trace_lines.specs.declared.line.Line.TheVariants as line

pub data Says : Type 0 where
  -- it is skipped
  Nothing : Says
  Version : Format → Says
  Frames : ℕ → Says
  PageFile : ℕ → Says
  Param : Parameter → ℕ → Says
  Bad : ℕ → Says
  -- a section's name, its kind, and its pages
  Section : List ℕ → SectionKind → ℕ → Says
  -- a section's number, the place of the first byte, and the bytes
  Data : ℕ → ℕ → List ℕ → Says
  Process : ProcSpec → Says
  Map : Mapping → Says
  Fail : BlockId → List ℕ → Says
  Body : Says
  Request : Task → Says
  End : Says

-- as the code holds it
abbrev pub meant : Line → Says
meant line.Nothing = Nothing
meant (line.Version v) = Version v
meant (line.Frames n) = Frames n
meant (line.PageFile n) = PageFile n
meant (line.Param param n) = Param param n
meant (line.Bad f) = Bad f
meant (line.Section name kind pages) = Section name.now kind pages
meant (line.Data s at bytes) = Data s at bytes.items
meant (line.Process spec) = Process spec
meant (line.Map m) = Map m
meant (line.Fail block calls) = Fail block calls.items
meant line.Body = Body
meant (line.Request task) = Request task
meant line.End = End

abbrev pub said : Result Line Breach → Result Says Breach
said (Ok read) = Ok (meant read)
said (Err breach) = Err breach
