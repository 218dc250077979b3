-- What the lines of a trace declare, one after another. Source: this project's own.
use Rattle.std.specs.Prelude.{ℕ, zero, suc, ◌+◌, ◌*◌, Bool, true, false, List, [], ◌∷◌, ◌++◌, length, take, drop, replicate, slice_set}
use Rattle.vm_types.specs.declared.limits.TheConstants.{PAGE_BYTES}
use Rattle.vm_types.specs.declared.config.Config.{Config}
use Rattle.vm_types.specs.declared.config.Section.{Section as Held}
use Rattle.vm_types.specs.declared.config.SectionKind.{SectionKind}
use Rattle.vm_types.specs.declared.config.Version.TheVariants as version
use Rattle.trace_words.specs.ParamWords.{default_params, with_param, number_of}
use Rattle.trace_lines.specs.declared.part.Part.{Part}
use Rattle.trace_lines.specs.declared.places.Place.TheVariants as place
use Rattle.trace_lines.specs.Says.{Says, Nothing, Version, Frames, PageFile, Param, Bad, Section, Data, Process, Map, Fail, Body, Request, End}

-- before the first line
abbrev pub start : Part
start = record {
  place = place.Version;
  config = record { version = version.One; frames = 0; bad = []; pagefile = 0; params = default_params; sections = []; procs = []; maps = []; fails = []; body = [] };
  given = replicate 14 false;
}

-- the bytes with these in the place of those from here on
abbrev pub overwritten : List ℕ → ℕ → List ℕ → List ℕ
overwritten bytes at new = take at bytes ++ new ++ drop (at + length new) bytes

-- the sections with these bytes in the one of this number
abbrev pub with_bytes : List Held → ℕ → ℕ → List ℕ → List Held
with_bytes [] s at new = []
with_bytes (x ∷ sections) zero at new = record x { bytes = overwritten x.bytes at new } ∷ sections
with_bytes (x ∷ sections) (suc s) at new = x ∷ with_bytes sections s at new

-- a section of zeros
abbrev pub blank_section : List ℕ → SectionKind → ℕ → Held
blank_section name of_kind pages = record { name = name; kind = of_kind; bytes = replicate (PAGE_BYTES * pages) 0 }

-- the declarations with these
abbrev pub at : Part → Config → Part
at part config = record part { config = config }

-- the declarations after a line that says this
abbrev pub changed : Part → Says → Part
changed part Nothing = part
changed part (Version v) = record { place = place.Frames; config = record part.config { version = v }; given = part.given }
changed part (Frames n) = record { place = place.PageFile; config = record part.config { frames = n }; given = part.given }
changed part (PageFile n) = record { place = place.Declarations; config = record part.config { pagefile = n }; given = part.given }
changed part (Param param n) = record { place = part.place; config = record part.config { params = with_param param n part.config.params }; given = slice_set part.given (number_of param) true }
changed part (Bad f) = at part (record part.config { bad = part.config.bad ++ f ∷ [] })
changed part (Section name of_kind pages) = at part (record part.config { sections = part.config.sections ++ blank_section name of_kind pages ∷ [] })
changed part (Data s offset new) = at part (record part.config { sections = with_bytes part.config.sections s offset new })
changed part (Process spec) = at part (record part.config { procs = part.config.procs ++ spec ∷ [] })
changed part (Map m) = at part (record part.config { maps = part.config.maps ++ m ∷ [] })
changed part (Fail id numbers) = at part (record part.config { fails = part.config.fails ++ record { block = id; calls = numbers } ∷ [] })
changed part Body = record part { place = place.Requests }
changed part (Request task) = at part (record part.config { body = part.config.body ++ task ∷ [] })
changed part End = record part { place = place.Ended }
