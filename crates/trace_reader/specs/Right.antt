-- What holds of what a line says, if the line breaks no rule. Source: this project's own.
use Rattle.std.specs.Prelude.{◌≡◌, ℕ, ◌+◌, ◌<◌, ◌≤◌, true, false, None, length, All}
use Rattle.std.specs.List.{list_any}
use Rattle.vm_types.specs.declared.limits.TheConstants.{MOST_BLOCKS, MOST_FAILS, MOST_PROCESSES}
use Rattle.vm_types.specs.Configuration.{FitsVersion, IsLimited, IsName, IsMapping, IsBlock, IsTask}
use Rattle.vm_types.specs.Kinds.{is_paged_kind}
use Rattle.vm_types.specs.Versions.{is_first, most_requests}
use Rattle.trace_words.specs.ParamWords.{least, most}
use Rattle.trace_lines.specs.declared.part.Part.{Part}
use Rattle.trace_lines.specs.Declarations.{has_room}
use Rattle.trace_lines.specs.Fails.{is_same}
use Rattle.trace_lines.specs.Headers.{is_listed}
use Rattle.trace_lines.specs.Lookups.{bytes_at, has_file, number_named, is_inside}
use Rattle.trace_lines.specs.Mappings.{overlaps}
use Rattle.trace_lines.specs.Places.{rank}
use Rattle.trace_lines.specs.Requests.{params_agree, has_frames}
use Rattle.trace_lines.specs.Says.{Says, Nothing, Version, Frames, PageFile, Param, Bad, Section, Data, Process, Map, Fail, Body, Request, End}

-- what the line says fits the declarations
abbrev pub Fits : Part → Says → Type 0
Fits part Nothing = Unit {0}
Fits part (Version v) = Unit {0}
Fits part (Frames n) = (8 ≤ n) × FitsVersion part.config.version n
Fits part (PageFile n) = (1 ≤ n) × (n ≤ MOST_BLOCKS)
Fits part (Param param n) = (least param ≤ n) × (n ≤ most param)
Fits part (Bad f) = (f < part.config.frames) × (is_listed part.config.bad f ≡ false)
Fits part (Section name of_kind pages) = IsName name × (1 ≤ pages) × (number_named part.config.sections name ≡ None) × (has_room part.config.sections pages ≡ true) × (is_paged_kind of_kind ≡ true → is_first part.config.version ≡ false)
Fits part (Data s at bytes) = (s < length part.config.sections) × (at + length bytes ≤ bytes_at part.config.sections s) × (has_file part.config.sections s ≡ true)
Fits part (Process spec) = IsLimited spec × (length part.config.procs < MOST_PROCESSES)
Fits part (Map m) = IsMapping (length part.config.procs) part.config.sections m × (is_inside (m.at).0 m.pages ≡ true) × (list_any (λ b. overlaps b m) part.config.maps ≡ false)
Fits part (Fail id calls) = IsBlock part.config id × ((1 ≤ length calls) × (length calls ≤ MOST_FAILS)) × All (λ call. 1 ≤ call) calls × (list_any (λ f. is_same f.block id) part.config.fails ≡ false)
Fits part Body = (1 ≤ length part.config.procs) × (params_agree part.config.params ≡ true) × (has_frames part.config ≡ true)
Fits part (Request task) = IsTask part.config.version (length part.config.procs) task × (length part.config.body < most_requests part.config.version)
Fits part End = Unit {0}

-- where a line that says this stands
abbrev pub place_for : Says → ℕ → ℕ
place_for Nothing now = now
place_for (Version v) now = 0
place_for (Frames n) now = 1
place_for (PageFile n) now = 2
place_for (Param param n) now = 3
place_for (Bad f) now = 3
place_for (Section name of_kind pages) now = 3
place_for (Data s at bytes) now = 3
place_for (Process spec) now = 3
place_for (Map m) now = 3
place_for (Fail id calls) now = 3
place_for Body now = 3
place_for (Request task) now = 4
place_for End now = 4

pub record IsRightLine (part : Part) (says : Says) : Type 0 where
  pub here : rank part.place ≡ place_for says (rank part.place)
  pub fits : Fits part says
