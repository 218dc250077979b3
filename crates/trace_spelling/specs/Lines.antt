-- The lines of a trace as words, one definition for each kind, with the keywords written out.
-- Source: this project's own.
use Rattle.std.specs.Prelude.{ℕ, zero, suc, ◌+◌, ◌*◌, ◌/◌, ◌==◌, Bool, List, [], ◌∷◌, ◌++◌, length, take, drop, map, codes, decimal, if◌then◌else◌}
use Rattle.std.specs.List.{list_all}
use Rattle.vm_types.specs.Configuration.{section_pages}
use Rattle.vm_types.specs.declared.config.Config.{Config}
use Rattle.vm_types.specs.declared.config.Fails.{Fails}
use Rattle.vm_types.specs.declared.config.Mapping.{Mapping}
use Rattle.vm_types.specs.declared.config.Origin.{Origin}
use Rattle.vm_types.specs.declared.config.Origin.TheVariants as origin
use Rattle.vm_types.specs.declared.config.Params.{Params}
use Rattle.vm_types.specs.declared.config.ProcSpec.{ProcSpec}
use Rattle.vm_types.specs.declared.config.Section.{Section}
use Rattle.vm_types.specs.declared.config.SectionKind.{SectionKind}
use Rattle.vm_types.specs.declared.config.SectionKind.TheVariants as kind
use Rattle.vm_types.specs.declared.config.Task.{Task}
use Rattle.vm_types.specs.declared.config.Version.{Version}
use Rattle.vm_types.specs.declared.config.Version.TheVariants as version
use Rattle.vm_types.specs.declared.service.Request.{Request}
use Rattle.vm_types.specs.declared.service.Request.TheVariants as request
use Rattle.vm_text.specs.Hex.{hex}
use Rattle.vm_text.specs.Names.{process_name, section_name, address_text, block_text}
use Rattle.vm_text.specs.References.{reference_words}
use Rattle.vm_text.specs.Services.{protection_name, service_words}

-- a line: its words
abbrev pub Line : Type 0
Line = List (List ℕ)

-- VMTRACE n, LONGTRACE n
abbrev pub version_line : Version → Line
version_line version.One = codes "VMTRACE" ∷ decimal 1 ∷ []
version_line version.Two = codes "VMTRACE" ∷ decimal 2 ∷ []
version_line version.Long = codes "LONGTRACE" ∷ decimal 2 ∷ []

-- the version's line, FRAMES n, PAGEFILE n
abbrev pub header_lines : Config → List Line
header_lines config =
    version_line config.version
    ∷ (codes "FRAMES" ∷ decimal config.frames ∷ [])
    ∷ (codes "PAGEFILE" ∷ decimal config.pagefile ∷ [])
    ∷ []

-- PARAM name n
abbrev pub param_line : List ℕ → ℕ → Line
param_line name n = codes "PARAM" ∷ name ∷ decimal n ∷ []

-- all parameters
abbrev pub param_lines : Params → List Line
param_lines params =
    param_line (codes "PFC") params.pfc
    ∷ param_line (codes "HILIMIT") params.hilimit
    ∷ param_line (codes "LOLIMIT") params.lolimit
    ∷ param_line (codes "WAITLIMIT") params.waitlimit
    ∷ param_line (codes "WRTCLUSTER") params.wrtcluster
    ∷ param_line (codes "FREELIM") params.freelim
    ∷ param_line (codes "FREEGOAL") params.freegoal
    ∷ param_line (codes "AWSTIME") params.awstime
    ∷ param_line (codes "PFRATH") params.pfrath
    ∷ param_line (codes "PFRATL") params.pfratl
    ∷ param_line (codes "WSINC") params.wsinc
    ∷ param_line (codes "WSDEC") params.wsdec
    ∷ param_line (codes "AWSMIN") params.awsmin
    ∷ param_line (codes "BORROWLIM") params.borrowlim
    ∷ []

-- BAD f
abbrev pub bad_line : ℕ → Line
bad_line f = codes "BAD" ∷ decimal f ∷ []

abbrev pub kind_word : SectionKind → List ℕ
kind_word kind.Shared = codes "SHARED"
kind_word kind.Crf = codes "CRF"
kind_word kind.Paged = codes "PAGED"

-- SECTION name SHARED n, SECTION name CRF n, SECTION name PAGED n
abbrev pub section_line : Section → Line
section_line section = codes "SECTION" ∷ section.name ∷ kind_word section.kind ∷ decimal (section_pages section) ∷ []

-- two digits for each byte
abbrev pub pairs_text : List ℕ → List ℕ
pairs_text [] = []
pairs_text (b ∷ bytes) = hex 2 b ++ pairs_text bytes

-- the bytes of the section by pieces of 64: the piece of this number
abbrev pub piece : List ℕ → ℕ → List ℕ
piece bytes k = take 64 (drop (64 * k) bytes)

-- DATA name offset hex
abbrev pub data_line : Section → ℕ → Line
data_line section k = codes "DATA" ∷ section.name ∷ decimal (64 * k) ∷ pairs_text (piece section.bytes k) ∷ []

abbrev pub are_zeros : List ℕ → Bool
are_zeros bytes = list_all (λ b. b == 0) bytes

-- a piece of zeros needs no line
abbrev pub piece_lines : Section → ℕ → List Line
piece_lines section k = if are_zeros (piece section.bytes k) then [] else data_line section k ∷ []

-- the lines of the numbers below this one
abbrev pub below : (ℕ → List Line) → ℕ → List Line
below lines zero = []
below lines (suc n) = below lines n ++ lines n

-- those of all pieces of a section
abbrev pub data_lines : Section → List Line
data_lines section = below (piece_lines section) (length section.bytes / 64)

-- PROCESS x limit quota extent locks
abbrev pub process_line : ℕ → ProcSpec → Line
process_line p spec =
    codes "PROCESS" ∷ process_name p ∷ decimal spec.limit ∷ decimal spec.quota ∷ decimal spec.extent ∷ decimal spec.locks ∷ []

-- the processes from this number on
abbrev pub process_lines : ℕ → List ProcSpec → List Line
process_lines p [] = []
process_lines p (spec ∷ specs) = process_line p spec ∷ process_lines (p + 1) specs

-- MAPZERO x addr n prot, MAPSEC x addr n name first prot
abbrev pub map_words : List Section → Mapping → Origin → Line
map_words sections m origin.Zero =
    codes "MAPZERO" ∷ process_name (m.proc).0 ∷ address_text (m.at).0 ∷ decimal m.pages ∷ protection_name m.prot ∷ []
map_words sections m (origin.Section s first) =
    codes "MAPSEC" ∷ process_name (m.proc).0 ∷ address_text (m.at).0 ∷ decimal m.pages ∷ section_name sections s.0 ∷ decimal first ∷ protection_name m.prot ∷ []

abbrev pub map_line : List Section → Mapping → Line
map_line sections m = map_words sections m m.from

-- FAIL block, followed by the numbers of the calls
abbrev pub fail_line : List Section → Fails → Line
fail_line sections fails = codes "FAIL" ∷ block_text sections fails.block ∷ map decimal fails.calls

-- x op addr, x op addr value, x SERVICE words
abbrev pub request_words : Request → Line
request_words (request.Reference r) = reference_words r
request_words (request.Service s) = service_words s

abbrev pub request_line : Task → Line
request_line task = process_name (task.proc).0 ∷ request_words task.request
