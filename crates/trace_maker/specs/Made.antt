-- The configuration that a seed makes. Source: this project's own.
use Rattle.std.specs.Prelude.{ℕ, zero, suc, ◌+◌, ◌*◌, ◌/◌, ◌%◌, List, [], ◌∷◌, ◌++◌, codes}
use Rattle.vm_types.specs.declared.limits.TheConstants.{PAGE_BYTES}
use Rattle.vm_types.specs.declared.config.Config.{Config}
use Rattle.vm_types.specs.declared.config.Mapping.{Mapping}
use Rattle.vm_types.specs.declared.config.Origin.{Origin}
use Rattle.vm_types.specs.declared.config.Origin.TheVariants as origin
use Rattle.vm_types.specs.declared.config.Params.{Params}
use Rattle.vm_types.specs.declared.config.ProcSpec.{ProcSpec}
use Rattle.vm_types.specs.declared.config.Section.{Section}
use Rattle.vm_types.specs.declared.config.SectionKind.{SectionKind}
use Rattle.vm_types.specs.declared.config.SectionKind.TheVariants as kind
use Rattle.vm_types.specs.declared.config.Task.{Task}
use Rattle.vm_types.specs.declared.config.Version.TheVariants as version
use Rattle.trace_maker.specs.Draws.{after_six, task_from}

abbrev pub made_params : Params
made_params = record {
  pfc = 8;
  hilimit = 64;
  lolimit = 16;
  waitlimit = 128;
  wrtcluster = 16;
  freelim = 16;
  freegoal = 32;
  awstime = 100;
  pfrath = 20;
  pfratl = 4;
  wsinc = 16;
  wsdec = 8;
  awsmin = 16;
  borrowlim = 64;
}

-- the first so many bytes of a section: byte k of page i is i + k modulo 256
unfoldable pub pattern : ℕ → List ℕ
pattern zero = []
pattern (suc n) = pattern n ++ ((n / PAGE_BYTES + n % PAGE_BYTES) % 256) ∷ []

abbrev pub made_section : List ℕ → SectionKind → ℕ → Section
made_section name of_kind pages = record { name = name; kind = of_kind; bytes = pattern (PAGE_BYTES * pages) }

abbrev pub made_sections : List Section
made_sections = made_section (codes "LIB") kind.Shared 256 ∷ made_section (codes "IMG") kind.Crf 64 ∷ []

abbrev pub made_process : ProcSpec
made_process = record { limit = 48; quota = 64; extent = 80; locks = 8 }

-- so many processes
unfoldable pub made_procs : ℕ → List ProcSpec
made_procs zero = []
made_procs (suc n) = made_procs n ++ made_process ∷ []

abbrev pub made_map : ℕ → ℕ → ℕ → Origin → Mapping
made_map p at pages from = record { proc = record { 0 = p }; at = record { 0 = at }; pages = pages; from = from; prot = 4 }

-- what each of so many processes maps
unfoldable pub made_maps : ℕ → List Mapping
made_maps zero = []
made_maps (suc p) =
    (((made_maps p ++ made_map p 0 256 origin.Zero ∷ [])
    ++ made_map p 0x40000 256 (origin.Section (record { 0 = 0 }) 0) ∷ [])
    ++ made_map p 0x80000 64 (origin.Section (record { 0 = 1 }) 0) ∷ [])
    ++ made_map p 0x7fffc000 32 origin.Zero ∷ []

-- the state after so many references
unfoldable pub state_after : ℕ → ℕ → ℕ
state_after seed zero = seed
state_after seed (suc n) = after_six (state_after seed n)

-- so many references
unfoldable pub made_body : ℕ → ℕ → ℕ → List Task
made_body seed procs zero = []
made_body seed procs (suc n) = made_body seed procs n ++ task_from (state_after seed n) procs ∷ []

abbrev pub made_config : ℕ → ℕ → ℕ → Config
made_config seed procs refs = record {
  version = version.One;
  frames = 96 * procs + 32;
  bad = [];
  pagefile = 8192;
  params = made_params;
  sections = made_sections;
  procs = made_procs procs;
  maps = made_maps procs;
  fails = [];
  body = made_body seed procs refs;
}
