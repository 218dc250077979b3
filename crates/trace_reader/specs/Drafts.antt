-- What the lines so far keep. Source: this project's own.
use Rattle.std.specs.Prelude.{◌≡◌, ◌≢◌, ℕ, ◌<◌, ◌≤◌, true, [], length, All, AllPairs, Result, Err, IsOk}
use Rattle.vm_types.specs.declared.limits.TheConstants.{MOST_BLOCKS, MOST_COUNTED, MOST_EXTENT, MOST_FREE, MOST_LIFTS, MOST_MODIFIED, MOST_PROCESSES, MOST_READ_CLUSTER}
use Rattle.vm_types.specs.Configuration.{FitsVersion, AreSections, IsMapping, AreApart, AreFails, IsTask, IsLimited}
use Rattle.vm_types.specs.Versions.{most_requests}
use Rattle.vm_types.specs.declared.config.Config.{Config}
use Rattle.vm_types.specs.declared.config.Params.{Params}
use Rattle.trace_lines.specs.declared.breach.Breach.{Breach}
use Rattle.trace_lines.specs.declared.part.Part.{Part}
use Rattle.trace_lines.specs.Places.{rank}
use Rattle.trace_lines.specs.Requests.{params_agree, has_frames}
use Rattle.trace_reader.specs.declared.draft.Refused.{Refused}
use Rattle.trace_reader.specs.declared.draft.Refused.TheVariants.{Fault, NoMemory}

-- the ranges of the parameters
pub record AreInRange (params : Params) : Type 0 where
  pub pfc : (1 ≤ params.pfc) × (params.pfc ≤ MOST_READ_CLUSTER)
  pub hilimit : params.hilimit ≤ MOST_MODIFIED
  pub lolimit : params.lolimit ≤ MOST_MODIFIED
  pub waitlimit : (1 ≤ params.waitlimit) × (params.waitlimit ≤ MOST_MODIFIED)
  pub wrtcluster : (1 ≤ params.wrtcluster) × (params.wrtcluster ≤ MOST_LIFTS)
  pub freelim : params.freelim ≤ MOST_FREE
  pub freegoal : params.freegoal ≤ MOST_FREE
  pub awstime : params.awstime ≤ MOST_COUNTED
  pub pfrath : params.pfrath ≤ MOST_COUNTED
  pub pfratl : params.pfratl ≤ MOST_COUNTED
  pub wsinc : params.wsinc ≤ MOST_EXTENT
  pub wsdec : params.wsdec ≤ MOST_EXTENT
  pub awsmin : (2 ≤ params.awsmin) × (params.awsmin ≤ MOST_EXTENT)
  pub borrowlim : params.borrowlim ≤ MOST_FREE

-- what the declarations keep by themselves
pub record AreSound (config : Config) : Type 0 where
  pub frames : FitsVersion config.version config.frames
  pub bad : All (λ f. f < config.frames) config.bad
  pub bad_differ : AllPairs (λ f g. f ≢ g) config.bad
  pub pagefile : config.pagefile ≤ MOST_BLOCKS
  pub params : AreInRange config.params
  pub sections : AreSections config.version config.sections
  pub few_procs : length config.procs ≤ MOST_PROCESSES
  pub procs : All IsLimited config.procs
  pub maps : All (IsMapping (length config.procs) config.sections) config.maps
  pub maps_apart : AllPairs AreApart config.maps
  pub fails : All (AreFails config) config.fails
  pub fails_differ : AllPairs (λ a b. a.block ≢ b.block) config.fails
  pub few_tasks : length config.body ≤ most_requests config.version
  pub body : All (IsTask config.version (length config.procs)) config.body

-- what the places before keep
pub record IsPlaced (place : ℕ) (config : Config) : Type 0 where
  pub no_frames : place < 2 → config.frames ≡ 0
  pub no_bad : place < 3 → config.bad ≡ []
  pub no_sections : place < 3 → config.sections ≡ []
  pub no_fails : place < 3 → config.fails ≡ []
  pub no_tasks : place < 4 → config.body ≡ []
  pub frames : 2 ≤ place → 8 ≤ config.frames
  pub pagefile : 3 ≤ place → 1 ≤ config.pagefile
  pub some_process : 4 ≤ place → 1 ≤ length config.procs
  pub agree : 4 ≤ place → params_agree config.params ≡ true
  pub room : 4 ≤ place → has_frames config ≡ true

-- what the lines up to this place keep
pub record IsDraft (part : Part) : Type 0 where
  pub sound : AreSound part.config
  pub placed : IsPlaced (rank part.place) part.config

-- why a line that gives this wasn't taken
abbrev pub IsLineRefused : Result Part Breach → Refused → Type 0
IsLineRefused next (Fault breach) = next ≡ Err breach
IsLineRefused next NoMemory = IsOk next
