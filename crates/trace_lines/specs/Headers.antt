-- The lines that hold numbers of the machine: VMTRACE n, LONGTRACE n, FRAMES n, PAGEFILE n, PARAM name n, BAD f.
-- Source: this project's own.
use Rattle.std.specs.Prelude.{ℕ, Bool, not, ◌==◌, nat_lt, List, [], ◌∷◌, Result, Ok, Err, slice_index_or, false, if◌then◌else◌}
use Rattle.std.specs.List.{list_any}
use Rattle.vm_types.specs.declared.limits.TheConstants.{MOST_BLOCKS}
use Rattle.vm_types.specs.declared.config.Config.{Config}
use Rattle.vm_types.specs.declared.config.Version.{Version as Format}
use Rattle.vm_types.specs.declared.config.Version.TheVariants as version
use Rattle.vm_types.specs.Versions.{most_frames}
use Rattle.trace_words.specs.declared.cause.Cause.TheVariants.{OutOfRange, Repeated as AlreadyGiven}
use Rattle.trace_words.specs.Judged.{◌>>=◌, owed}
use Rattle.trace_words.specs.Number.{decimal}
use Rattle.trace_words.specs.ParamWords.{param_of, least, most, number_of}
use Rattle.trace_lines.specs.declared.breach.Bound.TheVariants.{Free, BelowFrames}
use Rattle.trace_lines.specs.declared.breach.Breach.{Breach}
use Rattle.trace_lines.specs.Breaches.{at_word, bounded, marked, miscounted, ranged}
use Rattle.trace_lines.specs.Says.{Says, Version, Frames, PageFile, Param, Bad}

-- the version of this number, 1 or 2
abbrev pub version_of : ℕ → Format
version_of n = if n == 1 then version.One else version.Two

-- VMTRACE 1, VMTRACE 2
abbrev pub version_line : List (List ℕ) → Result Says Breach
version_line (n ∷ []) = ranged 2 1 2 n >>= λ number. Ok (Version (version_of number))
version_line other = Err (miscounted 2 1 other)

-- LONGTRACE 2
abbrev pub long_line : List (List ℕ) → Result Says Breach
long_line (n ∷ []) = ranged 2 2 2 n >>= λ number. Ok (Version version.Long)
long_line other = Err (miscounted 2 1 other)

-- FRAMES n, by the version
abbrev pub frames_line : Config → List (List ℕ) → Result Says Breach
frames_line config (n ∷ []) = ranged 2 8 (most_frames config.version) n >>= λ frames. Ok (Frames frames)
frames_line config other = Err (miscounted 2 1 other)

-- PAGEFILE n
abbrev pub pagefile_line : List (List ℕ) → Result Says Breach
pagefile_line (n ∷ []) = ranged 2 1 MOST_BLOCKS n >>= λ blocks. Ok (PageFile blocks)
pagefile_line other = Err (miscounted 2 1 other)

-- PARAM name n, each once
abbrev pub param_line : List Bool → List (List ℕ) → Result Says Breach
param_line given (name ∷ n ∷ []) =
    marked 2 Free (param_of name) >>= λ param. ranged 3 (least param) (most param) n >>= λ value.
    owed (not (slice_index_or given (number_of param) false)) (at_word 2 AlreadyGiven) (Ok (Param param value))
param_line given other = Err (miscounted 2 2 other)

-- whether the frame is among these
abbrev pub is_listed : List ℕ → ℕ → Bool
is_listed frames f = list_any (λ g. g == f) frames

-- BAD f, each once
abbrev pub bad_line : Config → List (List ℕ) → Result Says Breach
bad_line config (f ∷ []) =
    marked 2 (BelowFrames config.frames) (decimal f) >>= λ frame.
    owed (nat_lt frame config.frames) (bounded 2 OutOfRange (BelowFrames config.frames))
    (owed (not (is_listed config.bad frame)) (at_word 2 AlreadyGiven) (Ok (Bad frame)))
bad_line config other = Err (miscounted 2 1 other)
