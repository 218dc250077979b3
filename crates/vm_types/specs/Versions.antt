-- What each version of a trace's format has. Source: this project's own.
use Rattle.std.specs.Prelude.{ℕ, Bool, true, false, if◌then◌else◌}
use Rattle.vm_types.specs.declared.config.Version.{Version}
use Rattle.vm_types.specs.declared.config.Version.TheVariants as version
use Rattle.vm_types.specs.declared.limits.TheConstants.{MOST_FRAMES, MOST_FRAMES_OF_ONE, MOST_REQUESTS, MOST_LONG_REQUESTS, MOST_LINES, MOST_LONG_LINES}

-- version 1: it has fewer frames, no sections in the page file, and no page is pinned
abbrev pub is_first : Version → Bool
is_first version.One = true
is_first version.Two = false
is_first version.Long = false

abbrev pub is_long : Version → Bool
is_long version.One = false
is_long version.Two = false
is_long version.Long = true

-- the most page frames, requests and lines that a trace of the version has
abbrev pub most_frames : Version → ℕ
most_frames v = if is_first v then MOST_FRAMES_OF_ONE else MOST_FRAMES

abbrev pub most_requests : Version → ℕ
most_requests v = if is_long v then MOST_LONG_REQUESTS else MOST_REQUESTS

abbrev pub most_lines : Version → ℕ
most_lines v = if is_long v then MOST_LONG_LINES else MOST_LINES
