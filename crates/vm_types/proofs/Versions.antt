-- What a version has is at most what the greatest has.
use Rattle.std.proofs.Common.{◌≤◌, Bool, true, false, cond, arith}
use Rattle.vm_types.specs.Versions.{is_first, is_long, most_frames, most_lines, most_requests}
use Rattle.vm_types.specs.declared.config.Version.{Version}
use Rattle.vm_types.specs.declared.limits.TheConstants.{MOST_FRAMES, MOST_FRAMES_OF_ONE, MOST_LINES, MOST_LONG_LINES, MOST_LONG_REQUESTS, MOST_REQUESTS}

pub frames_at_most : (v : Version) → most_frames v ≤ MOST_FRAMES
frames_at_most v = by (is_first v)
  where
    by : (b : Bool) → cond b MOST_FRAMES_OF_ONE MOST_FRAMES ≤ MOST_FRAMES
    by true = omega arith
    by false = omega arith

pub requests_at_most : (v : Version) → most_requests v ≤ MOST_LONG_REQUESTS
requests_at_most v = by (is_long v)
  where
    by : (b : Bool) → cond b MOST_LONG_REQUESTS MOST_REQUESTS ≤ MOST_LONG_REQUESTS
    by true = omega arith
    by false = omega arith

pub lines_at_most : (v : Version) → most_lines v ≤ MOST_LONG_LINES
lines_at_most v = by (is_long v)
  where
    by : (b : Bool) → cond b MOST_LONG_LINES MOST_LINES ≤ MOST_LONG_LINES
    by true = omega arith
    by false = omega arith

-- and no version has fewer lines or requests than the least
pub lines_at_least : (v : Version) → MOST_LINES ≤ most_lines v
lines_at_least v = by (is_long v)
  where
    by : (b : Bool) → MOST_LINES ≤ cond b MOST_LONG_LINES MOST_LINES
    by true = omega arith
    by false = omega arith
