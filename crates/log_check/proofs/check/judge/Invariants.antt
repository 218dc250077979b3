use Rattle.std.proofs.Common.{◌≡◌, ◌≤◌, length}
use Rattle.std.specs.Prelude.{IfSome, IsSome}
use Rattle.vm_types.specs.declared.limits.TheConstants.{MOST_LOG_LINES}
use Rattle.outside_io.specs.BytesLeft.{bytes_left}
use Rattle.log_check.specs.Followed.{IsFollowed}
use Rattle.log_check.specs.Reading.{HasRead, IsBehind}
use Rattle.log_check.proofs.check.judge.Given as goal

-- so many lines are legal, and what stands for them is kept
abbrev pub invariant-lines : goal.invariant-lines
invariant-lines g l = record {
  same_reference : l.lines.source.ghost_name ≡ l.fn.lines.source.ghost_name;
  followed : IsFollowed l.followed;
  config : l.followed.past.config ≡ l.fn.followed.past.config;
  fewer : length l.followed.past.past ≤ l.count;
  most : l.count ≤ MOST_LOG_LINES;
  read : IfSome (bytes_left g.S.Source.seen l.fn.lines) (λ text. HasRead text l.followed.past l.place l.count (bytes_left g.S.Source.seen l.lines));
  behind : IfSome (bytes_left g.S.Source.seen l.fn.lines) (λ text. IsBehind text l.count (bytes_left g.S.Source.seen l.lines));
  still_told : IsSome (g.S.Source.seen l.fn.lines.source.now).left → IsSome (g.S.Source.seen l.lines.source.now).left;
  faults : (g.S.Source.seen l.lines.source.now).failures ≡ (g.S.Source.seen l.fn.lines.source.now).failures;
}
