use Rattle.std.proofs.Common.{◌∙◌, arith, sym}
use Rattle.shadow_pager.specs.Shown.{shown}
use Rattle.log_rundown.proofs.Choices.{goes_on, last_over, next_begins, none_listed}
use Rattle.log_rundown.proofs.moves.choose_round.Goals as goal

pub returns-then-not-is_shared_listed : goal.returns-then-not-is_shared_listed
returns-then-not-is_shared_listed c =
    λ config. none_listed config (shown c.args.pager.now).pager c.args.following c.args.left (sym c.if-not-is_shared_listed.true ∙ c.is_shared_listed.ensures)

pub returns-then-left-gt0 : goal.returns-then-left-gt0
returns-then-left-gt0 c =
    λ config. goes_on config (shown c.args.pager.now).pager c.args.following c.args.left (sym c.if-not-is_shared_listed.false ∙ c.is_shared_listed.ensures) c.if-left-gt0.true

pub returns-then-following-eq0 : goal.returns-then-following-eq0
returns-then-following-eq0 c =
    λ config. last_over config (shown c.args.pager.now).pager c.args.following c.args.left (sym c.if-not-is_shared_listed.false ∙ c.is_shared_listed.ensures) c.if-left-gt0.false c.if-following-eq0.true

pub returns : goal.returns
returns c =
    λ config. next_begins config (shown c.args.pager.now).pager c.args.following c.args.left (sym c.if-not-is_shared_listed.false ∙ c.is_shared_listed.ensures) c.modified_frames-listed.result
    c.if-left-gt0.false (let some = c.if-following-eq0.false in omega (arith, some)) c.modified_frames-listed.ensures
