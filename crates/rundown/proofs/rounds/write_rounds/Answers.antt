use Rattle.std.proofs.Common.{◌∙◌, ◌-◌, arith, sym}
use Rattle.rundown.proofs.RoundsGo.{goes_on, last_over, moved_as, next_begins, none_listed, resting}
use Rattle.rundown.proofs.rounds.write_rounds.Goals as goal

pub returns-then-not-is_shared_listed-clause-moved : goal.returns-then-not-is_shared_listed-clause-moved
returns-then-not-is_shared_listed-clause-moved g c =
    resting c.args.state.now _ (none_listed c.args.state.now c.args.following c.args.left (sym c.if-not-is_shared_listed.true ∙ c.is_shared_listed.ensures))

pub returns-then-left-gt0-clause-moved : goal.returns-then-left-gt0-clause-moved
returns-then-left-gt0-clause-moved g c =
    moved_as g.B.Block.tells.content c.args.state.now c.write_round-rest.new.state _ _ _
    (goes_on c.args.state.now c.args.following c.args.left (sym c.if-not-is_shared_listed.false ∙ c.is_shared_listed.ensures) c.if-left-gt0.true) (c.write_round-rest.ensures.moved c.args.following)

pub returns-then-following-eq0-clause-moved : goal.returns-then-following-eq0-clause-moved
returns-then-following-eq0-clause-moved g c =
    resting c.args.state.now _ (last_over c.args.state.now c.args.following c.args.left (sym c.if-not-is_shared_listed.false ∙ c.is_shared_listed.ensures) c.if-left-gt0.false c.if-following-eq0.true)

pub returns-clause-moved : goal.returns-clause-moved
returns-clause-moved g c =
    moved_as g.B.Block.tells.content c.args.state.now c.write_round-unwritten.new.state _ _ _
    (next_begins c.args.state.now c.args.following c.args.left (sym c.if-not-is_shared_listed.false ∙ c.is_shared_listed.ensures) c.modified_len-listed.result c.if-left-gt0.false
    (let some = c.if-following-eq0.false in omega (arith, some)) c.modified_len-listed.ensures) (c.write_round-unwritten.ensures.moved (c.args.following - 1))
