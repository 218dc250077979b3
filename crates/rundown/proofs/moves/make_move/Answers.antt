use Rattle.std.proofs.Common.{◌∙◌, ap, length, sym}
use Rattle.std.specs.Option.{option_map}
use Rattle.pager_policy.specs.Cleaning.{evicting, rounds}
use Rattle.pager_policy.specs.Rundown.{cleaning_move}
use Rattle.call_begins.specs.MayBegin.{empty}
use Rattle.vm_state.specs.History.{History, pager}
use Rattle.carried_landings.proofs.Moving.{same_then}
use Rattle.rundown.specs.Cleanings.{cleaning_in, control_at}
use Rattle.rundown.specs.declared.cleaning.Cleaning.{Cleaning}
use Rattle.rundown.proofs.MovesMade.{by_table, can_clean, moves_as, moves_from, moves_same, spare_only}
use Rattle.rundown.proofs.moves.make_move.Goals as goal

pub evict_from-requires-after_bounds : goal.evict_from-requires-after_bounds
evict_from-requires-after_bounds g c κs within =
    can_clean c.args.state.now c.prepare.new.state c.args.carrier.now c.prepare.ensures.same c.prepare.ensures.past c.requires.between c.requires.answered c.in_ok-prepare.ensures.room c.requires.carrier

pub returns-in-Evicting-clause-moved : goal.returns-in-Evicting-clause-moved
returns-in-Evicting-clause-moved g c =
    moves_as g.B.Block.tells.content c.args.state.now c.evict_from.new.state _ _ (option_map control_at c.evict_from.result)
    (ap (λ (x : Cleaning). cleaning_move c.args.state.now.config c.args.state.now.past (pager c.args.state.now) (cleaning_in x)) c.in-Evicting.is)
    (moves_from g.B.Block.tells.content c.args.state.now c.prepare.new.state c.evict_from.new.state (evicting (c.in-Evicting.process).0 c.in-Evicting.slot c.in-Evicting.failed) (option_map control_at c.evict_from.result)
    c.prepare.ensures.same c.prepare.ensures.past c.evict_from.ensures.moved)

pub returns-in-Evicting-clause-by_table : goal.returns-in-Evicting-clause-by_table
returns-in-Evicting-clause-by_table g c =
    by_table g.B.Block.tells.content c.args.state.now c.evict_from.new.state (cleaning_in c.args.at) (option_map control_at c.evict_from.result)
    (moves_as g.B.Block.tells.content c.args.state.now c.evict_from.new.state (cleaning_move c.args.state.now.config c.args.state.now.past (pager c.args.state.now) (cleaning_in c.args.at)) _ (option_map control_at c.evict_from.result)
    (ap (λ (x : Cleaning). cleaning_move c.args.state.now.config c.args.state.now.past (pager c.args.state.now) (cleaning_in x)) c.in-Evicting.is)
    (moves_from g.B.Block.tells.content c.args.state.now c.prepare.new.state c.evict_from.new.state (evicting (c.in-Evicting.process).0 c.in-Evicting.slot c.in-Evicting.failed) (option_map control_at c.evict_from.result)
    c.prepare.ensures.same c.prepare.ensures.past c.evict_from.ensures.moved))

pub returns-in-Evicting-clause-same : goal.returns-in-Evicting-clause-same
returns-in-Evicting-clause-same g c =
    same_then c.args.state.now c.prepare.new.state c.evict_from.new.state c.prepare.ensures.same (moves_same g.B.Block.tells.content c.prepare.new.state c.evict_from.new.state _ (option_map control_at c.evict_from.result) c.evict_from.ensures.moved)

pub write_rounds-requires-clause-steady : goal.write_rounds-requires-clause-steady
write_rounds-requires-clause-steady g c κs within =
    (can_clean c.args.state.now c.prepare.new.state c.args.carrier.now c.prepare.ensures.same c.prepare.ensures.past c.requires.between c.requires.answered c.in_ok-prepare.ensures.room c.requires.carrier).steady

pub write_rounds-requires-clause-carrier : goal.write_rounds-requires-clause-carrier
write_rounds-requires-clause-carrier g c κs within =
    c.requires.carrier ∙ ap (λ (x : History). empty (record { 0 = length x.config.procs })) (sym (spare_only c.args.state.now c.prepare.new.state c.prepare.ensures.same c.prepare.ensures.past))

pub returns-in-Rounds-clause-moved : goal.returns-in-Rounds-clause-moved
returns-in-Rounds-clause-moved g c =
    moves_as g.B.Block.tells.content c.args.state.now c.write_rounds.new.state _ _ (option_map control_at c.write_rounds.result)
    (ap (λ (x : Cleaning). cleaning_move c.args.state.now.config c.args.state.now.past (pager c.args.state.now) (cleaning_in x)) c.in-Rounds.is)
    (moves_from g.B.Block.tells.content c.args.state.now c.prepare.new.state c.write_rounds.new.state (rounds c.in-Rounds.following c.in-Rounds.left) (option_map control_at c.write_rounds.result)
    c.prepare.ensures.same c.prepare.ensures.past c.write_rounds.ensures.moved)

pub returns-in-Rounds-clause-by_table : goal.returns-in-Rounds-clause-by_table
returns-in-Rounds-clause-by_table g c =
    by_table g.B.Block.tells.content c.args.state.now c.write_rounds.new.state (cleaning_in c.args.at) (option_map control_at c.write_rounds.result)
    (moves_as g.B.Block.tells.content c.args.state.now c.write_rounds.new.state (cleaning_move c.args.state.now.config c.args.state.now.past (pager c.args.state.now) (cleaning_in c.args.at)) _ (option_map control_at c.write_rounds.result)
    (ap (λ (x : Cleaning). cleaning_move c.args.state.now.config c.args.state.now.past (pager c.args.state.now) (cleaning_in x)) c.in-Rounds.is)
    (moves_from g.B.Block.tells.content c.args.state.now c.prepare.new.state c.write_rounds.new.state (rounds c.in-Rounds.following c.in-Rounds.left) (option_map control_at c.write_rounds.result)
    c.prepare.ensures.same c.prepare.ensures.past c.write_rounds.ensures.moved))

pub returns-in-Rounds-clause-same : goal.returns-in-Rounds-clause-same
returns-in-Rounds-clause-same g c =
    same_then c.args.state.now c.prepare.new.state c.write_rounds.new.state c.prepare.ensures.same (moves_same g.B.Block.tells.content c.prepare.new.state c.write_rounds.new.state _ (option_map control_at c.write_rounds.result) c.write_rounds.ensures.moved)
