use Rattle.std.proofs.Common.{◌∙◌, ap, sym}
use Rattle.pager_policy.specs.Rundown.{cleaning_move}
use Rattle.shadow_pager.specs.Shown.{shown}
use Rattle.log_rundown.specs.Standing.{cleaning_as}
use Rattle.log_rundown.specs.declared.cleaning.Cleaning.{Cleaning}
use Rattle.log_rundown.proofs.moves.choose.Goals as goal

pub returns-in-Evicting : goal.returns-in-Evicting
returns-in-Evicting c =
    c.choose_from.ensures ∙ sym (ap (λ (x : Cleaning). cleaning_move c.args.past.now.config c.args.past.now.past (shown c.args.pager.now).pager (cleaning_as x)) c.in-Evicting.is)

pub returns-in-Rounds : goal.returns-in-Rounds
returns-in-Rounds c =
    c.choose_round.ensures c.args.past.now.config
    ∙ sym (ap (λ (x : Cleaning). cleaning_move c.args.past.now.config c.args.past.now.past (shown c.args.pager.now).pager (cleaning_as x)) c.in-Rounds.is)
