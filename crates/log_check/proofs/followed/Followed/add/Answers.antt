use Rattle.shadow_pager.specs.Shown.{shown}
use Rattle.log_check.proofs.Changeable.{can_change}
use Rattle.log_check.proofs.followed.Followed.add.Goals as goal

pub change-requires : goal.change-requires
change-requires c =
    can_change c.args.self.now.past.config c.args.self.now.past.past (shown c.args.self.now.pager) (c.args.e.seat).0 c.args.e.what c.requires.follows c.requires.legal.line.what c.requires.legal.row
