use Rattle.log_check.proofs.Entered.{first_followed}
use Rattle.log_check.proofs.followed.Followed.new.Goals as goal

pub returns-clause-followed : goal.returns-clause-followed
returns-clause-followed c =
    first_followed c.args.config.now (record { past = c.in_ok-past.past; pager = c.in_ok-pager.pager; bytes = c.in_ok-bytes.bytes }) c.requires c.in_ok-past.ensures c.in_ok-pager.ensures c.in_ok-bytes.ensures
