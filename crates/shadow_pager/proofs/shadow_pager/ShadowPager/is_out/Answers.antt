use Rattle.std.proofs.Common.{Some, None}
use Rattle.std.proofs.lemmas.Option.{none-some}
use Rattle.shadow_pager.specs.Shown.{shown}
use Rattle.shadow_pager.proofs.Whole.{read_there, there_read}
use Rattle.shadow_pager.proofs.shadow_pager.ShadowPager.is_out.Goals as goal

pub returns : goal.returns
unfolding shown
returns c = (
  λ out f is. c.is_out.ensures.0 out f (there_read None c.args.self.now.held f (Some c.args.page) is (none-some c.args.page)),
  λ out. c.is_out.ensures.1 (λ f is. out f (read_there None c.args.self.now.held f (Some c.args.page) is)),
)
