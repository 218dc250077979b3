use Rattle.std.proofs.Common.{◌≡◌, ℕ, ◌∙◌, ap, arith}
use Rattle.trace_maker.specs.Made.{made_body}
use Rattle.trace_maker.proofs.make.body.Goals as goal

pub returns : goal.returns
returns c =
    let all : c.loop-n.n ≡ c.args.refs = omega arith in
    c.loop-n.invariant.body ∙ ap (λ (n : ℕ). made_body c.args.seed c.args.procs n) all
