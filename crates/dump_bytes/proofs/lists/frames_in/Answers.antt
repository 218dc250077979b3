use Rattle.std.proofs.Common.{◌≡◌, ◌<◌, ◌∷◌, ◌++◌, [], length, arith}
use Rattle.std.proofs.lemmas.Result.{err_from_is_err_and}
use Rattle.dump_bytes.proofs.Repeating.{along_none, along_one, along_stop}
use Rattle.dump_bytes.proofs.lists.frames_in.Goals as goal

pub loop-rest-init : goal.loop-rest-init
loop-rest-init c = record { room = c.requires.room; along = rw c.requires.empty (along_none _ _ _) }

pub returns-in_err-frame : goal.returns-in_err-frame
returns-in_err-frame c =
    let p = err_from_is_err_and c.from_residual.result c.from_residual.ensures.1 in
    let lt : length c.loop-rest.frames.items < c.args.count = omega arith in
    rw (p.1, p.2) (along_stop _ c.loop-rest.invariant.along c.in_err-frame.ensures lt)

pub loop-rest-preserved : goal.loop-rest-preserved
loop-rest-preserved c =
    let lt : length c.loop-rest.frames.items < c.args.count = omega arith in
    let e : c.push.new.self.items ≡ c.loop-rest.frames.items ++ (c.in_ok-frame.frame ∷ []) = rw c.unwrap.ensures at c.push.ensures.items in
    record { room = omega (arith, c.push.ensures.capacity); along = rw e (along_one _ _ c.loop-rest.invariant.along c.in_ok-frame.ensures lt) }
