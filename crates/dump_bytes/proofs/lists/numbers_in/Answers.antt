use Rattle.std.proofs.Common.{◌≡◌, ◌<◌, ◌∷◌, ◌++◌, [], length, arith}
use Rattle.std.proofs.lemmas.Result.{err_from_is_err_and}
use Rattle.dump_bytes.specs.Reading.{number_at}
use Rattle.dump_bytes.proofs.Repeating.{IsAlong, along_none, along_one, along_stop}
use Rattle.dump_bytes.proofs.lists.numbers_in.Goals as goal

pub loop-rest-init : goal.loop-rest-init
loop-rest-init c = record { room = c.requires.room; along = rw c.requires.empty (along_none _ _ _) }

pub returns-in_err-number : goal.returns-in_err-number
returns-in_err-number c =
    let p = err_from_is_err_and c.from_residual.result c.from_residual.ensures.1 in
    let lt : length c.loop-rest.numbers.items < c.args.count = omega arith in
    let so_far : IsAlong (number_at 4 0 c.args.highest) c.args.count c.args.bytes.now c.loop-rest.numbers.items c.loop-rest.rest.now = c.loop-rest.invariant.along in
    rw (p.1, p.2) (along_stop _ so_far c.in_err-number.ensures.read lt)

pub loop-rest-preserved : goal.loop-rest-preserved
loop-rest-preserved c =
    let lt : length c.loop-rest.numbers.items < c.args.count = omega arith in
    let e : c.push.new.self.items ≡ c.loop-rest.numbers.items ++ (c.in_ok-number.number ∷ []) = rw c.unwrap.ensures at c.push.ensures.items in
    let so_far : IsAlong (number_at 4 0 c.args.highest) c.args.count c.args.bytes.now c.loop-rest.numbers.items c.loop-rest.rest.now = c.loop-rest.invariant.along in
    record { room = omega (arith, c.push.ensures.capacity); along = rw e (along_one _ _ so_far c.in_ok-number.ensures.read lt) }
