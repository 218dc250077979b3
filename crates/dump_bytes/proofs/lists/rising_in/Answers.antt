use Rattle.std.proofs.Common.{◌≡◌, ℕ, ◌<◌, ◌+◌, ◌-◌, ◌∷◌, ◌++◌, [], length, arith}
use Rattle.std.proofs.lemmas.Result.{err_from_is_err_and}
use Rattle.dump_bytes.proofs.Repeating.{rising_none, rising_one, rising_stop}
use Rattle.dump_bytes.proofs.lists.rising_in.Goals as goal

pub loop-numbers-init : goal.loop-numbers-init
loop-numbers-init c = record { room = c.requires.room; along = rw c.requires.empty (rising_none _ _ _ _ _ c.requires.few) }

pub returns-in_err-number : goal.returns-in_err-number
returns-in_err-number c =
    let p = err_from_is_err_and c.from_residual.result c.from_residual.ensures.1 in
    let lt : length c.loop-numbers.numbers.items < c.args.count = omega arith in
    let high : ℕ = c.args.ceiling - (c.args.count - c.len-in-loop-numbers.result - 1) in
    let fits = c.loop-numbers.invariant.along.fits in
    let total = c.loop-numbers.invariant.along.total in
    let top : high + c.args.count ≡ c.args.ceiling + length c.loop-numbers.numbers.items + 1 = omega arith in
    rw (p.1, p.2) (rising_stop _ high c.loop-numbers.invariant.along c.in_err-number.ensures.read top lt)

pub loop-numbers-preserved : goal.loop-numbers-preserved
loop-numbers-preserved c =
    let lt : length c.loop-numbers.numbers.items < c.args.count = omega arith in
    let high : ℕ = c.args.ceiling - (c.args.count - c.len-in-loop-numbers.result - 1) in
    let fits = c.loop-numbers.invariant.along.fits in
    let total = c.loop-numbers.invariant.along.total in
    let to = c.in_ok-number.ensures.to in
    let top : high + c.args.count ≡ c.args.ceiling + length c.loop-numbers.numbers.items + 1 = omega arith in
    let below : c.in_ok-number.number < high = omega arith in
    let e : c.push.new.self.items ≡ c.loop-numbers.numbers.items ++ (c.in_ok-number.number ∷ []) = rw c.unwrap.ensures at c.push.ensures.items in
    record { room = omega (arith, c.push.ensures.capacity); along = rw e (rising_one _ _ high c.loop-numbers.invariant.along c.in_ok-number.ensures.read top below lt) }
