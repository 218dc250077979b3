use Rattle.std.proofs.Common.{◌≡◌, ℕ, ◌<◌, ◌+◌, ◌-◌, ◌∷◌, ◌++◌, [], length, arith}
use Rattle.std.proofs.lemmas.Result.{err_from_is_err_and}
use Rattle.dump_bytes.proofs.Repeating.{rising_none, rising_one, rising_stop}
use Rattle.dump_bytes.proofs.lists.entries_in.Goals as goal

pub loop-words-init : goal.loop-words-init
loop-words-init c = record { room = c.requires.room; along = rw c.requires.empty (rising_none (λ w. w.0) 4194304 _ _ _ (omega arith)) }

pub returns-in_err-entry : goal.returns-in_err-entry
returns-in_err-entry c =
    let p = err_from_is_err_and c.from_residual.result c.from_residual.ensures.1 in
    let lt : length c.loop-words.words.items < c.args.count = omega arith in
    let high : ℕ = 4194304 - (c.args.count - c.len-in-loop-words.result - 1) in
    let fits = c.loop-words.invariant.along.fits in
    let total = c.loop-words.invariant.along.total in
    let top : high + c.args.count ≡ 4194304 + length c.loop-words.words.items + 1 = omega arith in
    rw (p.1, p.2) (rising_stop _ high c.loop-words.invariant.along c.in_err-entry.ensures.read top lt)

pub loop-words-preserved : goal.loop-words-preserved
loop-words-preserved c =
    let lt : length c.loop-words.words.items < c.args.count = omega arith in
    let high : ℕ = 4194304 - (c.args.count - c.len-in-loop-words.result - 1) in
    let fits = c.loop-words.invariant.along.fits in
    let total = c.loop-words.invariant.along.total in
    let top : high + c.args.count ≡ 4194304 + length c.loop-words.words.items + 1 = omega arith in
    let e : c.push.new.self.items ≡ c.loop-words.words.items ++ (c.in_ok-entry.entry ∷ []) = rw c.unwrap.ensures at c.push.ensures.items in
    record { room = omega (arith, c.push.ensures.capacity); along = rw e (rising_one _ _ high c.loop-words.invariant.along c.in_ok-entry.ensures.read top c.in_ok-entry.ensures.below lt) }
