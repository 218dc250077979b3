use Rattle.std.proofs.Common.{◌≡◌, ◌<◌, ℕ, List, Some, slice_get, get_or, sym, subst, ap, arith, length}
use Rattle.std.proofs.lemmas.Option.{slice_get-get_or}
use Rattle.shadow_history.specs.declared.count.Count.{Count}
use Rattle.shadow_history.specs.Counting.{AreOthers, IsCountSet}
use Rattle.shadow_history.proofs.Counting.{count_added, count_replaced}
use Rattle.shadow_history.proofs.counts.set_in.Goals as goal

pub returns-then-i-len-clause-ok : goal.returns-then-i-len-clause-ok
returns-then-i-len-clause-ok c =
    let xs : List Count = c.args.counts.now.items in
    let i : ℕ = c.place_of-i.result in
    let e = c.place_of-i.ensures in
    let new : Count = record { block = c.args.block; faults = c.args.faults } in
    let within : c.place_of-i.result < length c.args.counts.now.items = omega arith in
    let is : slice_get xs i ≡ Some (get_or xs i new) = slice_get-get_or xs i new within in
    count_replaced c.args.block c.args.faults xs i (get_or xs i new)
    (subst (λ (ys : List Count). AreOthers c.args.block ys i) c.deref.ensures.value e.before) is
    (e.found (get_or xs i new) (subst (λ (ys : List Count). slice_get ys i ≡ Some (get_or xs i new)) (sym c.deref.ensures.value) is))

pub returns-in_ok-push-clause-ok : goal.returns-in_ok-push-clause-ok
returns-in_ok-push-clause-ok c =
    let xs : List Count = c.args.counts.now.items in
    let e = c.place_of-i.ensures in
    let all : c.place_of-i.result ≡ length c.args.counts.now.items = omega (arith, ap length c.deref.ensures.value) in
    let others : AreOthers c.args.block xs (length xs) =
    subst (λ (n : ℕ). AreOthers c.args.block xs n) all (subst (λ (ys : List Count). AreOthers c.args.block ys c.place_of-i.result) c.deref.ensures.value e.before) in
    subst (λ (ys : List Count). IsCountSet c.args.block c.args.faults xs ys) (sym c.in_ok-push.ensures.items) (count_added c.args.block c.args.faults xs others)
