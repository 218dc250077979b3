use Rattle.std.proofs.Common.{◌≡◌, sym, subst, arith, length}
use Rattle.std.proofs.lemmas.Option.{slice_get-get_or}
use Rattle.shadow_history.specs.Counting.{AreOthers}
use Rattle.shadow_history.proofs.Counting.{count_absent, count_found}
use Rattle.shadow_history.proofs.counts.count_in.Goals as goal

pub returns-then-i-counts : goal.returns-then-i-counts
returns-then-i-counts c =
    let e = c.place_of-i.ensures in
    let is = slice_get-get_or c.args.counts.now c.place_of-i.result _ c.if-i-counts.true in
    sym (count_found c.args.block c.args.counts.now c.place_of-i.result _ e.before is (e.found _ is))

pub returns-else-i-counts : goal.returns-else-i-counts
returns-else-i-counts c =
    let e = c.place_of-i.ensures in
    let all : c.place_of-i.result ≡ length c.args.counts.now = omega arith in
    sym (count_absent c.args.block c.args.counts.now (subst (AreOthers c.args.block c.args.counts.now) all e.before))
