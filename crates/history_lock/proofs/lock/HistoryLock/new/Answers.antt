-- The rule holds of the table at its start.
use Rattle.std.proofs.Common.{◌≡◌, ◌∷◌, ◌++◌, [], List, Option, Some, Box, Global, sym, ap, ◌∙◌, subst, arith}
use Rattle.atomic_table.specs.Table.{opening}
use Rattle.history_lock.specs.Rule.{Serves}
use Rattle.history_lock.specs.Views.{starting}
use Rattle.history_lock.specs.Values.{of_box}
use Rattle.history_lock.proofs.Ends.{starts}
use Rattle.history_lock.proofs.lock.HistoryLock.new.Goals as goal

pub new-requires-2 : goal.new-requires-2
new-requires-2 g c = let T : Type 0 = g.row.T.Denot in let H : Type 0 = Box T Global in let few = c.ranges.n.fits in let held : H = c.in_ok-held.held in let same : held.value ≡ c.args.value = c.in_ok-held.ensures.ok in
    let items : c.push_reserved.new.self.items ≡ Some held ∷ [] = c.push_reserved.ensures.items ∙ ap (λ (l : List (Option H)). l ++ Some held ∷ []) c.in_ok-slots.ensures.items in
    subst (λ (p : T × List (Option H)). Serves (of_box g.T.Kept.journal) (of_box g.T.Kept.base) (g.T.Kept.base p.0) c.args.n (opening (0 ∷ 0 ∷ 0 ∷ 0 ∷ []) p.1 (starting (g.T.Kept.base p.0) c.args.n)))
    (λ i. ((same ∙ sym c.of.ensures) i, sym items i)) (starts (of_box g.T.Kept.journal) (of_box g.T.Kept.base) held c.args.n c.requires.passes (omega arith) (ap g.T.Kept.journal same ∙ c.requires.empty))
