-- A legal step keeps all, by its row of the table.
use Rattle.std.proofs.Common.{◌+◌, List, ◌∷◌, length, refl}
use Rattle.vm_types.specs.declared.names.Seat.{Seat}
use Rattle.vm_types.specs.Configuration.{IsWellFormed}
use Rattle.vm_types.specs.declared.config.Config.{Config}
use Rattle.vm_journal.specs.declared.entry.Entry.{Entry}
use Rattle.vm_journal.specs.declared.entry.What.{What}
use Rattle.vm_journal.specs.declared.entry.What.TheVariants as what
use Rattle.pager_laws.proofs.BackKept.{back_kept}
use Rattle.pager_laws.proofs.DeniedKept.{denied_kept}
use Rattle.pager_laws.proofs.DoneKept.{done_kept}
use Rattle.pager_laws.proofs.EvictKept.{evict_kept}
use Rattle.pager_laws.proofs.InFailKept.{in_fail_kept}
use Rattle.pager_laws.proofs.InKept.{in_kept}
use Rattle.pager_laws.proofs.InOkKept.{in_ok_kept}
use Rattle.pager_laws.proofs.LimitKept.{collide_kept, limit_kept}
use Rattle.pager_laws.proofs.OutFailKept.{out_fail_kept}
use Rattle.pager_laws.proofs.OutOkKept.{out_ok_kept}
use Rattle.pager_laws.proofs.OutSwapKept.{any_out_kept}
use Rattle.pager_laws.proofs.ReuseKept.{reuse_kept}
use Rattle.pager_laws.proofs.ServedKept.{served_kept}
use Rattle.pager_laws.proofs.TurnKept.{turn_kept}
use Rattle.pager_laws.proofs.ZeroKept.{zero_kept}
use Rattle.pager_model.specs.Around.{past_view}
use Rattle.pager_model.specs.Flights.{reading}
use Rattle.pager_model.specs.InTurn.{InTurn}
use Rattle.pager_model.specs.Pager.{Pager}
use Rattle.pager_model.specs.Step.{IsLegal, IsLegalWhat, after, after_what}
use Rattle.pager_rules.proofs.Turns.{alone, calm, idle}
use Rattle.pager_rules.specs.Kept.{IsKept}

module _ (config : Config) (past : List Entry) (a : Pager) (seat : Seat) (formed : IsWellFormed config) where
  abbrev entry : What → Entry
  entry w = record { seat = seat; what = w }

  abbrev Kept : What → Type 0
  Kept w = IsKept config (past_view (entry w ∷ past)) (after_what config past a seat.0 w)

  row_kept : (w : What) → InTurn config past (entry w) → IsKept config (past_view past) a → IsLegalWhat config past a seat.0 w → Kept w
  row_kept (what.Reuse f g) turn kept legal = reuse_kept config past a seat f g kept turn.reuse legal
  row_kept (what.Done r w) turn kept legal = done_kept config past a seat r w (calm config past a (entry (what.Done r w)) turn refl kept) (idle config past (entry (what.Done r w)) turn refl) legal
  row_kept (what.Denied r w) turn kept legal = denied_kept config past a seat r w (calm config past a (entry (what.Denied r w)) turn refl kept) legal
  row_kept (what.Served s w) turn kept legal = served_kept config past a seat s w (calm config past a (entry (what.Served s w)) turn refl kept) (idle config past (entry (what.Served s w)) turn refl) legal
  row_kept (what.Zero address f) turn kept legal = zero_kept config past a seat address f (calm config past a (entry (what.Zero address f)) turn refl kept) (idle config past (entry (what.Zero address f)) turn refl) legal
  row_kept (what.Evict q address f why to) turn kept legal = evict_kept config past a seat q address f why to (calm config past a (entry (what.Evict q address f why to)) turn refl kept) legal
  row_kept (what.In f b r) turn kept legal =
      in_kept config past a seat f b r (calm config past a (entry (what.In f b r)) turn refl kept)
      (λ fault. alone config past (entry (what.In f b r)) (record { start = length past + 1; seat = seat.0; frame = f.0; block = b; direction = reading r }) turn refl fault) legal
  row_kept (what.InOk f k) turn kept legal = in_ok_kept config past a seat f k (calm config past a (entry (what.InOk f k)) turn refl kept) legal
  row_kept (what.InFail f k c d) turn kept legal = in_fail_kept config past a seat f k c d (calm config past a (entry (what.InFail f k c d)) turn refl kept) legal
  row_kept (what.Out f b) turn kept legal = any_out_kept config past a seat f b (calm config past a (entry (what.Out f b)) turn refl kept) legal
  row_kept (what.OutOk f k) turn kept legal = out_ok_kept config past a seat f k (calm config past a (entry (what.OutOk f k)) turn refl kept) legal
  row_kept (what.OutFail f k c d) turn kept legal = out_fail_kept config past a seat f k c d (calm config past a (entry (what.OutFail f k c d)) turn refl kept) legal
  row_kept (what.Back q address f from) turn kept legal = back_kept config past a seat q address f from (calm config past a (entry (what.Back q address f from)) turn refl kept) (idle config past (entry (what.Back q address f from)) turn refl) legal
  row_kept (what.Limit n faults) turn kept legal = limit_kept config past a seat n faults formed (calm config past a (entry (what.Limit n faults)) turn refl kept) (idle config past (entry (what.Limit n faults)) turn refl) legal
  row_kept (what.Collide address f k) turn kept legal = collide_kept config past a seat address f k (calm config past a (entry (what.Collide address f k)) turn refl kept) legal
  row_kept (what.Turn q s) turn kept legal = turn_kept config past a seat q s (calm config past a (entry (what.Turn q s)) turn refl kept) legal

pub step_kept : (config : Config) (past : List Entry) (a : Pager) (e : Entry) → IsWellFormed config → IsKept config (past_view past) a → IsLegal config past a e → IsKept config (past_view (e ∷ past)) (after config past a e)
step_kept config past a e formed kept legal = row_kept config past a e.seat formed e.what legal.in_turn kept legal.row
