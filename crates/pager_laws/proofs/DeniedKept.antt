-- DENIED, for the flat machine's reasons and for a disk fault.
use Rattle.std.proofs.Common.{◌+◌, List, ◌∷◌}
use Rattle.vm_types.specs.declared.names.Seat.{Seat}
use Rattle.vm_types.specs.declared.config.Config.{Config}
use Rattle.vm_types.specs.declared.reference.Ref.{Ref}
use Rattle.vm_types.specs.declared.reply.Why.{Why}
use Rattle.vm_journal.specs.declared.entry.Entry.{Entry}
use Rattle.vm_journal.specs.declared.entry.What.TheVariants as what
use Rattle.pager_model.specs.Around.{past_view, quiet}
use Rattle.pager_model.specs.Denied.{IsDenial, after_denied}
use Rattle.pager_model.specs.Flights.{open_flights}
use Rattle.pager_model.specs.Pager.{Pager}
use Rattle.pager_model.specs.Sets.{at_number}
use Rattle.pager_rules.proofs.Unread.{unread}
use Rattle.pager_rules.specs.Kept.{IsKept}

pub denied_kept : (config : Config) (past : List Entry) (a : Pager) (seat : Seat) (r : Ref) (reason : Why) → IsKept config (quiet (open_flights past)) a → IsDenial config past a seat.0 r reason
    → IsKept config (past_view (record { seat = seat; what = what.Denied r reason } ∷ past)) (after_denied a seat.0)
denied_kept config past a seat r reason before legal = unread config (quiet (open_flights past)) a (at_number a.references seat.0 (a.references seat.0 + 1)) a.faults a.collided before
