-- SERVED, by service and answer.
use Rattle.std.proofs.Common.{false, ◌≡◌, ℕ, List, ◌∷◌}
use Rattle.vm_types.specs.WellFormed.{IsServiceOf}
use Rattle.vm_types.specs.declared.names.Seat.{Seat}
use Rattle.vm_types.specs.declared.config.Config.{Config}
use Rattle.vm_types.specs.declared.reply.Answer.{Answer}
use Rattle.vm_types.specs.declared.reply.Answer.TheVariants as answer
use Rattle.vm_types.specs.declared.service.Service.{Service}
use Rattle.vm_types.specs.declared.service.Service.TheVariants as service
use Rattle.vm_journal.specs.declared.entry.Entry.{Entry}
use Rattle.vm_journal.specs.declared.entry.What.TheVariants as what
use Rattle.pager_laws.proofs.DeleteKept.{deleted}
use Rattle.pager_laws.proofs.LimitKept.{limit_set}
use Rattle.pager_laws.proofs.LocksKept.{locked_range, pinned_range, unlocked_range, unpinned_range}
use Rattle.pager_laws.proofs.MapChanged.{created, protected}
use Rattle.pager_model.specs.Around.{past_view, quiet}
use Rattle.pager_model.specs.Flights.{is_busy, open_flights}
use Rattle.pager_model.specs.Own.{IsResident}
use Rattle.pager_model.specs.Pager.{Pager}
use Rattle.pager_model.specs.Served.{IsServed, IsService, after_served}
use Rattle.pager_rules.specs.Kept.{IsKept}

answered : (config : Config) (past : List Entry) (a : Pager) (p : ℕ) (s : Service) (w : Answer) → IsKept config (quiet (open_flights past)) a → IsResident config a p → is_busy p (open_flights past) ≡ false → IsService config past a p s w → IsServiceOf config.version s
    → IsKept config (quiet (open_flights past)) (after_served config a p s w)
answered config past a p (service.Create at pages prot) answer.Good kept own idle legal known = created config a (open_flights past) p at.0 pages prot kept own.resident idle legal
answered config past a p (service.Delete at pages) answer.Good kept own idle legal known = deleted config past a p at.0 pages kept own idle legal
answered config past a p (service.Protect at pages prot) answer.Good kept own idle legal known = protected config a (open_flights past) p at.0 pages prot kept own.resident idle
answered config past a p (service.Lock at pages) (answer.Count n) kept own idle legal known = locked_range config past a p at.0 pages kept own idle legal.fits
answered config past a p (service.Unlock at pages) (answer.Count n) kept own idle legal known = unlocked_range config past a p at.0 pages kept own idle
answered config past a p (service.Pin at pages) (answer.Count n) kept own idle legal known = pinned_range config past a p at.0 pages known kept own idle legal.fits
answered config past a p (service.Unpin at pages) (answer.Count n) kept own idle legal known = unpinned_range config past a p at.0 pages kept own idle
answered config past a p (service.Adjust n) answer.Good kept own idle legal known = limit_set config past a p n kept own idle legal
answered config past a p s other kept own idle legal known = kept

refused : (config : Config) (past : List Entry) (a : Pager) (p : ℕ) (s : Service) → IsKept config (quiet (open_flights past)) a → IsKept config (quiet (open_flights past)) (after_served config a p s answer.DiskFault)
refused config past a p (service.Purge at pages) kept = kept
refused config past a p other kept = kept

pub served_kept : (config : Config) (past : List Entry) (a : Pager) (seat : Seat) (s : Service) (w : Answer) → IsKept config (quiet (open_flights past)) a → is_busy seat.0 (open_flights past) ≡ false → IsServed config past a seat.0 s w
    → IsKept config (past_view (record { seat = seat; what = what.Served s w } ∷ past)) (after_served config a seat.0 s w)
served_kept config past a seat s answer.DiskFault before idle legal = refused config past a seat.0 s before
served_kept config past a seat s other before idle legal = answered config past a seat.0 s other before legal.0 idle legal.1 legal.2
