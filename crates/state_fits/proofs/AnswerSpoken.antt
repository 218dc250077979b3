-- SERVED: an answer to a service is spoken, and most answers leave the state.
use Rattle.std.proofs.Common.{◌≡◌, ℕ, ◌<◌, ◌+◌, true, false, List, ◌∷◌, Some, length, slice_set, slice_index_or, refl, ap}
use Rattle.std.proofs.lemmas.Bool.{true≢false}
use Rattle.vm_types.specs.declared.config.Config.{Config}
use Rattle.vm_types.specs.declared.names.Seat.{Seat}
use Rattle.vm_types.specs.declared.reply.Answer.{Answer}
use Rattle.vm_types.specs.declared.reply.Answer.TheVariants as answer
use Rattle.vm_types.specs.declared.service.Service.{Service}
use Rattle.vm_types.specs.declared.service.Service.TheVariants as service
use Rattle.vm_journal.specs.declared.entry.Entry.{Entry}
use Rattle.vm_journal.specs.declared.entry.What.TheVariants as what
use Rattle.pager_model.specs.InTurn.{InTurn}
use Rattle.pager_model.specs.Pager.{Pager}
use Rattle.pager_model.specs.Served.{IsServed, after_served}
use Rattle.pager_rules.proofs.Turns.{no_reuse}
use Rattle.state_parts.specs.declared.spoken_row.SpokenRow.{SpokenRow}
use Rattle.state_fits.specs.Parts.{Parts}
use Rattle.state_fits.specs.PartsFit.{PartsFit}
use Rattle.state_fits.specs.Serving.{is_serving}
use Rattle.state_fits.specs.Spoken.{one_more}
use Rattle.state_fits.proofs.PartsSet.{spoken_read, spoken_set}
use Rattle.state_fits.proofs.SimpleParts.{none_failed}

-- ---- who asks is a process
pub served_process : (config : Config) (past : List Entry) (a : Pager) (p : ℕ) (s : Service) (w : Answer) → IsServed config past a p s w → p < length config.procs
served_process config past a p s answer.DiskFault is = is.process
served_process config past a p s other is = is.0.process

-- ---- the entry itself: only the spoken entries of its process change
module _ (config : Config) (past : List Entry) (seat : Seat) (s : Service) (w : Answer) where
  abbrev served : Entry
  served = record { seat = seat; what = what.Served s w }

  pub served_spoken : (b : Pager) (parts : Parts) → InTurn config past served → seat.0 < length config.procs → PartsFit config past b parts → (y : SpokenRow) → y ≡ slice_index_or parts.spoken seat.0 y
      → PartsFit config (served ∷ past) b (record parts { spoken = slice_set parts.spoken seat.0 (record { last = Some (length past + 1); count = y.count + 1 }) })
  served_spoken b parts turn there fit y read =
      record {
        frames = fit.frames;
        flights = fit.flights;
        processes = fit.processes;
        spoken = spoken_set past served (length config.procs) parts.spoken _ fit.spoken there
            (ap (λ (z : SpokenRow). one_more true (length past + 1) z) (spoken_read past (length config.procs) parts.spoken seat.0 y fit.spoken there read))
            (λ q. refl);
        tables = fit.tables;
        sections = fit.sections;
        pages = fit.pages;
        globals = fit.globals;
        file = fit.file;
        swaps = fit.swaps;
        seats = fit.seats;
        failed = none_failed past parts (no_reuse config past served turn refl) fit.failed;
      }

-- ---- answers that leave the state
pub state_left : (config : Config) (a : Pager) (p : ℕ) (s : Service) (w : Answer) → is_serving s w ≡ false → after_served config a p s w ≡ a
state_left config a p (service.Create at pages prot) answer.Good is = absurd (true≢false is)
state_left config a p (service.Delete at pages) answer.Good is = absurd (true≢false is)
state_left config a p (service.Protect at pages prot) answer.Good is = absurd (true≢false is)
state_left config a p (service.Lock at pages) (answer.Count n) is = absurd (true≢false is)
state_left config a p (service.Unlock at pages) (answer.Count n) is = absurd (true≢false is)
state_left config a p (service.Pin at pages) (answer.Count n) is = absurd (true≢false is)
state_left config a p (service.Unpin at pages) (answer.Count n) is = absurd (true≢false is)
state_left config a p (service.Adjust n) answer.Good is = absurd (true≢false is)
state_left config a p s other is = refl
