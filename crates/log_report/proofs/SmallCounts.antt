-- The counts of a report of a run are small.
use Rattle.std.proofs.Common.{ℕ, ◌+◌, ◌^◌, ◌<◌, ◌≤◌, List, length, sym, subst, arith}
use Rattle.vm_types.specs.declared.config.Config.{Config}
use Rattle.vm_journal.specs.declared.entry.Entry.{Entry}
use Rattle.pager_model.specs.Around.{past_view}
use Rattle.pager_model.specs.Flights.{open_flights}
use Rattle.pager_model.specs.Lookups.{shares}
use Rattle.pager_model.specs.OfConfig.{IsOfConfig}
use Rattle.pager_model.specs.Pager.{Pager}
use Rattle.pager_model.specs.Report.{pins_on}
use Rattle.pager_model.specs.Transfers.{reads_on, writes_on}
use Rattle.pager_rules.specs.Kept.{IsKept}
use Rattle.pager_laws.proofs.OfConfigKept.{run_right}
use Rattle.pager_laws.proofs.RunsAreSound.{run_kept}
use Rattle.pager_laws.proofs.Pins.{few_pins}
use Rattle.state_fits.proofs.FewShares.{few_shares}
use Rattle.state_fits.proofs.FlightsMoved.{on_frame_counts, one_on_frame}
use Rattle.state_fits.proofs.UnchargedPage.{assigned_fit}
use Rattle.shadow_pager.specs.Shown.{Shown}
use Rattle.log_report.specs.ShownRun.{ShowsRun}

module _ (config : Config) (past : List Entry) (s : Shown) (shows : ShowsRun config past s) where
  kept : IsKept config (past_view past) s.pager
  kept = subst (λ (a : Pager). IsKept config (past_view past) a) (sym shows.pager) (run_kept config past shows.formed shows.run)

  right : IsOfConfig config s.pager
  right = subst (λ (a : Pager). IsOfConfig config a) (sym shows.pager) (run_right config past shows.formed shows.run)

  pub small_shares : (f : ℕ) → shares (s.pager).valid f < 2 ^ 32
  small_shares f = omega (arith, few_shares config (past_view past) s.pager f shows.formed kept right)

  pub small_pins : (f : ℕ) → pins_on s.pager f < 2 ^ 31
  small_pins f = omega (arith, few_pins s.pager f, few_shares config (past_view past) s.pager f shows.formed kept right)

  pub one_flight : (f : ℕ) → reads_on f (open_flights past) + writes_on f (open_flights past) ≤ 1
  one_flight f = omega (arith, on_frame_counts f (open_flights past), one_on_frame config (past_view past) s.pager f kept)

  pub small_charged : length (s.pager).charged < 2 ^ 32
  small_charged = omega (arith, kept.fit, (shows.formed).pagefile.1)

  pub small_assigned : length (s.pager).assigned < 2 ^ 32
  small_assigned =
      let fit = assigned_fit (s.pager).assigned (s.pager).charged (λ g. (kept.pages g).blocks) (λ g. (kept.pages g).charged) in
      omega (arith, fit, small_charged)
