-- Pages of the configuration have a backing: one that a process has, and the owner of a block of the page file.
use Rattle.std.proofs.Common.{◌≡◌, ℕ, List, Option, Some, None, find, refl, ap, ◌∙◌, arith}
use Rattle.std.specs.Option.{option_map}
use Rattle.std.proofs.lemmas.Option.{none-some, same_Some}
use Rattle.vm_types.specs.Configuration.{IsWellFormed}
use Rattle.vm_types.specs.declared.config.Config.{Config}
use Rattle.vm_types.specs.declared.names.Page.{Page}
use Rattle.vm_types.specs.declared.names.Page.TheVariants.{Private, Shared}
use Rattle.vm_journal.specs.declared.entry.Entry.{Entry}
use Rattle.pager_model.specs.Around.{past_view}
use Rattle.pager_model.specs.Lookups.{is_assigned_to}
use Rattle.pager_model.specs.OfConfig.{IsOfConfig, IsPageOf}
use Rattle.pager_model.specs.Pager.{Assigned, Pager}
use Rattle.pager_model.specs.Run.{IsRun, pager_after}
use Rattle.pager_rules.proofs.Basics.{same_page_refl}
use Rattle.pager_rules.proofs.Lists.{count_found}
use Rattle.pager_rules.specs.Kept.{IsKept}
use Rattle.pager_laws.proofs.OfConfigKept.{charged_right, run_right}
use Rattle.pager_laws.proofs.RunsAreSound.{run_kept}
use Rattle.state_fits.specs.File.{has_block, owner_in}
use Rattle.vm_state.specs.PageReadings.{IsKnown}

pub known_page : (config : Config) (g : Page) → IsPageOf config g → IsKnown config g
known_page config (Private p v) of = tt
known_page config (Shared s i) of = of.0

pub owner_known : (config : Config) (past : List Entry) (n : ℕ) (h : Page) → IsWellFormed config → IsRun config past → owner_in (pager_after config past).assigned n ≡ Some h → IsKnown config h
owner_known config past n h formed run is = by (find (has_block n) a.assigned) refl is
  where
    a : Pager
    a = pager_after config past

    kept : IsKept config (past_view past) a
    kept = run_kept config past formed run

    right : IsOfConfig config a
    right = run_right config past formed run

    of : (x : Assigned) → find (has_block n) a.assigned ≡ Some x → x.page ≡ h → IsPageOf config h
    of x found same =
        let some = count_found (is_assigned_to h) (has_block n) a.assigned x found (ap (is_assigned_to h) (λ i. record x { page = same i }) ∙ same_page_refl h) in
        charged_right config a.charged h (let most = (kept.pages h).blocks in omega (arith, some, most)) right.charged

    by : (o : Option Assigned) → find (has_block n) a.assigned ≡ o → option_map (λ (x : Assigned). x.page) o ≡ Some h → IsKnown config h
    by None found is = absurd (none-some h is)
    by (Some x) found is = known_page config h (of x found (same_Some x.page h is))
