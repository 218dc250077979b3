-- A read for a fault, by the page that is read.
use Rattle.std.proofs.Common.{◌≡◌, ◌↔◌, ◌⊎◌, ℕ, ◌<◌, List, Some, sym, subst, ◌∙◌}
use Rattle.std.proofs.lemmas.Option.{same_Some}
use Rattle.vm_types.specs.Ring.{filled}
use Rattle.vm_types.specs.declared.names.BlockId.{BlockId}
use Rattle.vm_types.specs.declared.names.Page.{Page}
use Rattle.vm_types.specs.declared.config.Config.{Config}
use Rattle.vm_journal.specs.declared.entry.Entry.{Entry}
use Rattle.pager_model.specs.Flights.{open_flights}
use Rattle.pager_model.specs.In.{IsFirstIn, IsInFault}
use Rattle.pager_model.specs.Lookups.{page_by}
use Rattle.pager_model.specs.Maps.{page_number}
use Rattle.pager_model.specs.Own.{IsEmptyHead, IsResident}
use Rattle.pager_model.specs.Pager.{Pager}
use Rattle.pager_model.specs.Transfers.{IsHome}

pub fault_read : (config : Config) (past : List Entry) (a : Pager) (p f : ℕ) (b : BlockId) (q address : ℕ) (page : Page) (T : Type 0)
    → page_by config a.map p (page_number address) ≡ Some page
    → (T ↔ ((q ≡ p) × (IsResident config a p × IsHome config b (open_flights past) × IsEmptyHead a f × (filled (a.ring p).slots < a.limit p)) × ((g : ℕ) → a.page g ≡ Some page → ⊥)
    × ((a.lies page ≡ Some b) ⊎ IsFirstIn config a p (page_number address) b page)))
    → (T ↔ IsInFault config past a p f b q address)
fault_read config past a p f b q address page T mapped both = (to, from)
  where
    to : T → IsInFault config past a p f b q address
    to t =
        let x = both.0 t in
        record {
          own = x.1.0;
          self = x.0;
          home = x.1.1;
          frame = x.1.2;
          below_limit = x.1.3;
          page = page;
          mapped = mapped;
          out = x.2;
          from = x.3;
        }

    from : IsInFault config past a p f b q address → T
    from w =
        let same : w.page ≡ page = same_Some w.page page (sym w.mapped ∙ mapped) in
        both.1 (
          w.self,
          (w.own, w.home, w.frame, w.below_limit),
          subst (λ (g : Page). (h : ℕ) → a.page h ≡ Some g → ⊥) same w.out,
          subst (λ (g : Page). (a.lies g ≡ Some b) ⊎ IsFirstIn config a p (page_number address) b g) same w.from,
        )
