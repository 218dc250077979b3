-- That nothing of a range is mapped, by that no page of it is.
use Rattle.std.proofs.Common.{◌≡◌, ℕ, true, Option, Some, None, refl, ap}
use Rattle.vm_types.specs.declared.config.Config.{Config}
use Rattle.pager_model.specs.FlatService.{in_range}
use Rattle.pager_model.specs.Lookups.{page_at}
use Rattle.pager_model.specs.Maps.{Mapped, page_behind}
use Rattle.pager_model.specs.Pager.{Pager}
use Rattle.pager_model.specs.Served.{IsInUse}

module _ (config : Config) (a : Pager) (p address pages : ℕ) where
  pub none_in_use : (IsInUse config a p address pages → ⊥) → (v : ℕ) → in_range address pages v ≡ true → a.map p v ≡ None
  none_in_use none v inside = by (a.map p v) refl
    where
      by : (o : Option Mapped) → a.map p v ≡ o → a.map p v ≡ None
      by None is = is
      by (Some m) is = absurd (none (record { v = v; inside = inside; page = page_behind config p v m.origin; mapped = ap (page_at config p v) is }))
