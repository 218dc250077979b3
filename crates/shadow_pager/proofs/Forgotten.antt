-- Pages of a range are forgotten one after another.
use Rattle.std.proofs.Common.{◌≡◌, ℕ, Bool, true, false, cond, List, ◌∷◌, Option, None, Some, refl, ap, ◌∙◌}
use Rattle.vm_types.specs.declared.names.Page.{Page}
use Rattle.vm_types.specs.declared.config.Config.{Config}
use Rattle.pager_model.specs.Forget.{forget_all, forgotten, own_pages, with_private}
use Rattle.pager_model.specs.Lookups.{page_by}
use Rattle.pager_model.specs.Maps.{Map, is_private}
use Rattle.pager_model.specs.Pager.{Pager}
use Rattle.shadow_pager.specs.Forgetting.{own_forgotten}

-- the maps stay
pub own_keeps_map : (config : Config) (a : Pager) (o : Option Page) → (own_forgotten config a o).map ≡ a.map
own_keeps_map config a None = refl
own_keeps_map config a (Some g) = go (is_private g)
  where
    go : (b : Bool) → (cond b (forgotten config a g) a).map ≡ a.map
    go true = refl
    go false = refl

pub forget_next : (config : Config) (map : Map) (p v : ℕ) (numbers : List ℕ) (a : Pager) (o : Option Page) → o ≡ page_by config map p v
    → forget_all config (own_pages config map p numbers) (own_forgotten config a o) ≡ forget_all config (own_pages config map p (v ∷ numbers)) a
forget_next config map p v numbers a o is = go o ∙ ap (λ (q : Option Page). forget_all config (with_private q (own_pages config map p numbers)) a) is
  where
    by : (g : Page) (b : Bool) → forget_all config (own_pages config map p numbers) (cond b (forgotten config a g) a) ≡ forget_all config (cond b (g ∷ own_pages config map p numbers) (own_pages config map p numbers)) a
    by g true = refl
    by g false = refl

    go : (q : Option Page) → forget_all config (own_pages config map p numbers) (own_forgotten config a q) ≡ forget_all config (with_private q (own_pages config map p numbers)) a
    go None = refl
    go (Some g) = by g (is_private g)
