-- What comes back from the free list.
use Rattle.std.proofs.Common.{◌≡◌, ◌↔◌, ℕ, Some, sym, subst, ◌∙◌}
use Rattle.std.proofs.lemmas.Option.{same_Some}
use Rattle.vm_types.specs.declared.config.Config.{Config}
use Rattle.vm_types.specs.declared.names.BlockId.TheVariants as block
use Rattle.vm_types.specs.declared.names.FrameState.{FrameState}
use Rattle.vm_types.specs.declared.names.FrameState.TheVariants as state
use Rattle.vm_types.specs.declared.names.Page.{Page}
use Rattle.vm_types.specs.declared.names.ProcStatus.TheVariants as status
use Rattle.pager_model.specs.Back.{IsBackComing}
use Rattle.pager_model.specs.Lookups.{entries_at, page_by}
use Rattle.pager_model.specs.Maps.{page_number, proc}
use Rattle.pager_model.specs.Pager.{Pager}

pub coming_back : (config : Config) (a : Pager) (p address f : ℕ) (from : FrameState) (T : Type 0) → a.status p ≡ status.Coming
    → (page : Page) × (page_by config a.map p (page_number address) ≡ Some page) × (a.page f ≡ Some page) × (entries_at a.valid p (page_number address) ≡ 0) × (a.state f ≡ from)
    → (T ↔ ((from ≡ state.Free) × ((page : Page) × (n : ℕ) × (page_by config a.map p (page_number address) ≡ Some page) × (a.lies page ≡ Some (block.Swap (proc p) n)))))
    → (T ↔ IsBackComing config a p address f from)
coming_back config a p address f from T coming s both = (
  λ t.
      let z = both.0 t in
      let same : z.1.0 ≡ s.0 = same_Some z.1.0 s.0 (sym z.1.2 ∙ s.1) in
      record {
        coming = coming;
        page = s.0;
        mapped = s.1;
        holds = s.2;
        not_valid = s.3;
        free = z.0;
        state = s.4;
        slot = z.1.1;
        lies = subst (λ (g : Page). a.lies g ≡ Some (block.Swap (proc p) z.1.1)) same z.1.3;
      },
  λ w. both.1 (w.free, (w.page, w.slot, w.mapped, w.lies)),
)
