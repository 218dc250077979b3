-- A page in a frame that no valid entry is for: it has no entry and no ring slot.
use Rattle.std.proofs.Common.{◌≡◌, ℕ, true, Option, Some, None, nat_eq, refl, ap, ◌∙◌, arith}
use Rattle.std.proofs.lemmas.Bool.{eq-eqb}
use Rattle.vm_types.specs.declared.config.Config.{Config}
use Rattle.vm_types.specs.declared.names.Page.{Page}
use Rattle.vm_types.specs.declared.names.Page.TheVariants.{Private, Shared}
use Rattle.pager_model.specs.Around.{PastView}
use Rattle.pager_model.specs.Lookups.{entries_at, entry_of, has_vpn, is_entry, own_page, page_by, shares}
use Rattle.pager_model.specs.Maps.{is_private}
use Rattle.pager_model.specs.Pager.{Pager, Valid}
use Rattle.pager_rules.proofs.Basics.{count_from_no_find}
use Rattle.pager_rules.proofs.Lists.{count_found}
use Rattle.pager_rules.specs.Kept.{IsKept}
use Rattle.pager_rules.proofs.Pages.{private_is_paged}
use Rattle.pager_laws.proofs.EntryPages.{entry_page}
use Rattle.state_fits.specs.Frames.{or_zero, slot_for}
use Rattle.state_fits.proofs.RingSlots.{absent}

-- a private page that a frame holds is its process's page there
pub held_own : (config : Config) (o : PastView) (a : Pager) (f : ℕ) (g : Page) → IsKept config o a → a.page f ≡ Some g → is_private g ≡ true → own_page config a.map g ≡ Some g
held_own config o a f g kept holds private = (kept.pages g).mapped (kept.held_charged f g (private_is_paged config g private) holds) private

pub no_entries : (config : Config) (o : PastView) (a : Pager) (f p v : ℕ) (g : Page) → IsKept config o a → a.page f ≡ Some g → shares a.valid f ≡ 0 → page_by config a.map p v ≡ Some g → entries_at a.valid p v ≡ 0
no_entries config o a f p v g kept holds none own = go (entry_of a.valid p v) refl
  where
    go : (e : Option Valid) → entry_of a.valid p v ≡ e → entries_at a.valid p v ≡ 0
    go None is = count_from_no_find (is_entry p v) a.valid is
    go (Some e) is =
        let found = entry_page config o a p v e kept is in
        let same : found.0 ≡ g = let also = found.1 in cc (also, own) in
        let frame : e.frame ≡ f = kept.held_once e.frame f g (found.2 ∙ ap Some same) holds in
        let some = count_found (λ (y : Valid). nat_eq y.frame f) (is_entry p v) a.valid e is (eq-eqb _ _ frame) in
        absurd (omega (arith, some, none))

pub no_slot : (config : Config) (o : PastView) (a : Pager) (f : ℕ) (g : Page) → IsKept config o a → a.page f ≡ Some g → shares a.valid f ≡ 0 → slot_for a.ring (Some g) ≡ 0
no_slot config o a f (Private p v) kept holds none =
    let free = no_entries config o a f p.0 v (Private p v) kept holds none (held_own config o a f (Private p v) kept holds refl) in
    ap or_zero (absent (has_vpn v) (a.ring p.0).slots ((kept.entries p.0 v).slots ∙ free))
no_slot config o a f (Shared s i) kept holds none = refl
