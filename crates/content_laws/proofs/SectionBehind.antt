-- What lies in a section's block: a page of a shared section, or the first bytes of a private page.
use Rattle.std.proofs.Common.{◌≡◌, ℕ, ◌&&◌, Bool, true, false, cond, not, Option, Some, None, slice_get, refl, sym, ap, ap₂, ◌∙◌, replicate, subst}
use Rattle.std.proofs.lemmas.Bool.{false≢true}
use Rattle.std.proofs.lemmas.Option.{none-some, same_Some}
use Rattle.vm_types.specs.declared.limits.TheConstants.{PAGE_BYTES}
use Rattle.vm_types.specs.declared.names.Page.{Page}
use Rattle.vm_types.specs.declared.names.SecId.{SecId}
use Rattle.vm_types.specs.declared.names.Page.TheVariants.{Private, Shared}
use Rattle.vm_types.specs.declared.names.BlockId.{BlockId}
use Rattle.vm_types.specs.declared.names.BlockId.TheVariants as block
use Rattle.vm_types.specs.declared.config.Config.{Config}
use Rattle.vm_types.specs.declared.config.Origin.{Origin}
use Rattle.vm_types.specs.declared.config.Origin.TheVariants as origin
use Rattle.vm_types.specs.declared.config.Section.{Section}
use Rattle.pager_model.specs.Around.{PastView}
use Rattle.pager_model.specs.Bytes.{bytes_at, bytes_in, is_real}
use Rattle.pager_model.specs.Flat.{FlatState}
use Rattle.pager_model.specs.Lookups.{own_page, own_section, page_at, page_by, section_at, section_of}
use Rattle.pager_model.specs.Maps.{Map, Mapped, first_bytes, is_paged, is_private, page_behind, paged_of, proc, section_bytes, shared_of}
use Rattle.pager_model.specs.OfConfig.{IsPageOf}
use Rattle.pager_model.specs.Pager.{Pager}
use Rattle.pager_model.specs.Sets.{has_page}
use Rattle.pager_rules.proofs.Pages.{own_is, paged_is_shared}
use Rattle.pager_rules.specs.Kept.{IsKept}

-- a page of the configuration is real
pub page_real : (config : Config) (g : Page) → IsPageOf config g → is_real config g ≡ true
page_real config (Private p v) is = refl
page_real config (Shared s i) is = is.1

abbrev shared_block_of : Config → BlockId → Bool
shared_block_of config (block.Section s i) = shared_of (slice_get config.sections s.0)
shared_block_of config other = false

-- a real page that lies in a section's block is of a shared section
pub in_section : (config : Config) (o : PastView) (a : Pager) (g : Page) (s : SecId) (i : ℕ) → IsKept config o a → is_real config g ≡ true → a.lies g ≡ Some (block.Section s i) → shared_of (slice_get config.sections s.0) ≡ true
in_section config o a (Private p v) s i kept real lies = absurd ((kept.pages (Private p v)).not_in_section s i refl lies)
in_section config o a (Shared t j) s i kept real lies = go (is_paged config (Shared t j)) refl
  where
    go : (c : Bool) → is_paged config (Shared t j) ≡ c → shared_of (slice_get config.sections s.0) ≡ true
    go true paged = absurd ((kept.pages (Shared t j)).not_in_section s i paged lies)
    go false file = subst (λ (d : BlockId). shared_block_of config d ≡ true) (same_Some _ _ (sym ((kept.pages (Shared t j)).shared t j refl file) ∙ lies)) real

-- the origin of a mapping with a section's block behind it
origin_is : (o : Origin) (s : SecId) (i : ℕ) → section_of o ≡ Some (block.Section s i) → o ≡ origin.Section s i
origin_is origin.Zero s i is = absurd (none-some _ is)
origin_is (origin.Section t j) s i is = ap origin_of (same_Some _ _ is)
  where
    origin_of : BlockId → Origin
    origin_of (block.Section u k) = origin.Section u k
    origin_of other = origin.Zero

-- a private page that is mapped with a section's block behind it: the section isn't shared
pub unshared_behind : (config : Config) (map : Map) (g : Page) (p v : ℕ) (s : SecId) (i : ℕ) → page_by config map p v ≡ Some g → is_private g ≡ true → section_at (map p v) ≡ Some (block.Section s i) → shared_of (slice_get config.sections s.0) ≡ false
unshared_behind config map g p v s i mapped private behind = go (map p v) mapped behind
  where
    by : (shared : Bool) → shared_of (slice_get config.sections s.0) ≡ shared → cond shared (Shared s i) (Private (proc p) v) ≡ g → shared_of (slice_get config.sections s.0) ≡ false
    by false is same = is
    by true is same = absurd (false≢true (subst (λ (h : Page). is_private h ≡ true) (sym same) private))

    go : (o : Option Mapped) → page_at config p v o ≡ Some g → section_at o ≡ Some (block.Section s i) → shared_of (slice_get config.sections s.0) ≡ false
    go None at section = absurd (none-some g at)
    go (Some m) at section = by (shared_of (slice_get config.sections s.0)) refl (sym (ap (page_behind config p v) (origin_is m.origin s i section)) ∙ same_Some _ _ at)

-- a section that isn't shared has a file
pub unshared_file : (o : Option Section) → shared_of o ≡ false → paged_of o ≡ false
unshared_file o unshared = go (paged_of o) refl
  where
    go : (c : Bool) → paged_of o ≡ c → paged_of o ≡ false
    go true paged = absurd (false≢true (sym unshared ∙ paged_is_shared o paged))
    go false file = file

-- and while it is untouched it has the section's bytes
pub first_behind : (config : Config) (flat : FlatState) (g : Page) (p v : ℕ) (s : SecId) (i : ℕ) → page_by config flat.map p v ≡ Some g → is_private g ≡ true → section_at (flat.map p v) ≡ Some (block.Section s i) → has_page flat.touched g ≡ false
    → bytes_in config flat g ≡ section_bytes config s.0 i
first_behind config flat g p v s i mapped private behind untouched =
    ap (bytes_in config flat) own ∙ go (flat.map p v) behind
  where
    own : g ≡ Private (proc p) v
    own = own_is config flat.map p v g mapped private

    go : (o : Option Mapped) → section_at o ≡ Some (block.Section s i) → bytes_at config flat (Private (proc p) v) o ≡ section_bytes config s.0 i
    go None section = absurd (none-some _ section)
    go (Some m) section = ap₂ (λ (t : Bool) (o : Origin). cond (true && not t) (first_bytes config o) (flat.stored (Private (proc p) v))) (ap (has_page flat.touched) (sym own) ∙ untouched) (origin_is m.origin s i section)
        ∙ ap (λ (b : Bool). cond b (replicate PAGE_BYTES 0) (section_bytes config s.0 i)) (unshared_file (slice_get config.sections s.0) (unshared_behind config flat.map g p v s i mapped private behind))

-- the same by the page's own place
pub unshared_own : (config : Config) (map : Map) (g : Page) (s : SecId) (i : ℕ) → own_page config map g ≡ Some g → own_section map g ≡ Some (block.Section s i) → shared_of (slice_get config.sections s.0) ≡ false
unshared_own config map (Private p v) s i mapped behind = unshared_behind config map (Private p v) p.0 v s i mapped refl behind
unshared_own config map (Shared t j) s i mapped behind = absurd (none-some _ behind)

pub first_own : (config : Config) (flat : FlatState) (g : Page) (s : SecId) (i : ℕ) → own_page config flat.map g ≡ Some g → own_section flat.map g ≡ Some (block.Section s i) → has_page flat.touched g ≡ false → bytes_in config flat g ≡ section_bytes config s.0 i
first_own config flat (Private p v) s i mapped behind untouched = first_behind config flat (Private p v) p.0 v s i mapped refl behind untouched
first_own config flat (Shared t j) s i mapped behind untouched = absurd (none-some _ behind)
