-- Pages: behind an entry, in a swap block, and in a frame.
use Rattle.std.proofs.Common.{◌&&◌, ◌≡◌, ◌⊎◌, ℕ, ◌<◌, length, Bool, true, false, cond, Option, Some, None, slice_get, refl, sym, ap, ◌∙◌, subst, inl, inr, nat_eq}
use Rattle.std.proofs.lemmas.Bool.{cases_eq, eqb-true, false≢true}
use Rattle.vm_types.specs.Kinds.{is_paged_kind, is_shared_kind}
use Rattle.vm_types.specs.Ring.{Ring}
use Rattle.vm_types.specs.declared.names.Page.{Page}
use Rattle.vm_types.specs.declared.names.Page.TheVariants.{Private, Shared}
use Rattle.vm_types.specs.declared.names.BlockId.{BlockId}
use Rattle.vm_types.specs.declared.names.BlockId.TheVariants as block
use Rattle.vm_types.specs.declared.names.FrameState.{FrameState}
use Rattle.vm_types.specs.declared.names.ProcStatus.{ProcStatus}
use Rattle.vm_types.specs.declared.names.ProcStatus.TheVariants as status
use Rattle.vm_types.specs.declared.config.Config.{Config}
use Rattle.vm_types.specs.declared.config.Origin.{Origin}
use Rattle.vm_types.specs.declared.config.Origin.TheVariants as origin
use Rattle.vm_types.specs.declared.config.Section.{Section}
use Rattle.vm_types.specs.declared.config.SectionKind.{SectionKind}
use Rattle.vm_types.specs.declared.config.SectionKind.TheVariants as kind
use Rattle.vm_types.specs.declared.names.SecId.{SecId}
use Rattle.pager_model.specs.Charging.{first_source, is_uncharged}
use Rattle.pager_model.specs.Changes.{is_section_block}
use Rattle.pager_model.specs.Lookups.{count_page, is, is_of, own_section, page_at, page_by, section_at, slot_of}
use Rattle.pager_model.specs.Maps.{Map, Mapped, is_paged, is_private, page_behind, paged_of, proc, shared_of}
use Rattle.pager_model.specs.Pager.{Pager}
use Rattle.pager_model.specs.Sound.{FitsSlot, HasSwapped, IsSwapped, MayHoldSwapped, pins_of_page}
use Rattle.pager_model.specs.Zero.{IsDemandZero, is_zero_origin, zeroed_page}

-- a page of process p at one of its page numbers, if it is some process's own, is p's there
behind_is : (config : Config) (p v : ℕ) (o : Origin) (g : Page) → page_behind config p v o ≡ g → is_private g ≡ true → g ≡ Private (proc p) v
behind_is config p v origin.Zero g is private = sym is
behind_is config p v (origin.Section s i) g is private = go (shared_of (slice_get config.sections s.0)) is
  where
    go : (b : Bool) → cond b (Shared s i) (Private (proc p) v) ≡ g → g ≡ Private (proc p) v
    go true is = absurd (false≢true (ap is_private is ∙ private))
    go false is = sym is

pub own_is : (config : Config) (map : Map) (p v : ℕ) (g : Page) → page_by config map p v ≡ Some g → is_private g ≡ true → g ≡ Private (proc p) v
own_is config map p v g is private = go (map p v) is
  where
    go : (o : Option Mapped) → page_at config p v o ≡ Some g → g ≡ Private (proc p) v
    go None none = absurd (cc)
    go (Some m) some = behind_is config p v m.origin g (cc) private

pub is_of_private : (q : ℕ) (g : Page) → is_of q g ≡ true → is_private g ≡ true
is_of_private q (Private p v) own = refl
is_of_private q (Shared s i) own = absurd (false≢true own)

pub own_process : (config : Config) (map : Map) (p v q : ℕ) (g : Page) → page_by config map p v ≡ Some g → is_of q g ≡ true → p ≡ q
own_process config map p v q g is own = eqb-true p q (subst (λ (x : Page). is_of q x ≡ true) (own_is config map p v g is (is_of_private q g own)) own)

-- what is behind a copy on reference page is a section's block
pub section_is : (o : Option Mapped) (b : BlockId) → section_at o ≡ Some b → is_section_block b ≡ true
section_is None b is = absurd (cc)
section_is (Some m) b is = of_origin m.origin is
  where
    of_origin : (o : Origin) → section_at (Some (record m { origin = o })) ≡ Some b → is_section_block b ≡ true
    of_origin origin.Zero is = absurd (cc)
    of_origin (origin.Section s i) is = let same : block.Section s i ≡ b = cc in ap is_section_block (sym same)

pub behind_section : (map : Map) (g : Page) (b : BlockId) → own_section map g ≡ Some b → is_section_block b ≡ true
behind_section map (Private p v) b is = section_is (map p.0 v) b is
behind_section map (Shared s i) b is = absurd (cc)

-- ---- paged pages
pub paged_is_shared : (o : Option Section) → paged_of o ≡ true → shared_of o ≡ true
paged_is_shared None paged = absurd (false≢true paged)
paged_is_shared (Some section) paged = by section.kind paged
  where
    by : (k : SectionKind) → is_paged_kind k ≡ true → is_shared_kind k ≡ true
    by kind.Shared e = refl
    by kind.Crf e = absurd (false≢true e)
    by kind.Paged e = refl

pub private_is_paged : (config : Config) (g : Page) → is_private g ≡ true → is_paged config g ≡ true
private_is_paged config (Private p v) private = refl
private_is_paged config (Shared s i) private = absurd (false≢true private)

-- what is behind a shared page
pub origin_behind : (config : Config) (p v : ℕ) (o : Origin) (s : SecId) (i : ℕ) → page_behind config p v o ≡ Shared s i → o ≡ origin.Section s i
origin_behind config p v origin.Zero s i is = absurd (cc)
origin_behind config p v (origin.Section t j) s i is = go (shared_of (slice_get config.sections t.0)) is
  where
    go : (b : Bool) → cond b (Shared t j) (Private (proc p) v) ≡ Shared s i → origin.Section t j ≡ origin.Section s i
    go true is = ap origin_of is
      where
        origin_of : Page → Origin
        origin_of (Shared u k) = origin.Section u k
        origin_of (Private q w) = origin.Zero
    go false is = absurd (cc)

-- a page that is mapped to zeros is a paged one
pub zeroed_mapped : (config : Config) (p v : ℕ) (mapped : Option Mapped) → IsDemandZero config mapped → page_at config p v mapped ≡ Some (zeroed_page config p v mapped)
zeroed_mapped config p v None demand = absurd demand
zeroed_mapped config p v (Some m) demand = refl

pub zeroed_is : (config : Config) (p v : ℕ) (mapped : Option Mapped) (g : Page) → page_at config p v mapped ≡ Some g → zeroed_page config p v mapped ≡ g
zeroed_is config p v None g is = absurd (cc)
zeroed_is config p v (Some m) g is = cc

-- a page that is read first from what is behind it is a private one
pub first_private : (g : Page) (m : Option Mapped) (b : BlockId) → first_source g m ≡ Some b → (is_private g ≡ true) × (section_at m ≡ Some b)
first_private (Private q w) m b is = (refl, is)
first_private (Shared s i) m b is = absurd (let no : ⊥ = cc in no)

pub not_first : (config : Config) (a : Pager) (g : Page) → is_uncharged config a g ≡ false → (is_private g && nat_eq (count_page a.charged g) 0) ≡ false
not_first config a (Private q w) is = is
not_first config a (Shared s i) is = refl

behind_paged : (config : Config) (p v : ℕ) (o : Origin) → is_zero_origin config o ≡ true → is_paged config (page_behind config p v o) ≡ true
behind_paged config p v origin.Zero zeros = refl
behind_paged config p v (origin.Section s i) zeros =
    ap (λ (b : Bool). is_paged config (cond b (Shared s i) (Private (proc p) v))) (paged_is_shared (slice_get config.sections s.0) zeros) ∙ zeros

pub zeroed_paged : (config : Config) (p v : ℕ) (mapped : Option Mapped) → IsDemandZero config mapped → is_paged config (zeroed_page config p v mapped) ≡ true
zeroed_paged config p v None demand = absurd demand
zeroed_paged config p v (Some m) demand = behind_paged config p v m.origin demand

-- ---- a resident process's ring and one frame change
pub swapped_move : (lies : Page → Option BlockId) (status_of : ℕ → ProcStatus) (ring ring' : ℕ → Ring) (state state' : ℕ → FrameState) (page page' : ℕ → Option Page) (p f : ℕ)
    → status_of p ≡ status.Resident → ((q : ℕ) → (p ≡ q → ⊥) → ring' q ≡ ring q) → ((h : ℕ) → (f ≡ h → ⊥) → state' h ≡ state h) → ((h : ℕ) → (f ≡ h → ⊥) → page' h ≡ page h)
    → ((g : Page) (q n : ℕ) → page' f ≡ Some g → lies g ≡ Some (block.Swap (proc q) n) → is_of q g ≡ true → (p ≡ q → ⊥) → MayHoldSwapped (state' f) (status_of q))
    → HasSwapped lies status_of ring state page → HasSwapped lies status_of ring' state' page'
swapped_move lies status_of ring ring' state state' page page' p f resident rings states pages here swapped g q n lying =
    record {
      own = old.own;
      away = old.away;
      alone = old.alone;
      within = subst (λ (r : Ring). n < length r.slots) (sym (rings q apart)) old.within;
      slot = subst (λ (r : Ring). FitsSlot q (slot_of (slice_get r.slots n)) g) (sym (rings q apart)) old.slot;
      unpinned = subst (λ (r : Ring). pins_of_page r g ≡ 0) (sym (rings q apart)) old.unpinned;
      frame = λ h holds. by_frame h holds (cases_eq f h);
    }
  where
    old : IsSwapped lies status_of ring state page g q n
    old = swapped g q n lying

    apart : p ≡ q → ⊥
    apart same = old.away (subst (λ (r : ℕ). status_of r ≡ status.Resident) same resident)

    by_frame : (h : ℕ) → page' h ≡ Some g → (f ≡ h) ⊎ (f ≡ h → ⊥) → MayHoldSwapped (state' h) (status_of q)
    by_frame h holds (inl same) = subst (λ (x : ℕ). MayHoldSwapped (state' x) (status_of q)) same (here g q n (ap page' same ∙ holds) lying old.own apart)
    by_frame h holds (inr other) = subst (λ (s : FrameState). MayHoldSwapped s (status_of q)) (sym (states h other)) (old.frame h (sym (pages h other) ∙ holds))

-- ---- one frame changes
pub swapped_frame : (lies : Page → Option BlockId) (status_of : ℕ → ProcStatus) (ring : ℕ → Ring) (state state' : ℕ → FrameState) (page page' : ℕ → Option Page) (f : ℕ)
    → ((h : ℕ) → (f ≡ h → ⊥) → state' h ≡ state h) → ((h : ℕ) → (f ≡ h → ⊥) → page' h ≡ page h)
    → ((g : Page) (q n : ℕ) → page' f ≡ Some g → IsSwapped lies status_of ring state page g q n → MayHoldSwapped (state' f) (status_of q))
    → HasSwapped lies status_of ring state page → HasSwapped lies status_of ring state' page'
swapped_frame lies status_of ring state state' page page' f states pages here swapped g q n lying =
    record { own = old.own; away = old.away; alone = old.alone; within = old.within; slot = old.slot; unpinned = old.unpinned; frame = λ h holds. by_frame h holds (cases_eq f h) }
  where
    old : IsSwapped lies status_of ring state page g q n
    old = swapped g q n lying

    by_frame : (h : ℕ) → page' h ≡ Some g → (f ≡ h) ⊎ (f ≡ h → ⊥) → MayHoldSwapped (state' h) (status_of q)
    by_frame h holds (inl same) = subst (λ (x : ℕ). MayHoldSwapped (state' x) (status_of q)) same (here g q n (ap page' same ∙ holds) old)
    by_frame h holds (inr other) = subst (λ (s : FrameState). MayHoldSwapped s (status_of q)) (sym (states h other)) (old.frame h (sym (pages h other) ∙ holds))
