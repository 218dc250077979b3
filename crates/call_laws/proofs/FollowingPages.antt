-- The pages that follow a faulting page in its cluster: where they lie, and what they are.
use Rattle.std.proofs.Common.{◌≡◌, ◌⊎◌, inl, inr, ℕ, ◌+◌, ◌<◌, ◌&&◌, Bool, true, false, cond, Option, Some, None, nat_lt, slice_get, refl, sym, ap, ◌∙◌, subst, arith}
use Rattle.std.proofs.lemmas.Bool.{and_from, and_parts, eq-eqb, eqb-true, false≢true, ltb-true}
use Rattle.std.proofs.lemmas.Option.{none-some, same_Some}
use Rattle.vm_types.specs.Configuration.{section_pages}
use Rattle.vm_types.specs.Same.{same_block}
use Rattle.vm_types.specs.declared.config.Config.{Config}
use Rattle.vm_types.specs.declared.config.Section.{Section}
use Rattle.vm_types.specs.declared.names.BlockId.{BlockId}
use Rattle.vm_types.specs.declared.names.BlockId.TheVariants as block
use Rattle.vm_types.specs.declared.names.Page.{Page}
use Rattle.vm_types.specs.declared.names.Page.TheVariants.{Private, Shared}
use Rattle.pager_policy.specs.Advance.{block_after, following, following_owner, following_shared, owner_of}
use Rattle.pager_model.specs.Lying.{lies_in}
use Rattle.pager_model.specs.Around.{PastView}
use Rattle.pager_model.specs.In.{is_kin}
use Rattle.pager_model.specs.Maps.{is_paged, is_private}
use Rattle.vm_types.specs.BlockOrder.{is_next_block}
use Rattle.pager_model.specs.OfConfig.{IsOfConfig, IsPageOf}
use Rattle.pager_model.specs.Pager.{Pager}
use Rattle.pager_rules.proofs.Basics.{nat_eq_refl}
use Rattle.pager_rules.proofs.Put.{blocks_equal}
use Rattle.pager_rules.specs.Kept.{IsKept}
use Rattle.pager_laws.proofs.OfConfigKept.{charged_right, page_right}
use Rattle.pager_laws.proofs.OutKept.{not_in_file}

-- ---- blocks one after another
pub blocks_apart : (b : BlockId) (i j : ℕ) → i < j → same_block (block_after b j) (block_after b i) ≡ false
blocks_apart b i j less = go (same_block (block_after b j) (block_after b i)) refl
  where
    go : (c : Bool) → same_block (block_after b j) (block_after b i) ≡ c → c ≡ false
    go false is = refl
    go true is = absurd (differ b (blocks_equal (block_after b j) (block_after b i) is))
      where
        number : BlockId → ℕ
        number (block.Section s n) = n
        number (block.PageFile n) = n
        number (block.Swap p n) = n

        differ : (d : BlockId) → block_after d j ≡ block_after d i → ⊥
        differ (block.Section s n) same = let at = ap number same in omega (arith, at, less)
        differ (block.PageFile n) same = let at = ap number same in omega (arith, at, less)
        differ (block.Swap p n) same = let at = ap number same in omega (arith, at, less)

pub block_at_none : (b : BlockId) → block_after b 0 ≡ b
block_at_none (block.Section s n) = ap (block.Section s) (omega arith)
block_at_none (block.PageFile n) = ap block.PageFile (omega arith)
block_at_none (block.Swap p n) = ap (block.Swap p) (omega arith)

pub next_after : (b : BlockId) (j : ℕ) → is_next_block (block_after b j) (block_after b (j + 1)) ≡ true
next_after (block.Section s n) j = and_from _ _ (nat_eq_refl s.0) (eq-eqb (n + (j + 1)) (n + j + 1) (omega arith))
next_after (block.PageFile n) j = eq-eqb (n + (j + 1)) (n + j + 1) (omega arith)
next_after (block.Swap p n) j = and_from _ _ (nat_eq_refl p.0) (eq-eqb (n + (j + 1)) (n + j + 1) (omega arith))

-- ---- kin of one page are kin
pub kin_of_kin : (g h x : Page) → is_kin g h ≡ true → is_kin g x ≡ true → is_kin h x ≡ true
kin_of_kin (Private p v) (Private q w) (Private r u) first second = let a = eqb-true p.0 q.0 first in let b = eqb-true p.0 r.0 second in eq-eqb q.0 r.0 (omega (arith, a, b))
kin_of_kin (Shared s i) (Shared t j) (Shared u k) first second = let a = eqb-true s.0 t.0 first in let b = eqb-true s.0 u.0 second in eq-eqb t.0 u.0 (omega (arith, a, b))
kin_of_kin (Private p v) (Private q w) (Shared u k) first second = absurd (false≢true second)
kin_of_kin (Private p v) (Shared t j) x first second = absurd (false≢true first)
kin_of_kin (Shared s i) (Private q w) x first second = absurd (false≢true first)
kin_of_kin (Shared s i) (Shared t j) (Private r u) first second = absurd (false≢true second)

-- ---- a page that follows
pub record Follows (config : Config) (a : Pager) (g : Page) (b : BlockId) (places : ℕ) (h : Page) : Type 0 where
  pub lies : a.lies h ≡ Some (block_after b places)
  pub kin : is_kin g h ≡ true
  pub of : IsPageOf config h

pub lies_there : (o : Option BlockId) (c : BlockId) → lies_in o c ≡ true → o ≡ Some c
lies_there None c is = absurd (false≢true is)
lies_there (Some d) c is = ap Some (sym (blocks_equal c d is))

module _ (config : Config) (o : PastView) (a : Pager) (kept : IsKept config o a) (right : IsOfConfig config a) where
  -- a page that lies in a block of the page file is charged, and one of the configuration
  lying_of : (h : Page) (n : ℕ) → a.lies h ≡ Some (block.PageFile n) → IsPageOf config h
  lying_of h n lies = by (is_paged config h) refl
    where
      by : (c : Bool) → is_paged config h ≡ c → IsPageOf config h
      by true paged = charged_right config a.charged h (let charged = (kept.pages h).lying (block.PageFile n) paged lies in omega (arith, charged)) right.charged
      by false file = absurd (not_in_file config a h n (kept.pages h) file lies)

  pub page_follows : (g : Page) (b : BlockId) (places : ℕ) (h : Page) → IsPageOf config g → a.lies g ≡ Some b → following config a g b places ≡ Some h → Follows config a g b places h
  page_follows g (block.PageFile n) places h of lies is = by (owner_of a.assigned (n + places)) is
    where
      is_owner_page : (x : Page) (c : Bool) → (is_kin g x && lies_in (a.lies x) (block.PageFile (n + places))) ≡ c → cond c (Some x) None ≡ Some h → Follows config a g (block.PageFile n) places h
      is_owner_page x false both is = absurd (none-some h is)
      is_owner_page x true both is =
          let parts = and_parts _ _ both in
          let there = lies_there (a.lies x) (block.PageFile (n + places)) parts.1 in
          subst (λ (y : Page). Follows config a g (block.PageFile n) places y) (same_Some x h is) (record { lies = there; kin = parts.0; of = lying_of x (n + places) there })

      by : (o : Option Page) → following_owner a g (n + places) o ≡ Some h → Follows config a g (block.PageFile n) places h
      by None is = absurd (none-some h is)
      by (Some x) is = is_owner_page x (is_kin g x && lies_in (a.lies x) (block.PageFile (n + places))) refl is
  page_follows (Shared s i) (block.Section t j) places h of lies is = by_kind (is_paged config (Shared s i)) refl
    where
      in_section : is_paged config (Shared s i) ≡ false → (section : Section) (c : Bool) → slice_get config.sections s.0 ≡ Some section → nat_lt (i + places) (section_pages section) ≡ c → cond c (Some (Shared s (i + places))) None ≡ Some h → Follows config a (Shared s i) (block.Section t j) places h
      in_section file section false there within is = absurd (none-some h is)
      in_section file section true there within is =
          let same : Shared s (i + places) ≡ h = same_Some _ h is in
          let block_is : block.Section s i ≡ block.Section t j = same_Some _ (block.Section t j) (sym ((kept.pages (Shared s i)).shared s i refl file) ∙ lies) in
          subst (λ (x : Page). Follows config a (Shared s i) (block.Section t j) places x) same (subst (λ (c : BlockId). Follows config a (Shared s i) c places (Shared s (i + places))) block_is (record {
            lies = (kept.pages (Shared s (i + places))).shared s (i + places) refl file;
            kin = nat_eq_refl s.0;
            of = ((section, there, ltb-true _ _ within), of.1);
          }))

      by : is_paged config (Shared s i) ≡ false → (o : Option Section) → slice_get config.sections s.0 ≡ o → following_shared o s (i + places) ≡ Some h → Follows config a (Shared s i) (block.Section t j) places h
      by file None there is = absurd (none-some h is)
      by file (Some section) there is = in_section file section (nat_lt (i + places) (section_pages section)) there refl is

      by_kind : (c : Bool) → is_paged config (Shared s i) ≡ c → Follows config a (Shared s i) (block.Section t j) places h
      by_kind true paged = absurd ((kept.pages (Shared s i)).not_in_section t j paged lies)
      by_kind false file = by file (slice_get config.sections s.0) refl is
  page_follows (Shared s i) (block.Swap q n) places h of lies is = absurd (none-some h is)
  page_follows (Private p v) (block.Section s i) places h of lies is = absurd (none-some h is)
  page_follows (Private p v) (block.Swap q n) places h of lies is = absurd (none-some h is)
