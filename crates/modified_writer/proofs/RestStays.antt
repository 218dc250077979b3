-- A write of the modified list's head leaves the blocks to which the pages behind it are written.
use Rattle.std.proofs.Common.{◌≡◌, ℕ, zero, suc, ◌+◌, ◌<◌, ◌&&◌, Bool, true, false, cond, List, [], ◌∷◌, Option, Some, None, count_by, nat_eq, nat_lt, refl, sym, ap, ◌∙◌, arith}
use Rattle.std.specs.Option.{option_map}
use Rattle.std.proofs.lemmas.Bool.{eqb-true, false≢true, ne_eqb}
use Rattle.std.proofs.lemmas.Option.{none-some, same_Some}
use Rattle.vm_types.specs.Same.{same_page}
use Rattle.vm_types.specs.declared.config.Config.{Config}
use Rattle.vm_types.specs.declared.names.BlockId.{BlockId}
use Rattle.vm_types.specs.declared.names.BlockId.TheVariants as block
use Rattle.vm_types.specs.declared.names.Page.{Page}
use Rattle.vm_journal.specs.declared.entry.What.{What}
use Rattle.vm_journal.specs.declared.entry.What.TheVariants as what
use Rattle.page_lists.specs.Lists.{count_of}
use Rattle.pager_model.specs.Maps.{pfn, is_paged}
use Rattle.vm_types.specs.BlockOrder.{is_next_block, if_next}
use Rattle.pager_model.specs.Lookups.{block_of, is_assigned_to, is_owner}
use Rattle.pager_model.specs.Out.{after_any_out, assigned_with}
use Rattle.pager_model.specs.Pager.{Assigned, Pager}
use Rattle.pager_policy.specs.WriteCluster.{block_out, is_free_block, new_block, paged_block, filed_block, writes_from, writes_taken}
use Rattle.pager_rules.proofs.Basics.{count_cons, count_cons_no, find_cons_no, nat_eq_refl, pages_equal}

-- the blocks of the page file that a cluster with this last block may still take
abbrev pub IsBehind : BlockId → ℕ → Type 0
IsBehind (block.PageFile m) n = m < n
IsBehind other n = Unit {0}

behind_next : (last d : BlockId) (n : ℕ) → is_next_block last d ≡ true → IsBehind d n → IsBehind last n
behind_next (block.PageFile m) (block.PageFile k) n next behind = let is = eqb-true k (m + 1) next in omega (arith, is, behind)
behind_next (block.PageFile m) (block.Section s i) n next behind = absurd (false≢true next)
behind_next (block.PageFile m) (block.Swap p i) n next behind = absurd (false≢true next)
behind_next (block.Section s i) d n next behind = tt
behind_next (block.Swap p i) d n next behind = tt

-- in both states the frames hold the same pages, these lie in the same blocks and have the same ones assigned, and
-- the blocks that may still be taken are assigned alike
pub record Stays (a b : Pager) (last : BlockId) (frames : List ℕ) : Type 0 where
  pub page : (f : ℕ) → b.page f ≡ a.page f
  pub lies : (g : Page) → b.lies g ≡ a.lies g
  pub blocks : (f : ℕ) (g : Page) → 0 < count_of frames f → a.page f ≡ Some g → block_of b.assigned g ≡ block_of a.assigned g
  pub owners : (n : ℕ) → IsBehind last n → count_by (is_owner (block.PageFile n)) b.assigned ≡ count_by (is_owner (block.PageFile n)) a.assigned

-- ---- a block behind the last one
if_next_joins : (last b d : BlockId) → if_next (Some last) b ≡ Some d → is_next_block last d ≡ true
if_next_joins last b d is = go (is_next_block last b) refl is
  where
    go : (n : Bool) → is_next_block last b ≡ n → cond n (Some b) None ≡ Some d → is_next_block last d ≡ true
    go false next is = absurd (none-some d is)
    go true next is = ap (is_next_block last) (sym (same_Some b d is)) ∙ next

module _ (config : Config) (a : Pager) where
  new_joins : (last d : BlockId) → new_block config a (Some last) ≡ Some d → is_next_block last d ≡ true
  new_joins (block.PageFile m) d is = go (is_free_block config a (m + 1)) is
    where
      go : (b : Bool) → cond b (Some (block.PageFile (m + 1))) None ≡ Some d → is_next_block (block.PageFile m) d ≡ true
      go false is = absurd (none-some d is)
      go true is = ap (is_next_block (block.PageFile m)) (sym (same_Some (block.PageFile (m + 1)) d is)) ∙ nat_eq_refl (m + 1)
  new_joins (block.Section s i) d is = absurd (none-some d is)
  new_joins (block.Swap p i) d is = absurd (none-some d is)

  joins : (last d : BlockId) (o : Option Page) → block_out config a (Some last) o ≡ Some d → is_next_block last d ≡ true
  joins last d None is = absurd (none-some d is)
  joins last d (Some g) is = by (is_paged config g) is
    where
      paged : (o : Option ℕ) → paged_block config a (Some last) o ≡ Some d → is_next_block last d ≡ true
      paged None is = new_joins last d is
      paged (Some n) is = if_next_joins last (block.PageFile n) d is

      lying : (o : Option BlockId) → filed_block (Some last) o ≡ Some d → is_next_block last d ≡ true
      lying None is = absurd (none-some d is)
      lying (Some b) is = if_next_joins last b d is

      by : (b : Bool) → cond b (paged_block config a (Some last) (block_of a.assigned g)) (filed_block (Some last) (a.lies g)) ≡ Some d → is_next_block last d ≡ true
      by true is = paged (block_of a.assigned g) is
      by false is = lying (a.lies g) is

-- ---- the same blocks
module _ (config : Config) (a b : Pager) where
  new_same : (last : BlockId) (frames : List ℕ) → Stays a b last frames → new_block config b (Some last) ≡ new_block config a (Some last)
  new_same (block.PageFile m) frames stays =
      ap (λ (n : ℕ). cond (nat_lt (m + 1) config.pagefile && nat_eq n 0) (Some (block.PageFile (m + 1))) None) (stays.owners (m + 1) (omega arith))
  new_same (block.Section s i) frames stays = refl
  new_same (block.Swap p i) frames stays = refl

  out_same : (last : BlockId) (f : ℕ) (fs : List ℕ) → Stays a b last (f ∷ fs) → block_out config b (Some last) (b.page f) ≡ block_out config a (Some last) (a.page f)
  out_same last f fs stays = ap (block_out config b (Some last)) (stays.page f) ∙ by (a.page f) refl
    where
      paged : (o : Option ℕ) → paged_block config b (Some last) o ≡ paged_block config a (Some last) o
      paged None = new_same last (f ∷ fs) stays
      paged (Some n) = refl

      by : (o : Option Page) → a.page f ≡ o → block_out config b (Some last) o ≡ block_out config a (Some last) o
      by None holds = refl
      by (Some g) holds =
          let own : block_of b.assigned g ≡ block_of a.assigned g = stays.blocks f g (omega (arith, count_cons_first)) holds in
          let taken : paged_block config b (Some last) (block_of b.assigned g) ≡ paged_block config a (Some last) (block_of a.assigned g) = ap (paged_block config b (Some last)) own ∙ paged (block_of a.assigned g) in
          λ i. cond (is_paged config g) (taken i) (filed_block (Some last) (stays.lies g i))
        where
          count_cons_first : count_of (f ∷ fs) f ≡ 1 + count_of fs f
          count_cons_first = count_cons (λ (y : ℕ). nat_eq y f) f fs ∙ ap (λ (c : Bool). cond c 1 0 + count_of fs f) (nat_eq_refl f)

  stays_behind : (last d : BlockId) (f : ℕ) (fs : List ℕ) → is_next_block last d ≡ true → Stays a b last (f ∷ fs) → Stays a b d fs
  stays_behind last d f fs next stays = record {
    page = stays.page;
    lies = stays.lies;
    blocks = λ k x listed holds. stays.blocks k x (omega (arith, listed, count_cons (λ (y : ℕ). nat_eq y k) f fs)) holds;
    owners = λ n behind. stays.owners n (behind_next last d n next behind);
  }

  -- and so the same writes
  pub writes_same : (frames : List ℕ) (m : ℕ) (last : BlockId) → Stays a b last frames → writes_from config b m (Some last) frames ≡ writes_from config a m (Some last) frames
  writes_same [] m last stays = refl
  writes_same (f ∷ fs) m last stays = by m (λ n d rest. writes_same fs n d rest)
    where
      taken : (n : ℕ) (o : Option BlockId) → block_out config a (Some last) (a.page f) ≡ o → ((d : BlockId) → Stays a b d fs → writes_from config b n (Some d) fs ≡ writes_from config a n (Some d) fs)
          → writes_taken f (suc n) o (λ (d : BlockId) (k : ℕ). writes_from config b k (Some d) fs) ≡ writes_taken f (suc n) o (λ (d : BlockId) (k : ℕ). writes_from config a k (Some d) fs)
      taken n None is rest = refl
      taken n (Some d) is rest = ap (λ (ws : List What). what.Out (pfn f) d ∷ ws) (rest d (stays_behind last d f fs (joins config a last d (a.page f) is) stays))

      by : (m : ℕ) → ((n : ℕ) (d : BlockId) → Stays a b d fs → writes_from config b n (Some d) fs ≡ writes_from config a n (Some d) fs) → writes_from config b m (Some last) (f ∷ fs) ≡ writes_from config a m (Some last) (f ∷ fs)
      by zero rest = refl
      by (suc n) rest =
          ap (λ (o : Option BlockId). writes_taken f (suc n) o (λ (d : BlockId) (k : ℕ). writes_from config b k (Some d) fs)) (out_same last f fs stays)
          ∙ taken n (block_out config a (Some last) (a.page f)) refl (λ d stays. rest n d stays)

-- ---- after the write of a frame that stands on the list once
module _ (a : Pager) (once : (k h : ℕ) (x : Page) → a.page k ≡ Some x → a.page h ≡ Some x → k ≡ h) (f : ℕ) (g : Page) (holds : a.page f ≡ Some g) (fs : List ℕ) (none : count_of fs f ≡ 0) where
  apart : (k : ℕ) (x : Page) → 0 < count_of fs k → a.page k ≡ Some x → same_page x g ≡ false
  apart k x listed is = go (same_page x g) refl
    where
      go : (b : Bool) → same_page x g ≡ b → b ≡ false
      go false other = refl
      go true same = absurd (let at = once k f x is (holds ∙ ap Some (sym (pages_equal x g same))) in let counts = ap (count_of fs) at in omega (arith, listed, counts, none))

  -- one assignment more at most, of this page and of this block
  module _ (m : ℕ) where
    abbrev own : Assigned
    own = record { page = g; block = m }

    other_page : (c : Bool) (k : ℕ) (x : Page) → 0 < count_of fs k → a.page k ≡ Some x → block_of (cond c (own ∷ a.assigned) a.assigned) x ≡ block_of a.assigned x
    other_page false k x listed is = refl
    other_page true k x listed is = ap (λ (o : Option Assigned). option_map (λ (y : Assigned). y.block) o) (find_cons_no (is_assigned_to x) own a.assigned (apart k x listed is))

    other_block : (c : Bool) (n : ℕ) → m < n → count_by (is_owner (block.PageFile n)) (cond c (own ∷ a.assigned) a.assigned) ≡ count_by (is_owner (block.PageFile n)) a.assigned
    other_block false n behind = refl
    other_block true n behind = count_cons_no (is_owner (block.PageFile n)) own a.assigned (ne_eqb m n (λ at. omega (arith, at, behind)))

  assigned_now : (c : BlockId) → assigned_with a.assigned (a.page f) c ≡ assigned_with a.assigned (Some g) c
  assigned_now c = ap (λ (o : Option Page). assigned_with a.assigned o c) holds

  pub out_stays : (c : BlockId) → Stays a (after_any_out a f c) c fs
  out_stays (block.PageFile m) = record {
    page = λ k. refl;
    lies = λ x. refl;
    blocks = λ k x listed is. ap (λ (xs : List Assigned). block_of xs x) (assigned_now (block.PageFile m)) ∙ other_page m (nat_eq (count_by (is_assigned_to g) a.assigned) 0) k x listed is;
    owners = λ n behind. ap (λ (xs : List Assigned). count_by (is_owner (block.PageFile n)) xs) (assigned_now (block.PageFile m)) ∙ other_block m (nat_eq (count_by (is_assigned_to g) a.assigned) 0) n behind;
  }
  out_stays (block.Section s i) = record {
    page = λ k. refl;
    lies = λ x. refl;
    blocks = λ k x listed is. ap (λ (xs : List Assigned). block_of xs x) (assigned_now (block.Section s i));
    owners = λ n behind. ap (λ (xs : List Assigned). count_by (is_owner (block.PageFile n)) xs) (assigned_now (block.Section s i));
  }
  out_stays (block.Swap p i) = record { page = λ k. refl; lies = λ x. refl; blocks = λ k x listed is. refl; owners = λ n behind. refl }
