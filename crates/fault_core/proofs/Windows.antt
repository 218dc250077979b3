-- The places that a read cluster may reach, and which of them are out.
use Rattle.std.proofs.Common.{◌≡◌, ◌⊎◌, inl, inr, ℕ, zero, suc, ◌+◌, ◌-◌, ◌^◌, ◌<◌, ◌≤◌, ◌&&◌, Bool, true, false, cond, List, [], ◌∷◌, ◌++◌, Option, Some, length, map, nat_lt, slice_get, slice_index_or, refl, sym, ap, ◌∙◌, subst, arith}
use Rattle.std.proofs.lemmas.Bool.{false≢true, ltb-false, ltb-true}
use Rattle.std.specs.List.{range_with_len}
use Rattle.std.proofs.lemmas.List.FromFn.{get_or-map-range_with_len, length-map-range_with_len, map-range_with_len_more}
use Rattle.std.proofs.lemmas.List.Sums.{get_or-le-sum_by}
use Rattle.std.proofs.lemmas.Option.{get_or_from_slice_get, slice_get_within}
use Rattle.vm_types.specs.Cluster.{ClusterLength}
use Rattle.vm_types.specs.Configuration.{IsBlock, IsProcess, IsSectionPage, IsWellFormed, all_pins, section_pages}
use Rattle.vm_types.specs.declared.config.Config.{Config}
use Rattle.vm_types.specs.declared.names.BlockId.{BlockId}
use Rattle.vm_types.specs.declared.names.BlockId.TheVariants as block
use Rattle.vm_types.specs.declared.names.Page.{Page}
use Rattle.vm_types.specs.declared.names.Page.TheVariants.{Private, Shared}
use Rattle.pager_policy.specs.Advance.{following, is_out, window}
use Rattle.pager_model.specs.Charging.{is_uncharged}
use Rattle.vm_types.specs.Adjust.{greater, lesser}
use Rattle.pager_model.specs.ClusterLength.{cluster_length, leading_out}
use Rattle.pager_model.specs.Pager.{Pager}
use Rattle.vm_state.specs.PageReadings.{IsKnown}
use Rattle.fault_core.specs.Reads.{IsWindow, block_place, page_place, reach_of}
use Rattle.fault_core.proofs.ClusterLengths.{cluster_is}

-- a reach is 1 to 8 places
pub reach_some : (config : Config) (a : Pager) (g : Page) → IsWellFormed config → 1 ≤ reach_of config a g
reach_some config a g formed = by (is_uncharged config a g)
  where
    by : (c : Bool) → 1 ≤ cond c 1 config.params.pfc
    by true = omega arith
    by false = formed.params.pfc.0

pub reach_few : (config : Config) (a : Pager) (g : Page) → IsWellFormed config → reach_of config a g ≤ 8
reach_few config a g formed = by (is_uncharged config a g)
  where
    by : (c : Bool) → cond c 1 config.params.pfc ≤ 8
    by true = omega arith
    by false = formed.params.pfc.1

-- places are small
in_section : (config : Config) (s i : ℕ) → IsWellFormed config → IsSectionPage config.sections s i → i < 2 ^ 15
in_section config s i formed page =
    let part = get_or-le-sum_by section_pages config.sections s page.0 (slice_get_within config.sections s page.0 page.1) in
    let same = ap section_pages (get_or_from_slice_get config.sections s page.0 page.0 page.1) in
    let few = formed.sections.pages in
    let less = page.2 in
    omega (arith, part, same, few, less)

pub page_small : (config : Config) (g : Page) → IsWellFormed config → IsKnown config g → page_place g < 2 ^ 15
page_small config (Private p v) formed known = omega arith
page_small config (Shared s i) formed known = in_section config s.0 i formed known

pub block_small : (config : Config) (b : BlockId) → IsWellFormed config → IsBlock config b → block_place b < 2 ^ 15
block_small config (block.Section s i) formed exists = in_section config s.0 i formed exists.0
block_small config (block.PageFile n) formed exists = let few = formed.pagefile.1 in omega (arith, few, exists)
block_small config (block.Swap p n) formed exists =
    let process = subst (IsProcess config.frames (length config.bad + all_pins config)) (get_or_from_slice_get config.procs p.0 exists.0 exists.0 exists.1) (formed.procs p.0 exists.0 (slice_get_within config.procs p.0 exists.0 exists.1)) in
    let most = process.limited.most in let less = exists.2 in omega (arith, most, less)

pub length_as : (out out' : List Bool) (pfc pfc' free free' n : ℕ) → out' ≡ out → pfc' ≡ pfc → free' ≡ free → ClusterLength out' pfc' free' n → ClusterLength out pfc free n
length_as out out' pfc pfc' free free' n same_out same_pfc same_free is =
    subst (λ (xs : List Bool). ClusterLength xs pfc free n) same_out (subst (λ (k : ℕ). ClusterLength out' k free n) same_pfc (subst (λ (k : ℕ). ClusterLength out' pfc' k n) same_free is))

-- ---- the leading places
stops : (c : Bool) (xs ys : List Bool) → c ≡ false → leading_out (c ∷ xs) ≡ leading_out (c ∷ ys)
stops true xs ys is = absurd (false≢true (sym is))
stops false xs ys is = refl

leading_stops : (f : ℕ → Bool) (s k m e : ℕ) → k < m → e ≡ s + k → f e ≡ false → leading_out (map f (range_with_len s (suc k))) ≡ leading_out (map f (range_with_len s m))
leading_stops f s k zero e less at is = absurd (omega (arith, less))
leading_stops f s zero (suc m) e less at is = let same : s ≡ e = omega (arith, at) in stops (f s) [] (map f (range_with_len (s + 1) m)) (ap f same ∙ is)
leading_stops f s (suc k) (suc m) e less at is = ap (λ (n : ℕ). cond (f s) (n + 1) 0) (leading_stops f (s + 1) k m e (omega (arith, less)) (omega (arith, at)) is)

-- ---- the windows, one place after another
module _ (config : Config) (a : Pager) (g : Page) (b : BlockId) where
  abbrev pub page_at : ℕ → Option Page
  page_at = following config a g b

  abbrev pub out_at : ℕ → Bool
  out_at places = is_out config a (following config a g b places)

  -- the pages of the places before this one, and which of them are out
  pub record AreLooked (pages : List (Option Page)) (out : List Bool) (places : ℕ) : Type 0 where
    pub each : pages ≡ Some g ∷ map page_at (range_with_len 1 (places - 1))
    pub outs : out ≡ true ∷ map out_at (range_with_len 1 (places - 1))

  pub none_looked : (pages : List (Option Page)) (out : List Bool) → pages ≡ Some g ∷ [] → out ≡ true ∷ [] → AreLooked pages out 1
  none_looked pages out first here = record { each = first; outs = here }

  one_looked : {X : Type 0} (f : ℕ → X) (x : X) (places : ℕ) → 1 ≤ places → (x ∷ map f (range_with_len 1 (places - 1))) ++ f places ∷ [] ≡ x ∷ map f (range_with_len 1 (places + 1 - 1))
  one_looked f x places some =
      let more : places + 1 - 1 ≡ places - 1 + 1 = omega (arith, some) in
      ap (λ xs. x ∷ xs) (sym (map-range_with_len_more f 1 (places - 1) places (omega (arith, some))) ∙ ap (λ (n : ℕ). map f (range_with_len 1 n)) (sym more))

  pub looked_next : (pages pages' : List (Option Page)) (out out' : List Bool) (places : ℕ) (o : Option Page) (c : Bool) → 1 ≤ places → AreLooked pages out places → o ≡ page_at places → c ≡ is_out config a o
      → pages' ≡ pages ++ o ∷ [] → out' ≡ out ++ c ∷ [] → AreLooked pages' out' (places + 1)
  looked_next pages pages' out out' places o c some looked page is pages_then out_then = record {
    each = pages_then ∙ ((λ i. looked.each i ++ page i ∷ []) ∙ one_looked page_at (Some g) places some);
    outs = out_then ∙ ((λ i. looked.outs i ++ (is ∙ ap (is_out config a) page) i ∷ []) ∙ one_looked out_at true places some);
  }

  pub pages_count : (pages : List (Option Page)) (out : List Bool) (places : ℕ) → 1 ≤ places → AreLooked pages out places → length pages ≡ places
  pages_count pages out places some looked = let count = ap (λ xs. length xs) looked.each in let many = length-map-range_with_len page_at 1 (places - 1) in omega (arith, count, many, some)

  pub out_count : (pages : List (Option Page)) (out : List Bool) (places : ℕ) → 1 ≤ places → AreLooked pages out places → length out ≡ places
  out_count pages out places some looked = let count = ap (λ xs. length xs) looked.outs in let many = length-map-range_with_len out_at 1 (places - 1) in omega (arith, count, many, some)

  -- the places before this one were looked at, and it goes on unless the last page wasn't out or no place is left
  pub record IsLooking (pages : List (Option Page)) (out : List Bool) (places : ℕ) (more : Bool) : Type 0 where
    pub looked : AreLooked pages out places
    pub some : 1 ≤ places
    pub within : places ≤ reach_of config a g
    pub goes : more ≡ true → places < reach_of config a g
    pub ends : more ≡ false → places ≡ reach_of config a g ⊎ (2 ≤ places) × (out_at (places - 1) ≡ false)

  pub first_looking : (pages : List (Option Page)) (out : List Bool) (more : Bool) → IsWellFormed config → pages ≡ Some g ∷ [] → out ≡ true ∷ [] → more ≡ (true && nat_lt 1 (reach_of config a g)) → IsLooking pages out 1 more
  first_looking pages out more formed first here is = record {
    looked = none_looked pages out first here;
    some = omega arith;
    within = reach_some config a g formed;
    goes = λ on. ltb-true 1 (reach_of config a g) (sym is ∙ on);
    ends = λ off. inl (let most = ltb-false 1 (reach_of config a g) (sym is ∙ off) in let least = reach_some config a g formed in omega (arith, most, least));
  }

  pub next_looking : (pages pages' : List (Option Page)) (out out' : List Bool) (places : ℕ) (more more' c : Bool) (o : Option Page) → IsLooking pages out places more → more ≡ true → o ≡ page_at places → c ≡ is_out config a o
      → pages' ≡ pages ++ o ∷ [] → out' ≡ out ++ c ∷ [] → more' ≡ (c && nat_lt (places + 1) (reach_of config a g)) → IsLooking pages' out' (places + 1) more'
  next_looking pages pages' out out' places more more' c o looking on page is pages_then out_then then = record {
    looked = looked_next pages pages' out out' places o c looking.some looking.looked page is pages_then out_then;
    some = omega arith;
    within = let less = looking.goes on in omega (arith, less);
    goes = λ onward. goes_by c (sym then ∙ onward);
    ends = λ off. ends_by c refl (sym then ∙ off);
  }
    where
      goes_by : (d : Bool) → (d && nat_lt (places + 1) (reach_of config a g)) ≡ true → places + 1 < reach_of config a g
      goes_by true both = ltb-true (places + 1) (reach_of config a g) both
      goes_by false both = absurd (false≢true both)

      ends_by : (d : Bool) → c ≡ d → (d && nat_lt (places + 1) (reach_of config a g)) ≡ false → places + 1 ≡ reach_of config a g ⊎ (2 ≤ places + 1) × (out_at (places + 1 - 1) ≡ false)
      ends_by true was not_both = inl (let most = ltb-false (places + 1) (reach_of config a g) not_both in let less = looking.goes on in omega (arith, most, less))
      ends_by false was not_both =
          let some = looking.some in
          let back : places + 1 - 1 ≡ places = omega arith in
          inr (omega (arith, some), ap out_at back ∙ (sym (is ∙ ap (is_out config a) page) ∙ was))

  pub is_window : (pages : List (Option Page)) (out : List Bool) (places : ℕ) (more : Bool) → IsWellFormed config → IsLooking pages out places more → IsWindow config a g b pages
  is_window pages out places more formed looking =
      let count = pages_count pages out places looking.some looking.looked in
      record {
        each = looking.looked.each ∙ ap (λ (n : ℕ). Some g ∷ map page_at (range_with_len 1 (n - 1))) (sym count);
        within = let most = looking.within in omega (arith, count, most);
        few = reach_few config a g formed;
      }

  window_is : true ∷ map out_at (range_with_len 1 (reach_of config a g - 1)) ≡ window config a g b
  window_is = by (is_uncharged config a g)
    where
      by : (c : Bool) → true ∷ map out_at (range_with_len 1 (cond c 1 config.params.pfc - 1)) ≡ cond c (true ∷ []) (true ∷ map out_at (range_with_len 1 (config.params.pfc - 1)))
      by true = refl
      by false = refl

  -- what is behind a page that isn't out doesn't count
  window_front : (places : ℕ) → 2 ≤ places → places ≤ reach_of config a g → out_at (places - 1) ≡ false
      → leading_out (true ∷ map out_at (range_with_len 1 (places - 1))) ≡ leading_out (true ∷ map out_at (range_with_len 1 (reach_of config a g - 1)))
  window_front places two within stop =
      let more : places - 1 ≡ suc (places - 2) = omega (arith, two) in
      ap (λ (n : ℕ). leading_out (true ∷ map out_at (range_with_len 1 n))) more
      ∙ ap (λ (n : ℕ). n + 1) (leading_stops out_at 1 (places - 2) (reach_of config a g - 1) (places - 1) (omega (arith, two, within)) (omega (arith, two)) stop)

  out_is : (pages : List (Option Page)) (out : List Bool) (places : ℕ) → IsLooking pages out places false → leading_out out ≡ leading_out (window config a g b)
  out_is pages out places looking = by (looking.ends refl)
    where
      by : places ≡ reach_of config a g ⊎ (2 ≤ places) × (out_at (places - 1) ≡ false) → leading_out out ≡ leading_out (window config a g b)
      by (inl end) = ap leading_out (looking.looked.outs ∙ (ap (λ (n : ℕ). true ∷ map out_at (range_with_len 1 (n - 1))) end ∙ window_is))
      by (inr stop) = ap leading_out looking.looked.outs ∙ (window_front places stop.0 looking.within stop.1 ∙ ap leading_out window_is)

  pub length_is : (pages : List (Option Page)) (out : List Bool) (places free n : ℕ) (more : Bool) → IsLooking pages out places more → more ≡ false → ClusterLength out config.params.pfc free n
      → n ≡ cluster_length (window config a g b) config.params.pfc free
  length_is pages out places free n more looking off is =
      cluster_is out config.params.pfc free n is
      ∙ ap (λ (k : ℕ). lesser (lesser k config.params.pfc) (greater 1 (free - 1))) (out_is pages out places (subst (IsLooking pages out places) off looking))

  pub first_out : (pages : List (Option Page)) (out : List Bool) (places : ℕ) → AreLooked pages out places → slice_get out 0 ≡ Some true
  first_out pages out places looked = ap (λ (xs : List Bool). slice_get xs 0) looked.outs

  -- a page of the window
  behind_first : {X : Type 0} (x : X) (xs : List X) (k : ℕ) (d : X) → 1 ≤ k → slice_index_or (x ∷ xs) k d ≡ slice_index_or xs (k - 1) d
  behind_first x xs zero d some = absurd (omega (arith, some))
  behind_first x xs (suc k) d some = let back : k ≡ suc k - 1 = omega arith in ap (λ (n : ℕ). slice_index_or xs n d) back

  pub page_there : (xs pages : List (Option Page)) (k n : ℕ) (d o : Option Page) → xs ≡ pages → slice_index_or xs k d ≡ o → IsWindow config a g b pages → 1 ≤ k → k < n → n ≤ length pages → o ≡ page_at k
  page_there xs pages k n d o same at is some less most =
      sym at ∙ (ap (λ (ys : List (Option Page)). slice_index_or ys k d) (same ∙ is.each)
      ∙ (behind_first (Some g) (map page_at (range_with_len 1 (length pages - 1))) k d some
      ∙ get_or-map-range_with_len page_at 1 (length pages - 1) (k - 1) k d (omega (arith, some, less, most)) (omega (arith, some))))
