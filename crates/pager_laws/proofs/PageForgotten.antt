-- A page is forgotten, and its frame, if it has one, emptied.
use Rattle.pager_rules.proofs.Quiet.{none_failed}
use Rattle.std.proofs.Common.{◌≡◌, ◌⊎◌, ℕ, ◌+◌, ◌<◌, Bool, true, false, cond, not, List, [], ◌∷◌, Option, Some, None, filter, find, count_by, nat_eq, nat_le, refl, sym, ap, ◌∙◌, subst, inl, inr, arith}
use Rattle.std.specs.List.{AllByRecursion, range_with_len}
use Rattle.std.specs.Option.{option_map}
use Rattle.std.proofs.lemmas.Bool.{cases_eq, ne_eqb, or_parts, leb-false, true≢false, false≢true}
use Rattle.std.proofs.lemmas.List.Sums.{length-filter, count_by-le-length}
use Rattle.std.proofs.lemmas.Option.{none-some}
use Rattle.vm_types.specs.Same.{same_page}
use Rattle.vm_types.specs.declared.names.Page.{Page}
use Rattle.vm_types.specs.declared.names.BlockId.{BlockId}
use Rattle.vm_types.specs.declared.names.BlockId.TheVariants as block
use Rattle.vm_types.specs.declared.names.FrameState.{FrameState}
use Rattle.vm_types.specs.declared.names.FrameState.TheVariants as state
use Rattle.vm_types.specs.declared.config.Config.{Config}
use Rattle.page_lists.specs.Lists.{count_of, without}
use Rattle.pager_laws.proofs.OpeningKept.{in_range}
use Rattle.pager_model.specs.Around.{FrameView, frame_view, page_view, quiet}
use Rattle.pager_model.specs.Flights.{Flight}
use Rattle.pager_model.specs.Forget.{forgotten_in, holder, holds_page}
use Rattle.pager_model.specs.Lookups.{count_page, is_assigned_to, is_owner, shares}
use Rattle.pager_model.specs.Maps.{is_private, proc}
use Rattle.pager_model.specs.Pager.{Assigned, Pager, Valid}
use Rattle.pager_model.specs.Sets.{at_number, has}
use Rattle.pager_model.specs.Sound.{HasSwapped, IsSwapped, MayHoldSwapped}
use Rattle.pager_model.specs.Transfers.{reads_on, writes_on}
use Rattle.pager_rules.proofs.Basics.{at_number_other, at_number_same, count_cons, count_cons_no, count_cons_yes, count_from_no_find, find_cons_no, find_cons_yes, nat_eq_refl, pages_equal, same_from_equal, same_page_refl}
use Rattle.pager_rules.proofs.Frames.{at_state, from_state}
use Rattle.pager_rules.proofs.Lists.{all_step, count_filter_le, found_passes}
use Rattle.pager_rules.proofs.Put.{lies_other, lies_same, page_apart, without_other, without_same}
use Rattle.pager_rules.proofs.Transfers.{alike, flight_same, on_frame}
use Rattle.pager_rules.proofs.Views.{frames_move, pages_move}
use Rattle.pager_rules.specs.Kept.{FitsFlight, FitsFrame, FitsPage, HasUnsaved, HeldCharged, HeldOnce, IsForItsPage, IsKept, saves, views}

-- ---- lists without what passes q
pub dropped_own : {X : Type 0} (q : X → Bool) (xs : List X) → count_by q (filter (λ (y : X). not (q y)) xs) ≡ 0
dropped_own q [] = refl
dropped_own {X} q (x ∷ xs) = go (q x) refl (dropped_own q xs)
  where
    rest : List X
    rest = filter (λ (y : X). not (q y)) xs

    go : (c : Bool) → q x ≡ c → count_by q rest ≡ 0 → count_by q (cond (not c) (x ∷ rest) rest) ≡ 0
    go true is none = none
    go false is none = count_cons_no q x rest is ∙ none

pub dropped_other : {X : Type 0} (p q : X → Bool) → ((x : X) → q x ≡ true → p x ≡ false) → (xs : List X) → count_by p (filter (λ (y : X). not (q y)) xs) ≡ count_by p xs
dropped_other p q far [] = refl
dropped_other {X} p q far (x ∷ xs) = go (q x) refl (dropped_other p q far xs)
  where
    rest : List X
    rest = filter (λ (y : X). not (q y)) xs

    go : (c : Bool) → q x ≡ c → count_by p rest ≡ count_by p xs → count_by p (cond (not c) (x ∷ rest) rest) ≡ count_by p (x ∷ xs)
    go true is same = same ∙ sym (count_cons_no p x xs (far x is))
    go false is same = step (p x) refl
      where
        step : (d : Bool) → p x ≡ d → count_by p (x ∷ rest) ≡ count_by p (x ∷ xs)
        step true is_p = count_cons_yes p x rest is_p ∙ (ap (λ (n : ℕ). 1 + n) same ∙ sym (count_cons_yes p x xs is_p))
        step false other = count_cons_no p x rest other ∙ (same ∙ sym (count_cons_no p x xs other))

pub dropped_find : {X : Type 0} (p q : X → Bool) → ((x : X) → q x ≡ true → p x ≡ false) → (xs : List X) → find p (filter (λ (y : X). not (q y)) xs) ≡ find p xs
dropped_find p q far [] = refl
dropped_find {X} p q far (x ∷ xs) = go (q x) refl (dropped_find p q far xs)
  where
    rest : List X
    rest = filter (λ (y : X). not (q y)) xs

    go : (c : Bool) → q x ≡ c → find p rest ≡ find p xs → find p (cond (not c) (x ∷ rest) rest) ≡ find p (x ∷ xs)
    go true is same = same ∙ sym (find_cons_no p x xs (far x is))
    go false is same = step (p x) refl
      where
        step : (d : Bool) → p x ≡ d → find p (x ∷ rest) ≡ find p (x ∷ xs)
        step true is_p = find_cons_yes p x rest is_p ∙ sym (find_cons_yes p x xs is_p)
        step false other = find_cons_no p x rest other ∙ (same ∙ sym (find_cons_no p x xs other))

-- ---- the frame that holds the page
-- neither shared nor in flight
pub record IsIdlePage (page : ℕ → Option Page) (valid : List Valid) (flights : List Flight) (g : Page) : Type 0 where
  pub private : is_private g ≡ true
  pub unshared : (f : ℕ) → page f ≡ Some g → shares valid f ≡ 0
  pub still : (f : ℕ) → page f ≡ Some g → reads_on f flights + writes_on f flights ≡ 0

abbrev IsHolder : (ℕ → Option Page) → Page → Option ℕ → Type 0
IsHolder page g None = (f : ℕ) → page f ≡ Some g → ⊥
IsHolder page g (Some f) = page f ≡ Some g

not_bad : (x : FrameView) (g : Page) → x.page ≡ Some g → FitsFrame x → x.bad ≡ false
not_bad x g holds fits = go x.state refl
  where
    go : (s : FrameState) → x.state ≡ s → x.bad ≡ false
    go state.Bad e = absurd (none-some g (sym (at_state x state.Bad e fits).page ∙ holds))
    go other e = (at_state x other e fits).bad

holds_is : (g : Page) (o : Option Page) → holds_page g o ≡ true → o ≡ Some g
holds_is g None is = absurd (false≢true is)
holds_is g (Some h) is = ap Some (pages_equal h g is)

no_holder : (t : ℕ → Bool) (xs : List ℕ) (f : ℕ) → count_by t xs ≡ 0 → 0 < count_of xs f → t f ≡ true → ⊥
no_holder t [] f none some passes = omega arith
no_holder t (x ∷ xs) f none some passes = go (cases_eq x f) (no_holder t xs f)
  where
    go : (x ≡ f) ⊎ (x ≡ f → ⊥) → (count_by t xs ≡ 0 → 0 < count_of xs f → t f ≡ true → ⊥) → ⊥
    go (inl same) rest = omega (arith, count_cons_yes t x xs (ap t same ∙ passes))
    go (inr apart) rest = rest (omega (arith, count_cons t x xs)) (omega (arith, count_cons_no (λ (y : ℕ). nat_eq y f) x xs (ne_eqb x f apart))) passes

pub is_holder : (config : Config) (a : Pager) (flights : List Flight) (g : Page) → IsKept config (quiet flights) a → IsHolder a.page g (holder config a.page g)
is_holder config a flights g kept = go (holder config a.page g) refl
  where
    holds : ℕ → Bool
    holds f = holds_page g (a.page f)

    go : (o : Option ℕ) → find holds (range_with_len 0 config.frames) ≡ o → IsHolder a.page g o
    go (Some f) found = holds_is g (a.page f) (found_passes holds (range_with_len 0 config.frames) f found)
    go None none = λ f is.
        let within = leb-false config.frames f (or_parts (nat_le config.frames f) (has config.bad f) (not_bad (frame_view config (quiet flights) a f) g is (kept.frames f))).0 in
        no_holder holds (range_with_len 0 config.frames) f (count_from_no_find holds (range_with_len 0 config.frames) none) (omega (arith, in_range 0 config.frames f (omega arith) (omega arith))) (ap (holds_page g) is ∙ same_page_refl g)

-- what is left once the frame is emptied
pub record IsEmptied (config : Config) (flights : List Flight) (a b : Pager) (g : Page) : Type 0 where
  pub frames : (f : ℕ) → FitsFrame (frame_view config (quiet flights) b f)
  pub out : (f : ℕ) → b.page f ≡ Some g → ⊥
  pub held : (f : ℕ) (y : Page) → b.page f ≡ Some y → a.page f ≡ Some y
  pub there : (f : ℕ) (y : Page) → a.page f ≡ Some y → same_page y g ≡ false → frame_view config (quiet flights) b f ≡ frame_view config (quiet flights) a f

pub emptied : (config : Config) (flights : List Flight) (a : Pager) (g : Page) (o : Option ℕ) → IsKept config (quiet flights) a → IsIdlePage a.page a.valid flights g → IsHolder a.page g o
    → IsEmptied config flights a (forgotten_in a g o) g
emptied config flights a g None kept idle none = record { frames = kept.frames; out = none; held = λ f y is. is; there = λ f y is apart. refl }
emptied config flights a g (Some f) kept idle holds = record {
  frames = frames_move FitsFrame old now f there here kept.frames;
  out = λ h is. out h is (cases_eq f h);
  held = λ h y is. held h y is (cases_eq f h);
  there = λ h y is apart. there h (λ same. let one = ap a.page same ∙ is in let g_is : y ≡ g = cc in true≢false (sym (same_from_equal y g g_is) ∙ apart));
}
  where
    old : ℕ → FrameView
    old = frame_view config (quiet flights) a

    now : ℕ → FrameView
    now = frame_view config (quiet flights) (forgotten_in a g (Some f))

    here : FitsFrame (now f)
    here = from_state (now f) state.Free (at_number_same a.state f state.Free) (record {
      bad = not_bad (old f) g holds (kept.frames f);
      on_free = count_cons_yes (λ (other : ℕ). nat_eq other f) f (without a.free f) (nat_eq_refl f) ∙ ap (λ (n : ℕ). 1 + n) (without_same a.free f);
      on_modified = without_same a.modified f;
      shares = idle.unshared f holds;
      reads = omega (arith, idle.still f holds);
      writes = omega (arith, idle.still f holds);
      failed = refl;
      page = tt;
      mark = at_number_same a.modify f false;
    })

    there : (h : ℕ) → (f ≡ h → ⊥) → now h ≡ old h
    there h apart =
        let state_is = at_number_other a.state f state.Free h apart in
        let page_is = at_number_other a.page f None h apart in
        let modify_is = at_number_other a.modify f false h apart in
        let free_is = count_cons_no (λ (other : ℕ). nat_eq other h) f (without a.free f) (ne_eqb f h apart) ∙ without_other a.free f h apart in
        let modified_is = without_other a.modified f h apart in
        cc

    none : (h : ℕ) (y : Page) → f ≡ h → at_number a.page f None h ≡ Some y → ⊥
    none h y same is = none-some y (sym (subst (λ (j : ℕ). at_number a.page f None j ≡ None) same (at_number_same a.page f None)) ∙ is)

    out : (h : ℕ) → at_number a.page f None h ≡ Some g → (f ≡ h) ⊎ (f ≡ h → ⊥) → ⊥
    out h is (inl same) = none h g same is
    out h is (inr apart) = apart (kept.held_once f h g holds (sym (at_number_other a.page f None h apart) ∙ is))

    held : (h : ℕ) (y : Page) → at_number a.page f None h ≡ Some y → (f ≡ h) ⊎ (f ≡ h → ⊥) → a.page h ≡ Some y
    held h y is (inl same) = absurd (none h y same is)
    held h y is (inr apart) = sym (at_number_other a.page f None h apart) ∙ is

module _ (config : Config) (flights : List Flight) (a : Pager) (g : Page) (o : Option ℕ) (kept : IsKept config (quiet flights) a) (idle : IsIdlePage a.page a.valid flights g)
    (empty : IsEmptied config flights a (forgotten_in a g o) g) where
  abbrev b : Pager
  b = forgotten_in a g o

  -- ---- what is held afterwards isn't the page
  not_g : (f : ℕ) (y : Page) → b.page f ≡ Some y → same_page y g ≡ false
  not_g f y is = page_apart y g (λ same. empty.out f (is ∙ ap Some same))

  far : (y : Page) → same_page y g ≡ false → (x : Page) → same_page g x ≡ true → same_page y x ≡ false
  far y apart x is = subst (λ (z : Page). same_page y z ≡ false) (pages_equal g x is) apart

  page_there : (y : Page) → same_page y g ≡ false → page_view config b y ≡ page_view config a y
  page_there y apart =
      let charged_is = dropped_other (same_page y) (same_page g) (far y apart) a.charged in
      let touched_is = dropped_other (same_page y) (same_page g) (far y apart) a.touched in
      let blocks_is = dropped_other (is_assigned_to y) (is_assigned_to g) (λ x. far y apart x.page) a.assigned in
      let block_is = ap (option_map (λ (x : Assigned). x.block)) (dropped_find (is_assigned_to y) (is_assigned_to g) (λ x. far y apart x.page) a.assigned) in
      let lies_is = lies_other a.lies g y None apart in
      cc

  uncharged : count_page b.charged g ≡ 0
  uncharged = dropped_own (same_page g) a.charged

  lies_nowhere : b.lies g ≡ None
  lies_nowhere = lies_same a.lies g None

  page_here : FitsPage g (page_view config b g)
  page_here = record {
    paged = λ some. absurd (omega (arith, uncharged));
    charged = omega (arith, uncharged);
    touched = omega (arith, dropped_own (same_page g) a.touched);
    blocks = omega (arith, dropped_own (is_assigned_to g) a.assigned);
    mapped = λ some private. absurd (omega (arith, uncharged));
    lying = λ d paged lies. absurd (none-some d (sym lies_nowhere ∙ lies));
    in_file = λ n lies. absurd (none-some _ (sym lies_nowhere ∙ lies));
    not_in_section = λ s i private lies. none-some _ (sym lies_nowhere ∙ lies);
    shared = λ s i is file. absurd (false≢true (ap is_private (sym is) ∙ idle.private));
  }

  -- another page, where a fact rules this one out
  other : (y : Page) → (y ≡ g → ⊥) → same_page y g ≡ false
  other y apart = page_apart y g apart

  charged_apart : (y : Page) → 0 < count_page b.charged y → same_page y g ≡ false
  charged_apart y some = other y (λ same. let none = ap (count_page b.charged) same ∙ uncharged in omega arith)

  lies_apart : (y : Page) (d : BlockId) → b.lies y ≡ Some d → same_page y g ≡ false
  lies_apart y d lies = other y (λ same. none-some d (sym lies_nowhere ∙ (ap b.lies (sym same) ∙ lies)))

  valid : AllByRecursion (IsForItsPage config a.map b.page) a.valid
  valid = all_step (IsForItsPage config a.map a.page) (IsForItsPage config a.map b.page) a.valid
      (λ e counts is. (
        is.0,
        is.1,
        ap (λ (v : FrameView). v.page) (empty.there e.frame is.0 is.2 (other is.0 (λ same. omega (arith, counts (λ (y : Valid). nat_eq y.frame e.frame) (nat_eq_refl e.frame), idle.unshared e.frame (is.2 ∙ ap Some same))))) ∙ is.2,
      ))
      kept.valid

  held_once : HeldOnce b.page
  held_once f h y is also = kept.held_once f h y (empty.held f y is) (empty.held h y also)

  held_charged : HeldCharged config b.page b.charged
  held_charged f y private is = omega (arith, kept.held_charged f y private (empty.held f y is), dropped_other (same_page y) (same_page g) (far y (not_g f y is)) a.charged)

  unsaved : HasUnsaved config (quiet flights) b
  unsaved y some lies =
      let apart = charged_apart y some in
      let was = kept.unsaved y (omega (arith, dropped_other (same_page y) (same_page g) (far y apart) a.charged)) (sym (lies_other a.lies g y None apart) ∙ lies) in
      let same = empty.there was.0 y was.1 apart in
      (was.0, ap (λ (v : FrameView). v.page) same ∙ was.1, subst (λ (v : FrameView). saves v ≡ true) (sym same) was.2)

  swapped : HasSwapped b.lies a.status a.ring b.state b.page
  swapped y q n lies =
      let apart = lies_apart y (block.Swap (proc q) n) lies in
      let lay = sym (lies_other a.lies g y None apart) in
      let was : IsSwapped a.lies a.status a.ring a.state a.page y q n = kept.swapped y q n (lay ∙ lies) in
      record {
        own = was.own;
        away = was.away;
        alone = λ z same. let z_apart = lies_apart z (block.Swap (proc q) n) (same ∙ lies) in was.alone z (sym (lies_other a.lies g z None z_apart) ∙ (same ∙ sym lay));
        within = was.within;
        slot = was.slot;
        unpinned = was.unpinned;
        frame = λ f is. subst (λ (s : FrameState). MayHoldSwapped s (a.status q)) (sym (ap (λ (v : FrameView). v.state) (empty.there f y (empty.held f y is) apart))) (was.frame f (empty.held f y is));
      }

  transfers : AllByRecursion (FitsFlight (views config b)) flights
  transfers = all_step (FitsFlight (views config a)) (FitsFlight (views config b)) flights
      (λ x counts fits.
      let apart : (y : Page) → a.page x.frame ≡ Some y → same_page y g ≡ false = λ y is. other y (λ same. omega (arith, on_frame x flights counts x.frame refl, idle.still x.frame (is ∙ ap Some same))) in
      flight_same (views config a) b.page (page_view config b) x (ap (λ (v : FrameView). v.page) (empty.there x.frame fits.page fits.held (apart fits.page fits.held)))
      (λ y is. alike _ _ _ (page_there y (apart y is))) fits)
      kept.transfers

  pub page_forgotten : IsKept config (quiet flights) b
  page_forgotten = record {
    frames = empty.frames;
    processes = kept.processes;
    entries = kept.entries;
    valid = valid;
    pages = pages_move FitsPage (page_view config a) (page_view config b) g page_there page_here kept.pages;
    blocks = λ d. record { owners = omega (arith, count_filter_le (is_owner d) (λ (x : Assigned). not (is_assigned_to g x)) a.assigned, (kept.blocks d).owners); flights = (kept.blocks d).flights };
    fit = omega (arith, length-filter (λ (y : Page). not (same_page g y)) a.charged, count_by-le-length (λ (y : Page). not (same_page g y)) a.charged, kept.fit);
    held_once = held_once;
    held_charged = held_charged;
    unsaved = unsaved;
    swapped = swapped;
    coming_once = kept.coming_once;
    transfers = transfers;
    one_fault = kept.one_fault;
    failed = none_failed _ _;
  }
