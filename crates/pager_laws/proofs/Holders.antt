-- The frame that holds a page, and the frames of the free list.
use Rattle.std.proofs.Common.{◌≡◌, ◌⊎◌, inl, inr, ℕ, ◌+◌, ◌<◌, Bool, true, false, cond, not, List, [], ◌∷◌, Option, Some, None, nat_eq, nat_le, count_by, refl, sym, ap, ◌∙◌, subst, arith}
use Rattle.std.specs.Prelude.{◌&&◌, find, ◌||◌}
use Rattle.std.specs.List.{range_with_len}
use Rattle.std.proofs.lemmas.Bool.{and_from, eqb-true, false≢true, leb-false, or_parts, cases_eq, ne_eqb, eq-eqb}
use Rattle.std.proofs.lemmas.Option.{none-some}
use Rattle.vm_types.specs.Same.{same_page}
use Rattle.vm_types.specs.declared.config.Config.{Config}
use Rattle.vm_types.specs.declared.names.BlockId.{BlockId}
use Rattle.vm_types.specs.declared.names.FrameState.{FrameState}
use Rattle.vm_types.specs.declared.names.FrameState.TheVariants as state
use Rattle.vm_types.specs.declared.names.Page.{Page}
use Rattle.vm_journal.specs.declared.entry.Entry.{Entry}
use Rattle.pager_model.specs.Around.{FrameView, PastView, frame_view, past_view}
use Rattle.pager_model.specs.Flights.{Flight, open_flights}
use Rattle.pager_model.specs.Transfers.{reads_on, writes_on}
use Rattle.pager_model.specs.Forget.{holder, holds_page}
use Rattle.pager_model.specs.Lookups.{count_page, is, shares}
use Rattle.page_lists.specs.Lists.{count_of, without}
use Rattle.pager_model.specs.Pager.{Pager}
use Rattle.pager_model.specs.Sets.{at_number, has, has_page}
use Rattle.pager_laws.proofs.OpeningKept.{in_range}
use Rattle.pager_rules.proofs.Basics.{at_number_other, at_number_same, count_cons, count_cons_yes, count_cons_no, count_from_no_find, pages_equal, same_page_refl}
use Rattle.pager_rules.proofs.Frames.{at_state, free_frame}
use Rattle.pager_rules.proofs.Put.{free_row}
use Rattle.pager_rules.proofs.Lists.{found_passes}
use Rattle.pager_rules.specs.Kept.{FitsFrame, IsKept, one_if}

find_same : {X : Type 0} (s t : X → Bool) (xs : List X) → ((x : X) → s x ≡ t x) → find s xs ≡ find t xs
find_same s t [] same = refl
find_same s t (x ∷ xs) same = rw (same x, find_same s t xs same) refl

none_in : (t : ℕ → Bool) (xs : List ℕ) (f : ℕ) → count_by t xs ≡ 0 → 0 < count_of xs f → t f ≡ true → ⊥
none_in t [] f none some passes = omega arith
none_in t (x ∷ xs) f none some passes = go (cases_eq x f) (none_in t xs f)
  where
    go : (x ≡ f) ⊎ (x ≡ f → ⊥) → (count_by t xs ≡ 0 → 0 < count_of xs f → t f ≡ true → ⊥) → ⊥
    go (inl same) rest = omega (arith, count_cons_yes t x xs (ap t same ∙ passes))
    go (inr apart) rest = rest (omega (arith, count_cons t x xs)) (omega (arith, count_cons_no (λ (y : ℕ). nat_eq y f) x xs (ne_eqb x f apart))) passes

-- two states of which the same frames hold a page
pub holder_same : (config : Config) (page page' : ℕ → Option Page) (g : Page) → ((f : ℕ) → holds_page g (page' f) ≡ holds_page g (page f)) → holder config page' g ≡ holder config page g
holder_same config page page' g same = find_same (λ (f : ℕ). holds_page g (page' f)) (λ (f : ℕ). holds_page g (page f)) (range_with_len 0 config.frames) same

not_bad : (x : FrameView) (g : Page) → x.page ≡ Some g → FitsFrame x → x.bad ≡ false
not_bad x g holds fits = go x.state refl
  where
    go : (s : FrameState) → x.state ≡ s → x.bad ≡ false
    go state.Bad e = absurd (none-some g (sym (at_state x state.Bad e fits).page ∙ holds))
    go other e = (at_state x other e fits).bad

-- a frame that holds a page is one of the configuration
pub holds_within : (config : Config) (o : PastView) (a : Pager) (f : ℕ) (g : Page) → IsKept config o a → a.page f ≡ Some g → f < config.frames
holds_within config o a f g kept holds =
    let good = not_bad (frame_view config o a f) g holds (kept.frames f) in
    let past = leb-false config.frames f (or_parts (nat_le config.frames f) (has config.bad f) good).0 in
    omega (arith, past)

holds_it : (g : Page) (o : Option Page) → holds_page g o ≡ true → o ≡ Some g
holds_it g None is = absurd (false≢true is)
holds_it g (Some h) is = ap Some (pages_equal h g is)

pub holder_holds : (config : Config) (page : ℕ → Option Page) (g : Page) (f : ℕ) → holder config page g ≡ Some f → page f ≡ Some g
holder_holds config page g f found = holds_it g (page f) (found_passes (λ (h : ℕ). holds_page g (page h)) (range_with_len 0 config.frames) f found)

leads_to : (config : Config) (o : PastView) (a : Pager) (g : Page) (f : ℕ) (found : Option ℕ) → IsKept config o a → holder config a.page g ≡ found → a.page f ≡ Some g → found ≡ Some f
leads_to config o a g f (Some h) kept is holds = ap Some (kept.held_once h f g (holder_holds config a.page g h is) holds)
leads_to config o a g f None kept is holds =
    absurd (none_in (λ (h : ℕ). holds_page g (a.page h)) (range_with_len 0 config.frames) f (count_from_no_find (λ (h : ℕ). holds_page g (a.page h)) (range_with_len 0 config.frames) is)
    (let inside = in_range 0 config.frames f (omega arith) (let within = holds_within config o a f g kept holds in omega (arith, within)) in omega (arith, inside)) (ap (holds_page g) holds ∙ same_page_refl g))

-- a page that a frame holds
pub holder_there : (config : Config) (o : PastView) (a : Pager) (g : Page) (f : ℕ) → IsKept config o a → a.page f ≡ Some g → holder config a.page g ≡ Some f
holder_there config o a g f kept holds = leads_to config o a g f (holder config a.page g) kept refl holds

-- a page that none holds
pub holder_none : (config : Config) (page : ℕ → Option Page) (g : Page) → ((f : ℕ) → page f ≡ Some g → ⊥) → holder config page g ≡ None
holder_none config page g none = go (holder config page g) refl
  where
    go : (o : Option ℕ) → holder config page g ≡ o → o ≡ None
    go None is = refl
    go (Some f) is = absurd (none f (holder_holds config page g f is))

-- a frame that is another page's now, or no page's, changes nobody else's holder
pub holder_elsewhere : (config : Config) (page : ℕ → Option Page) (f : ℕ) (o : Option Page) (g : Page) → holds_page g (page f) ≡ false → holds_page g o ≡ false
    → holder config (at_number page f o) g ≡ holder config page g
holder_elsewhere config page f o g was now = holder_same config page (at_number page f o) g (λ h. each h (cases_eq f h))
  where
    each : (h : ℕ) → (f ≡ h) ⊎ (f ≡ h → ⊥) → holds_page g (at_number page f o h) ≡ holds_page g (page h)
    each h (inl same) = subst (λ (n : ℕ). holds_page g (at_number page f o n) ≡ holds_page g (page n)) same (ap (holds_page g) (at_number_same page f o) ∙ (now ∙ sym was))
    each h (inr apart) = ap (holds_page g) (at_number_other page f o h apart)

pub good_within : (config : Config) (o : PastView) (a : Pager) (f : ℕ) (s : FrameState) → IsKept config o a → a.state f ≡ s → is state.Bad s ≡ false → f < config.frames
good_within config o a f s kept at good =
    let bad = (kept.frames f).bad ∙ (ap (is state.Bad) at ∙ good) in
    let past = leb-false config.frames f (or_parts (nat_le config.frames f) (has config.bad f) bad).0 in
    omega (arith, past)

-- a frame on the free list is free, unshared and still
pub record IsFreeRow (config : Config) (a : Pager) (flights : List Flight) (f : ℕ) : Type 0 where
  pub within : f < config.frames
  pub state : a.state f ≡ state.Free
  pub modify : a.modify f ≡ false
  pub shares : shares a.valid f ≡ 0
  pub still : reads_on f flights + writes_on f flights ≡ 0

pub free_is : (config : Config) (past : List Entry) (a : Pager) (f : ℕ) → IsKept config (past_view past) a → 0 < count_of a.free f → IsFreeRow config a (open_flights past) f
free_is config past a f kept listed =
    let view = frame_view config (past_view past) a f in
    let at = free_frame view (kept.frames f) listed in
    let row = free_row view (kept.frames f) listed in
    let reads = row.reads in
    let writes = row.writes in
    record {
      within = good_within config (past_view past) a f state.Free kept at refl;
      state = at;
      modify = row.mark;
      shares = row.shares;
      still = omega (arith, reads, writes);
    }

pub no_block_lies : (o : Option BlockId) → ((b : BlockId) → o ≡ Some b → ⊥) → o ≡ None
no_block_lies None none = refl
no_block_lies (Some b) none = absurd (none b refl)

-- a list that hasn't a number is itself without it
pub without_absent : (xs : List ℕ) (f : ℕ) → count_of xs f ≡ 0 → without xs f ≡ xs
without_absent [] f none = refl
without_absent (x ∷ xs) f none = go (cases_eq x f) (without_absent xs f)
  where
    go : (x ≡ f) ⊎ (x ≡ f → ⊥) → (count_of xs f ≡ 0 → without xs f ≡ xs) → without (x ∷ xs) f ≡ x ∷ xs
    go (inl same) rest = let some = count_cons_yes (λ (y : ℕ). nat_eq y f) x xs (eq-eqb x f same) in absurd (omega (arith, some, none))
    go (inr apart) rest =
        ap (λ (b : Bool). cond (not b) (x ∷ without xs f) (without xs f)) (ne_eqb x f apart)
        ∙ ap (λ (ys : List ℕ). x ∷ ys) (rest (sym (count_cons_no (λ (y : ℕ). nat_eq y f) x xs (ne_eqb x f apart)) ∙ none))

-- a free frame isn't on the modified list
pub not_modified : (config : Config) (past : List Entry) (a : Pager) (f : ℕ) → IsKept config (past_view past) a → a.state f ≡ state.Free → count_of a.modified f ≡ 0
not_modified config past a f kept at = (kept.frames f).on_modified ∙ ap (λ (s : FrameState). one_if (is state.Modified s)) at

-- a page that a list counts no times isn't in it
pub none_listed : (pages : List Page) (g : Page) → count_page pages g ≡ 0 → has_page pages g ≡ false
none_listed [] g none = refl
none_listed (x ∷ pages) g none = go (same_page g x) refl (none_listed pages g)
  where
    go : (b : Bool) → same_page g x ≡ b → (count_page pages g ≡ 0 → has_page pages g ≡ false) → (same_page g x || has_page pages g) ≡ false
    go true e rest = let some = count_cons_yes (same_page g) x pages e in absurd (omega (arith, some, none))
    go false e rest = rw e (rest (sym (count_cons_no (same_page g) x pages e) ∙ none))

-- two private pages are apart if their processes or numbers are, in either order
pub and_apart : (p q v w : ℕ) → (nat_eq p q && nat_eq v w) ≡ false → (nat_eq q p && nat_eq w v) ≡ false
and_apart p q v w apart = go (nat_eq q p) (nat_eq w v) refl refl
  where
    go : (b c : Bool) → nat_eq q p ≡ b → nat_eq w v ≡ c → (nat_eq q p && nat_eq w v) ≡ false
    go false c e d = rw e refl
    go true false e d = rw (e, d) refl
    go true true e d = absurd (false≢true (sym apart ∙ and_from _ _ (eq-eqb p q (sym (eqb-true q p e))) (eq-eqb v w (sym (eqb-true w v d)))))
