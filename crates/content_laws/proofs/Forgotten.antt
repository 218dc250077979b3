-- What forgetting pages leaves of frames and of the blocks in which pages lie.
use Rattle.std.proofs.Common.{◌≡◌, ◌⊎◌, ℕ, ◌||◌, Bool, true, false, cond, List, [], ◌∷◌, Option, Some, None, refl, sym, ap, ap₂, ◌∙◌, inl, inr}
use Rattle.std.specs.List.{AllByRecursion}
use Rattle.std.proofs.lemmas.Bool.{cases_eq, true≢false}
use Rattle.std.proofs.lemmas.Option.{none-some, same_Some}
use Rattle.vm_types.specs.Same.{same_page}
use Rattle.vm_types.specs.declared.names.Page.{Page}
use Rattle.vm_types.specs.declared.names.BlockId.{BlockId}
use Rattle.vm_types.specs.declared.names.FrameState.TheVariants as state
use Rattle.vm_types.specs.declared.config.Config.{Config}
use Rattle.content_laws.proofs.StepLeaves.{holder_holds}
use Rattle.pager_model.specs.Forget.{forget_all, forgotten, forgotten_in, holder}
use Rattle.pager_model.specs.Lookups.{is}
use Rattle.pager_model.specs.Pager.{Pager}
use Rattle.pager_model.specs.Sets.{at_number, has_page}
use Rattle.pager_rules.proofs.Basics.{at_number_other, at_number_same, each_weaker, same_from_equal}
use Rattle.pager_rules.proofs.Put.{page_apart}
use Rattle.pager_rules.proofs.TouchedPages.{at_number_field}

-- a frame that holds a page still is as it was, a page that isn't forgotten is held still, no read begins or ends,
-- and a page that lies somewhere still lay there and isn't forgotten
pub record IsForgotten (a b : Pager) (pages : List Page) : Type 0 where
  pub held : (f : ℕ) (y : Page) → b.page f ≡ Some y → (a.page f ≡ Some y) × (b.modify f ≡ a.modify f) × (b.state f ≡ a.state f)
  pub kept : (f : ℕ) (y : Page) → a.page f ≡ Some y → has_page pages y ≡ false → b.page f ≡ Some y
  pub reading : (f : ℕ) → is state.Reading (b.state f) ≡ is state.Reading (a.state f)
  pub lies : (y : Page) (d : BlockId) → b.lies y ≡ Some d → (a.lies y ≡ Some d) × (has_page pages y ≡ false)

abbrev pub IsUnread : Pager → Page → Type 0
IsUnread a g = (f : ℕ) → a.page f ≡ Some g → is state.Reading (a.state f) ≡ false

one_lies : (a : Pager) (g y : Page) (d : BlockId) → (s : Bool) → same_page g y ≡ s → cond s None (a.lies y) ≡ Some d → (a.lies y ≡ Some d) × (same_page g y ≡ false)
one_lies a g y d true is there = absurd (none-some d there)
one_lies a g y d false is there = (there, is)

other_way : (g y : Page) → same_page g y ≡ false → same_page y g ≡ false
other_way g y apart = page_apart y g (λ same. true≢false (sym (same_from_equal g y (sym same)) ∙ apart))

one_forgotten : (a : Pager) (g : Page) (o : Option ℕ) → ((f : ℕ) → o ≡ Some f → a.page f ≡ Some g) → IsUnread a g → IsForgotten a (forgotten_in a g o) (g ∷ [])
one_forgotten a g None holds unread = record {
  held = λ f y is. (is, refl, refl);
  kept = λ f y is other. is;
  reading = λ f. refl;
  lies = λ y d there. let now = one_lies a g y d (same_page g y) refl there in (now.0, ap (λ (s : Bool). s || false) (other_way g y now.1));
}
one_forgotten a g (Some h) holds unread = record {
  held = λ f y is. held f y is (cases_eq h f);
  kept = λ f y is other. kept f y is other (cases_eq h f);
  reading = at_number_field (is state.Reading) a.state h state.Free (sym (unread h (holds h refl)));
  lies = λ y d there. let now = one_lies a g y d (same_page g y) refl there in (now.0, ap (λ (s : Bool). s || false) (other_way g y now.1));
}
  where
    held : (f : ℕ) (y : Page) → at_number a.page h None f ≡ Some y → (h ≡ f) ⊎ (h ≡ f → ⊥) → (a.page f ≡ Some y) × (at_number a.modify h false f ≡ a.modify f) × (at_number a.state h state.Free f ≡ a.state f)
    held f y is (inl same) = absurd (none-some y (sym (at_number_same a.page h None) ∙ (ap (at_number a.page h None) same ∙ is)))
    held f y is (inr apart) = (sym (at_number_other a.page h None f apart) ∙ is, at_number_other a.modify h false f apart, at_number_other a.state h state.Free f apart)

    kept : (f : ℕ) (y : Page) → a.page f ≡ Some y → has_page (g ∷ []) y ≡ false → (h ≡ f) ⊎ (h ≡ f → ⊥) → at_number a.page h None f ≡ Some y
    kept f y is other (inl same) =
        let y_is : y ≡ g = same_Some _ _ (sym is ∙ (sym (ap a.page same) ∙ holds h refl)) in
        absurd (true≢false (sym (ap (λ (s : Bool). s || false) (same_from_equal y g y_is)) ∙ other))
    kept f y is other (inr apart) = at_number_other a.page h None f apart ∙ is

neither : (s t : Bool) → (s || t) ≡ false → (s ≡ false) × (t ≡ false)
neither true t is_false = absurd (true≢false is_false)
neither false t is_false = (refl, is_false)

then_forgotten : (a m b : Pager) (g : Page) (pages : List Page) → IsForgotten a m (g ∷ []) → IsForgotten m b pages → IsForgotten a b (g ∷ pages)
then_forgotten a m b g pages one rest = record {
  held = λ f y holds.
      let last = rest.held f y holds in
      let first = one.held f y last.0 in
      (first.0, last.1 ∙ first.1, last.2 ∙ first.2);
  kept = λ f y holds other. let parts = neither (same_page y g) (has_page pages y) other in rest.kept f y (one.kept f y holds (ap (λ (s : Bool). s || false) parts.0)) parts.1;
  reading = λ f. rest.reading f ∙ one.reading f;
  lies = λ y d there.
      let last = rest.lies y d there in
      let first = one.lies y d last.0 in
      (first.0, ap₂ (λ (s t : Bool). s || t) (neither (same_page y g) false first.1).0 last.1);
}

pub all_forgotten : (config : Config) (pages : List Page) (a : Pager) → AllByRecursion (IsUnread a) pages → IsForgotten a (forget_all config pages a) pages
all_forgotten config [] a unread = record { held = λ f y holds. (holds, refl, refl); kept = λ f y holds other. holds; reading = λ f. refl; lies = λ y d there. (there, refl) }
all_forgotten config (g ∷ pages) a unread =
    let one : IsForgotten a (forgotten config a g) (g ∷ []) = one_forgotten a g (holder config a.page g) (holder_holds config a.page g) unread.0 in
    then_forgotten a (forgotten config a g) (forget_all config pages (forgotten config a g)) g pages one
    (all_forgotten config pages (forgotten config a g) (each_weaker (IsUnread a) (IsUnread (forgotten config a g)) (λ y unread_y f holds. let was = one.held f y holds in ap (is state.Reading) was.2 ∙ unread_y f was.0) pages unread.1))
