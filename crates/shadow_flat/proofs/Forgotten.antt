-- Private pages of a range are forgotten.
use Rattle.std.proofs.Common.{◌≡◌, inl, inr, ℕ, ◌+◌, ◌&&◌, ◌||◌, not, Bool, true, false, cond, List, Option, None, filter, refl, sym, ap, ◌∙◌, arith}
use Rattle.std.specs.Prelude.{is_some, nat_eq, nat_le, nat_lt}
use Rattle.std.proofs.lemmas.Bool.{true≢false}
use Rattle.std.proofs.lemmas.Bool.Decides.{eqb_tells, nat_tests}
use Rattle.std.proofs.lemmas.Map.Views.{any-filter_same}
use Rattle.vm_types.specs.Same.{same_page}
use Rattle.vm_types.specs.declared.names.Page.{Page}
use Rattle.vm_types.specs.declared.names.Proc.{Proc}
use Rattle.vm_types.specs.declared.names.Page.TheVariants.{Private, Shared}
use Rattle.vm_types.specs.declared.config.Config.{Config}
use Rattle.pager_model.specs.Flat.{FlatState, is_untouched, shared_bytes}
use Rattle.pager_model.specs.FlatService.{is_private_in}
use Rattle.pager_model.specs.Maps.{Map, is_paged, page_number}
use Rattle.pager_model.specs.Sets.{at_page, has_page}
use Rattle.pager_rules.proofs.Basics.{pages_equal}
use Rattle.shadow_flat.specs.Kept.{KeepsFlat}
use Rattle.shadow_flat.specs.Slots.{bytes_or}

module _ (config : Config) (state : FlatState) (old new : Page → Option (List ℕ)) (p address pages : ℕ) (h : KeepsFlat config state old)
    (is : (page : Page) → new page ≡ cond (is_private_in p address pages page) None (old page)) where
  abbrev stays : Page → Bool
  stays page = not (is_private_in p address pages page)

  touched_after : (q : Page) → has_page (filter stays state.touched) q ≡ (stays q && has_page state.touched q)
  touched_after q = any-filter_same (same_page q) stays (stays q) (λ page same. ap stays (sym (pages_equal q page same))) state.touched

  and_no : (b : Bool) → false ≡ (b && false)
  and_no true = refl
  and_no false = refl

  own_page : (q : Page) → is_private_in p address pages q ≡ true → is_paged config q ≡ true
  own_page (Private r v) own = refl
  own_page (Shared s i) own = absurd (true≢false (sym own))

  abbrev forgotten : Map → FlatState
  forgotten map = record { map = map; touched = filter stays state.touched; stored = state.stored }

  touched_is : (q : Page) → has_page (filter stays state.touched) q ≡ (is_paged config q && is_some (new q))
  touched_is q = touched_after q ∙ (go (is_private_in p address pages q) refl ∙ ap (λ (o : Option (List ℕ)). is_paged config q && is_some o) (sym (is q)))
    where
      go : (b : Bool) → is_private_in p address pages q ≡ b → (not (is_private_in p address pages q) && has_page state.touched q) ≡ (is_paged config q && is_some (cond (is_private_in p address pages q) None (old q)))
      go true own = rw own (and_no (is_paged config q))
      go false other = rw other (h.touched q)

  stored_is : (map : Map) (q : Page) → is_untouched config (forgotten map) q ≡ false → state.stored q ≡ bytes_or (shared_bytes config q) (new q)
  stored_is map q u = go (is_private_in p address pages q) refl
    where
      now : (b : Bool) → is_private_in p address pages q ≡ b → (is_paged config q && not (not b && has_page state.touched q)) ≡ false
      now b own = ap (λ (c : Bool). is_paged config q && not (not c && has_page state.touched q)) (sym own) ∙ (ap (λ (c : Bool). is_paged config q && not c) (sym (touched_after q)) ∙ u)

      go : (b : Bool) → is_private_in p address pages q ≡ b → state.stored q ≡ bytes_or (shared_bytes config q) (new q)
      go true own = absurd (true≢false (sym (ap (λ (c : Bool). c && true) (own_page q own)) ∙ now true own))
      go false other = h.stored q (now false other) ∙ ap (bytes_or (shared_bytes config q)) (sym (is q ∙ ap (λ (b : Bool). cond b None (old q)) other))

  pub kept_forgotten : (map : Map) → KeepsFlat config (forgotten map) new
  kept_forgotten map = record { touched = touched_is; stored = stored_is map }

-- ---- one page after another
-- none before the first
none_in : (first v : ℕ) → (nat_le first v && nat_lt v (first + 0)) ≡ false
none_in first v = grind (arith, nat_tests)

pub forgets_first : {X : Type 0} (p : Proc) (address : ℕ) (old : Page → Option X) (q : Page) → old q ≡ cond (is_private_in p.0 address 0 q) None (old q)
forgets_first {X} p address old (Shared s i) = refl
forgets_first {X} p address old (Private r v) = go (nat_eq p.0 r.0) (nat_le (page_number address) v && nat_lt v (page_number address + 0)) (none_in (page_number address) v)
  where
    go : (c d : Bool) → d ≡ false → old (Private r v) ≡ cond (c && d) None (old (Private r v))
    go c true is = absurd (true≢false is)
    go true false is = refl
    go false false is = refl

next_in : (first k v : ℕ) → (nat_le first v && nat_lt v (first + (k + 1))) ≡ (nat_eq (first + k) v || (nat_le first v && nat_lt v (first + k)))
next_in first k v =
    elim (eqb_tells (first + k) v) [
      | inl same ↦ grind (arith, nat_tests)
      | inr other ↦ grind (arith, nat_tests)
    ]

pub forgets_next : {X : Type 0} (p : Proc) (address k : ℕ) (old mid new : Page → Option X) → ((q : Page) → mid q ≡ cond (is_private_in p.0 address k q) None (old q)) → new ≡ at_page mid (Private p (page_number address + k)) None
    → (q : Page) → new q ≡ cond (is_private_in p.0 address (k + 1) q) None (old q)
forgets_next {X} p address k old mid new before is q = ap (λ f. f q) is ∙ by q
  where
    by : (q : Page) → at_page mid (Private p (page_number address + k)) None q ≡ cond (is_private_in p.0 address (k + 1) q) None (old q)
    by (Shared s i) = before (Shared s i)
    by (Private r v) = ap (λ (o : Option X). cond (nat_eq p.0 r.0 && nat_eq (page_number address + k) v) None o) (before (Private r v)) ∙ (go (nat_eq p.0 r.0) (nat_eq (page_number address + k) v) ∙ sym (ap (λ (c : Bool). cond (nat_eq p.0 r.0 && c) None (old (Private r v))) (next_in (page_number address) k v)))
      where
        go : (c d : Bool) → cond (c && d) None (cond (c && (nat_le (page_number address) v && nat_lt v (page_number address + k))) None (old (Private r v)))
            ≡ cond (c && (d || (nat_le (page_number address) v && nat_lt v (page_number address + k)))) None (old (Private r v))
        go true true = refl
        go true false = refl
        go false d = refl
