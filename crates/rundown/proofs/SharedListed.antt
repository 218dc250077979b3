-- The walk over the modified list, from its head on: no frame that was passed holds a shared page.
use Rattle.std.proofs.Common.{◌≡◌, ℕ, zero, suc, ◌+◌, ◌<◌, ◌≤◌, ◌||◌, Bool, true, false, List, [], ◌∷◌, Option, Some, None, drop, length, nat_eq, nat_lt, slice_get, refl, sym, ap, ◌∙◌, arith}
use Rattle.std.specs.List.{list_any}
use Rattle.std.specs.Option.{option_map}
use Rattle.std.proofs.lemmas.Bool.{ltb-false, ltb-true}
use Rattle.std.proofs.lemmas.List.{drop_all, drop_more}
use Rattle.std.proofs.lemmas.Option.{get_or_from_slice_get, none-some, same_Some, slice_get-get_or, slice_get_within}
use Rattle.vm_types.specs.Configuration.{IsWellFormed}
use Rattle.vm_types.specs.declared.config.Config.{Config}
use Rattle.vm_types.specs.declared.names.FrameState.TheVariants as state
use Rattle.vm_types.specs.declared.names.Pfn.{Pfn}
use Rattle.vm_journal.specs.declared.entry.Entry.{Entry}
use Rattle.page_lists.specs.Lists.{count_of}
use Rattle.page_lists.specs.declared.list_name.ListName.TheVariants as name
use Rattle.pager_model.specs.Around.{frame_view, past_view}
use Rattle.pager_model.specs.Pager.{Pager}
use Rattle.pager_model.specs.Run.{IsRun, pager_after}
use Rattle.pager_policy.specs.Rundown.{holds_shared, is_shared_listed}
use Rattle.pager_rules.proofs.Basics.{count_cons, count_cons_yes, nat_eq_refl}
use Rattle.pager_rules.proofs.Frames.{modified_frame}
use Rattle.pager_rules.specs.Kept.{IsKept}
use Rattle.pager_laws.proofs.RunsAreSound.{run_kept}
use Rattle.pager_laws.proofs.Holders.{good_within}
use Rattle.vm_state.specs.ProcessReadings.{IsAfter}
use Rattle.vm_state.specs.Readings.{listed}
use Rattle.state_pages.specs.Shown.{frame_number}

-- a frame that stands in a list counts in it
counted : (xs : List ℕ) (n f : ℕ) → slice_get xs n ≡ Some f → 0 < count_of xs f
counted [] n f is = absurd (none-some f is)
counted (x ∷ xs) zero f is =
    let one = count_cons_yes (λ (y : ℕ). nat_eq y f) x xs (ap (λ (y : ℕ). nat_eq y f) (same_Some x f is) ∙ nat_eq_refl f) in
    omega (arith, one)
counted (x ∷ xs) (suc n) f is =
    let more = count_cons (λ (y : ℕ). nat_eq y f) x xs in
    let rest = counted xs n f is in
    omega (arith, more, rest)

-- a frame on the modified list is one of the configuration
pub listed_within : (config : Config) (past : List Entry) (n f : ℕ) → IsWellFormed config → IsRun config past → slice_get (pager_after config past).modified n ≡ Some f → f < config.frames
listed_within config past n f formed run is =
    good_within config (past_view past) now f state.Modified kept (modified_frame (frame_view config (past_view past) now f) (kept.frames f) (counted now.modified n f is)) refl
  where
    now : Pager
    now = pager_after config past

    kept : IsKept config (past_view past) now
    kept = run_kept config past formed run

module _ (a : Pager) where
  abbrev test : ℕ → Bool
  test f = holds_shared (a.page f)

  -- the walk stands at this place of the list, and no frame before it holds a shared page
  pub record IsLookedAt (n : ℕ) (at : Option Pfn) : Type 0 where
    pub here : option_map frame_number at ≡ slice_get a.modified n
    pub none : is_shared_listed a ≡ list_any test (drop n a.modified)

  pub from_head : (at : Option Pfn) → option_map frame_number at ≡ slice_get (listed a name.Modified) 0 → IsLookedAt 0 at
  from_head at is = record { here = is; none = refl }

  -- ---- at a frame
  module _ (n : ℕ) (at : Option Pfn) (f : Pfn) (looked : IsLookedAt n at) (found : at ≡ Some f) where
    pub frame_there : slice_get a.modified n ≡ Some f.0
    frame_there = sym looked.here ∙ ap (option_map frame_number) found

    rest_at : drop n a.modified ≡ f.0 ∷ drop (n + 1) a.modified
    rest_at =
        drop_more a.modified n f.0 (slice_get_within a.modified n f.0 frame_there)
        ∙ ap (λ (y : ℕ). y ∷ drop (n + 1) a.modified) (get_or_from_slice_get a.modified n f.0 f.0 frame_there)

    rest_by : (b : Bool) → holds_shared (a.page f.0) ≡ b → is_shared_listed a ≡ (b || list_any test (drop (n + 1) a.modified))
    rest_by b is = looked.none ∙ (ap (list_any test) rest_at ∙ ap (λ (x : Bool). x || list_any test (drop (n + 1) a.modified)) is)

    pub shared_found : holds_shared (a.page f.0) ≡ true → true ≡ is_shared_listed a
    shared_found is = sym (rest_by true is)

    pub one_further : (o : Option Pfn) → holds_shared (a.page f.0) ≡ false → IsAfter a f.0 (option_map frame_number o) → IsLookedAt (n + 1) o
    one_further o is next = record { here = next.after name.Modified n frame_there; none = rest_by false is }

  -- ---- past the last one
  pub none_left : (n : ℕ) (at : Option Pfn) → IsLookedAt n at → length a.modified ≤ n → false ≡ is_shared_listed a
  none_left n at looked past = sym (looked.none ∙ ap (list_any test) (drop_all n a.modified past))

  pub none_here : (n : ℕ) (at : Option Pfn) → IsLookedAt n at → at ≡ None → false ≡ is_shared_listed a
  none_here n at looked none = by (nat_lt n (length a.modified)) refl
    where
      nothing : None ≡ slice_get a.modified n
      nothing = sym (ap (option_map frame_number) none) ∙ looked.here

      by : (b : Bool) → nat_lt n (length a.modified) ≡ b → false ≡ is_shared_listed a
      by true less = absurd (none-some _ (nothing ∙ slice_get-get_or a.modified n 0 (ltb-true n (length a.modified) less)))
      by false least = none_left n at looked (ltb-false n (length a.modified) least)
