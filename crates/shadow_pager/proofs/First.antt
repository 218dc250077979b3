-- The tables that stand for a pager's state at first.
use Rattle.std.proofs.Common.{◌≡◌, ℕ, ◌+◌, ◌<◌, ◌≤◌, ◌||◌, Bool, true, false, cond, None, Some, List, ◌++◌, append-nil, [], ◌∷◌, Option, map, zero, suc, refl, sym, ap, ◌∙◌, inl, inr, ◌⊎◌, arith}
use Rattle.std.specs.Prelude.{filter, replicate, slice_get}
use Rattle.std.specs.List.{range_with_len}
use Rattle.std.proofs.Math.Path.{fun_ext}
use Rattle.std.proofs.lemmas.List.FromFn.{filter_of_map_range_with_len_more, get_or-map-range_with_len, length-map-range_with_len}
use Rattle.std.proofs.lemmas.Bool.{cases_lt, le-leb}
use Rattle.std.proofs.lemmas.List.{get_or_past}
use Rattle.vm_types.specs.declared.names.FrameState.TheVariants as state
use Rattle.vm_types.specs.declared.config.Config.{Config}
use Rattle.vm_types.specs.declared.config.ProcSpec.{ProcSpec}
use Rattle.pager_model.specs.Changes.{pushed_if}
use Rattle.pager_model.specs.Opening.{first_limit, first_ring, first_state, is_bad}
use Rattle.pager_model.specs.Sets.{has}
use Rattle.shadow_tables.specs.Rings.{empty_ring}
use Rattle.shadow_pager.specs.Shown.{Shown, at_or, no_ring}
use Rattle.pager_model.specs.Pager.{Pager}

pub all_shown : (s : Shown) (n m : ℕ) (a : Pager) → s.frames ≡ n → s.processes ≡ m → s.pager ≡ a → s ≡ record { frames = n; processes = m; pager = a }
all_shown s n m a frames processes pager = λ i. record { frames = frames i; processes = processes i; pager = pager i }

all_at : {X : Type 0} (d : X) (n m : ℕ) → at_or d (replicate n d) m ≡ d
all_at d zero m = refl
all_at d (suc n) zero = refl
all_at d (suc n) (suc m) = all_at d n m

pub all_same : {X : Type 0} (d : X) (n : ℕ) → at_or d (replicate n d) ≡ (λ m. d)
all_same d n = fun_ext (all_at d n)

-- what is made of each item, and of none past the last
made_at : {X Y : Type 0} (f : X → Y) (g : Option X → Y) (d : Y) → ((x : X) → g (Some x) ≡ f x) → g None ≡ d → (xs : List X) (n : ℕ) → at_or d (map f xs) n ≡ g (slice_get xs n)
made_at f g d some none [] n = sym none
made_at f g d some none (x ∷ xs) zero = sym (some x)
made_at f g d some none (x ∷ xs) (suc n) = made_at f g d some none xs n

pub first_rings : (procs : List ProcSpec) → at_or no_ring (map empty_ring procs) ≡ (λ p. first_ring (slice_get procs p))
first_rings procs = fun_ext (made_at empty_ring first_ring no_ring (λ x. refl) refl procs)

pub first_limits : (procs : List ProcSpec) → at_or 0 (map (λ (spec : ProcSpec). spec.limit) procs) ≡ (λ p. first_limit (slice_get procs p))
first_limits procs = fun_ext (made_at (λ (spec : ProcSpec). spec.limit) first_limit 0 (λ x. refl) refl procs)

pub first_states : (config : Config) → at_or state.Bad (map (λ f. first_state (is_bad config f)) (range_with_len 0 config.frames)) ≡ (λ f. first_state (is_bad config f))
first_states config = fun_ext (λ f. go f (cases_lt f config.frames))
  where
    go : (f : ℕ) → (f < config.frames) ⊎ (config.frames ≤ f) → at_or state.Bad (map (λ k. first_state (is_bad config k)) (range_with_len 0 config.frames)) f ≡ first_state (is_bad config f)
    go f (inl below) = get_or-map-range_with_len (λ k. first_state (is_bad config k)) 0 config.frames f f state.Bad below (omega arith)
    go f (inr past) =
        get_or_past (map (λ k. first_state (is_bad config k)) (range_with_len 0 config.frames)) f state.Bad (omega (arith, length-map-range_with_len (λ k. first_state (is_bad config k)) 0 config.frames))
        ∙ ap (λ (b : Bool). first_state (b || has config.bad f)) (sym (le-leb _ _ past))

pub map_same : (xs : List ℕ) → map (λ (k : ℕ). k) xs ≡ xs
map_same [] = refl
map_same (x ∷ xs) = ap (λ (ys : List ℕ). x ∷ ys) (map_same xs)

-- one more number
pub filter_more : (p : ℕ → Bool) (n : ℕ) → filter p (map (λ (k : ℕ). k) (range_with_len 0 (n + 1))) ≡ pushed_if (p n) (filter p (map (λ (k : ℕ). k) (range_with_len 0 n))) n
filter_more p n = filter_of_map_range_with_len_more p (λ (k : ℕ). k) 0 n n (omega arith) ∙ go (p n)
  where
    go : (b : Bool) → filter p (map (λ (k : ℕ). k) (range_with_len 0 n)) ++ cond b (n ∷ []) [] ≡ pushed_if b (filter p (map (λ (k : ℕ). k) (range_with_len 0 n))) n
    go true = refl
    go false = append-nil _
