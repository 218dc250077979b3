-- One more byte, process, process's mappings, reference.
use Rattle.std.proofs.Common.{◌≡◌, ℕ, zero, suc, ◌+◌, ◌-◌, ◌/◌, ◌%◌, ◌<◌, List, [], ◌∷◌, ◌++◌, length, replicate, slice_set, refl, sym, ap, ◌∙◌, arith, add-one}
use Rattle.std.proofs.lemmas.List.{length-append}
use Rattle.vm_types.specs.declared.limits.TheConstants.{PAGE_BYTES}
use Rattle.vm_types.specs.declared.config.Origin.TheVariants as origin
use Rattle.trace_maker.specs.Draws.{after_six, task_from}
use Rattle.trace_maker.specs.Made.{pattern, made_process, made_procs, made_map, made_maps, state_after, made_body}

pub pattern_none : pattern 0 ≡ []
unfolding pattern
pattern_none = refl

pub pattern_more : (n : ℕ) → pattern (n + 1) ≡ pattern n ++ ((n / PAGE_BYTES + n % PAGE_BYTES) % 256) ∷ []
unfolding pattern
pattern_more n = rw add-one refl

pub pattern_long : (n : ℕ) → length (pattern n) ≡ n
unfolding pattern
pattern_long zero = refl
pattern_long (suc n) = length-append (pattern n) (((n / PAGE_BYTES + n % PAGE_BYTES) % 256) ∷ []) ∙ omega (arith, pattern_long n)

set_next : (xs ys : List ℕ) (y x : ℕ) → slice_set (xs ++ y ∷ ys) (length xs) x ≡ (xs ++ x ∷ []) ++ ys
set_next [] ys y x = refl
set_next (z ∷ xs) ys y x = ap (λ zs. z ∷ zs) (set_next xs ys y x)

zeros_left : (m n : ℕ) → n < m → replicate {A = ℕ} (m - n) 0 ≡ 0 ∷ replicate (m - (n + 1)) 0
zeros_left m n less = let left : m - n ≡ suc (m - (n + 1)) = omega (arith, less) in ap (λ k. replicate {A = ℕ} k 0) left

-- the next byte in the place of the first zero
pub pattern_set : (m n : ℕ) → n < m → slice_set (pattern n ++ replicate (m - n) 0) n ((n / PAGE_BYTES + n % PAGE_BYTES) % 256) ≡ pattern (n + 1) ++ replicate (m - (n + 1)) 0
pattern_set m n less =
    let x = (n / PAGE_BYTES + n % PAGE_BYTES) % 256 in
    ap (λ ys. slice_set (pattern n ++ ys) n x) (zeros_left m n less)
    ∙ ap (λ k. slice_set (pattern n ++ 0 ∷ replicate (m - (n + 1)) 0) k x) (sym (pattern_long n))
    ∙ set_next (pattern n) (replicate (m - (n + 1)) 0) 0 x
    ∙ ap (λ ys. ys ++ replicate (m - (n + 1)) 0) (sym (pattern_more n))

-- no byte yet
pub pattern_start : (m : ℕ) → replicate {A = ℕ} m 0 ≡ pattern 0 ++ replicate (m - 0) 0
pattern_start m =
    let all : m ≡ m - 0 = omega arith in
    ap (λ k. replicate {A = ℕ} k 0) all ∙ ap (λ xs. xs ++ replicate (m - 0) 0) (sym pattern_none)

pub procs_none : made_procs 0 ≡ []
unfolding made_procs
procs_none = refl

pub procs_more : (n : ℕ) → made_procs (n + 1) ≡ made_procs n ++ made_process ∷ []
unfolding made_procs
procs_more n = rw add-one refl

pub maps_none : made_maps 0 ≡ []
unfolding made_maps
maps_none = refl

pub maps_more : (p : ℕ) → made_maps (p + 1) ≡ (((made_maps p ++ made_map p 0 256 origin.Zero ∷ []) ++ made_map p 0x40000 256 (origin.Section (record { 0 = 0 }) 0) ∷ []) ++ made_map p 0x80000 64 (origin.Section (record { 0 = 1 }) 0) ∷ []) ++ made_map p 0x7fffc000 32 origin.Zero ∷ []
unfolding made_maps
maps_more p = rw add-one refl

pub state_none : (seed : ℕ) → state_after seed 0 ≡ seed
unfolding state_after
state_none seed = refl

pub state_more : (seed n : ℕ) → state_after seed (n + 1) ≡ after_six (state_after seed n)
unfolding state_after
state_more seed n = rw add-one refl

pub body_none : (seed procs : ℕ) → made_body seed procs 0 ≡ []
unfolding made_body
body_none seed procs = refl

pub body_more : (seed procs n : ℕ) → made_body seed procs (n + 1) ≡ made_body seed procs n ++ task_from (state_after seed n) procs ∷ []
unfolding made_body
body_more seed procs n = rw add-one refl
