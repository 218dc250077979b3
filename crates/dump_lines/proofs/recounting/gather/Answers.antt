use Rattle.std.proofs.Common.{◌≡◌, ℕ, ◌+◌, Bool, true, false, cond, nat_lt, List, [], ◌∷◌, ◌++◌, refl, zero-add, ap, sym, ◌∙◌}
use mir.Val.{bool_byte}
use Rattle.std.specs.Prelude.{slice_index}
use Rattle.std.proofs.lemmas.List.FromFn.{map-range_with_len_more}
use Rattle.dump_lines.specs.declared.counts.Counts.{Counts}
use Rattle.dump_lines.specs.Gathered.{counts_at}
use Rattle.dump_lines.proofs.recounting.gather.Goals as goal

one_or_none : (b : Bool) → bool_byte b ≡ cond {A = ℕ} b 1 0
one_or_none true = refl
one_or_none false = refl

pub loop-f-preserved : goal.loop-f-preserved
loop-f-preserved c =
    let f : ℕ = c.loop-f.f in
    let shares : List ℕ = c.args.shares.now in
    let uses : List ℕ = c.args.uses.now in
    let free : List ℕ = c.args.free.now in
    let modified : List ℕ = c.args.modified.now in
    let refs = ap (λ (n : ℕ). n + slice_index uses f) (c.from.ensures ∙ one_or_none (nat_lt 0 (slice_index shares f))) in
    let last : List Counts → List Counts = λ xs. xs ++ counts_at shares uses free modified f ∷ [] in
    c.in_ok-push.ensures.items
    ∙ (ap (λ (x : Counts). c.loop-f.counts.items ++ x ∷ []) (λ i. record { refs = refs i; shares = slice_index shares f; free = slice_index free f; modified = slice_index modified f })
    ∙ (ap last c.loop-f.invariant ∙ sym (map-range_with_len_more (counts_at shares uses free modified) 0 f f (zero-add f))))
