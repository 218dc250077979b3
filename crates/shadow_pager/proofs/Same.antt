-- Equal pagers, and what a write to a table makes of the function that it stands for.
use Rattle.std.proofs.Common.{◌≡◌, ℕ, ◌<◌, Bool, cond, List, length, sym, ap, ◌∙◌, eq-eqb, inl, inr}
use Rattle.std.specs.Prelude.{◌⊎◌, ◌≢◌, slice_index_or, slice_set}
use Rattle.std.proofs.lemmas.Bool.{cases_eq, ne_eqb}
use Rattle.std.proofs.lemmas.List.{get_or-set_same, get_or-set_other, get_or_read}
use Rattle.std.proofs.Math.Path.{fun_ext}
use Rattle.pager_model.specs.Pager.{Pager}
use Rattle.pager_model.specs.Sets.{at_number}
use Rattle.shadow_pager.specs.Shown.{Shown, at_or, with_pager}

-- the same frames and processes, and the state that is meant
pub same_shown : (new old : Shown) (a : Pager) → new.frames ≡ old.frames → new.processes ≡ old.processes → new.pager ≡ a → new ≡ with_pager old a
same_shown new old a frames processes pager = λ i. record { frames = frames i; processes = processes i; pager = pager i }

pub same_pager : (a b : Pager) → a.state ≡ b.state → a.page ≡ b.page → a.modify ≡ b.modify → a.free ≡ b.free → a.modified ≡ b.modified
    → a.status ≡ b.status → a.ring ≡ b.ring → a.limit ≡ b.limit → a.references ≡ b.references → a.faults ≡ b.faults → a.collided ≡ b.collided
    → a.map ≡ b.map → a.valid ≡ b.valid → a.charged ≡ b.charged → a.touched ≡ b.touched → a.lies ≡ b.lies → a.assigned ≡ b.assigned → a ≡ b
same_pager a b state page modify free modified status ring limit references faults collided map valid charged touched lies assigned =
    λ i. record {
      state = state i;
      page = page i;
      modify = modify i;
      free = free i;
      modified = modified i;
      status = status i;
      ring = ring i;
      limit = limit i;
      references = references i;
      faults = faults i;
      collided = collided i;
      map = map i;
      valid = valid i;
      charged = charged i;
      touched = touched i;
      lies = lies i;
      assigned = assigned i;
    }

-- a write to an item that is there
pub written : {X : Type 0} (d : X) (xs : List X) (n : ℕ) (x : X) → n < length xs → at_or d (slice_set xs n x) ≡ at_number (at_or d xs) n x
written d xs n x h = fun_ext (λ m. go m (cases_eq n m))
  where
    go : (m : ℕ) → (n ≡ m) ⊎ (n ≢ m) → at_or d (slice_set xs n x) m ≡ at_number (at_or d xs) n x m
    go m (inl same) =
        ap (at_or d (slice_set xs n x)) (sym same) ∙ (get_or-set_same xs n x d h ∙ ap (λ (b : Bool). cond b x (at_or d xs m)) (sym (eq-eqb n m same)))
    go m (inr apart) =
        get_or-set_other xs n m x d (λ same. apart (sym same)) ∙ ap (λ (b : Bool). cond b x (at_or d xs m)) (sym (ne_eqb n m apart))

-- what is read at a place that is there
pub read_at : {X : Type 0} (d : X) (xs : List X) (n : ℕ) (x : X) → n < length xs → x ≡ slice_index_or xs n x → x ≡ at_or d xs n
read_at d xs n x h is = get_or_read xs n x h is d

-- a write of what is made of the item
pub changed : {X : Type 0} (d : X) (f : X → X) (xs : List X) (n : ℕ) (old new : X) → n < length xs → old ≡ slice_index_or xs n old → new ≡ f old
    → at_or d (slice_set xs n new) ≡ at_number (at_or d xs) n (f (at_or d xs n))
changed d f xs n old new h is made =
    written d xs n new h ∙ ap (at_number (at_or d xs) n) (made ∙ ap f (read_at d xs n old h is))
