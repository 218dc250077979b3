-- The flat reply and the next state of a reference, by the bytes that are kept of its page.
use Rattle.std.proofs.Common.{◌≡◌, ℕ, ◌&&◌, ◌||◌, not, Bool, true, false, cond, List, ◌∷◌, Option, Some, None, refl, sym, ap, ◌∙◌, subst}
use Rattle.std.specs.Prelude.{IfOk, OnOk, Result, MatchResult, Ok, Err, slice_get, is_some}
use Rattle.std.proofs.lemmas.Bool.{true≢false}
use Rattle.vm_types.specs.Same.{same_page}
use Rattle.vm_types.specs.declared.names.Page.{Page}
use Rattle.vm_types.specs.declared.names.Page.TheVariants.{Private, Shared}
use Rattle.vm_types.specs.declared.config.Config.{Config}
use Rattle.vm_types.specs.declared.config.Origin.{Origin}
use Rattle.vm_types.specs.declared.config.Origin.TheVariants as origin
use Rattle.vm_types.specs.declared.faults.NoMemory.{NoMemory}
use Rattle.vm_types.specs.declared.reference.Ref.{Ref}
use Rattle.vm_types.specs.declared.reply.Reply.{Reply}
use Rattle.vm_types.specs.declared.reply.Reply.TheVariants as reply
use Rattle.vm_types.specs.declared.reply.Why.{Why}
use Rattle.pager_model.specs.Flat.{FlatState, answered_at, bytes_after, flat_refusal, flat_start, flat_with, found_at, is_untouched, mapping_of, next_unless, offset_in_page, page_bytes, reply_from, reply_unless, shared_bytes, touched_with}
use Rattle.pager_model.specs.Maps.{Mapped, first_bytes, is_paged, page_behind, page_number, shared_of}
use Rattle.pager_model.specs.Pager.{Pager}
use Rattle.pager_model.specs.Sets.{at_page, has_page, with_page}
use Rattle.pager_rules.proofs.Basics.{has_page_first, pages_equal, same_from_equal}
use Rattle.shadow_flat.specs.Kept.{IsBeside, KeepsFlat, IsTold}
use Rattle.shadow_flat.specs.Slots.{bytes_or, found_in}

-- ---- the touched pages
touched_same : (config : Config) (touched : List Page) (page : Page) → is_paged config page ≡ true → has_page (touched_with config touched page) page ≡ true
touched_same config touched page private = ap (λ (b : Bool). has_page (cond b (with_page touched page) touched) page) private ∙ go (has_page touched page) refl
  where
    go : (b : Bool) → has_page touched page ≡ b → has_page (cond b touched (page ∷ touched)) page ≡ true
    go true has = has
    go false missing = has_page_first touched page

apart_back : (page q : Page) → same_page page q ≡ false → same_page q page ≡ false
apart_back page q apart = go (same_page q page) refl
  where
    go : (b : Bool) → same_page q page ≡ b → b ≡ false
    go true same = absurd (true≢false (sym (same_from_equal page q (sym (pages_equal q page same))) ∙ apart))
    go false e = refl

touched_other : (config : Config) (touched : List Page) (page q : Page) → same_page page q ≡ false → has_page (touched_with config touched page) q ≡ has_page touched q
touched_other config touched page q apart = go (is_paged config page) (has_page touched page)
  where
    go : (b c : Bool) → has_page (cond b (cond c touched (page ∷ touched)) touched) q ≡ has_page touched q
    go false c = refl
    go true true = refl
    go true false = ap (λ (b : Bool). b || has_page touched q) (apart_back page q apart)

and_no : (b : Bool) → (b && false) ≡ false
and_no true = refl
and_no false = refl

-- what a shared page is given by the configuration is what its origin gives
behind_shared : (config : Config) (p v : ℕ) (origin : Origin) → is_paged config (page_behind config p v origin) ≡ false → shared_bytes config (page_behind config p v origin) ≡ first_bytes config origin
behind_shared config p v origin.Zero shared = absurd (true≢false shared)
behind_shared config p v (origin.Section s i) shared = go (shared_of (slice_get config.sections s.0)) shared
  where
    go : (b : Bool) → is_paged config (cond b (Shared s i) (Private (record { 0 = p }) v)) ≡ false → shared_bytes config (cond b (Shared s i) (Private (record { 0 = p }) v)) ≡ first_bytes config (origin.Section s i)
    go true e = rw e refl
    go false e = absurd (true≢false e)

-- ---- one page more
module _ (config : Config) (state : FlatState) (kept : Page → Option (List ℕ)) (h : KeepsFlat config state kept) (page : Page) where
  untouched_some : (bytes : List ℕ) → kept page ≡ Some bytes → is_untouched config state page ≡ false
  untouched_some bytes is = ap (λ (b : Bool). is_paged config page && not b) (h.touched page ∙ ap (λ (o : Option (List ℕ)). is_paged config page && is_some o) is) ∙ go (is_paged config page)
    where
      go : (b : Bool) → (b && not (b && true)) ≡ false
      go true = refl
      go false = refl

  untouched_none : kept page ≡ None → is_untouched config state page ≡ is_paged config page
  untouched_none is =
      ap (λ (b : Bool). is_paged config page && not b) (h.touched page ∙ (ap (λ (o : Option (List ℕ)). is_paged config page && is_some o) is ∙ and_no (is_paged config page))) ∙ go (is_paged config page)
    where
      go : (b : Bool) → (b && true) ≡ b
      go true = refl
      go false = refl

  -- the bytes that a reference finds
  pub bytes_are : (p v : ℕ) (origin : Origin) → page_behind config p v origin ≡ page → page_bytes config state page origin ≡ found_in config origin (kept page)
  bytes_are p v origin behind = go (kept page) refl
    where
      go : (o : Option (List ℕ)) → kept page ≡ o → page_bytes config state page origin ≡ found_in config origin o
      go (Some bytes) is =
          let touched = untouched_some bytes is in
          ap (λ (b : Bool). cond b (first_bytes config origin) (state.stored page)) touched ∙ (h.stored page touched ∙ ap (bytes_or (shared_bytes config page)) is)
      go None is = ap (λ (b : Bool). cond b (first_bytes config origin) (state.stored page)) (untouched_none is) ∙ by (is_paged config page) refl
        where
          by : (b : Bool) → is_paged config page ≡ b → cond b (first_bytes config origin) (state.stored page) ≡ first_bytes config origin
          by true private = refl
          by false shared =
              h.stored page (ap (λ (b : Bool). b && not (has_page state.touched page)) shared) ∙ (ap (bytes_or (shared_bytes config page)) is
              ∙ subst (λ (x : Page). is_paged config x ≡ false → shared_bytes config x ≡ first_bytes config origin) behind (behind_shared config p v origin) shared)

  pub kept_with : (bytes : List ℕ) → KeepsFlat config (flat_with config state page bytes) (at_page kept page (Some bytes))
  kept_with bytes =
      record {
        touched = λ q. has q (same_page page q) refl;
        stored = λ q u. at q (same_page page q) refl u;
      }
    where
      has : (q : Page) (b : Bool) → same_page page q ≡ b → has_page (touched_with config state.touched page) q ≡ (is_paged config q && is_some (cond b (Some bytes) (kept q)))
      has q false apart = touched_other config state.touched page q apart ∙ h.touched q
      has q true same = subst (λ (x : Page). has_page (touched_with config state.touched page) x ≡ (is_paged config x && true)) (pages_equal page q same) (of_page (is_paged config page) refl)
        where
          of_page : (b : Bool) → is_paged config page ≡ b → has_page (touched_with config state.touched page) page ≡ (is_paged config page && true)
          of_page true private = touched_same config state.touched page private ∙ ap (λ (b : Bool). b && true) (sym private)
          of_page false shared =
              ap (λ (b : Bool). has_page (cond b (with_page state.touched page) state.touched) page) shared
              ∙ (h.touched page ∙ (ap (λ (b : Bool). b && is_some (kept page)) shared ∙ ap (λ (b : Bool). b && true) (sym shared)))

      at : (q : Page) (b : Bool) → same_page page q ≡ b → is_untouched config (flat_with config state page bytes) q ≡ false → cond b bytes (state.stored q) ≡ bytes_or (shared_bytes config q) (cond b (Some bytes) (kept q))
      at q true on u = refl
      at q false apart u = h.stored q (ap (λ (b : Bool). is_paged config q && not b) (sym (touched_other config state.touched page q apart)) ∙ u)

-- ---- by the refusal
pub told_refused : (config : Config) (state : FlatState) (kept : Page → Option (List ℕ)) (p : ℕ) (r : Ref) (reason : Why) → flat_refusal config state p r ≡ Some reason → KeepsFlat config state kept
    → IsTold config state kept p r (reply.Refused reason)
told_refused config state kept p r reason refused h = (
  sym (ap (λ (o : Option Why). reply_unless o (reply_from r.op (found_at config state p r (mapping_of state p r)) (offset_in_page r))) refused),
  subst (λ (s : FlatState). KeepsFlat config s kept) (sym (ap (λ (o : Option Why). next_unless o state (answered_at config state p r (mapping_of state p r))) refused)) h,
)

pub told_answered : (config : Config) (state : FlatState) (old new : Page → Option (List ℕ)) (p : ℕ) (r : Ref) (m : Mapped) (page : Page) (bytes : List ℕ) (answer : Reply)
    → KeepsFlat config state old → mapping_of state p r ≡ Some m → flat_refusal config state p r ≡ None
    → page ≡ page_behind config p (page_number (r.addr).0) m.origin → bytes ≡ found_in config m.origin (old page)
    → answer ≡ reply_from r.op bytes (offset_in_page r) → new ≡ at_page old page (Some (bytes_after r.op bytes (offset_in_page r)))
    → IsTold config state new p r answer
told_answered config state old new p r m page bytes answer h mapped unrefused behind found same table = (
  same ∙ (ap (λ (bs : List ℕ). reply_from r.op bs (offset_in_page r)) there
      ∙ sym (ap (λ (o : Option Why). reply_unless o (reply_from r.op (found_at config state p r (mapping_of state p r)) (offset_in_page r))) unrefused
      ∙ ap (λ (o : Option Mapped). reply_from r.op (found_at config state p r o) (offset_in_page r)) mapped)),
  subst (λ (s : FlatState). KeepsFlat config s new)
      (sym (ap (λ (o : Option Why). next_unless o state (answered_at config state p r (mapping_of state p r))) unrefused ∙ (ap (answered_at config state p r) mapped ∙ next)))
      (subst (KeepsFlat config (flat_with config state page (bytes_after r.op bytes (offset_in_page r)))) (sym table) (kept_with config state old h page (bytes_after r.op bytes (offset_in_page r)))),
)
  where
    there : bytes ≡ found_at config state p r (Some m)
    there = found ∙ (sym (bytes_are config state old h page p (page_number (r.addr).0) m.origin (sym behind)) ∙ ap (λ (x : Page). page_bytes config state x m.origin) behind)

    next : answered_at config state p r (Some m) ≡ flat_with config state page (bytes_after r.op bytes (offset_in_page r))
    next =
        ap (λ (x : Page). flat_with config state x (bytes_after r.op (found_at config state p r (Some m)) (offset_in_page r))) (sym behind)
        ∙ ap (λ (bs : List ℕ). flat_with config state page (bytes_after r.op bs (offset_in_page r))) (sym there)

-- by what the reference gave, if memory didn't run out
pub told_result : (config : Config) (state : FlatState) (old new : Page → Option (List ℕ)) (p : ℕ) (r : Ref) (m : Mapped) (page : Page) (bytes : List ℕ) (result : Result Reply NoMemory)
    → KeepsFlat config state old → mapping_of state p r ≡ Some m → flat_refusal config state p r ≡ None
    → page ≡ page_behind config p (page_number (r.addr).0) m.origin → bytes ≡ found_in config m.origin (old page)
    → IfOk result (λ answer. answer ≡ reply_from r.op bytes (offset_in_page r)) → OnOk result (new ≡ at_page old page (Some (bytes_after r.op bytes (offset_in_page r))))
    → MatchResult result (λ answer. IsTold config state new p r answer) (λ none. Unit {0})
told_result config state old new p r m page bytes (Ok answer) h mapped unrefused behind found same table = told_answered config state old new p r m page bytes answer h mapped unrefused behind found same table
told_result config state old new p r m page bytes (Err e) h mapped unrefused behind found same table = tt

-- a state with the pager's maps and touched pages
pub beside : (a : Pager) (state : FlatState) → IsBeside a state → record { map = a.map; touched = a.touched; stored = state.stored } ≡ state
beside a state is = λ i. record { map = is.maps i; touched = is.touched i; stored = state.stored }

-- before the first reference
pub first_kept : (config : Config) (kept : Page → Option (List ℕ)) → ((q : Page) → kept q ≡ None) → KeepsFlat config (flat_start config) kept
first_kept config kept none =
    record {
      touched = λ q. sym (ap (λ (o : Option (List ℕ)). is_paged config q && is_some o) (none q) ∙ and_no (is_paged config q));
      stored = λ q u. sym (ap (bytes_or (shared_bytes config q)) (none q));
    }
