-- The opening state keeps all.
use Rattle.std.proofs.Common.{◌≡◌, ◌⊎◌, ℕ, zero, suc, ◌+◌, ◌<◌, ◌≤◌, Bool, true, false, cond, not, List, [], ◌∷◌, Option, Some, None, length, filter, nat_eq, nat_le, slice_get, refl, sym, ap, ◌∙◌, subst, inl, inr, arith, true≢false}
use Rattle.std.specs.List.{range_with_len}
use Rattle.std.proofs.lemmas.Bool.{cases_eq, ne_eqb, leb-false, or_parts, false≢true}
use Rattle.std.proofs.lemmas.Option.{get_or_from_slice_get, slice_get_within, none-some}
use Rattle.std.proofs.lemmas.List.{length-replicate}
use Rattle.vm_types.specs.Ring.{is_fixed_slot, is_pinned_slot}
use Rattle.vm_types.specs.Configuration.{IsWellFormed, IsProcess, all_pins}
use Rattle.vm_types.specs.declared.names.Page.{Page}
use Rattle.vm_types.specs.declared.names.Page.TheVariants.{Private, Shared}
use Rattle.vm_types.specs.declared.names.BlockId.TheVariants as block
use Rattle.vm_types.specs.declared.config.Config.{Config}
use Rattle.vm_types.specs.declared.config.ProcSpec.{ProcSpec}
use Rattle.vm_types.specs.declared.config.Version.{Version}
use Rattle.page_lists.specs.Lists.{count_of}
use Rattle.pager_model.specs.Around.{page_view, past_view}
use Rattle.pager_model.specs.Lookups.{has_vpn, slots_with}
use Rattle.pager_model.specs.Maps.{paged_of}
use Rattle.pager_model.specs.Opening.{first_block, first_limit, first_ring, first_state, is_bad, opening}
use Rattle.pager_model.specs.Sets.{has}
use Rattle.pager_model.specs.Sound.{IsBounded}
use Rattle.pager_rules.proofs.Basics.{count_cons, count_cons_no, count_cons_yes, count_replicate, nat_eq_refl}
use Rattle.pager_rules.specs.Kept.{FitsFrame, FitsPage, IsKept, one_if}

-- ---- the free list
count_filter : (t : ℕ → Bool) (xs : List ℕ) (f : ℕ) → count_of (filter t xs) f ≡ cond (t f) (count_of xs f) 0
count_filter t [] f = go (t f)
  where
    go : (b : Bool) → ◌≡◌ {A = ℕ} 0 (cond b 0 0)
    go true = refl
    go false = refl
count_filter t (x ∷ xs) f = go (t x) refl (cases_eq x f) (count_filter t xs f)
  where
    kept : (x ≡ f) → t x ≡ true → cond (t f) (count_of (x ∷ xs) f) 0 ≡ count_of (x ∷ xs) f
    kept same is = ap (λ (b : Bool). cond b (count_of (x ∷ xs) f) 0) (ap t (sym same) ∙ is)

    go : (b : Bool) → t x ≡ b → (x ≡ f) ⊎ (x ≡ f → ⊥) → count_of (filter t xs) f ≡ cond (t f) (count_of xs f) 0 → count_of (cond b (x ∷ filter t xs) (filter t xs)) f ≡ cond (t f) (count_of (x ∷ xs) f) 0
    go b is (inr apart) rest = drop b ∙ (rest ∙ ap (λ (n : ℕ). cond (t f) n 0) (sym (count_cons_no (λ (o : ℕ). nat_eq o f) x xs (ne_eqb x f apart))))
      where
        drop : (b : Bool) → count_of (cond b (x ∷ filter t xs) (filter t xs)) f ≡ count_of (filter t xs) f
        drop true = count_cons_no (λ (o : ℕ). nat_eq o f) x (filter t xs) (ne_eqb x f apart)
        drop false = refl
    go true is (inl same) rest =
        let whole = ap (λ (b : Bool). cond b (count_of xs f) 0) (ap t (sym same) ∙ is) in
        let left = count_cons (λ (o : ℕ). nat_eq o f) x (filter t xs) in
        let right = count_cons (λ (o : ℕ). nat_eq o f) x xs in
        let all : count_of (x ∷ filter t xs) f ≡ count_of (x ∷ xs) f = omega arith in
        all ∙ sym (kept same is)
    go false is (inl same) rest = rest ∙ (nothing (count_of xs f) ∙ sym (nothing (count_of (x ∷ xs) f)))
      where
        nothing : (n : ℕ) → cond (t f) n 0 ≡ 0
        nothing n = ap (λ (b : Bool). cond b n 0) (ap t (sym same) ∙ is)

pub below_range : (a n f : ℕ) → f < a → count_of (range_with_len a n) f ≡ 0
below_range a zero f below = refl
below_range a (suc n) f below = count_cons_no (λ (o : ℕ). nat_eq o f) a (range_with_len (a + 1) n) (ne_eqb a f (λ same. omega arith)) ∙ below_range (a + 1) n f (omega arith)

pub in_range : (a n f : ℕ) → a ≤ f → f < a + n → count_of (range_with_len a n) f ≡ 1
in_range a zero f least most = absurd (omega arith)
in_range a (suc n) f least most = go (cases_eq a f) (in_range (a + 1) n f)
  where
    go : (a ≡ f) ⊎ (a ≡ f → ⊥) → (a + 1 ≤ f → f < a + 1 + n → count_of (range_with_len (a + 1) n) f ≡ 1) → count_of (range_with_len a (suc n)) f ≡ 1
    go (inl same) rest =
        let none = below_range (a + 1) n f (omega arith) in
        let one = count_cons_yes (λ (o : ℕ). nat_eq o f) a (range_with_len (a + 1) n) (subst (λ (g : ℕ). nat_eq a g ≡ true) same (nat_eq_refl a)) in
        omega arith
    go (inr apart) rest = count_cons_no (λ (o : ℕ). nat_eq o f) a (range_with_len (a + 1) n) (ne_eqb a f apart) ∙ rest (more apart) (omega arith)
      where
        more : (a ≡ f → ⊥) → a + 1 ≤ f
        more apart = omega arith

free_is : (config : Config) (f : ℕ) → count_of (filter (λ (g : ℕ). not (is_bad config g)) (range_with_len 0 config.frames)) f ≡ one_if (not (is_bad config f))
free_is config f = count_filter (λ (g : ℕ). not (is_bad config g)) (range_with_len 0 config.frames) f ∙ go (is_bad config f) refl
  where
    go : (b : Bool) → is_bad config f ≡ b → cond (not b) (count_of (range_with_len 0 config.frames) f) 0 ≡ one_if (not b)
    go true is = refl
    go false is = in_range 0 config.frames f (omega arith) (omega (arith, leb-false config.frames f (or_parts (nat_le config.frames f) (has config.bad f) is).0))

-- ---- one thing at a time
first_frame : (b : Bool) (n : ℕ) → n ≡ one_if (not b) → FitsFrame (record { bad = b; state = first_state b; page = None; modify = false; on_free = n; on_modified = 0; shares = 0; reads = 0; writes = 0; failed = false })
first_frame true n is = record { bad = refl; on_free = is; on_modified = refl; shares = refl; reads = refl; writes = refl; failed = refl; page = refl; mark = tt }
first_frame false n is = record { bad = refl; on_free = is; on_modified = refl; shares = refl; reads = refl; writes = refl; failed = refl; page = tt; mark = refl }

first_slots : (o : Option ProcSpec) (v : ℕ) → slots_with (first_ring o) v ≡ 0
first_slots None v = refl
first_slots (Some spec) v = count_replicate (has_vpn v) spec.extent None refl

first_page : (g : Page) (config : Config) → FitsPage g (page_view config (opening config) g)
first_page (Private p v) config = record {
  paged = λ some. absurd (omega arith);
  charged = omega arith;
  touched = omega arith;
  blocks = omega arith;
  mapped = λ some private. absurd (omega arith);
  lying = λ b paged lies. absurd (none-some _ lies);
  in_file = λ b lies. absurd (none-some _ lies);
  not_in_section = λ s i paged lies. none-some _ lies;
  shared = λ s i is file. absurd (cc);
}
first_page (Shared t j) config = of_kind (paged_of (slice_get config.sections t.0))
  where
    of_kind : (c : Bool) → FitsPage (Shared t j) (record { paged = c; charged = 0; touched = 0; blocks = 0; block = None; lies = cond c None (Some (block.Section t j)); mapped = None; behind = None })
    of_kind true = record {
      paged = λ some. refl;
      charged = omega arith;
      touched = omega arith;
      blocks = omega arith;
      mapped = λ some private. absurd (false≢true private);
      lying = λ b paged lies. absurd (none-some _ lies);
      in_file = λ b lies. absurd (none-some _ lies);
      not_in_section = λ s i paged lies. none-some _ lies;
      shared = λ s i is file. absurd (true≢false file);
    }
    of_kind false = record {
      paged = λ some. absurd (omega arith);
      charged = omega arith;
      touched = omega arith;
      blocks = omega arith;
      mapped = λ some private. absurd (false≢true private);
      lying = λ b paged lies. absurd (false≢true paged);
      in_file = λ b lies. absurd (cc);
      not_in_section = λ s i paged lies. false≢true paged;
      shared = λ s i is file. cc;
    }

first_in_swap : (config : Config) (g : Page) (p n : ℕ) → first_block config g ≡ Some (block.Swap (record { 0 = p }) n) → ⊥
first_in_swap config (Private q v) p n e = none-some _ e
first_in_swap config (Shared s i) p n e = of_kind (paged_of (slice_get config.sections s.0)) e
  where
    of_kind : (c : Bool) → cond c None (Some (block.Section s i)) ≡ Some (block.Swap (record { 0 = p }) n) → ⊥
    of_kind true e = none-some _ e
    of_kind false e = cc

bounded : (v : Version) (frames kept : ℕ) (spec : ProcSpec) → IsProcess frames kept spec → IsBounded v spec (first_ring (Some spec)) spec.limit
bounded v frames kept spec formed = record {
  locks = omega (arith, count_replicate is_fixed_slot spec.extent None refl);
  pins = omega (arith, count_replicate is_pinned_slot spec.extent None refl);
  least = formed.limited.locks;
  most = omega (arith, formed.limited.quota, formed.limited.extent);
  slots = length-replicate spec.extent None;
  hand = omega (arith, formed.limited.locks, formed.limited.quota, formed.limited.extent);
}

pub opening_kept : (config : Config) → IsWellFormed config → IsKept config (past_view []) (opening config)
opening_kept config formed = record {
  frames = λ f. first_frame (is_bad config f) _ (free_is config f);
  processes = λ p. record { bounds = λ spec found. subst (λ (o : Option ProcSpec). IsBounded config.version spec (first_ring o) (first_limit o)) (sym found) (bounded config.version _ _ spec (well p spec found)); gone = λ gone. absurd (cc); none = λ none. (ap first_limit none, ap (λ (o : Option ProcSpec). length (first_ring o).slots) none) };
  entries = λ p v. record { once = omega arith; slots = first_slots (slice_get config.procs p) v; coming = λ g coming. absurd (cc) };
  valid = tt;
  pages = λ g. first_page g config;
  blocks = λ b. record { owners = omega arith; flights = omega arith };
  fit = omega arith;
  held_once = λ f g x held also. absurd (none-some x held);
  held_charged = λ f g private held. absurd (none-some g held);
  unsaved = λ g some lies. absurd (omega arith);
  swapped = λ g p n lies. absurd (first_in_swap config g p n lies);
  coming_once = λ p q coming also. absurd (cc);
  transfers = tt;
  one_fault = λ s. omega arith;
  failed = record { found = λ f is. absurd (false≢true is); fits = λ x failed. absurd (none-some x failed) };
}
  where
    well : (p : ℕ) (spec : ProcSpec) → slice_get config.procs p ≡ Some spec → IsProcess config.frames (length config.bad + all_pins config) spec
    well p spec found =
        let fits = formed.procs p spec (slice_get_within config.procs p spec found) in
        subst (λ (x : ProcSpec). IsProcess config.frames (length config.bad + all_pins config) x) (get_or_from_slice_get config.procs p spec spec found) fits
