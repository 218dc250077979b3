-- The branch of the rule that each test of the code leads to.
use Rattle.std.proofs.Common.{◌≡◌, ℕ, zero, suc, ◌<◌, ◌&&◌, Bool, true, false, cond, not, List, [], ◌∷◌, Option, Some, None, length, nat_eq, nat_le, nat_lt, slice_get, refl, sym, ap, ◌∙◌, arith}
use Rattle.std.specs.Option.{is_some, option_map}
use Rattle.std.proofs.lemmas.Bool.{false≢true, ltb-false, ne_eqb}
use Rattle.std.proofs.lemmas.Option.{none-some, same_Some}
use Rattle.vm_types.specs.Ring.{filled}
use Rattle.vm_types.specs.declared.config.Config.{Config}
use Rattle.vm_types.specs.declared.config.ProcSpec.{ProcSpec}
use Rattle.vm_types.specs.declared.names.BlockId.{BlockId}
use Rattle.vm_types.specs.declared.names.Page.{Page}
use Rattle.vm_types.specs.declared.reference.Ref.{Ref}
use Rattle.vm_journal.specs.declared.entry.Entry.{Entry}
use Rattle.vm_journal.specs.declared.entry.What.TheVariants as what
use Rattle.pager_policy.specs.Advance.{advance_gives, again_block_busy, again_charging, again_collided, again_not_resident, entry_given, frame_given, gives_again, is_busy_block, is_named, limit_given, next_answered, next_more, out_given, read_given, refused_given, replace_given, room_given}
use Rattle.pager_model.specs.Charging.{is_uncharged}
use Rattle.pager_model.specs.Flat.{flat_refusal}
use Rattle.pager_model.specs.Flights.{Flight}
use Rattle.pager_policy.specs.Given.{given, page_address, unsaid}
use Rattle.pager_model.specs.Maps.{pfn, Mapped, is_paged, page_number}
use Rattle.pager_model.specs.Lookups.{count_page, is_pending, page_at, section_at, section_of}
use Rattle.vm_types.specs.Status.{is_resident}
use Rattle.pager_model.specs.Pager.{Pager, Valid}
use Rattle.pager_model.specs.Spoken.{flat_after}
use Rattle.vm_state.specs.FlightReadings.{read_by}
use Rattle.vm_state.specs.PageReadings.{found_with}
use Rattle.vm_state.specs.ProcessReadings.{adjusted_for, pending_in}
use Rattle.state_pages.specs.declared.found.Found.{Found}
use Rattle.state_pages.specs.declared.found.OpenRead.{OpenRead}
use Rattle.call_begins.proofs.Branches.{if_false, if_true, item_there}

-- ---- the adjustment
limit_at : (config : Config) (a : Pager) (p n k : ℕ) (o : Option ProcSpec) → Some (n, k) ≡ adjusted_for config a p o → limit_given config a p o ≡ given (what.Limit n k ∷ []) next_more
limit_at config a p n k None is = absurd (none-some _ (sym is))
limit_at config a p n k (Some spec) is = ap (λ (x : ℕ × ℕ). given (what.Limit x.0 x.1 ∷ []) next_more) (sym (same_Some (n, k) _ is))

module _ (config : Config) (past : List Entry) (a : Pager) (p : ℕ) (r : Ref) where
  resident_first : is_resident (a.status p) ≡ true
      → advance_gives config past a p r ≡ cond (is_pending config (a.references p)) (limit_given config a p (slice_get config.procs p)) (refused_given config past a p r (flat_refusal config (flat_after config past) p r))
  resident_first resident = if_false (not (is_resident (a.status p))) _ _ (ap not resident)

  pub first_absent : is_resident (a.status p) ≡ false → advance_gives config past a p r ≡ gives_again again_not_resident
  first_absent absent = if_true (not (is_resident (a.status p))) _ _ (ap not absent)

  pub first_pending : (n k : ℕ) → is_resident (a.status p) ≡ true → Some (n, k) ≡ pending_in config a p → advance_gives config past a p r ≡ given (what.Limit n k ∷ []) next_more
  first_pending n k resident is = resident_first resident ∙ by (is_pending config (a.references p)) is
    where
      by : (b : Bool) → Some (n, k) ≡ cond b (adjusted_for config a p (slice_get config.procs p)) None
          → cond b (limit_given config a p (slice_get config.procs p)) (refused_given config past a p r (flat_refusal config (flat_after config past) p r)) ≡ given (what.Limit n k ∷ []) next_more
      by true is = limit_at config a p n k (slice_get config.procs p) is
      by false is = absurd (none-some _ (sym is))

  pub first_settled : p < length config.procs → is_resident (a.status p) ≡ true → None ≡ pending_in config a p → advance_gives config past a p r ≡ refused_given config past a p r (flat_refusal config (flat_after config past) p r)
  first_settled there resident is = resident_first resident ∙ by (is_pending config (a.references p)) is
    where
      spec_at : (o : Option ProcSpec) → slice_get config.procs p ≡ o → None ≡ adjusted_for config a p o → ⊥
      spec_at None at is = let found = item_there config.procs p there in none-some _ (sym at ∙ found.1)
      spec_at (Some spec) at is = none-some _ is

      by : (b : Bool) → None ≡ cond b (adjusted_for config a p (slice_get config.procs p)) None
          → cond b (limit_given config a p (slice_get config.procs p)) (refused_given config past a p r (flat_refusal config (flat_after config past) p r)) ≡ refused_given config past a p r (flat_refusal config (flat_after config past) p r)
      by true is = absurd (spec_at (slice_get config.procs p) refl is)
      by false is = refl

  -- ---- the valid entry
  pub entry_some : (o : Option Valid) → is_some o ≡ true → entry_given config past a p r o ≡ given (what.Done r unsaid ∷ []) next_answered
  entry_some None is = absurd (false≢true is)
  entry_some (Some e) is = refl

  -- ---- the read of another seat
  pub read_none : (g : Page) (f : ℕ) (o : Option Flight) → None ≡ option_map read_by o → read_given config past a p r g f o ≡ room_given config past a p r g
  read_none g f None is = refl
  read_none g f (Some x) is = absurd (none-some _ is)

  pub read_own : (g : Page) (f : ℕ) (x : OpenRead) (o : Option Flight) → Some x ≡ option_map read_by o → nat_eq (x.seat).0 p ≡ true → read_given config past a p r g f o ≡ room_given config past a p r g
  read_own g f x None is own = absurd (none-some _ (sym is))
  read_own g f x (Some y) is own = if_true (nat_eq y.seat p) _ _ (ap (λ (z : OpenRead). nat_eq (z.seat).0 p) (sym (same_Some x (read_by y) is)) ∙ own)

  pub read_other : (g : Page) (f : ℕ) (x : OpenRead) (o : Option Flight) → Some x ≡ option_map read_by o → nat_eq (x.seat).0 p ≡ false
      → read_given config past a p r g f o ≡ cond (is_named (a.collided p) x.start) (gives_again again_collided) (given (what.Collide (page_address (page_number (r.addr).0)) (pfn f) x.start ∷ []) next_more)
  read_other g f x None is other = absurd (none-some _ (sym is))
  read_other g f x (Some y) is other =
      let same : read_by y ≡ x = sym (same_Some x (read_by y) is) in
      if_false (nat_eq y.seat p) _ _ (ap (λ (z : OpenRead). nat_eq (z.seat).0 p) same ∙ other)
      ∙ ap (λ (k : ℕ). cond (is_named (a.collided p) k) (gives_again again_collided) (given (what.Collide (page_address (page_number (r.addr).0)) (pfn f) k ∷ []) next_more)) (ap (λ (z : OpenRead). z.start) same)

  -- ---- the charge and the limit
  pub room_charging : (g : Page) → (is_uncharged config a g && nat_eq (length a.charged) config.pagefile) ≡ true → room_given config past a p r g ≡ gives_again again_charging
  room_charging g is = if_true (is_uncharged config a g && nat_eq (length a.charged) config.pagefile) _ _ is

  pub room_full : (g : Page) → (is_uncharged config a g && nat_eq (length a.charged) config.pagefile) ≡ false → nat_le (a.limit p) (filled (a.ring p).slots) ≡ true → room_given config past a p r g ≡ replace_given config past a p
  room_full g is full = if_false (is_uncharged config a g && nat_eq (length a.charged) config.pagefile) _ _ is ∙ if_true (nat_le (a.limit p) (filled (a.ring p).slots)) _ _ full

  -- ---- the block
  pub out_busy : (g : Page) (o : Option BlockId) → is_busy_block past o ≡ true → out_given config past a p r g o ≡ gives_again again_block_busy
  out_busy g o is = if_true (is_busy_block past o) _ _ is

  pub out_still : (g : Page) (o : Option BlockId) → is_busy_block past o ≡ false → out_given config past a p r g o ≡ frame_given config a p r g o a.free
  out_still g o is = if_false (is_busy_block past o) _ _ is

-- there is no entry, or one
pub entry_missing : (o : Option Valid) → is_some o ≡ false → o ≡ None
entry_missing None is = refl
entry_missing (Some e) is = absurd (false≢true (sym is))

-- ---- the mapping
pub found_page : (config : Config) (p v : ℕ) (valid : Bool) (o : Option Mapped) (x : Found) → Some x ≡ found_with config p v valid o → (page_at config p v o ≡ Some x.page) × (section_of x.from ≡ section_at o)
found_page config p v valid None x is = absurd (none-some _ (sym is))
found_page config p v valid (Some m) x is = let same = same_Some x _ is in (ap (λ (y : Found). Some y.page) (sym same), ap (λ (y : Found). section_of y.from) same)

pub found_valid : (config : Config) (p v : ℕ) (valid : Bool) (o : Option Mapped) (x : Found) → Some x ≡ found_with config p v valid o → x.valid ≡ valid
found_valid config p v valid None x is = absurd (none-some _ (sym is))
found_valid config p v valid (Some m) x is = ap (λ (y : Found). y.valid) (same_Some x _ is)

-- ---- the frame
pub frame_none : (o : Option ℕ) → None ≡ option_map pfn o → o ≡ None
frame_none None is = refl
frame_none (Some n) is = absurd (none-some _ is)

-- ---- the charge of a page
pub uncharged_is : (config : Config) (a : Pager) (g : Page) (charged : Bool) → charged ≡ nat_lt 0 (count_page a.charged g) → (is_paged config g && not charged) ≡ is_uncharged config a g
uncharged_is config a g charged is = ap (λ (b : Bool). is_paged config g && b) (ap not is ∙ by (count_page a.charged g))
  where
    by : (n : ℕ) → not (nat_lt 0 n) ≡ nat_eq n 0
    by zero = refl
    by (suc n) = go (nat_lt 0 (suc n)) refl ∙ sym (ne_eqb (suc n) 0 (λ same. omega (arith, same)))
      where
        go : (b : Bool) → nat_lt 0 (suc n) ≡ b → not b ≡ false
        go true is = refl
        go false is = absurd (omega (arith, ltb-false 0 (suc n) is))
