-- Slots and rows after a page got a row, after a row got other bytes, and after a page was forgotten.
use Rattle.std.proofs.Common.{◌≡◌, inl, inr, ℕ, ◌+◌, ◌<◌, ◌≤◌, Bool, true, false, cond, List, [], ◌∷◌, ◌++◌, Option, Some, None, length, slice_index_or, slice_set, refl, sym, ap, ◌∙◌, subst, arith, length-append, length-set}
use Rattle.std.specs.Prelude.{◌⊎◌}
use Rattle.std.proofs.Math.Path.{fun_ext}
use Rattle.std.proofs.Math.Seq.{get_or-append_seam}
use Rattle.std.proofs.lemmas.Bool.{true≢false}
use Rattle.std.proofs.lemmas.List.{get_or-set_other, get_or-set_same, get_or_append_left}
use Rattle.std.proofs.lemmas.Option.{none-some, same_Some}
use Rattle.vm_types.specs.Same.{same_page}
use Rattle.vm_types.specs.declared.names.Page.{Page}
use Rattle.vm_types.specs.declared.config.Config.{Config}
use Rattle.vm_types.specs.declared.config.Origin.{Origin}
use Rattle.pager_model.specs.Maps.{first_bytes}
use Rattle.pager_model.specs.Sets.{at_page}
use Rattle.pager_rules.proofs.Basics.{pages_equal, same_from_equal}
use Rattle.shadow_tables.specs.PageTables.{IsTableSet, Items, item_of}
use Rattle.shadow_flat.specs.Slots.{AreSlots, Slotted, bytes_kept, bytes_or, found_at, row_kept}
use Rattle.shadow_flat.specs.declared.slot.Slot.{Slot}

-- ---- functions of a page
pub at_own : {X : Type 0} (f : Page → X) (page : Page) (x : X) → at_page f page x page ≡ x
at_own f page x = ap (λ (b : Bool). cond b x (f page)) (same_from_equal page page refl)

pub at_twice : {X : Type 0} (f : Page → X) (page : Page) (x y : X) → at_page (at_page f page x) page y ≡ at_page f page y
at_twice {X} f page x y = fun_ext (λ q. go q (same_page page q))
  where
    go : (q : Page) (b : Bool) → cond b y (cond b x (f q)) ≡ cond b y (f q)
    go q true = refl
    go q false = refl

-- a page's value again
pub at_again : {X : Type 0} (f : Page → X) (page : Page) (x : X) → f page ≡ x → f ≡ at_page f page x
at_again {X} f page x is = fun_ext (λ q. go q (same_page page q) refl)
  where
    go : (q : Page) (b : Bool) → same_page page q ≡ b → f q ≡ cond b x (f q)
    go q true same = ap f (sym (pages_equal page q same)) ∙ is
    go q false other = refl

-- what has an item has a place
pub set_there : {X : Type 0} (old new : Items X) (page : Page) (x : Option X) (y : X) (b : Bool) → item_of old page ≡ Some y → IsTableSet old new page x b → item_of new ≡ at_page (item_of old) page x
set_there old new page x y true has is = is
set_there old new page x y false has is = absurd (none-some y (sym is.0 ∙ has))

-- ---- a page that has a slot
abbrev pub slot_at : ℕ → Bool → Slot
slot_at at kept = record { at = at; kept = kept }

pub more_rows : (slots : Page → Option Slot) (n m : ℕ) → n ≤ m → AreSlots slots n → AreSlots slots m
more_rows slots n m more are =
    record {
      within = λ q s is. let below = are.within q s is in omega (arith, below, more);
      apart = are.apart;
    }

module _ (slots : Page → Option Slot) (page : Page) (slot : Slot) (is : slots page ≡ Some slot) where
  -- where each page's bytes lay
  lay : (b : Bool) (q : Page) (s : Slot) → at_page slots page (Some (slot_at slot.at b)) q ≡ Some s → (t : Slot) × (slots q ≡ Some t) × (t.at ≡ s.at)
  lay b q s now = go (same_page page q) refl now
    where
      go : (c : Bool) → same_page page q ≡ c → cond c (Some (slot_at slot.at b)) (slots q) ≡ Some s → (t : Slot) × (slots q ≡ Some t) × (t.at ≡ s.at)
      go true same e = (slot, ap slots (sym (pages_equal page q same)) ∙ is, ap (λ (x : Slot). x.at) (same_Some (slot_at slot.at b) s e))
      go false other e = (s, e, refl)

  pub are_still : (n : ℕ) (b : Bool) → AreSlots slots n → AreSlots (at_page slots page (Some (slot_at slot.at b))) n
  are_still n b are =
      record {
        within = λ q s now.
            let was = lay b q s now in
            let below = are.within q was.0 was.1 in
            let same = was.2 in
            omega (arith, below, same);
        apart = λ q r s t now its same.
            let was = lay b q s now in
            let other = lay b r t its in
            are.apart q r was.0 other.0 was.1 other.1 (was.2 ∙ (same ∙ sym other.2));
      }

  pub row_forgotten : (rows : List (List ℕ)) (q : Page) → row_kept rows (at_page slots page (Some (slot_at slot.at false)) q) ≡ at_page (λ g. row_kept rows (slots g)) page None q
  row_forgotten rows q = go (same_page page q)
    where
      go : (b : Bool) → row_kept rows (cond b (Some (slot_at slot.at false)) (slots q)) ≡ cond b None (row_kept rows (slots q))
      go true = refl
      go false = refl

  module _ (rows : List (List ℕ)) (are : AreSlots slots (length rows)) (bytes : List ℕ) where
    elsewhere : (q : Page) → same_page page q ≡ false → row_kept (slice_set rows slot.at bytes) (slots q) ≡ row_kept rows (slots q)
    elsewhere q other = go (slots q) refl
      where
        go : (o : Option Slot) → slots q ≡ o → row_kept (slice_set rows slot.at bytes) o ≡ row_kept rows o
        go None e = refl
        go (Some t) e =
            ap (λ (bs : List ℕ). cond t.kept (Some bs) None)
            (get_or-set_other rows slot.at t.at bytes [] (λ same. true≢false (sym (same_from_equal page q (sym (are.apart q page t slot e is same))) ∙ other)))

    pub row_again : (q : Page) → row_kept (slice_set rows slot.at bytes) (at_page slots page (Some (slot_at slot.at true)) q) ≡ at_page (λ g. row_kept rows (slots g)) page (Some bytes) q
    row_again q = go (same_page page q) refl
      where
        go : (b : Bool) → same_page page q ≡ b → row_kept (slice_set rows slot.at bytes) (cond b (Some (slot_at slot.at true)) (slots q)) ≡ cond b (Some bytes) (row_kept rows (slots q))
        go true same = ap (λ (bs : List ℕ). Some bs) (get_or-set_same rows slot.at bytes [] (are.within page slot is))
        go false other = elsewhere q other

-- ---- a page that has none
module _ (slots : Page → Option Slot) (page : Page) (rows : List (List ℕ)) (are : AreSlots slots (length rows)) (bytes : List ℕ) where
  abbrev last : Slot
  last = slot_at (length rows) true

  -- the page's slot is the last, each other's is as it was
  abbrev Stands : Page → Slot → Type 0
  Stands q s = ((page ≡ q) × (s.at ≡ length rows)) ⊎ ((slots q ≡ Some s) × (s.at < length rows))

  stands : (q : Page) (s : Slot) → at_page slots page (Some last) q ≡ Some s → Stands q s
  stands q s now = go (same_page page q) refl now
    where
      go : (b : Bool) → same_page page q ≡ b → cond b (Some last) (slots q) ≡ Some s → Stands q s
      go true same e = inl (pages_equal page q same, ap (λ (x : Slot). x.at) (sym (same_Some last s e)))
      go false other e = inr (e, are.within q s e)

  is_longer : length (rows ++ bytes ∷ []) ≡ length rows + 1
  is_longer = length-append rows (bytes ∷ [])

  lies_below : (q : Page) (s : Slot) → Stands q s → s.at < length (rows ++ bytes ∷ [])
  lies_below q s (inl new) = let at = new.1 in omega (arith, at, is_longer)
  lies_below q s (inr old) = let below = old.1 in omega (arith, below, is_longer)

  lie_apart : (q r : Page) (s t : Slot) → Stands q s → Stands r t → s.at ≡ t.at → q ≡ r
  lie_apart q r s t (inl new) (inl also) same = sym new.0 ∙ also.0
  lie_apart q r s t (inl new) (inr old) same = let at = new.1 in let below = old.1 in absurd (omega (arith, at, below, same))
  lie_apart q r s t (inr old) (inl new) same = let at = new.1 in let below = old.1 in absurd (omega (arith, at, below, same))
  lie_apart q r s t (inr old) (inr also) same = are.apart q r s t old.0 also.0 same

  pub are_given : AreSlots (at_page slots page (Some last)) (length (rows ++ bytes ∷ []))
  are_given =
      record {
        within = λ q s now. lies_below q s (stands q s now);
        apart = λ q r s t now its same. lie_apart q r s t (stands q s now) (stands r t its) same;
      }

  pub row_given : (q : Page) → row_kept (rows ++ bytes ∷ []) (at_page slots page (Some last) q) ≡ at_page (λ g. row_kept rows (slots g)) page (Some bytes) q
  row_given q = go (same_page page q)
    where
      other : (o : Option Slot) → slots q ≡ o → row_kept (rows ++ bytes ∷ []) o ≡ row_kept rows o
      other None e = refl
      other (Some t) e = ap (λ (bs : List ℕ). cond t.kept (Some bs) None) (get_or_append_left rows (bytes ∷ []) [] t.at (are.within q t e))

      go : (b : Bool) → row_kept (rows ++ bytes ∷ []) (cond b (Some last) (slots q)) ≡ cond b (Some bytes) (row_kept rows (slots q))
      go true = ap (λ (bs : List ℕ). Some bs) (get_or-append_seam rows bytes [] [])
      go false = other (slots q) refl

-- ---- a table of slots, and the rows
-- the row of a page has other bytes, and its slot is kept
module _ (old new : Items Slot) (page : Page) (slot : Slot) (rows next : List (List ℕ)) (bytes : List ℕ) (is : item_of old page ≡ Some slot) (changed : next ≡ slice_set rows slot.at bytes) (are : AreSlots (item_of old) (length rows)) where
  same_length : length rows ≡ length next
  same_length = sym (ap (λ (rs : List (List ℕ)). length rs) changed ∙ length-set rows slot.at bytes)

  pub slots_again : item_of new ≡ at_page (item_of old) page (Some (slot_at slot.at true)) → AreSlots (item_of new) (length next)
  slots_again set =
      subst (λ (slots : Page → Option Slot). AreSlots slots (length next)) (sym set)
      (subst (λ (n : ℕ). AreSlots (at_page (item_of old) page (Some (slot_at slot.at true))) n) same_length (are_still (item_of old) page slot is (length rows) true are))

  pub bytes_again : item_of new ≡ at_page (item_of old) page (Some (slot_at slot.at true)) → bytes_kept (new, next) ≡ at_page (bytes_kept (old, rows)) page (Some bytes)
  bytes_again set =
      fun_ext
      (λ q. ap (λ (slots : Page → Option Slot). row_kept next (slots q)) set
      ∙ (ap (λ (rs : List (List ℕ)). row_kept rs (at_page (item_of old) page (Some (slot_at slot.at true)) q)) changed ∙ row_again (item_of old) page slot is rows are bytes q))

  pub slots_same : AreSlots (item_of old) (length next)
  slots_same = subst (λ (n : ℕ). AreSlots (item_of old) n) same_length are

  -- the slot was kept before
  pub bytes_changed : slot ≡ slot_at slot.at true → bytes_kept (old, next) ≡ at_page (bytes_kept (old, rows)) page (Some bytes)
  bytes_changed held =
      fun_ext
      (λ q. ap (λ (slots : Page → Option Slot). row_kept next (slots q)) (at_again (item_of old) page (Some (slot_at slot.at true)) (is ∙ ap (λ (s : Slot). Some s) held))
      ∙ (ap (λ (rs : List (List ℕ)). row_kept rs (at_page (item_of old) page (Some (slot_at slot.at true)) q)) changed ∙ row_again (item_of old) page slot is rows are bytes q))

-- the page had no row
module _ (old new : Items Slot) (page : Page) (rows next : List (List ℕ)) (bytes : List ℕ) (longer : next ≡ rows ++ bytes ∷ []) (are : AreSlots (item_of old) (length rows)) where
  pub slots_given : (at : ℕ) → at ≡ length rows → item_of new ≡ at_page (item_of old) page (Some (slot_at at true)) → AreSlots (item_of new) (length next)
  slots_given at last set =
      subst (λ (slots : Page → Option Slot). AreSlots slots (length next)) (sym (set ∙ ap (λ (n : ℕ). at_page (item_of old) page (Some (slot_at n true))) last))
      (subst (λ (rs : List (List ℕ)). AreSlots (at_page (item_of old) page (Some (slot_at (length rows) true))) (length rs)) (sym longer) (are_given (item_of old) page rows are bytes))

  pub bytes_given : (at : ℕ) → at ≡ length rows → item_of new ≡ at_page (item_of old) page (Some (slot_at at true)) → bytes_kept (new, next) ≡ at_page (bytes_kept (old, rows)) page (Some bytes)
  bytes_given at last set =
      fun_ext
      (λ q. ap (λ (slots : Page → Option Slot). row_kept next (slots q)) (set ∙ ap (λ (n : ℕ). at_page (item_of old) page (Some (slot_at n true))) last)
      ∙ (ap (λ (rs : List (List ℕ)). row_kept rs (at_page (item_of old) page (Some (slot_at (length rows) true)) q)) longer ∙ row_given (item_of old) page rows are bytes q))

  pub slots_without : AreSlots (item_of old) (length next)
  slots_without =
      let long : length next ≡ length rows + 1 = ap (λ (rs : List (List ℕ)). length rs) longer ∙ length-append rows (bytes ∷ []) in
      more_rows (item_of old) (length rows) (length next) (omega (arith, long)) are

-- the page is forgotten
module _ (old new : Items Slot) (page : Page) (slot : Slot) (rows : List (List ℕ)) (is : item_of old page ≡ Some slot) (set : item_of new ≡ at_page (item_of old) page (Some (slot_at slot.at false))) where
  pub slots_forgotten : AreSlots (item_of old) (length rows) → AreSlots (item_of new) (length rows)
  slots_forgotten are = subst (λ (slots : Page → Option Slot). AreSlots slots (length rows)) (sym set) (are_still (item_of old) page slot is (length rows) false are)

  pub bytes_forgotten : bytes_kept (new, rows) ≡ at_page (bytes_kept (old, rows)) page None
  bytes_forgotten = fun_ext (λ q. ap (λ (slots : Page → Option Slot). row_kept rows (slots q)) set ∙ row_forgotten (item_of old) page slot is rows q)

-- what a page without a slot is as if it were forgotten
pub none_forgotten : (pages : Slotted) (page : Page) → item_of pages.0 page ≡ None → bytes_kept pages ≡ at_page (bytes_kept pages) page None
none_forgotten pages page none = at_again (bytes_kept pages) page None (ap (row_kept pages.1) none)

-- ---- the bytes that a reference finds
module _ (config : Config) (origin : Origin) (pages : Slotted) (page : Page) where
  pub found_first : item_of pages.0 page ≡ None → first_bytes config origin ≡ found_at config origin pages page
  found_first none = sym (ap (λ (o : Option Slot). bytes_or (first_bytes config origin) (row_kept pages.1 o)) none)

  module _ (slot : Slot) (is : item_of pages.0 page ≡ Some slot) where
    pub found_again : slot.kept ≡ false → first_bytes config origin ≡ found_at config origin pages page
    found_again gone =
        sym (ap (λ (o : Option Slot). bytes_or (first_bytes config origin) (row_kept pages.1 o)) is
        ∙ ap (λ (b : Bool). bytes_or (first_bytes config origin) (cond b (Some (slice_index_or pages.1 slot.at [])) None)) gone)

    -- they are kept, and stay
    pub found_kept : slot.kept ≡ true → bytes_kept pages ≡ at_page (bytes_kept pages) page (Some (found_at config origin pages page))
    found_kept held =
        let row : bytes_kept pages page ≡ Some (slice_index_or pages.1 slot.at []) = ap (row_kept pages.1) is ∙ ap (λ (b : Bool). cond b (Some (slice_index_or pages.1 slot.at [])) None) held in
        at_again (bytes_kept pages) page (Some (found_at config origin pages page)) (row ∙ ap (λ (o : Option (List ℕ)). Some (bytes_or (first_bytes config origin) o)) (sym row))

pub held_slot : (slot : Slot) → slot.kept ≡ true → slot ≡ slot_at slot.at true
held_slot slot held = λ i. record { at = slot.at; kept = held i }

-- the row of the bytes that are kept now
pub row_found : (pages : Slotted) (before : Page → Option (List ℕ)) (page : Page) (at : ℕ) (found : List ℕ) → item_of pages.0 page ≡ Some (slot_at at true) → bytes_kept pages ≡ at_page before page (Some found) → slice_index_or pages.1 at [] ≡ found
row_found pages before page at found is kept =
    same_Some (slice_index_or pages.1 at []) found (sym (ap (row_kept pages.1) is) ∙ (ap (λ (f : Page → Option (List ℕ)). f page) kept ∙ at_own before page (Some found)))
