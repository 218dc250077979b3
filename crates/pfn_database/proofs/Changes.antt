-- What keeps rows and lists consistent where one frame changes.
use Rattle.std.proofs.Common.{◌≡◌, ℕ, ◌+◌, ◌-◌, ◌^◌, ◌≤◌, ◌<◌, Bool, true, false, cond, eqb, List, [], ◌∷◌, ◌++◌, Option, Some, None, IsSome, length, set, get_or, refl, sym, ◌∙◌, ⊎_elim, arith, get_or-set_same, get_or-set_other}
use Rattle.std.proofs.lemmas.Bool.{cases_eq, eq-eqb, ne_eqb}
use Rattle.std.proofs.lemmas.List.Elements.{All-set}
use Rattle.vm_types.specs.declared.names.FrameState.{FrameState}
use Rattle.vm_types.specs.declared.names.FrameState.TheVariants.{Free, Modified, Bad, ReleasePending, ReadError, Writing, Reading, Active}
use Rattle.vm_types.specs.declared.names.Page.TheVariants.{Private, Shared}
use Rattle.page_lists.specs.Lists.{count_of, without}
use Rattle.page_lists.proofs.Counts.{count_of-cons, count_of-push, count_of-without}
use Rattle.pfn_database.specs.declared.row.Row.{Row}
use Rattle.pfn_database.specs.Rows.{IsRow, IsOneOf, FitsModify, FitsPage, FitsSlotIndex, FitsReferences, counted_references, shared, bad_row, empty_row, unshared, held, unheld, state_in_transfer}
use Rattle.vm_types.specs.declared.names.Page.{Page}
use Rattle.pfn_database.specs.Frames.{Frames, row_of, is_free, is_modified, IsConsistent}

-- a state that isn't on a list
pub is_free-other : (state : FrameState) → (state ≡ Free → ⊥) → is_free state ≡ false
is_free-other Free other = absurd (other refl)
is_free-other Modified other = refl
is_free-other Bad other = refl
is_free-other ReleasePending other = refl
is_free-other ReadError other = refl
is_free-other Writing other = refl
is_free-other Reading other = refl
is_free-other Active other = refl

pub is_modified-other : (state : FrameState) → (state ≡ Modified → ⊥) → is_modified state ≡ false
is_modified-other Free other = refl
is_modified-other Modified other = absurd (other refl)
is_modified-other Bad other = refl
is_modified-other ReleasePending other = refl
is_modified-other ReadError other = refl
is_modified-other Writing other = refl
is_modified-other Reading other = refl
is_modified-other Active other = refl

pub IsRow-empty : IsRow empty_row
IsRow-empty = record { refs = (omega arith, omega arith); flights = omega arith; modify = refl; page = tt; slot = tt; shared = λ _. (refl, refl); listed = λ _. refl }

pub IsRow-bad : IsRow bad_row
IsRow-bad = record { refs = (omega arith, omega arith); flights = omega arith; modify = refl; page = refl; slot = tt; shared = λ _. (refl, refl); listed = λ _. refl }

-- what is used of the references: they follow what is counted, and there are as many at least
FitsReferences-change : (refs counted refs' counted' : ℕ) → FitsReferences refs counted → refs' + counted ≡ refs + counted' → FitsReferences refs' counted'
FitsReferences-change refs counted refs' counted' fits moved = (omega (arith, fits.0), omega (arith, fits.1))

FitsReferences-least : (refs counted : ℕ) → FitsReferences refs counted → counted ≤ refs
FitsReferences-least refs counted fits = fits.0

-- and few enough that there is room for one more
counted_references-most : (shares flights : ℕ) → flights ≤ 1 → counted_references shares flights ≤ 2
counted_references-most shares flights one = grind arith

pub refs-most : (row : Row) → IsRow row → row.refs ≤ 2 ^ 31 + 2
refs-most row good = let most = counted_references-most row.shares row.flights good.flights in omega (arith, good.refs.1)

pub refs-least : (row : Row) → IsRow row → 0 < row.shares → 0 < row.refs
refs-least row good some =
    let one : row.shares ≡ 0 → ⊥ = omega arith in
    let least : 1 + row.flights ≤ row.refs = rw (ne_eqb row.shares 0 one) at (FitsReferences-least _ _ good.refs) in
    omega arith

pub refs-flight : (row : Row) → IsRow row → row.flights ≡ 1 → 0 < row.refs
refs-flight row good one = let least = FitsReferences-least _ _ good.refs in omega (arith, least)

-- the head of the free list is a Free frame
pub is_free-yes : (state : FrameState) → 0 < cond {A = ℕ} (is_free state) 1 0 → state ≡ Free
is_free-yes Free some = refl
is_free-yes Modified some = absurd (omega arith)
is_free-yes Bad some = absurd (omega arith)
is_free-yes ReleasePending some = absurd (omega arith)
is_free-yes ReadError some = absurd (omega arith)
is_free-yes Writing some = absurd (omega arith)
is_free-yes Reading some = absurd (omega arith)
is_free-yes Active some = absurd (omega arith)

-- the cases of a state that is one of three
one_of_three : {P : Type 0} (a b c state : FrameState) → IsOneOf (a ∷ b ∷ c ∷ []) state → (state ≡ a → P) → (state ≡ b → P) → (state ≡ c → P) → P
one_of_three a b c state h first second third = ⊎_elim first (λ h. ⊎_elim second (λ h. ⊎_elim third (λ no. absurd no) h) h) h

not_listed : (state : FrameState) → is_free state ≡ false → is_modified state ≡ false → (state ≡ Bad → ⊥) → IsOneOf (Free ∷ Modified ∷ Bad ∷ []) state → ⊥
not_listed state no_free no_modified not_bad h = one_of_three Free Modified Bad state h
    (λ e. let t = rw e at no_free in cc)
    (λ e. let t = rw e at no_modified in cc)
    not_bad

one_of_four : {P : Type 0} (a b c d state : FrameState) → IsOneOf (a ∷ b ∷ c ∷ d ∷ []) state → (state ≡ a → P) → (state ≡ b → P) → (state ≡ c → P) → (state ≡ d → P) → P
one_of_four a b c d state h first second third fourth = ⊎_elim first (λ h. one_of_three b c d state h second third fourth) h

-- what the choice between two states says of each
settled_modify : (modify : Bool) → FitsModify (cond modify Modified Free) modify
settled_modify true = refl
settled_modify false = refl

settled_page : (modify : Bool) (page : Option Page) → IsSome page → FitsPage (cond modify Modified Free) page
settled_page true page held = held
settled_page false page held = tt

left_modify : (last : Bool) (modify : Bool) → FitsModify (cond last ReleasePending Active) modify
left_modify true modify = tt
left_modify false modify = tt

left_page : (last : Bool) (page : Option Page) → IsSome page → FitsPage (cond last ReleasePending Active) page
left_page true page held = held
left_page false page held = held

left_listed : (last : Bool) → IsOneOf (Free ∷ Modified ∷ Bad ∷ []) (cond last ReleasePending Active) → ⊥
left_listed true h = not_listed ReleasePending refl refl (λ e. cc) h
left_listed false h = not_listed Active refl refl (λ e. cc) h

-- which of these states are on a list
pub settling_off : (state : FrameState) → IsOneOf (Active ∷ Writing ∷ ReleasePending ∷ Reading ∷ []) state → (is_free state ≡ false) × (is_modified state ≡ false)
settling_off state among = one_of_four Active Writing ReleasePending Reading state among
    (λ e. rw e (refl, refl))
    (λ e. rw e (refl, refl))
    (λ e. rw e (refl, refl))
    (λ e. rw e (refl, refl))

pub transfer_off : (state : FrameState) → IsOneOf (Modified ∷ Active ∷ Reading ∷ []) state → (is_free state ≡ false) × (is_free (state_in_transfer state) ≡ false) × (is_modified (state_in_transfer state) ≡ false)
transfer_off state among = one_of_three Modified Active Reading state among
    (λ e. rw e (refl, refl, refl))
    (λ e. rw e (refl, refl, refl))
    (λ e. rw e (refl, refl, refl))

left_off : (last : Bool) → (is_free (cond last ReleasePending Active) ≡ false) × (is_modified (cond last ReleasePending Active) ≡ false)
left_off true = (refl, refl)
left_off false = (refl, refl)

pub unshared_off : (row : Row) → row.state ≡ Active → (is_free (unshared row).state ≡ is_free row.state) × (is_modified (unshared row).state ≡ is_modified row.state)
unshared_off row active = rw active (left_off _)

-- no slot is one for each page
pub FitsSlotIndex-none : (page : Option Page) → FitsSlotIndex page 0
FitsSlotIndex-none None = tt
FitsSlotIndex-none (Some (Private p v)) = tt
FitsSlotIndex-none (Some (Shared s i)) = refl

-- each row stays one
module _ (row : Row) (good : IsRow row) where
  pub IsRow-active : (page : Page) (slot : ℕ) → FitsSlotIndex (Some page) slot → IsRow (record row { state = Active; page = Some page; slot = slot })
  IsRow-active page slot fits = record {
    refs = good.refs;
    flights = good.flights;
    modify = tt;
    page = refl;
    slot = fits;
    shared = λ other. absurd (other refl);
    listed = λ h. absurd (not_listed Active refl refl (λ e. cc) h);
  }

  pub IsRow-reading : (page : Page) → row.state ≡ Free → IsRow (record row { state = Reading; page = Some page })
  IsRow-reading page free =
      let zeros = good.shared (λ h. let t : Free ≡ Active = sym free ∙ h in cc) in
      record {
        refs = good.refs;
        flights = good.flights;
        modify = rw free at good.modify;
        page = refl;
        slot = rw zeros.1 (FitsSlotIndex-none (Some page));
        shared = λ _. zeros;
        listed = λ h. absurd (not_listed Reading refl refl (λ e. cc) h);
      }

  pub IsRow-error : row.state ≡ Reading → IsRow (record row { state = ReadError })
  IsRow-error reading = record {
    refs = good.refs;
    flights = good.flights;
    modify = rw reading at good.modify;
    page = rw reading at good.page;
    slot = good.slot;
    shared = λ _. good.shared (λ h. let t : Reading ≡ Active = sym reading ∙ h in cc);
    listed = λ h. absurd (not_listed ReadError refl refl (λ e. cc) h);
  }

  pub IsRow-mark : (modify : Bool) → FitsModify row.state modify → IsRow (record row { modify = modify })
  IsRow-mark modify fits = record {
    refs = good.refs;
    flights = good.flights;
    modify = fits;
    page = good.page;
    slot = good.slot;
    shared = good.shared;
    listed = good.listed;
  }

  pub IsRow-end_flight : row.flights ≡ 1 → IsRow (record row { refs = row.refs - 1; flights = 0 })
  IsRow-end_flight open_one = record {
    refs = let least = FitsReferences-least _ _ good.refs in FitsReferences-change _ _ _ _ good.refs (omega (arith, least));
    flights = omega arith;
    modify = good.modify;
    page = good.page;
    slot = good.slot;
    shared = good.shared;
    listed = λ h. refl;
  }

  -- one reference more or less that isn't counted
  pub IsRow-held : row.refs < 2 ^ 31 → IsRow (held row)
  IsRow-held room = record {
    refs = (omega (arith, good.refs.0), omega arith);
    flights = good.flights;
    modify = good.modify;
    page = good.page;
    slot = good.slot;
    shared = good.shared;
    listed = good.listed;
  }

  pub IsRow-unheld : counted_references row.shares row.flights < row.refs → IsRow (unheld row)
  IsRow-unheld some = record {
    refs = (omega arith, omega (arith, good.refs.1));
    flights = good.flights;
    modify = good.modify;
    page = good.page;
    slot = good.slot;
    shared = good.shared;
    listed = good.listed;
  }

  begun : IsOneOf (Modified ∷ Active ∷ Reading ∷ []) row.state → row.flights ≡ 0 → FitsReferences (row.refs + 1) (counted_references row.shares 1)
  begun among none = FitsReferences-change _ _ _ _ good.refs (omega arith)

  pub IsRow-begin_flight : IsOneOf (Modified ∷ Active ∷ Reading ∷ []) row.state → row.flights ≡ 0 → IsRow (record row { state = state_in_transfer row.state; modify = false; refs = row.refs + 1; flights = 1 })
  IsRow-begin_flight among none = one_of_three Modified Active Reading row.state among
      (λ e. record {
        refs = begun among none;
        flights = omega arith;
        modify = rw e tt;
        page = rw e (rw e at good.page);
        slot = good.slot;
        shared = λ _. good.shared (λ h. let t : Modified ≡ Active = sym e ∙ h in cc);
        listed = λ h. absurd (not_listed Writing refl refl (λ w. cc) (rw e at h));
      })
      (λ e. record {
        refs = begun among none;
        flights = omega arith;
        modify = rw e tt;
        page = rw e (rw e at good.page);
        slot = good.slot;
        shared = λ other. absurd (other (rw e refl));
        listed = λ h. absurd (not_listed Active refl refl (λ w. cc) (rw e at h));
      })
      (λ e. record {
        refs = begun among none;
        flights = omega arith;
        modify = rw e refl;
        page = rw e (rw e at good.page);
        slot = good.slot;
        shared = λ _. good.shared (λ h. let t : Reading ≡ Active = sym e ∙ h in cc);
        listed = λ h. absurd (not_listed Reading refl refl (λ w. cc) (rw e at h));
      })

  pub IsRow-settle : IsOneOf (Active ∷ Writing ∷ ReleasePending ∷ Reading ∷ []) row.state → row.shares ≡ 0 → row.flights ≡ 0 → IsRow (record row { state = cond row.modify Modified Free; slot = 0 })
  IsRow-settle among none idle =
      let held : IsSome row.page = one_of_four Active Writing ReleasePending Reading row.state among (λ e. rw e at good.page) (λ e. rw e at good.page) (λ e. rw e at good.page) (λ e. rw e at good.page) in
      record {
        refs = good.refs;
        flights = good.flights;
        modify = settled_modify row.modify;
        page = settled_page row.modify row.page held;
        slot = FitsSlotIndex-none row.page;
        shared = λ _. (none, refl);
        listed = λ _. idle;
      }

  first_share : row.shares ≡ 0 → FitsReferences (shared row).refs (counted_references (shared row).shares row.flights)
  first_share none = FitsReferences-change row.refs (counted_references row.shares row.flights) _ _ good.refs
      (let more : row.shares + 1 ≡ 0 → ⊥ = omega arith in rw (eq-eqb row.shares 0 none, ne_eqb (row.shares + 1) 0 more) (omega arith))

  more_share : (row.shares ≡ 0 → ⊥) → FitsReferences (shared row).refs (counted_references (shared row).shares row.flights)
  more_share some = FitsReferences-change row.refs (counted_references row.shares row.flights) _ _ good.refs
      (let more : row.shares + 1 ≡ 0 → ⊥ = omega arith in rw (ne_eqb row.shares 0 some, ne_eqb (row.shares + 1) 0 more) refl)

  pub IsRow-shared : row.state ≡ Active → IsRow (shared row)
  IsRow-shared active = record {
    refs = ⊎_elim first_share more_share (cases_eq row.shares 0);
    flights = good.flights;
    modify = good.modify;
    page = good.page;
    slot = good.slot;
    shared = λ other. absurd (other active);
    listed = good.listed;
  }

  last_unshare : 0 < row.shares → row.shares ≡ 1 → FitsReferences (row.refs - 1) (counted_references (row.shares - 1) row.flights)
  last_unshare some last =
      let one : row.shares ≡ 0 → ⊥ = omega arith in
      let least : 1 + row.flights ≤ row.refs = rw (ne_eqb row.shares 0 one) at (FitsReferences-least _ _ good.refs) in
      FitsReferences-change row.refs (counted_references row.shares row.flights) _ _ good.refs (rw (ne_eqb row.shares 0 one, eq-eqb (row.shares - 1) 0 (omega arith)) (omega arith))

  more_unshare : 0 < row.shares → (row.shares ≡ 1 → ⊥) → FitsReferences row.refs (counted_references (row.shares - 1) row.flights)
  more_unshare some more =
      let one : row.shares ≡ 0 → ⊥ = omega arith in
      let more_left : row.shares - 1 ≡ 0 → ⊥ = omega arith in
      FitsReferences-change row.refs (counted_references row.shares row.flights) _ _ good.refs (rw (ne_eqb row.shares 0 one, ne_eqb (row.shares - 1) 0 more_left) refl)

  pub IsRow-unshared : row.state ≡ Active → 0 < row.shares → IsRow (unshared row)
  IsRow-unshared active some =
      let held : IsSome row.page = rw active at good.page in
      ⊎_elim
      (λ last. rw (eq-eqb row.shares 1 last) (record {
        refs = last_unshare some last;
        flights = good.flights;
        modify = rw active (left_modify (eqb row.flights 1) row.modify);
        page = rw active (left_page (eqb row.flights 1) row.page held);
        slot = FitsSlotIndex-none row.page;
        shared = λ _. (omega arith, refl);
        listed = λ h. absurd (left_listed (eqb row.flights 1) (rw active at h));
      }))
      (λ more. rw (ne_eqb row.shares 1 more) (record {
        refs = more_unshare some more;
        flights = good.flights;
        modify = good.modify;
        page = good.page;
        slot = good.slot;
        shared = λ other. absurd (other active);
        listed = good.listed;
      }))
      (cases_eq row.shares 1)

module _ (frames : Frames) (ok : IsConsistent frames) (f : ℕ) (below : f < length frames.rows) where
  -- the frame stands on each list as its new state says, and every other one as before
  pub IsConsistent-change : (row : Row) (free modified : List ℕ) → IsRow row → ((g : ℕ) → count_of free g ≡ cond (eqb f g) (cond (is_free row.state) 1 0) (count_of frames.free g)) → ((g : ℕ) → count_of modified g ≡ cond (eqb f g) (cond (is_modified row.state) 1 0) (count_of frames.modified g)) → IsConsistent (record { rows = set frames.rows f row; free = free; modified = modified })
  IsConsistent-change row free modified good frees modifieds = record {
    free = λ g. frees g ∙ counts (λ r. is_free r.state) g frames.free (ok.free g);
    modified = λ g. modifieds g ∙ counts (λ r. is_modified r.state) g frames.modified (ok.modified g);
    rows = All-set IsRow frames.rows f row good ok.rows;
  }
    where
      counts : (test : Row → Bool) (g : ℕ) (list : List ℕ) → count_of list g ≡ cond (test (row_of frames g)) 1 0 → cond (eqb f g) (cond (test row) 1 0) (count_of list g) ≡ cond (test (get_or (set frames.rows f row) g bad_row)) 1 0
      counts test g list was = ⊎_elim
          (λ same. rw (eq-eqb f g same) (rw (← same) (rw (get_or-set_same frames.rows f row bad_row below) refl)))
          (λ other. rw (ne_eqb f g other) (rw (get_or-set_other frames.rows f g row bad_row (λ e. other (sym e))) was))
          (cases_eq f g)

  -- a frame that stays on a list or off it, and one that comes onto its end
  stays : (list : List ℕ) (n : ℕ) → count_of list f ≡ n → (g : ℕ) → count_of list g ≡ cond (eqb f g) n (count_of list g)
  stays list n here g = ⊎_elim
      (λ same. rw (eq-eqb f g same) (rw (← same) here))
      (λ other. rw (ne_eqb f g other) refl)
      (cases_eq f g)

  comes : (list : List ℕ) → count_of list f ≡ 0 → (g : ℕ) → count_of (list ++ f ∷ []) g ≡ cond (eqb f g) 1 (count_of list g)
  comes list none g = count_of-push list f g ∙ ⊎_elim
      (λ same. rw (eq-eqb f g same) (rw (← same) (rw none (omega arith))))
      (λ other. rw (ne_eqb f g other) (omega arith))
      (cases_eq f g)

  pub IsConsistent-off : (row : Row) → IsRow row → is_free row.state ≡ false → is_modified row.state ≡ false → IsConsistent (record { rows = set frames.rows f row; free = without frames.free f; modified = without frames.modified f })
  IsConsistent-off row good no_free no_modified = IsConsistent-change row _ _ good
      (λ g. rw no_free (count_of-without frames.free f g))
      (λ g. rw no_modified (count_of-without frames.modified f g))

  pub IsConsistent-emptied : IsConsistent (record { rows = set frames.rows f empty_row; free = f ∷ without frames.free f; modified = without frames.modified f })
  IsConsistent-emptied = IsConsistent-change empty_row _ _ IsRow-empty
      (λ g. count_of-cons f (without frames.free f) g ∙ rw (count_of-without frames.free f g) (⊎_elim
      (λ same. rw (eq-eqb f g same) refl)
      (λ other. rw (ne_eqb f g other) (omega arith))
      (cases_eq f g)))
      (λ g. count_of-without frames.modified f g)

  pub IsConsistent-same : (row : Row) → IsRow row → is_free row.state ≡ is_free (row_of frames f).state → is_modified row.state ≡ is_modified (row_of frames f).state → IsConsistent (record { rows = set frames.rows f row; free = frames.free; modified = frames.modified })
  IsConsistent-same row good free modified = IsConsistent-change row _ _ good
      (λ g. rw free (stays frames.free _ (ok.free f) g))
      (λ g. rw modified (stays frames.modified _ (ok.modified f) g))

  pub IsConsistent-settled : (row : Row) (modify : Bool) → IsRow row → row.state ≡ cond modify Modified Free → is_free (row_of frames f).state ≡ false → is_modified (row_of frames f).state ≡ false → IsConsistent (record { rows = set frames.rows f row; free = cond modify frames.free (frames.free ++ f ∷ []); modified = cond modify (frames.modified ++ f ∷ []) frames.modified })
  IsConsistent-settled row true good state no_free no_modified = IsConsistent-change row _ _ good
      (λ g. rw state (stays frames.free 0 (ok.free f ∙ rw no_free refl) g))
      (λ g. rw state (comes frames.modified (ok.modified f ∙ rw no_modified refl) g))
  IsConsistent-settled row false good state no_free no_modified = IsConsistent-change row _ _ good
      (λ g. rw state (comes frames.free (ok.free f ∙ rw no_free refl) g))
      (λ g. rw state (stays frames.modified 0 (ok.modified f ∙ rw no_modified refl) g))

  -- a frame of a state without a list is on none
  pub count_of-off : is_free (row_of frames f).state ≡ false → is_modified (row_of frames f).state ≡ false → (count_of frames.free f ≡ 0) × (count_of frames.modified f ≡ 0)
  count_of-off no_free no_modified = (ok.free f ∙ rw no_free refl, ok.modified f ∙ rw no_modified refl)
