-- Several changes of one frame's row are one change of it, and the row has the references that are
-- counted, and those over that it had over.
use Rattle.std.proofs.Common.{◌≡◌, ℕ, ◌+◌, ◌-◌, ◌≤◌, ◌<◌, false, List, Some, length, set, get_or, refl, ◌∙◌, ap, ⊎_elim, arith, length-set, get_or-set_same}
use Rattle.std.specs.List.{slice_get}
use Rattle.std.proofs.lemmas.Bool.{cases_eq, eq-eqb, ne_eqb}
use Rattle.std.proofs.lemmas.List.{set-set}
use Rattle.vm_types.specs.declared.names.FrameState.TheVariants.{Free}
use Rattle.page_lists.specs.Lists.{without}
use Rattle.page_lists.proofs.Counts.{found, without-absent}
use Rattle.pfn_database.specs.declared.row.Row.{Row}
use Rattle.pfn_database.specs.Rows.{IsRow, bad_row, shared, unshared, counted_references, uncounted}
use Rattle.pfn_database.specs.Frames.{Frames, row_of, is_free, is_modified, IsConsistent}
use Rattle.pfn_database.proofs.Changes.{is_free-yes}

-- the row that was put there
pub row_here : (old mid : List Row) (f : ℕ) (row : Row) → f < length old → mid ≡ set old f row → get_or mid f bad_row ≡ row
row_here old mid f row below first = ap (λ rows. get_or rows f bad_row) first ∙ get_or-set_same old f row bad_row below

-- a change by what the row is, after another one
pub row_again : (old mid new : List Row) (f : ℕ) (row : Row) (change : Row → Row) → f < length old → mid ≡ set old f row → new ≡ set mid f (change (get_or mid f bad_row)) → new ≡ set old f (change row)
row_again old mid new f row change below first second =
    second
    ∙ ap (λ x. set mid f (change x)) (row_here old mid f row below first)
    ∙ ap (λ rows. set rows f (change row)) first
    ∙ set-set old f row (change row)

-- what is said of every row holds of the one that was put there
pub row_good : (old : List Row) (frames : Frames) (f : ℕ) (row : Row) → IsConsistent frames → f < length old → frames.rows ≡ set old f row → IsRow row
row_good old frames f row ok below put =
    let within : f < length frames.rows = omega (arith, ap length put, length-set old f row) in
    rw (row_here old frames.rows f row below put) at (ok.rows f bad_row within)

-- references that follow what is counted leave the same over
more_counted : (refs counted refs' counted' : ℕ) → refs' + counted ≡ refs + counted' → counted' ≤ refs' → refs' ≡ counted' + (refs - counted)
more_counted refs counted refs' counted' moved least = omega arith

less_counted : (refs counted counted' : ℕ) → counted ≡ counted' + 1 → counted' ≤ refs - 1 → refs - 1 ≡ counted' + (refs - counted)
less_counted refs counted counted' one least = omega arith

-- a change of a row leaves those references over that it had over
abbrev pub followed : (row new : Row) → Type 0
followed row new = counted_references new.shares new.flights ≤ new.refs → new.refs ≡ counted_references new.shares new.flights + uncounted row

pub flight_begun : (row : Row) → row.flights ≡ 0 → followed row (record row { refs = row.refs + 1; flights = 1 })
flight_begun row none = more_counted row.refs (counted_references row.shares row.flights) (row.refs + 1) (counted_references row.shares 1) (omega arith)

pub flight_ended : (row : Row) → row.flights ≡ 1 → followed row (record row { refs = row.refs - 1; flights = 0 })
flight_ended row one = less_counted row.refs (counted_references row.shares row.flights) (counted_references row.shares 0) (omega arith)

pub over_ended : (row : Row) → row.flights ≡ 1 → uncounted (record row { refs = row.refs - 1; flights = 0 }) ≡ uncounted row
over_ended row one = omega arith

pub entry_more : (row : Row) → followed row (shared row)
entry_more row = ⊎_elim
    (λ none. let more : row.shares + 1 ≡ 0 → ⊥ = omega arith in
    let moved : (row.refs + 1) + (0 + row.flights) ≡ row.refs + (1 + row.flights) = omega arith in
    rw (eq-eqb row.shares 0 none, ne_eqb (row.shares + 1) 0 more) (more_counted row.refs (0 + row.flights) (row.refs + 1) (1 + row.flights) moved))
    (λ some. let more : row.shares + 1 ≡ 0 → ⊥ = omega arith in rw (ne_eqb row.shares 0 some, ne_eqb (row.shares + 1) 0 more) (more_counted row.refs (1 + row.flights) row.refs (1 + row.flights) refl))
    (cases_eq row.shares 0)

pub entry_less : (row : Row) → 0 < row.shares → followed row (unshared row)
entry_less row some =
    let one : row.shares ≡ 0 → ⊥ = omega arith in
    ⊎_elim
    (λ last.
    let none : row.shares - 1 ≡ 0 = omega arith in
    let moved : 1 + row.flights ≡ (0 + row.flights) + 1 = omega arith in
    rw (eq-eqb row.shares 1 last, ne_eqb row.shares 0 one, eq-eqb (row.shares - 1) 0 none) (less_counted row.refs (1 + row.flights) (0 + row.flights) moved))
    (λ more. let left : row.shares - 1 ≡ 0 → ⊥ = omega arith in rw (ne_eqb row.shares 1 more, ne_eqb row.shares 0 one, ne_eqb (row.shares - 1) 0 left) (more_counted row.refs (1 + row.flights) row.refs (1 + row.flights) refl))
    (cases_eq row.shares 1)

-- its references are those that are counted, and what was over before
pub row_counted : (old : List Row) (frames : Frames) (f : ℕ) (before row : Row) → IsConsistent frames → f < length old → frames.rows ≡ set old f row → followed before row → frames.rows ≡ set old f (record row { refs = counted_references row.shares row.flights + uncounted before })
row_counted old frames f before row ok below put follows =
    put ∙ ap (λ refs. set old f (record row { refs = refs })) (follows (row_good old frames f row ok below put).refs.0)

-- a frame whose state has no list stands on none
pub free_without : (frames : Frames) (f : ℕ) → IsConsistent frames → is_free (row_of frames f).state ≡ false → without frames.free f ≡ frames.free
free_without frames f ok off = without-absent frames.free f (ok.free f ∙ rw off refl)

pub modified_without : (frames : Frames) (f : ℕ) → IsConsistent frames → is_modified (row_of frames f).state ≡ false → without frames.modified f ≡ frames.modified
modified_without frames f ok off = without-absent frames.modified f (ok.modified f ∙ rw off refl)

-- the frame at the head of the free list is Free
pub head_free : (frames : Frames) (f : ℕ) → IsConsistent frames → slice_get frames.free 0 ≡ Some f → (row_of frames f).state ≡ Free
head_free frames f ok head =
    let on = found frames.free f 0 head in
    is_free-yes _ (rw (ok.free f) at on)
