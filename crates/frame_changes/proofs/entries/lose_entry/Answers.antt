-- The entry is lost.
use Rattle.std.proofs.Common.{◌≡◌, ℕ, zero, suc, ◌+◌, ◌-◌, ◌<◌, ◌≤◌, ◌==◌, ◌&&◌, ◌∙◌, Bool, List, ap, arith, cond, if◌then◌else◌, refl, slice_set}
use Rattle.std.proofs.lemmas.Bool.{lt-ltb, ne_eqb}
use Rattle.vm_types.specs.declared.names.FrameState.{FrameState}
use Rattle.vm_types.specs.declared.names.FrameState.TheVariants.{Active, Free, Modified, ReleasePending}
use Rattle.pfn_database.specs.declared.row.Row.{Row}
use Rattle.pfn_database.specs.Frames.{row_of}
use Rattle.pfn_database.specs.Rows.{counted_references, uncounted, unshared}
use Rattle.pager_model.specs.Evict.{evicted_to}
use Rattle.frame_changes.proofs.RowChanges.{row_again, row_counted, row_good, entry_less}
use Rattle.frame_changes.proofs.entries.lose_entry.Goals as goal
use Rattle.frame_changes.proofs.entries.lose_entry.Goals.{else-row-eq1-via-then-row-eq1+else-row-eq0, else-row-eq1-via-else-row-eq1}

pub returns-then-row-eq0-clause-rows : goal.returns-then-row-eq0-clause-rows
returns-then-row-eq0-clause-rows c =
    let last : (row_of c.args.frames.now c.args.f.0).shares ≡ 1 = rw c.requires.row at c.if-row-eq1.true in
    let idle : (row_of c.args.frames.now c.args.f.0).flights ≡ 0 = rw c.requires.row at c.if-row-eq0.true in
    let put = row_counted _ _ c.args.f.0 (row_of c.args.frames.now c.args.f.0) _ c.settle.ensures.consistent c.requires.below
    (row_again _ _ _ c.args.f.0 _ (λ (row : Row). record row { state = cond row.modify Modified Free; slot = 0 }) c.requires.below c.unshare.ensures.rows c.settle.ensures.rows)
    (entry_less (row_of c.args.frames.now c.args.f.0) c.requires.shares) in
    rw (last, idle) (rw (last, idle) at put)

-- a frame that other entries share stays active, and one with an open transfer is release pending
goes_on : (shares flights : ℕ) (modify : Bool) (state : FrameState) → state ≡ Active → 0 < shares → flights ≤ 1 → (shares ≡ 1 → flights ≡ 0 → ⊥)
    → (if (shares == 1) && (flights == 1) then ReleasePending else state) ≡ evicted_to shares flights modify
goes_on zero flights modify state is some one few = absurd (omega (arith, some))
goes_on (suc zero) zero modify state is some one few = absurd (few refl refl)
goes_on (suc zero) (suc zero) modify state is some one few = refl
goes_on (suc zero) (suc (suc n)) modify state is some one few = absurd (omega (arith, one))
goes_on (suc (suc n)) flights modify state is some one few =
    let more : suc (suc n) ≡ 1 → ⊥ = omega arith in
    let above : 1 < suc (suc n) = omega arith in
    rw (ne_eqb (suc (suc n)) 1 more, lt-ltb 1 (suc (suc n)) above) is

-- of the row: its state after that
put_there : (rows new : List Row) (f : ℕ) (row : Row) → row.state ≡ Active → 0 < row.shares → row.flights ≤ 1 → (row.shares ≡ 1 → row.flights ≡ 0 → ⊥)
    → new ≡ slice_set rows f (record (unshared row) { refs = counted_references (row.shares - 1) row.flights + uncounted row })
    → new ≡ slice_set rows f (record row { state = evicted_to row.shares row.flights row.modify; refs = counted_references (row.shares - 1) row.flights + uncounted row; shares = row.shares - 1; slot = if row.shares == 1 then 0 else row.slot })
put_there rows new f row active some one few put =
    put
    ∙ ap (λ (s : FrameState). slice_set rows f (record row { state = s; refs = counted_references (row.shares - 1) row.flights + uncounted row; shares = row.shares - 1; slot = if row.shares == 1 then 0 else row.slot }))
    (goes_on row.shares row.flights row.modify row.state active some one few)

pub returns-else-row-eq1-clause-rows : goal.returns-else-row-eq1-clause-rows
returns-else-row-eq1-clause-rows c =
    let row = row_of c.args.frames.now c.args.f.0 in
    let good = row_good _ _ c.args.f.0 (unshared row) c.unshare.ensures.consistent c.requires.below c.unshare.ensures.rows in
    let few : row.shares ≡ 1 → row.flights ≡ 0 → ⊥ = λ last idle. elim c.else-row-eq1.branch [
      | else-row-eq1-via-then-row-eq1+else-row-eq0 w ↦ w.if-row-eq0.false (ap (λ (r : Row). r.flights) c.requires.row ∙ idle)
      | else-row-eq1-via-else-row-eq1 w ↦ w.if-row-eq1.false (ap (λ (r : Row). r.shares) c.requires.row ∙ last)
    ] in
    put_there c.args.frames.now.rows _ c.args.f.0 row c.requires.active c.requires.shares good.flights few
    (row_counted _ _ c.args.f.0 row _ c.unshare.ensures.consistent c.requires.below c.unshare.ensures.rows (entry_less row c.requires.shares))
