-- A write begins: the frame's row.
use Rattle.std.proofs.Common.{◌≡◌, ℕ, ◌+◌, ◌<◌, Bool, false, List, ◌∷◌, Option, nat_eq, slice_set, refl, sym, ap, ◌∙◌, arith}
use Rattle.std.proofs.lemmas.Bool.{and_from, and_left, ne_eqb}
use Rattle.vm_types.specs.Ring.{Ring}
use Rattle.vm_types.specs.declared.names.BlockId.{BlockId}
use Rattle.vm_types.specs.declared.names.FrameState.{FrameState}
use Rattle.vm_types.specs.declared.names.Page.{Page}
use Rattle.page_lists.specs.Lists.{without}
use Rattle.pfn_database.specs.Frames.{Frames, row_of}
use Rattle.pfn_database.specs.Rows.{counted_references, uncounted, state_in_transfer}
use Rattle.pfn_database.specs.declared.row.Row.{Row}
use Rattle.pager_model.specs.Flights.{Flight, writing}
use Rattle.pager_model.specs.Lookups.{shares}
use Rattle.pager_model.specs.Pager.{Valid}
use Rattle.pager_model.specs.Sets.{at_number}
use Rattle.pager_model.specs.Transfers.{is_read_on, is_write_on, reads_on, writes_on}
use Rattle.pager_rules.proofs.Basics.{at_number_other, at_number_same, count_cons_no, count_cons_yes, nat_eq_refl}
use Rattle.pager_rules.proofs.Put.{and_false}
use Rattle.state_fits.specs.Frames.{FramesFit, frame_pins, frame_row, row_by, slot_for}
use Rattle.state_fits.proofs.FrameRows.{over_pins}
use Rattle.state_fits.proofs.PartsSet.{frames_set}

module _ (state_of state_of' : ℕ → FrameState) (page : ℕ → Option Page) (modify : ℕ → Bool) (valid : List Valid) (ring : ℕ → Ring) (flights : List Flight) (start seat f : ℕ) (d : BlockId)
    (still : reads_on f flights + writes_on f flights ≡ 0) (here : state_of' f ≡ state_in_transfer (state_of f)) (there : (h : ℕ) → (f ≡ h → ⊥) → state_of' h ≡ state_of h) where
  abbrev begun : Flight
  begun = record { start = start; seat = seat; frame = f; block = d; direction = writing }

  abbrev old_row : ℕ → Row
  old_row = frame_row state_of page modify valid ring flights

  abbrev new_row : ℕ → Row
  new_row = frame_row state_of' page (at_number modify f false) valid ring (begun ∷ flights)

  one : reads_on f (begun ∷ flights) + writes_on f (begun ∷ flights) ≡ 1
  one =
      let reads = count_cons_no (is_read_on f) begun flights (and_false (nat_eq f f)) in
      let writes = count_cons_yes (is_write_on f) begun flights (and_from _ _ (nat_eq_refl f) refl) in
      omega (arith, reads, writes, still)

  same : (h : ℕ) → (f ≡ h → ⊥) → reads_on h (begun ∷ flights) + writes_on h (begun ∷ flights) ≡ reads_on h flights + writes_on h flights
  same h apart =
      let reads = count_cons_no (is_read_on h) begun flights (and_left _ _ (ne_eqb f h apart)) in
      let writes = count_cons_no (is_write_on h) begun flights (and_left _ _ (ne_eqb f h apart)) in
      omega (arith, reads, writes)

  row_here : (row : Row) → row ≡ old_row f → record row { state = state_in_transfer row.state; modify = false; refs = counted_references row.shares 1 + uncounted row; flights = 1 } ≡ new_row f
  unfolding frame_row
  row_here row is = λ i. record {
    state = (ap (λ (r : Row). state_in_transfer r.state) is ∙ sym here) i;
    page = (is i).page;
    modify = sym (at_number_same modify f false) i;
    refs = (ap (λ (r : Row). counted_references r.shares 1 + uncounted r) is ∙ (λ j. counted_references (shares valid f) (sym one j) + over_pins (counted_references (shares valid f) (reads_on f flights + writes_on f flights)) (frame_pins valid ring f) j)) i;
    shares = (is i).shares;
    slot = (is i).slot;
    flights = sym one i;
  }

  row_there : (h : ℕ) → (f ≡ h → ⊥) → new_row h ≡ old_row h
  unfolding frame_row
  row_there h apart = λ i. row_by (there h apart i) (page h) (at_number_other modify f false h apart i) (shares valid h) (same h apart i) (slot_for ring (page h)) (frame_pins valid ring h)

  pub write_begun : (n : ℕ) (free modified modified' : List ℕ) (pfns pfns' : Frames) → FramesFit old_row n free modified pfns → f < n
      → pfns'.rows ≡ slice_set pfns.rows f (record (row_of pfns f) { state = state_in_transfer (row_of pfns f).state; modify = false; refs = counted_references (row_of pfns f).shares 1 + uncounted (row_of pfns f); flights = 1 })
      → pfns'.free ≡ pfns.free → pfns'.modified ≡ without pfns.modified f → without modified f ≡ modified' → FramesFit new_row n free modified' pfns'
  write_begun n free modified modified' pfns pfns' fit below rows is_free is_modified lists =
      frames_set old_row new_row n free free modified modified' pfns pfns' f _ fit below rows (is_free ∙ fit.free_list) (is_modified ∙ (ap (λ (xs : List ℕ). without xs f) fit.modified_list ∙ lists))
      (row_here (row_of pfns f) (fit.rows f)) row_there
