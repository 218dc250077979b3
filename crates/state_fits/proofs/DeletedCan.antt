-- What the calls that delete one page of a range require of the parts.
use Rattle.std.proofs.Common.{◌≡◌, inl, inr, ℕ, ◌+◌, ◌-◌, ◌<◌, ◌≤◌, true, false, List, [], ◌∷◌, Some, length, refl, sym, ap, ◌∙◌, subst, arith}
use Rattle.std.specs.Prelude.{IsSome}
use Rattle.std.proofs.lemmas.Option.{none-some}
use Rattle.vm_types.specs.declared.config.Config.{Config}
use Rattle.vm_types.specs.declared.names.BlockId.TheVariants as block
use Rattle.vm_types.specs.declared.names.FrameState.{FrameState}
use Rattle.vm_types.specs.declared.names.FrameState.TheVariants as state
use Rattle.vm_types.specs.declared.names.Page.{Page}
use Rattle.vm_types.specs.declared.names.Page.TheVariants.{Private}
use Rattle.vm_types.specs.Same.{same_page}
use Rattle.vm_journal.specs.declared.entry.Entry.{Entry}
use Rattle.page_file.specs.Blocks.{IsAssignedBlock, assigned_blocks}
use Rattle.page_tables.specs.PageTables.{IsMapped, pte_in}
use Rattle.pfn_database.specs.Frames.{row_of}
use Rattle.pfn_database.specs.Rows.{IsOneOf}
use Rattle.pfn_database.specs.declared.row.Row.{Row}
use Rattle.pte_forms.specs.declared.pte.Pte.{Pte}
use Rattle.section_table.specs.SectionTable.{behind_of}
use Rattle.pager_laws.proofs.KeptIsSound.{count_from_has}
use Rattle.pager_model.specs.Around.{FrameView, frame_view, quiet}
use Rattle.pager_model.specs.Flights.{Flight, is_busy, open_flights}
use Rattle.pager_model.specs.Forget.{after_delete, forgotten}
use Rattle.pager_model.specs.Lookups.{block_of, page_at, page_by}
use Rattle.pager_model.specs.Maps.{page_number, proc}
use Rattle.pager_model.specs.Own.{IsResident}
use Rattle.pager_model.specs.Pager.{Pager}
use Rattle.pager_model.specs.Served.{IsDelete}
use Rattle.pager_model.specs.Sets.{has_page}
use Rattle.pager_rules.proofs.Frames.{at_state}
use Rattle.pager_rules.specs.Kept.{FitsFrame, IsKept}
use Rattle.state_parts.specs.ChargedTable.{kept_at}
use Rattle.state_parts.specs.declared.charged_page.ChargedPage.{ChargedPage}
use Rattle.pager_laws.proofs.Holders.{holder_holds, holds_within}
use Rattle.state_fits.specs.Forgetting.{frame_in_transition, released_block}
use Rattle.state_fits.specs.Pages.{charged_row}
use Rattle.state_fits.specs.Parts.{Parts}
use Rattle.state_fits.specs.PartsFit.{PartsFit}
use Rattle.state_fits.proofs.BlockFreed.{assigned_there, length_without, released_charged}
use Rattle.state_fits.proofs.DeletedParts.{idle, in_transition, kept_deleting, map_is, mapped, one_more}
use Rattle.state_fits.proofs.ChargedRows.{row_some}
use Rattle.state_fits.proofs.ForgottenParts.{file_after}
use Rattle.state_fits.proofs.FrameRows.{row_read}
use Rattle.state_fits.proofs.ServedCan.{mapped_behind, mapped_entry}
use Rattle.state_fits.proofs.UnchargedPage.{assigned_fit}

abbrev IsListedOrFailed : FrameState → Type 0
IsListedOrFailed s = IsOneOf (state.Free ∷ state.Modified ∷ state.ReadError ∷ []) s

-- a frame that holds a page, without a valid entry or an open flight, is on a list or in read error
resting : (x : FrameView) (g : Page) → FitsFrame x → x.page ≡ Some g → x.shares ≡ 0 → x.reads + x.writes ≡ 0 → IsListedOrFailed x.state
resting x g fits holds unshared still = go x.state refl
  where
    go : (s : FrameState) → x.state ≡ s → IsListedOrFailed s
    go state.Free is = inl refl
    go state.Modified is = inr (inl refl)
    go state.ReadError is = inr (inr (inl refl))
    go state.Bad is = absurd (none-some g (sym (at_state x state.Bad is fits).page ∙ holds))
    go state.Active is = let some = (at_state x state.Active is fits).shares in absurd (omega (arith, some, unshared))
    go state.Writing is = let one = (at_state x state.Writing is fits).writes in absurd (omega (arith, one, still))
    go state.ReleasePending is = let one = (at_state x state.ReleasePending is fits).writes in absurd (omega (arith, one, still))
    go state.Reading is = let one = (at_state x state.Reading is fits).reads in absurd (omega (arith, one, still))

module _ (config : Config) (past : List Entry) (a : Pager) (p address pages : ℕ) (kept : IsKept config (quiet (open_flights past)) a) (own : IsResident config a p)
    (still : is_busy p (open_flights past) ≡ false) (legal : IsDelete config past a p address pages) (i v : ℕ) (below : i < pages) (is : page_number address + i ≡ v)
    (parts : Parts) (fit : PartsFit config past (after_delete config a p address i) parts) where
  abbrev flights : List Flight
  flights = open_flights past

  abbrev g : Page
  g = Private (proc p) v

  -- the state before the page
  abbrev b : Pager
  b = after_delete config a p address i

  kept_b : IsKept config (quiet flights) b
  kept_b = kept_deleting config past a p address pages kept own still legal i (omega (arith, below))

  own_page : (h : Page) × (page_by config a.map p v ≡ Some h)
  own_page = mapped config past a p address pages kept own still legal i v below is

  page_is : page_by config b.map p v ≡ Some own_page.0
  page_is = ap (page_at config p v) (map_is config past a p address pages kept own still legal i v below is) ∙ own_page.1

  pub can_unmap : IsMapped parts.tables p v × IsSome (behind_of parts.sections p v)
  can_unmap = (mapped_entry config past b parts fit p v own_page.0 page_is, mapped_behind config past b parts fit p v own_page.0 page_is)

  pub can_empty : (pte : Pte) → pte_in parts.tables p v ≡ Some pte → (f : ℕ) → frame_in_transition pte.place ≡ Some f
      → (f < length (parts.frames).rows) × IsOneOf (state.Free ∷ state.Modified ∷ state.ReadError ∷ []) (row_of parts.frames f).state × ((row_of parts.frames f).flights ≡ 0)
  can_empty pte there f named =
      let holds : b.page f ≡ Some g = holder_holds config b.page g f (sym (in_transition config past a p address pages kept own still legal i v below is parts fit pte there) ∙ named) in
      let rests = idle config past a p address pages kept own still legal i v below is in
      let row = row_read b.state b.page b.modify b.valid b.ring flights config.frames b.free b.modified parts.frames f fit.frames in
      let within = holds_within config (quiet flights) b f g kept_b holds in (
        (let count = fit.frames.count in omega (arith, within, count)),
        subst IsListedOrFailed (sym (ap (λ (r : Row). r.state) row)) (resting (frame_view config (quiet flights) b f) g (kept_b.frames f) holds (rests.unshared f holds) (rests.still f holds)),
        ap (λ (r : Row). r.flights) row ∙ rests.still f holds,
      )

  module _ (row : ChargedPage) (found : kept_at parts.pages (Private (proc p) v) ≡ Some row) where
    row_found : charged_row b.charged b.touched b.lies b.assigned g ≡ Some row
    row_found = sym (fit.pages.each g) ∙ found

    row_is : (has_page b.charged g ≡ true) × (block_of b.assigned g ≡ row.assigned)
    row_is =
        let its = row_some b.charged b.touched b.lies b.assigned g row row_found in
        (its.0, ap (λ (r : ChargedPage). r.assigned) (sym its.1))

    abbrev c : Pager
    c = forgotten config b g

    -- afterwards too no more blocks are assigned than pages are charged
    few : length c.assigned ≤ length c.charged
    few =
        subst (λ (x : Pager). length x.assigned ≤ length x.charged) (one_more config past a p address pages kept own still legal i v below is)
        (let after = kept_deleting config past a p address pages kept own still legal (i + 1) (omega (arith, below)) in
        let next = after_delete config a p address (i + 1) in
        assigned_fit next.assigned next.charged (λ h. (after.pages h).blocks) (λ h. (after.pages h).charged))

    pub can_release : (n : ℕ) → row.assigned ≡ Some n → IsAssignedBlock parts.file n
    can_release n assigned =
        let blocks = (kept_b.pages g).blocks in
        let once = (kept_b.pages g).charged in
        assigned_there b.assigned g (omega (arith, blocks, once)) (λ m. (kept_b.blocks (block.PageFile m)).owners) (length b.charged) config.pagefile parts.file n (row_is.1 ∙ assigned) fit.file

    -- once its block is released
    pub can_uncharge : assigned_blocks (released_block row.assigned parts.file) < (released_block row.assigned parts.file).charged
    can_uncharge =
        let after = file_after config past b p v kept_b (Some row) row_found config.pagefile parts.file fit.file in
        let blocks : assigned_blocks (released_block row.assigned parts.file) ≡ length c.assigned = after.blocks in
        let charges : parts.file.charged - 1 ≡ length c.charged = after.charges in
        let before = fit.file.charges in
        let some = count_from_has b.charged g row_is.0 in
        let counted = length_without (same_page g) b.charged in
        let same = released_charged row.assigned parts.file in
        omega (arith, blocks, charges, few, before, some, counted, same)
