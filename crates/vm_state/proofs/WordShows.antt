-- The word of a page is what the parts stand for.
use Rattle.std.proofs.Common.{◌≡◌, ℕ, ◌<◌, Bool, List, Option, Some, None, length, refl, sym, ap, ◌∙◌, arith}
use Rattle.std.specs.Option.{option_map}
use Rattle.std.proofs.lemmas.Option.{none-some, same_Some}
use Rattle.vm_types.specs.BlockView.{BlockView, Tells}
use Rattle.vm_types.specs.declared.config.Config.{Config}
use Rattle.vm_journal.specs.declared.entry.Entry.{Entry}
use Rattle.pte_forms.specs.Word.{word_of}
use Rattle.pte_forms.specs.declared.pte.Place.{Place}
use Rattle.pte_forms.specs.declared.pte.Place.TheVariants.{Valid as Valid_place}
use Rattle.pte_forms.specs.declared.pte.Pte.{Pte}
use Rattle.page_tables.specs.PageTables.{pte_in}
use Rattle.pfn_database.specs.Frames.{row_of}
use Rattle.pfn_database.specs.declared.row.Row.{Row}
use Rattle.pager_model.specs.Lookups.{entry_of}
use Rattle.pager_model.specs.Pager.{Pager, Valid}
use Rattle.pager_model.specs.Run.{pager_after}
use Rattle.pager_laws.proofs.ValidEntries.{valid_at_page}
use Rattle.frame_store.specs.StoreView.{StoreView}
use Rattle.state_fits.specs.Frames.{frame_row}
use Rattle.state_fits.specs.Parts.{Parts}
use Rattle.state_pages.specs.MarkedWords.{place_marked, word_marked}
use Rattle.state_pages.specs.Shown.{frame_by, frame_entry}
use Rattle.vm_state.specs.PageReadings.{frame_of}
use Rattle.vm_state.specs.StateKept.{IsState}
use Rattle.vm_state.specs.Words.{word_in}
use Rattle.vm_state.proofs.Closing.{kept}
use Rattle.vm_state.proofs.PageShows.{frame_is}

same_marks : (m n : ℕ → Bool) → ((f : ℕ) → m f ≡ n f) → (x : Place) → place_marked m x ≡ place_marked n x
same_marks m n same (Valid_place k f) = ap (λ (b : Bool). Valid_place b f) (same f.0)
same_marks m n same other = refl

module _ {B : Type 0} {seen : B → BlockView} {tells : Tells} {config : Config} {past : List Entry} {spare : ℕ} {store : StoreView B} {fields : Parts} {numbers : List ℕ}
    (before : IsState seen tells config past spare store fields numbers) (p v : ℕ) where
  abbrev a : Pager
  a = pager_after config past

  -- the frame of a valid entry is there
  pub below : (pte : Pte) → Some pte ≡ pte_in fields.tables p v → (f : ℕ) → frame_by pte.place ≡ Some f → f < length fields.frames.rows
  below pte there f is = go (entry_of a.valid p v) refl (ap frame_entry there ∙ frame_is before p v)
    where
      go : (o : Option Valid) → entry_of a.valid p v ≡ o → frame_by pte.place ≡ option_map frame_of o → f < length fields.frames.rows
      go None at shown = absurd (none-some f (sym shown ∙ is))
      go (Some e) at shown =
          let within = (valid_at_page config past a p v e (kept before) at).within in
          let same : e.frame ≡ f = same_Some e.frame f (sym shown ∙ is) in
          let count = before.parts.frames.count in
          omega (arith, within, same, count)

  mark_is : (f : ℕ) → (row_of fields.frames f).modify ≡ a.modify f
  unfolding frame_row
  mark_is f = ap (λ (row : Row). row.modify) (before.parts.frames.rows f)

  pub word_is : (pte : Pte) → Some pte ≡ pte_in fields.tables p v → Some (word_marked (λ f. (row_of fields.frames f).modify) pte) ≡ word_in config a p v
  word_is pte there =
      ap (λ (x : Place). Some (word_of (record pte { place = x }))) (same_marks (λ f. (row_of fields.frames f).modify) a.modify mark_is pte.place)
      ∙ ap (option_map (word_marked a.modify)) (there ∙ before.parts.tables.each p v)

  pub none_is : None ≡ pte_in fields.tables p v → None ≡ word_in config a p v
  none_is there = ap (option_map (word_marked a.modify)) (there ∙ before.parts.tables.each p v)
