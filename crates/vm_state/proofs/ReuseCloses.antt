-- REUSE closes, and its calls may be made.
use Rattle.std.proofs.Common.{◌≡◌, ℕ, ◌+◌, ◌-◌, ◌≤◌, true, false, List, ◌∷◌, Option, Some, None, slice_set, refl, sym, ap, ap₂, ◌∙◌, subst}
use Rattle.std.specs.Option.{option_map}
use Rattle.vm_types.specs.BlockView.{BlockView, Tells}
use Rattle.vm_types.specs.declared.config.Config.{Config}
use Rattle.vm_types.specs.declared.config.Origin.{Origin}
use Rattle.vm_types.specs.declared.config.Origin.TheVariants as origin
use Rattle.vm_types.specs.declared.names.BlockId.{BlockId}
use Rattle.vm_types.specs.declared.names.BlockId.TheVariants as block
use Rattle.vm_types.specs.declared.names.Page.{Page}
use Rattle.vm_types.specs.declared.names.Page.TheVariants.{Private, Shared}
use Rattle.vm_types.specs.declared.names.Pfn.{Pfn}
use Rattle.vm_types.specs.declared.names.Proc.{Proc}
use Rattle.vm_types.specs.declared.names.Seat.{Seat}
use Rattle.vm_journal.specs.declared.entry.Entry.{Entry}
use Rattle.vm_journal.specs.declared.entry.What.TheVariants as what
use Rattle.page_lists.specs.Lists.{without}
use Rattle.page_file.specs.Blocks.{Blocks}
use Rattle.global_pages.specs.GlobalPages.{GlobalPages}
use Rattle.page_tables.specs.PageTables.{PageTables}
use Rattle.section_table.specs.SectionTable.{behind_of}
use Rattle.pfn_database.specs.Frames.{Frames}
use Rattle.pfn_database.specs.Rows.{empty_row}
use Rattle.pager_model.specs.Maps.{Mapped, is_private}
use Rattle.pager_model.specs.OfConfig.{IsOrigin}
use Rattle.pager_model.specs.Pager.{Pager}
use Rattle.pager_model.specs.Run.{pager_after}
use Rattle.pager_model.specs.Step.{IsLegal}
use Rattle.frame_store.specs.StoreView.{StoreView}
use Rattle.state_parts.specs.ChargedTable.{ChargedTable}
use Rattle.pager_laws.proofs.EntryPages.{mapped_right}
use Rattle.state_fits.specs.Changes.{is_failed_first, released_in}
use Rattle.state_fits.specs.Parts.{Parts}
use Rattle.state_fits.specs.PartsFit.{PartsFit}
use Rattle.state_fits.proofs.ReuseCan.{CanReuse, reuse_can, reuse_global, reuse_private, reuse_uncharges}
use Rattle.state_fits.proofs.ReuseParts.{holds, own, reuse_private_parts, reuse_shared_parts, reuse_uncharged_parts}
use Rattle.vm_state.specs.History.{owed}
use Rattle.state_pages.specs.Resting.{IsAtRest, IsNumberedOrigin, IsUncharged, MayRest, MayUncharge, Rests, Uncharges}
use Rattle.state_pages.specs.SectionPages.{IsGlobal, IsNumbered}
use Rattle.vm_state.specs.StateKept.{IsState}
use Rattle.vm_state.proofs.Closing.{closed, kept, right}
use Rattle.vm_state.proofs.Numbered.{has_number, numbered_page}

module _ {B : Type 0} {seen : B → BlockView} {tells : Tells} {config : Config} {past : List Entry} {spare : ℕ} {store : StoreView B} {fields : Parts} {numbers : List ℕ}
    (before : IsState seen tells config past spare store fields numbers) (seat : Seat) (f : Pfn) (page : Page)
    (legal : IsLegal config past (pager_after config past) (record { seat = seat; what = what.Reuse f page })) where
  abbrev a : Pager
  a = pager_after config past

  abbrev e : Entry
  e = record { seat = seat; what = what.Reuse f page }

  pub can : CanReuse f.0 fields
  can = reuse_can config past a seat f page fields before.formed (kept before) (right before) legal before.parts

  pub numbered : IsNumbered config numbers page
  numbered = numbered_page before f.0 page (holds config past a seat f page fields (kept before) (right before) legal before.parts)

  pub global : IsGlobal config fields.globals page
  global = by page refl
    where
      by : (g : Page) → page ≡ g → IsGlobal config fields.globals g
      by (Private p v) is = tt
      by (Shared s i) is = reuse_global config past a seat f page fields before.formed (kept before) (right before) legal before.parts s i is

  -- the number of the page that is behind a private page
  numbered_behind : (p : Proc) (v : ℕ) → page ≡ Private p v → (b : Origin) → behind_of (fields.sections) p.0 v ≡ Some b → IsNumberedOrigin config numbers b
  numbered_behind p v is b behind =
      let found = mapped_right config a p.0 v page (right before) (own config past a seat f page fields (kept before) (right before) legal before.parts p v is) in
      let known = sym behind ∙ (before.parts.sections.each p.0 v ∙ ap (option_map (λ (m : Mapped). m.origin)) found.1) in
      let same : (found.0).origin ≡ b = cc known in
      by b (subst (λ (o : Origin). IsOrigin config o) same (found.3).origin)
    where
      by : (o : Origin) → IsOrigin config o → IsNumberedOrigin config numbers o
      by origin.Zero there = tt
      by (origin.Section s i) there = has_number before s.0 i there

  pub may_rest : MayRest config numbers fields.pages fields.sections fields.tables page
  may_rest = by page refl
    where
      by : (g : Page) → page ≡ g → MayRest config numbers fields.pages fields.sections fields.tables g
      by (Shared s i) is = tt
      by (Private p v) is =
          let may = reuse_private config past a seat f page fields before.formed (kept before) (right before) legal before.parts p v is in
          record { mapped = may.mapped; charged = may.charged; behind = may.behind; numbered = numbered_behind p v is; entry = may.entry }

  pub may_uncharge : MayUncharge page fields.failed fields.pages fields.file
  may_uncharge = by page refl
    where
      by : (g : Page) → page ≡ g → MayUncharge g fields.failed fields.pages fields.file
      by (Shared s i) is = tt
      by (Private p v) is =
          let may = reuse_private config past a seat f page fields before.formed (kept before) (right before) legal before.parts p v is in (
            record { proc = may.proc; page = may.place },
            λ first. reuse_uncharges config past a seat f page fields before.formed (kept before) (right before) legal before.parts p v is (ap (is_failed_first fields.failed) is ∙ first),
          )

  module _ (frames' : Frames) (rows : frames'.rows ≡ slice_set fields.frames.rows f.0 empty_row) (free : frames'.free ≡ f.0 ∷ without fields.frames.free f.0) (modified : frames'.modified ≡ without fields.frames.modified f.0)
      (tables' : PageTables) (globals' : GlobalPages) (pages' : ChargedTable) (file' : Blocks) where
    abbrev left : Parts
    left = record fields { frames = frames'; tables = tables'; pages = pages'; globals = globals'; file = file'; failed = None }

    private_stays : (p : Proc) (v : ℕ) → page ≡ Private p v → is_failed_first fields.failed page ≡ false → IsAtRest config fields.pages fields.sections fields.tables tables' p.0 v → globals' ≡ fields.globals → (pages' ≡ fields.pages) × (file' ≡ fields.file)
        → PartsFit config (e ∷ past) (pager_after config (e ∷ past)) left
    private_stays p v is other rest globals same =
        rw (globals, same.0, same.1) (reuse_private_parts config past a seat f page fields (kept before) (right before) legal before.parts p v is
        rest.charged rest.behind rest.pte frames' tables' other (rows, free, modified) rest.kept rest.origin rest.entry rest.procs rest.changed)

    private_goes : (p : Proc) (v : ℕ) → page ≡ Private p v → is_failed_first fields.failed page ≡ true → IsAtRest config fields.pages fields.sections fields.tables tables' p.0 v → globals' ≡ fields.globals → IsUncharged (Private p v) fields.pages pages' fields.file file'
        → PartsFit config (e ∷ past) (pager_after config (e ∷ past)) left
    private_goes p v is first rest globals gone =
        rw (globals, gone.released) (reuse_uncharged_parts config past a seat f page fields (kept before) (right before) legal before.parts p v is
        rest.charged rest.behind rest.pte frames' tables' pages' first (rows, free, modified) rest.kept rest.origin rest.entry rest.procs rest.changed gone.row)

    by_failed : (p : Proc) (v : ℕ) (o : Option BlockId) → page ≡ Private p v → fields.failed ≡ o → IsAtRest config fields.pages fields.sections fields.tables tables' p.0 v → globals' ≡ fields.globals → Uncharges (Private p v) o fields.pages pages' fields.file file'
        → PartsFit config (e ∷ past) (pager_after config (e ∷ past)) left
    by_failed p v None is failed rest globals same = private_stays p v is (ap₂ is_failed_first failed is) rest globals same
    by_failed p v (Some (block.Section s i)) is failed rest globals gone = private_goes p v is (ap₂ is_failed_first failed is) rest globals gone
    by_failed p v (Some (block.PageFile n)) is failed rest globals same = private_stays p v is (ap₂ is_failed_first failed is) rest globals same
    by_failed p v (Some (block.Swap r n)) is failed rest globals same = private_stays p v is (ap₂ is_failed_first failed is) rest globals same

    by_page : (g : Page) → page ≡ g → Rests config fields.pages fields.sections fields.tables tables' g → globals' ≡ released_in config g fields.globals → Uncharges g fields.failed fields.pages pages' fields.file file'
        → PartsFit config (e ∷ past) (pager_after config (e ∷ past)) left
    by_page (Private p v) is rest globals charge = by_failed p v fields.failed is refl rest globals charge
    by_page (Shared s i) is rest globals same =
        let there = globals ∙ ap (λ (g : Page). released_in config g fields.globals) (sym is) in
        rw (rest, there, same.0, same.1) (reuse_shared_parts config past a seat f page fields (kept before) (right before) legal before.parts frames' (ap is_private is) (rows, free, modified))

    pub reuse_closes : owed (e ∷ past) + 1 ≤ spare → Rests config fields.pages fields.sections fields.tables tables' page → globals' ≡ released_in config page fields.globals → Uncharges page fields.failed fields.pages pages' fields.file file'
        → IsState seen tells config (e ∷ past) (spare - 1) (record store { frames = frames' }) left numbers
    reuse_closes paid rest globals charge =
        closed before e (λ told. tt) legal paid (record store { frames = frames' }) left (by_page page refl rest globals charge) (refl, refl)
        (record { ids = before.places.ids; buffers = before.places.buffers; blocks = before.places.blocks; left = before.places.left; firsts = before.places.firsts; size = before.places.size })
