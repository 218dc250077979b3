-- The report of a run has a text: what its frames hold has a name.
use Rattle.std.proofs.Common.{◌≡◌, inl, inr, ℕ, ◌^◌, ◌<◌, ◌≤◌, List, Option, Some, None, length, refl, sym, subst, arith}
use Rattle.std.specs.Prelude.{IfSome, IsSomeAnd, All}
use Rattle.std.proofs.lemmas.List.FromFn.{get_or-map-range_with_len, length-map-range_with_len}
use Rattle.std.proofs.lemmas.Option.{get_or_from_slice_get, slice_get_within}
use Rattle.vm_types.specs.Configuration.{IsSection, IsSectionPage, IsWellFormed}
use Rattle.vm_types.specs.declared.config.Config.{Config}
use Rattle.vm_types.specs.declared.config.Section.{Section}
use Rattle.vm_types.specs.declared.names.Page.{Page}
use Rattle.vm_types.specs.declared.names.Page.TheVariants.{Private, Shared}
use Rattle.vm_text.specs.Named.{IsPrintablePage, IsShortSection}
use Rattle.vm_journal.specs.declared.entry.Entry.{Entry}
use Rattle.pager_model.specs.OfConfig.{IsMappable, IsPageOf}
use Rattle.pager_model.specs.Report.{frame_row, frame_rows, process_row, report_of}
use Rattle.pager_model.specs.Run.{IsRun, pager_after}
use Rattle.pager_laws.proofs.OfConfigKept.{run_right}
use Rattle.run_text.specs.Printable.{IsPrintable, IsPrintableRow}

small : (v : ℕ) → IsMappable v → v < 2 ^ 23
small v (inl less) = omega (arith, less)
small v (inr most) = omega (arith, most.1)

short_name : (config : Config) (s i : ℕ) → IsWellFormed config → IsSectionPage config.sections s i → IsShortSection config.sections s
short_name config s i formed there =
    let at = there.1 in
    let named : IsSection config.version there.0 = subst (IsSection config.version) (get_or_from_slice_get config.sections s there.0 there.0 at) (formed.sections.each s there.0 (slice_get_within config.sections s there.0 at)) in
    subst (λ (o : Option Section). IsSomeAnd o (λ (section : Section). length section.name ≤ 15)) (sym at) named.name.length.1

page_named : (config : Config) (g : Page) → IsWellFormed config → IsPageOf config g → IsPrintablePage config.sections g
page_named config (Private p v) formed of_it = (omega (arith, of_it.0, formed.some_process.1), small v of_it.1)
page_named config (Shared s i) formed of_it = short_name config s.0 i formed of_it.0

module _ (config : Config) (past : List Entry) (formed : IsWellFormed config) (run : IsRun config past) where
  held_named : (f : ℕ) (o : Option Page) → (pager_after config past).page f ≡ o → IfSome o (IsPrintablePage config.sections)
  held_named f None is = tt
  held_named f (Some g) is = page_named config g formed ((run_right config past formed run).held f g is)

  rows_named : All (IsPrintableRow config.sections) (frame_rows config past (pager_after config past))
  rows_named f d within =
      let row = frame_row past (pager_after config past) in
      let inside : f < config.frames = subst (λ (n : ℕ). f < n) (length-map-range_with_len row 0 config.frames) within in
      subst (IsPrintableRow config.sections) (sym (get_or-map-range_with_len row 0 config.frames f f d inside (omega arith))) (held_named f ((pager_after config past).page f) refl)

  pub report_printable : IsPrintable config.sections (report_of config past (pager_after config past))
  report_printable =
      record {
        states = refl;
        processes = omega (arith, length-map-range_with_len (process_row (pager_after config past)) 0 (length config.procs), formed.some_process.1);
        pages = rows_named;
      }
