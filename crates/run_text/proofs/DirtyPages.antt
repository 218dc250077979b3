-- The dirty pages of a well-formed configuration have names.
use Rattle.std.proofs.Common.{◌≡◌, ℕ, ◌+◌, ◌<◌, ◌≤◌, Bool, true, false, Option, List, [], ◌∷◌, length, map, sym, subst, arith}
use Rattle.std.specs.Prelude.{All, IsSomeAnd, if◌then◌else◌}
use Rattle.std.specs.List.{range_with_len}
use Rattle.std.proofs.lemmas.List.Elements.{All-append, All-filter, All-map, All-nil}
use Rattle.vm_types.specs.Configuration.{IsWellFormed, section_pages}
use Rattle.vm_types.specs.Kinds.{is_shared_kind}
use Rattle.vm_types.specs.declared.config.Config.{Config}
use Rattle.vm_types.specs.declared.config.Section.{Section}
use Rattle.vm_types.specs.declared.names.Page.{Page}
use Rattle.vm_types.specs.declared.names.Page.TheVariants.{Shared}
use Rattle.vm_text.specs.Named.{AreNames, IsPrintablePage, IsShortSection}
use Rattle.vm_text.proofs.Printable.{config_names, section_named}
use Rattle.pager_model.specs.Pager.{Pager}
use Rattle.pager_model.specs.DirtyPages.{dirty_pages, is_dirty, pages_from}

module _ (procs : ℕ) (names : List Section) (are : AreNames procs names) where
  short_name : (s : ℕ) → s < length names → IsShortSection names s
  short_name s within =
      let found = section_named procs names s are within in
      subst (λ (o : Option Section). IsSomeAnd o (λ (section : Section). length section.name ≤ 15)) (sym found.1) found.2.length.1

  -- the pages of a shared section, and none of another one
  own_printable : (s : ℕ) (b : Bool) (pages : List ℕ) → s < length names
      → All (IsPrintablePage names) (if b then map (Shared (record { 0 = s })) pages else [])
  own_printable s true pages within =
      All-map (IsPrintablePage names) (Shared (record { 0 = s })) pages (λ k d inside. short_name s within)
  own_printable s false pages within = All-nil (IsPrintablePage names)

  -- the pages of the sections that are left
  from_printable : (s : ℕ) (sections : List Section) → s + length sections ≡ length names → All (IsPrintablePage names) (pages_from s sections)
  from_printable s [] sized = All-nil (IsPrintablePage names)
  from_printable s (section ∷ sections) sized =
      let pages = range_with_len 0 (section_pages section) in
      All-append (IsPrintablePage names) (if is_shared_kind section.kind then map (Shared (record { 0 = s })) pages else []) (pages_from (s + 1) sections)
      (own_printable s (is_shared_kind section.kind) pages (omega arith)) (from_printable (s + 1) sections (omega arith))

dirty_printable : (config : Config) (a : Pager) → IsWellFormed config → All (IsPrintablePage config.sections) (dirty_pages config a)
dirty_printable config a formed =
    All-filter (is_dirty config a) (IsPrintablePage config.sections) (pages_from 0 config.sections)
    (from_printable (length config.procs) config.sections (config_names config formed) 0 config.sections (omega arith))

-- by what the printing calls are given
pub told_printable : (config : Config) (a : Pager) (names : List Section) (pages : List Page)
    → IsWellFormed config → names ≡ config.sections → pages ≡ dirty_pages config a → All (IsPrintablePage names) pages
told_printable config a names pages formed named told =
    subst (λ (ns : List Section). All (IsPrintablePage ns) pages) (sym named) (subst (All (IsPrintablePage config.sections)) (sym told) (dirty_printable config a formed))
