-- The lines that map pages. Source: this project's own.
use Rattle.std.specs.Prelude.{ℕ, ◌+◌, ◌*◌, ◌==◌, Bool, ◌&&◌, nat_le, nat_lt, not, List, [], ◌∷◌, Result, Ok, Err}
use Rattle.std.specs.List.{list_any}
use Rattle.vm_types.specs.declared.limits.TheConstants.{P0_PAGES, PAGE_BYTES}
use Rattle.vm_types.specs.declared.config.Config.{Config}
use Rattle.vm_types.specs.declared.config.Mapping.{Mapping}
use Rattle.vm_types.specs.declared.config.Origin.{Origin}
use Rattle.vm_types.specs.declared.config.Origin.TheVariants as origin
use Rattle.trace_words.specs.declared.cause.Cause.TheVariants.{OutOfRange, Repeated}
use Rattle.trace_words.specs.Judged.{◌>>=◌, owed}
use Rattle.trace_words.specs.Number.{decimal}
use Rattle.trace_words.specs.Protection.{protection}
use Rattle.trace_lines.specs.declared.breach.Bound.TheVariants.{Free, Multiple, Pages, Regions}
use Rattle.trace_lines.specs.declared.breach.Breach.{Breach}
use Rattle.trace_lines.specs.Breaches.{at_word, bounded, marked, miscounted, ranged}
use Rattle.trace_lines.specs.Lookups.{process, section, pages_at, aligned, is_inside}
use Rattle.trace_lines.specs.Says.{Says, Map}

-- whether a page is mapped by both
abbrev pub overlaps : Mapping → Mapping → Bool
overlaps m n =
    ((m.proc).0 == (n.proc).0) && nat_lt (m.at).0 ((n.at).0 + PAGE_BYTES * n.pages) && nat_lt (n.at).0 ((m.at).0 + PAGE_BYTES * m.pages)

-- a mapping inside the regions, of pages that aren't mapped yet
abbrev pub mapped : Config → Mapping → Result Says Breach
mapped config m =
    owed (is_inside (m.at).0 m.pages) (bounded 3 OutOfRange Regions)
    (owed (not (list_any (λ before. overlaps before m) config.maps)) (at_word 3 Repeated) (Ok (Map m)))

abbrev pub mapping : ℕ → ℕ → ℕ → Origin → ℕ → Mapping
mapping p at pages from prot = record { proc = record { 0 = p }; at = record { 0 = at }; pages = pages; from = from; prot = prot }

-- MAPZERO x addr n prot
abbrev pub mapzero_line : Config → List (List ℕ) → Result Says Breach
mapzero_line config (x ∷ addr ∷ n ∷ prot ∷ []) =
    marked 2 Free (process config.procs x) >>= λ p. marked 3 (Multiple PAGE_BYTES) (aligned PAGE_BYTES addr) >>= λ at.
    ranged 4 1 P0_PAGES n >>= λ pages. marked 5 Free (protection prot) >>= λ code.
    mapped config (mapping p at pages origin.Zero code)
mapzero_line config other = Err (miscounted 2 4 other)

-- MAPSEC x addr n name first prot
abbrev pub mapsec_line : Config → List (List ℕ) → Result Says Breach
mapsec_line config (x ∷ addr ∷ n ∷ name ∷ first ∷ prot ∷ []) =
    marked 2 Free (process config.procs x) >>= λ p. marked 3 (Multiple PAGE_BYTES) (aligned PAGE_BYTES addr) >>= λ at.
    ranged 4 1 P0_PAGES n >>= λ pages. marked 5 Free (section config.sections name) >>= λ s.
    marked 6 (Pages (pages_at config.sections s)) (decimal first) >>= λ page. marked 7 Free (protection prot) >>= λ code.
    owed (nat_le (page + pages) (pages_at config.sections s)) (bounded 6 OutOfRange (Pages (pages_at config.sections s)))
    (mapped config (mapping p at pages (origin.Section (record { 0 = s }) page) code))
mapsec_line config other = Err (miscounted 2 6 other)
