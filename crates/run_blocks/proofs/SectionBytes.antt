-- The pages of a section: how many, and the bytes of each.
use Rattle.std.proofs.Common.{◌≡◌, ℕ, ◌+◌, ◌-◌, ◌*◌, ◌≤◌, List, Option, Some, slice_get, take, drop, ap, ◌∙◌, sym, arith}
use Rattle.std.specs.Prelude.{sum_by}
use Rattle.std.proofs.lemmas.List.Sums.{get_or-le-sum_by}
use Rattle.std.proofs.lemmas.Option.{get_or_from_slice_get, slice_get_within}
use Rattle.vm_types.specs.declared.limits.TheConstants.{MOST_SECTION_PAGES, PAGE_BYTES}
use Rattle.vm_types.specs.Configuration.{section_pages}
use Rattle.vm_types.specs.declared.config.Config.{Config}
use Rattle.vm_types.specs.declared.config.Section.{Section}
use Rattle.pager_model.specs.Maps.{bytes_of, section_bytes}

pub few_pages : (sections : List Section) (s : ℕ) (x : Section) → sum_by section_pages sections ≤ MOST_SECTION_PAGES → slice_get sections s ≡ Some x → section_pages x ≤ MOST_SECTION_PAGES
few_pages sections s x few is =
    let most = get_or-le-sum_by section_pages sections s x (slice_get_within sections s x is) in
    let same = ap section_pages (get_or_from_slice_get sections s x x is) in
    omega (arith, most, same, few)

pub page_bytes : (config : Config) (s i : ℕ) (x : Section) → slice_get config.sections s ≡ Some x → take (PAGE_BYTES * i + PAGE_BYTES - PAGE_BYTES * i) (drop (PAGE_BYTES * i) x.bytes) ≡ section_bytes config s i
page_bytes config s i x is =
    let size : PAGE_BYTES * i + PAGE_BYTES - PAGE_BYTES * i ≡ PAGE_BYTES = omega arith in
    ap (λ (n : ℕ). take n (drop (PAGE_BYTES * i) x.bytes)) size ∙ ap (λ (o : Option Section). bytes_of o i) (sym is)
