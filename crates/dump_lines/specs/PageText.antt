-- A page as a dump can name it: a private one by its process and first address, as A/00000200, a shared one by its
-- section's number and its own in it, as #2/3. This project's own.
use Rattle.std.specs.Prelude.{ℕ, ◌*◌, List, ◌++◌, codes, decimal}
use Rattle.vm_types.specs.declared.limits.TheConstants.{PAGE_BYTES}
use Rattle.vm_types.specs.declared.names.Page.{Page}
use Rattle.vm_types.specs.declared.names.Page.TheVariants.{Private, Shared}
use Rattle.vm_text.specs.Names.{place_text}

abbrev pub page_text : Page → List ℕ
page_text (Private p v) = place_text p.0 (PAGE_BYTES * v)
page_text (Shared s i) = codes "#" ++ decimal s.0 ++ codes "/" ++ decimal i
