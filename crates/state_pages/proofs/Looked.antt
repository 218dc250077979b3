-- What a look into the tables shows is what they have.
use Rattle.std.proofs.Common.{◌≡◌, ℕ, Option, Some, None, refl, ap, ◌∙◌}
use Rattle.page_tables.specs.PageTables.{PageTables, pte_in, look_at, look_of}
use Rattle.page_tables.specs.declared.look.Look.{Look}
use Rattle.pte_forms.specs.declared.pte.Pte.{Pte}
use Rattle.state_pages.specs.Shown.{entry_shown, frame_entry, frame_shown}

shown_at : (o : Option Pte) → entry_shown (look_at o) ≡ o
shown_at None = refl
shown_at (Some pte) = refl

pub looked : (tables : PageTables) (p v : ℕ) (look : Look) (o : Option Pte) → look ≡ look_of tables p v → o ≡ entry_shown look → o ≡ pte_in tables p v
looked tables p v look o is shown = shown ∙ (ap entry_shown is ∙ shown_at (pte_in tables p v))

pub frame_looked : (tables : PageTables) (p v : ℕ) (look : Look) → look ≡ look_of tables p v → frame_shown look ≡ frame_entry (pte_in tables p v)
frame_looked tables p v look is = ap frame_shown is ∙ ap frame_entry (shown_at (pte_in tables p v))
