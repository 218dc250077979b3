-- A page whose row a touch leaves: it isn't charged, or was touched before.
use Rattle.std.proofs.Common.{◌≡◌, true, Some, None, sym, ap, ◌∙◌}
use Rattle.vm_types.specs.declared.names.Page.{Page}
use Rattle.state_parts.specs.ChargedTable.{ChargedTable, IsTableSet, kept_at}
use Rattle.state_parts.specs.declared.charged_page.ChargedPage.{ChargedPage}
use Rattle.state_fits.proofs.PartsSet.{table_same}
use Rattle.state_fits.specs.Pages.{touched_row}

pub untouched : (table : ChargedTable) (g : Page) → kept_at table g ≡ None → IsTableSet table table g (touched_row (kept_at table g))
untouched table g none = table_same table g (touched_row (kept_at table g)) (ap touched_row none ∙ sym none)

pub touched_before : (table : ChargedTable) (g : Page) (row : ChargedPage) → kept_at table g ≡ Some row → row.touched ≡ true → IsTableSet table table g (touched_row (kept_at table g))
touched_before table g row is touched =
    table_same table g (touched_row (kept_at table g)) (ap touched_row is ∙ ((λ i. Some (record row { touched = sym touched i })) ∙ sym is))
