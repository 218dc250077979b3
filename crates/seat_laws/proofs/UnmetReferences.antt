-- What a reader shows of a reference's page says that the reference is still to be met.
use Rattle.std.proofs.Common.{◌≡◌, inr, ℕ, Bool, true, false, not, Option, Some, None, refl, sym, ap, ◌∙◌}
use Rattle.std.specs.Option.{is_some}
use Rattle.std.proofs.lemmas.Bool.{false≢true}
use Rattle.std.proofs.lemmas.Option.{none-some, same_Some}
use Rattle.vm_types.specs.declared.names.Page.{Page}
use Rattle.vm_types.specs.declared.config.Config.{Config}
use Rattle.vm_types.specs.declared.reference.Ref.{Ref}
use Rattle.pager_model.specs.Lookups.{entry_of, is_entry, page_at}
use Rattle.pager_model.specs.Maps.{Mapped, page_number}
use Rattle.pager_model.specs.Pager.{Pager}
use Rattle.pager_rules.proofs.Basics.{count_from_no_find}
use Rattle.vm_state.specs.PageReadings.{found_in, found_with}
use Rattle.state_pages.specs.declared.found.Found.{Found}
use Rattle.seat_laws.specs.Unmet.{IsUnmet}

not_some : {X : Type 0} (o : Option X) → is_some o ≡ false → o ≡ None
not_some None is = refl
not_some (Some x) is = absurd (false≢true (sym is))

is_false : (b : Bool) → not b ≡ true → b ≡ false
is_false false is = refl
is_false true is = absurd (false≢true is)

shown_by : (config : Config) (a : Pager) (p v : ℕ) (valid : Bool) (m : Option Mapped) (found : Found) → Some found ≡ found_with config p v valid m → (g : Page) × (page_at config p v m ≡ Some g) × (valid ≡ found.valid)
shown_by config a p v valid None found is = absurd (none-some found (sym is))
shown_by config a p v valid (Some m) found is = (_, refl, ap (λ (f : Found). f.valid) (sym (same_Some found _ is)))

pub shown_unmet : (config : Config) (a : Pager) (p : ℕ) (r : Ref) (found : Found) → Some found ≡ found_in config a p (page_number (r.addr).0) → not found.valid ≡ true → IsUnmet config a p r
shown_unmet config a p r found is invalid =
    let v = page_number (r.addr).0 in
    let parts = shown_by config a p v (is_some (entry_of a.valid p v)) (a.map p v) found is in
    inr (parts.0, parts.1, count_from_no_find (is_entry p v) a.valid (not_some (entry_of a.valid p v) (parts.2 ∙ is_false found.valid invalid)))
