use Rattle.std.proofs.Common.{Option, sym, subst, ◌∙◌}
use Rattle.flat_model.specs.Usable.{IsUsable}
use Rattle.flat_model.specs.declared.behind.Behind.{Behind}
use Rattle.flat_model.proofs.Found.{first_usable}
use Rattle.flat_model.proofs.lookups.tables_of.Goals as goal

pub invariant_of-result : goal.invariant_of-result
invariant_of-result c =
    record {
      usable = λ p v.
          subst (λ (o : Option Behind). IsUsable c.in_ok-sections_copy.field-0 o) (sym (c.in_ok-pages_of.ensures.pages p v))
          (first_usable c.args.config.now c.requires _ (c.in_ok-sections_copy.ensures ∙ c.items.ensures) p v);
    }
