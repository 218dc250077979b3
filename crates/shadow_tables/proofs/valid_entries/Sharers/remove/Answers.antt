use Rattle.std.proofs.Common.{ap, filter, not, rules, ◌∙◌}
use Rattle.std.proofs.lemmas.Fn.{filter_same}
use Rattle.pager_model.specs.Lookups.{is_entry}
use Rattle.pager_model.specs.Pager.{Valid}
use Rattle.shadow_tables.proofs.valid_entries.Sharers.remove.Goals as goal

pub returns : goal.returns
returns c =
    filter_same _ _ _ (λ x b f' k. search rules) _ _ c.retain.ensures.filtered
    ∙ ap (filter (λ (e : Valid). not (is_entry (c.args.p).0 c.args.vpn e))) c.self.view_is
