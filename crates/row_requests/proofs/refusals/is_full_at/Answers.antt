use Rattle.std.proofs.Common.{◌≡◌, sym, ap, ◌∙◌}
use Rattle.std.proofs.lemmas.Option.{same_Some}
use Rattle.vm_types.specs.declared.names.Page.{Page}
use Rattle.pager_model.specs.Flat.{FlatState, is_page_file_full}
use Rattle.pager_model.specs.Lookups.{page_at}
use Rattle.pager_model.specs.Maps.{page_behind}
use Rattle.shadow_pager.specs.Shown.{shown}
use Rattle.row_requests.proofs.refusals.is_full_at.Goals as goal

pub returns-in-Some : goal.returns-in-Some
returns-in-Some c =
    let config = c.args.config.now in
    let a = (shown c.args.pager.now).pager in
    let there = page_behind config c.args.p.0 c.args.v c.args.behind.origin in
    let same : c.in-Some.page ≡ there = same_Some c.in-Some.page there (sym c.in-Some.is ∙ c.page_of.ensures ∙ ap (page_at config c.args.p.0 c.args.v) c.requires) in
    λ stored.
    let flat : FlatState = record { map = a.map; touched = a.touched; stored = stored } in
    c.is_page_file_full.ensures stored ∙ ap (λ (g : Page). is_page_file_full config flat g) same
