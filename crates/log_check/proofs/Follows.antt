-- What a run's laws say of the pager's state after it.
use Rattle.std.proofs.Common.{List, sym, ap, subst, ◌∙◌}
use Rattle.vm_types.specs.declared.config.Config.{Config}
use Rattle.vm_journal.specs.declared.entry.Entry.{Entry}
use Rattle.pager_model.specs.OfConfig.{MapsRight}
use Rattle.pager_model.specs.Pager.{Pager}
use Rattle.pager_laws.specs.Laws.{MapsFollow, RunsAreOfConfig, TouchedFollows}
use Rattle.shadow_pager.specs.Shown.{Shown}
use Rattle.row_requests.specs.FollowsFlat.{FollowsFlat}
use Rattle.log_check.specs.Follows.{Follows}

pub follows_flat : (config : Config) (past : List Entry) (s : Shown) → Follows config past s → MapsFollow → TouchedFollows → RunsAreOfConfig → FollowsFlat config past s.pager
follows_flat config past s is maps touched right = record {
  maps = ap (λ (a : Pager). a.map) is.pager ∙ maps config past is.tables.formed is.run;
  touched = ap (λ (a : Pager). a.touched) is.pager ∙ touched config past is.tables.formed is.run;
  right = subst (λ (a : Pager). MapsRight config a.map) (sym is.pager) (right config past is.tables.formed is.run).mapped;
}
