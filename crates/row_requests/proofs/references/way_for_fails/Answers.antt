use Rattle.std.proofs.Common.{◌*◌, IsNone, ap}
use Rattle.vm_types.specs.declared.limits.TheConstants.{PAGE_BYTES}
use Rattle.shadow_history.specs.Directions.{direction_of}
use Rattle.pager_model.specs.Maps.{page_number}
use Rattle.row_requests.proofs.Roles.{for_role}
use Rattle.row_requests.proofs.references.way_for_fails.Goals as goal

pub returns-in-Reading-clause-legal : goal.returns-in-Reading-clause-legal
returns-in-Reading-clause-legal c =
    for_role (direction_of c.args.direction) c.in-Reading.role (page_number c.args.a.0 * PAGE_BYTES) (IsNone c.role_for_fails.result) (ap direction_of c.in-Reading.is) c.role_for_fails.ensures.legal
