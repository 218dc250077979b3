-- The pages that a process refers to. This project's own.
use Rattle.std.specs.Prelude.{ℕ, ◌/◌, ◌==◌, List, Option, Some, None, if◌then◌else◌}
use Rattle.std.specs.List.{filter_map}
use Rattle.vm_types.specs.declared.limits.TheConstants.{PAGE_BYTES}
use Rattle.vm_types.specs.declared.config.Task.{Task}
use Rattle.vm_types.specs.declared.service.Request.{Request}
use Rattle.vm_types.specs.declared.service.Request.TheVariants.{Reference, Service}

-- the page of a reference; a service has none
abbrev pub page_of_request : Request → Option ℕ
page_of_request (Reference reference) = Some ((reference.addr).0 / PAGE_BYTES)
page_of_request (Service service) = None

-- the page of a request, if it is a reference of the process
abbrev pub page_of_task : ℕ → Task → Option ℕ
page_of_task process task = if (task.proc).0 == process then page_of_request task.request else None

-- the pages of the references of the process, in order
abbrev pub page_string : ℕ → List Task → List ℕ
page_string process tasks = filter_map (page_of_task process) tasks
