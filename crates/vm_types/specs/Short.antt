-- A task as it is kept, in sixteen bytes. Source: this project's own.
use Rattle.std.specs.Prelude.{ℕ}
use Rattle.vm_types.specs.declared.config.Task.{Task}
use Rattle.vm_types.specs.declared.reference.Mode.{Mode}
use Rattle.vm_types.specs.declared.reference.Op.TheVariants as op
use Rattle.vm_types.specs.declared.service.Request.{Request}
use Rattle.vm_types.specs.declared.service.Request.TheVariants as request
use Rattle.vm_types.specs.declared.service.Service.TheVariants as service
use Rattle.vm_types.specs.declared.short.Short.{Short}
use Rattle.vm_types.specs.declared.short.Verb.{Verb}
use Rattle.vm_types.specs.declared.short.Verb.TheVariants as verb

-- what is asked for, by its verb, the mode, the address, and the value, the pages or the limit
abbrev pub request_by : Verb → Mode → ℕ → ℕ → Request
request_by (verb.Read width) mode at n = request.Reference (record { mode = mode; addr = record { 0 = at }; op = op.Read width })
request_by (verb.Write width) mode at n = request.Reference (record { mode = mode; addr = record { 0 = at }; op = op.Write width n })
request_by verb.Add mode at n = request.Reference (record { mode = mode; addr = record { 0 = at }; op = op.Add n })
request_by (verb.Create prot) mode at n = request.Service (service.Create (record { 0 = at }) n prot)
request_by verb.Delete mode at n = request.Service (service.Delete (record { 0 = at }) n)
request_by (verb.Protect prot) mode at n = request.Service (service.Protect (record { 0 = at }) n prot)
request_by verb.Lock mode at n = request.Service (service.Lock (record { 0 = at }) n)
request_by verb.Unlock mode at n = request.Service (service.Unlock (record { 0 = at }) n)
request_by verb.Purge mode at n = request.Service (service.Purge (record { 0 = at }) n)
request_by verb.Pin mode at n = request.Service (service.Pin (record { 0 = at }) n)
request_by verb.Unpin mode at n = request.Service (service.Unpin (record { 0 = at }) n)
request_by verb.Adjust mode at n = request.Service (service.Adjust n)

abbrev pub task_of : Short → Task
task_of s = record { proc = record { 0 = s.proc }; request = request_by s.verb s.mode s.at s.number }
