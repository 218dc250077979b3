-- BODY, END, and the requests between them. Source: this project's own.
use Rattle.std.specs.Prelude.{ℕ, ◌+◌, ◌-◌, ◌^◌, Bool, ◌&&◌, nat_le, nat_lt, not, true, length, List, [], ◌∷◌, Option, Some, None, Result, Ok, Err, if◌then◌else◌}
use Rattle.std.specs.List.{list_all}
use Rattle.vm_types.specs.declared.limits.TheConstants.{P0_PAGES, PAGE_BYTES}
use Rattle.vm_types.specs.Configuration.{all_pins}
use Rattle.vm_types.specs.WellFormed.{width_bytes}
use Rattle.vm_types.specs.declared.config.Config.{Config}
use Rattle.vm_types.specs.declared.config.Params.{Params}
use Rattle.vm_types.specs.declared.config.Version.{Version}
use Rattle.vm_types.specs.Versions.{is_first, most_requests}
use Rattle.vm_types.specs.declared.reference.Mode.{Mode}
use Rattle.vm_types.specs.declared.reference.Width.{Width}
use Rattle.vm_types.specs.declared.reference.Width.TheVariants.{Four}
use Rattle.vm_types.specs.declared.reference.Op.{Op as What}
use Rattle.vm_types.specs.declared.reference.Op.TheVariants as what
use Rattle.vm_types.specs.declared.service.Service.{Service as Asked}
use Rattle.vm_types.specs.declared.service.Service.TheVariants as asked
use Rattle.vm_types.specs.declared.service.Request.{Request as Wanted}
use Rattle.vm_types.specs.declared.service.Request.TheVariants as wanted
use Rattle.trace_words.specs.declared.cause.Cause.TheVariants.{UnknownWord, Misplaced, OutOfRange, TooMany}
use Rattle.trace_words.specs.declared.ops.Access.{Access}
use Rattle.trace_words.specs.declared.ops.Access.TheVariants.{Read, Write, Add}
use Rattle.trace_words.specs.declared.services.ServiceName.{ServiceName}
use Rattle.trace_words.specs.declared.services.ServiceName.TheVariants.{Create, Delete, Protect, Lock, Unlock, Purge, Pin, Unpin, Adjust}
use Rattle.trace_words.specs.declared.verbs.Verb.{Verb}
use Rattle.trace_words.specs.declared.verbs.Verb.TheVariants.{Op, Service}
use Rattle.trace_words.specs.Judged.{◌>>=◌, owed}
use Rattle.trace_words.specs.Number.{hexadecimal}
use Rattle.trace_words.specs.Protection.{protection}
use Rattle.trace_words.specs.VerbWords.{verb_of}
use Rattle.trace_lines.specs.declared.breach.Bound.{Bound}
use Rattle.trace_lines.specs.declared.breach.Bound.TheVariants.{Free, Within, Multiple, Regions, LoLimit, HiLimit, FreeLim, Frames, FramesAndLocks, Most}
use Rattle.trace_lines.specs.declared.breach.Breach.{Breach}
use Rattle.trace_lines.specs.declared.breach.Limited.TheVariants as limited
use Rattle.trace_lines.specs.declared.ranges.Written.{Written}
use Rattle.trace_lines.specs.declared.ranges.Range.{Range}
use Rattle.trace_lines.specs.declared.ranges.CodedRange.{CodedRange}
use Rattle.trace_lines.specs.Breaches.{at_word, bounded, counted, marked, miscounted, ranged}
use Rattle.trace_lines.specs.Lookups.{process, aligned, is_inside}
use Rattle.trace_lines.specs.Says.{Says, Body, Request, End}

-- the order of the parameters
abbrev pub params_agree : Params → Bool
params_agree params = nat_le params.lolimit params.hilimit && nat_le params.hilimit params.waitlimit && nat_le params.freelim params.freegoal

-- each process alone has a frame to spare beside the page at hand and the pages that all of them may pin
abbrev pub has_frames : Config → Bool
has_frames config = list_all (λ spec. nat_le (spec.extent + (length config.bad + all_pins config) + 2) config.frames) config.procs

-- the bound on the frames; the locks count among them in every version but 1
abbrev pub frames_by : Version → ℕ → Bound
frames_by v n = if is_first v then Frames n else FramesAndLocks n

abbrev pub frames_bound : Config → Bound
frames_bound config = frames_by config.version config.frames

-- the first bound that the parameters and the processes break
abbrev pub unmet : Config → Bound
unmet config =
    if nat_lt config.params.hilimit config.params.lolimit then LoLimit config.params.hilimit
    else if nat_lt config.params.waitlimit config.params.hilimit then HiLimit config.params.waitlimit
    else if nat_lt config.params.freegoal config.params.freelim then FreeLim config.params.freegoal
    else frames_bound config

-- BODY, once there is a process
abbrev pub body_line : Config → List (List ℕ) → Result Says Breach
body_line config [] =
    owed (nat_lt 0 (length config.procs)) (at_word 1 Misplaced)
    (owed (params_agree config.params && has_frames config) (bounded 1 OutOfRange (unmet config)) (Ok Body))
body_line config other = Err (miscounted 2 0 other)

-- END
abbrev pub end_line : List (List ℕ) → Result Says Breach
end_line [] = Ok End
end_line other = Err (miscounted 2 0 other)

-- one of at most as many requests as the version has
abbrev pub asked_by : Config → ℕ → Wanted → Result Says Breach
asked_by config p request =
    owed (nat_lt (length config.body) (most_requests config.version)) (bounded 1 TooMany (Most limited.Requests (most_requests config.version)))
    (Ok (Request (record { proc = record { 0 = p }; request = request })))

abbrev pub referred : Config → ℕ → Mode → ℕ → What → Result Says Breach
referred config p mode at op = asked_by config p (wanted.Reference (record { mode = mode; addr = record { 0 = at }; op = op }))

-- x op addr, for reads
abbrev pub read_line : Config → List ℕ → Mode → Width → List (List ℕ) → Result Says Breach
read_line config x mode width (addr ∷ []) =
    marked 1 Free (process config.procs x) >>= λ p. marked 3 (Multiple (width_bytes width)) (aligned (width_bytes width) addr) >>= λ at.
    referred config p mode at (what.Read width)
read_line config x mode width other = Err (miscounted 3 1 other)

-- the values of a width
abbrev pub values : Width → Bound
values width = Within 0 (256 ^ width_bytes width - 1)

-- x op addr value, for writes and A4; the value fits the width
abbrev pub write_of : Config → List ℕ → Width → List (List ℕ) → Result Written Breach
write_of config x width (addr ∷ value ∷ []) =
    marked 1 Free (process config.procs x) >>= λ p. marked 3 (Multiple (width_bytes width)) (aligned (width_bytes width) addr) >>= λ at.
    marked 4 (values width) (hexadecimal value) >>= λ n.
    owed (nat_lt n (256 ^ width_bytes width)) (bounded 4 OutOfRange (values width)) (Ok (record { proc = p; at = at; value = n }))
write_of config x width other = Err (miscounted 3 2 other)

abbrev pub reference_line : Config → List ℕ → Mode → Access → List (List ℕ) → Result Says Breach
reference_line config x mode (Read width) args = read_line config x mode width args
reference_line config x mode (Write width) args = write_of config x width args >>= λ w. referred config w.proc mode w.at (what.Write width w.value)
reference_line config x mode Add args = write_of config x Four args >>= λ w. referred config w.proc mode w.at (what.Add w.value)

-- x SERVICE addr n
abbrev pub range_of : Config → List ℕ → List (List ℕ) → Result Range Breach
range_of config x (addr ∷ n ∷ []) =
    marked 1 Free (process config.procs x) >>= λ p. marked 3 (Multiple PAGE_BYTES) (aligned PAGE_BYTES addr) >>= λ at. ranged 4 1 P0_PAGES n >>= λ pages.
    owed (is_inside at pages) (bounded 3 OutOfRange Regions) (Ok (record { proc = p; at = at; pages = pages }))
range_of config x other = Err (miscounted 3 2 other)

-- x SERVICE addr n prot
abbrev pub coded_range_of : Config → List ℕ → List (List ℕ) → Result CodedRange Breach
coded_range_of config x (addr ∷ n ∷ prot ∷ []) =
    marked 1 Free (process config.procs x) >>= λ p. marked 3 (Multiple PAGE_BYTES) (aligned PAGE_BYTES addr) >>= λ at. ranged 4 1 P0_PAGES n >>= λ pages.
    marked 5 Free (protection prot) >>= λ code.
    owed (is_inside at pages) (bounded 3 OutOfRange Regions) (Ok (record { proc = p; at = at; pages = pages; prot = code }))
coded_range_of config x other = Err (miscounted 3 3 other)

-- the service of this name, of what it takes: an address, a count, which is of pages or the limit, and a protection
abbrev pub made : ServiceName → ℕ → ℕ → ℕ → Asked
made Create at count prot = asked.Create (record { 0 = at }) count prot
made Protect at count prot = asked.Protect (record { 0 = at }) count prot
made Delete at count prot = asked.Delete (record { 0 = at }) count
made Lock at count prot = asked.Lock (record { 0 = at }) count
made Unlock at count prot = asked.Unlock (record { 0 = at }) count
made Purge at count prot = asked.Purge (record { 0 = at }) count
made Pin at count prot = asked.Pin (record { 0 = at }) count
made Unpin at count prot = asked.Unpin (record { 0 = at }) count
made Adjust at count prot = asked.Adjust count

abbrev pub served : Config → ℕ → Asked → Result Says Breach
served config p service = asked_by config p (wanted.Service service)

-- x ADJWSL limit
abbrev pub adjust_line : Config → List ℕ → List (List ℕ) → Result Says Breach
adjust_line config x (limit ∷ []) = marked 1 Free (process config.procs x) >>= λ p. counted 3 limit >>= λ n. served config p (asked.Adjust n)
adjust_line config x other = Err (miscounted 3 1 other)

-- a service of a range and a protection, or of a range alone
abbrev pub coded_line : Config → List ℕ → ServiceName → List (List ℕ) → Result Says Breach
coded_line config x name args = coded_range_of config x args >>= λ r. served config r.proc (made name r.at r.pages r.prot)

abbrev pub ranged_line : Config → List ℕ → ServiceName → List (List ℕ) → Result Says Breach
ranged_line config x name args = range_of config x args >>= λ r. served config r.proc (made name r.at r.pages 0)

abbrev pub service_line : Config → List ℕ → ServiceName → List (List ℕ) → Result Says Breach
service_line config x Create args = coded_line config x Create args
service_line config x Protect args = coded_line config x Protect args
service_line config x Delete args = ranged_line config x Delete args
service_line config x Lock args = ranged_line config x Lock args
service_line config x Unlock args = ranged_line config x Unlock args
service_line config x Purge args = ranged_line config x Purge args
service_line config x Pin args = ranged_line config x Pin args
service_line config x Unpin args = ranged_line config x Unpin args
service_line config x Adjust args = adjust_line config x args

-- every version but 1 has the services that pin and unpin pages
abbrev pub has_pins : Version → Bool
has_pins v = not (is_first v)

abbrev pub is_word_of : Version → ServiceName → Bool
is_word_of v Create = true
is_word_of v Delete = true
is_word_of v Protect = true
is_word_of v Lock = true
is_word_of v Unlock = true
is_word_of v Purge = true
is_word_of v Pin = has_pins v
is_word_of v Unpin = has_pins v
is_word_of v Adjust = true

-- the operation or the service, where the version has it
abbrev pub verb_in : Version → Option Verb → Option Verb
verb_in v None = None
verb_in v (Some (Op op)) = Some (Op op)
verb_in v (Some (Service name)) = if is_word_of v name then Some (Service name) else None

-- by the second word; where it is neither an operation nor a service, the process is judged first
abbrev pub by_verb : Config → List ℕ → List (List ℕ) → Option Verb → Result Says Breach
by_verb config x args None = marked 1 Free (process config.procs x) >>= λ _. Err (at_word 2 UnknownWord)
by_verb config x args (Some (Op op)) = reference_line config x op.mode op.access args
by_verb config x args (Some (Service name)) = service_line config x name args

-- a request of the process of this letter
abbrev pub request_line : Config → List ℕ → List (List ℕ) → Result Says Breach
request_line config x [] = Err (at_word 2 Misplaced)
request_line config x (second ∷ args) = by_verb config x args (verb_in config.version (verb_of second))
