-- What single entries leave as it was.
use Rattle.std.proofs.Common.{◌≡◌, ℕ, ◌≤◌, ◌&&◌, Bool, true, false, cond, not, List, [], ◌∷◌, Option, Some, None, find, slice_get, is_some, refl, ap, ◌∙◌, arith}
use Rattle.std.specs.List.{AllByRecursion}
use Rattle.std.proofs.lemmas.Bool.{false≢true, true≢false}
use Rattle.vm_types.specs.declared.names.Page.{Page}
use Rattle.vm_types.specs.declared.names.BlockId.{BlockId}
use Rattle.vm_types.specs.declared.names.BlockId.TheVariants as block
use Rattle.vm_types.specs.declared.names.ProcStatus.{ProcStatus}
use Rattle.vm_types.specs.declared.names.ProcStatus.TheVariants as status
use Rattle.vm_types.specs.declared.config.Config.{Config}
use Rattle.vm_journal.specs.declared.entry.Entry.{Entry}
use Rattle.vm_journal.specs.declared.entry.Role.{Role}
use Rattle.vm_journal.specs.declared.entry.Role.TheVariants as role
use Rattle.vm_journal.specs.declared.entry.What.{What}
use Rattle.vm_journal.specs.declared.entry.What.TheVariants as what
use Rattle.pager_model.specs.Back.{after_any_back}
use Rattle.vm_types.specs.Same.{same_page}
use Rattle.pager_model.specs.Changes.{is_section_block, without_page}
use Rattle.pager_model.specs.Flights.{Direction, Flight, failed_flight, open_flights, reading, writing}
use Rattle.pager_policy.specs.Given.{by_seat, made_by}
use Rattle.pager_model.specs.In.{after_in}
use Rattle.pager_model.specs.InOk.{after_in_ok}
use Rattle.pager_model.specs.Lookups.{count_page, entries_at, is_entry}
use Rattle.pager_model.specs.Maps.{is_private, page_number}
use Rattle.pager_model.specs.Out.{after_any_out}
use Rattle.pager_model.specs.OutLanding.{after_out_ok, marked}
use Rattle.pager_model.specs.Pager.{Pager, Valid}
use Rattle.pager_policy.specs.Policy.{next_task}
use Rattle.pager_model.specs.Reuse.{charged_reused}
use Rattle.pager_model.specs.Run.{pager_after}
use Rattle.pager_model.specs.Spoken.{flat_after, request_of}
use Rattle.pager_model.specs.Step.{after_what}
use Rattle.pager_model.specs.Transfers.{starts}
use Rattle.pager_rules.proofs.Basics.{count_cons_no}
use Rattle.pager_rules.proofs.Lists.{count_filter_le}

-- entries that charge no page, touch none, change no map and no status, and answer nothing
abbrev pub is_steady : What → Bool
is_steady (what.Done r reply) = false
is_steady (what.Denied r reason) = false
is_steady (what.Served s answer) = false
is_steady (what.Zero address f) = false
is_steady (what.In f b (role.Fault q address)) = false
is_steady (what.Turn q s) = false
is_steady other = true

-- entries that make a page table entry valid, or may
abbrev pub may_enter : What → Bool
may_enter (what.Zero address f) = true
may_enter (what.Back q address f from) = true
may_enter (what.InOk f k) = true
may_enter (what.Served s answer) = true
may_enter other = false

-- ---- the state after one entry
pub record IsSteadyStep (a b : Pager) : Type 0 where
  pub status : b.status ≡ a.status
  pub map : b.map ≡ a.map
  pub touched : b.touched ≡ a.touched
  pub charged : (g : Page) → count_page b.charged g ≤ count_page a.charged g

same_step : (a b : Pager) → b.status ≡ a.status → b.map ≡ a.map → b.touched ≡ a.touched → b.charged ≡ a.charged → IsSteadyStep a b
same_step a b s m t c = record { status = s; map = m; touched = t; charged = λ g. let same = ap (λ (pages : List Page). count_page pages g) c in omega (arith, same) }

fewer_charged : (o : Option Flight) (x : Page) (charged : List Page) (g : Page) → count_page (charged_reused o x charged) g ≤ count_page charged g
fewer_charged None x charged g = omega arith
fewer_charged (Some y) x charged g = by (is_private x && is_section_block y.block)
  where
    by : (b : Bool) → count_page (cond b (without_page charged x) charged) g ≤ count_page charged g
    by true = count_filter_le (same_page g) (λ (h : Page). not (same_page x h)) charged
    by false = omega arith

in_ok_steady : (a : Pager) (f : ℕ) (o : Option Flight) → IsSteadyStep a (after_in_ok a f o)
in_ok_steady a f None = same_step a a refl refl refl refl
in_ok_steady a f (Some x) = by x.direction
  where
    by : (d : Direction) → IsSteadyStep a (after_in_ok a f (Some (record x { direction = d })))
    by (reading (role.Fault q address)) = same_step a _ refl refl refl refl
    by (reading (role.Near near)) = same_step a _ refl refl refl refl
    by (reading (role.Come q address)) = same_step a _ refl refl refl refl
    by writing = same_step a a refl refl refl refl

out_steady : (a : Pager) (f : ℕ) (b : BlockId) → IsSteadyStep a (after_any_out a f b)
out_steady a f (block.Swap p n) = same_step a _ refl refl refl refl
out_steady a f other = same_step a _ refl refl refl refl

out_ok_steady : (a : Pager) (f : ℕ) (o : Option Flight) → IsSteadyStep a (after_out_ok a f o)
out_ok_steady a f None = same_step a a refl refl refl refl
out_ok_steady a f (Some x) = same_step a _ refl refl refl refl

out_fail_steady : (a : Pager) (f : ℕ) (o : Option Flight) → IsSteadyStep a (after_out_ok (marked a f) f o)
out_fail_steady a f None = same_step a _ refl refl refl refl
out_fail_steady a f (Some x) = same_step a _ refl refl refl refl

back_steady : (a : Pager) (s : ProcStatus) (p address f : ℕ) → IsSteadyStep a (after_any_back a s p address f)
back_steady a status.Coming p address f = same_step a _ refl refl refl refl
back_steady a other p address f = same_step a _ refl refl refl refl

pub steady_step : (config : Config) (past : List Entry) (a : Pager) (seat : ℕ) (w : What) → is_steady w ≡ true → IsSteadyStep a (after_what config past a seat w)
steady_step config past a seat (what.Done r reply) is = absurd (false≢true is)
steady_step config past a seat (what.Denied r reason) is = absurd (false≢true is)
steady_step config past a seat (what.Served s answer) is = absurd (false≢true is)
steady_step config past a seat (what.Reuse f g) is = record { status = refl; map = refl; touched = refl; charged = fewer_charged (failed_flight past) g a.charged }
steady_step config past a seat (what.Zero address f) is = absurd (false≢true is)
steady_step config past a seat (what.Back q address f from) is = back_steady a (a.status q.0) q.0 address.0 f.0
steady_step config past a seat (what.Collide address f k) is = same_step a _ refl refl refl refl
steady_step config past a seat (what.In f b (role.Fault q address)) is = absurd (false≢true is)
steady_step config past a seat (what.In f b (role.Near g)) is = same_step a _ refl refl refl refl
steady_step config past a seat (what.In f b (role.Come q address)) is = same_step a _ refl refl refl refl
steady_step config past a seat (what.InOk f k) is = in_ok_steady a f.0 (find (starts k) (open_flights past))
steady_step config past a seat (what.InFail f k c d) is = same_step a _ refl refl refl refl
steady_step config past a seat (what.Out f b) is = out_steady a f.0 b
steady_step config past a seat (what.OutOk f k) is = out_ok_steady a f.0 (find (starts k) (open_flights past))
steady_step config past a seat (what.OutFail f k c d) is = out_fail_steady a f.0 (find (starts k) (open_flights past))
steady_step config past a seat (what.Evict q address f why to) is = same_step a _ refl refl refl refl
steady_step config past a seat (what.Limit n faults) is = same_step a _ refl refl refl refl
steady_step config past a seat (what.Turn q s) is = absurd (false≢true is)

-- ---- the past with one entry more, and with several
pub record IsSteady (config : Config) (past more : List Entry) : Type 0 where
  pub task : next_task config more ≡ next_task config past
  pub flat : flat_after config more ≡ flat_after config past
  pub step : IsSteadyStep (pager_after config past) (pager_after config more)

pub steady_refl : (config : Config) (past : List Entry) → IsSteady config past past
steady_refl config past = record { task = refl; flat = refl; step = same_step _ _ refl refl refl refl }

step_then : (a b c : Pager) → IsSteadyStep a b → IsSteadyStep b c → IsSteadyStep a c
step_then a b c first rest = record {
  status = rest.status ∙ first.status;
  map = rest.map ∙ first.map;
  touched = rest.touched ∙ first.touched;
  charged = λ g. omega (arith, first.charged g, rest.charged g);
}

pub steady_then : (config : Config) (past middle more : List Entry) → IsSteady config past middle → IsSteady config middle more → IsSteady config past more
steady_then config past middle more first rest = record { task = rest.task ∙ first.task; flat = rest.flat ∙ first.flat; step = step_then _ _ _ first.step rest.step }

says_nothing : (w : What) → is_steady w ≡ true → request_of w ≡ None
says_nothing (what.Done r reply) is = absurd (false≢true is)
says_nothing (what.Denied r reason) is = absurd (false≢true is)
says_nothing (what.Served s answer) is = absurd (false≢true is)
says_nothing other is = refl

flat_same : (config : Config) (past : List Entry) (seat : ℕ) (w : What) → is_steady w ≡ true → flat_after config (by_seat seat w ∷ past) ≡ flat_after config past
flat_same config past seat (what.Done r reply) is = absurd (false≢true is)
flat_same config past seat (what.Served s answer) is = absurd (false≢true is)
flat_same config past seat other is = refl

-- an entry that answers nothing leaves the next task
pub task_same : (config : Config) (past : List Entry) (seat : ℕ) (w : What) → request_of w ≡ None → next_task config (by_seat seat w ∷ past) ≡ next_task config past
task_same config past seat w none = ap (slice_get config.body) (count_cons_no (λ (e : Entry). is_some (request_of e.what)) (by_seat seat w) past (ap is_some none))

pub steady_one : (config : Config) (past : List Entry) (seat : ℕ) (w : What) → is_steady w ≡ true → IsSteady config past (by_seat seat w ∷ past)
steady_one config past seat w is = record { task = task_same config past seat w (says_nothing w is); flat = flat_same config past seat w is; step = steady_step config past (pager_after config past) seat w is }

pub steady_made : (config : Config) (seat : ℕ) (ws : List What) (past : List Entry) → AllByRecursion (λ (w : What). is_steady w ≡ true) ws → IsSteady config past (made_by seat ws past)
steady_made config seat [] past each = steady_refl config past
steady_made config seat (w ∷ ws) past each = steady_then config past (by_seat seat w ∷ past) (made_by seat ws (by_seat seat w ∷ past)) (steady_one config past seat w each.0) (steady_made config seat ws (by_seat seat w ∷ past) each.1)

-- ---- no entry becomes valid
abbrev pub NoneEnters : Pager → Pager → Type 0
NoneEnters a b = (p v : ℕ) → entries_at a.valid p v ≡ 0 → entries_at b.valid p v ≡ 0

pub none_refl : (a : Pager) → NoneEnters a a
none_refl a p v none = none

pub none_then : (a b c : Pager) → NoneEnters a b → NoneEnters b c → NoneEnters a c
none_then a b c first rest p v none = rest p v (first p v none)

in_none : (config : Config) (a : Pager) (f : ℕ) (r : Role) → NoneEnters a (after_in config a f r)
in_none config a f (role.Fault q address) p v none = none
in_none config a f (role.Near g) p v none = none
in_none config a f (role.Come q address) p v none = none

out_none : (a : Pager) (f : ℕ) (b : BlockId) → NoneEnters a (after_any_out a f b)
out_none a f (block.Swap q n) p v none = none
out_none a f other p v none = none

out_ok_none : (a : Pager) (f : ℕ) (o : Option Flight) → NoneEnters a (after_out_ok a f o)
out_ok_none a f None p v none = none
out_ok_none a f (Some x) p v none = none

out_fail_none : (a : Pager) (f : ℕ) (o : Option Flight) → NoneEnters a (after_out_ok (marked a f) f o)
out_fail_none a f None p v none = none
out_fail_none a f (Some x) p v none = none

pub none_step : (config : Config) (past : List Entry) (a : Pager) (seat : ℕ) (w : What) → may_enter w ≡ false → NoneEnters a (after_what config past a seat w)
none_step config past a seat (what.Zero address f) is = absurd (true≢false is)
none_step config past a seat (what.Back q address f from) is = absurd (true≢false is)
none_step config past a seat (what.InOk f k) is = absurd (true≢false is)
none_step config past a seat (what.Served s answer) is = absurd (true≢false is)
none_step config past a seat (what.In f b r) is = in_none config a f.0 r
none_step config past a seat (what.Out f b) is = out_none a f.0 b
none_step config past a seat (what.OutOk f k) is = out_ok_none a f.0 (find (starts k) (open_flights past))
none_step config past a seat (what.OutFail f k c d) is = out_fail_none a f.0 (find (starts k) (open_flights past))
none_step config past a seat (what.Evict q address f why to) is = λ p v none. let fewer = count_filter_le (is_entry p v) (λ (e : Valid). not (is_entry q.0 (page_number address.0) e)) a.valid in omega (arith, none, fewer)
none_step config past a seat (what.Done r reply) is = λ p v none. none
none_step config past a seat (what.Denied r reason) is = λ p v none. none
none_step config past a seat (what.Reuse f g) is = λ p v none. none
none_step config past a seat (what.Collide address f k) is = λ p v none. none
none_step config past a seat (what.InFail f k c d) is = λ p v none. none
none_step config past a seat (what.Limit n faults) is = λ p v none. none
none_step config past a seat (what.Turn q s) is = λ p v none. none

pub none_made : (config : Config) (seat : ℕ) (ws : List What) (past : List Entry) → AllByRecursion (λ (w : What). may_enter w ≡ false) ws → NoneEnters (pager_after config past) (pager_after config (made_by seat ws past))
none_made config seat [] past each = none_refl (pager_after config past)
none_made config seat (w ∷ ws) past each =
    none_then (pager_after config past) (pager_after config (by_seat seat w ∷ past)) (pager_after config (made_by seat ws (by_seat seat w ∷ past))) (none_step config past (pager_after config past) seat w each.0) (none_made config seat ws (by_seat seat w ∷ past) each.1)
