-- What a legal entry names is there.
use Rattle.std.proofs.Common.{◌≡◌, inl, inr, ℕ, ◌<◌, List, Some, length, find, refl, sym, subst}
use Rattle.vm_types.specs.Configuration.{IsWellFormed}
use Rattle.vm_types.specs.declared.config.Config.{Config}
use Rattle.vm_types.specs.declared.reply.Answer.{Answer}
use Rattle.vm_types.specs.declared.reply.Answer.TheVariants as answer
use Rattle.vm_types.specs.declared.service.Service.{Service}
use Rattle.vm_types.specs.declared.names.BlockId.{BlockId}
use Rattle.vm_types.specs.declared.names.FrameState.{FrameState}
use Rattle.vm_types.specs.declared.names.Page.{Page}
use Rattle.vm_types.specs.declared.reply.Why.{Why}
use Rattle.vm_types.specs.declared.reference.Ref.{Ref}
use Rattle.vm_journal.specs.HasLine.{WhatHasLine}
use Rattle.vm_journal.specs.declared.entry.Entry.{Entry}
use Rattle.vm_journal.specs.declared.entry.EvictWhy.{EvictWhy}
use Rattle.vm_journal.specs.declared.entry.EvictWhy.TheVariants as evict
use Rattle.vm_journal.specs.declared.entry.Role.{Role}
use Rattle.vm_journal.specs.declared.entry.Role.TheVariants as role
use Rattle.vm_journal.specs.declared.entry.What.{What}
use Rattle.vm_journal.specs.declared.entry.What.TheVariants as what
use Rattle.pager_model.specs.Around.{past_view}
use Rattle.pager_model.specs.Denied.{IsDenial}
use Rattle.pager_model.specs.Evict.{IsEvict, IsTaken}
use Rattle.pager_model.specs.Flights.{Direction, Flight, open_flights, reading, writing}
use Rattle.pager_model.specs.In.{IsIn}
use Rattle.pager_model.specs.InOk.{IsLanding}
use Rattle.pager_model.specs.Lookups.{IsHead, page_by}
use Rattle.pager_model.specs.Maps.{page_number}
use Rattle.pager_model.specs.Pager.{Pager}
use Rattle.pager_model.specs.Run.{IsRun, pager_after}
use Rattle.pager_model.specs.Served.{IsServed}
use Rattle.pager_model.specs.Step.{IsLegalWhat}
use Rattle.pager_model.specs.Transfers.{starts}
use Rattle.pager_laws.proofs.OfConfigKept.{run_right}
use Rattle.pager_laws.proofs.RunsAreSound.{run_kept}
use Rattle.pager_rules.proofs.Lists.{all_found}
use Rattle.pager_rules.proofs.Put.{head_counts}
use Rattle.pager_rules.specs.Kept.{FitsDirection, FitsFlight, IsKept, views}
use Rattle.pager_laws.proofs.Holders.{free_is, holds_within}
use Rattle.pager_laws.proofs.ValidEntries.{mapping_of, valid_at_page}
use Rattle.state_fits.proofs.FlightsMoved.{flight_within}
use Rattle.shadow_pager.specs.Roles.{IsOfProcess}
use Rattle.shadow_pager.specs.Shown.{Shown}
use Rattle.log_check.specs.Follows.{Follows}
use Rattle.log_check.specs.Changing.{AreNamedThere, CanLand, IsFor}

-- a service's process is one of the configuration
pub served_process : (config : Config) (past : List Entry) (a : Pager) (p : ℕ) (s : Service) (x : Answer) → IsServed config past a p s x → p < length config.procs
served_process config past a p s answer.DiskFault row = row.process
served_process config past a p s other row = row.0.process

denied_process : (config : Config) (past : List Entry) (a : Pager) (p : ℕ) (r : Ref) (reason : Why) → IsDenial config past a p r reason → p < length config.procs
denied_process config past a p r reason (inl row) = row.own.process
denied_process config past a p r reason (inr row) = row.process

module _ (config : Config) (past : List Entry) (formed : IsWellFormed config) (run : IsRun config past) where
  abbrev a : Pager
  a = pager_after config past

  abbrev s : Shown
  s = record { frames = config.frames; processes = length config.procs; pager = pager_after config past }

  kept : IsKept config (past_view past) a
  kept = run_kept config past formed run

  held : (f : ℕ) (g : Page) → a.page f ≡ Some g → f < config.frames
  held f g holds = holds_within config (past_view past) a f g kept holds

  head : (f : ℕ) → IsHead a.free f → f < config.frames
  head f heads = (free_is config past a f kept (head_counts a.free f heads)).within

  landing : (p f k : ℕ) (x : Flight) → IsLanding past p f k x → f < config.frames
  landing p f k x lands = subst (λ (n : ℕ). n < config.frames) lands.frame (flight_within config (past_view past) a k x kept lands.open_k)

  mapped : (p v : ℕ) (g : Page) → page_by config a.map p v ≡ Some g → p < length config.procs
  mapped p v g is = let there = mapping_of config a.map p v g is in ((run_right config past formed run).mapped p v there.0 there.1).process

  role_there : (x : Flight) (r : Role) (g : Page) → FitsDirection x g ((views config a).page g) (views config a).process (views config a).entry (reading r) → IsOfProcess (length config.procs) r
  role_there x (role.Fault q address) g fits = mapped q.0 (page_number address.0) g fits.1.2
  role_there x (role.Near near) g fits = tt
  role_there x (role.Come q address) g fits = mapped q.0 (page_number address.0) g fits.1.1

  direction_there : (x : Flight) (d : Direction) (g : Page) → FitsDirection x g ((views config a).page g) (views config a).process (views config a).entry d → IsFor (length config.procs) d
  direction_there x (reading r) g fits = role_there x r g fits
  direction_there x writing g fits = tt

  open_for : (k : ℕ) (x : Flight) → find (starts k) (open_flights past) ≡ Some x → IsFor (length config.procs) x.direction
  open_for k x found = let fits = all_found (FitsFlight (views config a)) (starts k) (open_flights past) x kept.transfers found in direction_there x x.direction fits.page fits.fits

  can_land : (p f k : ℕ) (x : Flight) → IsLanding past p f k x → CanLand (length config.procs) (open_flights past) k × (f < config.frames)
  can_land p f k x lands = (record { flight = x; open_k = lands.open_k; is_for = open_for k x lands.open_k }, landing p f k x lands)

  taken : (p address f : ℕ) (to : FrameState) → IsTaken past a p (page_number address) f to → f < config.frames
  taken p address f to row = subst (λ (n : ℕ). n < config.frames) row.frame (valid_at_page config past a p (page_number address) row.entry kept row.valid).within

  evicted : (why : EvictWhy) (seat p address f : ℕ) (to : FrameState) → IsEvict why config past a seat p address f to → f < config.frames
  evicted evict.Replace seat p address f to row = taken p address f to row.1.evicted.taken
  evicted evict.Purge seat p address f to row = taken p address f to row.1.taken
  evicted evict.Delete seat p address f to row = taken p address f to row.1.taken
  evicted evict.Leave seat p address f to row = taken p address f to row.taken
  evicted evict.Rundown seat p address f to row = taken p address f to row.taken

  begun : (seat f : ℕ) (b : BlockId) (r : Role) → WhatHasLine (length config.procs) config.sections (what.In (record { 0 = f }) b r) → IsIn r config past a seat f b → IsOfProcess (length config.procs) r × (f < config.frames)
  begun seat f b (role.Fault q address) line row = (line.2.0, head f row.frame.head)
  begun seat f b (role.Near near) line row = (tt, head f row.lying.frame.head)
  begun seat f b (role.Come q address) line row = (line.2.0, head f row.lying.frame.head)

  -- the frames and processes that a legal entry names are there
  can : (p : ℕ) (w : What) → WhatHasLine (length config.procs) config.sections w → IsLegalWhat config past a p w → AreNamedThere config s (open_flights past) p w
  can p (what.Done r reply) line row = (row.own.process, λ e is. (valid_at_page config past a p (page_number (r.addr).0) e kept is).within)
  can p (what.Denied r reason) line row = denied_process config past a p r reason row
  can p (what.Served x reply) line row = (served_process config past a p x reply row, line.0, refl)
  can p (what.Reuse f g) line (inl row) = held f.0 g row.holds
  can p (what.Reuse f g) line (inr row) = held f.0 g row.holds
  can p (what.Zero address f) line row = (row.own.process, head f.0 row.frame.head)
  can p (what.Back q address f from) line (inl row) = (line.0.0, held f.0 row.1.page row.1.holds)
  can p (what.Back q address f from) line (inr row) = (line.0.0, held f.0 row.page row.holds)
  can p (what.Collide address f k) line row = row.own.process
  can p (what.In f b r) line row = begun p f.0 b r line row
  can p (what.InOk f k) line row = can_land p f.0 k row.flight row.lands
  can p (what.InFail f k c d) line row = landing p f.0 k row.flight row.lands
  can p (what.Out f b) line (inl row) = held f.0 row.page row.holds
  can p (what.Out f b) line (inr row) = held f.0 row.page row.holds
  can p (what.OutOk f k) line row = can_land p f.0 k row.flight row.lands
  can p (what.OutFail f k c d) line row = can_land p f.0 k row.write.flight row.write.lands
  can p (what.Evict q address f why to) line row = (line.0.0, evicted why p q.0 address.0 f.0 to row)
  can p (what.Limit n faults) line row = row.own.process
  can p (what.Turn q status) line row = row.process

pub can_change : (config : Config) (past : List Entry) (s : Shown) (p : ℕ) (w : What) → Follows config past s → WhatHasLine (length config.procs) config.sections w
    → IsLegalWhat config past (pager_after config past) p w → AreNamedThere config s (open_flights past) p w
can_change config past s p w follows line row =
    let same : record { frames = config.frames; processes = length config.procs; pager = pager_after config past } ≡ s =
    λ i. record { frames = sym follows.tables.frames i; processes = sym follows.tables.processes i; pager = sym follows.pager i } in
    subst (λ (x : Shown). AreNamedThere config x (open_flights past) p w) same (can config past follows.tables.formed follows.run p w line row)
