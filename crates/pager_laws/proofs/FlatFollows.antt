-- Along a run the pager's maps and touched pages are those of the flat machine, for all sixteen rows.
use Rattle.vm_journal.specs.declared.entry.What.TheVariants.{Done}
use Rattle.pager_laws.proofs.DoneUnrefused.{done_unrefused}
use Rattle.std.proofs.Common.{◌≡◌, ℕ, false, not, List, [], ◌∷◌, Option, Some, None, filter, find, refl, sym, ap, ap₂, ◌∙◌}
use Rattle.std.specs.Option.{option_map}
use Rattle.vm_types.specs.Configuration.{IsWellFormed}
use Rattle.vm_types.specs.declared.names.Page.{Page}
use Rattle.vm_types.specs.declared.names.Seat.{Seat}
use Rattle.vm_types.specs.declared.names.BlockId.{BlockId}
use Rattle.vm_types.specs.declared.names.BlockId.TheVariants as block
use Rattle.vm_types.specs.declared.names.ProcStatus.{ProcStatus}
use Rattle.vm_types.specs.declared.names.ProcStatus.TheVariants as status
use Rattle.vm_types.specs.declared.config.Config.{Config}
use Rattle.vm_types.specs.declared.reference.Ref.{Ref}
use Rattle.vm_types.specs.declared.reply.Reply.{Reply}
use Rattle.vm_types.specs.declared.reply.Answer.{Answer}
use Rattle.vm_types.specs.declared.reply.Answer.TheVariants as answer
use Rattle.vm_types.specs.declared.reply.Why.{Why}
use Rattle.vm_types.specs.declared.service.Service.{Service}
use Rattle.vm_types.specs.declared.service.Service.TheVariants as service
use Rattle.vm_journal.specs.declared.entry.Entry.{Entry}
use Rattle.vm_journal.specs.declared.entry.Role.{Role}
use Rattle.vm_journal.specs.declared.entry.Role.TheVariants as role
use Rattle.vm_journal.specs.declared.entry.What.{What}
use Rattle.vm_journal.specs.declared.entry.What.TheVariants as what
use Rattle.pager_laws.proofs.DeleteIsFlat.{map_deleted, touched_deleted}
use Rattle.pager_laws.proofs.KeptIsSound.{kept_is_sound}
use Rattle.pager_laws.proofs.RunsAreSound.{run_kept}
use Rattle.pager_model.specs.Around.{past_view, quiet}
use Rattle.pager_model.specs.Back.{after_any_back}
use Rattle.pager_model.specs.Done.{IsDone, touched_at}
use Rattle.pager_model.specs.Flat.{FlatState, answered_at, flat_next, next_unless}
use Rattle.pager_model.specs.FlatService.{demand_zero, flat_service, is_private_in, map_range, with_prot}
use Rattle.pager_model.specs.Flights.{Direction, Flight, awaits_reuse, is_busy, open_flights, reading, writing}
use Rattle.pager_model.specs.In.{after_in}
use Rattle.pager_model.specs.InOk.{after_in_ok}
use Rattle.pager_model.specs.InTurn.{InTurn}
use Rattle.pager_model.specs.Lookups.{page_at}
use Rattle.pager_model.specs.Maps.{Map, Mapped, page_number}
use Rattle.pager_model.specs.Out.{after_any_out}
use Rattle.pager_model.specs.OutLanding.{after_out_ok, marked}
use Rattle.pager_model.specs.Pager.{Pager}
use Rattle.pager_model.specs.Run.{IsRun, pager_after}
use Rattle.pager_model.specs.Served.{after_served}
use Rattle.pager_model.specs.Spoken.{flat_after, flat_entry}
use Rattle.pager_model.specs.Step.{IsLegalWhat, after_what}
use Rattle.pager_model.specs.Transfers.{starts}
use Rattle.pager_rules.proofs.Turns.{calm, idle, no_reuse}
use Rattle.pager_rules.specs.Kept.{IsKept}

pub record IsFollowed (a : Pager) (flat : FlatState) : Type 0 where
  pub map : a.map ≡ flat.map
  pub touched : a.touched ≡ flat.touched

-- ---- rows whose state after asks the past
in_ok_follows : (a : Pager) (f : ℕ) (o : Option Flight) (flat : FlatState) → IsFollowed a flat → IsFollowed (after_in_ok a f o) flat
in_ok_follows a f None flat old = old
in_ok_follows a f (Some x) flat old = by x.direction
  where
    by : (d : Direction) → IsFollowed (after_in_ok a f (Some (record x { direction = d }))) flat
    by (reading (role.Fault q address)) = record { map = old.map; touched = old.touched }
    by (reading (role.Near near)) = record { map = old.map; touched = old.touched }
    by (reading (role.Come q address)) = record { map = old.map; touched = old.touched }
    by writing = old

out_ok_follows : (a : Pager) (f : ℕ) (o : Option Flight) (flat : FlatState) → IsFollowed a flat → IsFollowed (after_out_ok a f o) flat
out_ok_follows a f None flat old = old
out_ok_follows a f (Some x) flat old = record { map = old.map; touched = old.touched }

back_follows : (a : Pager) (s : ProcStatus) (p address f : ℕ) (flat : FlatState) → IsFollowed a flat → IsFollowed (after_any_back a s p address f) flat
back_follows a status.Coming p address f flat old = record { map = old.map; touched = old.touched }
back_follows a other p address f flat old = record { map = old.map; touched = old.touched }

in_follows : (config : Config) (a : Pager) (f : ℕ) (r : Role) (flat : FlatState) → IsFollowed a flat → IsFollowed (after_in config a f r) flat
in_follows config a f (role.Fault q address) flat old = record { map = old.map; touched = old.touched }
in_follows config a f (role.Near g) flat old = record { map = old.map; touched = old.touched }
in_follows config a f (role.Come q address) flat old = record { map = old.map; touched = old.touched }

out_follows : (a : Pager) (f : ℕ) (b : BlockId) (flat : FlatState) → IsFollowed a flat → IsFollowed (after_any_out a f b) flat
out_follows a f (block.Swap p n) flat old = record { map = old.map; touched = old.touched }
out_follows a f other flat old = record { map = old.map; touched = old.touched }

-- ---- services
served_follows : (config : Config) (past : List Entry) (a : Pager) (p : ℕ) (s : Service) (w : Answer) (flat : FlatState) → IsKept config (quiet (open_flights past)) a → IsFollowed a flat → IsFollowed (after_served config a p s w) (flat_service flat p s w)
served_follows config past a p (service.Create at pages prot) answer.Good flat kept old = record { map = ap (map_range (λ (m : Option Mapped). Some (demand_zero prot)) p at.0 pages) old.map; touched = old.touched }
served_follows config past a p (service.Delete at pages) answer.Good flat kept old = record {
  map = map_deleted config a p at.0 pages ∙ ap (map_range (λ (m : Option Mapped). None) p at.0 pages) old.map;
  touched = touched_deleted config past a p at.0 pages kept ∙ ap (filter (λ (x : Page). not (is_private_in p at.0 pages x))) old.touched;
}
served_follows config past a p (service.Protect at pages prot) answer.Good flat kept old = record { map = ap (map_range (option_map (with_prot prot)) p at.0 pages) old.map; touched = old.touched }
served_follows config past a p (service.Lock at pages) (answer.Count n) flat kept old = record { map = old.map; touched = old.touched }
served_follows config past a p (service.Unlock at pages) (answer.Count n) flat kept old = record { map = old.map; touched = old.touched }
served_follows config past a p (service.Pin at pages) (answer.Count n) flat kept old = record { map = old.map; touched = old.touched }
served_follows config past a p (service.Unpin at pages) (answer.Count n) flat kept old = record { map = old.map; touched = old.touched }
served_follows config past a p (service.Adjust n) answer.Good flat kept old = record { map = old.map; touched = old.touched }
served_follows config past a p s other flat kept old = old

-- ---- DONE
answered_map : (config : Config) (flat : FlatState) (p : ℕ) (r : Ref) (o : Option Mapped) → (answered_at config flat p r o).map ≡ flat.map
answered_map config flat p r None = refl
answered_map config flat p r (Some m) = refl

answered_touched : (config : Config) (flat : FlatState) (p : ℕ) (r : Ref) (o : Option Mapped) → (answered_at config flat p r o).touched ≡ touched_at config flat.touched (page_at config p (page_number (r.addr).0) o)
answered_touched config flat p r None = refl
answered_touched config flat p r (Some m) = refl

done_follows : (config : Config) (past : List Entry) (a : Pager) (p : ℕ) (r : Ref) (w : Reply) (flat : FlatState) → IsKept config (past_view past) a → is_busy p (open_flights past) ≡ false → awaits_reuse past ≡ false → IsDone config a p r
    → IsFollowed a flat → IsFollowed (after_what config past a p (what.Done r w)) (flat_next config flat p r)
done_follows config past a p r w flat kept still due legal old =
    let v = page_number (r.addr).0 in
    let next : FlatState = answered_at config flat p r (flat.map p v) in
    let answers : flat_next config flat p r ≡ next = ap (λ (o : Option Why). next_unless o flat next) (done_unrefused config past a flat p r (kept_is_sound config past a kept) legal old.map old.touched) in
    record {
      map = old.map ∙ (sym (answered_map config flat p r (flat.map p v)) ∙ ap (λ (x : FlatState). x.map) (sym answers));
      touched = ap₂ (λ (touched : List Page) (map : Map). touched_at config touched (page_at config p v (map p v))) old.touched old.map ∙ (sym (answered_touched config flat p r (flat.map p v)) ∙ ap (λ (x : FlatState). x.touched) (sym answers));
    }

module _ (config : Config) (past : List Entry) (a : Pager) (seat : Seat) (flat : FlatState) (kept : IsKept config (past_view past) a) (old : IsFollowed a flat) where
  abbrev entry : What → Entry
  entry w = record { seat = seat; what = w }

  row_follows : (w : What) → InTurn config past (entry w) → IsLegalWhat config past a seat.0 w → IsFollowed (after_what config past a seat.0 w) (flat_entry config flat seat.0 w)
  row_follows (what.Done r w) turn legal =
      done_follows config past a seat.0 r w flat kept (idle config past (entry (what.Done r w)) turn refl) (no_reuse config past (entry (what.Done r w)) turn refl) legal old
  row_follows (what.Served s w) turn legal = served_follows config past a seat.0 s w flat (calm config past a (entry (what.Served s w)) turn refl kept) old
  row_follows (what.In f b r) turn legal = in_follows config a f.0 r flat old
  row_follows (what.InOk f k) turn legal = in_ok_follows a f.0 (find (starts k) (open_flights past)) flat old
  row_follows (what.Out f b) turn legal = out_follows a f.0 b flat old
  row_follows (what.OutOk f k) turn legal = out_ok_follows a f.0 (find (starts k) (open_flights past)) flat old
  row_follows (what.OutFail f k c d) turn legal = out_ok_follows (marked a f.0) f.0 (find (starts k) (open_flights past)) flat (record { map = old.map; touched = old.touched })
  row_follows (what.Back q address f from) turn legal = back_follows a (a.status q.0) q.0 address.0 f.0 flat old
  row_follows other turn legal = record { map = old.map; touched = old.touched }

pub follows : (config : Config) (past : List Entry) → IsWellFormed config → IsRun config past → IsFollowed (pager_after config past) (flat_after config past)
follows config [] formed run = record { map = refl; touched = refl }
follows config (e ∷ past) formed run =
    row_follows config past (pager_after config past) e.seat (flat_after config past) (run_kept config past formed run.0) (follows config past formed run.0) e.what run.1.in_turn run.1.row
