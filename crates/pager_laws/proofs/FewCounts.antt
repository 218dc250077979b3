-- A process has no more references and faults since its last adjustment than the journal has entries.
use Rattle.std.proofs.Common.{◌≡◌, ℕ, ◌+◌, ◌≤◌, List, [], ◌∷◌, Option, Some, None, length, find, refl, subst, ap, arith}
use Rattle.vm_types.specs.declared.names.BlockId.{BlockId}
use Rattle.vm_types.specs.declared.names.BlockId.TheVariants as block
use Rattle.vm_types.specs.declared.names.ProcStatus.{ProcStatus}
use Rattle.vm_types.specs.declared.names.ProcStatus.TheVariants as status
use Rattle.vm_types.specs.declared.config.Config.{Config}
use Rattle.vm_types.specs.declared.reply.Answer.{Answer}
use Rattle.vm_types.specs.declared.reply.Answer.TheVariants as answer
use Rattle.vm_types.specs.declared.service.Service.{Service}
use Rattle.vm_types.specs.declared.service.Service.TheVariants as service
use Rattle.vm_journal.specs.declared.entry.Entry.{Entry}
use Rattle.vm_journal.specs.declared.entry.Role.{Role}
use Rattle.vm_journal.specs.declared.entry.Role.TheVariants as role
use Rattle.vm_journal.specs.declared.entry.What.{What}
use Rattle.vm_journal.specs.declared.entry.What.TheVariants as what
use Rattle.pager_model.specs.Back.{after_any_back}
use Rattle.pager_model.specs.Flights.{Flight, Direction, reading, writing, open_flights}
use Rattle.pager_model.specs.Forget.{own_pages, range_of}
use Rattle.pager_model.specs.In.{after_in}
use Rattle.pager_model.specs.InOk.{after_in_ok}
use Rattle.pager_model.specs.Out.{after_any_out}
use Rattle.pager_model.specs.OutLanding.{after_out_ok, marked}
use Rattle.pager_model.specs.Pager.{Pager}
use Rattle.pager_model.specs.Run.{pager_after}
use Rattle.pager_model.specs.Served.{after_served}
use Rattle.pager_model.specs.Sets.{at_number}
use Rattle.pager_model.specs.Step.{after_what}
use Rattle.pager_model.specs.Transfers.{starts}
use Rattle.pager_laws.specs.Laws.{HasFewCounts}
use Rattle.pager_rules.proofs.Basics.{at_number_cases}
use Rattle.pager_laws.proofs.DeleteKept.{untouched}

-- one more at one process, or none
raised : (count : ℕ → ℕ) (p x n : ℕ) → x ≤ n + 1 → ((q : ℕ) → count q ≤ n) → (q : ℕ) → at_number count p x q ≤ n + 1
raised count p x n here old = at_number_cases (λ (q m : ℕ). m ≤ n + 1) count p x here (λ q apart. omega (arith, old q))

same : (n : ℕ) (a b : Pager) → b.references ≡ a.references → b.faults ≡ a.faults → HasFewCounts n a → HasFewCounts (n + 1) b
same n a b references faults old = record {
  references = λ p. let is = ap (λ (count : ℕ → ℕ). count p) references in omega (arith, old.references p, is);
  faults = λ p. let is = ap (λ (count : ℕ → ℕ). count p) faults in omega (arith, old.faults p, is);
}

faulted : (n : ℕ) (a b : Pager) (p : ℕ) → b.references ≡ a.references → b.faults ≡ at_number a.faults p (a.faults p + 1) → HasFewCounts n a → HasFewCounts (n + 1) b
faulted n a b p references faults old = record {
  references = λ q. let is = ap (λ (count : ℕ → ℕ). count q) references in omega (arith, old.references q, is);
  faults = λ q. let is = ap (λ (count : ℕ → ℕ). count q) faults in let few = raised a.faults p (a.faults p + 1) n (omega (arith, old.faults p)) old.faults q in omega (arith, few, is);
}

referred : (n : ℕ) (a b : Pager) (p : ℕ) → b.references ≡ at_number a.references p (a.references p + 1) → b.faults ≡ a.faults → HasFewCounts n a → HasFewCounts (n + 1) b
referred n a b p references faults old = record {
  references = λ q. let is = ap (λ (count : ℕ → ℕ). count q) references in let few = raised a.references p (a.references p + 1) n (omega (arith, old.references p)) old.references q in omega (arith, few, is);
  faults = λ q. let is = ap (λ (count : ℕ → ℕ). count q) faults in omega (arith, old.faults q, is);
}

in_few : (config : Config) (n : ℕ) (a : Pager) (f : ℕ) (r : Role) → HasFewCounts n a → HasFewCounts (n + 1) (after_in config a f r)
in_few config n a f (role.Fault q address) old = faulted n a (after_in config a f (role.Fault q address)) q.0 refl refl old
in_few config n a f (role.Near g) old = same n a (after_in config a f (role.Near g)) refl refl old
in_few config n a f (role.Come q address) old = same n a (after_in config a f (role.Come q address)) refl refl old

in_ok_few : (n : ℕ) (a : Pager) (f : ℕ) (o : Option Flight) → HasFewCounts n a → HasFewCounts (n + 1) (after_in_ok a f o)
in_ok_few n a f None old = same n a a refl refl old
in_ok_few n a f (Some x) old = by x.direction
  where
    by : (d : Direction) → HasFewCounts (n + 1) (after_in_ok a f (Some (record x { direction = d })))
    by (reading (role.Fault q address)) = same n a (after_in_ok a f (Some (record x { direction = reading (role.Fault q address) }))) refl refl old
    by (reading (role.Near near)) = same n a (after_in_ok a f (Some (record x { direction = reading (role.Near near) }))) refl refl old
    by (reading (role.Come q address)) = same n a (after_in_ok a f (Some (record x { direction = reading (role.Come q address) }))) refl refl old
    by writing = same n a a refl refl old

out_ok_few : (n : ℕ) (a : Pager) (f : ℕ) (o : Option Flight) → HasFewCounts n a → HasFewCounts (n + 1) (after_out_ok a f o)
out_ok_few n a f None old = same n a a refl refl old
out_ok_few n a f (Some x) old = same n a (after_out_ok a f (Some x)) refl refl old

back_few : (n : ℕ) (a : Pager) (s : ProcStatus) (p address f : ℕ) → HasFewCounts n a → HasFewCounts (n + 1) (after_any_back a s p address f)
back_few n a status.Coming p address f old = same n a (after_any_back a status.Coming p address f) refl refl old
back_few n a other p address f old = faulted n a (after_any_back a other p address f) p refl refl old

out_few : (n : ℕ) (a : Pager) (f : ℕ) (b : BlockId) → HasFewCounts n a → HasFewCounts (n + 1) (after_any_out a f b)
out_few n a f (block.Swap p m) old = same n a (after_any_out a f (block.Swap p m)) refl refl old
out_few n a f other old = same n a (after_any_out a f other) refl refl old

served_few : (config : Config) (n : ℕ) (a : Pager) (p : ℕ) (s : Service) (w : Answer) → HasFewCounts n a → HasFewCounts (n + 1) (after_served config a p s w)
served_few config n a p (service.Create at pages prot) answer.Good old = same n a (after_served config a p (service.Create at pages prot) answer.Good) refl refl old
served_few config n a p (service.Delete at pages) answer.Good old =
    same n a (after_served config a p (service.Delete at pages) answer.Good)
    (untouched config (λ (x : Pager). x.references) (λ x g. refl) (own_pages config a.map p (range_of at.0 pages)) a)
    (untouched config (λ (x : Pager). x.faults) (λ x g. refl) (own_pages config a.map p (range_of at.0 pages)) a) old
served_few config n a p (service.Protect at pages prot) answer.Good old = same n a (after_served config a p (service.Protect at pages prot) answer.Good) refl refl old
served_few config n a p (service.Lock at pages) (answer.Count k) old = same n a (after_served config a p (service.Lock at pages) (answer.Count k)) refl refl old
served_few config n a p (service.Unlock at pages) (answer.Count k) old = same n a (after_served config a p (service.Unlock at pages) (answer.Count k)) refl refl old
served_few config n a p (service.Pin at pages) (answer.Count k) old = same n a (after_served config a p (service.Pin at pages) (answer.Count k)) refl refl old
served_few config n a p (service.Unpin at pages) (answer.Count k) old = same n a (after_served config a p (service.Unpin at pages) (answer.Count k)) refl refl old
served_few config n a p (service.Adjust k) answer.Good old = same n a (after_served config a p (service.Adjust k) answer.Good) refl refl old
served_few config n a p s other old = same n a a refl refl old

row_few : (config : Config) (past : List Entry) (a : Pager) (n p : ℕ) (w : What) → HasFewCounts n a → HasFewCounts (n + 1) (after_what config past a p w)
row_few config past a n p (what.Done r w) old = referred n a (after_what config past a p (what.Done r w)) p refl refl old
row_few config past a n p (what.Denied r w) old = referred n a (after_what config past a p (what.Denied r w)) p refl refl old
row_few config past a n p (what.Served s w) old = served_few config n a p s w old
row_few config past a n p (what.Zero address f) old = faulted n a (after_what config past a p (what.Zero address f)) p refl refl old
row_few config past a n p (what.Back q address f from) old = back_few n a (a.status q.0) q.0 address.0 f.0 old
row_few config past a n p (what.In f b r) old = in_few config n a f.0 r old
row_few config past a n p (what.InOk f k) old = in_ok_few n a f.0 (find (starts k) (open_flights past)) old
row_few config past a n p (what.Out f b) old = out_few n a f.0 b old
row_few config past a n p (what.OutOk f k) old = out_ok_few n a f.0 (find (starts k) (open_flights past)) old
row_few config past a n p (what.OutFail f k c d) old = out_ok_few n (marked a f.0) f.0 (find (starts k) (open_flights past)) (record { references = old.references; faults = old.faults })
row_few config past a n p (what.Limit m faults) old = record {
  references = λ q. raised a.references p 0 n (omega arith) old.references q;
  faults = λ q. raised a.faults p 0 n (omega arith) old.faults q;
}
row_few config past a n p other old = same n a (after_what config past a p other) refl refl old

pub counts_few : (config : Config) (past : List Entry) → HasFewCounts (length past) (pager_after config past)
counts_few config [] = record { references = λ p. omega arith; faults = λ p. omega arith }
counts_few config (e ∷ past) = subst (λ (n : ℕ). HasFewCounts n (pager_after config (e ∷ past))) (omega arith) (row_few config past (pager_after config past) (length past) (e.seat).0 e.what (counts_few config past))
