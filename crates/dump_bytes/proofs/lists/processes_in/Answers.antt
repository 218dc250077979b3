use Rattle.std.proofs.Common.{refl, ◌≡◌, ◌≢◌, ℕ, ◌<◌, ◌≤◌, ◌+◌, List, ◌∷◌, ◌++◌, [], length, take, map, set, get_or-set_other, subst, sym, ap, ◌∙◌, arith}
use Rattle.std.proofs.lemmas.List.{length-map, length-set, length-take-le, map-append, take_more_set}
use Rattle.std.proofs.lemmas.Result.{err_from_is_err_and}
use Rattle.dump_bytes.specs.declared.dump.ProcRec.{ProcRec}
use Rattle.dump_bytes.specs.Dumped.{Process, process_of}
use Rattle.dump_bytes.specs.Reading.{process_at}
use Rattle.dump_bytes.specs.Room.{HasRoom}
use Rattle.dump_bytes.proofs.Repeating.{IsAlong, along_none, along_one, along_stop}
use Rattle.dump_bytes.proofs.lists.processes_in.Goals as goal

-- so many processes were read
done_count : (i : ℕ) (procs : List ProcRec) → i ≤ length procs → length (map process_of (take i procs)) ≡ i
done_count i procs le = length-map (take i procs) process_of ∙ length-take-le i procs le

-- one more was read in its place
done_one : (i : ℕ) (procs : List ProcRec) (p : ProcRec) → i < length procs
    → map process_of (take (i + 1) (set procs i p)) ≡ map process_of (take i procs) ++ (process_of p ∷ [])
done_one i procs p lt = ap (λ (ps : List ProcRec). map process_of ps) (take_more_set procs i p lt) ∙ map-append process_of (take i procs) (p ∷ [])

pub loop-i-init : goal.loop-i-init
loop-i-init c = record { there = refl; room = λ k d le lt. c.requires.room k d lt; along = along_none _ _ _ }

pub process_in-requires-clause-room : goal.process_in-requires-clause-room
process_in-requires-clause-room c =
    let same = c.loop-i.invariant.there in
    subst HasRoom (sym c.index_mut.ensures.value) (c.loop-i.invariant.room c.loop-i.i c.index_mut.result.now (omega arith) (omega arith))

pub returns-in_err-rest : goal.returns-in_err-rest
returns-in_err-rest c =
    let p = err_from_is_err_and c.from_residual.result c.from_residual.ensures.1 in
    let same = c.loop-i.invariant.there in
    let count = done_count c.loop-i.i c.loop-i.procs.items (omega arith) in
    rw (p.1, p.2) (along_stop _ c.loop-i.invariant.along c.in_err-rest.ensures (omega (arith, count)))

pub loop-i-preserved : goal.loop-i-preserved
loop-i-preserved c =
    let same = c.loop-i.invariant.there in
    let i = c.loop-i.i in
    let procs = c.loop-i.procs.items in
    let new = c.process_in.new.proc in
    let count = done_count i procs (omega arith) in
    record {
      there = length-set procs i new ∙ same;
      room = λ k d le lt.
          let other : k ≢ i = omega arith in
          let within : k < length procs = omega (arith, length-set procs i new) in
          subst HasRoom (sym (get_or-set_other procs i k new d other)) (c.loop-i.invariant.room k d (omega arith) within);
      along = subst (λ (done : List Process). IsAlong (process_at c.args.frames) c.args.count c.args.bytes.now done c.in_ok-rest.rest.now) (sym (done_one i procs new (omega arith)))
          (along_one _ _ c.loop-i.invariant.along c.in_ok-rest.ensures (omega (arith, count)));
    }
