use Rattle.std.proofs.Common.{ℕ, ◌+◌, ◌<◌, List, length, take, drop, codes, subst, sym, arith}
use Rattle.std.proofs.lemmas.List.{drop_more, take_more}
use Rattle.std.proofs.lemmas.Result.{err_from_is_err_and}
use Rattle.dump_bytes.proofs.Repeating.{IsSpelled, spelled_one, spelled_stop}
use Rattle.dump_bytes.proofs.reading.letters_in.Goals as goal

pub returns-in_err-rest : goal.returns-in_err-rest
returns-in_err-rest c =
    let p = err_from_is_err_and c.from_residual.result c.from_residual.ensures.1 in
    let i = c.loop-letter.letter-index in
    let lt : i < length (codes "VMSDUMP1") = omega arith in
    let so_far = subst (λ (others : List ℕ). IsSpelled (codes "VMSDUMP1") c.args.bytes.now (take i (codes "VMSDUMP1")) others c.loop-letter.rest.now) (drop_more (codes "VMSDUMP1") i 0 lt) c.loop-letter.invariant in
    rw (p.1, p.2) (spelled_stop _ _ _ so_far c.in_err-rest.ensures)

pub loop-letter-preserved : goal.loop-letter-preserved
loop-letter-preserved c =
    let i = c.loop-letter.letter-index in
    let lt : i < length (codes "VMSDUMP1") = omega arith in
    let so_far = subst (λ (others : List ℕ). IsSpelled (codes "VMSDUMP1") c.args.bytes.now (take i (codes "VMSDUMP1")) others c.loop-letter.rest.now) (drop_more (codes "VMSDUMP1") i 0 lt) c.loop-letter.invariant in
    subst (λ (done : List ℕ). IsSpelled (codes "VMSDUMP1") c.args.bytes.now done (drop (i + 1) (codes "VMSDUMP1")) c.in_ok-rest.rest.now) (sym (take_more (codes "VMSDUMP1") i 0 lt))
    (spelled_one _ _ _ so_far c.in_ok-rest.ensures)
