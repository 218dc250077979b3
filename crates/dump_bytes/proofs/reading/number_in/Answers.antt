use Rattle.std.proofs.Common.{ℕ, List, Ok, drop, sym, ap, ◌∙◌, arith}
use Rattle.std.proofs.lemmas.List.{take_rest}
use Rattle.std.proofs.lemmas.Result.{err_from_is_err_and}
use Rattle.dump_bytes.proofs.Fronts.{number_goes, number_stops}
use Rattle.dump_bytes.proofs.reading.number_in.Goals as goal

pub returns-in_err-judge_four-clause-read : goal.returns-in_err-judge_four-clause-read
returns-in_err-judge_four-clause-read c =
    let p = err_from_is_err_and c.from_residual.result c.from_residual.ensures.1 in
    rw (p.1, p.2) (number_stops c.args.low c.args.high c.args.bytes.now (λ k. omega (arith, c.type_inv.bytes k)) 4 _ c.requires (omega arith) c.in_err-judge_four.ensures.read)

pub returns-clause-read : goal.returns-clause-read
returns-clause-read c =
    let whole = number_goes c.args.low c.args.high c.args.bytes.now (λ k. omega (arith, c.type_inv.bytes k)) 4 c.requires (omega arith) c.in_ok-judge_four.ensures.read in
    whole ∙ ap (λ (n : ℕ). Ok (n, drop 4 c.args.bytes.now)) (sym c.read_u32.ensures) ∙ ap (λ (t : List ℕ). Ok (c.read_u32.result, t)) (sym (take_rest c.args.bytes.now 4))
