use Rattle.std.proofs.Common.{◌∙◌, ℕ, ◌+◌, List, [], ◌∷◌, ◌++◌, cond, ap, filter, sym, zero-add}
use Rattle.std.specs.List.{range_with_len}
use Rattle.pager_model.specs.Flights.{open_flights}
use Rattle.pager_model.specs.Transfers.{is_in_flight}
use Rattle.state_dump.proofs.Walks.{passed_more}
use Rattle.state_dump.proofs.frames.frames_in_transfer.Goals as goal

pub loop-f-preserved : goal.loop-f-preserved
loop-f-preserved g c =
    let f : ℕ = c.loop-f.f in
    let past = c.args.state.now.past in
    c.in_ok-push_busy.ensures
    ∙ (ap (λ (xs : List ℕ). xs ++ cond (is_in_flight f (open_flights past)) (f ∷ []) []) c.loop-f.invariant
    ∙ (ap (λ (m : ℕ). filter (λ (x : ℕ). is_in_flight x (open_flights past)) (range_with_len 0 f) ++ cond (is_in_flight m (open_flights past)) (m ∷ []) []) (sym (zero-add f))
    ∙ sym (passed_more (λ (x : ℕ). is_in_flight x (open_flights past)) 0 f)))
