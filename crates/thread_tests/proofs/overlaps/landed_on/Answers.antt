use Rattle.std.proofs.Common.{[], ◌∷◌, ap, sym, ◌∙◌}
use Rattle.history_lock.specs.Views.{unseen}
use Rattle.vm_state.specs.Based.{base_of}
use Rattle.vm_state.specs.History.{History}
use Rattle.thread_tests.proofs.overlaps.landed_on.Goals as goal

pub last_desk-requires-clause-fresh : goal.last_desk-requires-clause-fresh
last_desk-requires-clause-fresh g c κs = λ i pass at. record {
  own = c.in_ok-lock.ensures.own i pass at;
  idle = c.in_ok-lock.ensures.idle i pass at;
  views = c.in_ok-lock.ensures.view i pass at ∙ ap (λ (s : History). unseen (i ∷ []) (base_of s)) (sym c.of-of.ensures);
}
