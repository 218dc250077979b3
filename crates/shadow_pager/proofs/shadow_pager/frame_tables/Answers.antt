use Rattle.shadow_pager.proofs.shadow_pager.frame_tables.Goals as goal

pub returns : goal.returns
returns c =
    record {
      count = c.in_ok-states_of.ensures.count;
      states = c.in_ok-states_of.ensures.states;
      held = c.in_ok-new.ensures;
      marks = c.in_ok-vec.ensures.items_if_clones_equal (λ y e. e);
      free = c.in_ok-free_of.ensures;
    }
