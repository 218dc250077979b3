use Rattle.std.proofs.Common.{arith, rules}
use Rattle.std.proofs.lemmas.Grind.{common_steps}
use Rattle.shadow_pager.proofs.shadow_pager.process_tables.Goals as goal

pub returns : goal.returns
returns c =
    record {
      count = c.in_ok-vec.ensures.len;
      statuses = c.in_ok-vec.ensures.items_if_clones_equal (λ y e. e);
      rings = c.in_ok-rings_of.ensures;
      limits = c.in_ok-limits_of.ensures;
      references = c.in_ok-vec-2.ensures.items_if_clones_equal (λ y e. e);
      faults = c.in_ok-vec-3.ensures.items_if_clones_equal (λ y e. e);
      collided = c.in_ok-vec-4.ensures.items_if_clones_equal (λ y e. first_of (search rules, grind (arith, common_steps)));
    }
