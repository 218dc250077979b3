use Rattle.std.proofs.Common.{rules, ◌≡◌}
use Rattle.disk_trait.proofs.memory_depot.MemoryDepot.next_spare.Goals as goal

pub returns-then-is_due : goal.returns-then-is_due
returns-then-is_due c =
    let same : c.deref.result.now ≡ c.args.self.now.fail_makes = search rules in
    record {
      counts = record {
        fails = (λ _. rw (← same) (c.is_due.ensures.0 c.if-is_due.true), λ _. search rules);
        retired = search rules;
        fail_makes = search rules;
        makes = search rules;
        later = search rules;
        ok = search rules;
        no_memory = search rules;
        failed = search rules;
      };
    }
