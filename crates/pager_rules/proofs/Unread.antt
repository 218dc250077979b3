-- What soundness reads nothing of.
use Rattle.std.proofs.Common.{ℕ, Option}
use Rattle.vm_types.specs.declared.config.Config.{Config}
use Rattle.pager_model.specs.Around.{PastView}
use Rattle.pager_model.specs.Pager.{Pager}
use Rattle.pager_rules.specs.Kept.{IsKept}

pub unread : (config : Config) (o : PastView) (a : Pager) (references faults : ℕ → ℕ) (collided : ℕ → Option ℕ) → IsKept config o a → IsKept config o (record a { references = references; faults = faults; collided = collided })
unread config o a references faults collided kept = record {
  frames = kept.frames;
  processes = kept.processes;
  entries = kept.entries;
  valid = kept.valid;
  pages = kept.pages;
  blocks = kept.blocks;
  fit = kept.fit;
  held_once = kept.held_once;
  held_charged = kept.held_charged;
  unsaved = kept.unsaved;
  swapped = kept.swapped;
  coming_once = kept.coming_once;
  transfers = kept.transfers;
  one_fault = kept.one_fault;
  failed = kept.failed;
}
