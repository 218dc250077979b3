use Rattle.std.proofs.Common.{◌≡◌, reverse}
use Rattle.pager_model.specs.Ring.{repinned_slot}
use Rattle.pager_model.specs.Run.{pager_after}
use Rattle.pager_model.specs.Served.{with_ring}
use Rattle.state_parts.proofs.Marked.{changed_before}
use Rattle.state_fits.specs.PartsFit.{PartsFit}
use Rattle.vm_state.proofs.state.State.repin.Given as goal

abbrev pub invariant-loop-slot : goal.invariant-loop-slot
invariant-loop-slot g l = record {
  parts : PartsFit l.initial.self-inside.config (reverse l.initial.self-inside.journal.entries)
      (with_ring (pager_after l.initial.self-inside.config (reverse l.initial.self-inside.journal.entries)) l.seat.0
      (changed_before (repinned_slot l.pin l.at.0 l.pages) l.slot ((pager_after l.initial.self-inside.config (reverse l.initial.self-inside.journal.entries)).ring l.seat.0)))
      (record {
        frames = (l.self-inside.store).frames;
        starts = (l.self-inside.store).flights;
        roles = l.self-inside.roles.items;
        processes = l.self-inside.processes.items;
        spoken = l.self-inside.spoken.items;
        tables = l.self-inside.tables;
        sections = l.self-inside.sections;
        pages = l.self-inside.pages;
        globals = l.self-inside.globals;
        file = l.self-inside.file;
        swaps = l.self-inside.swaps;
        busy = l.self-inside.busy.items;
        in_flight = l.self-inside.in_flight;
        failed = l.self-inside.failed;
      });
  tables : l.self-inside.tables ≡ l.initial.self-inside.tables;
  store : l.self-inside.store ≡ record l.initial.self-inside.store { frames = (l.self-inside.store).frames };
  config : l.self-inside.config ≡ l.initial.self-inside.config;
  journal : l.self-inside.journal ≡ l.initial.self-inside.journal;
  firsts : l.self-inside.firsts.items ≡ l.initial.self-inside.firsts.items;
  halted : l.self-inside.halted ≡ l.initial.self-inside.halted;
}
