use Rattle.std.proofs.Common.{ℕ, ◌+◌, None, replicate, refl, ap, ◌∙◌}
use Rattle.vm_state.proofs.StartCloses.{started}
use Rattle.vm_state.proofs.state.State.start_with.Goals as goal

pub invariant_of-result : goal.invariant_of-result
invariant_of-result g c =
    started g.B.Block.seen g.B.Block.tells c.args.config c.args.blocks.items c.in_ok-store.store
    (record {
      left = c.in_ok-store.ensures.left;
      size = c.in_ok-store.ensures.size;
      buffers = c.in_ok-store.ensures.buffers;
      ids = c.in_ok-store.ensures.ids;
      blocks_are = c.in_ok-store.ensures.blocks;
      names = c.requires.names;
      made = c.requires.made;
    })
    _ _ c.args.journal c.requires.formed
    (record {
      frames = c.in_ok-store.ensures.frames;
      starts = c.in_ok-store.ensures.flights;
      roles = c.in_ok-rows.ensures.roles;
      processes = c.in_ok-rows.ensures.processes;
      spoken = c.in_ok-rows.ensures.spoken;
      table_procs = c.in_ok-parts.ensures.table_procs;
      entries = c.in_ok-parts.ensures.entries;
      section_procs = c.in_ok-parts.ensures.section_procs;
      kinds = c.in_ok-parts.ensures.kinds;
      behind = c.in_ok-parts.ensures.behind;
      page_procs = c.in_ok-parts.ensures.page_procs;
      page_places = c.in_ok-parts.ensures.page_places;
      pages = c.in_ok-parts.ensures.pages;
      globals = c.in_ok-parts.ensures.globals ∙ ap (λ (n : ℕ). record { frames = replicate n None; counts = replicate n 0 }) c.in_ok-firsts.ensures.total;
      file = c.in_ok-parts.ensures.file;
      swap_procs = c.in_ok-parts.ensures.swap_procs;
      swaps = c.in_ok-parts.ensures.swaps;
      busy = c.in_ok-rows.ensures.busy;
      in_flight = refl;
      failed = refl;
    })
    c.in_ok-firsts.ensures.firsts c.requires.empty
