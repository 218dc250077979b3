-- The opening state: all frames that aren't bad are empty and free in number order, all processes are
-- resident with empty rings and the limits of the configuration, and nothing is charged. This
-- project's own.
use Rattle.std.specs.Prelude.{ℕ, Bool, true, false, ◌||◌, [], Option, Some, None, filter, slice_get, replicate, nat_le, not, if◌then◌else◌}
use Rattle.std.specs.List.{range_with_len}
use Rattle.vm_types.specs.Ring.{Ring}
use Rattle.vm_types.specs.declared.names.Page.{Page}
use Rattle.vm_types.specs.declared.names.Page.TheVariants.{Private, Shared}
use Rattle.vm_types.specs.declared.names.FrameState.{FrameState}
use Rattle.vm_types.specs.declared.names.FrameState.TheVariants as state
use Rattle.vm_types.specs.declared.names.BlockId.{BlockId}
use Rattle.vm_types.specs.declared.names.BlockId.TheVariants as block
use Rattle.vm_types.specs.declared.names.ProcStatus.TheVariants as status
use Rattle.vm_types.specs.declared.config.Config.{Config}
use Rattle.vm_types.specs.declared.config.ProcSpec.{ProcSpec}
use Rattle.pager_model.specs.Maps.{first_map, paged_of}
use Rattle.pager_model.specs.Pager.{Pager}
use Rattle.pager_model.specs.Sets.{has}

-- a frame of the configuration that is bad; a number past the frames counts as bad
abbrev pub is_bad : Config → ℕ → Bool
is_bad config f = nat_le config.frames f || has config.bad f

abbrev pub first_state : Bool → FrameState
first_state true = state.Bad
first_state false = state.Free

-- as many empty slots as the extent; a process that isn't there has none
abbrev pub first_ring : Option ProcSpec → Ring
first_ring None = record { slots = []; hand = 0 }
first_ring (Some spec) = record { slots = replicate spec.extent None; hand = 0 }

abbrev pub first_limit : Option ProcSpec → ℕ
first_limit None = 0
first_limit (Some spec) = spec.limit

-- a page of a section with a file lies in its block, always; a paged one lies nowhere at first
abbrev pub first_block : Config → Page → Option BlockId
first_block config (Private p v) = None
first_block config (Shared s i) = if paged_of (slice_get config.sections s.0) then None else Some (block.Section s i)

abbrev pub opening : Config → Pager
opening config =
    record {
      state = λ f. first_state (is_bad config f);
      page = λ f. None;
      modify = λ f. false;
      free = filter (λ f. not (is_bad config f)) (range_with_len 0 config.frames);
      modified = [];
      status = λ p. status.Resident;
      ring = λ p. first_ring (slice_get config.procs p);
      limit = λ p. first_limit (slice_get config.procs p);
      references = λ p. 0;
      faults = λ p. 0;
      collided = λ p. None;
      map = first_map config;
      valid = [];
      charged = [];
      touched = [];
      lies = first_block config;
      assigned = [];
    }
