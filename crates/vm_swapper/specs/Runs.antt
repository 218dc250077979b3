-- Runs of consecutive slots, and the transfers that begin for them. This project's own.
use Rattle.std.specs.Prelude.{ℕ, zero, suc, ◌+◌, List, [], ◌∷◌, Option, Some, None, if◌then◌else◌}
use Rattle.vm_types.specs.declared.config.Config.{Config}
use Rattle.vm_types.specs.declared.names.BlockId.TheVariants as block
use Rattle.vm_types.specs.declared.names.Page.{Page}
use Rattle.vm_journal.specs.declared.entry.Entry.{Entry}
use Rattle.vm_journal.specs.declared.entry.Role.TheVariants as role
use Rattle.vm_journal.specs.declared.entry.What.{What}
use Rattle.vm_journal.specs.declared.entry.What.TheVariants as what
use Rattle.pager_policy.specs.Given.{Seen, Target, address_of, seen_at}
use Rattle.pager_model.specs.Maps.{pfn, proc}
use Rattle.pager_model.specs.Pager.{Pager}
use Rattle.pager_policy.specs.Swap.{is_out_page, is_to_save}
use Rattle.pager_model.specs.Lying.{lying_in}
use Rattle.vm_swapper.specs.declared.runs.Wanted.{Wanted}
use Rattle.vm_swapper.specs.declared.runs.Wanted.TheVariants as wanted

-- what is found from a place on, up to the first one where nothing is, and in so many places at most
abbrev pub and_then : {Y : Type 0} → Option Y → List Y → List Y
and_then None rest = []
and_then (Some y) rest = y ∷ rest

abbrev pub gathered : {Y : Type 0} → (ℕ → Option Y) → ℕ → ℕ → List Y
gathered find_at n zero = []
gathered find_at n (suc k) = and_then (find_at n) (gathered find_at (n + 1) k)

-- the frame of a page that is to be written
abbrev pub frame_if : List Entry → Option Seen → Option ℕ
frame_if past None = None
frame_if past (Some s) = if is_to_save past s then Some s.frame else None

abbrev pub frame_at : List Entry → Pager → ℕ → ℕ → Option ℕ
frame_at past a p n = frame_if past (seen_at a p n)

-- the address of a page that is to be read
abbrev pub address_if : Config → Pager → Option Page → Option ℕ
address_if config a None = None
address_if config a (Some g) = if is_out_page config a g then Some (address_of g).0 else None

abbrev pub address_at : Config → Pager → ℕ → ℕ → Option ℕ
address_at config a p n = address_if config a (lying_in a p n)

-- what is wanted of a slot
abbrev pub wanted_at : Config → List Entry → Pager → ℕ → Wanted → ℕ → Option ℕ
wanted_at config past a p wanted.Frame = λ (n : ℕ). frame_at past a p n
wanted_at config past a p wanted.Address = λ (n : ℕ). address_at config a p n

-- these frames are written to the swap blocks of the slots from this one on
abbrev pub writes_from : ℕ → ℕ → List ℕ → List What
writes_from p n [] = []
writes_from p n (f ∷ frames) = what.Out (pfn f) (block.Swap (proc p) n) ∷ writes_from p (n + 1) frames

-- the pages at these addresses are read from them
abbrev pub reads_from : ℕ → ℕ → List ℕ → List Target
reads_from p n [] = []
reads_from p n (address ∷ addresses) = record { block = block.Swap (proc p) n; role = role.Come (proc p) (record { 0 = address }) } ∷ reads_from p (n + 1) addresses
