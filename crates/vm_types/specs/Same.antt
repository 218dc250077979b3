-- When two names name the same thing: tests that compute.
use Rattle.std.specs.Prelude.{Bool, false, ℕ, ◌&&◌, nat_eq}
use Rattle.vm_types.specs.declared.names.Page.{Page}
use Rattle.vm_types.specs.declared.names.Page.TheVariants.{Private, Shared}
use Rattle.vm_types.specs.declared.names.BlockId.{BlockId}
use Rattle.vm_types.specs.declared.names.BlockId.TheVariants as block
use Rattle.vm_types.specs.declared.names.FrameState.{FrameState}
use Rattle.vm_types.specs.declared.names.FrameState.TheVariants as state

abbrev pub same_page : Page → Page → Bool
same_page (Private p v) (Private q w) = nat_eq p.0 q.0 && nat_eq v w
same_page (Shared s i) (Shared t j) = nat_eq s.0 t.0 && nat_eq i j
same_page (Private p v) (Shared t j) = false
same_page (Shared s i) (Private q w) = false

abbrev pub same_block : BlockId → BlockId → Bool
same_block (block.Section s i) (block.Section t j) = nat_eq s.0 t.0 && nat_eq i j
same_block (block.PageFile i) (block.PageFile j) = nat_eq i j
same_block (block.Swap p n) (block.Swap q m) = nat_eq p.0 q.0 && nat_eq n m
same_block (block.Section s i) (block.PageFile j) = false
same_block (block.Section s i) (block.Swap q m) = false
same_block (block.PageFile i) (block.Section t j) = false
same_block (block.PageFile i) (block.Swap q m) = false
same_block (block.Swap p n) (block.Section t j) = false
same_block (block.Swap p n) (block.PageFile j) = false

-- the code of a frame's state
abbrev pub state_code : FrameState → ℕ
state_code state.Free = 0
state_code state.Modified = 1
state_code state.Bad = 2
state_code state.ReleasePending = 3
state_code state.ReadError = 4
state_code state.Writing = 5
state_code state.Reading = 6
state_code state.Active = 7

abbrev pub same_state : FrameState → FrameState → Bool
same_state a b = nat_eq (state_code a) (state_code b)
