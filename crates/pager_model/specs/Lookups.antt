-- What is read off the pager's state: entries, shares, charges, blocks and slots. This project's own.
use Rattle.std.specs.Prelude.{◌≡◌, ℕ, Bool, false, ◌&&◌, List, ◌∷◌, Option, Some, None, map, find, count_by, nat_eq, nat_le, not}
use Rattle.std.specs.Option.{option_map}
use Rattle.std.specs.List.{position_or_len}
use Rattle.vm_types.specs.Ring.{Ring, Held}
use Rattle.vm_types.specs.Same.{same_page, same_state}
use Rattle.vm_types.specs.declared.names.Page.{Page}
use Rattle.vm_types.specs.declared.names.Page.TheVariants.{Private, Shared}
use Rattle.vm_types.specs.declared.names.FrameState.{FrameState}
use Rattle.vm_types.specs.declared.names.BlockId.{BlockId}
use Rattle.vm_types.specs.declared.names.BlockId.TheVariants as block
use Rattle.vm_types.specs.declared.config.Config.{Config}
use Rattle.vm_types.specs.declared.config.Origin.{Origin}
use Rattle.vm_types.specs.declared.config.Origin.TheVariants as origin
use Rattle.pager_model.specs.Maps.{Map, Mapped, page_behind}
use Rattle.pager_model.specs.Pager.{Assigned, Valid}

-- the valid entry of a process for a page number
abbrev pub is_entry : ℕ → ℕ → Valid → Bool
is_entry p v e = nat_eq e.proc p && nat_eq e.vpn v

abbrev pub entry_of : List Valid → ℕ → ℕ → Option Valid
entry_of valid p v = find (is_entry p v) valid

-- how many valid entries a process has for a page number
abbrev pub entries_at : List Valid → ℕ → ℕ → ℕ
entries_at valid p v = count_by (is_entry p v) valid

-- how many valid entries there are for a frame
abbrev pub shares : List Valid → ℕ → ℕ
shares valid f = count_by (λ (e : Valid). nat_eq e.frame f) valid

abbrev pub page_at : Config → ℕ → ℕ → Option Mapped → Option Page
page_at config p v None = None
page_at config p v (Some m) = Some (page_behind config p v m.origin)

-- the page that a process has at a page number
abbrev pub page_by : Config → Map → ℕ → ℕ → Option Page
page_by config map p v = page_at config p v (map p v)

abbrev pub section_of : Origin → Option BlockId
section_of origin.Zero = None
section_of (origin.Section s i) = Some (block.Section s i)

-- the section block behind a mapped page
abbrev pub section_at : Option Mapped → Option BlockId
section_at None = None
section_at (Some m) = section_of m.origin

-- of a private page: the page that its process has there, and the section block behind it
abbrev pub own_page : Config → Map → Page → Option Page
own_page config map (Private p v) = page_by config map p.0 v
own_page config map (Shared s i) = None

abbrev pub own_section : Map → Page → Option BlockId
own_section map (Private p v) = section_at (map p.0 v)
own_section map (Shared s i) = None

-- how often a page stands in a list
abbrev pub count_page : List Page → Page → ℕ
count_page pages g = count_by (same_page g) pages

abbrev pub is_assigned_to : Page → Assigned → Bool
is_assigned_to page x = same_page page x.page

-- the page file block that is assigned to a page
abbrev pub block_of : List Assigned → Page → Option ℕ
block_of assigned g = option_map (λ (x : Assigned). x.block) (find (is_assigned_to g) assigned)

-- whether the assignment is of this block
abbrev pub is_owner : BlockId → Assigned → Bool
is_owner (block.PageFile b) x = nat_eq x.block b
is_owner other x = false

-- whether the slot has the page number
abbrev pub has_vpn : ℕ → Option Held → Bool
has_vpn v None = false
has_vpn v (Some held) = nat_eq held.vpn v

abbrev pub slots_with : Ring → ℕ → ℕ
slots_with ring v = count_by (has_vpn v) ring.slots

-- how many slots have the page number pinned
abbrev pub has_pin : ℕ → Option Held → Bool
has_pin v None = false
has_pin v (Some held) = nat_eq held.vpn v && held.pinned

abbrev pub pins_with : Ring → ℕ → ℕ
pins_with ring v = count_by (has_pin v) ring.slots

-- the slot of a page number
abbrev pub slot_with : Ring → ℕ → ℕ
slot_with ring v = position_or_len (has_vpn v) ring.slots

-- whether a frame is in a state
abbrev pub is : FrameState → FrameState → Bool
is s x = same_state x s

-- whether the page is one of the process's own
abbrev pub is_of : ℕ → Page → Bool
is_of p (Private q v) = nat_eq q.0 p
is_of p (Shared s i) = false

-- an adjustment is pending where enough references were spoken since the last one
abbrev pub is_pending : Config → ℕ → Bool
is_pending config references = not (nat_eq config.params.awstime 0) && nat_le config.params.awstime references

-- the first of the list
pub record IsHead (xs : List ℕ) (f : ℕ) : Type 0 where
  pub rest : List ℕ
  pub heads : xs ≡ f ∷ rest

-- what a slot holds; a slot that isn't there holds nothing
abbrev pub slot_of : Option (Option Held) → Option Held
slot_of None = None
slot_of (Some slot) = slot

-- whether there is one that passes
abbrev pub passes : {X : Type 0} → (X → Bool) → Option X → Bool
passes t None = false
passes t (Some x) = t x
