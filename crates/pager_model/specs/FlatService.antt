-- What a service changes in the flat machine. This project's own profile of the services.
use Rattle.std.specs.Prelude.{ℕ, Bool, false, ◌+◌, ◌&&◌, filter, Option, Some, None, nat_le, nat_lt, nat_eq, not, if◌then◌else◌}
use Rattle.std.specs.Option.{option_map}
use Rattle.vm_types.specs.declared.names.Page.{Page}
use Rattle.vm_types.specs.declared.names.Page.TheVariants.{Private, Shared}
use Rattle.vm_types.specs.declared.config.Origin.TheVariants as origin
use Rattle.vm_types.specs.declared.reply.Answer.{Answer}
use Rattle.vm_types.specs.declared.reply.Answer.TheVariants as answer
use Rattle.vm_types.specs.declared.service.Service.{Service}
use Rattle.vm_types.specs.declared.service.Service.TheVariants as service
use Rattle.pager_model.specs.Flat.{FlatState}
use Rattle.pager_model.specs.Maps.{Map, Mapped, page_number}

-- whether the page number is one of a range's
abbrev pub in_range : ℕ → ℕ → ℕ → Bool
in_range address pages v = nat_le (page_number address) v && nat_lt v (page_number address + pages)

abbrev pub demand_zero : ℕ → Mapped
demand_zero prot = record { origin = origin.Zero; prot = prot }

abbrev pub with_prot : ℕ → Mapped → Mapped
with_prot prot m = record { origin = m.origin; prot = prot }

-- the map with what the pages of a process's range are mapped to changed
abbrev pub map_range : (Option Mapped → Option Mapped) → ℕ → ℕ → ℕ → Map → Map
map_range change p address pages map q v =
    if nat_eq p q && in_range address pages v then change (map q v) else map q v

-- whether the page is a private one of the range
abbrev pub is_private_in : ℕ → ℕ → ℕ → Page → Bool
is_private_in p address pages (Private q v) = nat_eq p q.0 && in_range address pages v
is_private_in p address pages (Shared s i) = false

-- a creation maps demand zero pages, a deletion removes mappings and forgets private pages, a
-- change of protection sets the codes; every other service or answer leaves the state
abbrev pub flat_service : FlatState → ℕ → Service → Answer → FlatState
flat_service flat p (service.Create at pages prot) answer.Good =
    record { map = map_range (λ old. Some (demand_zero prot)) p at.0 pages flat.map; touched = flat.touched; stored = flat.stored }
flat_service flat p (service.Delete at pages) answer.Good =
    record {
      map = map_range (λ old. None) p at.0 pages flat.map;
      touched = filter (λ page. not (is_private_in p at.0 pages page)) flat.touched;
      stored = flat.stored;
    }
flat_service flat p (service.Protect at pages prot) answer.Good =
    record { map = map_range (option_map (with_prot prot)) p at.0 pages flat.map; touched = flat.touched; stored = flat.stored }
flat_service flat p s other = flat
