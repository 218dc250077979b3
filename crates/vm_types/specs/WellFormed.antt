-- What makes a reference and a service well formed. Source: references and addresses by the VAX
-- Architecture Reference Manual, narrowed to aligned references; ranges are this project's own.
use Rattle.std.specs.Prelude.{◌≡◌, ◌≢◌, ◌⊎◌, ℕ, false, ◌+◌, ◌-◌, ◌*◌, ◌%◌, ◌^◌, ◌<◌, ◌≤◌}
use Rattle.vm_types.specs.declared.config.Version.{Version}
use Rattle.vm_types.specs.declared.limits.TheConstants.{P0_PAGES, P1_PAGES, PAGE_BYTES}
use Rattle.vm_types.specs.declared.reference.Width.{Width}
use Rattle.vm_types.specs.declared.reference.Width.TheVariants.{One, Two, Four}
use Rattle.vm_types.specs.declared.reference.Op.{Op}
use Rattle.vm_types.specs.declared.reference.Op.TheVariants.{Read, Write, Add}
use Rattle.vm_types.specs.declared.reference.Ref.{Ref}
use Rattle.vm_types.specs.declared.service.Service.{Service}
use Rattle.vm_types.specs.declared.service.Service.TheVariants as service
use Rattle.vm_types.specs.declared.service.Request.{Request}
use Rattle.vm_types.specs.declared.service.Request.TheVariants as request
use Rattle.vm_types.specs.Versions.{is_first}

-- the bytes that a reference takes
abbrev pub width_bytes : Width → ℕ
width_bytes One = 1
width_bytes Two = 2
width_bytes Four = 4

abbrev pub op_bytes : Op → ℕ
op_bytes (Read width) = width_bytes width
op_bytes (Write width value) = width_bytes width
op_bytes (Add value) = 4

-- a written value fits its width
abbrev pub FitsOp : Op → Type 0
FitsOp (Read width) = Unit {0}
FitsOp (Write width value) = value < 256 ^ width_bytes width
FitsOp (Add value) = value < 256 ^ 4

-- the address is a multiple of the width, and a written value fits it
pub record IsWellFormedReference (r : Ref) : Type 0 where
  pub address : (r.addr).0 < 2 ^ 32
  pub aligned : (r.addr).0 % op_bytes r.op ≡ 0
  pub fits : FitsOp r.op

-- pages from an address on lie in the pages of P0 or in those of P1 that may be mapped
pub record IsRange (address pages : ℕ) : Type 0 where
  pub aligned : address % PAGE_BYTES ≡ 0
  pub some : 1 ≤ pages
  pub few : pages ≤ P0_PAGES
  pub inside : (address + PAGE_BYTES * pages ≤ PAGE_BYTES * P0_PAGES) ⊎ ((2 ^ 31 - PAGE_BYTES * P1_PAGES ≤ address) × (address + PAGE_BYTES * pages ≤ 2 ^ 31))

-- one of the sixteen protection codes but the reserved one
pub record IsCode (code : ℕ) : Type 0 where
  pub small : code < 16
  pub named : code ≢ 1

abbrev pub IsWellFormedService : Service → Type 0
IsWellFormedService (service.Create at pages prot) = IsRange at.0 pages × IsCode prot
IsWellFormedService (service.Delete at pages) = IsRange at.0 pages
IsWellFormedService (service.Protect at pages prot) = IsRange at.0 pages × IsCode prot
IsWellFormedService (service.Lock at pages) = IsRange at.0 pages
IsWellFormedService (service.Unlock at pages) = IsRange at.0 pages
IsWellFormedService (service.Purge at pages) = IsRange at.0 pages
IsWellFormedService (service.Pin at pages) = IsRange at.0 pages
IsWellFormedService (service.Unpin at pages) = IsRange at.0 pages
IsWellFormedService (service.Adjust limit) = limit < 2 ^ 32

-- no page is pinned or unpinned in version 1
abbrev pub IsServiceOf : Version → Service → Type 0
IsServiceOf v (service.Pin at pages) = is_first v ≡ false
IsServiceOf v (service.Unpin at pages) = is_first v ≡ false
IsServiceOf v other = Unit {0}

abbrev pub IsRequestOf : Version → Request → Type 0
IsRequestOf v (request.Reference r) = Unit {0}
IsRequestOf v (request.Service s) = IsServiceOf v s

abbrev pub IsWellFormedRequest : Request → Type 0
IsWellFormedRequest (request.Reference r) = IsWellFormedReference r
IsWellFormedRequest (request.Service s) = IsWellFormedService s
