-- A `&` to a part is made where one to its bytes is. Assumes `Logic`.
use mathlib.Core.List.{[], ◌∷◌}
use base.Fraction.{full_share}
use denote.RawPtr.{lies_at}
use denote.Param.Shared.{copy_shared}
use denote.Struct.Field.{RawPtr-field, u32-field}
use denote.Struct.Laws.{RawPtr-copy, u32-copy}
use denote.Struct.Lending.{lent_at, lent_at_shr_laws, Lends-lies, Lends-first, of_Lends}
use Rattle.page_pool.specs.Region.{Page}
use Rattle.page_pool.specs.Tickets.{tickets_own}
use Rattle.page_pool.proofs.Pages.{page_laws}
use Rattle.page_pool.specs.contracts.part.Part as C
use Rattle.page_pool.proofs.part.Part.TheLaw.Statement.{statement}

pub shares : statement
shares = of_Lends C.struct C.the_codes C.the_heap C.the_lent (λ d p. lent_at_shr_laws Page page_laws.shr_laws d.at d.bytes)
    (copy_shared RawPtr-field RawPtr-copy, (copy_shared u32-field u32-copy, tt)) (λ M 𝓤 𝓛 d p.
    let l = C.the_row.lives in
    Lends-first 𝓛 (lies_at Page full_share d.at d.bytes) (tickets_own d.name d.start (d.number ∷ [])) (lent_at Page d.at d.bytes) l
    (Lends-lies 𝓛 Page l d.at d.bytes (page_laws.shares 𝓛 d.bytes)))
