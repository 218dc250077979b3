use Rattle.std.proofs.Common.{◌≡◌, Option, Some, IsSome, ◌∙◌, arith}
use Rattle.part_tests.proofs.of_page_tables.changes_the_named_page_alone.Goals as goal

is_some : {X : Type 0} (o : Option X) (x : X) → o ≡ Some x → IsSome o
is_some o x is = rw is (grind arith)

-- a new table has nothing at its first page
pub map-requires-clause-absent : goal.map-requires-clause-absent
map-requires-clause-absent g c = c.in_ok-tables.ensures.empty 0 0

-- and no other call before changed the pages that are mapped next
pub map-requires-2-clause-absent : goal.map-requires-2-clause-absent
map-requires-2-clause-absent g c = c.map.ensures.changed 0 1 ∙ c.in_ok-tables.ensures.empty 0 1

pub map-requires-3-clause-absent : goal.map-requires-3-clause-absent
map-requires-3-clause-absent g c =
    c.map-2.ensures.changed 15 0x3f_ffff ∙ c.map.ensures.changed 15 0x3f_ffff ∙ c.in_ok-tables.ensures.empty 15 0x3f_ffff

pub set-requires-clause-mapped : goal.set-requires-clause-mapped
set-requires-clause-mapped g c =
    is_some _ _ (c.map-3.ensures.changed 0 0 ∙ c.map-2.ensures.changed 0 0 ∙ c.map.ensures.changed 0 0)

pub unmap-requires : goal.unmap-requires
unmap-requires g c = is_some _ _ (c.set.ensures.changed 15 0x3f_ffff ∙ c.map-3.ensures.changed 15 0x3f_ffff)

pub map-requires-4-clause-absent : goal.map-requires-4-clause-absent
map-requires-4-clause-absent g c =
    c.unmap.ensures.changed 15 0x3f_fc00 ∙ c.set.ensures.changed 15 0x3f_fc00 ∙ c.map-3.ensures.changed 15 0x3f_fc00
    ∙ c.map-2.ensures.changed 15 0x3f_fc00 ∙ c.map.ensures.changed 15 0x3f_fc00 ∙ c.in_ok-tables.ensures.empty 15 0x3f_fc00
