use Rattle.std.proofs.Common.{arith, ◌<◌}
use Rattle.page_lists.proofs.Following.{followed-linked, IsLinked-items}
use Rattle.page_lists.proofs.Unlinking.{place_of, below, previous_below, next_below, length-ahead, length-behind, IsLinked-unlink, KeepsOthers-unlink}
use Rattle.page_lists.proofs.links.unlink.Goals as goal

pub cell_at-next-requires : goal.cell_at-next-requires
cell_at-next-requires c =
    let place = place_of _ c.args.f (omega (arith, c.requires.there)) in
    let near : place.0 < c.args.ends.now.count = omega (arith, place.1, c.requires.linked.counted) in
    below _ _ _ _ c.requires.linked c.requires.cells c.args.f place.0 near place.2

pub cell_at-previous-requires : goal.cell_at-previous-requires
cell_at-previous-requires c =
    let place = place_of _ c.args.f (omega (arith, c.requires.there)) in
    let near : place.0 < c.args.ends.now.count = omega (arith, place.1, c.requires.linked.counted) in
    let low = below _ _ _ _ c.requires.linked c.requires.cells c.args.f place.0 near place.2 in
    omega (arith, low, c.requires.cells)

pub relink-requires : goal.relink-requires
relink-requires c =
    let place = place_of _ c.args.f (omega (arith, c.requires.there)) in
    let near : place.0 < c.args.ends.now.count = omega (arith, place.1, c.requires.linked.counted) in
    previous_below _ _ _ _ c.requires.linked c.requires.cells c.args.f place.0 near place.2 _ _ c.cell_at-next.ensures c.cell_at-previous.ensures

pub relink-requires-2 : goal.relink-requires-2
relink-requires-2 c =
    let place = place_of _ c.args.f (omega (arith, c.requires.there)) in
    let near : place.0 < c.args.ends.now.count = omega (arith, place.1, c.requires.linked.counted) in
    next_below _ _ _ _ c.requires.linked c.requires.cells c.args.f place.0 near place.2 _ _ c.cell_at-next.ensures c.cell_at-previous.ensures

pub put-requires : goal.put-requires
put-requires c =
    let place = place_of _ c.args.f (omega (arith, c.requires.there)) in
    let near : place.0 < c.args.ends.now.count = omega (arith, place.1, c.requires.linked.counted) in
    let long = length-ahead _ _ _ _ c.requires.linked c.requires.cells c.args.f place.0 near place.2 _ _ c.cell_at-next.ensures c.cell_at-previous.ensures _ _ _ _ c.relink.ensures.cells c.relink-2.ensures.cells c.relink.ensures.end c.relink-2.ensures.end in
    let low = below _ _ _ _ c.requires.linked c.requires.cells c.args.f place.0 near place.2 in
    omega (arith, long, low)

pub put-requires-2 : goal.put-requires-2
put-requires-2 c =
    let place = place_of _ c.args.f (omega (arith, c.requires.there)) in
    let near : place.0 < c.args.ends.now.count = omega (arith, place.1, c.requires.linked.counted) in
    let long = length-behind _ _ _ _ c.requires.linked c.requires.cells c.args.f place.0 near place.2 _ _ c.cell_at-next.ensures c.cell_at-previous.ensures _ _ _ _ c.relink.ensures.cells c.relink-2.ensures.cells c.relink.ensures.end c.relink-2.ensures.end in
    let low = below _ _ _ _ c.requires.linked c.requires.cells c.args.f place.0 near place.2 in
    omega (arith, long, low, c.requires.cells)

pub returns-clause-items : goal.returns-clause-items
returns-clause-items c =
    let place = place_of _ c.args.f (omega (arith, c.requires.there)) in
    let near : place.0 < c.args.ends.now.count = omega (arith, place.1, c.requires.linked.counted) in
    rw c.put.ensures (followed-linked _ _ _ _ (IsLinked-unlink _ _ _ _ c.requires.linked c.requires.cells c.args.f place.0 near place.2 _ _ c.cell_at-next.ensures c.cell_at-previous.ensures _ _ _ _ c.relink.ensures.cells c.relink-2.ensures.cells c.relink.ensures.end c.relink-2.ensures.end))

pub returns-clause-linked : goal.returns-clause-linked
returns-clause-linked c =
    let place = place_of _ c.args.f (omega (arith, c.requires.there)) in
    let near : place.0 < c.args.ends.now.count = omega (arith, place.1, c.requires.linked.counted) in
    rw (c.put.ensures, c.put-2.ensures) (IsLinked-items _ _ _ _ (IsLinked-unlink _ _ _ _ c.requires.linked c.requires.cells c.args.f place.0 near place.2 _ _ c.cell_at-next.ensures c.cell_at-previous.ensures _ _ _ _ c.relink.ensures.cells c.relink-2.ensures.cells c.relink.ensures.end c.relink-2.ensures.end))

pub returns-clause-others : goal.returns-clause-others
returns-clause-others c =
    let place = place_of _ c.args.f (omega (arith, c.requires.there)) in
    let near : place.0 < c.args.ends.now.count = omega (arith, place.1, c.requires.linked.counted) in
    rw (c.put.ensures, c.put-2.ensures) (KeepsOthers-unlink _ _ _ _ c.requires.linked c.requires.cells c.args.f place.0 near place.2 _ _ c.cell_at-next.ensures c.cell_at-previous.ensures _ _ _ _ c.relink.ensures.cells c.relink-2.ensures.cells c.relink.ensures.end c.relink-2.ensures.end)
