use Rattle.std.proofs.Common.{◌/◌, ◌*◌, ◌+◌, ◌-◌, ℕ, List, Bool, length, take, drop, sum, ap, ◌∙◌, arith}
use Rattle.std.specs.List.{count_by}
use Rattle.paging_study.proofs.MarkCounts.{edges, between_few, three_parts}
use Rattle.paging_study.proofs.marks.Marks.count.Goals as goal

pub total-more-requires : goal.total-more-requires
total-more-requires c =
    let e = edges c.args.first c.args.end (length c.args.self.now.blocks.items) c.requires.order (omega (arith, c.requires.within, c.args.self.now.blocks_len)) in
    between_few 8 c.args.self.now.flags.items c.args.self.now.eights.items c.deref-2.result.now ((c.args.first + 7) / 8) (((c.args.first + 7) / 8 + 15) / 16 * 16) c.args.self.now.by_eight c.deref-2.ensures.value
    e.more (omega (arith, e.far, e.last, c.args.self.now.eights_len, c.args.self.now.blocks_len)) (omega (arith, c.args.self.now.few, c.args.self.now.eights_len))

pub total-far-requires : goal.total-far-requires
total-far-requires c =
    let e = edges c.args.first c.args.end (length c.args.self.now.blocks.items) c.requires.order (omega (arith, c.requires.within, c.args.self.now.blocks_len)) in
    between_few 128 c.args.self.now.flags.items c.args.self.now.blocks.items c.deref-3.result.now (((c.args.first + 7) / 8 + 15) / 16) (c.args.end / 128 + 1) c.args.self.now.by_block c.deref-3.ensures.value
    e.far e.last (omega (arith, c.args.self.now.few, c.args.self.now.blocks_len))

pub returns : goal.returns
returns c =
    let first : ℕ = c.args.first in
    let eight : ℕ = (c.args.first + 7) / 8 in
    let block : ℕ = ((c.args.first + 7) / 8 + 15) / 16 in
    let past : ℕ = c.args.end / 128 + 1 in
    let e = edges c.args.first c.args.end (length c.args.self.now.blocks.items) c.requires.order (omega (arith, c.requires.within, c.args.self.now.blocks_len)) in
    three_parts c.args.self.now.flags.items c.args.self.now.eights.items c.args.self.now.blocks.items c.args.first c.args.end ((c.args.first + 7) / 8) (((c.args.first + 7) / 8 + 15) / 16) (c.args.end / 128 + 1)
    c.marked-near.result c.total-more.result c.total-far.result c.args.self.now.by_eight c.args.self.now.by_block
    e.near e.more e.far (omega (arith, e.more, e.far, e.last, c.args.self.now.blocks_len)) (omega (arith, e.far, e.last, c.args.self.now.eights_len, c.args.self.now.blocks_len)) e.last c.requires.order e.whole c.requires.rest
    (c.marked-near.ensures ∙ ap (λ (xs : List Bool). count_by (λ flag. flag) (take (eight * 8 - first) (drop first xs))) c.deref.ensures.value)
    (c.total-more.ensures ∙ ap (λ (xs : List ℕ). sum (take (block * 16 - eight) (drop eight xs))) c.deref-2.ensures.value)
    (c.total-far.ensures ∙ ap (λ (xs : List ℕ). sum (take (past - block) (drop block xs))) c.deref-3.ensures.value)
