use Rattle.std.proofs.Common.{◌≡◌, ◌+◌, ◌*◌, ◌/◌, false, ℕ, replicate, arith}
use Rattle.paging_study.proofs.MarkCounts.{group_low, none_counted}
use Rattle.paging_study.proofs.marks.Marks.new.Goals as goal

pub invariant_of-result : goal.invariant_of-result
invariant_of-result c =
    let flags_are : c.in_ok-flags.flags.items ≡ replicate ((c.args.places / 128 + 1) * 128) false = c.in_ok-flags.ensures.items_if_clones_equal (λ y same. same) in
    let eights_are : c.in_ok-eights.eights.items ≡ replicate {A = ℕ} ((c.args.places / 128 + 1) * 16) 0 = c.in_ok-eights.ensures.items_if_clones_equal (λ y same. same) in
    let blocks_are : c.in_ok-blocks.blocks.items ≡ replicate {A = ℕ} (c.args.places / 128 + 1) 0 = c.in_ok-blocks.ensures.items_if_clones_equal (λ y same. same) in
    record {
      by_eight = none_counted 8 ((c.args.places / 128 + 1) * 128) ((c.args.places / 128 + 1) * 16) c.in_ok-flags.flags.items c.in_ok-eights.eights.items flags_are eights_are;
      by_block = none_counted 128 ((c.args.places / 128 + 1) * 128) (c.args.places / 128 + 1) c.in_ok-flags.flags.items c.in_ok-blocks.blocks.items flags_are blocks_are;
      eights_len = omega (arith, c.in_ok-flags.ensures.len, c.in_ok-eights.ensures.len);
      blocks_len = omega (arith, c.in_ok-flags.ensures.len, c.in_ok-blocks.ensures.len);
      few = omega (arith, c.in_ok-flags.ensures.len, group_low c.args.places 128, c.requires);
    }
