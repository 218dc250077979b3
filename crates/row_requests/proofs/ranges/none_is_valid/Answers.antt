use Rattle.std.proofs.Common.{◌≡◌, ℕ, ◌+◌, ◌/◌, arith}
use Rattle.std.proofs.lemmas.Bool.{false≢true}
use Rattle.vm_types.specs.declared.limits.TheConstants.{PAGE_BYTES}
use Rattle.pager_model.specs.Lookups.{entries_at}
use Rattle.shadow_pager.specs.Shown.{shown}
use Rattle.row_requests.proofs.Places.{inside_parts, one_more, place_inside}
use Rattle.row_requests.proofs.ranges.none_is_valid.Goals as goal

pub returns-then-is_valid_at : goal.returns-then-is_valid_at
returns-then-is_valid_at c = (
  λ t. absurd (false≢true t),
  λ all. absurd (c.is_valid_at.ensures.yes c.if-is_valid_at.true (all (c.args.range.at.0 / PAGE_BYTES + c.loop-n.n) (place_inside c.args.range.at.0 c.args.range.pages c.loop-n.n c.loop-n-test.true))),
)

pub loop-n-preserved : goal.loop-n-preserved
loop-n-preserved c =
    one_more (λ (v : ℕ). entries_at (shown c.args.pager.now).pager.valid c.args.range.process.0 v ≡ 0) (c.args.range.at.0 / PAGE_BYTES) c.loop-n.n c.loop-n.invariant (c.is_valid_at.ensures.no c.if-is_valid_at.false)

pub returns : goal.returns
returns c = (
  λ t v inside.
      let parts = inside_parts c.args.range.at.0 c.args.range.pages v inside in
      let most = parts.1 in
      c.loop-n.invariant v parts.0 (omega (arith, most, c.loop-n-test.false)),
  λ all. search,
)
