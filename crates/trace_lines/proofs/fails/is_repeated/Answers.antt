use Rattle.std.proofs.Common.{◌∙◌, ℕ, sym, ap}
use Rattle.std.specs.Ordering.{nat_cmp}
use Rattle.std.specs.BTreeSet.{contains}
use Rattle.trace_lines.specs.Keys.{block_key}
use Rattle.trace_lines.proofs.Blocks.{same_keys}
use Rattle.trace_lines.proofs.fails.is_repeated.Goals as goal

pub returns : goal.returns
returns c =
    c.contains.ensures ∙ ap (λ (key : ℕ). contains nat_cmp c.args.seen.now.blocks key) c.block_key.ensures
    ∙ c.requires.seen.blocks (block_key c.args.id) ∙ sym (same_keys c.args.config.now.fails c.args.id c.requires.bounded.blocks c.requires.keyed)
