use Rattle.std.proofs.Common.{◌≡◌, ◌≢◌, ◌/◌, ◌%◌, ℕ, List, set, length-set, get_or, sym, arith}
use Rattle.std.proofs.lemmas.List.{get_or_read, get_or-set_same, get_or-set_other}
use Rattle.paging_study.proofs.BitSteps.{set_step, some_word}
use Rattle.paging_study.proofs.bits.set_bit.Goals as goal

pub returns : goal.returns
returns c =
    let words : List ℕ = c.args.words.now.items in
    let words' : List ℕ = set c.args.words.now.items (c.args.n / 64) c.with_bit.result in
    let others : (g : ℕ) → g ≢ c.args.n / 64 → get_or (set c.args.words.now.items (c.args.n / 64) c.with_bit.result) g 0 ≡ get_or c.args.words.now.items g 0 =
    λ g other. get_or-set_other c.args.words.now.items (c.args.n / 64) g c.with_bit.result 0 other in
    let was : get_or c.args.words.now.items (c.args.n / 64) 0 ≡ c.index.result.now = sym (get_or_read c.args.words.now.items (c.args.n / 64) c.index.result.now c.requires c.index.ensures 0) in
    let is : get_or (set c.args.words.now.items (c.args.n / 64) c.with_bit.result) (c.args.n / 64) 0 ≡ c.with_bit.result = get_or-set_same c.args.words.now.items (c.args.n / 64) c.with_bit.result 0 c.requires in
    record {
      bits = set_step words words' c.args.n others c.index.result.now c.with_bit.result was is c.with_bit.ensures.set c.with_bit.ensures.others;
      others = others;
      some = omega (arith, is, some_word c.with_bit.result (c.args.n % 64) c.with_bit.ensures.set);
      len = length-set c.args.words.now.items (c.args.n / 64) c.with_bit.result;
    }
