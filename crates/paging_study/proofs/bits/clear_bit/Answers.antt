use Rattle.std.proofs.Common.{◌≡◌, ◌≢◌, ◌/◌, ℕ, List, true, set, length-set, get_or, sym, ap, eqb}
use Rattle.std.proofs.lemmas.Bool.{both_ways}
use Rattle.std.proofs.lemmas.List.{get_or_read, get_or-set_same, get_or-set_other}
use Rattle.paging_study.proofs.BitSteps.{clear_step}
use Rattle.paging_study.proofs.bits.clear_bit.Goals as goal

pub returns : goal.returns
returns c =
    let words : List ℕ = c.args.words.now.items in
    let words' : List ℕ = set c.args.words.now.items (c.args.n / 64) c.without_bit-word.result in
    let leaves : c.args.leaves ≡ true = c.if-not-leaves.false in
    let others : (g : ℕ) → g ≢ c.args.n / 64 → get_or (set c.args.words.now.items (c.args.n / 64) c.without_bit-word.result) g 0 ≡ get_or c.args.words.now.items g 0 =
    λ g other. get_or-set_other c.args.words.now.items (c.args.n / 64) g c.without_bit-word.result 0 other in
    let was : get_or c.args.words.now.items (c.args.n / 64) 0 ≡ c.index.result.now = sym (get_or_read c.args.words.now.items (c.args.n / 64) c.index.result.now c.requires c.index.ensures 0) in
    let is : get_or (set c.args.words.now.items (c.args.n / 64) c.without_bit-word.result) (c.args.n / 64) 0 ≡ c.without_bit-word.result = get_or-set_same c.args.words.now.items (c.args.n / 64) c.without_bit-word.result 0 c.requires in
    record {
      bits = λ m. rw leaves (clear_step words words' c.args.n others c.index.result.now c.without_bit-word.result was is c.without_bit-word.ensures.clear c.without_bit-word.ensures.others m);
      others = others;
      stays = λ no. absurd (both_ways _ no leaves);
      empty = rw leaves (ap (λ (w : ℕ). eqb w 0) (sym is));
      len = length-set c.args.words.now.items (c.args.n / 64) c.without_bit-word.result;
    }
