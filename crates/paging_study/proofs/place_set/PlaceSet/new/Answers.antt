use Rattle.std.proofs.Common.{◌≡◌, ◌+◌, ◌/◌, ◌*◌, ℕ, List, length, replicate, false, ap, ◌∙◌, arith}
use Rattle.std.proofs.lemmas.List.{get_or_default}
use Rattle.std.proofs.lemmas.Nat.{div-add-mod', mod_below}
use Rattle.paging_study.specs.Bits.{is_set, flags_of}
use Rattle.paging_study.proofs.Levels.{flag_is, length-flags_of, none_set, none_yet}
use Rattle.paging_study.proofs.place_set.PlaceSet.new.Goals as goal

pub invariant_of-result : goal.invariant_of-result
invariant_of-result c =
    let words_are : c.in_ok-words.words.items ≡ replicate {A = ℕ} (c.args.places / 64 + 1) 0 = c.in_ok-words.ensures.items_if_clones_equal (λ y same. same) in
    let tops_are : c.in_ok-tops.tops.items ≡ replicate {A = ℕ} ((c.args.places / 64 + 1) / 64 + 1) 0 = c.in_ok-tops.ensures.items_if_clones_equal (λ y same. same) in
    let roots_are : c.in_ok-roots.roots.items ≡ replicate {A = ℕ} (((c.args.places / 64 + 1) / 64 + 1) / 64 + 1) 0 = c.in_ok-roots.ensures.items_if_clones_equal (λ y same. same) in
    let crowns_are : c.in_ok-crowns.crowns.items ≡ replicate {A = ℕ} 1 0 = c.in_ok-crowns.ensures.items_if_clones_equal (λ y same. same) in
    let word = div-add-mod' c.args.places 64 in
    let top = div-add-mod' (c.args.places / 64 + 1) 64 in
    let bit = mod_below (c.args.places / 64 + 1) 64 (omega arith) in
    let root = div-add-mod' ((c.args.places / 64 + 1) / 64 + 1) 64 in
    let top_bit = mod_below ((c.args.places / 64 + 1) / 64 + 1) 64 (omega arith) in
    none_yet c.in_ok-words.words.items c.in_ok-tops.tops.items c.in_ok-roots.roots.items c.in_ok-crowns.crowns.items
    (c.args.places / 64 + 1) ((c.args.places / 64 + 1) / 64 + 1) (((c.args.places / 64 + 1) / 64 + 1) / 64 + 1) 1
    words_are tops_are roots_are crowns_are
    (omega (arith, c.in_ok-words.ensures.len, c.in_ok-tops.ensures.len))
    (omega (arith, c.in_ok-tops.ensures.len, c.in_ok-roots.ensures.len))
    (omega (arith, c.in_ok-roots.ensures.len, c.in_ok-crowns.ensures.len))
    (omega (arith, c.in_ok-crowns.ensures.len))

pub returns-clause-none : goal.returns-clause-none
returns-clause-none c = λ k d below.
    let words_are : c.in_ok-words.words.items ≡ replicate {A = ℕ} (c.args.places / 64 + 1) 0 = c.in_ok-words.ensures.items_if_clones_equal (λ y same. same) in
    get_or_default (flags_of c.in_ok-words.words.items) k d false below
    ∙ (flag_is c.in_ok-words.words.items k ∙ (ap (λ (ws : List ℕ). is_set ws k) words_are ∙ none_set (c.args.places / 64 + 1) k))

pub returns-clause-room : goal.returns-clause-room
returns-clause-room c =
    let len : length (flags_of c.in_ok-words.words.items) ≡ length c.in_ok-words.words.items * 64 = length-flags_of c.in_ok-words.words.items in
    let words_len = c.in_ok-words.ensures.len in
    let word = div-add-mod' c.args.places 64 in
    let bit = mod_below c.args.places 64 (omega arith) in
    (omega (arith, len), omega (arith, len))
