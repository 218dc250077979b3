use Rattle.std.proofs.Common.{◌∙◌, ℕ, List, [], ◌∷◌, ◌++◌, ap, get_or, map, subst, sym, take_all}
use Rattle.std.specs.Prelude.{IsSome}
use Rattle.std.specs.List.{AllByRecursion}
use Rattle.pager_model.specs.Lookups.{entry_of}
use Rattle.vm_state.specs.History.{pager}
use Rattle.dump_laws.specs.DumpAfter.{entry_word}
use Rattle.state_dump.proofs.Walks.{all_at, map_taken}
use Rattle.state_dump.proofs.WordsShown.{pages_have}
use Rattle.state_dump.proofs.pages.entry_words.Goals as goal

pub word_at-requires-after_bounds : goal.word_at-requires-after_bounds
word_at-requires-after_bounds g c κs within =
    let a = pager c.args.state.now in
    let p = (c.args.p).0 in
    all_at (λ (v : ℕ). IsSome (entry_of a.valid p v)) c.deref-vpn-items.result.now c.loop-vpn.vpn-index 0
    (subst (AllByRecursion (λ (v : ℕ). IsSome (entry_of a.valid p v))) (sym (c.deref-vpn-items.ensures.value ∙ c.in_ok-pages.ensures)) (pages_have a p)) c.loop-vpn-test.true

pub loop-vpn-preserved : goal.loop-vpn-preserved
loop-vpn-preserved g c =
    let a = pager c.args.state.now in
    let p = (c.args.p).0 in
    let v : ℕ = get_or c.deref-vpn-items.result.now c.loop-vpn.vpn-index 0 in
    c.in_ok-push.ensures.items
    ∙ (ap (λ (w : ℕ). c.loop-vpn.words.items ++ (v, w) ∷ []) c.word_at.ensures
    ∙ (ap (λ (ws : List (ℕ × ℕ)). ws ++ (v, entry_word a p v) ∷ []) c.loop-vpn.invariant
    ∙ sym (map_taken (λ (u : ℕ). (u, entry_word a p u)) c.deref-vpn-items.result.now c.loop-vpn.vpn-index 0 c.loop-vpn-test.true)))

pub returns : goal.returns
returns g c =
    let a = pager c.args.state.now in
    let p = (c.args.p).0 in
    c.loop-vpn.invariant
    ∙ ap (map (λ (u : ℕ). (u, entry_word a p u))) (take_all c.loop-vpn.vpn-index c.deref-vpn-items.result.now c.loop-vpn-test.false ∙ (c.deref-vpn-items.ensures.value ∙ c.in_ok-pages.ensures))
