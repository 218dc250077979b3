-- `fill` writes the memory of a part that isn't written yet, which is then a part. Assumes `Logic`.
use Rattle.std.proofs.Common.{ℕ, ◌<◌, ◌^◌, List, [], ◌∷◌, ◌++◌, refl, sym, ◌∙◌}
use mir.Val.{Val, vptr}
use base.Fraction.{full_share}
use base.Logic.{id⊢, never}
use base.Fml.{ftrue}
use borrow.Table.OneValue.{part_in}
use types.Kit.{‵, raw, ◌⊛◌, at_ret, ◌$◌, ◌∵◌, !, qed, prop, regoal, move, keep, split, join, fsplit, fjoin, suffices, frame, use0, use2}
use types.Run.{init, stop, fld, of_opd, no_more, and_then, assigns, first, blocks, exec, returns, enter}
use types.ByLocal.{alloc_all, pass_all, free_all, look_at, get, get_in, through, sets, sets_last, env}
use types.Part.{agg, sub, whole}
use prog.Wp.{WpFn}
use contract.Running.{tables}
use denote.Memory.{part_at}
use denote.RattleType.{RattleType, owns}
use denote.RawPtr.{Ptr, block_ptr, room_for, in_a_block}
use denote.Signature.{types_at, plain}
use denote.Steps.{nothing}
use denote.Triple.Walked.{Stays, stay_dropped, walk_of, ends_at, Goes-dropped}
use Rattle.std.proofs.raw_atomic.Walks.{proved}
use Rattle.core.proofs.alloc.Shapes.{after}
use Rattle.page_pool.specs.Region.{Page, page_type}
use Rattle.page_pool.proofs.Pages.{page_laws}
use Rattle.page_pool.proofs.Values.{part_val, part_made, part_typed, spare_told, page_vals, page_tells, tells_last}
use Rattle.page_pool.proofs.Values as values
use Rattle.page_pool.specs.contracts.part.Part as part
use Rattle.page_pool.specs.contracts.spare.Spare as spare
use Rattle.page_pool.specs.contracts.spare.Spare.fill as f
use Rattle.page_pool.proofs.spare.Spare.fill.Statement.{statement}
use Rattle.page_pool.proofs.spare.Spare.fill.Code as code

abbrev S : RattleType
S = spare.the_row

abbrev stayed : Stays f.ended.signature.params f.ended.kept
stayed = (stay_dropped (plain (λ _. S)) f.ended.kept.0, (stay_dropped (plain (λ _. Page)) f.ended.kept.1.0, tt))

abbrev only : List Val → Val
only [] = vptr 0 0
only (v ∷ vs) = v

pub fill_spec : {M : Type 1} → statement M
fill_spec 𝓤 𝓛 𝓜 𝓡 wired =
    let c = f.clauses 𝓛 𝓜.mem 𝓡.returns in let W = walk_of 𝓛 f.ended stayed c in let 𝓣 = tables 𝓤 𝓛.H 𝓜 𝓡 𝓡.env in let fn = code.function in
    proved 𝓛 f.ended stayed c 𝓜 𝓡 (Goes-dropped 𝓛 0 (plain (λ _. S)) f.ended.kept.0 (λ κs x w. refl), (Goes-dropped 𝓛 0 (plain (λ _. Page)) f.ended.kept.1.0 (λ κs x w. refl), tt))
    f.Key.name fn (code.unfolded 𝓤 𝓛.H 𝓜 𝓡 wired)
    (λ κs. ((λ x. part_val x.at x.number ∷ []), (page_vals, tt))) (λ κs. ((λ x vs is. (spare_told x.at x.number vs is.0).0), (page_tells, tt))) (λ κs qs bounds a gh are.
    let q : S.Denot = a.0 in let n : ℕ = q.number in let xs : List ℕ = a.1.0 in let v : Val = only (page_vals xs) in
    let fits : n < 2 ^ 32 = (spare_told q.at n (part_val q.at n ∷ []) are.0.0).1 in let typed = ((page_laws.lawful 𝓛).typed xs (page_vals xs) are.1.0).0 in
    let y : W.Ghost = ((κs, qs, bounds, a, (part_val q.at n ∷ [], (page_vals xs, tt))), gh) in
    qed 𝓛 ((‵ ftrue ⊛ ‵ (owns (types_at f.ended.signature.params κs) a y.0.4)) ∷ raw ((c κs a).requires gh) ∷ []) ∵
    split ! $ move ! (1 ∷ []) $ fsplit ! $ fsplit ! $ move ! (1 ∷ []) $ fsplit ! $ move ! (3 ∷ []) $ fsplit ! $ keep ! (2 ∷ 3 ∷ 0 ∷ []) $
    in_a_block ! q.at (λ p. room_for page_type p) (id⊢ 𝓤 (never 𝓤)) (λ b o e.
    -- [the room; the ticket; the bytes]
    regoal ! (λ (p : Ptr). prop (WpFn 𝓤 𝓛.H 𝓣.C 𝓣.Λ fn (part_val p n ∷ (page_vals xs ++ [])) (W.post y))) e refl $
    enter ! 𝓣.C 𝓣.Λ fn (part_val (block_ptr b o) n ∷ (page_vals xs ++ [])) (W.post y) $ alloc_all ! (λ l. pass_all ! refl (part_typed (block_ptr b o) n fits, (typed, tt)) $ let Ev = env fn.locals l in
    sets ! (of_opd ! (get_in ! (fld ! refl (stop !)) (sub ! 0 refl (whole !)))) refl (tt, tt) $
    sets ! (of_opd ! (get_in ! (fld ! refl (stop !)) (sub ! 1 refl (whole !)))) refl (tt, record { fits = fits }) $
    first ! $ blocks ! $
    assigns ! (of_opd ! (get ! refl)) (through ! refl (stop !)) (init ! 0 refl typed) $
    sets_last ! (agg ! (and_then ! (get ! refl) (and_then ! (get ! refl) (no_more !)))) refl (part_typed (block_ptr b o) n fits) $
    exec ! 𝓣.C 𝓣.Λ Ev (after 3 fn.body) (at_ret Ev (W.post y)) $ sets ! (of_opd ! (get ! refl)) refl (part_typed (block_ptr b o) n fits) $
    move ! (0 ∷ 2 ∷ []) $ use2 𝓛 (‵ (part_at Page full_share xs b o)) (part_in 𝓛 Page refl full_share xs b o v) $
    -- [the part's bytes; the ticket]
    returns ! (look_at ! 0 refl) $ free_all ! refl $
    let r : (part.the_row).Denot = record { at = block_ptr b o; number = n; bytes = xs; name = q.name; size = q.size; start = q.start; place = sym e ∙ q.place; below = q.below } in
    suffices ! _ (ends_at 𝓛 f.ended stayed c y (part_val (block_ptr b o) n) r (tt, (tt, tt)) (tt, (tt, tt))) $
    fjoin ! $ use0 𝓛 (‵ (values.Part.own_val (block_ptr b o, (n, tt)) (part_val (block_ptr b o) n ∷ []))) (part_made 𝓛 (block_ptr b o) n fits) $ fjoin ! $
    nothing ! $ nothing ! $ fjoin ! $ nothing ! $ fjoin ! $ join ! $ nothing ! $ join ! $ frame ! $ tells_last ! (refl, refl, refl))))
