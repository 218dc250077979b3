-- `bytes` reads through a `&` to a part. Assumes `Logic`.
use Rattle.std.proofs.Common.{ℕ, ◌≡◌, List, [], ◌∷◌, refl, sym, ap, ◌∙◌}
use mir.Syntax.{named}
use mir.Val.{Val, vptr}
use base.Logic.{SProp, emp}
use base.Fml.{Lft, ftrue, flft, fhide}
use types.Kit.{‵, raw, ◌⊛◌, at_ret, ◌$◌, ◌∵◌, !, qed, by, move, keep, split, join, fsplit, fjoin, use0, use1, rewrite, feq_i}
use types.Run.{stop, fld, hop, addr, of_opd, first, blocks, exec, returns, enter}
use types.ByLocal.{alloc_all, pass_all, free_all, look_at, get, through, sets, sets_last, env}
use types.Part.{sub, whole, look_in}
use contract.Running.{tables}
use contract.Monad.{fact, fact_i}
use denote.Exit.{yes}
use denote.RattleType.{RattleType, owns}
use denote.Signature.{types_at, plain}
use denote.RawPtr.{Ptr, InBlock, block_ptr, block_of, count_of, at_block}
use denote.Steps.{nothing, peeks, heard, looks, shuts}
use denote.Opens.{unhide, hide}
use denote.Laws.{Is, shows}
use denote.Memory.{cell_at, hidden_shr}
use denote.Builtin.{RefOf}
use denote.Ref.{shr_vals, shr_Tells}
use denote.Struct.Lending.{lent_at, lent_out, in_block_says}
use denote.Triple.Walked.{Stays, stay_dropped, walk_of, Goes-dropped}
use Rattle.std.proofs.raw_atomic.Walks.{proved, leaves}
use Rattle.core.proofs.alloc.Shapes.{after}
use Rattle.page_pool.specs.Region.{Page}
use Rattle.page_pool.proofs.Values.{part_val, part_told, part_opened}
use Rattle.page_pool.proofs.Values as values
use Rattle.page_pool.specs.contracts.part.Part as part
use Rattle.page_pool.specs.contracts.part.Part.bytes as f
use Rattle.page_pool.proofs.part.Part.bytes.Statement.{statement}
use Rattle.page_pool.proofs.part.Part.bytes.Code as code

abbrev stayed : Stays f.ended.signature.params f.ended.kept
stayed = (stay_dropped (RefOf (0 ∷ []) tt (plain (λ _. part.the_row)) (λ _. tt)) yes, tt)

pub bytes_spec : {M : Type 1} → statement M
bytes_spec 𝓤 𝓛 𝓜 𝓡 wired =
    let c = f.clauses 𝓛 𝓜.mem 𝓡.returns in let 𝓣 = tables 𝓤 𝓛.H 𝓜 𝓡 𝓡.env in let fn = code.function in let D : RattleType = values.Part in
    proved 𝓛 f.ended stayed c 𝓜 𝓡 (Goes-dropped 𝓛 1 (RefOf (0 ∷ []) tt (plain (λ _. part.the_row)) (λ _. tt)) yes (λ κs x w. refl), tt)
    f.Key.name fn (code.unfolded 𝓤 𝓛.H 𝓜 𝓡 wired)
    (λ κs. (shr_vals, tt)) (λ κs. (shr_Tells (named 0) κs.0 part.the_row, tt)) (λ κs qs bounds a gh are.
    let b : ℕ = a.0.ref_ptr.0 in let o : ℕ = a.0.ref_ptr.1 in let κ : Lft = κs.0 in let d = a.0.now in let p : Ptr = d.at in let n : ℕ = d.number in let x : List ℕ = d.bytes in
    let y : (walk_of 𝓛 f.ended stayed c).Ghost = ((κs, qs, bounds, a, (vptr b o ∷ [], tt)), gh) in let Post : Val → SProp 𝓤 = (walk_of 𝓛 f.ended stayed c).post y in let there : Val = vptr (block_of p) (count_of p) in
    qed 𝓛 (((‵ (flft κ qs.0) ⊛ ‵ ftrue) ⊛ ‵ (owns (types_at f.ended.signature.params κs) a y.0.4)) ∷ raw ((c κs a).requires gh) ∷ []) ∵
    split ! $ split ! $ move ! (2 ∷ []) $ fsplit ! $ fsplit ! $ keep ! (1 ∷ 3 ∷ []) $
    enter ! 𝓣.C 𝓣.Λ fn (vptr b o ∷ []) Post $ alloc_all ! (λ l. pass_all ! refl ((tt, tt), tt) $ let Ev = env fn.locals l in
    use1 𝓛 (‵ (hidden_shr D κ (p, (n, tt)) b o) ⊛ ‵ (fhide (lent_at Page p x κ))) (lent_out 𝓛 part.struct part.the_codes part.the_heap part.the_lent κ d b o) $
    split ! $ move ! (1 ∷ []) $ unhide ! $ fsplit ! $
    use1 𝓛 (raw (fact 𝓤 (InBlock p))) (in_block_says 𝓛 p) $ heard ! (InBlock p) (λ inb. hide ! $ move ! (1 ∷ 2 ∷ []) $
    looks ! tt D (part_opened 𝓛) (p, (n, tt)) b o (λ q vs. move ! (1 ∷ []) $ peeks ! D (Is D) (shows 𝓛 D) (p, (n, tt)) vs (λ so.
    let ev : vs ≡ part_val (block_ptr (block_of p) (count_of p)) n ∷ [] = (part_told p n vs so).0 ∙ ap (λ (r : Ptr). part_val r n ∷ []) (at_block p inb) in
    rewrite ! 1 (λ (ws : List Val). ‵ (cell_at q D.mir ws b o)) ev refl $ first ! $ blocks ! $
    sets_last ! (addr ! (through ! refl (fld ! refl (hop ! (look_in ! 1 (sub ! 0 refl (whole !))) (stop !))))) refl (tt, tt) $ exec ! 𝓣.C 𝓣.Λ Ev (after 1 fn.body) (at_ret Ev Post) $ sets ! (of_opd ! (get ! refl)) refl (tt, tt) $
    rewrite ! 1 (λ (ws : List Val). ‵ (cell_at q D.mir ws b o)) (sym ev) refl $ move ! (1 ∷ 0 ∷ 2 ∷ []) $ shuts ! tt D q (p, (n, tt)) vs b o $ nothing ! $ move ! (1 ∷ 0 ∷ []) $ join ! $
    move ! (2 ∷ []) $ feq_i ! (List Val) (there ∷ []) (there ∷ []) refl $ fjoin ! $ use0 𝓛 (raw (fact 𝓤 (x ≡ x))) (fact_i 𝓤 (x ≡ x) (emp 𝓤) refl) $ nothing ! $ nothing ! $ fjoin ! $
    returns ! (look_at ! 0 refl) $ free_all ! refl $ keep ! (3 ∷ 0 ∷ 2 ∷ 1 ∷ []) $ by ! (leaves 𝓛 f.ended stayed c y there (record { ref_ptr = (block_of p, count_of p); now = x }) (tt, tt) (tt, tt)))))))
