-- `bytes_mut` lends the bytes, and the part ends with those last written. Assumes `Logic`.
use Rattle.std.proofs.Common.{ℕ, ◌≡◌, List, [], ◌∷◌, refl, sym, ap, ◌∙◌}
use mir.Syntax.{named}
use mir.Val.{Val, vptr}
use base.Fraction.{full_share}
use base.Logic.{SProp, ent, sep, id⊢, never}
use base.Fml.{GName, Fml, ftrue, fsep, flft}
use types.Logic.{sem}
use types.Kit.{‵, raw, ◌⊛◌, some, later, at_ret, ◌$◌, ◌∵◌, !, qed, move, keep, split, join, fsplit, fsplit3, fjoin, use1, rewrite, pick, await, suffices, frame, group, fpack, done}
use types.Run.{stop, fld, hop, addr, of_opd, first, blocks, exec, returns, enter}
use types.ByLocal.{alloc_all, pass_all, free_all, look_at, get, through, sets, sets_last, env}
use types.Part.{sub, whole, look_in}
use contract.Running.{tables}
use denote.Exit.{no}
use denote.Follow.{follows, Part, lends_Part}
use denote.RattleType.{RattleType, owns}
use denote.Signature.{types_at, plain, mut_ref_to}
use denote.RawPtr.{Ptr, block_ptr, lies_at, in_a_block}
use denote.Steps.{nothing, peeks, opens}
use denote.Laws.{Is, shows}
use denote.Memory.{cell_at, part_of, mem}
use denote.Ref.{MutRef, mut_vals, mut_Tells}
use denote.Triple.Walked.{says, Stays, stay_dropped, walk_of, ends_at, Goes-spent_ref}
use Rattle.std.proofs.raw_atomic.Walks.{proved}
use Rattle.core.proofs.alloc.Shapes.{after}
use Rattle.page_pool.specs.Region.{Page}
use Rattle.page_pool.specs.Tickets.{tickets_own}
use Rattle.page_pool.specs.Loan.{with_bytes}
use Rattle.page_pool.proofs.Values.{part_val, part_told}
use Rattle.page_pool.proofs.Values as values
use Rattle.page_pool.specs.contracts.part.Part as part
use Rattle.page_pool.specs.contracts.part.Part.bytes_mut as f
use Rattle.page_pool.proofs.part.Part.bytes_mut.Statement.{statement}
use Rattle.page_pool.proofs.part.Part.bytes_mut.Code as code

abbrev R : RattleType
R = part.the_row

abbrev D : RattleType
D = values.Part

abbrev stayed : Stays f.ended.signature.params f.ended.kept
stayed = (stay_dropped (mut_ref_to (0 ∷ []) tt (plain (λ _. R))) no, tt)

-- all of the part but its bytes
abbrev Rest : R.Denot → ℕ → ℕ → ℕ → ℕ → Fml
Rest h b o rb ro = fsep (fsep (tickets_own h.name h.start (h.number ∷ [])) (D.own_val (h.at, (h.number, tt)) (part_val (block_ptr b o) h.number ∷ []))) (cell_at full_share R.mir (part_val (block_ptr b o) h.number ∷ []) rb ro)

back : {M : Type 1} {𝓤 : _} (𝓛 : types.Logic.Logic {M = M} 𝓤) (h : R.Denot) (b o rb ro : ℕ) → h.at ≡ block_ptr b o → (w : List ℕ)
    → ent 𝓤 (sep 𝓤 (sem 𝓛 ((mem Page).own_at w b o)) (sem 𝓛 (Rest h b o rb ro))) (sem 𝓛 ((mem R).own_at (with_bytes h w) rb ro))
unfolding part_of
back 𝓛 h b o rb ro e w =
    let vs : List Val = part_val (block_ptr b o) h.number ∷ [] in
    qed 𝓛 (‵ (lies_at Page full_share (block_ptr b o) w) ∷ ‵ (Rest h b o rb ro) ∷ []) ∵ move ! (1 ∷ []) $ fsplit ! $ fsplit ! $ move ! (3 ∷ 0 ∷ []) $
    rewrite ! 0 (λ (p : Ptr). ‵ (lies_at Page full_share p w)) (sym e) refl $ fjoin ! $ move ! (1 ∷ 0 ∷ []) $ fjoin ! $ move ! (1 ∷ 0 ∷ []) $ fjoin ! $
    fpack ! (List Val) (λ us. fsep (cell_at full_share R.mir us rb ro) (R.own_val (with_bytes h w) us)) vs $ done !

pub bytes_mut_spec : {M : Type 1} → statement M
bytes_mut_spec 𝓤 𝓛 𝓜 𝓡 wired =
    let c = f.clauses 𝓛 𝓜.mem 𝓡.returns in let 𝓣 = tables 𝓤 𝓛.H 𝓜 𝓡 𝓡.env in let fn = code.function in
    proved 𝓛 f.ended stayed c 𝓜 𝓡 (Goes-spent_ref 𝓛 1 (0 ∷ []) tt (plain (λ _. R)), tt)
    f.Key.name fn (code.unfolded 𝓤 𝓛.H 𝓜 𝓡 wired)
    (λ κs. (mut_vals, tt)) (λ κs. (mut_Tells (named 0) κs.0 R, tt)) (λ κs qs bounds a gh are.
    let rb : ℕ = a.0.ref_ptr.0 in let ro : ℕ = a.0.ref_ptr.1 in let γ : GName = a.0.ghost_name in let κ = κs.0 in let q = qs.0 in let h = a.0.now in
    let y : (walk_of 𝓛 f.ended stayed c).Ghost = ((κs, qs, bounds, a, (vptr rb ro ∷ [], tt)), gh) in let Post : Val → SProp 𝓤 = (walk_of 𝓛 f.ended stayed c).post y in
    qed 𝓛 (((‵ (flft κ q) ⊛ ‵ ftrue) ⊛ ‵ (owns (types_at f.ended.signature.params κs) a y.0.4)) ∷ raw ((c κs a).requires gh) ∷ []) ∵
    split ! $ split ! $ move ! (2 ∷ []) $ fsplit ! $ fsplit3 ! $ keep ! (1 ∷ 2 ∷ 4 ∷ []) $
    enter ! 𝓣.C 𝓣.Λ fn (vptr rb ro ∷ []) Post $ alloc_all ! (λ l. pass_all ! refl ((tt, tt), tt) $ let Ev = env fn.locals l in
    opens ! tt R {h = h} rb ro (λ us. move ! (1 ∷ []) $ fsplit ! $ peeks ! D (Is D) (shows 𝓛 D) (h.at, (h.number, tt)) us (λ so.
    move ! (1 ∷ []) $ fsplit ! $ in_a_block ! h.at (λ p. lies_at Page full_share p h.bytes) (id⊢ 𝓤 (never 𝓤)) (λ b o e.
    let ev : us ≡ part_val (block_ptr b o) h.number ∷ [] = (part_told h.at h.number us so).0 ∙ ap (λ (r : Ptr). part_val r h.number ∷ []) e in
    -- [the bytes; the ticket; the fields; the cell; the open borrow, in three entries]
    rewrite ! 2 (λ (ws : List Val). ‵ (D.own_val (h.at, (h.number, tt)) ws)) ev refl $ rewrite ! 3 (λ (ws : List Val). ‵ (cell_at full_share R.mir ws rb ro)) ev refl $
    first ! $ blocks ! $
    sets_last ! (addr ! (through ! refl (fld ! refl (hop ! (look_in ! 3 (sub ! 0 refl (whole !))) (stop !))))) refl (tt, tt) $
    exec ! 𝓣.C 𝓣.Λ Ev (after 1 fn.body) (at_ret Ev Post) $ sets ! (of_opd ! (get ! refl)) refl (tt, tt) $
    move ! (1 ∷ 2 ∷ []) $ fjoin ! $ move ! (0 ∷ 2 ∷ []) $ fjoin ! $ move ! (2 ∷ 3 ∷ 4 ∷ 1 ∷ 0 ∷ []) $ group ! 5 $
    use1 𝓛 (later (some (λ (γ' : GName). raw (Part 𝓛 R Page (with_bytes h) (named 0) κ q rb ro b o γ (sem 𝓛 (Rest h b o rb ro)) (back 𝓛 h b o rb ro e) h.bytes γ'))))
    (lends_Part 𝓛 R Page (with_bytes h) (named 0) κ q rb ro b o γ (sem 𝓛 (Rest h b o rb ro)) (back 𝓛 h b o rb ro e) (R.coded.code h) (R.coded.code h) h.bytes) $ await ! tt $ pick ! (λ γ'.
    returns ! (look_at ! 0 refl) $ free_all ! refl $ keep ! (0 ∷ []) $
    use1 𝓛 (‵ ((MutRef (named 0) κ Page).own_val (record { ref_ptr = (b, o); ghost_name = γ'; now = h.bytes }) (vptr b o ∷ [])) ⊛ ‵ (flft κ q) ⊛ ‵ (follows R Page γ γ' (with_bytes h))) (id⊢ 𝓤 _) $ split ! $ move ! (1 ∷ []) $ split ! $ move ! (2 ∷ 0 ∷ 1 ∷ []) $
    suffices ! _ (ends_at 𝓛 f.ended stayed c y (vptr b o) (record { ref_ptr = (b, o); ghost_name = γ'; now = h.bytes }) (tt, tt) (tt, tt)) $
    nothing ! $ nothing ! $ fjoin ! $ join ! $ nothing ! $ move ! (2 ∷ 0 ∷ []) $ join ! $ join ! $ frame ! $ says ! refl $ done !))))))
