-- `put_spare` takes the memory and the ticket of a part in that was never written. Assumes `Logic`.
use Rattle.std.proofs.Common.{ℕ, ◌≡◌, ◌<◌, ◌^◌, ◌≤◌, List, [], ◌∷◌, ◌++◌, refl, ap, subst, ◌∙◌, w32}
use mir.Syntax.{named}
use mir.Val.{Val, vint, vptr}
use base.Fml.{ftrue, flft}
use types.Kit.{‵, raw, ◌⊛◌, given, ◌$◌, ◌∵◌, !, qed, move, keep, split, join, fsplit, fsplit3, fjoin, fjoin3, learn, suffices, frame, use1, use2, rewrite, feq_i}
use types.Run.{stop, fld, of_opd, returns, enter}
use types.ByLocal.{alloc_all, pass_all, free_all, look_at, get, get_in, sets}
use types.Part.{sub, whole}
use contract.Running.{tables}
use denote.Builtin.{u32}
use denote.Plain.{uint_Makes}
use denote.RattleType.{RattleType, owns}
use denote.RawPtr.{Ptr, room_for}
use denote.Ref.{mut_vals, mut_Tells}
use denote.Signature.{types_at, plain}
use denote.Steps.{nothing, opens, closes, heard, owned}
use denote.Triple.Walked.{Stays, stay_ref, stay_dropped, walk_of, ends_at, Goes-ref, Goes-dropped}
use Rattle.std.proofs.raw_atomic.Walks.{proved}
use Rattle.page_pool.specs.Region.{page_type, place_of, parts_own}
use Rattle.page_pool.specs.Tickets.{times, tickets_own}
use Rattle.page_pool.proofs.Tickets.{merged, once}
use Rattle.page_pool.proofs.Numbers.{Below, few}
use Rattle.page_pool.proofs.Parts.{below, parts_snoc}
use Rattle.page_pool.proofs.Values.{part_val, spare_told, part_typed, tells, tells_last}
use Rattle.page_pool.specs.contracts.region.Region as region
use Rattle.page_pool.specs.contracts.spare.Spare as spare
use Rattle.page_pool.specs.contracts.region.Region.put_spare as f
use Rattle.page_pool.proofs.region.Region.put_spare.Statement.{statement}
use Rattle.page_pool.proofs.region.Region.put_spare.Code as code

abbrev R : RattleType
R = region.the_row

abbrev P : RattleType
P = spare.the_row

abbrev stayed : Stays f.ended.signature.params f.ended.kept
stayed = (stay_ref (0 ∷ []) tt (plain (λ _. R)), (stay_dropped (plain (λ _. P)) f.ended.kept.1.0, tt))

pub put_spare_spec : {M : Type 1} → statement M
put_spare_spec 𝓤 𝓛 𝓜 𝓡 wired =
    let c = f.clauses 𝓛 𝓜.mem 𝓡.returns in let W = walk_of 𝓛 f.ended stayed c in let 𝓣 = tables 𝓤 𝓛.H 𝓜 𝓡 𝓡.env in
    proved 𝓛 f.ended stayed c 𝓜 𝓡 (Goes-ref 𝓛 1 0 tt (plain (λ _. R)), (Goes-dropped 𝓛 1 (plain (λ _. P)) f.ended.kept.1.0 (λ κs x w. refl), tt))
    f.Key.name code.function (code.unfolded 𝓤 𝓛.H 𝓜 𝓡 wired)
    (λ κs. (mut_vals, ((λ x. part_val x.at x.number ∷ []), tt))) (λ κs. (mut_Tells (named 0) κs.0 R, ((λ x vs is. (spare_told x.at x.number vs is.0).0), tt))) (λ κs qs bounds a gh are.
    let b : ℕ = a.0.ref_ptr.0 in let o : ℕ = a.0.ref_ptr.1 in let u : Val = vptr b o in let h : R.Denot = a.0.now in let q : P.Denot = a.1.0 in let n : ℕ = q.number in
    let v : Val = part_val q.at n in let fits : n < 2 ^ 32 = (spare_told q.at n (v ∷ []) are.1.0.0).1 in let ns : List ℕ = h.numbers ++ n ∷ [] in
    let h' : R.Denot = record h { numbers = ns } in
    let y : W.Ghost = ((κs, qs, bounds, a, (u ∷ [], (v ∷ [], tt))), gh) in
    qed 𝓛 (((‵ (flft κs.0 qs.0) ⊛ ‵ ftrue) ⊛ ‵ (owns (types_at f.ended.signature.params κs) a y.0.4)) ∷ raw ((c κs a).requires gh) ∷ []) ∵
    move ! (1 ∷ []) $ heard ! ((q.name ≡ h.name) × (q.size ≡ h.size)) (λ same. split ! $ split ! $ move ! (2 ∷ []) $ fsplit ! $ fsplit3 ! $
    move ! (3 ∷ []) $ fsplit ! $ fsplit ! $ keep ! (4 ∷ 5 ∷ 6 ∷ 1 ∷ []) $
    -- [two parts of self; the token; what the part owns beside its fields]
    enter ! 𝓣.C 𝓣.Λ code.function (u ∷ v ∷ []) (W.post y) $ alloc_all ! (λ l. pass_all ! refl ((tt, tt), (part_typed q.at n fits, tt)) $
    opens ! tt R {h = h} b o (λ ts. move ! (1 ∷ []) $ fsplit ! $ move ! (1 ∷ []) $ fsplit ! $ move ! (7 ∷ []) $ fsplit ! $
    -- [the part's room; its ticket; the tickets; the parts; the fields; the cell; the open borrow, in three entries]
    move ! (2 ∷ 1 ∷ []) $ use2 𝓛 (given (q.start ≡ h.start) (‵ (tickets_own h.name h.start ns))) (merged 𝓛 h.name q.name h.start q.start h.numbers n same.0) $ learn ! (λ here.
    use1 𝓛 (given ((k : ℕ) → times ns k ≤ 1) (‵ (tickets_own h.name h.start ns))) (once 𝓛 h.name h.start ns) $ learn ! (λ one. move ! (1 ∷ []) $
    rewrite ! 0 (λ (p : Ptr). ‵ (room_for page_type p)) (q.place ∙ ap (λ (p : Ptr). place_of p n) here) refl $ move ! (2 ∷ 0 ∷ []) $
    use2 𝓛 (‵ (parts_own h.start h.size ns)) (parts_snoc 𝓛 h.start h.size h.numbers n (subst (λ (m : ℕ). n < m) same.1 q.below)) $
    use1 𝓛 (given (Below h.size ns) (‵ (parts_own h.start h.size ns))) (below 𝓛 h.start h.size ns) $ learn ! (λ low.
    -- [the parts; the tickets; the fields; the cell; the open borrow]
    move ! (1 ∷ 0 ∷ []) $ fjoin ! $ move ! (1 ∷ 0 ∷ []) $ fjoin ! $ move ! (1 ∷ 0 ∷ []) $ closes ! tt R h' ts b o $
    sets ! (of_opd ! (get_in ! (fld ! refl (stop !)) (sub ! 1 refl (whole !)))) refl (tt, record { fits = fits }) $ sets ! (of_opd ! (get ! refl)) refl (tt, record { fits = fits }) $
    returns ! (look_at ! 0 refl) $ free_all ! refl $
    suffices ! _ (ends_at 𝓛 f.ended stayed c y (vint w32 n) n (h', (tt, tt)) (tt, (tt, tt))) $
    feq_i ! (List Val) (u ∷ []) (u ∷ []) refl $ fjoin3 ! $ nothing ! $ nothing ! $ fjoin ! $ move ! (1 ∷ 0 ∷ []) $ fjoin ! $
    -- [self; the token]
    owned ! u32 _ (uint_Makes 𝓛 w32) n _ (refl, fits) $ move ! (1 ∷ 0 ∷ []) $ join ! $ nothing ! $ move ! (2 ∷ 0 ∷ []) $ join ! $ join ! $ frame ! $
    tells ! refl $ tells ! refl $ tells ! (few h.size ns low one) $ tells_last ! (refl, refl, refl))))))))
