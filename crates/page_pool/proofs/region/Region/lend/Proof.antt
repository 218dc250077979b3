-- `lend` lends the memory of the part that came in last as it is, with its ticket. Assumes `Logic`.
use Rattle.std.proofs.Common.{ℕ, ◌≡◌, ◌+◌, ◌*◌, ◌<◌, ◌^◌, List, [], ◌∷◌, ◌++◌, refl, sym, ap, ◌∙◌, w32, arith}
use mir.Syntax.{named}
use mir.Val.{Val, vptr}
use base.Fraction.{full_share}
use base.Logic.{id⊢, never}
use base.Fml.{ftrue, flft}
use types.Kit.{‵, raw, ◌⊛◌, given, at_ret, ◌$◌, ◌∵◌, !, qed, move, keep, split, join, fsplit, fsplit3, fjoin, fjoin3, learn, suffices, frame, use0, use1, rewrite, feq_i}
use types.Run.{stop, fld, load, un, bin, lit, of_opd, no_more, and_then, first, blocks, exec, returns, enter}
use types.ByLocal.{alloc_all, pass_all, free_all, look_at, get, through, sets, sets_last, env}
use types.Part.{agg, sub, whole, look_in}
use contract.Running.{tables}
use denote.Builtin.{u32}
use denote.Laws.{Is, shows}
use denote.Memory.{cell_at}
use denote.Plain.{uint_vals, uint_Tells}
use denote.RattleType.{RattleType, owns}
use denote.RawPtr.{Ptr, block_ptr, room_for, in_a_block}
use denote.Ref.{mut_vals, mut_Tells}
use denote.Signature.{types_at, plain}
use denote.Steps.{nothing, opens, closes, heard, peeks}
use denote.Triple.Walked.{Stays, stay_ref, stay_dropped, walk_of, ends_at, Goes-ref, Goes-dropped}
use Rattle.std.proofs.raw_atomic.Walks.{proved}
use Rattle.core.proofs.alloc.Shapes.{after}
use Rattle.page_pool.specs.Region.{page_type, place_of, parts_own}
use Rattle.page_pool.specs.Tickets.{tickets_own}
use Rattle.page_pool.proofs.Tickets.{cut}
use Rattle.page_pool.proofs.Parts.{parts_last}
use Rattle.page_pool.proofs.Values.{part_val, spare_made, part_typed, region_val, region_told, tells, tells_last}
use Rattle.page_pool.proofs.Values as values
use Rattle.page_pool.specs.contracts.region.Region as region
use Rattle.page_pool.specs.contracts.spare.Spare as spare
use Rattle.page_pool.specs.contracts.region.Region.lend as f
use Rattle.page_pool.proofs.region.Region.lend.Statement.{statement}
use Rattle.page_pool.proofs.region.Region.lend.Code as code

abbrev R : RattleType
R = region.the_row

abbrev D : RattleType
D = values.Region

abbrev stayed : Stays f.ended.signature.params f.ended.kept
stayed = (stay_ref (0 ∷ []) tt (plain (λ _. R)), (stay_dropped (plain (λ _. u32)) f.ended.kept.1.0, tt))

pub lend_spec : {M : Type 1} → statement M
lend_spec 𝓤 𝓛 𝓜 𝓡 wired =
    let c = f.clauses 𝓛 𝓜.mem 𝓡.returns in let W = walk_of 𝓛 f.ended stayed c in let 𝓣 = tables 𝓤 𝓛.H 𝓜 𝓡 𝓡.env in let fn = code.function in
    proved 𝓛 f.ended stayed c 𝓜 𝓡 (Goes-ref 𝓛 1 0 tt (plain (λ _. R)), (Goes-dropped 𝓛 1 (plain (λ _. u32)) f.ended.kept.1.0 (λ κs x w. refl), tt))
    f.Key.name fn (code.unfolded 𝓤 𝓛.H 𝓜 𝓡 wired)
    (λ κs. (mut_vals, (uint_vals w32, tt))) (λ κs. (mut_Tells (named 0) κs.0 R, (uint_Tells w32, tt))) (λ κs qs bounds a gh are.
    let rb : ℕ = a.0.ref_ptr.0 in let ro : ℕ = a.0.ref_ptr.1 in let u : Val = vptr rb ro in let h : R.Denot = a.0.now in let n : ℕ = a.1.0 in let fits : n < 2 ^ 32 = are.1.0.1 in
    let wide : n < 2 ^ 64 = omega arith in let long : n * 512 < 2 ^ 64 = omega arith in let Asked : Type 0 = (rest : List ℕ) × (h.numbers ≡ rest ++ n ∷ []) in
    let y : W.Ghost = ((κs, qs, bounds, a, (u ∷ [], (uint_vals w32 n, tt))), gh) in
    qed 𝓛 (((‵ (flft κs.0 qs.0) ⊛ ‵ ftrue) ⊛ ‵ (owns (types_at f.ended.signature.params κs) a y.0.4)) ∷ raw ((c κs a).requires gh) ∷ []) ∵
    move ! (1 ∷ []) $ heard ! Asked (λ asked. let ks : List ℕ = asked.0 in split ! $ split ! $ move ! (2 ∷ []) $ fsplit ! $ fsplit3 ! $ keep ! (1 ∷ 2 ∷ 4 ∷ []) $
    -- [two parts of self; the token]
    enter ! 𝓣.C 𝓣.Λ fn (u ∷ (uint_vals w32 n ++ [])) (W.post y) $ alloc_all ! (λ l. pass_all ! refl ((tt, tt), ((tt, record { fits = fits }), tt)) $ let Ev = env fn.locals l in
    opens ! tt R {h = h} rb ro (λ ts. move ! (1 ∷ []) $ fsplit ! $ peeks ! D (Is D) (shows 𝓛 D) (h.start, (h.size, tt)) ts (λ so. move ! (1 ∷ []) $ fsplit ! $
    -- [the tickets; the parts; the fields; the cell; the open borrow, in three entries]
    rewrite ! 0 (λ (ns : List ℕ). ‵ (tickets_own h.name h.start ns)) asked.1 refl $ rewrite ! 1 (λ (ns : List ℕ). ‵ (parts_own h.start h.size ns)) asked.1 refl $
    use1 𝓛 (‵ (tickets_own h.name h.start ks) ⊛ ‵ (tickets_own h.name h.start (n ∷ []))) (cut 𝓛 h.name h.start ks n) $ split ! $ move ! (2 ∷ []) $
    use1 𝓛 (given (n < h.size) (‵ (parts_own h.start h.size ks) ⊛ ‵ (room_for page_type (place_of h.start n)))) (parts_last 𝓛 h.start h.size ks n) $ learn ! (λ low. split ! $ move ! (1 ∷ []) $
    in_a_block ! h.start (λ p. room_for page_type (place_of p n)) (id⊢ 𝓤 (never 𝓤)) (λ b o e.
    let ev : ts ≡ region_val (block_ptr b o) h.size ∷ [] = (region_told h.start h.size ts so).0 ∙ ap (λ (p : Ptr). region_val p h.size ∷ []) e in let at : Ptr = block_ptr b (n * 512 + o) in
    -- [the room; the parts; the tickets; the ticket; the fields; the cell; the open borrow]
    rewrite ! 5 (λ (ws : List Val). ‵ (cell_at full_share R.mir ws rb ro)) ev refl $ first ! $ blocks ! $
    sets ! (of_opd ! (load ! (through ! refl (fld ! refl (stop !))) (look_in ! 5 (sub ! 0 refl (whole !))))) refl (tt, tt) $
    sets ! (un ! (get ! refl) (record { fits = wide })) refl (tt, record { fits = wide }) $
    sets ! (bin ! (get ! refl) (lit ! tt) (record { fits = long })) refl (tt, record { fits = long }) $
    sets ! (bin ! (get ! refl) (get ! refl) tt) refl (tt, tt) $
    sets_last ! (agg ! (and_then ! (get ! refl) (and_then ! (get ! refl) (no_more !)))) refl (part_typed at n fits) $
    exec ! 𝓣.C 𝓣.Λ Ev (after 1 fn.body) (at_ret Ev (W.post y)) $ sets ! (of_opd ! (get ! refl)) refl (part_typed at n fits) $
    rewrite ! 5 (λ (ws : List Val). ‵ (cell_at full_share R.mir ws rb ro)) (sym ev) refl $
    move ! (2 ∷ 1 ∷ []) $ fjoin ! $ move ! (3 ∷ 0 ∷ []) $ fjoin ! $ move ! (3 ∷ 0 ∷ 4 ∷ 5 ∷ 6 ∷ []) $ closes ! tt R (record h { numbers = ks }) ts rb ro $
    -- [two parts of self; the token; the room; the ticket]
    returns ! (look_at ! 0 refl) $ free_all ! refl $
    let r : (spare.the_row).Denot = record { at = at; number = n; name = h.name; size = h.size; start = h.start; place = sym (ap (λ (p : Ptr). place_of p n) e); below = low } in
    suffices ! _ (ends_at 𝓛 f.ended stayed c y (part_val at n) r (record h { numbers = ks }, (tt, tt)) (tt, (tt, tt))) $
    feq_i ! (List Val) (u ∷ []) (u ∷ []) refl $ fjoin3 ! $ nothing ! $ nothing ! $ fjoin ! $ move ! (1 ∷ 0 ∷ []) $ fjoin ! $
    -- [self; the token; the room; the ticket]
    move ! (2 ∷ 3 ∷ []) $ fjoin ! $ use0 𝓛 (‵ (values.Spare.own_val (at, (n, tt)) (part_val at n ∷ []))) (spare_made 𝓛 at n fits) $ fjoin ! $
    move ! (1 ∷ 0 ∷ []) $ join ! $ nothing ! $ move ! (2 ∷ 0 ∷ []) $ join ! $ join ! $ frame ! $
    tells ! asked.1 $ tells ! (refl, refl, refl) $ tells_last ! (refl, refl))))))))
