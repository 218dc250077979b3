use Rattle.std.proofs.Common.{◌≡◌, ◌+◌, ◌-◌, ℕ, suc, List, Bool, false, get_or, ap, sym, subst, ◌∙◌, arith}
use Rattle.paging_study.specs.Places.{flag_at}
use Rattle.paging_study.proofs.Flags.{ListedSoFar, listed_skip, listed_push}
use Rattle.paging_study.proofs.cuts.places_of.Goals as goal
use Rattle.paging_study.proofs.cuts.places_of.Goals.{then-flag+in_ok-push, else-flag}

-- the place joins the list where its flag is set
pub loop-i-preserved : goal.loop-i-preserved
loop-i-preserved c =
    let flag : ℕ → Bool = flag_at c.args.flags.now in
    let at : suc c.loop-i.i - 1 ≡ c.loop-i.i = omega arith in
    let flag_is : flag_at c.args.flags.now (suc c.loop-i.i) ≡ get_or c.args.flags.now c.loop-i.i false = ap (λ (k : ℕ). get_or c.args.flags.now k false) at in
    elim c.if-flag.branch [
      | then-flag+in_ok-push w ↦
          subst (λ (xs : List ℕ). ListedSoFar flag xs (c.loop-i.i + 1)) (sym (ap (λ v. v.items) w.places-is ∙ w.in_ok-push.ensures.items))
          (listed_push flag c.loop-i.places.items c.loop-i.i c.loop-i.invariant (flag_is ∙ w.if-flag.true))
      | else-flag w ↦
          subst (λ (xs : List ℕ). ListedSoFar flag xs (c.loop-i.i + 1)) (sym (ap (λ v. v.items) w.places-is))
          (listed_skip flag c.loop-i.places.items c.loop-i.i c.loop-i.invariant (flag_is ∙ w.if-flag.false))
    ]
