-- What a frame's state says of what is around it.
use Rattle.std.proofs.Common.{◌≡◌, ℕ, ◌<◌, Bool, true, false, refl, sym, ◌∙◌, subst, arith}
use Rattle.vm_types.specs.declared.names.FrameState.{FrameState}
use Rattle.vm_types.specs.declared.names.FrameState.TheVariants as state
use Rattle.pager_model.specs.Around.{FrameView}
use Rattle.pager_model.specs.Lookups.{is}
use Rattle.pager_model.specs.Sets.{has}
use Rattle.pager_rules.proofs.Basics.{states_equal}
use Rattle.pager_rules.specs.Kept.{FitsFrame, HasShares, one_if}

-- the facts at a state that is known
pub at_state : (x : FrameView) (s : FrameState) → x.state ≡ s → FitsFrame x → FitsFrame (record x { state = s })
at_state x s is fits = subst FitsFrame (λ i. record x { state = is i }) fits

pub from_state : (x : FrameView) (s : FrameState) → x.state ≡ s → FitsFrame (record x { state = s }) → FitsFrame x
from_state x s is fits = subst FitsFrame (λ i. record x { state = sym is i }) fits

one_if_some : (b : Bool) → 0 < one_if b → b ≡ true
one_if_some true some = refl
one_if_some false some = absurd (omega arith)

pub reading_frame : (x : FrameView) → FitsFrame x → 0 < x.reads → x.state ≡ state.Reading
reading_frame x fits some = states_equal _ _ (one_if_some (is state.Reading x.state) (subst (λ (n : ℕ). 0 < n) fits.reads some))

pub free_frame : (x : FrameView) → FitsFrame x → 0 < x.on_free → x.state ≡ state.Free
free_frame x fits some = states_equal _ _ (one_if_some (is state.Free x.state) (subst (λ (n : ℕ). 0 < n) fits.on_free some))

pub modified_frame : (x : FrameView) → FitsFrame x → 0 < x.on_modified → x.state ≡ state.Modified
modified_frame x fits some = states_equal _ _ (one_if_some (is state.Modified x.state) (subst (λ (n : ℕ). 0 < n) fits.on_modified some))

pub failed_frame : (x : FrameView) → FitsFrame x → x.failed ≡ true → x.state ≡ state.ReadError
failed_frame x fits is = states_equal _ _ (sym fits.failed ∙ is)

pub active_frame : (x : FrameView) → FitsFrame x → 0 < x.shares → x.state ≡ state.Active
active_frame x fits some = go x.state refl fits.shares
  where
    go : (s : FrameState) → x.state ≡ s → HasShares s x.shares → x.state ≡ state.Active
    go state.Active e has = e
    go state.Free e has = absurd (omega arith)
    go state.Modified e has = absurd (omega arith)
    go state.Bad e has = absurd (omega arith)
    go state.ReleasePending e has = absurd (omega arith)
    go state.ReadError e has = absurd (omega arith)
    go state.Writing e has = absurd (omega arith)
    go state.Reading e has = absurd (omega arith)
