use Rattle.std.proofs.Common.{◌≡◌, ◌&&◌, nat_eq, not, refl, sym, ap, ap₂, ◌∙◌}
use Rattle.pager_model.specs.Changes.{pushed_if}
use Rattle.pager_model.specs.Lookups.{shares}
use Rattle.pager_model.specs.Sets.{at_number}
use Rattle.shadow_tables.specs.Lying.{lies_by}
use Rattle.shadow_pager.specs.Shown.{at_or, shown}
use Rattle.vm_types.specs.declared.names.FrameState.TheVariants as state
use Rattle.shadow_pager.proofs.Landed.{landed_same, lies_same}
use Rattle.shadow_pager.proofs.Same.{same_shown, same_pager}
use Rattle.shadow_pager.proofs.Tables.{modify_read, set_state, state_read}
use Rattle.shadow_pager.proofs.shadow_pager.ShadowPager.write_lands.Goals as goal

pub returns : goal.returns
unfolding shown
returns c = λ x same.
    let s = c.args.self.now in
    let f = c.args.f.0 in
    let modify = modify_read s f c.requires _ c.index-modified.ensures in
    let unshared : nat_eq c.shares-unshared.result 0 ≡ nat_eq (shares s.valid f) 0 = ap (λ n. nat_eq n 0) c.shares-unshared.ensures in
    same_shown _ (shown s) _ refl refl
    (same_pager _ _
    (set_state s f c.requires c.landed.result ∙ ap (at_number (at_or state.Bad s.states.items) f) (c.landed.ensures ∙ landed_same _ _ _ _ _ _ unshared modify (state_read s f c.requires _ c.index.ensures)))
    refl refl
    (c.in_ok-push_if.ensures ∙ ap (λ b. pushed_if b s.free f) (c.both.ensures ∙ ap₂ (λ b m. b && not m) unshared modify))
    (c.in_ok-add_if.ensures ∙ ap (λ b. pushed_if b s.modified.items f) (c.both-2.ensures ∙ ap₂ (λ b m. b && m) unshared modify))
    refl refl refl refl refl refl
    refl refl refl refl
    (c.in_ok-lay_at.ensures ∙ lies_same (lies_by s.lies) _ _ _ _ _ _ modify c.at.ensures (sym same)) refl)
