use Rattle.std.proofs.Common.{◌∙◌, ◌-◌, ◌≡◌, ℕ, List, Some, None, ap, sym, false, if◌then◌else◌, length, arith}
use Rattle.std.proofs.lemmas.List.{length-map}
use Rattle.vm_types.specs.declared.config.Config.{Config}
use Rattle.vm_journal.specs.declared.entry.What.{What}
use Rattle.pager_policy.specs.Cleaning.{evicting}
use Rattle.pager_policy.specs.Rundown.{written_for_need}
use Rattle.log_laws.specs.Underway.{Onward as OnwardIs, between_moves, is_made, plan_of, step_outs, step_plan}
use Rattle.shadow_pager.specs.Shown.{shown}
use Rattle.log_rundown.specs.Chosen.{eviction_as, move_as}
use Rattle.log_rundown.specs.Standing.{onward_as}
use Rattle.log_rundown.specs.Written.{write_as, writes_as}
use Rattle.log_rundown.specs.declared.choice.Choice.{Choice}
use Rattle.log_rundown.specs.declared.write.Write.{Write}
use Rattle.log_rundown.proofs.Leads.{round_onward}
use Rattle.log_rundown.proofs.steps.step_choice.Goals as goal

pub returns-in-EvictsPage : goal.returns-in-EvictsPage
returns-in-EvictsPage c =
    let config = c.args.past.now.config in
    let past = c.args.past.now.past in
    let a = (shown c.args.pager.now).pager in
    c.step_eviction-at.ensures
    ∙ (ap (λ (x : Config). if is_made x (eviction_as c.in-EvictsPage.x) c.args.e then (Some (between_moves (evicting ((c.in-EvictsPage.x).process).0 c.in-EvictsPage.slot false))) else None) c.config.ensures
    ∙ sym (ap (λ (x : Choice). step_plan config past (plan_of (move_as config a x)) c.args.e) c.in-EvictsPage.is))

pub returns-in_ok-at-in-WritesBefore : goal.returns-in_ok-at-in-WritesBefore
returns-in_ok-at-in-WritesBefore c =
    let config = c.args.past.now.config in
    let past = c.args.past.now.past in
    let a = (shown c.args.pager.now).pager in
    c.in_ok-at-in-WritesBefore.ensures
    ∙ (ap (λ (ws : List What). step_outs config past ws (onward_as c.again-onward.result) c.args.e)
    (ap (λ (ws : List Write). writes_as ws) c.deref.ensures.value ∙ (c.in_ok-writes-in-WritesBefore.ensures ∙ ap (λ (x : Config). written_for_need x a) c.config-in-WritesBefore.ensures))
    ∙ (ap (λ (o : OnwardIs). step_outs config past (written_for_need config a) o c.args.e) c.again-onward.ensures
    ∙ sym (ap (λ (x : Choice). step_plan config past (plan_of (move_as config a x)) c.args.e) c.in-WritesBefore.is)))

pub returns-in_ok-at-in-WritesRound : goal.returns-in_ok-at-in-WritesRound
returns-in_ok-at-in-WritesRound c =
    let config = c.args.past.now.config in
    let past = c.args.past.now.past in
    let a = (shown c.args.pager.now).pager in
    let left = c.in-WritesRound.left in
    let written = c.in_ok-writes-in-WritesRound.ensures ∙ ap (λ (x : Config). written_for_need x a) c.config-in-WritesRound.ensures in
    let counted = c.len.ensures in
    let held = c.in_ok-writes-in-WritesRound.writes.ok.0 in
    let count_is : c.len.result ≡ length (written_for_need config a) = (let listed = length-map c.in_ok-writes-in-WritesRound.writes.items write_as in let same = ap length written in omega (arith, counted, held, listed, same)) in
    let onward_is : onward_as c.in_round-onward.result ≡ round_onward c.in-WritesRound.following (left - length (written_for_need config a)) =
    c.in_round-onward.ensures ∙ ap (round_onward c.in-WritesRound.following) (c.saturating_sub.ensures ∙ ap (λ (n : ℕ). left - n) count_is) in
    c.in_ok-at-in-WritesRound.ensures
    ∙ (ap (λ (ws : List What). step_outs config past ws (onward_as c.in_round-onward.result) c.args.e) (ap (λ (ws : List Write). writes_as ws) c.deref-in-WritesRound.ensures.value ∙ written)
    ∙ (ap (λ (o : OnwardIs). step_outs config past (written_for_need config a) o c.args.e) onward_is
    ∙ sym (ap (λ (x : Choice). step_plan config past (plan_of (move_as config a x)) c.args.e) c.in-WritesRound.is)))

pub returns-in-Rests : goal.returns-in-Rests
returns-in-Rests c =
    let config = c.args.past.now.config in
    let past = c.args.past.now.past in
    let a = (shown c.args.pager.now).pager in
    sym (ap (λ (x : Choice). step_plan config past (plan_of (move_as config a x)) c.args.e) c.in-Rests.is)
