use Rattle.std.proofs.Common.{Option, refl, subst, sym}
use Rattle.std.specs.Prelude.{IfSome}
use Rattle.std.specs.Option.{is_none}
use Rattle.vm_types.specs.declared.config.Config.{Config}
use Rattle.vm_types.specs.declared.reply.Reply.{Reply}
use Rattle.pager_model.specs.OfConfig.{MapsRight}
use Rattle.pager_model.specs.Pager.{Pager}
use Rattle.pager_model.specs.Spoken.{flat_after}
use Rattle.pager_model.specs.Step.{IsLegal}
use Rattle.log_reasons.specs.EntryReasons.{EntryFails}
use Rattle.shadow_pager.specs.Shown.{shown}
use Rattle.log_check.specs.Followed.{MayEnter, MayStep}
use Rattle.log_check.specs.Replies.{IsRightReply, ShowsAsFlat}
use Rattle.log_check.proofs.Entered.{entered, followed_beside, of_process}
use Rattle.log_check.proofs.followed.Followed.enter.Goals as goal

pub other_reply-requires-clause-maps : goal.other_reply-requires-clause-maps
other_reply-requires-clause-maps c =
    subst (λ (k : Config). MapsRight k (shown c.args.self.now.pager).pager.map) (sym c.config.ensures) c.flat_is_followed.ensures.right

pub returns-clause-entered : goal.returns-clause-entered
returns-clause-entered c =
    let old = c.args.self.now in
    let a = (shown old.pager).pager in
    let legal : MayStep old c.args.e = subst (λ (b : Pager). IsLegal old.past.config old.past.past b c.args.e) c.requires.followed.follows.pager (c.in_default.ensures.legal.0 refl) in
    let told = subst (λ (k : Config). ShowsAsFlat k a old.bytes c.other_reply.new.bytes (c.args.e.seat).0 c.args.e.what (is_none c.in_ok-right.field-0)) c.config.ensures c.in_ok-right.ensures.shows in
    let shows = subst (λ (o : Option Reply). ShowsAsFlat old.past.config a old.bytes c.other_reply.new.bytes (c.args.e.seat).0 c.args.e.what (is_none o)) c.in_default-2.is told in
    let shown = shows _ c.requires.followed.bytes (followed_beside _ _ _ c.flat_is_followed.ensures) (of_process old.past.config old.past.past (c.args.e.seat).0 c.args.e.what legal.row) in
    let may : MayEnter old c.args.e = record { legal = legal; in_order = (c.keeps_order.ensures c.requires.followed.follows.in_order).0 c.if-not-keeps_order.false; right = shown.0 } in
    entered old (record { past = old.past; pager = old.pager; bytes = c.other_reply.new.bytes }) c.args.e c.add.new.self c.requires.followed refl refl may shown.1 c.in_ok-add.ensures

pub returns-in-Some-clause-refused : goal.returns-in-Some-clause-refused
returns-in-Some-clause-refused c =
    let old = c.args.self.now in
    subst (λ (a : Pager). EntryFails old.past.config old.past.past a c.args.e c.in-Some.reason) c.requires.followed.follows.pager c.in-Some.ensures.said

pub returns-in-Some-2-clause-refused : goal.returns-in-Some-2-clause-refused
returns-in-Some-2-clause-refused c =
    let old = c.args.self.now in
    let a = (shown old.pager).pager in
    (subst (λ (o : Option Reply). IfSome o (IsRightReply old.past.config a old.bytes (c.args.e.seat).0 c.args.e.what)) c.in-Some-2.is
    (subst (λ (k : Config). IfSome c.in_ok-right.field-0 (IsRightReply k a old.bytes (c.args.e.seat).0 c.args.e.what)) c.config.ensures c.in_ok-right.ensures.right))
    (flat_after old.past.config old.past.past) c.requires.followed.bytes (followed_beside _ _ _ c.flat_is_followed.ensures)

pub returns-in-Some-2-clause-entered : goal.returns-in-Some-2-clause-entered
returns-in-Some-2-clause-entered c =
    let old = c.args.self.now in
    let a = (shown old.pager).pager in
    let told = subst (λ (k : Config). ShowsAsFlat k a old.bytes c.other_reply.new.bytes (c.args.e.seat).0 c.args.e.what (is_none c.in_ok-right.field-0)) c.config.ensures c.in_ok-right.ensures.shows in
    let shows = subst (λ (o : Option Reply). ShowsAsFlat old.past.config a old.bytes c.other_reply.new.bytes (c.args.e.seat).0 c.args.e.what (is_none o)) c.in-Some-2.is told in
    λ may. shows (flat_after old.past.config old.past.past) c.requires.followed.bytes (followed_beside _ _ _ c.flat_is_followed.ensures) may.right
