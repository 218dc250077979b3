use Rattle.std.proofs.Common.{refl, sym, ap, subst, ◌∙◌, Option, ℕ}
use Rattle.vm_types.specs.declared.names.Addr.{Addr}
use Rattle.vm_journal.specs.declared.entry.What.TheVariants as what
use Rattle.pager_policy.specs.Advance.{again_collided, is_named}
use Rattle.vm_state.specs.History.{MayAdd, added, entry_by}
use Rattle.fault_core.proofs.Comes.{held_within}
use Rattle.fault_core.proofs.Firsts.{collides, may_collide, named, no_read, own_read}
use Rattle.fault_core.proofs.Steps.{gives_as, goes_on, seeks_as, waits}
use Rattle.fault_core.proofs.waits.read.Goals as goal

pub read_on-requires-after_bounds : goal.read_on-requires-after_bounds
read_on-requires-after_bounds g c κs within = held_within c.args.state.now c.args.x c.args.f c.requires.holds c.requires.seeks.refers.ready

pub room-requires-after_bounds : goal.room-requires-after_bounds
room-requires-after_bounds g c κs within =
    seeks_as _ _ (own_read c.args.state.now c.args.x c.args.f c.in-Some.reader c.in-Some.ensures (sym c.is_of.ensures ∙ c.if-is_of.true)) c.requires.seeks

pub returns-then-is_of : goal.returns-then-is_of
returns-then-is_of g c = gives_as _ _ (own_read c.args.state.now c.args.x c.args.f c.in-Some.reader c.in-Some.ensures (sym c.is_of.ensures ∙ c.if-is_of.true)) c.room.ensures

pub returns-then-is_named : goal.returns-then-is_named
returns-then-is_named g c =
    waits c.args.state.now (c.args.x).seat (c.args.x).r again_collided _ _
    (named c.args.state.now c.args.x c.args.f c.in-Some.reader c.in-Some.ensures (sym c.is_of.ensures ∙ c.if-is_of.false)
    (ap (λ (o : Option ℕ). is_named o (c.in-Some.reader).start) (sym c.collided-named.ensures) ∙ (sym c.is_named.ensures ∙ c.if-is_named.true)))

pub collide-requires-after_bounds : goal.collide-requires-after_bounds
collide-requires-after_bounds g c κs within =
    subst (λ (a : Addr). MayAdd c.args.state.now (entry_by (c.args.x).seat (what.Collide a c.args.f (c.in-Some.reader).start))) (sym c.page_start-start.ensures)
    (may_collide c.args.state.now c.args.x c.args.f c.in-Some.reader c.in-Some.ensures (sym c.is_of.ensures ∙ c.if-is_of.false)
    (ap (λ (o : Option ℕ). is_named o (c.in-Some.reader).start) (sym c.collided-named.ensures) ∙ (sym c.is_named.ensures ∙ c.if-is_named.false)) c.requires.seeks.refers.may)

pub returns-else-is_named : goal.returns-else-is_named
returns-else-is_named g c =
    goes_on c.args.state.now _ (c.args.x).seat (c.args.x).r _ _ _
    (collides c.args.state.now c.args.x c.args.f c.in-Some.reader c.in-Some.ensures (sym c.is_of.ensures ∙ c.if-is_of.false)
    (ap (λ (o : Option ℕ). is_named o (c.in-Some.reader).start) (sym c.collided-named.ensures) ∙ (sym c.is_named.ensures ∙ c.if-is_named.false))) refl
    (c.collide.ensures ∙ ap (λ (a : Addr). added c.args.state.now (entry_by (c.args.x).seat (what.Collide a c.args.f (c.in-Some.reader).start))) c.page_start-start.ensures)

pub room-requires-in-None-after_bounds : goal.room-requires-in-None-after_bounds
room-requires-in-None-after_bounds g c κs within = seeks_as _ _ (no_read c.args.state.now c.args.x c.args.f c.in-None.ensures) c.requires.seeks

pub returns-in-None : goal.returns-in-None
returns-in-None g c = gives_as _ _ (no_read c.args.state.now c.args.x c.args.f c.in-None.ensures) c.room-in-None.ensures
