use Rattle.std.proofs.Common.{◌≡◌, ap, ◌∙◌, refl, rules}
use Rattle.std.specs.List.{position}
use Rattle.std.specs.Option.{is_some}
use Rattle.vm_types.specs.Ring.{from_hand, is_empty_slot}
use Rattle.working_set.proofs.Chosen.{empty_exists, offers_empty, offers_victim, offers_none, victim_refutes_none}
use Rattle.working_set.proofs.ring.Ring.choose.Goals as goal

-- a slot is empty, since fewer are filled than there are
pub unwrap-places-requires : goal.unwrap-places-requires
unwrap-places-requires c =
    let found : c.places_to_empty.result ≡ position is_empty_slot (from_hand c.args.self.now) = search rules in
    ap is_some found ∙ empty_exists c.args.self.now (search rules) (search rules)

pub returns-then-self-limit-clause-offered : goal.returns-then-self-limit-clause-offered
returns-then-self-limit-clause-offered c =
    rw c.slot_after.ensures (offers_empty c.args.self.now (search rules) c.args.limit _ (search rules) (search rules))

pub returns-in-Some-clause-offered : goal.returns-in-Some-clause-offered
returns-in-Some-clause-offered c =
    rw c.slot_after-in-Some.ensures (offers_victim c.args.self.now (search rules) c.args.limit _ (search rules) (search rules))

pub returns-in-Some-clause-none : goal.returns-in-Some-clause-none
returns-in-Some-clause-none c =
    (λ same. cc, λ none. absurd (victim_refutes_none c.args.self.now c.args.limit c.slot_after-in-Some.result (returns-in-Some-clause-offered c) none))

pub returns-in-None-clause-offered : goal.returns-in-None-clause-offered
returns-in-None-clause-offered c = offers_none c.args.self.now (search rules) c.args.limit (search rules) (search rules)

pub returns-in-None-clause-none : goal.returns-in-None-clause-none
returns-in-None-clause-none c = (λ _. returns-in-None-clause-offered c, λ _. refl)
