use Rattle.std.proofs.Common.{◌≡◌, Bool, true, false, sym, ◌∙◌, inl, inr}
use Rattle.replay_cli.proofs.Asking.{begins, if_none_is, no_command, none_left, plain_alone, plain_asks, some_left, study_or_make}
use Rattle.replay_cli.proofs.words.command_of.Goals as goal

differ : {b : Bool} → b ≡ false → b ≡ true → ⊥
differ e f = cc

pub returns-then-is_empty-clause-some : goal.returns-then-is_empty-clause-some
returns-then-is_empty-clause-some c = plain_asks _ _ c.in-Some.first.now c.in-Some-plain_command.command c.in-Some.ensures (none_left c.in-Some.rest.now c.is_empty.result c.is_empty.ensures c.if-is_empty.true) c.in-Some-plain_command.ensures.some

pub returns-else-is_empty-clause-none : goal.returns-else-is_empty-clause-none
returns-else-is_empty-clause-none c =
    λ asked asks. some_left c.in-Some.rest.now c.is_empty.result c.is_empty.ensures c.if-is_empty.false (plain_alone _ _ c.in-Some.first.now c.in-Some-plain_command.command asked c.in-Some.ensures c.in-Some-plain_command.ensures.some asks)

pub returns-in-Ok-None-clause-none : goal.returns-in-Ok-None-clause-none
returns-in-Ok-None-clause-none c =
    no_command _ _ c.in-Some.first.now c.in-Some.ensures c.in_default-plain_command.ensures.none
    (λ e. if_none_is _ _ c.in-Ok-None.field-0-is c.in-Ok-None.ensures.none)
    (λ e. absurd (study_or_make (c.is.ensures.0 c.if-is.true ∙ sym e)))

pub returns-in-Err-clause-memory : goal.returns-in-Err-clause-memory
returns-in-Err-clause-memory c = (_, inl (begins _ _ _ _ c.in-Some.ensures (c.is.ensures.0 c.if-is.true)))

pub returns-in-Ok-None-make_of-clause-none : goal.returns-in-Ok-None-make_of-clause-none
returns-in-Ok-None-make_of-clause-none c =
    no_command _ _ c.in-Some.first.now c.in-Some.ensures c.in_default-plain_command.ensures.none (λ e. absurd (differ c.if-is.false (c.is.ensures.1 e)))
    (λ e. if_none_is _ _ c.in-Ok-None-make_of.field-0-is c.in-Ok-None-make_of.ensures.none)

pub returns-in-Err-make_of-clause-memory : goal.returns-in-Err-make_of-clause-memory
returns-in-Err-make_of-clause-memory c = (_, inr (begins _ _ _ _ c.in-Some.ensures (c.is-2.ensures.0 c.if-not-is.false)))

pub returns-then-not-is-clause-none : goal.returns-then-not-is-clause-none
returns-then-not-is-clause-none c =
    no_command _ _ c.in-Some.first.now c.in-Some.ensures c.in_default-plain_command.ensures.none (λ e. absurd (differ c.if-is.false (c.is.ensures.1 e)))
    (λ e. absurd (differ c.if-not-is.true (c.is-2.ensures.1 e)))
