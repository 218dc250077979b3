use Rattle.std.proofs.Common.{ℕ, ◌<◌, nat_eq, sym, ap, subst, ◌∙◌, rules}
use Rattle.std.proofs.lemmas.List.Sorted.{answers_always}
use Rattle.dump_lines.proofs.EntryFound.{found_entry, no_entry}
use Rattle.dump_lines.proofs.pins.frame_at.Goals as goal

pub returns-in-Ok-clause-found : goal.returns-in-Ok-clause-found
returns-in-Ok-clause-found c = λ f.
    found_entry c.args.words.now c.args.vpn _ c.requires c.in-Ok.ensures.bound (c.in-Ok.ensures.position (λ w. w.0) (answers_always _ _ _ (λ f a r g called. search rules))) f _
    ∙ ap (λ (n : ℕ). nat_eq n f) (sym c.frame_of.ensures)

pub returns-in-Err-clause-found : goal.returns-in-Err-clause-found
returns-in-Err-clause-found c =
    no_entry c.args.words.now c.args.vpn _ c.requires (c.in-Err.ensures.position (λ w. w.0) (answers_always _ _ _ (λ f a r g called. search rules)))

pub returns-in-Ok-clause-there : goal.returns-in-Ok-clause-there
returns-in-Ok-clause-there c = λ n all. subst (λ (frame : ℕ). frame < n) (sym c.frame_of.ensures) (all _ _ c.in-Ok.ensures.bound)
