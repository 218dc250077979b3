use Rattle.std.proofs.Common.{rules, ℕ, List, ◌++◌, sym, subst, ◌∙◌, ap, append_assoc}
use Rattle.std.specs.Prelude.{codes}
use Rattle.std.specs.List.{flat_map}
use Rattle.command_messages.specs.LineFaults.{said_text}
use Rattle.command_messages.specs.Shown.{shown}
use Rattle.command_messages.specs.Texts.{Adds}
use Rattle.command_messages.specs.declared.faults.LineFault.{LineFault}
use Rattle.command_messages.proofs.messages.add_said.Goals as goal

pub returns-in-NoSuchCommand : goal.returns-in-NoSuchCommand
returns-in-NoSuchCommand c =
    let before : List ℕ = c.args.out.now.items in
    let text : List ℕ = c.args.text.now.items in (
      c.push_shown.ensures.items
          ∙ ap (λ (bytes : List ℕ). c.push_word-in-NoSuchCommand.new.out.items ++ flat_map shown bytes) c.as_slice.ensures.value
          ∙ ap (λ (front : List ℕ). front ++ flat_map shown text) c.push_word-in-NoSuchCommand.ensures.items
          ∙ append_assoc before (codes "no such command: ") (flat_map shown text)
          ∙ ap (λ (fault : LineFault). before ++ said_text fault text) (sym c.in-NoSuchCommand.is),
      search rules,
    )

pub returns-in-Missing : goal.returns-in-Missing
returns-in-Missing c = subst (λ (fault : LineFault). Adds c.args.out.now.items c.add_missing.new.out.items (said_text fault c.args.text.now.items) 370) (sym c.in-Missing.is) c.add_missing.ensures
