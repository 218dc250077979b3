use Rattle.std.proofs.Common.{ℕ, refl, sym, ◌∙◌, ap}
use Rattle.std.specs.Prelude.{codes, Option}
use Rattle.command_messages.specs.Bounds.{has_to_be, is_below, left_of}
use Rattle.command_messages.specs.LineWords.{line_number}
use Rattle.command_messages.proofs.Adding.{adds_first, adds_for, adds_second}
use Rattle.command_messages.proofs.bounds.push_pages.Goals as goal

pub returns-then-is_below : goal.returns-then-is_below
returns-then-is_below c =
    let n : ℕ = c.args.n in
    let first : Option ℕ = line_number 6 c.args.text.now in
    let count : Option ℕ = line_number 4 c.args.text.now in
    let left = c.left_of.ensures ∙ ap (λ (at : Option ℕ). left_of at n) c.line_number-first.ensures in
    let below = ap (λ (at : Option ℕ). is_below at n) (sym c.line_number-first.ensures) ∙ sym c.is_below.ensures ∙ c.if-is_below.true in
    adds_first c.args.out.now.items c.push_has_to_be.new.out.items (has_to_be (codes "the number of pages") count (codes "at most what the section has from there on") (left_of first n))
    (has_to_be (codes "the first page") first (codes "below the section's number of pages") n) (is_below first n) below
    (adds_for c.args.out.now.items c.push_has_to_be.new.out.items (codes "the number of pages") (codes "at most what the section has from there on") c.line_number.result count
    c.left_of.result (left_of first n) c.line_number.ensures left c.push_has_to_be.ensures)

pub returns-else-is_below : goal.returns-else-is_below
returns-else-is_below c =
    let n : ℕ = c.args.n in
    let first : Option ℕ = line_number 6 c.args.text.now in
    let count : Option ℕ = line_number 4 c.args.text.now in
    let not_below = ap (λ (at : Option ℕ). is_below at n) (sym c.line_number-first.ensures) ∙ sym c.is_below.ensures ∙ c.if-is_below.false in
    adds_second c.args.out.now.items c.push_has_to_be-else-is_below.new.out.items (has_to_be (codes "the number of pages") count (codes "at most what the section has from there on") (left_of first n))
    (has_to_be (codes "the first page") first (codes "below the section's number of pages") n) (is_below first n) not_below
    (adds_for c.args.out.now.items c.push_has_to_be-else-is_below.new.out.items (codes "the first page") (codes "below the section's number of pages") c.line_number-first.result first
    n n c.line_number-first.ensures refl c.push_has_to_be-else-is_below.ensures)
