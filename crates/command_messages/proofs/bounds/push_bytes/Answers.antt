use Rattle.std.proofs.Common.{ℕ, refl, sym, ◌∙◌, ap}
use Rattle.std.specs.Prelude.{codes, Option, None}
use Rattle.command_messages.specs.Bounds.{has_to_be, is_below, left_of}
use Rattle.command_messages.specs.LineWords.{line_number}
use Rattle.command_messages.proofs.Adding.{adds_first, adds_for, adds_second}
use Rattle.command_messages.proofs.bounds.push_bytes.Goals as goal

pub returns-then-is_below : goal.returns-then-is_below
returns-then-is_below c =
    let n : ℕ = c.args.n in
    let offset : Option ℕ = line_number 3 c.args.text.now in
    let left = c.left_of.ensures ∙ ap (λ (at : Option ℕ). left_of at n) c.line_number-offset.ensures in
    let below = ap (λ (at : Option ℕ). is_below at n) (sym c.line_number-offset.ensures) ∙ sym c.is_below.ensures ∙ c.if-is_below.true in
    adds_first c.args.out.now.items c.push_has_to_be.new.out.items (has_to_be (codes "the number of bytes") None (codes "at most what the section has from that offset on") (left_of offset n))
    (has_to_be (codes "the offset") offset (codes "below the section's number of bytes") n) (is_below offset n) below
    (adds_for c.args.out.now.items c.push_has_to_be.new.out.items (codes "the number of bytes") (codes "at most what the section has from that offset on") None None
    c.left_of.result (left_of offset n) refl left c.push_has_to_be.ensures)

pub returns-else-is_below : goal.returns-else-is_below
returns-else-is_below c =
    let n : ℕ = c.args.n in
    let offset : Option ℕ = line_number 3 c.args.text.now in
    let not_below = ap (λ (at : Option ℕ). is_below at n) (sym c.line_number-offset.ensures) ∙ sym c.is_below.ensures ∙ c.if-is_below.false in
    adds_second c.args.out.now.items c.push_has_to_be-else-is_below.new.out.items (has_to_be (codes "the number of bytes") None (codes "at most what the section has from that offset on") (left_of offset n))
    (has_to_be (codes "the offset") offset (codes "below the section's number of bytes") n) (is_below offset n) not_below
    (adds_for c.args.out.now.items c.push_has_to_be-else-is_below.new.out.items (codes "the offset") (codes "below the section's number of bytes") c.line_number-offset.result offset
    n n c.line_number-offset.ensures refl c.push_has_to_be-else-is_below.ensures)
