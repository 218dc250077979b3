use Rattle.std.proofs.Common.{ℕ, List, ◌≡◌, ◌<◌, cond, ◌∷◌, length, set, refl, sym, ◌∙◌, ap, arith, length-set}
use Rattle.std.proofs.lemmas.Bool.{eq-eqb}
use Rattle.page_lists.specs.Lists.{count_of, without}
use Rattle.page_lists.proofs.Counts.{count_of-without}
use Rattle.pfn_database.specs.declared.row.Row.{Row}
use Rattle.pfn_database.specs.Rows.{empty_row}
use Rattle.pfn_database.specs.Frames.{Frames, row_of, is_free, is_modified}
use Rattle.pfn_database.specs.Kept.{kept_of}
use Rattle.pfn_database.proofs.KeptRows.{length-rows_of, row-is, rewritten}
use Rattle.pfn_database.proofs.Changes.{IsConsistent-emptied}
use Rattle.pfn_database.proofs.pfns.Pfns.empty_to_head.Goals as goal

pub kept_at-kept-requires : goal.kept_at-kept-requires
kept_at-kept-requires c =
    let below = rw (← c.self.view_is) at c.requires.below in
    let near : c.args.f.0 < length c.self.inside.kept.items = omega (arith, below, length-rows_of c.self.inside.kept.items c.self.inside.lists.cells c.self.invariant.cells) in
    near

pub index_mut-requires : goal.index_mut-requires
index_mut-requires c =
    let below = rw (← c.self.view_is) at c.requires.below in
    let near : c.args.f.0 < length c.self.inside.kept.items = omega (arith, below, length-rows_of c.self.inside.kept.items c.self.inside.lists.cells c.self.invariant.cells) in
    omega (arith, near, c.self.inside.kept.ok.0)

pub take_off-requires-clause-free : goal.take_off-requires-clause-free
take_off-requires-clause-free c =
    let row = row-is c.self.inside.kept.items c.self.inside.lists.cells c.self.invariant.cells c.args.f.0 c.kept_at-kept.result c.kept_at-kept.ensures in
    c.self.invariant.consistent.free c.args.f.0 ∙ ap (λ (r : Row). cond (is_free r.state) 1 0) (sym row)

pub take_off-requires-clause-modified : goal.take_off-requires-clause-modified
take_off-requires-clause-modified c =
    let row = row-is c.self.inside.kept.items c.self.inside.lists.cells c.self.invariant.cells c.args.f.0 c.kept_at-kept.result c.kept_at-kept.ensures in
    c.self.invariant.consistent.modified c.args.f.0 ∙ ap (λ (r : Row). cond (is_modified r.state) 1 0) (sym row)

pub push_head-requires-clause-below : goal.push_head-requires-clause-below
push_head-requires-clause-below c =
    let below = rw (← c.self.view_is) at c.requires.below in
    let near : c.args.f.0 < length c.self.inside.kept.items = omega (arith, below, length-rows_of c.self.inside.kept.items c.self.inside.lists.cells c.self.invariant.cells) in
    rw (c.take_off.ensures.frames, c.self.invariant.frames) near

pub push_head-requires-clause-on_none : goal.push_head-requires-clause-on_none
push_head-requires-clause-on_none c =
    let off : (list : List ℕ) → count_of (without list c.args.f.0) c.args.f.0 ≡ 0 = λ list. count_of-without list c.args.f.0 c.args.f.0 ∙ rw (eq-eqb c.args.f.0 c.args.f.0 refl) refl in
    rw (c.take_off.ensures.free, c.take_off.ensures.modified) (off c.self.inside.lists.free, off c.self.inside.lists.modified)

pub invariant_of-self : goal.invariant_of-self
invariant_of-self c =
    let below = rw (← c.self.view_is) at c.requires.below in
    let cells = c.push_head.ensures.cells ∙ ap (λ (cs : List (ℕ × ℕ)). set cs c.args.f.0 (0, 0)) c.take_off.ensures.cells in
    record {
      consistent = rw (cells, c.push_head.ensures.list, c.push_head.ensures.other, c.take_off.ensures.free, c.take_off.ensures.modified, rewritten c.self.inside.kept.items c.self.inside.lists.cells c.self.invariant.cells c.args.f.0 c.kept_at-kept.result c.kept_at-kept.ensures (kept_of empty_row) (0, 0) (λ (r : Row). empty_row) refl) (IsConsistent-emptied _ c.self.invariant.consistent c.args.f.0 below);
      frames = c.push_head.ensures.frames ∙ c.take_off.ensures.frames ∙ c.self.invariant.frames ∙ sym (length-set c.self.inside.kept.items c.args.f.0 _);
      cells = ap length cells ∙ length-set c.self.inside.lists.cells c.args.f.0 _ ∙ c.self.invariant.cells ∙ sym (length-set c.self.inside.kept.items c.args.f.0 _);
      short = rw length-set c.self.invariant.short;
    }

pub returns-clause-rows : goal.returns-clause-rows
returns-clause-rows c =
    let cells = c.push_head.ensures.cells ∙ ap (λ (cs : List (ℕ × ℕ)). set cs c.args.f.0 (0, 0)) c.take_off.ensures.cells in
    rw cells (rewritten c.self.inside.kept.items c.self.inside.lists.cells c.self.invariant.cells c.args.f.0 c.kept_at-kept.result c.kept_at-kept.ensures (kept_of empty_row) (0, 0) (λ (r : Row). empty_row) refl ∙ ap (λ (frames : Frames). set frames.rows c.args.f.0 ((λ (r : Row). empty_row) (row_of frames c.args.f.0))) c.self.view_is)

pub returns-clause-free : goal.returns-clause-free
returns-clause-free c =
    c.push_head.ensures.list ∙ ap (λ (list : List ℕ). c.args.f.0 ∷ list) c.take_off.ensures.free ∙ ap (λ (frames : Frames). c.args.f.0 ∷ without frames.free c.args.f.0) c.self.view_is

pub returns-clause-modified : goal.returns-clause-modified
returns-clause-modified c =
    c.push_head.ensures.other ∙ c.take_off.ensures.modified ∙ ap (λ (frames : Frames). without frames.modified c.args.f.0) c.self.view_is

pub returns-clause-consistent : goal.returns-clause-consistent
returns-clause-consistent c =
    (invariant_of-self c).consistent
