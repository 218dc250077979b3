use Rattle.std.proofs.Common.{ℕ, List, [], ◌∷◌, ◌++◌, refl, ap, ◌∙◌, set, length}
use Rattle.page_lists.specs.Lists.{TwoLists}
use Rattle.pfn_database.proofs.Changes.{is_free-other}
use Rattle.pfn_database.proofs.OpeningLists.{listed-free, listed-other, count_of-listed, set-zeros}
use Rattle.pfn_database.proofs.opening.list_free.Goals as goal
use Rattle.pfn_database.proofs.opening.list_free.Goals.{in-Free, in_default}

pub push_tail-requires-clause-on_none : goal.push_tail-requires-clause-on_none
push_tail-requires-clause-on_none c = rw (c.loop-frame.invariant.free, c.loop-frame.invariant.modified) (count_of-listed c.args.kept.now.items c.loop-frame.frame, refl)

pub loop-frame-preserved : goal.loop-frame-preserved
loop-frame-preserved c = elim c.match-kept_at.branch [
  | in-Free w ↦
      let free = rw c.kept_at.ensures at w.in-Free.is in
      record {
        frames = ap (λ (lists : TwoLists). lists.frames) w.lists-is ∙ w.push_tail.ensures.frames ∙ c.loop-frame.invariant.frames;
        free = ap (λ (lists : TwoLists). lists.free) w.lists-is ∙ w.push_tail.ensures.list
            ∙ ap (λ (list : List ℕ). list ++ c.loop-frame.frame ∷ []) c.loop-frame.invariant.free
            ∙ listed-free c.args.kept.now.items c.loop-frame.frame free;
        modified = ap (λ (lists : TwoLists). lists.modified) w.lists-is ∙ w.push_tail.ensures.other ∙ c.loop-frame.invariant.modified;
        cells = ap (λ (lists : TwoLists). lists.cells) w.lists-is ∙ w.push_tail.ensures.cells
            ∙ ap (λ (cells : List (ℕ × ℕ)). set cells c.loop-frame.frame (0, 0)) c.loop-frame.invariant.cells
            ∙ set-zeros (length c.args.kept.now.items) c.loop-frame.frame;
      }
  | in_default w ↦
      let other = rw c.kept_at.ensures at w.in_default.not-Free in
      record {
        frames = ap (λ (lists : TwoLists). lists.frames) w.lists-is ∙ c.loop-frame.invariant.frames;
        free = ap (λ (lists : TwoLists). lists.free) w.lists-is ∙ c.loop-frame.invariant.free
            ∙ listed-other c.args.kept.now.items c.loop-frame.frame (is_free-other _ other);
        modified = ap (λ (lists : TwoLists). lists.modified) w.lists-is ∙ c.loop-frame.invariant.modified;
        cells = ap (λ (lists : TwoLists). lists.cells) w.lists-is ∙ c.loop-frame.invariant.cells;
      }
]
