use Rattle.std.proofs.Common.{length, ◌∙◌, ap, length-set}
use Rattle.page_lists.proofs.Following.{followed-linked, length-linked, IsLinked-items, IsLinked-prepend, KeepsOthers-prepend}
use Rattle.page_lists.proofs.links.prepend.Goals as goal

pub returns : goal.returns
returns c =
    let made = followed-linked _ _ _ _ (IsLinked-prepend _ _ _ _ c.requires.linked c.args.f c.requires.below c.requires.cells c.requires.absent _ _ c.link_past.ensures.links c.link_past.ensures.other) in
    record {
      items = rw (c.link_past.ensures.end, c.link_past.ensures.back) made;
      linked = rw (c.link_past.ensures.end, c.link_past.ensures.back) (IsLinked-items _ _ _ _ (IsLinked-prepend _ _ _ _ c.requires.linked c.args.f c.requires.below c.requires.cells c.requires.absent _ _ c.link_past.ensures.links c.link_past.ensures.other));
      others = rw (c.link_past.ensures.end, c.link_past.ensures.back, made) (KeepsOthers-prepend _ _ _ _ c.requires.linked c.args.f c.requires.below c.requires.cells c.requires.absent _ _ c.link_past.ensures.links c.link_past.ensures.other);
      count = ap length c.link_past.ensures.back ∙ length-set _ _ _;
      same_count = length-linked _ _ _ _ _ c.link_past.ensures.links;
    }
