use Rattle.page_file.proofs.Changes.{release_changes}
use Rattle.page_file.proofs.file.PageFile.release.Goals as goal

pub invariant_of-self : goal.invariant_of-self
invariant_of-self c =
    let after = release_changes c.self.inside.assignments c.self.inside.charges c.self.inside.blocks c.self.inside.hint c.self.inside.owners.items c.args.self.now c.self.view_is (record { counted = c.self.invariant.0; are = c.self.invariant.1; below = c.self.invariant.5 }) c.self.invariant.2 c.self.invariant.4 c.args.block c.min-self-inside.result c.min-self-inside.ensures c.requires in
    (after.kept.counted, after.kept.are, after.few, c.self.invariant.3, after.within, after.kept.below)

pub returns-clause-value : goal.returns-clause-value
returns-clause-value c = (release_changes c.self.inside.assignments c.self.inside.charges c.self.inside.blocks c.self.inside.hint c.self.inside.owners.items c.args.self.now c.self.view_is (record { counted = c.self.invariant.0; are = c.self.invariant.1; below = c.self.invariant.5 }) c.self.invariant.2 c.self.invariant.4 c.args.block c.min-self-inside.result c.min-self-inside.ensures c.requires).view
