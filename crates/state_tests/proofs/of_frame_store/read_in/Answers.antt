use Rattle.std.proofs.Common.{◌≡◌, Some, None, slice_get, sym, ap, ◌∙◌, subst}
use Rattle.vm_types.specs.declared.names.BlockId.{BlockId}
use Rattle.disk_trait.specs.declared.memory_block.MemoryBlock.{MemoryBlock}
use Rattle.frame_store.specs.Blocks.{number_in}
use Rattle.frame_store.specs.LiftView.{LiftView}
use Rattle.frame_store.specs.StoreView.{StoreView}
use Rattle.frame_store.proofs.StoreKept.{emptied}
use Rattle.state_tests.proofs.of_frame_store.read_in.Goals as goal

pub land-requires-clause-block : goal.land-requires-clause-block
land-requires-clause-block c _ =
    let same : c.carry.new.self.block ≡ c.args.id = ap (λ (l : LiftView MemoryBlock). l.block) c.carry.ensures.same ∙ ap (λ (l : LiftView MemoryBlock). l.block) c.lift_in-lift.ensures.lift in
    subst (λ (b : BlockId). slice_get c.lift_in-lift.new.self.blocks (number_in c.lift_in-lift.new.self.ids b) ≡ Some None) (sym same)
    (subst (λ (s : StoreView MemoryBlock). slice_get s.blocks (number_in s.ids c.args.id) ≡ Some None) (sym c.lift_in-lift.ensures.store)
    (emptied c.args.store.now.blocks (number_in c.args.store.now.ids c.args.id) c.requires.home))
