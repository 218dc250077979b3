use Rattle.frame_store.proofs.AllBack.{all_of_pool}
use Rattle.frame_store.proofs.store.Store.drop.Goals as goal

pub put_all_back-requires : goal.put_all_back-requires
put_all_back-requires g c = all_of_pool c.self.inside.pool.name c.self.inside.buffers.items c.self.invariant.buffers
