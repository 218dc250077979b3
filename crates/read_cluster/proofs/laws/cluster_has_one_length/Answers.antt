use Rattle.std.proofs.Common.{arith}
use Rattle.read_cluster.proofs.laws.cluster_has_one_length.Goals as goal

pub returns : goal.returns
returns c = λ out pfc free j k first second. omega (arith, second.greatest j first.is, first.greatest k second.is)
