-- Equal parts make equal states and places after a write.
use Rattle.std.proofs.Common.{◌≡◌, Bool, Option, if◌then◌else◌}
use Rattle.vm_types.specs.declared.names.Page.{Page}
use Rattle.vm_types.specs.declared.names.FrameState.{FrameState}
use Rattle.vm_types.specs.declared.names.BlockId.{BlockId}
use Rattle.pager_model.specs.Changes.{settled_to}
use Rattle.pager_model.specs.OutLanding.{lies_at}

pub landed_same : (b c m n : Bool) (s t : FrameState) → b ≡ c → m ≡ n → s ≡ t → (if b then settled_to m else s) ≡ (if c then settled_to n else t)
landed_same b c m n s t shared modify state = λ i. if shared i then settled_to (modify i) else state i

pub lies_same : (lies : Page → Option BlockId) (m n : Bool) (o q : Option Page) (b c : BlockId) → m ≡ n → o ≡ q → b ≡ c → lies_at lies m o b ≡ lies_at lies n q c
lies_same lies m n o q b c modify page block = λ i. lies_at lies (modify i) (page i) (block i)
