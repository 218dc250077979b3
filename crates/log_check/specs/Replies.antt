-- Entries beside the flat machine. This project's own.
use Rattle.std.specs.Prelude.{◌≡◌, ℕ, Bool, true, false, ◌<◌, length}
use Rattle.vm_types.specs.WellFormed.{IsWellFormedReference, IsWellFormedService}
use Rattle.vm_types.specs.declared.config.Config.{Config}
use Rattle.vm_types.specs.declared.reference.Ref.{Ref}
use Rattle.vm_types.specs.declared.reply.Reply.{Reply}
use Rattle.vm_journal.specs.declared.entry.What.{What}
use Rattle.vm_journal.specs.declared.entry.What.TheVariants as what
use Rattle.pager_model.specs.Flat.{FlatState, flat_reply}
use Rattle.pager_model.specs.Spoken.{ShowsReply, flat_entry}
use Rattle.pager_model.specs.Pager.{Pager}
use Rattle.shadow_flat.specs.Kept.{IsBeside, KeepsFlat, kept}
use Rattle.shadow_flat.specs.declared.page_bytes.PageBytes.{PageBytes}

-- its reference or its service is well formed
abbrev pub CanAnswer : What → Type 0
CanAnswer (what.Done r reply) = IsWellFormedReference r
CanAnswer (what.Served s answer) = IsWellFormedService s
CanAnswer other = Unit {0}

-- a service is of one of the configuration's processes
abbrev pub IsOfProcess : Config → ℕ → What → Type 0
IsOfProcess config p (what.Served s answer) = p < length config.procs
IsOfProcess config p other = Unit {0}

-- of whichever state the bytes are, whose maps and touched pages the pager has: the entry shows the flat reply, and
-- the bytes are those of the state after it; or it doesn't show that
abbrev pub ShowsAsFlat : Config → Pager → PageBytes → PageBytes → ℕ → What → Bool → Type 0
ShowsAsFlat config a old new p w true =
    (state : FlatState) → KeepsFlat config state (kept old) → IsBeside a state → IsOfProcess config p w → ShowsReply config state p w × KeepsFlat config (flat_entry config state p w) (kept new)
ShowsAsFlat config a old new p w false = (state : FlatState) → KeepsFlat config state (kept old) → IsBeside a state → ShowsReply config state p w → ⊥

-- an answered reference shows another reply than this one, the flat machine's
abbrev pub IsRightReply : Config → Pager → PageBytes → ℕ → What → Reply → Type 0
IsRightReply config a old p w right =
    (state : FlatState) → KeepsFlat config state (kept old) → IsBeside a state → (r : Ref) × (shown : Reply) × (w ≡ what.Done r shown) × (right ≡ flat_reply config state p r) × (shown ≡ right → ⊥)
