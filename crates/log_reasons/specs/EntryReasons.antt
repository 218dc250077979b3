-- What a condition of a legal next entry that doesn't hold states. This project's own.
use Rattle.std.specs.Prelude.{◌⊎◌, ℕ, true, false, List}
use Rattle.vm_types.specs.declared.config.Config.{Config}
use Rattle.vm_journal.specs.declared.entry.Entry.{Entry}
use Rattle.vm_journal.specs.declared.entry.What.{What}
use Rattle.vm_journal.specs.declared.entry.What.TheVariants as what
use Rattle.pager_model.specs.Pager.{Pager}
use Rattle.log_reasons.specs.declared.reason.Reason.{Reason}
use Rattle.log_reasons.specs.DeniedReasons.{DeniedFails}
use Rattle.log_reasons.specs.EvictReasons.{EvictFails}
use Rattle.log_reasons.specs.LandingReasons.{BadLandingFails, LandingFails}
use Rattle.log_reasons.specs.ProcessReasons.{AdjustedFails, DoneFails, TurnFails}
use Rattle.log_reasons.specs.ReadReasons.{InFails}
use Rattle.log_reasons.specs.RowReasons.{BackFails, CollideFails, ReuseFails, ZeroFails}
use Rattle.log_reasons.specs.SeatReasons.{InTurnFails}
use Rattle.log_reasons.specs.ServedReasons.{ServedFails}
use Rattle.log_reasons.specs.WriteReasons.{OutFails}

-- of the row of its kind, for an entry of seat p
abbrev pub WhatFails : Config → List Entry → Pager → ℕ → What → Reason → Type 0
WhatFails config past a p (what.Done r answer) x = DoneFails config a p r x
WhatFails config past a p (what.Denied r why) x = DeniedFails why config past a p r x
WhatFails config past a p (what.Served s answer) x = ServedFails config past a p s answer x
WhatFails config past a p (what.Reuse f g) x = ReuseFails a f.0 g x
WhatFails config past a p (what.Zero address f) x = ZeroFails config a p address.0 f.0 x
WhatFails config past a p (what.Back q address f from) x = BackFails config a p q.0 address.0 f.0 from x
WhatFails config past a p (what.Collide address f k) x = CollideFails config past a p address.0 f.0 k x
WhatFails config past a p (what.In f b r) x = InFails r config past a p f.0 b x
WhatFails config past a p (what.InOk f k) x = LandingFails past p f.0 k true x
WhatFails config past a p (what.InFail f k c d) x = BadLandingFails past p f.0 k c d true x
WhatFails config past a p (what.Out f b) x = OutFails b config past a f.0 x
WhatFails config past a p (what.OutOk f k) x = LandingFails past p f.0 k false x
WhatFails config past a p (what.OutFail f k c d) x = BadLandingFails past p f.0 k c d false x
WhatFails config past a p (what.Evict q address f why to) x = EvictFails why config past a p q.0 address.0 f.0 to x
WhatFails config past a p (what.Limit n faults) x = AdjustedFails config a p n faults x
WhatFails config past a p (what.Turn q s) x = TurnFails config past a q.0 s x

-- an entry that has a line is in turn by the rules of seats, and is legal by the row of its kind
abbrev pub EntryFails : Config → List Entry → Pager → Entry → Reason → Type 0
EntryFails config past a e r = InTurnFails config past e r ⊎ WhatFails config past a (e.seat).0 e.what r
