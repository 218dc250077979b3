-- Entries that a seat makes one after another are legal. This project's own.
use Rattle.std.specs.Prelude.{ℕ, List, [], ◌∷◌}
use Rattle.vm_types.specs.declared.config.Config.{Config}
use Rattle.vm_types.specs.declared.reply.Reply.{Reply}
use Rattle.vm_text.specs.References.{IsReplyTo}
use Rattle.vm_journal.specs.declared.entry.Entry.{Entry}
use Rattle.vm_journal.specs.declared.entry.What.{What}
use Rattle.vm_journal.specs.declared.entry.What.TheVariants as what
use Rattle.pager_policy.specs.Given.{by_seat}
use Rattle.pager_model.specs.Run.{pager_after}
use Rattle.pager_model.specs.Step.{IsLegal}

-- the next entry is legal; an answer is with each reply of its kind, which is left open
abbrev pub IsLegalNext : Config → List Entry → ℕ → What → Type 0
IsLegalNext config past seat (what.Done r left_open) = (reply : Reply) → IsReplyTo r.op reply → IsLegal config past (pager_after config past) (by_seat seat (what.Done r reply))
IsLegalNext config past seat w = IsLegal config past (pager_after config past) (by_seat seat w)

-- each is legal after those before it
abbrev pub AreLegal : Config → List Entry → ℕ → List What → Type 0
AreLegal config past seat [] = Unit {0}
AreLegal config past seat (w ∷ ws) = IsLegalNext config past seat w × AreLegal config (by_seat seat w ∷ past) seat ws
