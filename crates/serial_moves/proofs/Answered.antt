-- What the answer of a reference leaves: right values stay right.
use Rattle.std.proofs.Common.{◌≡◌, ℕ, List, [], ◌∷◌, Some, map, refl, sym, ap, ◌∙◌}
use Rattle.vm_types.specs.declared.config.Config.{Config}
use Rattle.vm_types.specs.declared.reference.Ref.{Ref}
use Rattle.vm_types.specs.declared.reply.Reply.{Reply}
use Rattle.vm_journal.specs.declared.entry.Entry.{Entry}
use Rattle.vm_journal.specs.declared.entry.What.{What}
use Rattle.vm_journal.specs.declared.entry.What.TheVariants as what
use Rattle.pager_model.specs.Flat.{flat_reply}
use Rattle.pager_policy.specs.Given.{by_seat, made_by, with_reply}
use Rattle.pager_model.specs.Spoken.{IsRight, flat_after}
use Rattle.fault_core.specs.Gives.{last_reply}
use Rattle.carried_landings.proofs.Shapes.{EndsIn}

module _ (config : Config) (p : ℕ) (r : Ref) (shown : Reply) where
  -- the reply that is shown is the flat machine's
  abbrev pub IsFlatShown : List Entry → List What → Type 0
  IsFlatShown past ws = (reply : Reply) → last_reply (map (with_reply shown) ws) ≡ Some reply → reply ≡ flat_reply config (flat_after config past) p r

  pub ends_right : (ws : List What) (past : List Entry) → EndsIn r ws → IsFlatShown past ws → IsRight config past → IsRight config (made_by p (map (with_reply shown) ws) past)
  ends_right [] past ends flat right = absurd ends
  ends_right (what.Done q open_reply ∷ []) past ends flat right = (right, flat shown refl ∙ ap (λ (x : Ref). flat_reply config (flat_after config past) p x) (sym ends))
  ends_right (what.Done q open_reply ∷ v ∷ ws) past ends flat right = absurd ends.0
  ends_right (what.Denied q why ∷ []) past ends flat right = (right, tt)
  ends_right (what.Denied q why ∷ v ∷ ws) past ends flat right = absurd ends.0
  ends_right (what.Served s answer ∷ ws) past ends flat right = absurd ends.0
  ends_right (other ∷ []) past ends flat right = absurd ends.1
  ends_right (other ∷ v ∷ ws) past ends flat right = ends_right (v ∷ ws) (by_seat p other ∷ past) ends.1 flat (right, tt)
