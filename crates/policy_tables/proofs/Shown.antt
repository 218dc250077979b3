-- A reply that is shown changes no entries but DONE.
use Rattle.std.proofs.Common.{◌≡◌, ℕ, List, [], ◌∷◌, Option, Some, None, map, refl, ap}
use Rattle.vm_types.specs.declared.names.Page.{Page}
use Rattle.vm_types.specs.declared.reply.Reply.{Reply}
use Rattle.vm_journal.specs.declared.entry.What.{What}
use Rattle.vm_journal.specs.declared.entry.What.TheVariants as what
use Rattle.pager_model.specs.Maps.{pfn}
use Rattle.pager_policy.specs.Given.{Target, reads_made, reuse_first, with_reply}

module _ (reply : Reply) where
  -- behind the reuse of a frame
  pub reuse_shown : (o : Option Page) (f : ℕ) (ws shows : List What) → map (with_reply reply) ws ≡ shows → map (with_reply reply) (reuse_first o f ws) ≡ reuse_first o f shows
  reuse_shown None f ws shows is = is
  reuse_shown (Some g) f ws shows is = ap (λ (rest : List What). what.Reuse (pfn f) g ∷ rest) is

  -- the reads of a cluster
  pub reads_shown : (page : ℕ → Option Page) (frames : List ℕ) (targets : List Target) → map (with_reply reply) (reads_made page frames targets) ≡ reads_made page frames targets
  reads_shown page [] targets = refl
  reads_shown page (f ∷ frames) [] = refl
  reads_shown page (f ∷ frames) (t ∷ targets) =
      reuse_shown (page f) f (what.In (pfn f) t.block t.role ∷ reads_made page frames targets) (what.In (pfn f) t.block t.role ∷ reads_made page frames targets)
      (ap (λ (rest : List What). what.In (pfn f) t.block t.role ∷ rest) (reads_shown page frames targets))
