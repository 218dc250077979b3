-- What follows from the outcome of a call, if no text goes with status 4.
use Rattle.std.proofs.Common.{◌≡◌, ◌≢◌, ℕ, List, sym, ◌∙◌, subst, inl, inr}
use Rattle.std.specs.Prelude.{◌⊎◌}
use Rattle.vm_types.specs.Counts.{Rose}
use Rattle.outside_io.specs.Views.{SinkView}
use Rattle.command_ends.specs.Concludes.{Concludes, HasTold, WasCut}

module _ {tells : ℕ → List ℕ → Type 0} {before after : SinkView} {result : ℕ} (c : Concludes tells before after result) where
  pub has_told : result ≢ 4 → HasTold tells before after result
  has_told no_four =
      elim c.ends.how [
        | inl whole ↦ (c.text, subst (λ status. tells status c.text) (sym whole.0) c.tells_it, whole.1)
        | inr cut ↦ absurd (no_four cut.0)
      ]

  pub was_cut : ((status : ℕ) (text : List ℕ) → tells status text → status ≢ 4) → result ≡ 4 → WasCut tells before after
  was_cut not_four four =
      elim c.ends.how [
        | inl whole ↦ absurd (not_four c.status c.text c.tells_it (sym whole.0 ∙ four))
        | inr cut ↦ (c.status, (c.text, (cut.1.0, c.tells_it, cut.1.1, cut.1.2)))
      ]

  pub faulty_write : ((status : ℕ) (text : List ℕ) → tells status text → status ≢ 4) → result ≡ 4 → Rose before.failures after.failures ⊎ Rose before.stalls after.stalls
  faulty_write not_four four =
      elim c.ends.how [
        | inl whole ↦ absurd (not_four c.status c.text c.tells_it (sym whole.0 ∙ four))
        | inr cut ↦ cut.2
      ]

  pub no_failed_write : result ≢ 4 → (after.failures ≡ before.failures) × (after.stalls ≡ before.stalls)
  no_failed_write no_four =
      elim c.ends.how [
        | inl whole ↦ (whole.2, whole.3)
        | inr cut ↦ absurd (no_four cut.0)
      ]

  -- the status that goes with what is told, or 4
  pub its_status : (result ≡ c.status) ⊎ (result ≡ 4)
  its_status = elim c.ends.how [ inl whole ↦ inl whole.0 | inr cut ↦ inr cut.0 ]

  -- without a failure and a stall it is the status that goes with what is told
  pub unfailed_status : (Rose before.failures after.failures → ⊥) → (Rose before.stalls after.stalls → ⊥) → result ≡ c.status
  unfailed_status written kept =
      elim c.ends.how [
        | inl whole ↦ whole.0
        | inr cut ↦ absurd (elim cut.2 [ inl failed ↦ written failed | inr stalled ↦ kept stalled ])
      ]
