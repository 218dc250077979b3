-- The three sorts of seats by their words.
use Rattle.std.proofs.Common.{◌≡◌, ℕ, ◌+◌, ◌<◌, ◌≤◌, ◌⊎◌, refl, inl, inr, arith, eq-eqb, ne_eqb}
use Rattle.std.specs.Prelude.{codes}
use Rattle.std.proofs.lemmas.Bool.{cases_lt, lt-ltb, le-ltb}
use Rattle.vm_text.specs.Names.{seat_name, process_name}

pub seat_words : (procs seat : ℕ) → seat ≤ procs + 1
    → ((seat < procs) × (seat_name procs seat ≡ process_name seat))
    ⊎ (((seat ≡ procs) × (seat_name procs seat ≡ codes "MPW")) ⊎ ((seat ≡ procs + 1) × (seat_name procs seat ≡ codes "SWP")))
seat_words procs seat within =
    elim (cases_lt seat procs) [
      | inl lt ↦ inl (lt, rw (lt-ltb seat procs lt) refl)
      | inr ge ↦
          elim (cases_lt procs seat) [
            | inl gt ↦ inr (inr (omega arith, rw (le-ltb seat procs ge, ne_eqb seat procs (λ e. absurd (omega arith))) refl))
            | inr le ↦ inr (inl (omega arith, rw (le-ltb seat procs ge, eq-eqb seat procs (omega arith)) refl))
          ]
    ]
