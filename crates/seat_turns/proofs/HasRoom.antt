-- A state with room, and one that is halted for want of it.
use Rattle.std.proofs.Common.{◌≡◌, true, false, sym, ap, ◌∙◌}
use Rattle.vm_state.specs.History.{History}

-- it was halted
pub halted_here : (s : History) → s.halted ≡ true → s ≡ record s { spare = s.spare; halted = true }
halted_here s halted = λ i. record s { halted = halted i }

-- it wasn't, and nothing but its spare places has changed
pub running_here : (s t : History) → t ≡ record s { spare = t.spare } → s.halted ≡ false → t ≡ record s { spare = t.spare; halted = false }
running_here s t same running = same ∙ (λ i. record s { spare = t.spare; halted = running i })

-- it is halted now
pub halted_now : (s u t : History) → u ≡ s → t ≡ record u { halted = true } → t ≡ record s { spare = t.spare; halted = true }
halted_now s u t same halt = is ∙ (λ i. record s { spare = ap (λ (x : History). x.spare) (sym is) i; halted = true })
  where
    is : t ≡ record s { halted = true }
    is = halt ∙ ap (λ (x : History). record x { halted = true }) same
