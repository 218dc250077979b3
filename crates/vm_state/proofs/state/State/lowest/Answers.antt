use Rattle.std.proofs.Common.{◌≡◌, ◌<◌, None, length, sym, subst, ◌∙◌, arith}
use Rattle.state_fits.specs.File.{owner_in}
use Rattle.vm_state.specs.History.{History, pager}
use Rattle.vm_state.proofs.state.State.lowest.Goals as goal

pub lowest-requires : goal.lowest-requires
lowest-requires g c =
    let less = subst (λ (s : History). length (pager s).assigned < length (pager s).charged) (sym c.self.view_is) c.requires in
    let blocks = c.self.invariant.parts.file.blocks in let charges = c.self.invariant.parts.file.charges in omega (arith, less, blocks, charges)

pub returns-clause-exists : goal.returns-clause-exists
returns-clause-exists g c =
    let there = c.lowest.ensures.free.exists in let count = c.self.invariant.parts.file.count in
    subst (λ (s : History). c.lowest.result < s.config.pagefile) c.self.view_is (omega (arith, there, count))

pub returns-clause-free : goal.returns-clause-free
returns-clause-free g c =
    subst (λ (s : History). owner_in (pager s).assigned c.lowest.result ≡ None) c.self.view_is (sym (c.self.invariant.parts.file.owners c.lowest.result) ∙ c.lowest.ensures.free.free)

pub returns-clause-least : goal.returns-clause-least
returns-clause-least g c = λ n below none. c.lowest.ensures.lowest n below (record {
  exists = let there = c.lowest.ensures.free.exists in omega (arith, there, below);
  free = c.self.invariant.parts.file.owners n ∙ subst (λ (s : History). owner_in (pager s).assigned n ≡ None) (sym c.self.view_is) none;
})
