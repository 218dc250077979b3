use Rattle.std.proofs.Common.{rules, ◌≡◌, ◌↔◌, Contains, IsErr, List, ℕ, subst}
use Rattle.disk_trait.proofs.body.Body.read.Goals as goal

pub returns-in-Planned-clause-fails : goal.returns-in-Planned-clause-fails
returns-in-Planned-clause-fails c =
    let same : c.deref_mut.result.now.calls.items ≡ c.args.self.now.calls = search rules in
    subst (λ (calls : List ℕ). IsErr c.read.result ↔ Contains calls c.args.call) same c.read.ensures.fails
