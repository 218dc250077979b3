-- A flight is open exactly where it was begun and no landing names it; its block is one of the configuration.
use Rattle.std.proofs.Common.{ℕ, ◌+◌, not, List, [], ◌∷◌, length, nat_eq, inl, inr}
use Rattle.std.specs.List.{AllByRecursion}
use Rattle.vm_types.specs.Configuration.{IsBlock}
use Rattle.vm_types.specs.declared.names.BlockId.{BlockId}
use Rattle.vm_types.specs.declared.config.Config.{Config}
use Rattle.vm_journal.specs.declared.entry.Entry.{Entry}
use Rattle.vm_journal.specs.declared.entry.Role.{Role}
use Rattle.vm_journal.specs.declared.entry.Role.TheVariants as role
use Rattle.vm_journal.specs.declared.entry.What.{What}
use Rattle.vm_journal.specs.declared.entry.What.TheVariants as what
use Rattle.pager_model.specs.Flights.{Flight, flights_with, open_flights, without_flight}
use Rattle.pager_model.specs.In.{IsIn}
use Rattle.pager_model.specs.Out.{IsAnyOut}
use Rattle.pager_model.specs.Pager.{Pager}
use Rattle.pager_model.specs.Run.{pager_after, IsRun}
use Rattle.pager_model.specs.Step.{IsLegalWhat}
use Rattle.pager_rules.proofs.Lists.{all_filter}

in_block : (config : Config) (past : List Entry) (a : Pager) (p f : ℕ) (b : BlockId) (r : Role) → IsIn r config past a p f b → IsBlock config b
in_block config past a p f b (role.Fault q address) legal = legal.home.exists
in_block config past a p f b (role.Near g) legal = legal.lying.home.exists
in_block config past a p f b (role.Come q address) legal = legal.lying.home.exists

out_block : (config : Config) (past : List Entry) (a : Pager) (f : ℕ) (b : BlockId) → IsAnyOut config past a f b → IsBlock config b
out_block config past a f b (inl legal) = legal.home.exists
out_block config past a f b (inr legal) = legal.home.exists

abbrev OfBlocks : Config → List Flight → Type 0
OfBlocks config flights = AllByRecursion (λ (x : Flight). IsBlock config x.block) flights

landed_blocks : (config : Config) (k : ℕ) (flights : List Flight) → OfBlocks config flights → OfBlocks config (without_flight k flights)
landed_blocks config k flights old = all_filter (λ (x : Flight). IsBlock config x.block) (λ (x : Flight). not (nat_eq x.start k)) flights old

row_blocks : (config : Config) (past : List Entry) (a : Pager) (n p : ℕ) (w : What) (flights : List Flight) → IsLegalWhat config past a p w → OfBlocks config flights → OfBlocks config (flights_with n p w flights)
row_blocks config past a n p (what.In f b r) flights legal old = (in_block config past a p f.0 b r legal, old)
row_blocks config past a n p (what.Out f b) flights legal old = (out_block config past a f.0 b legal, old)
row_blocks config past a n p (what.InOk f k) flights legal old = landed_blocks config k flights old
row_blocks config past a n p (what.InFail f k c d) flights legal old = landed_blocks config k flights old
row_blocks config past a n p (what.OutOk f k) flights legal old = landed_blocks config k flights old
row_blocks config past a n p (what.OutFail f k c d) flights legal old = landed_blocks config k flights old
row_blocks config past a n p other flights legal old = old

pub flight_blocks : (config : Config) (past : List Entry) → IsRun config past → OfBlocks config (open_flights past)
flight_blocks config [] run = tt
flight_blocks config (e ∷ past) run = row_blocks config past (pager_after config past) (length past + 1) (e.seat).0 e.what (open_flights past) run.1.row (flight_blocks config past run.0)
