-- An entry by the row of its kind.
use Rattle.std.proofs.Common.{◌↔◌, inr, List, Option, Some, None, length}
use Rattle.std.specs.Prelude.{IfSome}
use Rattle.vm_types.specs.declared.config.Config.{Config}
use Rattle.vm_journal.specs.HasLine.{HasLine}
use Rattle.vm_journal.specs.declared.entry.Entry.{Entry}
use Rattle.pager_model.specs.InTurn.{InTurn}
use Rattle.pager_model.specs.Pager.{Pager}
use Rattle.pager_model.specs.Step.{IsLegal, IsLegalWhat}
use Rattle.log_reasons.specs.EntryReasons.{EntryFails, WhatFails}
use Rattle.log_reasons.specs.declared.reason.Reason.{Reason}

module _ (config : Config) (past : List Entry) (a : Pager) (e : Entry) where
  -- the entry has a line and is in turn
  pub entry_legal : (T : Type 0) → HasLine (length config.procs) config.sections e → InTurn config past e → (T ↔ IsLegalWhat config past a (e.seat).0 e.what) → (T ↔ IsLegal config past a e)
  entry_legal T line turn both = (λ t. record { in_turn = turn; line = line; row = both.0 t }, λ legal. both.1 legal.row)

  pub entry_fails : (o : Option Reason) → IfSome o (WhatFails config past a (e.seat).0 e.what) → IfSome o (EntryFails config past a e)
  entry_fails None says = tt
  entry_fails (Some reason) says = inr says
