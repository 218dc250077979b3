-- What the rules of seats say of an entry.
use Rattle.std.proofs.Common.{◌≡◌, ◌+◌, Bool, true, false, List, Some, length, refl, sym, ◌∙◌}
use Rattle.std.proofs.lemmas.Bool.{false≢true}
use Rattle.vm_types.specs.declared.config.Config.{Config}
use Rattle.vm_journal.specs.declared.entry.Entry.{Entry}
use Rattle.pager_model.specs.Around.{past_view, quiet}
use Rattle.pager_model.specs.Flights.{Flight, awaits_reuse, begun_by, failed_flight, is_busy, open_flights}
use Rattle.pager_model.specs.InTurn.{InTurn, is_flight_work, is_reuse_of}
use Rattle.pager_model.specs.Lookups.{is}
use Rattle.pager_model.specs.Pager.{Pager}
use Rattle.pager_model.specs.Transfers.{is_fault}
use Rattle.pager_rules.proofs.Quiet.{kept_quiet}
use Rattle.pager_rules.specs.Kept.{IsKept}

-- but for a reuse, no reuse is due
pub no_reuse : (config : Config) (past : List Entry) (e : Entry) → InTurn config past e → is_reuse_of e.what (e.seat).0 (failed_flight past) ≡ false → awaits_reuse past ≡ false
no_reuse config past e turn other = go (awaits_reuse past) refl
  where
    go : (c : Bool) → awaits_reuse past ≡ c → awaits_reuse past ≡ false
    go false is = is
    go true is = absurd (false≢true (sym other ∙ turn.reuse is))

pub calm : (config : Config) (past : List Entry) (a : Pager) (e : Entry) → InTurn config past e → is_reuse_of e.what (e.seat).0 (failed_flight past) ≡ false → IsKept config (past_view past) a → IsKept config (quiet (open_flights past)) a
calm config past a e turn other kept = kept_quiet config past a (no_reuse config past e turn other) kept

-- but for flight work, the seat has no flight
pub idle : (config : Config) (past : List Entry) (e : Entry) → InTurn config past e → is_flight_work e.what ≡ false → is_busy (e.seat).0 (open_flights past) ≡ false
idle config past e turn other = go (is_busy (e.seat).0 (open_flights past)) refl
  where
    go : (c : Bool) → is_busy (e.seat).0 (open_flights past) ≡ c → is_busy (e.seat).0 (open_flights past) ≡ false
    go false is = is
    go true is = absurd (false≢true (sym other ∙ turn.work is))

-- a FAULT read is its carrier's first flight
pub alone : (config : Config) (past : List Entry) (e : Entry) (x : Flight) → InTurn config past e → begun_by (length past + 1) (e.seat).0 e.what ≡ Some x → is_fault x.direction ≡ true → is_busy (e.seat).0 (open_flights past) ≡ false
alone config past e x turn begins fault = go (is_busy (e.seat).0 (open_flights past)) refl
  where
    go : (c : Bool) → is_busy (e.seat).0 (open_flights past) ≡ c → is_busy (e.seat).0 (open_flights past) ≡ false
    go false is = is
    go true is = absurd (false≢true (sym (turn.carrier x begins is).not_fault ∙ fault))
