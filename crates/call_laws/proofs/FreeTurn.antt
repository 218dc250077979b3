-- A seat without an open flight may make any entry, unless a reuse is due.
use Rattle.std.proofs.Common.{◌≡◌, ℕ, ◌*◌, ◌<◌, ◌^◌, ◌%◌, Bool, true, false, List, arith}
use Rattle.vm_types.specs.declared.limits.TheConstants.{PAGE_BYTES}
use Rattle.vm_types.specs.declared.config.Config.{Config}
use Rattle.vm_journal.specs.declared.entry.Entry.{Entry}
use Rattle.vm_journal.specs.declared.entry.What.{What}
use Rattle.vm_text.specs.Named.{IsPageStart}
use Rattle.call_laws.specs.Ready.{IsFree}
use Rattle.pager_model.specs.Flights.{awaits_reuse, is_busy, open_flights}
use Rattle.pager_policy.specs.Given.{by_seat, page_address}
use Rattle.pager_model.specs.InTurn.{InTurn}
use Rattle.pager_model.specs.Maps.{page_number}

pub not_both : {X : Type 0} (b : Bool) → b ≡ true → b ≡ false → X
not_both b is is_not = absurd (cc)

pub free_turn : (config : Config) (past : List Entry) (seat : ℕ) (w : What) → IsFree past seat → InTurn config past (by_seat seat w)
free_turn config past seat w free = record {
  reuse = λ due. not_both (awaits_reuse past) due free.calm;
  work = λ busy. not_both (is_busy seat (open_flights past)) busy free.idle;
  carrier = λ x begun busy. not_both (is_busy seat (open_flights past)) busy free.idle;
}

-- the first address of the page of an address of 32 bits
pub page_starts : (v : ℕ) → v < 2 ^ 23 → IsPageStart (page_address v).0
page_starts v small = record { aligned = mod_512 v; small = omega (arith, small) }
  where
    mod_512 : (v : ℕ) → (PAGE_BYTES * v) % PAGE_BYTES ≡ 0
    mod_512 v = omega arith

pub small_page : (address : ℕ) → address < 2 ^ 32 → page_number address < 2 ^ 23
small_page address small = omega (arith, small)

-- a page's number is that of its first address
pub same_number : (v : ℕ) → page_number (page_address v).0 ≡ v
same_number v = omega arith
