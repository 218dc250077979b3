-- What a seat's reads for a reference become: they are begun, and land, and may be lost.
use Rattle.std.proofs.Common.{◌≡◌, ℕ, ◌+◌, ◌||◌, Bool, false, cond, List, [], ◌∷◌, Some, filter, length, nat_eq, reverse, refl, sym, ap, ◌∙◌, subst}
use Rattle.std.specs.List.{AllByRecursion}
use Rattle.vm_types.specs.declared.names.Page.{Page}
use Rattle.vm_types.specs.declared.names.BlockId.{BlockId}
use Rattle.vm_types.specs.declared.reference.Ref.{Ref}
use Rattle.vm_journal.specs.declared.entry.Entry.{Entry}
use Rattle.vm_journal.specs.declared.entry.Role.TheVariants as role
use Rattle.vm_journal.specs.declared.entry.What.{What}
use Rattle.vm_journal.specs.declared.entry.What.TheVariants as what
use Rattle.pager_model.specs.Carrier.{Carrying, carried, carrying}
use Rattle.pager_model.specs.Flights.{Flight, is_busy, open_flights, reading, carrier_of}
use Rattle.pager_policy.specs.Given.{by_seat, made_by, page_address, reuse_first}
use Rattle.pager_model.specs.Maps.{pfn, page_number, proc}
use Rattle.pager_rules.proofs.Basics.{nat_eq_refl}
use Rattle.serial_laws.proofs.Carriers.{BeginsWith, IsBegun, begun_made, carries_all, own_entry}
use Rattle.seat_laws.proofs.ReadsFor.{ReadsFirst}
use Rattle.carried_landings.proofs.Reversed.{nothing_reversed}
use Rattle.seat_laws.specs.Lost.{IsReadFor}

abbrev Any : Flight → Type 0
Any x = Unit {0}

all_any : (xs : List Flight) → AllByRecursion Any xs
all_any [] = tt
all_any (x ∷ xs) = (tt, all_any xs)

-- ---- the first flight of a seat
module _ (past : List Entry) (seat : ℕ) (idle : is_busy seat (open_flights past) ≡ false) (empty : carrier_of seat past ≡ []) where
  first_one : (b : BlockId) (r : Rattle.vm_journal.specs.declared.entry.Role.Role) (f : ℕ) → IsBegun Any (by_seat seat (what.In (pfn f) b r) ∷ past) seat (record { start = length past + 1; seat = seat; frame = f; block = b; direction = reading r })
  first_one b r f = record {
    firsts = ap (λ (c : Carrying). c.first) now_is;
    none_landed = ap (λ (c : Carrying). c.landed) now_is;
    none_failed = ap (λ (c : Carrying). c.failed) now_is;
    unspoken = ap (λ (c : Carrying). c.spoken_since) now_is;
    more = [];
    count = ap (λ (c : Carrying). c.begun) now_is;
    carrier =
        ap (λ (own : Bool). reverse (cond own (x ∷ filter (λ (y : Flight). nat_eq y.seat seat) (open_flights past)) (filter (λ (y : Flight). nat_eq y.seat seat) (open_flights past)))) (nat_eq_refl seat)
        ∙ ap (λ (xs : List Flight). reverse (x ∷ xs)) (nothing_reversed (filter (λ (y : Flight). nat_eq y.seat seat) (open_flights past)) empty);
    each = all_any (open_flights (by_seat seat (what.In (pfn f) b r) ∷ past));
    busy = ap (λ (own : Bool). own || is_busy seat (open_flights past)) (nat_eq_refl seat);
  }
    where
      x : Flight
      x = record { start = length past + 1; seat = seat; frame = f; block = b; direction = reading r }

      now_is : carrying seat (by_seat seat (what.In (pfn f) b r) ∷ past) ≡ carried false (carrying seat past) (Some x)
      now_is = own_entry seat past (what.In (pfn f) b r) ∙ ap (λ (busy : Bool). carried busy (carrying seat past) (Some x)) idle

any_begins : (seat : ℕ) (ws : List What) → AllByRecursion (BeginsWith Any seat) ws
any_begins seat [] = tt
any_begins seat (w ∷ ws) = (λ n x is. tt, any_begins seat ws)

-- ---- the reads of a reference are begun
pub reads_begun : (past : List Entry) (seat : ℕ) (r : Ref) (made : List What) → is_busy seat (open_flights past) ≡ false → carrier_of seat past ≡ [] → ReadsFirst seat r made → IsReadFor (made_by seat made past) seat r
reads_begun past seat r made idle empty reads = subst (λ (ws : List What). IsReadFor (made_by seat ws past) seat r) (sym reads.made_is) (by reads.reused)
  where
    at : (now : List Entry) → is_busy seat (open_flights now) ≡ false → carrier_of seat now ≡ [] → IsReadFor (made_by seat (what.In (pfn reads.frame) reads.block (role.Fault (proc seat) (page_address (page_number (r.addr).0))) ∷ reads.rest) now) seat r
    at now idle empty =
        let own = role.Fault (proc seat) (page_address (page_number (r.addr).0)) in
        let first : Flight = record { start = length now + 1; seat = seat; frame = reads.frame; block = reads.block; direction = reading own } in
        let begun = begun_made Any seat first reads.rest (by_seat seat (what.In (pfn reads.frame) reads.block own) ∷ now) reads.begin (any_begins seat reads.rest) (first_one now seat idle empty reads.block own reads.frame) in
        record { first = first; more = begun.more; carries = carries_all Any _ seat first begun; carrier = begun.carrier; own_page = refl }

    by : (o : Rattle.std.proofs.Common.Option Page) → IsReadFor (made_by seat (reuse_first o reads.frame (what.In (pfn reads.frame) reads.block (role.Fault (proc seat) (page_address (page_number (r.addr).0))) ∷ reads.rest)) past) seat r
    by Rattle.std.proofs.Common.None = at past idle empty
    by (Some g) = at (by_seat seat (what.Reuse (pfn reads.frame) g) ∷ past) idle empty
