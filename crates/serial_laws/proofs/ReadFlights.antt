-- Carriers that read: the first read may stand behind the reuse of its frame.
use Rattle.std.proofs.Common.{◌≡◌, ℕ, ◌+◌, true, List, [], ◌∷◌, Option, Some, None, length, refl}
use Rattle.std.specs.List.{AllByRecursion}
use Rattle.vm_types.specs.declared.names.Page.{Page}
use Rattle.vm_types.specs.declared.names.BlockId.{BlockId}
use Rattle.vm_journal.specs.declared.entry.Entry.{Entry}
use Rattle.vm_journal.specs.declared.entry.Role.{Role}
use Rattle.vm_journal.specs.declared.entry.What.{What}
use Rattle.vm_journal.specs.declared.entry.What.TheVariants as what
use Rattle.pager_model.specs.Flights.{Flight, open_flights, reading}
use Rattle.pager_policy.specs.Given.{Target, by_seat, made_by, reads_made, reuse_first}
use Rattle.pager_model.specs.Maps.{pfn}
use Rattle.serial_laws.proofs.Carriers.{BeginsWith, IsBegun, begun_first, begun_made, carries_all, is_beginning}
use Rattle.serial_laws.proofs.Known.{IsCarrying}

-- what is known of each entry of a cluster of reads
pub reads_each : (Q : What → Type 0) (R : Target → Type 0) → ((f : ℕ) (g : Page) → Q (what.Reuse (pfn f) g)) → ((f : ℕ) (t : Target) → R t → Q (what.In (pfn f) t.block t.role)) → (page : ℕ → Option Page) (frames : List ℕ) (targets : List Target) → AllByRecursion R targets
    → AllByRecursion Q (reads_made page frames targets)
reads_each Q R reuse read page [] targets each = tt
reads_each Q R reuse read page (f ∷ frames) [] each = tt
reads_each Q R reuse read page (f ∷ frames) (t ∷ targets) each = by (page f) (read f t each.0) (reads_each Q R reuse read page frames targets each.1)
  where
    by : (o : Option Page) → Q (what.In (pfn f) t.block t.role) → AllByRecursion Q (reads_made page frames targets) → AllByRecursion Q (reuse_first o f (what.In (pfn f) t.block t.role ∷ reads_made page frames targets))
    by None first rest = (first, rest)
    by (Some g) first rest = (reuse f g, (first, rest))

pub reused_each : (Q : What → Type 0) (o : Option Page) (f : ℕ) (ws : List What) → ((g : Page) → Q (what.Reuse (pfn f) g)) → AllByRecursion Q ws → AllByRecursion Q (reuse_first o f ws)
reused_each Q None f ws reuse each = each
reused_each Q (Some g) f ws reuse each = (reuse g, each)

-- the seat's reads have begun, the first one with this role from this block, and each is of a kind by the first one's
-- number
pub record IsReading (P : ℕ → Flight → Type 0) (past : List Entry) (seat : ℕ) (b : BlockId) (r : Role) : Type 0 where
  pub first : Flight
  pub begun : IsBegun (P first.start) past seat first
  pub block : first.block ≡ b
  pub role : first.direction ≡ reading r

pub begun_reads : (P : ℕ → Flight → Type 0) (past : List Entry) (seat : ℕ) (o : Option Page) (f : ℕ) (b : BlockId) (r : Role) (rest : List What) → open_flights past ≡ [] → ((x : Flight) → x.direction ≡ reading r → P x.start x) → AllByRecursion (λ (w : What). is_beginning w ≡ true) rest
    → ((k : ℕ) → AllByRecursion (BeginsWith (P k) seat) rest) → IsReading P (made_by seat (reuse_first o f (what.In (pfn f) b r ∷ rest)) past) seat b r
begun_reads P past seat o f b r rest none fits begins kinds = by o
  where
    at : (now : List Entry) → open_flights now ≡ [] → IsReading P (made_by seat (what.In (pfn f) b r ∷ rest) now) seat b r
    at now none =
        let first : Flight = record { start = length now + 1; seat = seat; frame = f; block = b; direction = reading r } in
        record { first = first; begun = begun_made (P (length now + 1)) seat first rest (by_seat seat (what.In (pfn f) b r) ∷ now) begins (kinds (length now + 1)) (begun_first (P (length now + 1)) now seat (what.In (pfn f) b r) first none refl (fits first refl)); block = refl; role = refl }

    by : (o : Option Page) → IsReading P (made_by seat (reuse_first o f (what.In (pfn f) b r ∷ rest)) past) seat b r
    by None = at past none
    by (Some g) = at (by_seat seat (what.Reuse (pfn f) g) ∷ past) none

abbrev pub carrying_reads : (P : ℕ → Flight → Type 0) (past : List Entry) (seat : ℕ) (b : BlockId) (r : Role) → IsReading P past seat b r → IsCarrying past seat
carrying_reads P past seat b r reads = record { first = reads.first; more = (reads.begun).more; carries = carries_all (P (reads.first).start) past seat reads.first reads.begun; carrier = (reads.begun).carrier }
