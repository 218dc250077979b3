-- The reads of a fault's cluster are of no swap block.
use Rattle.std.proofs.Common.{◌≡◌, ◌⊎◌, inl, inr, ℕ, ◌+◌, Bool, true, false, cond, List, [], ◌∷◌, Some, length, nat_eq, refl, sym, ap, ◌∙◌, subst}
use Rattle.std.specs.List.{AllByRecursion}
use Rattle.std.proofs.lemmas.Bool.{false≢true}
use Rattle.std.proofs.lemmas.Option.{none-some, same_Some}
use Rattle.vm_types.specs.Configuration.{IsWellFormed}
use Rattle.vm_types.specs.declared.config.Config.{Config}
use Rattle.vm_types.specs.declared.names.BlockId.{BlockId}
use Rattle.vm_types.specs.declared.names.BlockId.TheVariants as block
use Rattle.vm_types.specs.declared.names.Pfn.{Pfn}
use Rattle.vm_journal.specs.declared.entry.Entry.{Entry}
use Rattle.vm_journal.specs.declared.entry.Role.{Role}
use Rattle.vm_journal.specs.declared.entry.Role.TheVariants as role
use Rattle.vm_journal.specs.declared.entry.What.{What}
use Rattle.vm_journal.specs.declared.entry.What.TheVariants as what
use Rattle.pager_model.specs.Around.{past_view}
use Rattle.pager_model.specs.Carrier.{carried, carrying, carrying_with}
use Rattle.pager_model.specs.Flights.{Flight, flights_with, is_busy, open_flights, reading, writing}
use Rattle.pager_model.specs.In.{IsFirstIn, IsIn, IsInFault, is_fault_or_near}
use Rattle.pager_model.specs.InTurn.{InTurn}
use Rattle.vm_types.specs.BlockOrder.{is_next_block}
use Rattle.pager_model.specs.Maps.{page_number}
use Rattle.pager_model.specs.Run.{IsRun, pager_after}
use Rattle.pager_model.specs.Step.{IsLegalWhat}
use Rattle.pager_rules.proofs.Lists.{all_filter}
use Rattle.pager_rules.proofs.Pages.{own_process, section_is}
use Rattle.pager_rules.specs.Kept.{IsKept}
use Rattle.pager_laws.proofs.RunsAreSound.{run_kept}
use Rattle.pager_model.specs.Changes.{is_section_block}

abbrev pub is_swap_block : BlockId → Bool
is_swap_block (block.Swap p n) = true
is_swap_block other = false

abbrev pub IsPagingRead : Flight → Type 0
IsPagingRead x = is_fault_or_near x.direction ≡ true → is_swap_block x.block ≡ false

-- of the open flights, and of each seat's last one
record HasPagingReads (past : List Entry) : Type 0 where
  pub flights : AllByRecursion IsPagingRead (open_flights past)
  pub lasts : (s : ℕ) (x : Flight) → (carrying s past).last ≡ Some x → IsPagingRead x

next_paging : (b c : BlockId) → is_swap_block b ≡ false → is_next_block b c ≡ true → is_swap_block c ≡ false
next_paging (block.Section s i) (block.Section t j) paging next = refl
next_paging (block.Section s i) (block.PageFile n) paging next = refl
next_paging (block.Section s i) (block.Swap p n) paging next = absurd (false≢true next)
next_paging (block.PageFile m) (block.PageFile n) paging next = refl
next_paging (block.PageFile m) (block.Section s i) paging next = refl
next_paging (block.PageFile m) (block.Swap p n) paging next = absurd (false≢true next)
next_paging (block.Swap p m) c paging next = absurd (false≢true (sym paging))

not_swap_section : (b : BlockId) → is_section_block b ≡ true → is_swap_block b ≡ false
not_swap_section (block.Section s i) is = refl
not_swap_section (block.PageFile n) is = refl
not_swap_section (block.Swap p n) is = absurd (false≢true is)

module _ (config : Config) (past : List Entry) (formed : IsWellFormed config) (run : IsRun config past) where
  -- the block of a fault: the process is resident, so its pages lie in no swap block
  fault_block : (p f q address : ℕ) (b : BlockId) → IsInFault config past (pager_after config past) p f b q address → is_swap_block b ≡ false
  fault_block p f q address b legal = by legal.from
    where
      kept : IsKept config (past_view past) (pager_after config past)
      kept = run_kept config past formed run

      lying : (c : BlockId) → (pager_after config past).lies legal.page ≡ Some c → is_swap_block c ≡ false
      lying (block.Section s i) lies = refl
      lying (block.PageFile n) lies = refl
      lying (block.Swap r n) lies =
          let swapped = kept.swapped legal.page r.0 n lies in
          let owner = own_process config (pager_after config past).map p (page_number address) r.0 legal.page legal.mapped swapped.own in
          absurd (swapped.away (ap (pager_after config past).status (sym owner) ∙ legal.own.resident))

      by : ((pager_after config past).lies legal.page ≡ Some b) ⊎ IsFirstIn config (pager_after config past) p (page_number address) b legal.page → is_swap_block b ≡ false
      by (inl lies) = lying b lies
      by (inr first) = not_swap_section b (section_is ((pager_after config past).map p (page_number address)) b first.behind)

  module _ (old : HasPagingReads past) (seat : ℕ) where
    began : (f : Pfn) (b : BlockId) (r : Role) → InTurn config past (record { seat = record { 0 = seat }; what = what.In f b r }) → IsIn r config past (pager_after config past) seat f.0 b
        → (is_fault_or_near (reading r) ≡ true → is_swap_block b ≡ false)
    began f b (role.Fault q address) turn legal is = fault_block seat f.0 q.0 address.0 b legal
    began f b (role.Near g) turn legal is =
        let joins = turn.carrier (record { start = length past + 1; seat = seat; frame = f.0; block = b; direction = reading (role.Near g) }) refl legal.busy in
        let same : joins.last ≡ legal.last = same_Some joins.last legal.last (sym joins.lasts ∙ legal.lasts) in
        next_paging joins.last.block b (old.lasts seat joins.last joins.lasts (ap (λ (x : Flight). is_fault_or_near x.direction) same ∙ legal.role)) joins.next_block
    began f b (role.Come q address) turn legal is = absurd (false≢true is)

    -- ---- the seat's last flight
    more : (w : What) → InTurn config past (record { seat = record { 0 = seat }; what = w }) → IsLegalWhat config past (pager_after config past) seat w → HasPagingReads (record { seat = record { 0 = seat }; what = w } ∷ past)
    more w turn legal = record { flights = flights w turn legal; lasts = λ s x is. lasts w turn legal s x (nat_eq seat s) refl is }
      where
        flights : (w : What) → InTurn config past (record { seat = record { 0 = seat }; what = w }) → IsLegalWhat config past (pager_after config past) seat w → AllByRecursion IsPagingRead (flights_with (length past + 1) seat w (open_flights past))
        flights (what.In f b r) turn legal = (began f b r turn legal, old.flights)
        flights (what.Out f b) turn legal = ((λ is. absurd (false≢true is)), old.flights)
        flights (what.InOk f k) turn legal = all_filter IsPagingRead _ (open_flights past) old.flights
        flights (what.InFail f k c d) turn legal = all_filter IsPagingRead _ (open_flights past) old.flights
        flights (what.OutOk f k) turn legal = all_filter IsPagingRead _ (open_flights past) old.flights
        flights (what.OutFail f k c d) turn legal = all_filter IsPagingRead _ (open_flights past) old.flights
        flights other turn legal = old.flights

        carries : (s : ℕ) (x y : Flight) (busy : Bool) → (is_fault_or_near y.direction ≡ true → is_swap_block y.block ≡ false) → (carried busy (carrying s past) (Some y)).last ≡ Some x → IsPagingRead x
        carries s x y true paging is = subst IsPagingRead (same_Some y x is) paging
        carries s x y false paging is = subst IsPagingRead (same_Some y x is) paging

        lasts : (w : What) → InTurn config past (record { seat = record { 0 = seat }; what = w }) → IsLegalWhat config past (pager_after config past) seat w → (s : ℕ) (x : Flight) (own : Bool) → nat_eq seat s ≡ own
            → (cond (nat_eq seat s) (carrying_with (length past + 1) s (is_busy s (open_flights past)) w (carrying s past)) (carrying s past)).last ≡ Some x → IsPagingRead x
        lasts w turn legal s x false apart is = old.lasts s x (sym (ap (λ (b : Bool). (cond b (carrying_with (length past + 1) s (is_busy s (open_flights past)) w (carrying s past)) (carrying s past)).last) apart) ∙ is)
        lasts w turn legal s x true same is = by w turn legal (sym (ap (λ (b : Bool). (cond b (carrying_with (length past + 1) s (is_busy s (open_flights past)) w (carrying s past)) (carrying s past)).last) same) ∙ is)
          where
            by : (w : What) → InTurn config past (record { seat = record { 0 = seat }; what = w }) → IsLegalWhat config past (pager_after config past) seat w → (carrying_with (length past + 1) s (is_busy s (open_flights past)) w (carrying s past)).last ≡ Some x → IsPagingRead x
            by (what.In f b r) turn legal is = carries s x (record { start = length past + 1; seat = s; frame = f.0; block = b; direction = reading r }) (is_busy s (open_flights past)) (began f b r turn legal) is
            by (what.Out f b) turn legal is = carries s x (record { start = length past + 1; seat = s; frame = f.0; block = b; direction = writing }) (is_busy s (open_flights past)) (λ no_read. absurd (false≢true no_read)) is
            by (what.InOk f k) turn legal is = old.lasts s x is
            by (what.OutOk f k) turn legal is = old.lasts s x is
            by (what.InFail f k c d) turn legal is = old.lasts s x is
            by (what.OutFail f k c d) turn legal is = old.lasts s x is
            by (what.Done r reply) turn legal is = old.lasts s x is
            by (what.Denied r reason) turn legal is = old.lasts s x is
            by (what.Served t reply) turn legal is = old.lasts s x is
            by other turn legal is = old.lasts s x is

paging_reads : (config : Config) (past : List Entry) → IsWellFormed config → IsRun config past → HasPagingReads past
paging_reads config [] formed run = record { flights = tt; lasts = λ s x is. absurd (none-some x is) }
paging_reads config (e ∷ past) formed run = more config past formed run.0 (paging_reads config past formed run.0) (e.seat).0 e.what run.1.in_turn run.1.row

-- an open read of a fault's cluster is of no swap block
pub reads_page : (config : Config) (past : List Entry) → IsWellFormed config → IsRun config past → AllByRecursion IsPagingRead (open_flights past)
reads_page config past formed run = (paging_reads config past formed run).flights
