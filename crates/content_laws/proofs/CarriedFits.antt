-- A lift fits after its block's call.
use Rattle.std.proofs.Common.{◌≡◌, ℕ, ◌+◌, ◌<◌, Bool, true, false, List, Some, sym, ap, ◌∙◌, subst, refl, arith, ◌≤◌, cond, [], ◌∷◌, length, not}
use Rattle.std.proofs.lemmas.Bool.{true≢false}
use Rattle.std.proofs.lemmas.Option.{same_Some}
use Rattle.vm_types.specs.BlockView.{BlockView}
use Rattle.vm_types.specs.declared.config.Config.{Config}
use Rattle.vm_journal.specs.declared.entry.Entry.{Entry}
use Rattle.vm_journal.specs.declared.entry.What.TheVariants as what
use Rattle.vm_journal.specs.declared.entry.What.{What}
use Rattle.vm_types.specs.Same.{same_block}
use Rattle.content_laws.specs.Carried.{IsCalled, IsCarriedBadly, IsCarriedWell, carried_as}
use Rattle.pager_model.specs.Counted.{IsCounted, counts_of, last_count, reads_of, with_read, with_write, writes_of}
use Rattle.pager_model.specs.Fits.{FitsLift, FitsResult, FitsView, Lift, bad, flight_view, good, meant, waiting, one_left}
use Rattle.pager_model.specs.Flights.{Flight}
use Rattle.pager_model.specs.Pager.{Pager}
use Rattle.pager_model.specs.CountedBlock.{HasCounts, told_plan}
use Rattle.vm_types.specs.declared.names.BlockId.{BlockId}

module _ (tells tells_plan : Bool) (config : Config) (past : List Entry) (a : Pager) (lift : Lift) (fits : FitsLift tells tells_plan config past a lift) (waits : lift.result ≡ waiting) (bytes : List ℕ) (seen : BlockView) where
  abbrev x : Flight
  x = fits.0

  abbrev view : FitsView tells (told_plan config tells_plan lift.block) x (flight_view config past a x lift.page) lift
  view = fits.1

  abbrev moved : List ℕ
  moved = meant config past x.start lift.page x.direction

  before_call : FitsResult tells lift (counts_of x.block past) moved waiting
  before_call = subst (FitsResult tells lift (counts_of x.block past) moved) waits view.result

  counted : IsCalled lift.is_read lift.seen seen → HasCounts seen (counts_of x.block past) 0 0
  counted called = record { reads = omega (arith, called.reads, before_call.0.reads); writes = omega (arith, called.writes, before_call.0.writes) }

  pub carried_well : IsCarriedWell tells lift bytes seen → FitsLift tells tells_plan config past a (carried_as lift bytes seen good)
  carried_well carried = (
    x,
    record {
      flight = record { start = view.flight.start; frame = view.flight.frame; block = view.flight.block; direction = view.flight.direction };
      found_x = view.found_x;
      held_page = view.held_page;
      content = λ says reads. let found = carried.read says reads in found.1 ∙ (sym found.0 ∙ view.content says reads);
      buffer = λ says writes. (carried.written says writes).0 ∙ view.buffer says writes;
      plan_is = carried.called.plan ∙ view.plan_is;
      result = (
        counted carried.called,
        carried.faults ∙ before_call.1,
        λ says reads. same_Some _ _ (sym (carried.read says reads).0 ∙ view.content says reads),
        λ says writes. (carried.written says writes).1,
      );
    },
  )

  pub carried_badly : IsCarriedBadly tells lift bytes seen → FitsLift tells tells_plan config past a (carried_as lift bytes seen (bad (lift.seen).faults seen.faults))
  carried_badly carried = (
    x,
    record {
      flight = record { start = view.flight.start; frame = view.flight.frame; block = view.flight.block; direction = view.flight.direction };
      found_x = view.found_x;
      held_page = view.held_page;
      content = λ says reads. carried.read says reads ∙ view.content says reads;
      buffer = λ says writes. carried.written says writes ∙ view.buffer says writes;
      plan_is = carried.called.plan ∙ view.plan_is;
      result = (counted carried.called, before_call.1, refl, carried.faults);
    },
  )

-- ---- how often a block was called
one_call : (b : BlockId) (w : What) (n m : ℕ) → with_read b w n + with_write b w m ≤ n + m + 1
one_call b (what.In f c r) n m = go (same_block c b)
  where
    go : (s : Bool) → cond s (n + 1) n + m ≤ n + m + 1
    go true = omega arith
    go false = omega arith
one_call b (what.Out f c) n m = go (same_block c b)
  where
    go : (s : Bool) → n + cond s (m + 1) m ≤ n + m + 1
    go true = omega arith
    go false = omega arith
one_call b other n m = omega arith

calls_within : (b : BlockId) (past : List Entry) → reads_of b past + writes_of b past ≤ length past
calls_within b [] = omega arith
calls_within b (e ∷ past) = omega (arith, one_call b e.what (reads_of b past) (writes_of b past), calls_within b past)

-- the block of a lift that waits was called less often than the journal has entries
pub few_calls : (tells tells_plan : Bool) (config : Config) (past : List Entry) (a : Pager) (lift : Lift) → FitsLift tells tells_plan config past a lift → lift.result ≡ waiting → (lift.seen).reads + (lift.seen).writes < length past
few_calls tells tells_plan config past a lift fits waits = by lift.is_read (subst (FitsResult tells lift (counts_of x.block past) (meant config past x.start lift.page x.direction)) waits (fits.1).result).0
  where
    x : Flight
    x = fits.0

    by : (is_read : Bool) → HasCounts lift.seen (counts_of x.block past) (one_left is_read) (one_left (not is_read)) → (lift.seen).reads + (lift.seen).writes < length past
    by true counts = omega (arith, counts.reads, counts.writes, calls_within x.block past)
    by false counts = omega (arith, counts.reads, counts.writes, calls_within x.block past)

-- a lift that was carried badly shows the block's last count of failures, and a greater one
pub bad_is_counted : (tells tells_plan : Bool) (config : Config) (past : List Entry) (a : Pager) (lift : Lift) (c d : ℕ) → FitsLift tells tells_plan config past a lift → lift.result ≡ bad c d → IsCounted past lift.block c d
bad_is_counted tells tells_plan config past a lift c d fits landed =
    let x = fits.0 in
    let result = subst (FitsResult tells lift (counts_of x.block past) (meant config past x.start lift.page x.direction)) landed (fits.1).result in
    record { last = result.1 ∙ ap (λ (b : BlockId). last_count b past) ((fits.1).flight).block; more = result.3 }

-- ---- the block's call, by its direction and how it went
called_read : (lift : Lift) (seen : BlockView) → lift.is_read ≡ true → seen.reads ≡ (lift.seen).reads + 1 → seen.writes ≡ (lift.seen).writes → seen.plan ≡ (lift.seen).plan → IsCalled lift.is_read lift.seen seen
called_read lift seen reads more same plan =
    subst (λ (b : Bool). IsCalled b lift.seen seen) (sym reads) (record { reads = more; writes = omega (arith, same); plan = plan })

called_write : (lift : Lift) (seen : BlockView) → lift.is_read ≡ false → seen.reads ≡ (lift.seen).reads → seen.writes ≡ (lift.seen).writes + 1 → seen.plan ≡ (lift.seen).plan → IsCalled lift.is_read lift.seen seen
called_write lift seen writes same more plan =
    subst (λ (b : Bool). IsCalled b lift.seen seen) (sym writes) (record { reads = omega (arith, same); writes = more; plan = plan })

module _ (tells : Bool) (lift : Lift) (seen : BlockView) where
  pub good_read : (bytes : List ℕ) → lift.is_read ≡ true → seen.content ≡ (lift.seen).content → (tells ≡ true → (lift.seen).content ≡ Some bytes) → seen.plan ≡ (lift.seen).plan → seen.reads ≡ (lift.seen).reads + 1 → seen.writes ≡ (lift.seen).writes
      → seen.faults ≡ (lift.seen).faults → IsCarriedWell tells lift bytes seen
  good_read bytes reads content found plan more same faults = record {
    called = called_read lift seen reads more same plan;
    faults = faults;
    read = λ says is. (found says, content ∙ found says);
    written = λ says is. absurd (true≢false (sym reads ∙ is));
  }

  pub good_write : lift.is_read ≡ false → (tells ≡ true → seen.content ≡ Some lift.buffer) → seen.plan ≡ (lift.seen).plan → seen.reads ≡ (lift.seen).reads → seen.writes ≡ (lift.seen).writes + 1 → seen.faults ≡ (lift.seen).faults
      → IsCarriedWell tells lift lift.buffer seen
  good_write writes written plan same more faults = record {
    called = called_write lift seen writes same more plan;
    faults = faults;
    read = λ says is. absurd (true≢false (sym is ∙ writes));
    written = λ says is. (refl, written says);
  }

  pub failed_read : (bytes : List ℕ) → lift.is_read ≡ true → seen.content ≡ (lift.seen).content → seen.plan ≡ (lift.seen).plan → seen.reads ≡ (lift.seen).reads + 1 → seen.writes ≡ (lift.seen).writes → (lift.seen).faults < seen.faults
      → IsCarriedBadly tells lift bytes seen
  failed_read bytes reads content plan more same faults = record {
    called = called_read lift seen reads more same plan;
    faults = faults;
    read = λ says is. content;
    written = λ says is. absurd (true≢false (sym reads ∙ is));
  }

  pub failed_write : lift.is_read ≡ false → seen.plan ≡ (lift.seen).plan → seen.reads ≡ (lift.seen).reads → seen.writes ≡ (lift.seen).writes + 1 → (lift.seen).faults < seen.faults → IsCarriedBadly tells lift lift.buffer seen
  failed_write writes plan same more faults = record {
    called = called_write lift seen writes same more plan;
    faults = faults;
    read = λ says is. absurd (true≢false (sym is ∙ writes));
    written = λ says is. refl;
  }
