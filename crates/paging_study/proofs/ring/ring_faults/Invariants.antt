use Rattle.std.proofs.Common.{◌≡◌, ◌≤◌, ◌<◌, ◌+◌, ℕ, length, drop, get_or}
use Rattle.paging_study.specs.Places.{page_at}
use Rattle.paging_study.specs.RingFaults.{faults_from, ring_faults}
use Rattle.paging_study.proofs.Hints.{AreHints}
use Rattle.paging_study.proofs.ring.ring_faults.Given as goal

-- the faults so far and those of the pages that are left are all; where each page was
abbrev pub invariant-loop-i : goal.invariant-loop-i
invariant-loop-i l = record {
  counted : l.faults + faults_from l.frames l.ring (drop l.i l.pages.pages.items) ≡ ring_faults l.frames l.pages.pages.items;
  count : length l.ring.slots ≡ l.frames;
  few : l.faults ≤ l.i;
  len : length l.slots.items ≡ l.i;
  within : (n : ℕ) → n < l.i → get_or l.slots.items n 0 < l.frames;
  hints : AreHints l.ring.slots l.slots.items (page_at l.pages.pages.items) l.i;
}
