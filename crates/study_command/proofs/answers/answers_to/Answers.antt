use Rattle.std.proofs.Common.{◌≡◌, ◌+◌, ◌-◌, ◌*◌, ◌≤◌, ℕ, List, Bool, length, arith, subst}
use Rattle.paging_study.specs.Intervals.{uncut}
use Rattle.paging_study.specs.Schedule.{faults_with}
use Rattle.paging_study.specs.Dropped.{dropped_places}
use Rattle.study_command.proofs.Answering.{lru_is}
use Rattle.study_command.proofs.answers.answers_to.Goals as goal

pub returns : goal.returns
returns c =
    let pages : List ℕ = c.args.pages.now.pages.items in
    let cuts : List ℕ = c.in_ok-least.least.cuts.items in
    record {
      count = omega (arith, c.len.ensures, c.args.pages.now.pages.ok.0);
      distinct = c.distinct_pages-distinct.ensures;
      ring = c.in_ok-ring.ensures;
      lru = lru_is pages c.in_ok-lru.lru.items c.args.frames c.in_ok-lru.ensures.len c.in_ok-lru.ensures.faults;
      least = record {
        schedule = c.in_ok-least.ensures.schedule;
        least = λ sets scheduled. subst (λ (n : ℕ). n ≤ faults_with pages sets) c.in_ok-least.ensures.faults (c.in_ok-least.ensures.least sets scheduled);
        certificate = subst (λ (n : ℕ). n + (c.args.frames - 1) * length cuts + uncut pages cuts ≡ length pages) c.in_ok-least.ensures.faults c.in_ok-least.ensures.certificate;
        ascending = c.in_ok-least.ensures.ascending;
        places = c.in_ok-least.ensures.places;
        chosen = c.in_ok-least.ensures.chosen;
      };
      faults = c.in_ok-least.ensures.faults;
      drops = subst (λ (kept : List Bool). c.in_ok-drops.drops.items ≡ dropped_places pages kept) c.deref.ensures.value c.in_ok-drops.ensures;
    }
