use Rattle.std.proofs.Common.{◌≡◌, ◌≤◌, ◌<◌, ◌+◌, ◌-◌, ◌&&◌, ℕ, List, Bool, suc, true, false, leb, not, length, get_or, ap, sym, subst, ◌∙◌, arith}
use Rattle.std.specs.List.{All}
use Rattle.paging_study.specs.Places.{page_at, flag_at, has, count_places}
use Rattle.paging_study.specs.Intervals.{begins}
use Rattle.paging_study.specs.Schedule.{IsSchedule, sets_of}
use Rattle.paging_study.specs.Least.{is_dropped, AreEnds, AreDrops, AreCuts}
use Rattle.paging_study.proofs.EndsByPlace.{ends_from, begins_before}
use Rattle.paging_study.proofs.Together.{drops_within, ends_all_within, Passes, all_schedule, all_faults, all_least, all_certificate, all_chosen}
use Rattle.paging_study.proofs.least.least_faults.Goals as goal

-- an interval begins before it ends
pub ends_of-requires-clause-before : goal.ends_of-requires-clause-before
ends_of-requires-clause-before c = begins_before c.args.pages.now.pages.items c.args.pages.now.firsts.items c.deref.result.now c.deref.ensures.value c.args.pages.now.begins

-- each end is a place
pub drops_of-requires-clause-within : goal.drops_of-requires-clause-within
drops_of-requires-clause-within c =
    let ends : List ℕ = c.in_ok-ends.ends.items in
    let is : c.deref-2.result.now ≡ ends = c.deref-2.ensures.value in
    let places : length ends ≡ length c.args.pages.now.pages.items = c.in_ok-ends.ensures.len ∙ (ap length c.deref.ensures.value ∙ c.args.pages.now.len) in
    subst (λ (xs : List ℕ). All (λ end. end ≤ length xs) xs) (sym is)
    (ends_all_within c.args.pages.now.pages.items ends (length ends) (ends_from c.args.pages.now.pages.items c.args.pages.now.firsts.items c.deref.result.now ends c.deref.ensures.value c.args.pages.now.begins c.args.pages.now.len c.in_ok-ends.ensures.ends) places (omega arith))

-- each drop is the end of an interval
pub gone_of-requires : goal.gone_of-requires
gone_of-requires c =
    let ends : List ℕ = c.in_ok-ends.ends.items in
    let drops : List ℕ = c.in_ok-drops.drops.ends.items in
    let is : c.deref-2.result.now ≡ ends = c.deref-2.ensures.value in
    let is-2 : c.deref-3.result.now ≡ drops = c.deref-3.ensures.value in
    let made : (page : ℕ → ℕ) → AreEnds page (length ends) (page_at ends) → AreDrops page (page_at drops) (length ends) (c.args.frames - 1) =
    subst (λ (xs : List ℕ). (page : ℕ → ℕ) → AreEnds page (length xs) (page_at xs) → AreDrops page (page_at drops) (length xs) (c.args.frames - 1)) is c.in_ok-drops.ensures.drops in
    let lengths : length drops ≡ length ends = c.in_ok-drops.ensures.len ∙ ap length is in
    subst (λ (xs : List ℕ). All (λ end. end ≤ length xs) xs) (sym is-2)
    (drops_within c.args.pages.now.pages.items ends drops (c.args.frames - 1) (ends_from c.args.pages.now.pages.items c.args.pages.now.firsts.items c.deref.result.now ends c.deref.ensures.value c.args.pages.now.begins c.args.pages.now.len c.in_ok-ends.ensures.ends) (c.in_ok-ends.ensures.len ∙ (ap length c.deref.ensures.value ∙ c.args.pages.now.len)) lengths made)

pub kept_of-requires : goal.kept_of-requires
kept_of-requires c =
    let ends : List ℕ = c.in_ok-ends.ends.items in
    let gone : List Bool = c.in_ok-gone.gone.items in
    let is-3 : c.deref-4.result.now ≡ ends = c.deref-4.ensures.value in
    let is-4 : c.deref-5.result.now ≡ gone = c.deref-5.ensures.value in
    let lengths : length gone ≡ length ends = c.in_ok-gone.ensures.len ∙ (ap length c.deref-3.ensures.value ∙ (c.in_ok-drops.ensures.len ∙ ap length c.deref-2.ensures.value)) in
    subst (λ (xs : List ℕ). All (λ end. end ≤ length c.deref-5.result.now) xs) (sym is-3)
    (ends_all_within c.args.pages.now.pages.items ends (length c.deref-5.result.now) (ends_from c.args.pages.now.pages.items c.args.pages.now.firsts.items c.deref.result.now ends c.deref.ensures.value c.args.pages.now.begins c.args.pages.now.len c.in_ok-ends.ensures.ends) (c.in_ok-ends.ensures.len ∙ (ap length c.deref.ensures.value ∙ c.args.pages.now.len)) (omega (arith, ap length is-4, lengths, (c.in_ok-ends.ensures.len ∙ (ap length c.deref.ensures.value ∙ c.args.pages.now.len)))))

passes : (c : goal.After-drop-ends-2) → Passes c.args.pages.now.pages.items c.in_ok-ends.ends.items c.in_ok-drops.drops.ends.items c.in_ok-gone.gone.items c.in_ok-kept.kept.items c.in_ok-flags.flags.items c.in_ok-cuts.cuts.items c.in_ok-drops.drops.faults (c.args.frames - 1)
passes c =
    let ends : List ℕ = c.in_ok-ends.ends.items in
    let drops : List ℕ = c.in_ok-drops.drops.ends.items in
    let gone : List Bool = c.in_ok-gone.gone.items in
    let kept : List Bool = c.in_ok-kept.kept.items in
    let flags : List Bool = c.in_ok-flags.flags.items in
    let cuts : List ℕ = c.in_ok-cuts.cuts.items in
    let room : ℕ = c.args.frames - 1 in
    let faults : ℕ = c.in_ok-drops.drops.faults in
    let is : c.deref-2.result.now ≡ ends = c.deref-2.ensures.value in
    let is-2 : c.deref-3.result.now ≡ drops = c.deref-3.ensures.value in
    let is-3 : c.deref-4.result.now ≡ ends = c.deref-4.ensures.value in
    let is-4 : c.deref-5.result.now ≡ gone = c.deref-5.ensures.value in
    let is-5 : c.deref-6.result.now ≡ drops = c.deref-6.ensures.value in
    let is-6 : c.deref-7.result.now ≡ flags = c.deref-7.ensures.value in
    record {
      ends_are = (ends_from c.args.pages.now.pages.items c.args.pages.now.firsts.items c.deref.result.now ends c.deref.ensures.value c.args.pages.now.begins c.args.pages.now.len c.in_ok-ends.ensures.ends);
      ends_length = (c.in_ok-ends.ensures.len ∙ (ap length c.deref.ensures.value ∙ c.args.pages.now.len));
      drops_are = subst (λ (xs : List ℕ). (page : ℕ → ℕ) → AreEnds page (length xs) (page_at xs) → AreDrops page (page_at drops) (length xs) room) is c.in_ok-drops.ensures.drops;
      counted = subst (λ (xs : List ℕ). (page : ℕ → ℕ) → AreEnds page (length xs) (page_at xs) → faults + count_places (λ n. leb 1 (begins page n) && not (is_dropped (page_at drops) (length xs) n)) (length xs) ≡ length xs) is c.in_ok-drops.ensures.faults;
      drops_length = c.in_ok-drops.ensures.len ∙ ap length is;
      gone_are = subst (λ (xs : List ℕ). (n : ℕ) → n < length xs → get_or gone n false ≡ is_dropped (page_at xs) (length xs) (suc n)) is-2 c.in_ok-gone.ensures.gone;
      kept_are = subst (λ (ys : List Bool). (i : ℕ) → i < length ends → get_or kept i false ≡ (leb 1 (get_or ends i 0) && not (get_or ys (get_or ends i 0 - 1) false))) is-4
          (subst (λ (xs : List ℕ). (i : ℕ) → i < length xs → get_or kept i false ≡ (leb 1 (get_or xs i 0) && not (get_or c.deref-5.result.now (get_or xs i 0 - 1) false))) is-3 c.in_ok-kept.ensures.kept);
      flags_are = subst (λ (xs : List ℕ). AreCuts (page_at xs) (length xs) (flag_at flags)) is-5 c.in_ok-flags.ensures.cuts;
      flags_length = c.in_ok-flags.ensures.len ∙ ap length is-5;
      cuts_are = subst (λ (fs : List Bool). (i : ℕ) → i < length fs → has cuts (suc i) ≡ flag_at fs (suc i)) is-6 c.in_ok-cuts.ensures.same;
      cuts_range = subst (λ (fs : List Bool). (place : ℕ) → has cuts place ≡ true → (1 ≤ place) × (place ≤ length fs)) is-6 c.in_ok-cuts.ensures.range;
      cuts_count = subst (λ (fs : List Bool). length cuts ≡ count_places (flag_at fs) (length fs)) is-6 c.in_ok-cuts.ensures.count;
    }

pub returns-clause-schedule : goal.returns-clause-schedule
returns-clause-schedule c =
    let frames : c.args.frames - 1 + 1 ≡ c.args.frames = omega (arith, c.requires.0) in
    subst (λ (k : ℕ). IsSchedule (page_at c.args.pages.now.pages.items) (length c.args.pages.now.pages.items) k (sets_of (page_at c.args.pages.now.pages.items) (flag_at c.in_ok-kept.kept.items) (length c.args.pages.now.pages.items))) frames
    (all_schedule _ _ _ _ _ _ _ _ _ (passes c))

pub returns-clause-faults : goal.returns-clause-faults
returns-clause-faults c = all_faults _ _ _ _ _ _ _ _ _ (passes c)

pub returns-clause-least : goal.returns-clause-least
returns-clause-least c =
    let frames : c.args.frames ≡ c.args.frames - 1 + 1 = omega (arith, c.requires.0) in
    λ sets is. all_least _ _ _ _ _ _ _ _ _ (passes c) sets (subst (λ (k : ℕ). IsSchedule (page_at c.args.pages.now.pages.items) (length c.args.pages.now.pages.items) k sets) frames is)

pub returns-clause-certificate : goal.returns-clause-certificate
returns-clause-certificate c = all_certificate _ _ _ _ _ _ _ _ _ (passes c)

pub returns-clause-chosen : goal.returns-clause-chosen
returns-clause-chosen c = all_chosen _ _ _ _ _ _ _ _ _ (passes c)
