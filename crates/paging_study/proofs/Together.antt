-- What the passes say together.
use Rattle.std.proofs.Common.{◌≡◌, ◌≢◌, ℕ, suc, zero, ◌+◌, ◌-◌, ◌*◌, ◌<◌, ◌≤◌, Bool, true, false, List, length, get_or, ap, sym, ◌∙◌, refl, subst, inl, inr, arith, leb, ltb, ◌&&◌, not}
use Rattle.std.specs.List.{All}
use Rattle.std.proofs.lemmas.Bool.{cases_lt, and_left, le-leb, lt-leb}
use Rattle.paging_study.specs.Places.{page_at, flag_at, has, count_places}
use Rattle.paging_study.specs.Intervals.{begins, is_uncut}
use Rattle.paging_study.specs.Schedule.{IsSchedule, faults_of, sets_of}
use Rattle.paging_study.specs.Least.{is_dropped, AreDrops, AreKept, AreCuts, AreEnds, IsChosen}
use Rattle.paging_study.proofs.Counts.{count_same}
use Rattle.paging_study.proofs.Begins.{begins-lt}
use Rattle.paging_study.proofs.Bound as bound
use Rattle.paging_study.proofs.Exact.{kept-is}
use Rattle.paging_study.proofs.Rule.{stays}
use Rattle.paging_study.proofs.Tight.{tight}
use Rattle.paging_study.proofs.KeptSchedule.{schedule, faults-stays}
use Rattle.paging_study.proofs.Forward.{any_place_same, ends_within}
use Rattle.paging_study.proofs.Flags.{default_any}

pub all_at : (P : ℕ → Type 0) (xs : List ℕ) → ((i : ℕ) → i < length xs → P (get_or xs i 0)) → All P xs
all_at P xs each = λ i d below. subst P (default_any xs i 0 d below) (each i below)

pub ends_all_within : (pages ends : List ℕ) (most : ℕ) → AreEnds (page_at pages) (length pages) (page_at ends) → length ends ≡ length pages → length pages ≤ most → All (λ end. end ≤ most) ends
ends_all_within pages ends most are lengths fits = all_at (λ end. end ≤ most) ends (λ i below.
    let before : suc i - 1 ≡ i = omega arith in
    let within : page_at ends (suc i) ≤ length pages = ends_within (page_at pages) (length pages) (page_at ends) i (omega arith) are in
    let same : page_at ends (suc i) ≡ get_or ends i 0 = ap (λ (k : ℕ). get_or ends k 0) before in
    omega arith)

pub drops_within : (pages ends drops : List ℕ) (room : ℕ) → AreEnds (page_at pages) (length pages) (page_at ends) → length ends ≡ length pages → length drops ≡ length ends
    → ((page : ℕ → ℕ) → AreEnds page (length ends) (page_at ends) → AreDrops page (page_at drops) (length ends) room) → All (λ end. end ≤ length drops) drops
drops_within pages ends drops room are lengths lengths-2 made = all_at (λ end. end ≤ length drops) drops (λ i below.
    let before : suc i - 1 ≡ i = omega arith in
    let are' : AreEnds (page_at pages) (length ends) (page_at ends) = subst (λ (n : ℕ). AreEnds (page_at pages) n (page_at ends)) (sym lengths) are in
    let within : page_at drops (suc i) ≤ length ends = (made (page_at pages) are' i (omega arith)).exists in
    let same : page_at drops (suc i) ≡ get_or drops i 0 = ap (λ (k : ℕ). get_or drops k 0) before in
    omega arith)

module _ (page drop : ℕ → ℕ) (places room : ℕ) (drops : AreDrops page drop places room) (kept : ℕ → Bool) (rule : AreKept page drop places kept) (cut : ℕ → Bool) (cuts : AreCuts drop places cut)
    (only : (c : ℕ) → cut c ≡ true → (1 ≤ c) × (c ≤ places)) (faults : ℕ) (counted : faults + count_places (stays page drop places room drops) places ≡ places) where
  kept_count : count_places (stays page drop places room drops) places ≡ room * count_places cut places + count_places (is_uncut page cut) places
  kept_count = kept-is page (stays page drop places room drops) cut places room (tight page drop places room drops cut cuts only)

  pub certificate : faults + room * count_places cut places + count_places (is_uncut page cut) places ≡ places
  certificate = omega (arith, kept_count, counted)

  pub faults_are : faults ≡ faults_of page (sets_of page kept places) places
  faults_are = omega (arith, counted, faults-stays page drop places room drops kept rule)

  pub fewest : (sets : ℕ → List ℕ) → IsSchedule page places (room + 1) sets → faults ≤ faults_of page sets places
  fewest sets is =
      let same : room + 1 - 1 ≡ room = omega arith in
      let least : places ≤ room * count_places cut places + count_places (is_uncut page cut) places + faults_of page sets places = rw same at (bound.least_faults page cut places (room + 1) sets is) in
      omega (arith, kept_count, counted)

-- cuts that agree with those of the rule are those of the rule
pub cuts_same : (drop : ℕ → ℕ) (places : ℕ) (cut cut' : ℕ → Bool) → ((i : ℕ) → i < places → cut' (suc i) ≡ cut (suc i)) → AreCuts drop places cut → AreCuts drop places cut'
cuts_same drop places cut cut' same cuts = λ n below. same n below ∙ (cuts n below
    ∙ ap (λ (b : Bool). leb 1 (drop (suc n)) && not b) (any_place_same (λ later. (cut later && ltb (suc n) later) && ltb later (drop (suc n))) (λ later. (cut' later && ltb (suc n) later) && ltb later (drop (suc n))) places
    (λ i i_below. ap (λ (b : Bool). (b && ltb (suc n) (suc i)) && ltb (suc i) (drop (suc n))) (sym (same i i_below)))))

-- an interval is kept where it was not dropped
module _ (page drop ends : ℕ → ℕ) (places : ℕ) (are : AreEnds page places ends) (kept gone : ℕ → Bool)
    (kept_is : (i : ℕ) → i < places → kept (suc i) ≡ (leb 1 (ends (suc i)) && not (gone (ends (suc i)))))
    (gone_is : (n : ℕ) → n < places → gone (suc n) ≡ is_dropped drop places (suc n)) where
  kept_at : (n b : ℕ) → n < places → b ≤ n → begins page (suc n) ≡ b → 1 ≤ b → kept b ≡ not (is_dropped drop places (suc n))
  kept_at n zero below within is some = absurd (omega arith)
  kept_at n (suc i) below within is some =
      let end_is : ends (suc i) ≡ suc n = sym (ap ends is) ∙ are.begun n below (omega arith) in
      kept_is i (omega arith) ∙ rw (end_is, gone_is n below, le-leb 1 (suc n) (omega arith)) refl

  none_at : (i : ℕ) → i < places → ((n : ℕ) → n < places → begins page (suc n) ≢ suc i) → kept (suc i) ≡ false
  none_at i below none = kept_is i below ∙ and_left _ _ (lt-leb 1 (ends (suc i)) (elim (cases_lt 0 (ends (suc i))) [
    | inr zero_end ↦ omega arith
    | inl some ↦
        let only = are.only i below some in
        let at : suc (ends (suc i) - 1) ≡ ends (suc i) = omega arith in
        absurd (none (ends (suc i) - 1) (omega (arith, only.0)) (ap (λ e. begins page e) at ∙ only.1))
  ]))

  pub are_kept : AreKept page drop places kept
  are_kept = record {
    interval = λ n below some. kept_at n (begins page (suc n)) below (begins-lt page n) refl some;
    none = none_at;
  }

-- what each pass says of its list
pub record Passes (pages ends drops : List ℕ) (gone kept flags : List Bool) (cuts : List ℕ) (faults room : ℕ) : Type 0 where
  pub ends_are : AreEnds (page_at pages) (length pages) (page_at ends)
  pub ends_length : length ends ≡ length pages
  pub drops_are : (page : ℕ → ℕ) → AreEnds page (length ends) (page_at ends) → AreDrops page (page_at drops) (length ends) room
  pub counted : (page : ℕ → ℕ) → AreEnds page (length ends) (page_at ends) → faults + count_places (λ n. leb 1 (begins page n) && not (is_dropped (page_at drops) (length ends) n)) (length ends) ≡ length ends
  pub drops_length : length drops ≡ length ends
  pub gone_are : (n : ℕ) → n < length drops → get_or gone n false ≡ is_dropped (page_at drops) (length drops) (suc n)
  pub kept_are : (i : ℕ) → i < length ends → get_or kept i false ≡ (leb 1 (get_or ends i 0) && not (get_or gone (get_or ends i 0 - 1) false))
  pub flags_are : AreCuts (page_at drops) (length drops) (flag_at flags)
  pub flags_length : length flags ≡ length drops
  pub cuts_are : (i : ℕ) → i < length flags → has cuts (suc i) ≡ flag_at flags (suc i)
  pub cuts_range : (place : ℕ) → has cuts place ≡ true → (1 ≤ place) × (place ≤ length flags)
  pub cuts_count : length cuts ≡ count_places (flag_at flags) (length flags)

module _ (pages ends drops : List ℕ) (gone kept flags : List Bool) (cuts : List ℕ) (faults room : ℕ) (passes : Passes pages ends drops gone kept flags cuts faults room) where
  abbrev page : ℕ → ℕ
  page = page_at pages

  abbrev places : ℕ
  places = length pages

  drops_places : length drops ≡ length pages
  drops_places = passes.drops_length ∙ passes.ends_length

  flags_places : length flags ≡ length pages
  flags_places = passes.flags_length ∙ drops_places

  are_drops : AreDrops page (page_at drops) places room
  are_drops = subst (λ (n : ℕ). AreEnds page n (page_at ends) → AreDrops page (page_at drops) n room) passes.ends_length (passes.drops_are page) passes.ends_are

  counted_all : faults + count_places (stays page (page_at drops) places room are_drops) places ≡ places
  counted_all = subst (λ (m : ℕ). AreEnds page m (page_at ends) → faults + count_places (λ n. leb 1 (begins page n) && not (is_dropped (page_at drops) m n)) m ≡ m) passes.ends_length (passes.counted page) passes.ends_are

  keeps_all : AreKept page (page_at drops) places (flag_at kept)
  keeps_all = are_kept page (page_at drops) (page_at ends) places passes.ends_are (flag_at kept) (flag_at gone)
      (λ i below. passes.kept_are (suc i - 1) (omega (arith, passes.ends_length)))
      (λ n below.
      let before : suc n - 1 ≡ n = omega arith in
      let at : get_or gone n false ≡ is_dropped (page_at drops) places (suc n) = subst (λ (m : ℕ). get_or gone n false ≡ is_dropped (page_at drops) m (suc n)) drops_places (passes.gone_are n (omega (arith, drops_places))) in
      ap (λ (k : ℕ). get_or gone k false) before ∙ at)

  are_cuts : AreCuts (page_at drops) places (has cuts)
  are_cuts = cuts_same (page_at drops) places (flag_at flags) (has cuts) (λ i below. passes.cuts_are i (omega (arith, flags_places)))
      (subst (λ (m : ℕ). AreCuts (page_at drops) m (flag_at flags)) drops_places passes.flags_are)

  pub within : (place : ℕ) → has cuts place ≡ true → (1 ≤ place) × (place ≤ places)
  within place there = let range = passes.cuts_range place there in (range.0, omega (arith, range.1, flags_places))

  count_is : count_places (has cuts) places ≡ length cuts
  count_is = count_same (has cuts) (flag_at flags) places (λ i below. passes.cuts_are i (omega (arith, flags_places)))
      ∙ sym (subst (λ (m : ℕ). length cuts ≡ count_places (flag_at flags) m) flags_places passes.cuts_count)

  pub all_schedule : IsSchedule page places (room + 1) (sets_of page (flag_at kept) places)
  all_schedule = schedule page (page_at drops) places room are_drops (flag_at kept) keeps_all

  pub all_faults : faults ≡ faults_of page (sets_of page (flag_at kept) places) places
  all_faults = faults_are page (page_at drops) places room are_drops (flag_at kept) keeps_all (has cuts) are_cuts within faults counted_all

  pub all_least : (sets : ℕ → List ℕ) → IsSchedule page places (room + 1) sets → faults ≤ faults_of page sets places
  all_least = fewest page (page_at drops) places room are_drops (flag_at kept) keeps_all (has cuts) are_cuts within faults counted_all

  pub all_certificate : faults + room * length cuts + count_places (is_uncut page (has cuts)) places ≡ places
  all_certificate = subst (λ (n : ℕ). faults + room * n + count_places (is_uncut page (has cuts)) places ≡ places) count_is
      (certificate page (page_at drops) places room are_drops (flag_at kept) keeps_all (has cuts) are_cuts within faults counted_all)

  pub all_chosen : IsChosen page places room (flag_at kept) (has cuts)
  all_chosen = record { drop = page_at drops; drops = are_drops; keeps = keeps_all; cuts = are_cuts }
