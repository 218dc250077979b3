-- What the dump after a run keeps of its frames is what its recount gives.
use Rattle.std.proofs.Common.{◌≡◌, ◌⊎◌, inl, inr, ℕ, zero, suc, ◌+◌, ◌<◌, ◌≤◌, Bool, true, false, cond, not, List, [], ◌∷◌, ◌++◌, codes, count_by, filter, map, nat_eq, nat_lt, refl, sym, ap, ◌∙◌, subst, arith}
use Rattle.std.specs.List.{range_with_len}
use Rattle.std.proofs.lemmas.Bool.{cases_eq, cases_lt, eq-eqb, le-ltb, lt-ltb, ne_eqb}
use Rattle.vm_types.specs.Configuration.{IsWellFormed}
use Rattle.vm_types.specs.declared.config.Config.{Config}
use Rattle.vm_journal.specs.declared.entry.Entry.{Entry}
use Rattle.pfn_database.specs.Rows.{counted_references}
use Rattle.pager_model.specs.Around.{past_view}
use Rattle.pager_model.specs.Flights.{open_flights}
use Rattle.pager_model.specs.Lookups.{is, shares}
use Rattle.pager_model.specs.OfConfig.{IsOfConfig}
use Rattle.pager_model.specs.Pager.{Pager}
use Rattle.pager_model.specs.Run.{IsRun, pager_after}
use Rattle.run_words.specs.Text.{status_line}
use Rattle.pager_model.specs.Transfers.{is_in_flight, reads_on, writes_on}
use Rattle.pager_rules.proofs.Basics.{count_cons_no, count_cons_yes}
use Rattle.pager_rules.specs.Kept.{IsKept}
use Rattle.pager_laws.proofs.OfConfigKept.{run_right}
use Rattle.pager_laws.proofs.RunsAreSound.{run_kept}
use Rattle.state_fits.specs.Frames.{frame_pins, frame_row}
use Rattle.dump_bytes.specs.declared.dump.FrameRec.{FrameRec}
use Rattle.dump_bytes.specs.Dumped.{Dumped}
use Rattle.dump_lines.specs.Checks.{Check, checks, checks_from, checks_of, is_in}
use Rattle.dump_lines.specs.Counts.{counts_of}
use Rattle.dump_lines.specs.Occurrences.{times_in}
use Rattle.dump_lines.specs.ShowText.{count_line, held_lines}
use Rattle.dump_lines.specs.Wrong.{is_wrong, wrong_count}
use Rattle.dump_lines.specs.WrongLines.{wrong_line, wrong_lines}
use Rattle.dump_lines.specs.declared.counts.Counts.{Counts}
use Rattle.dump_laws.specs.DumpAfter.{busy_frames, dump_after, dump_by, frame_at}
use Rattle.dump_laws.specs.Laws.{IsSoundDump}
use Rattle.dump_laws.proofs.Bounded.{frames_are, is_dump, one_transfer, shown}
use Rattle.dump_laws.proofs.Numbers.{one_if}
use Rattle.dump_laws.proofs.Shared.{same_pins, same_shares}

-- ---- what agrees isn't wrong
record Agrees (row : FrameRec) (again : Counts) : Type 0 where
  refs : row.refs ≡ again.refs
  shares : row.shares ≡ again.shares
  free : one_if (nat_eq row.state 0) ≡ again.free
  modified : one_if (nat_eq row.state 1) ≡ again.modified

right_check : (c : Check) → c.kept ≡ c.recount → is_wrong c ≡ false
right_check c same = ap not (eq-eqb c.kept c.recount same)

right_line : (c : Check) → is_wrong c ≡ false → wrong_line c ≡ []
right_line c right = rw right refl

record AreRight (cs : List Check) : Type 0 where
  none : count_by is_wrong cs ≡ 0
  silent : wrong_lines cs ≡ []

none_right : AreRight []
none_right = record { none = refl; silent = refl }

one_right : (c : Check) (cs : List Check) → c.kept ≡ c.recount → AreRight cs → AreRight (c ∷ cs)
one_right c cs same rest = record {
  none = count_cons_no is_wrong c cs (right_check c same) ∙ rest.none;
  silent = ap (λ (line : List ℕ). line ++ wrong_lines cs) (right_line c (right_check c same)) ∙ rest.silent;
}

frame_right : (f : ℕ) (row : FrameRec) (again : Counts) (cs : List Check) → Agrees row again → AreRight cs → AreRight (checks_of f row again ++ cs)
frame_right f row again cs agrees rest =
    let modified : Check = record { frame = f; name = codes "MODIFIED"; kept = is_in row 1; recount = again.modified } in
    let free : Check = record { frame = f; name = codes "FREE"; kept = is_in row 0; recount = again.free } in
    let shares : Check = record { frame = f; name = codes "SHARES"; kept = row.shares; recount = again.shares } in
    let refs : Check = record { frame = f; name = codes "REFS"; kept = row.refs; recount = again.refs } in
    let one = one_right modified cs agrees.modified rest in
    let two = one_right free (modified ∷ cs) agrees.free one in
    let three = one_right shares (free ∷ modified ∷ cs) agrees.shares two in
    one_right refs (shares ∷ free ∷ modified ∷ cs) agrees.refs three

frames_right : (row : ℕ → FrameRec) (again : ℕ → Counts) (s n : ℕ) → ((f : ℕ) → f < s + n → Agrees (row f) (again f))
    → AreRight (checks_from s (map row (range_with_len s n)) (map again (range_with_len s n)))
frames_right row again s zero each = none_right
frames_right row again s (suc n) each =
    frame_right s (row s) (again s) (checks_from (s + 1) (map row (range_with_len (s + 1) n)) (map again (range_with_len (s + 1) n))) (each s (omega arith))
    (frames_right row again (s + 1) n (λ f less. each f (omega (arith, less))))

-- ---- the frames with an open transfer
absent_above : (t : ℕ → Bool) (f s n : ℕ) → f < s → count_by (λ (m : ℕ). nat_eq m f) (filter t (range_with_len s n)) ≡ 0
absent_above t f s zero less = refl
absent_above t f s (suc n) less = go (t s) (absent_above t f (s + 1) n (omega (arith, less)))
  where
    go : (b : Bool) → count_by (λ (m : ℕ). nat_eq m f) (filter t (range_with_len (s + 1) n)) ≡ 0
        → count_by (λ (m : ℕ). nat_eq m f) (cond b (s ∷ filter t (range_with_len (s + 1) n)) (filter t (range_with_len (s + 1) n))) ≡ 0
    go true rest = count_cons_no (λ (m : ℕ). nat_eq m f) s (filter t (range_with_len (s + 1) n)) (ne_eqb s f (λ same. absurd (omega (arith, less, same)))) ∙ rest
    go false rest = rest

once_passed : (t : ℕ → Bool) (f s n : ℕ) → s ≤ f → f < s + n → count_by (λ (m : ℕ). nat_eq m f) (filter t (range_with_len s n)) ≡ one_if (t f)
once_passed t f s zero least less = absurd (omega (arith, least, less))
once_passed t f s (suc n) least less = by (cases_eq s f) (λ other. once_passed t f (s + 1) n (omega (arith, least, other)) (omega (arith, less)))
  where
    here : (b : Bool) → s ≡ f → t f ≡ b → count_by (λ (m : ℕ). nat_eq m f) (cond b (s ∷ filter t (range_with_len (s + 1) n)) (filter t (range_with_len (s + 1) n))) ≡ one_if b
    here true same is =
        let step = count_cons_yes (λ (m : ℕ). nat_eq m f) s (filter t (range_with_len (s + 1) n)) (eq-eqb s f same) in
        let rest = absent_above t f (s + 1) n (omega (arith, same)) in
        omega (arith, step, rest)
    here false same is = absent_above t f (s + 1) n (omega (arith, same))

    later : (b : Bool) → (s ≡ f → ⊥) → count_by (λ (m : ℕ). nat_eq m f) (filter t (range_with_len (s + 1) n)) ≡ one_if (t f)
        → count_by (λ (m : ℕ). nat_eq m f) (cond b (s ∷ filter t (range_with_len (s + 1) n)) (filter t (range_with_len (s + 1) n))) ≡ one_if (t f)
    later true other rest = count_cons_no (λ (m : ℕ). nat_eq m f) s (filter t (range_with_len (s + 1) n)) (ne_eqb s f other) ∙ rest
    later false other rest = rest

    by : (s ≡ f) ⊎ (s ≡ f → ⊥) → ((s ≡ f → ⊥) → count_by (λ (m : ℕ). nat_eq m f) (filter t (range_with_len (s + 1) n)) ≡ one_if (t f))
        → count_by (λ (m : ℕ). nat_eq m f) (filter t (range_with_len s (suc n))) ≡ one_if (t f)
    by (inl same) rest = ap (λ (b : Bool). count_by (λ (m : ℕ). nat_eq m f) (cond b (s ∷ filter t (range_with_len (s + 1) n)) (filter t (range_with_len (s + 1) n)))) (ap t same) ∙ here (t f) same refl
    by (inr other) rest = later (t s) other (rest other)

-- ---- each frame agrees
module _ (config : Config) (past : List Entry) (a : Pager) (formed : IsWellFormed config) (kept : IsKept config (past_view past) a) (right : IsOfConfig config a) where
  abbrev d : Dumped
  d = dump_by config past a

  abbrev flights_on : ℕ → ℕ
  flights_on f = reads_on f (open_flights past) + writes_on f (open_flights past)

  busy_is : (f : ℕ) → f < config.frames → times_in (busy_frames config past) f ≡ flights_on f
  busy_is f less =
      once_passed (λ (g : ℕ). is_in_flight g (open_flights past)) f 0 config.frames (omega arith) (omega (arith, less))
      ∙ one (flights_on f) (one_transfer config past a formed kept right f)
    where
      one : (n : ℕ) → n ≤ 1 → one_if (nat_lt 0 n) ≡ n
      one n few = by (cases_lt 0 n)
        where
          by : (0 < n) ⊎ (n ≤ 0) → one_if (nat_lt 0 n) ≡ n
          by (inl some) = ap one_if (lt-ltb 0 n some) ∙ (let same : 1 ≡ n = omega (arith, few, some) in same)
          by (inr none) = ap one_if (le-ltb 0 n none) ∙ (let same : 0 ≡ n = omega (arith, none) in same)

  agrees : (f : ℕ) → f < 0 + config.frames → Agrees (frame_at past a f) (counts_of d f)
  unfolding frame_row
  agrees f less =
      let share = same_shares config a f (shown config past a formed kept right) in
      let pins = same_pins config (past_view past) a f kept (shown config past a formed kept right) in
      let busy = busy_is f (omega (arith, less)) in
      record {
        refs = sym (counted_again (shares a.valid f) _ (flights_on f) _ (frame_pins a.valid a.ring f) _ share busy pins);
        shares = sym share;
        free = sym (kept.frames f).on_free;
        modified = sym (kept.frames f).on_modified;
      }
    where
      counted_again : (n n' k k' j j' : ℕ) → n' ≡ n → k' ≡ k → j' ≡ j → (cond (nat_lt 0 n') 1 0 + k') + j' ≡ counted_references n k + j
      counted_again n n' k k' j j' share busy pins = ap (λ (x : ℕ). (cond (nat_lt 0 x) 1 0 + k') + j') share ∙ by (cases_lt 0 n)
        where
          by : (0 < n) ⊎ (n ≤ 0) → (cond (nat_lt 0 n) 1 0 + k') + j' ≡ counted_references n k + j
          by (inl some) = rw (lt-ltb 0 n some, ne_eqb n 0 (λ none. absurd (omega (arith, some, none)))) (omega (arith, busy, pins))
          by (inr none) = rw (le-ltb 0 n none, eq-eqb n 0 (omega (arith, none))) (omega (arith, busy, pins))

  all_right : AreRight (checks d)
  all_right =
      subst (λ (n : ℕ). AreRight (checks_from 0 d.frames (map (counts_of d) (range_with_len 0 n)))) (sym (frames_are config past a formed kept right))
      (frames_right (frame_at past a) (counts_of d) 0 config.frames agrees)

  pub sound_dump : IsSoundDump d
  sound_dump = record {
    bounds = is_dump config past a formed kept right;
    none_wrong = all_right.none;
    ends =
        ap (λ (lines : List ℕ). held_lines d ++ (lines ++ count_line (wrong_count d)) ++ status_line 0) all_right.silent
        ∙ ap (λ (n : ℕ). held_lines d ++ count_line n ++ status_line 0) all_right.none;
  }

pub dump_sound : (config : Config) (past : List Entry) → IsWellFormed config → IsRun config past → IsSoundDump (dump_after config past)
dump_sound config past formed run = sound_dump config past (pager_after config past) formed (run_kept config past formed run) (run_right config past formed run)
