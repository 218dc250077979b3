-- A dump is read as its bounds and its text say.
use Rattle.std.proofs.Common.{◌≡◌, ℕ, ◌-◌, ◌^◌, ◌<◌, ◌≤◌, List, [], ◌∷◌, ◌++◌, length, map, refl, sym, ap, subst, ◌∙◌, append_assoc, lit<, arith}
use Rattle.std.specs.Prelude.{codes}
use Rattle.std.specs.List.{flat_map, AllByRecursion}
use Rattle.vm_types.specs.declared.limits.TheConstants.{MOST_FRAMES}
use Rattle.dump_bytes.specs.Dumped.{Dumped}
use Rattle.dump_bytes.specs.Text.{number, frame_text, process_text, dump_text}
use Rattle.dump_bytes.specs.Bounds.{IsFrame, IsProcess, IsDump, Ascends}
use Rattle.dump_bytes.specs.Reading.{rising_number_at, dump_at, dumped_from, DumpParts}
use Rattle.dump_bytes.proofs.Readers.{Reads, reads_both, reads_made, reads_as}
use Rattle.dump_bytes.proofs.ListReaders.{AreItems, AreRising, IsBetween, reads_items, reads_rising}
use Rattle.dump_bytes.proofs.Rising.{rises_below, rises_ascends, rises_of}
use Rattle.dump_bytes.proofs.Numbers.{IsWithin, reads_number}
use Rattle.dump_bytes.proofs.Frames.{reads_any, reads_frame}
use Rattle.dump_bytes.proofs.Processes.{reads_process, reads_letters, from_zero}

abbrev same : ℕ → ℕ
same x = x

abbrev Any : ℕ → Type 0
Any x = Unit {0}

reads_flight : (low high : ℕ) → low < high → high ≤ MOST_FRAMES → Reads (rising_number_at low high) number (IsBetween same Any low high)
reads_flight low high lt le =
    reads_as number (IsWithin low (high - 1)) (IsBetween same Any low high) (rising_number_at low high)
    (λ x i. let t = i.to in record { is_ok = tt; from = i.from; below = omega arith })
    (λ x i. let b = i.below in record { from = i.from; to = omega arith })
    (reads_number 4 low (high - 1) (omega arith) (omega arith))

below_of : (n : ℕ) (xs : List ℕ) → 0 < n → AllByRecursion (IsWithin 0 (n - 1)) xs → AllByRecursion (λ x. x < n) xs
below_of n [] pos h = tt
below_of n (x ∷ xs) pos h = let a = h.0.to in (omega arith, below_of n xs pos h.1)

of_below : (n : ℕ) (xs : List ℕ) → AllByRecursion (λ x. x < n) xs → AllByRecursion (IsWithin 0 (n - 1)) xs
of_below n [] h = tt
of_below n (x ∷ xs) h = let a = h.0 in (record { from = omega arith; to = omega arith }, of_below n xs h.1)

map_same : (xs : List ℕ) → map same xs ≡ xs
map_same [] = refl
map_same (x ∷ xs) = ap (λ (ys : List ℕ). x ∷ ys) (map_same xs)

all_any : (xs : List ℕ) → AllByRecursion Any xs
all_any [] = tt
all_any (x ∷ xs) = (tt, all_any xs)

abbrev AreParts : DumpParts → Type 0
AreParts p =
    let n = p.1.0 in
    (p.0 ≡ codes "VMSDUMP1") × (IsWithin 8 MOST_FRAMES n × (IsWithin 0 n p.1.1.0 × (IsWithin 0 n p.1.1.1.0 × (IsWithin 1 16 p.1.1.1.1.0
    × (IsWithin 0 (2 ^ 32 - 1) p.1.1.1.1.1.0 × (IsWithin 0 (2 ^ 32 - 1) p.1.1.1.1.1.1.0 × (IsWithin 0 (2 ^ 32 - 1) p.1.1.1.1.1.1.1.0
    × (AreItems (IsFrame p.1.1.1.1.0) n p.1.1.1.1.1.1.1.1.0 × (AreItems (IsWithin 0 (n - 1)) p.1.1.0 p.1.1.1.1.1.1.1.1.1.0
    × (AreItems (IsWithin 0 (n - 1)) p.1.1.1.0 p.1.1.1.1.1.1.1.1.1.1.0 × (AreItems (IsProcess n) p.1.1.1.1.0 p.1.1.1.1.1.1.1.1.1.1.1.0
    × (IsWithin 0 n p.1.1.1.1.1.1.1.1.1.1.1.1.0 × AreRising same Any p.1.1.1.1.1.1.1.1.1.1.1.1.0 0 n p.1.1.1.1.1.1.1.1.1.1.1.1.1))))))))))))

abbrev after_head : List ℕ → ℕ → ℕ → ℕ → ℕ → ℕ → ℕ → ℕ → List ℕ → List ℕ
after_head t n f m p s c a rest = t ++ (number n ++ (number f ++ (number m ++ (number p ++ (number s ++ (number c ++ (number a ++ rest)))))))

abbrev parts_text : DumpParts → List ℕ
parts_text p = after_head p.0 p.1.0 p.1.1.0 p.1.1.1.0 p.1.1.1.1.0 p.1.1.1.1.1.0 p.1.1.1.1.1.1.0 p.1.1.1.1.1.1.1.0
    (flat_map frame_text p.1.1.1.1.1.1.1.1.0 ++ (flat_map number p.1.1.1.1.1.1.1.1.1.0 ++ (flat_map number p.1.1.1.1.1.1.1.1.1.1.0
    ++ (flat_map process_text p.1.1.1.1.1.1.1.1.1.1.1.0 ++ (number p.1.1.1.1.1.1.1.1.1.1.1.1.0 ++ flat_map number p.1.1.1.1.1.1.1.1.1.1.1.1.1)))))

regroup : (a b c d e f : List ℕ) → a ++ b ++ c ++ d ++ e ++ f ≡ a ++ (b ++ (c ++ (d ++ (e ++ f))))
regroup a b c d e f = simp append_assoc

same_text : (p : DumpParts) → AreParts p → dump_text (dumped_from p) ≡ parts_text p
same_text p i =
    let t = codes "VMSDUMP1" in
    let s = p.1.1.1.1.1.0 in
    let c = p.1.1.1.1.1.1.0 in
    let a = p.1.1.1.1.1.1.1.0 in
    let frames = p.1.1.1.1.1.1.1.1.0 in
    let free = p.1.1.1.1.1.1.1.1.1.0 in
    let modified = p.1.1.1.1.1.1.1.1.1.1.0 in
    let procs = p.1.1.1.1.1.1.1.1.1.1.1.0 in
    let flights = p.1.1.1.1.1.1.1.1.1.1.1.1.1 in
    let k = p.1.1.1.1.1.1.1.1.1.1.1.1.0 in
    let tail : ℕ → List ℕ = λ count. flat_map frame_text frames ++ (flat_map number free ++ (flat_map number modified ++ (flat_map process_text procs ++ (number count ++ flat_map number flights)))) in
    ap (λ (rest : List ℕ). after_head t (length frames) (length free) (length modified) (length procs) s c a rest)
    (regroup (flat_map frame_text frames) (flat_map number free) (flat_map number modified) (flat_map process_text procs) (number (length flights)) (flat_map number flights))
    ∙ ap (λ (x : ℕ). after_head t (length frames) (length free) (length modified) (length procs) s c a (tail x)) i.1.1.1.1.1.1.1.1.1.1.1.1.1.count_is
    ∙ ap (λ (x : ℕ). after_head t x (length free) (length modified) (length procs) s c a (tail k)) i.1.1.1.1.1.1.1.1.0.count_is
    ∙ ap (λ (x : ℕ). after_head t p.1.0 x (length modified) (length procs) s c a (tail k)) i.1.1.1.1.1.1.1.1.1.0.count_is
    ∙ ap (λ (x : ℕ). after_head t p.1.0 p.1.1.0 x (length procs) s c a (tail k)) i.1.1.1.1.1.1.1.1.1.1.0.count_is
    ∙ ap (λ (x : ℕ). after_head t p.1.0 p.1.1.0 p.1.1.1.0 x s c a (tail k)) i.1.1.1.1.1.1.1.1.1.1.1.0.count_is
    ∙ ap (λ (x : List ℕ). after_head x p.1.0 p.1.1.0 p.1.1.1.0 p.1.1.1.1.0 s c a (tail k)) (sym i.0)

dump_is : (p : DumpParts) → AreParts p → IsDump (dumped_from p)
dump_is p i =
    let n = p.1.0 in
    let n_from = i.1.0.from in
    let n_to = i.1.0.to in
    let f = i.1.1.0.to in
    let m = i.1.1.1.0.to in
    let p_from = i.1.1.1.1.0.from in
    let p_to = i.1.1.1.1.0.to in
    let s = i.1.1.1.1.1.0.to in
    let c = i.1.1.1.1.1.1.0.to in
    let a = i.1.1.1.1.1.1.1.0.to in
    let frames = i.1.1.1.1.1.1.1.1.0 in
    let free = i.1.1.1.1.1.1.1.1.1.0 in
    let modified = i.1.1.1.1.1.1.1.1.1.1.0 in
    let procs = i.1.1.1.1.1.1.1.1.1.1.1.0 in
    let k = i.1.1.1.1.1.1.1.1.1.1.1.1.0.to in
    let flights = i.1.1.1.1.1.1.1.1.1.1.1.1.1 in
    let count_frames = frames.count_is in
    let count_free = free.count_is in
    let count_modified = modified.count_is in
    let count_procs = procs.count_is in
    let count_flights = flights.count_is in
    let xs = p.1.1.1.1.1.1.1.1.1.1.1.1.1 in
    let below = below_of n in
    record {
      frames = (omega arith, omega arith);
      procs = (omega arith, omega arith);
      size = omega arith;
      charged = omega arith;
      assigned = omega arith;
      each_frame = subst (λ (x : ℕ). AllByRecursion (IsFrame x) p.1.1.1.1.1.1.1.1.0) (sym count_procs) frames.each;
      free = record { few = omega arith; each = subst (λ (x : ℕ). AllByRecursion (λ y. y < x) p.1.1.1.1.1.1.1.1.1.0) (sym count_frames) (below_of n _ (omega arith) free.each) };
      modified = record { few = omega arith; each = subst (λ (x : ℕ). AllByRecursion (λ y. y < x) p.1.1.1.1.1.1.1.1.1.1.0) (sym count_frames) (below_of n _ (omega arith) modified.each) };
      each_process = subst (λ (x : ℕ). AllByRecursion (IsProcess x) p.1.1.1.1.1.1.1.1.1.1.1.0) (sym count_frames) procs.each;
      flights = record {
        few = omega arith;
        each = subst (λ (x : ℕ). AllByRecursion (λ y. y < x) xs) (sym count_frames)
            (subst (λ (ys : List ℕ). AllByRecursion (λ y. y < n) ys) (map_same xs) (rises_below same Any 0 n xs flights.rises));
      };
      ascends = subst Ascends (map_same xs) (rises_ascends same Any 0 n xs flights.rises);
    }

dump_made : (d : Dumped) → IsDump d → (p : DumpParts) × AreParts p × (dumped_from p ≡ d)
dump_made d i =
    let n = length d.frames in
    let n_from = i.frames.0 in
    let n_to = i.frames.1 in
    let p_from = i.procs.0 in
    let p_to = i.procs.1 in
    let s = i.size in
    let c = i.charged in
    let a = i.assigned in
    let up = rises_of same Any 0 n d.flights (all_any d.flights) (subst (λ (ys : List ℕ). AllByRecursion (λ y. y < n) ys) (sym (map_same d.flights)) i.flights.each)
    (from_zero (map same d.flights)) (subst Ascends (sym (map_same d.flights)) i.ascends) in (
      (codes "VMSDUMP1", (n, (length d.free, (length d.modified, (length d.procs, (d.size, (d.charged, (d.assigned, (d.frames, (d.free, (d.modified, (d.procs, (length d.flights, d.flights))))))))))))),
      (
        refl,
        (
          record { from = n_from; to = n_to },
          (
            record { from = omega arith; to = i.free.few },
            (
              record { from = omega arith; to = i.modified.few },
              (
                record { from = p_from; to = p_to },
                (
                  record { from = omega arith; to = omega arith },
                  (
                    record { from = omega arith; to = omega arith },
                    (
                      record { from = omega arith; to = omega arith },
                      (
                        record { count_is = refl; each = i.each_frame },
                        (
                          record { count_is = refl; each = of_below n d.free i.free.each },
                          (
                            record { count_is = refl; each = of_below n d.modified i.modified.each },
                            (record { count_is = refl; each = i.each_process }, (record { from = omega arith; to = i.flights.few }, record { count_is = refl; rises = up })),
                          ),
                        ),
                      ),
                    ),
                  ),
                ),
              ),
            ),
          ),
        ),
      ),
      refl,
    )

pub reads_dump : Reads dump_at dump_text IsDump
reads_dump =
    reads_made dumped_from _ _ dump_text IsDump same_text dump_is dump_made
    _ (reads_both _ _ _ _ _ _ (reads_letters (codes "VMSDUMP1")) (λ t _. reads_both _ _ _ _ _ _ (reads_number 4 8 MOST_FRAMES (omega arith) (lit< tt)) (λ n i.
    let n_from = i.from in
    let n_to = i.to in
    reads_both _ _ _ _ _ _ (reads_number 4 0 n (omega arith) (omega arith)) (λ f _. reads_both _ _ _ _ _ _ (reads_number 4 0 n (omega arith) (omega arith)) (λ m _.
    reads_both _ _ _ _ _ _ (reads_number 4 1 16 (omega arith) (lit< tt)) (λ p j.
    let p_from = j.from in
    let p_to = j.to in
    reads_both _ _ _ _ _ _ reads_any (λ s _. reads_both _ _ _ _ _ _ reads_any (λ c _. reads_both _ _ _ _ _ _ reads_any (λ a _.
    reads_both _ _ _ _ _ _ (reads_items n _ frame_text (IsFrame p) (reads_frame p (omega arith) p_to)) (λ frames _.
    reads_both _ _ _ _ _ _ (reads_items f _ number (IsWithin 0 (n - 1)) (reads_number 4 0 (n - 1) (omega arith) (omega arith))) (λ free _.
    reads_both _ _ _ _ _ _ (reads_items m _ number (IsWithin 0 (n - 1)) (reads_number 4 0 (n - 1) (omega arith) (omega arith))) (λ modified _.
    reads_both _ _ _ _ _ _ (reads_items p _ process_text (IsProcess n) (reads_process n (omega arith) n_to)) (λ procs _.
    reads_both _ _ _ _ _ _ (reads_number 4 0 n (omega arith) (omega arith)) (λ k l.
    let k_to = l.to in
    reads_rising same k 0 n rising_number_at number Any (λ low high lt le. reads_flight low high lt (omega arith)) (omega arith)))))))))))))))
