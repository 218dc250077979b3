-- A process is read as its bounds and its text say.
use Rattle.std.proofs.Common.{◌≡◌, ℕ, ◌-◌, ◌^◌, ◌<◌, ◌≤◌, true, List, [], ◌∷◌, ◌++◌, length, map, refl, sym, ap, ◌∙◌, append_assoc, lit<, arith}
use Rattle.std.specs.Prelude.{◌==◌, nat_lt}
use Rattle.std.specs.List.{flat_map, AllByRecursion}
use Rattle.std.proofs.lemmas.Bool.{ltb-true, lt-ltb, eqb-true, eq-eqb}
use Rattle.vm_types.specs.declared.limits.TheConstants.{MOST_EXTENT, MOST_FRAMES}
use Rattle.dump_bytes.specs.declared.dump.SlotRec.{SlotRec}
use Rattle.dump_bytes.specs.Dumped.{Process}
use Rattle.dump_bytes.specs.Text.{number, slot_text, word_text, process_text}
use Rattle.dump_bytes.specs.Bounds.{IsSlot, IsValidEntry, IsValidWord, IsProcess}
use Rattle.dump_bytes.specs.Reading.{entry_at, process_at, letters_at}
use Rattle.dump_bytes.proofs.Readers.{Reads, reads_both, reads_made, reads_as}
use Rattle.dump_bytes.proofs.ListReaders.{AreItems, AreRising, IsBetween, reads_items, reads_rising}
use Rattle.dump_bytes.proofs.Rising.{rises_each, rises_ascends, rises_of}
use Rattle.dump_bytes.proofs.Numbers.{IsWithin, reads_number}
use Rattle.dump_bytes.proofs.Slots.{AreZeros, zeros_text, zeros_are, reads_exactly, reads_zeros, reads_slot}
use Rattle.dump_bytes.proofs.Frames.{reads_below, reads_any}
use Rattle.dump_bytes.proofs.Words.{reads_word}

abbrev vpn_of : ℕ × ℕ → ℕ
vpn_of w = w.0

pub reads_entry : (frames low high : ℕ) → 0 < frames → frames ≤ MOST_FRAMES → low < high → high ≤ 4194304 → Reads (entry_at frames low high) word_text (IsBetween vpn_of (IsValidEntry frames) low high)
reads_entry frames low high some few lt le =
    reads_as word_text (λ w. IsWithin low (high - 1) w.0 × IsValidWord frames w.1) (IsBetween vpn_of (IsValidEntry frames) low high) (entry_at frames low high)
    (λ w i. let f = i.0.from in let t = i.0.to in record { is_ok = record { vpn = omega arith; word = i.1 }; from = f; below = omega arith })
    (λ w i. let b = i.below in (record { from = i.from; to = omega arith }, i.is_ok.word))
    (reads_both _ _ _ _ _ _ (reads_number 4 low (high - 1) (omega arith) (omega arith)) (λ v i. reads_word frames some few))

abbrev Parts : Type 0
Parts = ℕ × ((ℕ × (ℕ × ℕ)) × (ℕ × (ℕ × (ℕ × (List SlotRec × (ℕ × List (ℕ × ℕ)))))))

abbrev process_from : Parts → Process
process_from p = record { status = p.0; hand = p.1.1.1.0; limit = p.1.1.1.1.0; slots = p.1.1.1.1.1.0; words = p.1.1.1.1.1.1.1 }

abbrev AreParts : ℕ → Parts → Type 0
AreParts frames p =
    (nat_lt p.0 4 ≡ true) × (AreZeros p.1.0 × (IsWithin 1 MOST_EXTENT p.1.1.0 × (IsWithin 0 (p.1.1.0 - 1) p.1.1.1.0 × (IsWithin 0 (2 ^ 32 - 1) p.1.1.1.1.0
    × (AreItems IsSlot p.1.1.0 p.1.1.1.1.1.0 × (IsWithin 0 p.1.1.0 p.1.1.1.1.1.1.0 × AreRising vpn_of (IsValidEntry frames) p.1.1.1.1.1.1.0 0 4194304 p.1.1.1.1.1.1.1))))))

abbrev parts_text : Parts → List ℕ
parts_text p = (p.0 ∷ []) ++ (zeros_text p.1.0 ++ (number p.1.1.0 ++ (number p.1.1.1.0 ++ (number p.1.1.1.1.0 ++ (flat_map slot_text p.1.1.1.1.1.0 ++ (number p.1.1.1.1.1.1.0 ++ flat_map word_text p.1.1.1.1.1.1.1))))))

abbrev joined : ℕ → ℕ → ℕ → ℕ → ℕ → List ℕ → List ℕ → List ℕ
joined s n h l c slots words = (s ∷ 0 ∷ 0 ∷ 0 ∷ []) ++ number n ++ number h ++ number l ++ slots ++ number c ++ words

same_text : (frames : ℕ) (p : Parts) → AreParts frames p → process_text (process_from p) ≡ parts_text p
same_text frames p i =
    let s = p.0 in
    let h = p.1.1.1.0 in
    let l = p.1.1.1.1.0 in
    let slots = flat_map slot_text p.1.1.1.1.1.0 in
    let words = flat_map word_text p.1.1.1.1.1.1.1 in
    ap (λ (n : ℕ). joined s n h l (length p.1.1.1.1.1.1.1) slots words) i.1.1.1.1.1.0.count_is
    ∙ ap (λ (c : ℕ). joined s p.1.1.0 h l c slots words) i.1.1.1.1.1.1.1.count_is
    ∙ ap (λ (t : List ℕ). (s ∷ 0 ∷ 0 ∷ 0 ∷ []) ++ (number p.1.1.0 ++ (number h ++ (number l ++ t)))) (append_assoc slots (number p.1.1.1.1.1.1.0) words)
    ∙ zeros_are s p.1.0 (number p.1.1.0 ++ (number h ++ (number l ++ (slots ++ (number p.1.1.1.1.1.1.0 ++ words))))) i.1.0

process_is : (frames : ℕ) (p : Parts) → AreParts frames p → IsProcess frames (process_from p)
process_is frames p i =
    let n = i.1.1.0 in
    let n_from = n.from in
    let n_to = n.to in
    let h = i.1.1.1.0.to in
    let l = i.1.1.1.1.0.to in
    let few = i.1.1.1.1.1.0.count_is in
    let c = i.1.1.1.1.1.1.0.to in
    let words = i.1.1.1.1.1.1.1 in
    let count = words.count_is in
    record {
      status = ltb-true p.0 4 i.0;
      few_slots = (omega arith, omega arith);
      hand = omega arith;
      limit = omega arith;
      slots = i.1.1.1.1.1.0.each;
      few_words = omega arith;
      words = rises_each vpn_of (IsValidEntry frames) 0 4194304 p.1.1.1.1.1.1.1 words.rises;
      ascends = rises_ascends vpn_of (IsValidEntry frames) 0 4194304 p.1.1.1.1.1.1.1 words.rises;
    }

entries_below : (frames : ℕ) (ws : List (ℕ × ℕ)) → AllByRecursion (IsValidEntry frames) ws → AllByRecursion (λ n. n < 4194304) (map vpn_of ws)
entries_below frames [] h = tt
entries_below frames (w ∷ ws) h = let a = h.0.vpn in (omega arith, entries_below frames ws h.1)

pub from_zero : (ns : List ℕ) → AllByRecursion (λ n. 0 ≤ n) ns
from_zero [] = tt
from_zero (n ∷ ns) = (omega arith, from_zero ns)

process_made : (frames : ℕ) (q : Process) → IsProcess frames q → (p : Parts) × AreParts frames p × (process_from p ≡ q)
process_made frames q i =
    let few_from = i.few_slots.0 in
    let few_to = i.few_slots.1 in
    let h = i.hand in
    let l = i.limit in
    let c = i.few_words in (
      (q.status, ((0, (0, 0)), (length q.slots, (q.hand, (q.limit, (q.slots, (length q.words, q.words))))))),
      (
        lt-ltb q.status 4 i.status,
        (
          (refl, (refl, refl)),
          (
            record { from = few_from; to = few_to },
            (
              record { from = omega arith; to = omega arith },
              (
                record { from = omega arith; to = omega arith },
                (
                  record { count_is = refl; each = i.slots },
                  (
                    record { from = omega arith; to = c },
                    record { count_is = refl; rises = rises_of vpn_of (IsValidEntry frames) 0 4194304 q.words i.words (entries_below frames q.words i.words) (from_zero (map vpn_of q.words)) i.ascends },
                  ),
                ),
              ),
            ),
          ),
        ),
      ),
      refl,
    )

pub reads_process : (frames : ℕ) → 0 < frames → frames ≤ MOST_FRAMES → Reads (process_at frames) process_text (IsProcess frames)
reads_process frames some few =
    reads_made process_from _ _ process_text (IsProcess frames) (same_text frames) (process_is frames) (process_made frames)
    _ (reads_both _ _ _ _ _ _ (reads_below 4 (omega arith)) (λ s a. reads_both _ _ _ _ _ _ reads_zeros (λ z b. reads_both _ _ _ _ _ _ (reads_number 4 1 MOST_EXTENT (omega arith) (lit< tt)) (λ n c.
    let n_to = c.to in
    reads_both _ _ _ _ _ _ (reads_number 4 0 (n - 1) (omega arith) (omega arith)) (λ h d. reads_both _ _ _ _ _ _ reads_any (λ l e.
    reads_both _ _ _ _ _ _ (reads_items n _ slot_text IsSlot reads_slot) (λ slots f. reads_both _ _ _ _ _ _ (reads_number 4 0 n (omega arith) (omega arith)) (λ k g.
    let k_to = g.to in
    reads_rising vpn_of k 0 4194304 (entry_at frames) word_text (IsValidEntry frames) (λ low high lt le. reads_entry frames low high some few lt le) (omega arith)))))))))

letters_of : (c : ℕ) (cs xs : List ℕ) → xs ≡ (c ∷ cs) → (p : ℕ × List ℕ) × (((p.0 == c) ≡ true) × (p.1 ≡ cs)) × ((p.0 ∷ p.1) ≡ xs)
letters_of c cs xs e = ((c, cs), (eq-eqb c c refl, refl), sym e)

pub reads_letters : (cs : List ℕ) → Reads (letters_at cs) (λ xs. xs) (λ xs. xs ≡ cs)
reads_letters [] = record {
  judged = λ bytes. (refl, refl);
  some = ([], refl);
  apart = λ a b u v p q e. (p ∙ sym q, ap (λ (t : List ℕ). t ++ u) (sym p) ∙ e ∙ ap (λ (t : List ℕ). t ++ v) q);
}
reads_letters (c ∷ cs) =
    reads_made (λ p. p.0 ∷ p.1) _ _ (λ xs. xs) (λ xs. xs ≡ (c ∷ cs)) (λ p i. refl) (λ p i. let a = eqb-true p.0 c i.0 in let b = i.1 in cc) (letters_of c cs)
    _ (reads_both _ _ _ _ _ _ (reads_exactly c) (λ b i. reads_letters cs))
