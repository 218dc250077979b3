-- The first of the lines that are left, and those behind it; the last write of a text.
use Rattle.std.proofs.Common.{◌≡◌, ℕ, ◌+◌, ◌<◌, List, [], ◌∷◌, ◌++◌, count_by, length, get_or, drop, map, sym, ap, subst, ◌∙◌, add-one, drop-cons, Result}
use Rattle.std.specs.List.{flat_map}
use Rattle.std.proofs.lemmas.List.{drop_more, append_assoc}
use Rattle.std.proofs.lemmas.List.Sums.{sum_by-append}
use Rattle.outside_io.specs.Views.{SinkView}
use Rattle.outside_io.specs.Writes.{Writes}
use Rattle.outside_io.specs.declared.whole.WriteFault.{WriteFault}
use Rattle.outside_io.proofs.WritesInTurn.{Progress, writes_then}
use Rattle.dump_bytes.specs.declared.dump.FrameRec.{FrameRec}
use Rattle.dump_bytes.specs.declared.dump.ProcRec.{ProcRec}
use Rattle.dump_bytes.specs.declared.dump.SlotRec.{SlotRec}
use Rattle.dump_bytes.specs.Dumped.{process_of}
use Rattle.dump_lines.specs.Checks.{checks_from, checks_of}
use Rattle.dump_lines.specs.declared.counts.Counts.{Counts}
use Rattle.dump_lines.specs.FrameLines.{frame_line, frame_lines}
use Rattle.dump_lines.specs.ListLines.{on_line}
use Rattle.dump_lines.specs.ProcessLines.{one_process, process_lines, slot_line, slot_lines}
use Rattle.dump_lines.specs.Wrong.{is_wrong}
use Rattle.dump_lines.specs.WrongLines.{wrong_line, wrong_lines}

drop-first : {X : Type 0} (xs : List X) (i : ℕ) (d : X) → i < length xs → drop i xs ≡ get_or xs i d ∷ drop (i + 1) xs
drop-first xs i d within = rw add-one (drop-cons xs i d within)

pub frame_lines-next : (rows : List FrameRec) (i : ℕ) (d : FrameRec) → i < length rows
    → frame_lines i (drop i rows) ≡ frame_line i (get_or rows i d) ++ frame_lines (i + 1) (drop (i + 1) rows)
frame_lines-next rows i d within = ap (frame_lines i) (drop-first rows i d within)

pub slot_lines-next : (x : ℕ) (slots : List SlotRec) (i : ℕ) (d : SlotRec) → i < length slots
    → slot_lines x i (drop i slots) ≡ slot_line x i (get_or slots i d) ++ slot_lines x (i + 1) (drop (i + 1) slots)
slot_lines-next x slots i d within = ap (slot_lines x i) (drop-first slots i d within)

pub process_lines-next : (procs : List ProcRec) (i : ℕ) (p : ProcRec) → i < length procs → p ≡ get_or procs i p
    → process_lines i (map process_of (drop i procs)) ≡ one_process i (process_of p) ++ process_lines (i + 1) (map process_of (drop (i + 1) procs))
process_lines-next procs i p within is =
    ap (λ (ps : List ProcRec). process_lines i (map process_of ps)) (drop-first procs i p within)
    ∙ ap (λ (q : ProcRec). one_process i (process_of q) ++ process_lines (i + 1) (map process_of (drop (i + 1) procs))) (sym is)

pub members-next : (members : List ℕ) (i d : ℕ) → i < length members → flat_map on_line (drop i members) ≡ on_line (get_or members i d) ++ flat_map on_line (drop (i + 1) members)
members-next members i d within = ap (flat_map on_line) (drop_more members i d within)

flat_map-append : {X : Type 0} (f : X → List ℕ) (xs ys : List X) → flat_map f (xs ++ ys) ≡ flat_map f xs ++ flat_map f ys
flat_map-append f [] ys = λ i. flat_map f ys
flat_map-append f (x ∷ xs) ys = ap (λ (t : List ℕ). f x ++ t) (flat_map-append f xs ys) ∙ sym (append_assoc (f x) (flat_map f xs) (flat_map f ys))

module _ (rows : List FrameRec) (counts : List Counts) (i : ℕ) (e : FrameRec) (a : Counts) (within : i < length rows) (there : i < length counts) where
  checks_next : checks_from i (drop i rows) (drop i counts) ≡ checks_of i (get_or rows i e) (get_or counts i a) ++ checks_from (i + 1) (drop (i + 1) rows) (drop (i + 1) counts)
  checks_next =
      ap (λ (xs : List FrameRec). checks_from i xs (drop i counts)) (drop-first rows i e within)
      ∙ ap (λ (cs : List Counts). checks_from i (get_or rows i e ∷ drop (i + 1) rows) cs) (drop-first counts i a there)

  pub wrong_lines-next : wrong_lines (checks_from i (drop i rows) (drop i counts))
      ≡ wrong_lines (checks_of i (get_or rows i e) (get_or counts i a)) ++ wrong_lines (checks_from (i + 1) (drop (i + 1) rows) (drop (i + 1) counts))
  wrong_lines-next =
      ap wrong_lines checks_next
      ∙ flat_map-append wrong_line (checks_of i (get_or rows i e) (get_or counts i a)) (checks_from (i + 1) (drop (i + 1) rows) (drop (i + 1) counts))

  pub wrong_count-next : count_by is_wrong (checks_from i (drop i rows) (drop i counts))
      ≡ count_by is_wrong (checks_of i (get_or rows i e) (get_or counts i a)) + count_by is_wrong (checks_from (i + 1) (drop (i + 1) rows) (drop (i + 1) counts))
  wrong_count-next =
      ap (count_by is_wrong) checks_next
      ∙ sum_by-append _ (checks_of i (get_or rows i e) (get_or counts i a)) (checks_from (i + 1) (drop (i + 1) rows) (drop (i + 1) counts))

-- the write of the last part of a text
pub progress_last : {a b c : SinkView} {result : Result (Unit {0}) WriteFault} {whole last : List ℕ} → Progress a b whole last → Writes b c result last → Writes a c result whole
progress_last {a} {b} {c} {result} before more = subst (λ (text : List ℕ). Writes a c result text) (sym before.parts) (writes_then before.so_far more)
