-- Two texts written one after the other are written as one text.
use Rattle.std.proofs.Common.{◌≡◌, ℕ, ◌+◌, ◌≤◌, List, [], ◌++◌, length, take, refl, sym, ◌∙◌, ap, subst, arith, length-append, append-nil, append_assoc, Result, Ok, Err}
use Rattle.std.proofs.lemmas.List.{take-append-le}
use Rattle.std.proofs.Math.Seq.{take-append-add}
use Rattle.std.proofs.KnownBytes.{Appends-nil, Appends-trans}
use Rattle.std.specs.declared.option.Option.{Option}
use Rattle.outside_io.specs.declared.whole.WriteFault.{WriteFault}
use Rattle.outside_io.specs.Views.{SinkView}
use Rattle.outside_io.specs.WholeWrite.{TakesText, FaultsByWrite, stalls_by}
use Rattle.outside_io.specs.Writes.{Writes}

-- after the whole first text, what the second's answer says of it
pub taken_then : {T U : Type 0} (a b c : Option (List ℕ)) (done : T) (result : Result U WriteFault) (one two : List ℕ)
    → TakesText a b (Ok done) one → TakesText b c result two → TakesText a c result (one ++ two)
taken_then a b c done (Ok x) one two first second = Appends-trans a b c one two first second
taken_then a b c done (Err fault) one two first second = (
  length one + second.0,
  omega (arith, length-append one two, second.1),
  rw (take-append-add one two second.0) (Appends-trans a b c one (take second.0 two) first second.2),
)

-- a fault in the first text is one in both
pub taken_fault : (T U : Type 0) (a b : Option (List ℕ)) (fault : WriteFault) (one two : List ℕ)
    → TakesText {T = T} a b (Err fault) one → TakesText {T = U} a b (Err fault) (one ++ two)
taken_fault T U a b fault one two first =
    let within : first.0 ≤ length one = omega (arith, first.1) in (
      first.0,
      omega (arith, length-append one two, first.1),
      rw (take-append-le first.0 one two within) first.2,
    )

pub faults_then : {T U : Type 0} (f g h : ℕ) (done : T) (result : Result U WriteFault)
    → FaultsByWrite f g (Ok done) → FaultsByWrite g h result → FaultsByWrite f h result
faults_then f g h done result first second = let P : ℕ → Type 0 = λ count. FaultsByWrite count h result in subst P first second

pub stalls_then : {T U : Type 0} (s t u : ℕ) (done : T) (result : Result U WriteFault)
    → t ≡ stalls_by s (Ok done) → u ≡ stalls_by t result → u ≡ stalls_by s result
stalls_then s t u done result first second = second ∙ ap (λ count. stalls_by count result) first

-- the same of all that a write does to a sink
pub writes_then : {a b c : SinkView} {result : Result (Unit {0}) WriteFault} {one two : List ℕ}
    → Writes a b (Ok tt) one → Writes b c result two → Writes a c result (one ++ two)
writes_then {a} {b} {c} {result} {one} {two} first second =
    record {
      bytes = taken_then {T = Unit {0}} a.taken b.taken c.taken tt result one two first.bytes second.bytes;
      known = second.known ∙ first.known;
      failures = faults_then {T = Unit {0}} a.failures b.failures c.failures tt result first.failures second.failures;
      failures_later = omega (arith, first.failures_later, second.failures_later);
      stalls = stalls_then {T = Unit {0}} a.stalls b.stalls c.stalls tt result first.stalls second.stalls;
      stalls_later = omega (arith, first.stalls_later, second.stalls_later);
    }

pub writes_fault : {a b : SinkView} {fault : WriteFault} {one : List ℕ} (two : List ℕ)
    → Writes a b (Err fault) one → Writes a b (Err fault) (one ++ two)
writes_fault {a} {b} {fault} {one} two first =
    record {
      bytes = taken_fault (Unit {0}) (Unit {0}) a.taken b.taken fault one two first.bytes;
      known = first.known;
      failures = first.failures;
      failures_later = first.failures_later;
      stalls = first.stalls;
      stalls_later = first.stalls_later;
    }

-- nothing is written
pub writes_none : (a : SinkView) → Writes a a (Ok tt) []
writes_none a =
    record {
      bytes = Appends-nil a.taken;
      known = refl;
      failures = refl;
      failures_later = omega arith;
      stalls = refl;
      stalls_later = omega arith;
    }

-- a text was written up to what is left of it
pub record Progress (before now : SinkView) (whole left : List ℕ) : Type 0 where
  pub written : List ℕ
  pub parts : whole ≡ written ++ left
  pub so_far : Writes before now (Ok tt) written

-- nothing of it is written yet
pub progress_none : (a : SinkView) (whole : List ℕ) → Progress a a whole whole
progress_none a whole = record { written = []; parts = refl; so_far = writes_none a }

-- its next part is written
pub progress_more : {a b c : SinkView} {whole left next : List ℕ} (rest : List ℕ) → left ≡ next ++ rest
    → Progress a b whole left → Writes b c (Ok tt) next → Progress a c whole rest
progress_more {next} rest parts before more =
    record {
      written = before.written ++ next;
      parts = before.parts ∙ ap (λ left. before.written ++ left) parts ∙ sym (append_assoc before.written next rest);
      so_far = writes_then before.so_far more;
    }

-- the write of its next part failed
pub progress_fault : {a b c : SinkView} {fault : WriteFault} {whole left next : List ℕ} (rest : List ℕ) → left ≡ next ++ rest
    → Progress a b whole left → Writes b c (Err fault) next → Writes a c (Err fault) whole
progress_fault {a} {c} {fault} rest parts before failed =
    let all = before.parts ∙ ap (λ left. before.written ++ left) parts in
    subst (λ text. Writes a c (Err fault) text) (sym all) (writes_then before.so_far (writes_fault rest failed))

-- nothing of it is left
pub progress_all : {a b : SinkView} {whole : List ℕ} → Progress a b whole [] → Writes a b (Ok tt) whole
progress_all {a} {b} before =
    subst (λ text. Writes a b (Ok tt) text) (sym (before.parts ∙ append-nil before.written)) before.so_far

-- the same write, of a text in other words
pub writes_as : {a b : SinkView} {result other : Result (Unit {0}) WriteFault} {text same : List ℕ}
    → result ≡ other → same ≡ text → Writes a b other same → Writes a b result text
writes_as {a} {b} {result} {other} {text} {same} r e w =
    subst (λ (x : Result (Unit {0}) WriteFault). Writes a b x text) (sym r) (subst (λ (x : List ℕ). Writes a b other x) e w)
