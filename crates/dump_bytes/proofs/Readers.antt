-- What a reader answers: a value in its bounds whose text stands in front, or the place up to which
-- some text goes on and from which none does. Readers one after the other keep that.
use Rattle.std.proofs.Common.{◌≡◌, ℕ, suc, Bool, true, false, cond, List, [], ◌∷◌, ◌++◌, length, Result, Ok, Err, refl, sym, ap, subst, ◌∙◌, append_assoc}
use Rattle.dump_bytes.specs.Reading.{◌>>=◌, Reader, byte_at, both_at, made_at}

-- no value's text is these good bytes with the next one, or, at the end, these alone
abbrev pub Stops : {A : Type 0} → (A → List ℕ) → (A → Type 0) → List ℕ → List ℕ → Type 0
Stops {A = A} text ok good [] = (a : A) (u : List ℕ) → ok a → text a ++ u ≡ good → ⊥
Stops {A = A} text ok good (b ∷ over) = (a : A) (u v : List ℕ) → ok a → text a ++ u ≡ good ++ (b ∷ v) → ⊥

pub record Stuck {A : Type 0} (text : A → List ℕ) (ok : A → Type 0) (bytes : List ℕ) (left : ℕ) : Type 0 where
  pub good : List ℕ
  pub over : List ℕ
  pub split : bytes ≡ good ++ over
  pub left_is : left ≡ length over
  pub value : A
  pub rest : List ℕ
  pub value_ok : ok value
  pub begins : text value ≡ good ++ rest
  pub stops : Stops text ok good over

abbrev pub Judged : {A : Type 0} → (A → List ℕ) → (A → Type 0) → List ℕ → Result (A × List ℕ) ℕ → Type 0
Judged text ok bytes (Ok x) = ok x.0 × (bytes ≡ text x.0 ++ x.1)
Judged text ok bytes (Err left) = Stuck text ok bytes left

pub record Reads {A : Type 0} (read : Reader A) (text : A → List ℕ) (ok : A → Type 0) : Type 0 where
  pub judged : (bytes : List ℕ) → Judged text ok bytes (read bytes)
  -- there is a value
  pub some : (a : A) × ok a
  -- no text begins another
  pub apart : (a b : A) (u v : List ℕ) → ok a → ok b → text a ++ u ≡ text b ++ v → (a ≡ b) × (u ≡ v)

-- ---- one value after another

module _ {A B : Type 0} (textA : A → List ℕ) (okA : A → Type 0) (textB : A → B → List ℕ) (okB : A → B → Type 0) where
  abbrev pub text_both : A × B → List ℕ
  text_both p = textA p.0 ++ textB p.0 p.1

  abbrev pub ok_both : A × B → Type 0
  ok_both p = okA p.0 × okB p.0 p.1

  stops_first : (good over : List ℕ) → Stops textA okA good over → Stops text_both ok_both good over
  stops_first good [] stops = λ p u ok e.
      stops p.0 (textB p.0 p.1 ++ u) ok.0 (sym (append_assoc (textA p.0) (textB p.0 p.1) u) ∙ e)
  stops_first good (b ∷ over) stops = λ p u v ok e.
      stops p.0 (textB p.0 p.1 ++ u) v ok.0 (sym (append_assoc (textA p.0) (textB p.0 p.1) u) ∙ e)

  stuck_first : (bytes : List ℕ) (left : ℕ) → Stuck textA okA bytes left → ((a : A) → okA a → (b : B) × okB a b) → Stuck text_both ok_both bytes left
  stuck_first bytes left s more =
      let next = more s.value s.value_ok in
      record {
        good = s.good;
        over = s.over;
        split = s.split;
        left_is = s.left_is;
        value = (s.value, next.0);
        rest = s.rest ++ textB s.value next.0;
        value_ok = (s.value_ok, next.1);
        begins = ap (λ (t : List ℕ). t ++ textB s.value next.0) s.begins ∙ append_assoc s.good s.rest (textB s.value next.0);
        stops = stops_first s.good s.over s.stops;
      }

  module _ (apart : (a b : A) (u v : List ℕ) → okA a → okA b → textA a ++ u ≡ textA b ++ v → (a ≡ b) × (u ≡ v)) (a : A) (is_ok : okA a) where
    -- a pair whose text goes on as the first one's does has it as its first
    same_first : (p : A × B) (u after : List ℕ) → ok_both p → text_both p ++ u ≡ textA a ++ after → ((b : B) → okB a b → textB a b ++ u ≡ after → ⊥) → ⊥
    same_first p u after ok e none =
        let same = apart p.0 a (textB p.0 p.1 ++ u) after ok.0 is_ok (sym (append_assoc (textA p.0) (textB p.0 p.1) u) ∙ e) in
        subst (λ (z : A). (b : B) → okB z b → textB z b ++ u ≡ after → ⊥) (sym same.0) none p.1 ok.1 same.1

    stops_second : (good over : List ℕ) → Stops (textB a) (okB a) good over → Stops text_both ok_both (textA a ++ good) over
    stops_second good [] stops = λ p u ok e. same_first p u good ok e (λ b okb f. stops b u okb f)
    stops_second good (c ∷ over) stops = λ p u v ok e.
        same_first p u (good ++ (c ∷ v)) ok (e ∙ append_assoc (textA a) good (c ∷ v)) (λ b okb f. stops b u v okb f)

    stuck_second : (bytes after : List ℕ) (left : ℕ) → bytes ≡ textA a ++ after → Stuck (textB a) (okB a) after left → Stuck text_both ok_both bytes left
    stuck_second bytes after left front s = record {
      good = textA a ++ s.good;
      over = s.over;
      split = front ∙ ap (λ (t : List ℕ). textA a ++ t) s.split ∙ sym (append_assoc (textA a) s.good s.over);
      left_is = s.left_is;
      value = (a, s.value);
      rest = s.rest;
      value_ok = (is_ok, s.value_ok);
      begins = ap (λ (t : List ℕ). textA a ++ t) s.begins ∙ sym (append_assoc (textA a) s.good s.rest);
      stops = stops_second s.good s.over s.stops;
    }

  module _ (first : Reader A) (second : A → Reader B) (reads_first : Reads first textA okA) (reads_second : (a : A) → okA a → Reads (second a) (textB a) (okB a)) where
    judged_second : (bytes : List ℕ) (x : A × List ℕ) → okA x.0 → bytes ≡ textA x.0 ++ x.1 → (r : Result (B × List ℕ) ℕ) → Judged (textB x.0) (okB x.0) x.1 r
        → Judged text_both ok_both bytes (r >>= λ y. Ok ((x.0, y.0), y.1))
    judged_second bytes x is_ok front (Ok y) j =
        ((is_ok, j.0), front ∙ ap (λ (t : List ℕ). textA x.0 ++ t) j.1 ∙ sym (append_assoc (textA x.0) (textB x.0 y.0) y.1))
    judged_second bytes x is_ok front (Err left) s = stuck_second reads_first.apart x.0 is_ok bytes x.1 left front s

    judged_first : (bytes : List ℕ) (r : Result (A × List ℕ) ℕ) → Judged textA okA bytes r
        → Judged text_both ok_both bytes (r >>= λ x. second x.0 x.1 >>= λ y. Ok ((x.0, y.0), y.1))
    judged_first bytes (Ok x) j = judged_second bytes x j.0 j.1 (second x.0 x.1) ((reads_second x.0 j.0).judged x.1)
    judged_first bytes (Err left) s = stuck_first bytes left s (λ a is_ok. (reads_second a is_ok).some)

    apart_both : (p q : A × B) (u v : List ℕ) → ok_both p → ok_both q → text_both p ++ u ≡ text_both q ++ v → (p ≡ q) × (u ≡ v)
    apart_both p q u v okp okq e =
        let one = reads_first.apart p.0 q.0 (textB p.0 p.1 ++ u) (textB q.0 q.1 ++ v) okp.0 okq.0
        (sym (append_assoc (textA p.0) (textB p.0 p.1) u) ∙ e ∙ append_assoc (textA q.0) (textB q.0 q.1) v) in
        let two = subst (λ (z : A). (b : B) → okB z b → textB z b ++ u ≡ textB q.0 q.1 ++ v → (b ≡ q.1) × (u ≡ v)) (sym one.0)
        (λ b okb f. (reads_second q.0 okq.0).apart b q.1 u v okb okq.1 f) p.1 okp.1 one.1 in
        (ap (λ (a : A). (a, p.1)) one.0 ∙ ap (λ (b : B). (q.0, b)) two.0, two.1)

    pub reads_both : Reads (both_at first second) text_both ok_both
    reads_both = record {
      judged = λ bytes. judged_first bytes (first bytes) (reads_first.judged bytes);
      some = ((reads_first.some.0, (reads_second reads_first.some.0 reads_first.some.1).some.0), (reads_first.some.1, (reads_second reads_first.some.0 reads_first.some.1).some.1));
      apart = apart_both;
    }

-- ---- a value made of another

module _ {A B : Type 0} (make : A → B) (textA : A → List ℕ) (okA : A → Type 0) (text : B → List ℕ) (ok : B → Type 0)
    (same_text : (a : A) → okA a → text (make a) ≡ textA a) (is_made : (a : A) → okA a → ok (make a)) (made_of : (b : B) → ok b → (a : A) × okA a × (make a ≡ b)) where
  stops_made : (good over : List ℕ) → Stops textA okA good over → Stops text ok good over
  stops_made good [] stops = λ b u okb e.
      let from = made_of b okb in
      stops from.0 u from.1 (ap (λ (t : List ℕ). t ++ u) (sym (same_text from.0 from.1) ∙ ap text from.2) ∙ e)
  stops_made good (c ∷ over) stops = λ b u v okb e.
      let from = made_of b okb in
      stops from.0 u v from.1 (ap (λ (t : List ℕ). t ++ u) (sym (same_text from.0 from.1) ∙ ap text from.2) ∙ e)

  judged_made : (bytes : List ℕ) (r : Result (A × List ℕ) ℕ) → Judged textA okA bytes r → Judged text ok bytes (r >>= λ x. Ok (make x.0, x.1))
  judged_made bytes (Ok x) j = (is_made x.0 j.0, j.1 ∙ ap (λ (t : List ℕ). t ++ x.1) (sym (same_text x.0 j.0)))
  judged_made bytes (Err left) s = record {
    good = s.good;
    over = s.over;
    split = s.split;
    left_is = s.left_is;
    value = make s.value;
    rest = s.rest;
    value_ok = is_made s.value s.value_ok;
    begins = same_text s.value s.value_ok ∙ s.begins;
    stops = stops_made s.good s.over s.stops;
  }

  pub reads_made : (read : Reader A) → Reads read textA okA → Reads (made_at make read) text ok
  reads_made read reads = record {
    judged = λ bytes. judged_made bytes (read bytes) (reads.judged bytes);
    some = (make reads.some.0, is_made reads.some.0 reads.some.1);
    apart = λ b c u v okb okc e.
        let from = made_of b okb in
        let to = made_of c okc in
        let same = reads.apart from.0 to.0 u v from.1 to.1
        (ap (λ (t : List ℕ). t ++ u) (sym (same_text from.0 from.1) ∙ ap text from.2) ∙ e ∙ ap (λ (t : List ℕ). t ++ v) (sym (ap text to.2) ∙ same_text to.0 to.1)) in
        (sym from.2 ∙ ap make same.0 ∙ to.2, same.1);
  }

-- ---- one byte, and none

module _ (test : ℕ → Bool) where
  elim_test : (c : ℕ) (bytes : List ℕ) (b : ℕ) → test b ≡ true → (v : Bool) → test c ≡ v → Judged (λ c. c ∷ []) (λ c. test c ≡ true) (c ∷ bytes) (cond v (Ok (c, bytes)) (Err (suc (length bytes))))
  elim_test c bytes b passes true is = (is, refl)
  elim_test c bytes b passes false is = record {
    good = [];
    over = c ∷ bytes;
    split = refl;
    left_is = refl;
    value = b;
    rest = b ∷ [];
    value_ok = passes;
    begins = refl;
    stops = λ a u v okay e. let same : a ≡ c = cc in let not : test a ≡ false = ap test same ∙ is in cc;
  }

  judged_byte : (bytes : List ℕ) → (b : ℕ) → test b ≡ true → Judged (λ c. c ∷ []) (λ c. test c ≡ true) bytes (byte_at test bytes)
  judged_byte [] b passes = record {
    good = [];
    over = [];
    split = refl;
    left_is = refl;
    value = b;
    rest = b ∷ [];
    value_ok = passes;
    begins = refl;
    stops = λ a u okay e. cc;
  }
  judged_byte (c ∷ bytes) b passes =
      elim_test c bytes b passes (test c) refl

  pub reads_byte : (b : ℕ) → test b ≡ true → Reads (byte_at test) (λ c. c ∷ []) (λ c. test c ≡ true)
  reads_byte b passes = record {
    judged = λ bytes. judged_byte bytes b passes;
    some = (b, passes);
    apart = λ c d u v okc okd e. let same : c ≡ d = cc in let after : u ≡ v = cc in (same, after);
  }

-- ---- bounds said in other words

module _ {A : Type 0} (text : A → List ℕ) (ok also : A → Type 0) where
  stops_as : ((a : A) → also a → ok a) → (good over : List ℕ) → Stops text ok good over → Stops text also good over
  stops_as back good [] stops = λ a u is e. stops a u (back a is) e
  stops_as back good (c ∷ over) stops = λ a u v is e. stops a u v (back a is) e

  judged_as : ((a : A) → ok a → also a) → ((a : A) → also a → ok a) → (bytes : List ℕ) (r : Result (A × List ℕ) ℕ) → Judged text ok bytes r → Judged text also bytes r
  judged_as to back bytes (Ok x) j = (to x.0 j.0, j.1)
  judged_as to back bytes (Err left) s = record {
    good = s.good;
    over = s.over;
    split = s.split;
    left_is = s.left_is;
    value = s.value;
    rest = s.rest;
    value_ok = to s.value s.value_ok;
    begins = s.begins;
    stops = stops_as back s.good s.over s.stops;
  }

  pub reads_as : (read : Reader A) → ((a : A) → ok a → also a) → ((a : A) → also a → ok a) → Reads read text ok → Reads read text also
  reads_as read to back reads = record {
    judged = λ bytes. judged_as to back bytes (read bytes) (reads.judged bytes);
    some = (reads.some.0, to reads.some.0 reads.some.1);
    apart = λ a b u v p q e. reads.apart a b u v (back a p) (back b q) e;
  }
