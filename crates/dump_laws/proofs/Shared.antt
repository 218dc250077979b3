-- The shares and the pins of a frame, counted over the processes of a dump, are those of the pager.
use Rattle.std.proofs.Common.{◌≡◌, ◌⊎◌, inl, inr, ℕ, zero, suc, ◌+◌, ◌<◌, ◌≤◌, Bool, true, false, cond, ◌&&◌, ◌||◌, List, [], ◌∷◌, Option, Some, None, count_by, filter, length, map, nat_eq, nat_le, nat_lt, refl, sym, ap, ◌∙◌, arith}
use Rattle.std.specs.Prelude.{sum_by}
use Rattle.std.specs.List.{AllByRecursion, range_with_len}
use Rattle.std.proofs.lemmas.Bool.{cases_eq, cases_lt, eq-eqb, eqb-true, le-leb, lt-leb, lt-ltb, le-ltb, ne_eqb}
use Rattle.std.proofs.lemmas.List.Sums.{sum_by-append, sum_by-cons}
use Rattle.vm_types.specs.Ring.{Held}
use Rattle.vm_types.specs.declared.config.Config.{Config}
use Rattle.state_fits.specs.Frames.{frame_pins, is_pin_on}
use Rattle.pager_model.specs.Around.{PastView}
use Rattle.pager_model.specs.Lookups.{has_pin, has_vpn, pins_with, shares}
use Rattle.pager_model.specs.Pager.{Pager, Valid}
use Rattle.pager_rules.proofs.Basics.{count_cons, count_cons_no, count_cons_yes}
use Rattle.pager_rules.specs.Kept.{IsKept}
use Rattle.dump_bytes.specs.Dumped.{Process}
use Rattle.dump_lines.specs.Pins.{has_entry, is_pin, pins_in}
use Rattle.dump_lines.specs.Shares.{entries, is_for}
use Rattle.dump_lines.specs.WordFrame as bits
use Rattle.dump_laws.specs.DumpAfter.{dumped_slot, entry_word, pages_of, process_at, valid_pages, words_of}
use Rattle.dump_laws.proofs.Entries.{IsShown, is_own, is_share, own_shares, pages_once, same_pages, slot_times}
use Rattle.dump_laws.proofs.Numbers.{count_ascending, count_filter, count_map, one_if, same_passed, times}

-- ---- what is counted of each process is counted of all
abbrev is_among : ℕ → ℕ → Valid → Bool
is_among s n e = nat_le s e.proc && nat_lt e.proc (s + n)

-- the first process, and those behind it
next_process : (s n p : ℕ) (t : Bool) → one_if ((nat_le s p && nat_lt p (s + suc n)) && t) ≡ one_if (nat_eq p s && t) + one_if ((nat_le (s + 1) p && nat_lt p (s + 1 + n)) && t)
next_process s n p t = by (cases_eq p s) (cases_lt p s) (cases_lt p (s + suc n))
  where
    at : (x y z u w : Bool) → nat_le s p ≡ x → nat_lt p (s + suc n) ≡ y → nat_eq p s ≡ z → nat_le (s + 1) p ≡ u → nat_lt p (s + 1 + n) ≡ w
        → one_if ((x && y) && t) ≡ one_if (z && t) + one_if ((u && w) && t)
        → one_if ((nat_le s p && nat_lt p (s + suc n)) && t) ≡ one_if (nat_eq p s && t) + one_if ((nat_le (s + 1) p && nat_lt p (s + 1 + n)) && t)
    at x y z u w a b c d e sums =
        let left : one_if ((nat_le s p && nat_lt p (s + suc n)) && t) ≡ one_if ((x && y) && t) = ap (λ (v : Bool). one_if ((v && nat_lt p (s + suc n)) && t)) a ∙ ap (λ (v : Bool). one_if ((x && v) && t)) b in
        let first : one_if (nat_eq p s && t) ≡ one_if (z && t) = ap (λ (v : Bool). one_if (v && t)) c in
        let others : one_if ((nat_le (s + 1) p && nat_lt p (s + 1 + n)) && t) ≡ one_if ((u && w) && t) = ap (λ (v : Bool). one_if ((v && nat_lt p (s + 1 + n)) && t)) d ∙ ap (λ (v : Bool). one_if ((u && v) && t)) e in
        omega (arith, left, first, others, sums)

    by : (p ≡ s) ⊎ (p ≡ s → ⊥) → (p < s) ⊎ (s ≤ p) → (p < s + suc n) ⊎ (s + suc n ≤ p)
        → one_if ((nat_le s p && nat_lt p (s + suc n)) && t) ≡ one_if (nat_eq p s && t) + one_if ((nat_le (s + 1) p && nat_lt p (s + 1 + n)) && t)
    by (inl is) low high =
        at true true true false (nat_lt p (s + 1 + n)) (le-leb s p (omega (arith, is))) (lt-ltb p (s + suc n) (omega (arith, is))) (eq-eqb p s is) (lt-leb (s + 1) p (omega (arith, is))) refl (omega arith)
    by (inr other) (inl low) high =
        at false (nat_lt p (s + suc n)) false false (nat_lt p (s + 1 + n)) (lt-leb s p low) refl (ne_eqb p s other) (lt-leb (s + 1) p (omega (arith, low))) refl (omega arith)
    by (inr other) (inr high) (inl less) =
        at true true false true true (le-leb s p high) (lt-ltb p (s + suc n) less) (ne_eqb p s other) (le-leb (s + 1) p (omega (arith, high, other))) (lt-ltb p (s + 1 + n) (omega (arith, less))) (omega arith)
    by (inr other) (inr high) (inr more) =
        at true false false true false (le-leb s p high) (le-ltb p (s + suc n) more) (ne_eqb p s other) (le-leb (s + 1) p (omega (arith, high, other))) (le-ltb p (s + 1 + n) (omega (arith, more))) (omega arith)

one_process_more : (s n : ℕ) (t : Valid → Bool) (valid : List Valid)
    → count_by (λ (e : Valid). is_among s (suc n) e && t e) valid ≡ count_by (λ (e : Valid). is_own s e && t e) valid + count_by (λ (e : Valid). is_among (s + 1) n e && t e) valid
one_process_more s n t [] = refl
one_process_more s n t (e ∷ valid) =
    let all = count_cons (λ (x : Valid). is_among s (suc n) x && t x) e valid in
    let own = count_cons (λ (x : Valid). is_own s x && t x) e valid in
    let others = count_cons (λ (x : Valid). is_among (s + 1) n x && t x) e valid in
    let here = next_process s n e.proc (t e) in
    let rest = one_process_more s n t valid in
    omega (arith, all, own, others, here, rest)

no_process : (s : ℕ) (t : Valid → Bool) (valid : List Valid) → count_by (λ (e : Valid). is_among s 0 e && t e) valid ≡ 0
no_process s t [] = refl
no_process s t (e ∷ valid) =
    let step = count_cons (λ (x : Valid). is_among s 0 x && t x) e valid in
    let here = by (cases_lt e.proc s) in
    let rest = no_process s t valid in
    omega (arith, step, here, rest)
  where
    by : (e.proc < s) ⊎ (s ≤ e.proc) → one_if (is_among s 0 e && t e) ≡ 0
    by (inl low) = ap (λ (b : Bool). one_if ((b && nat_lt e.proc (s + 0)) && t e)) (lt-leb s e.proc low)
    by (inr high) = ap (λ (b : Bool). one_if ((nat_le s e.proc && b) && t e)) (le-ltb e.proc (s + 0) (omega (arith, high))) ∙ never (nat_le s e.proc)
      where
        never : (b : Bool) → one_if ((b && false) && t e) ≡ 0
        never true = refl
        never false = refl

each_process : (t : Valid → Bool) (valid : List Valid) (s n : ℕ)
    → sum_by (λ (p : ℕ). count_by (λ (e : Valid). is_own p e && t e) valid) (range_with_len s n) ≡ count_by (λ (e : Valid). is_among s n e && t e) valid
each_process t valid s zero = sym (no_process s t valid)
each_process t valid s (suc n) =
    let first = sum_by-cons (λ (p : ℕ). count_by (λ (e : Valid). is_own p e && t e) valid) s (range_with_len (s + 1) n) in
    let all = one_process_more s n t valid in
    let rest = each_process t valid (s + 1) n in
    omega (arith, first, all, rest)

all_among : (config : Config) (a : Pager) (t : Valid → Bool) (valid : List Valid) → AllByRecursion (IsShown config a) valid
    → count_by (λ (e : Valid). is_among 0 (length config.procs) e && t e) valid ≡ count_by t valid
all_among config a t [] all = refl
all_among config a t (e ∷ valid) all =
    let left = count_cons (λ (x : Valid). is_among 0 (length config.procs) x && t x) e valid in
    let right = count_cons t e valid in
    let here : one_if (is_among 0 (length config.procs) e && t e) ≡ one_if (t e) =
    ap (λ (b : Bool). one_if ((b && nat_lt e.proc (0 + length config.procs)) && t e)) (le-leb 0 e.proc (omega arith))
    ∙ ap (λ (b : Bool). one_if (b && t e)) (lt-ltb e.proc (0 + length config.procs) (let process = (all.0).process in omega (arith, process))) in
    let rest = all_among config a t valid all.1 in
    omega (arith, left, right, here, rest)

pub over_processes : (config : Config) (a : Pager) (t : Valid → Bool) → AllByRecursion (IsShown config a) a.valid
    → sum_by (λ (p : ℕ). count_by (λ (e : Valid). is_own p e && t e) a.valid) (range_with_len 0 (length config.procs)) ≡ count_by t a.valid
over_processes config a t all = each_process t a.valid 0 (length config.procs) ∙ all_among config a t a.valid all

-- what a function of the processes gives is counted alike
same_sums : (f g : ℕ → ℕ) → ((p : ℕ) → f p ≡ g p) → (ps : List ℕ) → sum_by f ps ≡ sum_by g ps
same_sums f g same [] = refl
same_sums f g same (p ∷ ps) =
    let left = sum_by-cons f p ps in
    let right = sum_by-cons g p ps in
    let here = same p in
    let rest = same_sums f g same ps in
    omega (arith, left, right, here, rest)

-- ---- shares
shares_by_process : (a : Pager) (f : ℕ) (ps : List ℕ) → count_by (is_for f) (entries (map (process_at a) ps)) ≡ sum_by (λ (p : ℕ). count_by (is_for f) (words_of a p)) ps
shares_by_process a f [] = refl
shares_by_process a f (p ∷ ps) =
    sum_by-append (λ (w : ℕ × ℕ). one_if (is_for f w)) (words_of a p) (entries (map (process_at a) ps))
    ∙ ap (λ (k : ℕ). count_by (is_for f) (words_of a p) + k) (shares_by_process a f ps)
    ∙ sym (sum_by-cons (λ (q : ℕ). count_by (is_for f) (words_of a q)) p ps)

abbrev pub is_word_for : Pager → ℕ → ℕ → ℕ → Bool
is_word_for a p f v = nat_eq (bits.frame_of (entry_word a p v)) f

process_shares : (config : Config) (a : Pager) (f : ℕ) → AllByRecursion (IsShown config a) a.valid → (p : ℕ)
    → count_by (is_for f) (words_of a p) ≡ count_by (λ (e : Valid). is_own p e && is_share f e) a.valid
process_shares config a f all p =
    count_map (λ (v : ℕ). (v, entry_word a p v)) (is_for f) (valid_pages a.valid p)
    ∙ count_ascending (is_word_for a p f) (pages_of a.valid p)
    ∙ own_shares config a p f a.valid all

pub same_shares : (config : Config) (a : Pager) (f : ℕ) → AllByRecursion (IsShown config a) a.valid
    → count_by (is_for f) (entries (map (process_at a) (range_with_len 0 (length config.procs)))) ≡ shares a.valid f
same_shares config a f all =
    shares_by_process a f (range_with_len 0 (length config.procs))
    ∙ same_sums (λ (p : ℕ). count_by (is_for f) (words_of a p)) (λ (p : ℕ). count_by (λ (e : Valid). is_own p e && is_share f e) a.valid) (process_shares config a f all) (range_with_len 0 (length config.procs))
    ∙ over_processes config a (is_share f) all

-- ---- pins
-- the pages of pinned slots
abbrev pinned_pages : List (Option Held) → List ℕ
pinned_pages [] = []
pinned_pages (None ∷ slots) = pinned_pages slots
pinned_pages (Some held ∷ slots) = cond held.pinned (held.vpn ∷ pinned_pages slots) (pinned_pages slots)

-- the process's entry of a page is for the frame
has_word : (words : ℕ → ℕ) (f v : ℕ) (pages : List ℕ)
    → has_entry (map (λ (u : ℕ). (u, words u)) pages) v f ≡ (nat_lt 0 (times v pages) && nat_eq (bits.frame_of (words v)) f)
has_word words f v [] = refl
has_word words f v (u ∷ pages) = go (cases_eq u v) (has_word words f v pages)
  where
    go : (u ≡ v) ⊎ (u ≡ v → ⊥) → has_entry (map (λ (n : ℕ). (n, words n)) pages) v f ≡ (nat_lt 0 (times v pages) && nat_eq (bits.frame_of (words v)) f)
        → has_entry ((u, words u) ∷ map (λ (n : ℕ). (n, words n)) pages) v f ≡ (nat_lt 0 (times v (u ∷ pages)) && nat_eq (bits.frame_of (words v)) f)
    go (inl same) rest =
        ap (λ (b : Bool). (b && nat_eq (bits.frame_of (words u)) f) || has_entry (map (λ (n : ℕ). (n, words n)) pages) v f) (eq-eqb u v same)
        ∙ ap (λ (n : ℕ). nat_eq (bits.frame_of (words n)) f || has_entry (map (λ (k : ℕ). (k, words k)) pages) v f) same
        ∙ ap (λ (b : Bool). nat_eq (bits.frame_of (words v)) f || b) rest
        ∙ absorbed (nat_eq (bits.frame_of (words v)) f) (nat_lt 0 (times v pages))
        ∙ ap (λ (b : Bool). b && nat_eq (bits.frame_of (words v)) f) (sym (lt-ltb 0 (times v (u ∷ pages)) (let all = count_cons_yes (λ (n : ℕ). nat_eq n v) u pages (eq-eqb u v same) in omega (arith, all))))
      where
        absorbed : (b c : Bool) → (b || (c && b)) ≡ (true && b)
        absorbed true c = refl
        absorbed false true = refl
        absorbed false false = refl
    go (inr other) rest =
        ap (λ (b : Bool). (b && nat_eq (bits.frame_of (words u)) f) || has_entry (map (λ (n : ℕ). (n, words n)) pages) v f) (ne_eqb u v other)
        ∙ rest
        ∙ ap (λ (n : ℕ). nat_lt 0 n && nat_eq (bits.frame_of (words v)) f) (sym (count_cons_no (λ (n : ℕ). nat_eq n v) u pages (ne_eqb u v other)))

-- pinned slots with such an entry, by their pages
slot_pins : (words : List (ℕ × ℕ)) (f : ℕ) (slots : List (Option Held))
    → count_by (is_pin words f) (map dumped_slot slots) ≡ count_by (λ (v : ℕ). has_entry words v f) (pinned_pages slots)
slot_pins words f [] = refl
slot_pins words f (None ∷ slots) = count_cons_no (is_pin words f) (dumped_slot None) (map dumped_slot slots) refl ∙ slot_pins words f slots
slot_pins words f (Some held ∷ slots) = go held.pinned refl (slot_pins words f slots)
  where
    go : (b : Bool) → held.pinned ≡ b → count_by (is_pin words f) (map dumped_slot slots) ≡ count_by (λ (v : ℕ). has_entry words v f) (pinned_pages slots)
        → count_by (is_pin words f) (dumped_slot (Some held) ∷ map dumped_slot slots) ≡ count_by (λ (v : ℕ). has_entry words v f) (cond b (held.vpn ∷ pinned_pages slots) (pinned_pages slots))
    go true is rest =
        let left = count_cons (is_pin words f) (dumped_slot (Some held)) (map dumped_slot slots) in
        let right = count_cons (λ (v : ℕ). has_entry words v f) held.vpn (pinned_pages slots) in
        let here : one_if (held.pinned && has_entry words held.vpn f) ≡ one_if (has_entry words held.vpn f) = ap (λ (b : Bool). one_if (b && has_entry words held.vpn f)) is in
        omega (arith, left, right, here, rest)
    go false is rest =
        count_cons_no (is_pin words f) (dumped_slot (Some held)) (map dumped_slot slots) (ap (λ (b : Bool). b && has_entry words held.vpn f) is) ∙ rest

pinned_times : (v : ℕ) (slots : List (Option Held)) → times v (pinned_pages slots) ≡ count_by (has_pin v) slots
pinned_times v [] = refl
pinned_times v (None ∷ slots) = pinned_times v slots ∙ sym (count_cons_no (has_pin v) None slots refl)
pinned_times v (Some held ∷ slots) = go held.pinned refl (pinned_times v slots)
  where
    go : (b : Bool) → held.pinned ≡ b → times v (pinned_pages slots) ≡ count_by (has_pin v) slots
        → times v (cond b (held.vpn ∷ pinned_pages slots) (pinned_pages slots)) ≡ count_by (has_pin v) (Some held ∷ slots)
    go true is rest =
        let left = count_cons (λ (n : ℕ). nat_eq n v) held.vpn (pinned_pages slots) in
        let right = count_cons (has_pin v) (Some held) slots in
        let here : one_if (nat_eq held.vpn v && held.pinned) ≡ one_if (nat_eq held.vpn v) = ap (λ (b : Bool). one_if (nat_eq held.vpn v && b)) is ∙ all (nat_eq held.vpn v) in
        omega (arith, left, right, here, rest)
      where
        all : (b : Bool) → one_if (b && true) ≡ one_if b
        all true = refl
        all false = refl
    go false is rest =
        let right = count_cons (has_pin v) (Some held) slots in
        let here : one_if (nat_eq held.vpn v && held.pinned) ≡ 0 = ap (λ (b : Bool). one_if (nat_eq held.vpn v && b)) is ∙ none (nat_eq held.vpn v) in
        omega (arith, right, here, rest)
      where
        none : (b : Bool) → one_if (b && false) ≡ 0
        none true = refl
        none false = refl

-- a page is pinned at most as often as it has a slot
fewer_pins : (v : ℕ) (slots : List (Option Held)) → count_by (has_pin v) slots ≤ count_by (has_vpn v) slots
fewer_pins v [] = omega arith
fewer_pins v (slot ∷ slots) =
    let left = count_cons (has_pin v) slot slots in
    let right = count_cons (has_vpn v) slot slots in
    let here = by slot in
    let rest = fewer_pins v slots in
    omega (arith, left, right, here, rest)
  where
    by : (s : Option Held) → one_if (has_pin v s) ≤ one_if (has_vpn v s)
    by None = omega arith
    by (Some held) = both (nat_eq held.vpn v) held.pinned
      where
        both : (b c : Bool) → one_if (b && c) ≤ one_if b
        both true true = omega arith
        both true false = omega arith
        both false c = omega arith

-- the pages of a process that have an entry for the frame and are pinned, by its slots and by its entries
module _ (config : Config) (o : PastView) (a : Pager) (kept : IsKept config o a) (all : AllByRecursion (IsShown config a) a.valid) (f p : ℕ) where
  abbrev by_slot : ℕ → Bool
  by_slot v = has_entry (words_of a p) v f

  abbrev by_entry : ℕ → Bool
  by_entry v = is_word_for a p f v && nat_lt 0 (pins_with (a.ring p) v)

  by_slot_is : (v : ℕ) → by_slot v ≡ (nat_lt 0 (times v (pages_of a.valid p)) && is_word_for a p f v)
  by_slot_is v =
      has_word (entry_word a p) f v (valid_pages a.valid p)
      ∙ ap (λ (n : ℕ). nat_lt 0 n && is_word_for a p f v) (count_ascending (λ (n : ℕ). nat_eq n v) (pages_of a.valid p))

  as_often : (v : ℕ) → cond (by_slot v) (times v (pinned_pages (a.ring p).slots)) 0 ≡ cond (by_entry v) (times v (pages_of a.valid p)) 0
  as_often v =
      let pinned = pinned_times v (a.ring p).slots in
      let fewer = fewer_pins v (a.ring p).slots in
      let slots = slot_times v (a.ring p).slots in
      let same = same_pages config o a kept p v in
      let once = pages_once config o a kept p v in
      ap (λ (b : Bool). cond b (times v (pinned_pages (a.ring p).slots)) 0) (by_slot_is v)
      ∙ numbers (times v (pinned_pages (a.ring p).slots)) (pins_with (a.ring p) v) (times v (pages_of a.valid p)) (is_word_for a p f v) pinned (omega (arith, fewer, slots, same)) once
    where
      numbers : (n m k : ℕ) (b : Bool) → n ≡ m → m ≤ k → k ≤ 1 → cond (nat_lt 0 k && b) n 0 ≡ cond (b && nat_lt 0 m) k 0
      numbers n m k true same less once = by (cases_lt 0 m)
        where
          by : (0 < m) ⊎ (m ≤ 0) → cond (nat_lt 0 k && true) n 0 ≡ cond (true && nat_lt 0 m) k 0
          by (inl some) =
              let one : n ≡ k = omega (arith, same, less, once, some) in
              ap (λ (c : Bool). cond (c && true) n 0) (lt-ltb 0 k (omega (arith, less, some))) ∙ one ∙ ap (λ (c : Bool). cond c k 0) (sym (lt-ltb 0 m some))
          by (inr none) =
              let no : n ≡ 0 = omega (arith, same, none) in
              either (nat_lt 0 k && true) n no ∙ ap (λ (c : Bool). cond c k 0) (sym (le-ltb 0 m none))
            where
              either : (c : Bool) (x : ℕ) → x ≡ 0 → cond c x 0 ≡ 0
              either true x none_is = none_is
              either false x none_is = refl
      numbers n m k false same less once = both (nat_lt 0 k)
        where
          both : (c : Bool) → cond (c && false) n 0 ≡ cond (false && nat_lt 0 m) k 0
          both true = refl
          both false = refl

  process_pins : count_by (is_pin (words_of a p) f) (map dumped_slot (a.ring p).slots) ≡ count_by (λ (e : Valid). is_own p e && is_pin_on a.ring f e) a.valid
  process_pins =
      slot_pins (words_of a p) f (a.ring p).slots
      ∙ same_passed by_slot by_entry (pinned_pages (a.ring p).slots) (pages_of a.valid p) as_often
      ∙ count_map (λ (e : Valid). e.vpn) by_entry (filter (is_own p) a.valid)
      ∙ count_filter (λ (e : Valid). by_entry e.vpn) (is_own p) a.valid
      ∙ same a.valid all
    where
      one : (e : Valid) (b : Bool) → is_own p e ≡ b → IsShown config a e → (b && by_entry e.vpn) ≡ (b && is_pin_on a.ring f e)
      one e true is shown =
          let proc : e.proc ≡ p = eqb-true e.proc p is in
          ap (λ (q : ℕ). nat_eq (bits.frame_of (entry_word a q e.vpn)) f && nat_lt 0 (pins_with (a.ring q) e.vpn)) (sym proc)
          ∙ ap (λ (g : ℕ). nat_eq g f && nat_lt 0 (pins_with (a.ring e.proc) e.vpn)) shown.frame
      one e false is shown = refl

      same : (xs : List Valid) → AllByRecursion (IsShown config a) xs
          → count_by (λ (e : Valid). is_own p e && by_entry e.vpn) xs ≡ count_by (λ (e : Valid). is_own p e && is_pin_on a.ring f e) xs
      same [] all = refl
      same (e ∷ xs) all =
          let left = count_cons (λ (x : Valid). is_own p x && by_entry x.vpn) e xs in
          let right = count_cons (λ (x : Valid). is_own p x && is_pin_on a.ring f x) e xs in
          let here : one_if (is_own p e && by_entry e.vpn) ≡ one_if (is_own p e && is_pin_on a.ring f e) = ap one_if (one e (is_own p e) refl all.0) in
          let rest = same xs all.1 in
          omega (arith, left, right, here, rest)

pins_by_process : (a : Pager) (f : ℕ) (ps : List ℕ) → pins_in (map (process_at a) ps) f ≡ sum_by (λ (p : ℕ). count_by (is_pin (words_of a p) f) (map dumped_slot (a.ring p).slots)) ps
pins_by_process a f [] = refl
pins_by_process a f (p ∷ ps) =
    sum_by-cons (λ (x : Process). count_by (is_pin x.words f) x.slots) (process_at a p) (map (process_at a) ps)
    ∙ ap (λ (k : ℕ). count_by (is_pin (words_of a p) f) (map dumped_slot (a.ring p).slots) + k) (pins_by_process a f ps)
    ∙ sym (sum_by-cons (λ (q : ℕ). count_by (is_pin (words_of a q) f) (map dumped_slot (a.ring q).slots)) p ps)

pub same_pins : (config : Config) (o : PastView) (a : Pager) (f : ℕ) → IsKept config o a → AllByRecursion (IsShown config a) a.valid
    → pins_in (map (process_at a) (range_with_len 0 (length config.procs))) f ≡ frame_pins a.valid a.ring f
same_pins config o a f kept all =
    pins_by_process a f (range_with_len 0 (length config.procs))
    ∙ same_sums (λ (p : ℕ). count_by (is_pin (words_of a p) f) (map dumped_slot (a.ring p).slots)) (λ (p : ℕ). count_by (λ (e : Valid). is_own p e && is_pin_on a.ring f e) a.valid)
    (λ p. process_pins config o a kept all f p) (range_with_len 0 (length config.procs))
    ∙ over_processes config a (is_pin_on a.ring f) all
