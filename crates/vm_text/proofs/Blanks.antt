-- No byte of a word is a blank, so a line of words is cut at its blanks alone.
use Rattle.std.proofs.Common.{◌≡◌, ℕ, zero, suc, ◌+◌, ◌*◌, ◌^◌, ◌<◌, ◌≤◌, Bool, true, false, ◌&&◌, List, [], ◌∷◌, ◌++◌, length, get_or, All, refl, sym, ◌∙◌, ap, subst, arith, inl, inr, append-nil}
use Rattle.std.specs.Prelude.{nat_lt, decimal, slice_index_or}
use Rattle.std.specs.List.{join_with_byte}
use Rattle.std.proofs.lemmas.Bool.{lt-ltb, ltb-true}
use Rattle.std.proofs.lemmas.List.Splits.{join_with_byte-slice_split}
use Rattle.vm_types.specs.declared.limits.TheConstants.{PAGE_BYTES}
use Rattle.vm_types.specs.Configuration.{IsNameByte}
use Rattle.vm_types.specs.WellFormed.{IsRange, IsWellFormedService, op_bytes}
use Rattle.vm_types.specs.declared.config.Section.{Section}
use Rattle.vm_types.specs.declared.names.BlockId.{BlockId}
use Rattle.vm_types.specs.declared.names.BlockId.TheVariants as block
use Rattle.vm_types.specs.declared.names.FrameState.{FrameState}
use Rattle.vm_types.specs.declared.names.FrameState.TheVariants as state
use Rattle.vm_types.specs.declared.names.Page.{Page}
use Rattle.vm_types.specs.declared.names.Page.TheVariants.{Private, Shared}
use Rattle.vm_types.specs.declared.names.ProcStatus.{ProcStatus}
use Rattle.vm_types.specs.declared.names.ProcStatus.TheVariants as status
use Rattle.vm_types.specs.declared.reference.Mode.{Mode}
use Rattle.vm_types.specs.declared.reference.Mode.TheVariants.{K, E, S, U}
use Rattle.vm_types.specs.declared.reference.Op.{Op}
use Rattle.vm_types.specs.declared.reference.Op.TheVariants.{Read, Write, Add}
use Rattle.vm_types.specs.declared.reference.Ref.{Ref}
use Rattle.vm_types.specs.declared.reference.Width.TheVariants.{One, Two, Four}
use Rattle.vm_types.specs.declared.reply.Answer.{Answer}
use Rattle.vm_types.specs.declared.reply.Answer.TheVariants as answer
use Rattle.vm_types.specs.declared.reply.Reply.{Reply}
use Rattle.vm_types.specs.declared.reply.Reply.TheVariants as reply
use Rattle.vm_types.specs.declared.reply.Why.{Why}
use Rattle.vm_types.specs.declared.reply.Why.TheVariants as why
use Rattle.vm_types.specs.declared.service.Service.{Service}
use Rattle.vm_types.specs.declared.service.Service.TheVariants as service
use Rattle.vm_text.specs.Hex.{hex, hex_digit}
use Rattle.vm_text.specs.Named.{AreNames, IsNamedPage, IsNamedBlock}
use Rattle.vm_text.specs.Names.{seat_name, section_name, name_of, section_page_text, place_text, page_text, block_text}
use Rattle.vm_text.specs.References.{op_text, operand_words, reference_words, reply_words, why_word}
use Rattle.vm_text.specs.Services.{HasAnswerWords, answer_words, protection_name, protection_names, range_words, service_words}
use Rattle.vm_text.specs.States.{state_word, status_word}
use Rattle.vm_text.proofs.Seats.{seat_words}
use Rattle.vm_text.specs.Spaced.{spaced, words, IsOther}
use Rattle.vm_text.proofs.Decimals.{byte_in}
use Rattle.vm_text.proofs.Digits.{hex_at}
use Rattle.vm_text.proofs.HexLemmas.{length-hex}
use Rattle.vm_text.proofs.Printable.{section_named}
use Rattle.vm_text.proofs.Splitting.{words_none, words_at}

-- each byte is above the blank
abbrev pub above : List ℕ → Bool
above [] = true
above (b ∷ text) = nat_lt 32 b && above text

and_true : (a b : Bool) → a ≡ true → b ≡ true → (a && b) ≡ true
and_true a b p q = rw (p, q) refl

and_parts : (a b : Bool) → (a && b) ≡ true → (a ≡ true) × (b ≡ true)
and_parts true b e = (refl, e)
and_parts false b e = cc

pub above-append : (xs ys : List ℕ) → above xs ≡ true → above ys ≡ true → above (xs ++ ys) ≡ true
above-append [] ys p q = q
above-append (x ∷ xs) ys p q = let parts = and_parts (nat_lt 32 x) (above xs) p in and_true (nat_lt 32 x) (above (xs ++ ys)) parts.0 (above-append xs ys parts.1 q)

-- from each byte by its place
pub above_each : (text : List ℕ) → ((i : ℕ) → i < length text → 32 < get_or text i 0) → above text ≡ true
above_each [] h = refl
above_each (b ∷ text) h =
    let here : 32 < b = h 0 (omega arith) in
    and_true (nat_lt 32 b) (above text) (lt-ltb 32 b here) (above_each text (λ i lt. h (suc i) (omega arith)))

pub above_other : (text : List ℕ) → above text ≡ true → All (IsOther 32) text
above_other [] h k d lt = absurd (omega arith)
above_other (b ∷ text) h zero d lt = λ e. let parts = and_parts (nat_lt 32 b) (above text) h in absurd (omega (arith, ltb-true 32 b parts.0))
above_other (b ∷ text) h (suc k) d lt = let parts = and_parts (nat_lt 32 b) (above text) h in above_other text parts.1 k d (omega arith)

pub decimal_above : (n : ℕ) → n < 2 ^ 64 → above (decimal n) ≡ true
decimal_above n small = above_each (decimal n) (λ i lt. let range = byte_in (decimal n) n small refl i lt in omega (arith, range.0))

digit_above : (d : ℕ) → d < 16 → 32 < hex_digit d
digit_above zero h = omega arith
digit_above (suc zero) h = omega arith
digit_above (suc (suc zero)) h = omega arith
digit_above (suc (suc (suc zero))) h = omega arith
digit_above (suc (suc (suc (suc zero)))) h = omega arith
digit_above (suc (suc (suc (suc (suc zero))))) h = omega arith
digit_above (suc (suc (suc (suc (suc (suc zero)))))) h = omega arith
digit_above (suc (suc (suc (suc (suc (suc (suc zero))))))) h = omega arith
digit_above (suc (suc (suc (suc (suc (suc (suc (suc zero)))))))) h = omega arith
digit_above (suc (suc (suc (suc (suc (suc (suc (suc (suc zero))))))))) h = omega arith
digit_above (suc (suc (suc (suc (suc (suc (suc (suc (suc (suc zero)))))))))) h = omega arith
digit_above (suc (suc (suc (suc (suc (suc (suc (suc (suc (suc (suc zero))))))))))) h = omega arith
digit_above (suc (suc (suc (suc (suc (suc (suc (suc (suc (suc (suc (suc zero)))))))))))) h = omega arith
digit_above (suc (suc (suc (suc (suc (suc (suc (suc (suc (suc (suc (suc (suc zero))))))))))))) h = omega arith
digit_above (suc (suc (suc (suc (suc (suc (suc (suc (suc (suc (suc (suc (suc (suc zero)))))))))))))) h = omega arith
digit_above (suc (suc (suc (suc (suc (suc (suc (suc (suc (suc (suc (suc (suc (suc (suc zero))))))))))))))) h = omega arith
digit_above (suc (suc (suc (suc (suc (suc (suc (suc (suc (suc (suc (suc (suc (suc (suc (suc d)))))))))))))))) h = absurd (omega arith)

pub hex_above : (places v : ℕ) → above (hex places v) ≡ true
hex_above places v = above_each (hex places v) (λ i lt. let digit = hex_at places v i (within places v i lt) in subst (λ b. 32 < b) digit.2 (digit_above digit.0 digit.1)) where
  within : (places v i : ℕ) → i < length (hex places v) → i < places
  within places v i lt = omega (arith, length-hex places v)

byte_above : (b : ℕ) → IsNameByte b → 32 < b
byte_above b (inl letter) = omega (arith, letter.0)
byte_above b (inr (inl digit)) = omega (arith, digit.0)
byte_above b (inr (inr line)) = omega (arith, line)

pub section_above : (procs : ℕ) (names : List Section) (s : ℕ) → AreNames procs names → s < length names → above (section_name names s) ≡ true
section_above procs names s are within =
    let found = section_named procs names s are within in
    subst (λ o. above (name_of o) ≡ true) (sym found.1) (above_each found.0.name (λ i lt. byte_above (get_or found.0.name i 0) (found.2.bytes i 0 lt)))

-- each word has no blank
abbrev pub Blankless : List (List ℕ) → Type 0
Blankless [] = Unit {0}
Blankless (word ∷ more) = (above word ≡ true) × Blankless more

pub Blankless-append : (xs ys : List (List ℕ)) → Blankless xs → Blankless ys → Blankless (xs ++ ys)
Blankless-append [] ys p q = q
Blankless-append (x ∷ xs) ys p q = (p.0, Blankless-append xs ys p.1 q)

-- the words of a line of words
pub words_spaced : (word : List ℕ) (more : List (List ℕ)) → above word ≡ true → Blankless more → words (word ++ spaced more) ≡ word ∷ more
words_spaced word [] p q = ap words (append-nil word) ∙ words_none word (above_other word p)
words_spaced word (next ∷ more) p q = words_at word (next ++ spaced more) (above_other word p) ∙ ap (λ (ws : List (List ℕ)). word ∷ ws) (words_spaced next more q.0 q.1)

joined : (word : List ℕ) (more : List (List ℕ)) → join_with_byte 32 (word ∷ more) ≡ word ++ spaced more
joined word [] = sym (append-nil word)
joined word (next ∷ more) = ap (λ (rest : List ℕ). word ++ 32 ∷ rest) (joined next more)

-- a text is the line of its words
pub spaced_words : (word : List ℕ) (more : List (List ℕ)) (text : List ℕ) → word ∷ more ≡ words text → word ++ spaced more ≡ text
spaced_words word more text e = sym (joined word more) ∙ ap (join_with_byte 32) e ∙ join_with_byte-slice_split 32 text

-- the words of references, services and answers
op_above : (mode : Mode) (op : Op) → above (op_text mode op) ≡ true
op_above K (Read One) = refl
op_above K (Read Two) = refl
op_above K (Read Four) = refl
op_above K (Write One v) = refl
op_above K (Write Two v) = refl
op_above K (Write Four v) = refl
op_above K (Add v) = refl
op_above E (Read One) = refl
op_above E (Read Two) = refl
op_above E (Read Four) = refl
op_above E (Write One v) = refl
op_above E (Write Two v) = refl
op_above E (Write Four v) = refl
op_above E (Add v) = refl
op_above S (Read One) = refl
op_above S (Read Two) = refl
op_above S (Read Four) = refl
op_above S (Write One v) = refl
op_above S (Write Two v) = refl
op_above S (Write Four v) = refl
op_above S (Add v) = refl
op_above U (Read One) = refl
op_above U (Read Two) = refl
op_above U (Read Four) = refl
op_above U (Write One v) = refl
op_above U (Write Two v) = refl
op_above U (Write Four v) = refl
op_above U (Add v) = refl

operand_blankless : (op : Op) → Blankless (operand_words op)
operand_blankless (Read w) = tt
operand_blankless (Write w v) = (hex_above (2 * op_bytes (Write w v)) v, tt)
operand_blankless (Add v) = (hex_above 8 v, tt)

pub reference_blankless : (r : Ref) → Blankless (reference_words r)
reference_blankless r = (op_above r.mode r.op, (hex_above 8 (r.addr).0, operand_blankless r.op))

pub reply_blankless : (op : Op) (r : Reply) → Blankless (reply_words op r)
reply_blankless op (reply.Value v) = (hex_above (2 * op_bytes op) v, tt)
reply_blankless op reply.Written = tt
reply_blankless op (reply.Old v) = (hex_above (2 * op_bytes op) v, tt)
reply_blankless op (reply.Refused y) = tt

pub why_above : (w : Why) → above (why_word w) ≡ true
why_above why.Unmapped = refl
why_above why.Protected = refl
why_above why.PageFileFull = refl
why_above why.DiskFault = refl

pub state_above : (s : FrameState) → above (state_word s) ≡ true
state_above state.Free = refl
state_above state.Modified = refl
state_above state.Bad = refl
state_above state.ReleasePending = refl
state_above state.ReadError = refl
state_above state.Writing = refl
state_above state.Reading = refl
state_above state.Active = refl

pub status_above : (s : ProcStatus) → above (status_word s) ≡ true
status_above status.Resident = refl
status_above status.Leaving = refl
status_above status.Gone = refl
status_above status.Coming = refl

above_at : (ws : List (List ℕ)) (i : ℕ) → Blankless ws → above (slice_index_or ws i []) ≡ true
above_at [] i h = refl
above_at (w ∷ ws) zero h = h.0
above_at (w ∷ ws) (suc i) h = above_at ws i h.1

protection_above : (code : ℕ) → above (protection_name code) ≡ true
protection_above code = above_at protection_names code (refl, (refl, (refl, (refl, (refl, (refl, (refl, (refl, (refl, (refl, (refl, (refl, (refl, (refl, (refl, (refl, tt))))))))))))))))

range_blankless : (at pages : ℕ) → IsRange at pages → Blankless (range_words at pages)
range_blankless at pages h = let few = h.few in (hex_above 8 at, (decimal_above pages (omega arith), tt))

pub service_blankless : (s : Service) → IsWellFormedService s → Blankless (service_words s)
service_blankless (service.Create a n c) h = let range = range_blankless a.0 n h.0 in (refl, (range.0, (range.1.0, (protection_above c, tt))))
service_blankless (service.Protect a n c) h = let range = range_blankless a.0 n h.0 in (refl, (range.0, (range.1.0, (protection_above c, tt))))
service_blankless (service.Delete a n) h = (refl, range_blankless a.0 n h)
service_blankless (service.Lock a n) h = (refl, range_blankless a.0 n h)
service_blankless (service.Unlock a n) h = (refl, range_blankless a.0 n h)
service_blankless (service.Purge a n) h = (refl, range_blankless a.0 n h)
service_blankless (service.Pin a n) h = (refl, range_blankless a.0 n h)
service_blankless (service.Unpin a n) h = (refl, range_blankless a.0 n h)
service_blankless (service.Adjust n) h = (refl, (decimal_above n (omega arith), tt))

pub answer_blankless : (a : Answer) → HasAnswerWords a → Blankless (answer_words a)
answer_blankless answer.Good h = (refl, tt)
answer_blankless answer.InUse h = (refl, tt)
answer_blankless answer.Unmapped h = (refl, tt)
answer_blankless answer.LockLimit h = (refl, tt)
answer_blankless answer.BadLimit h = (refl, tt)
answer_blankless answer.DiskFault h = (refl, tt)
answer_blankless (answer.Count n) h = (refl, (decimal_above n (omega arith), tt))

-- the words of processes, places, pages and blocks
pub letter_above : (p : ℕ) (more : List ℕ) → above more ≡ true → above ((65 + p) ∷ more) ≡ true
letter_above p more h = let large : 32 < 65 + p = omega arith in and_true (nat_lt 32 (65 + p)) (above more) (lt-ltb 32 (65 + p) large) h

pub seat_above : (procs seat : ℕ) → seat ≤ procs + 1 → above (seat_name procs seat) ≡ true
seat_above procs seat h =
    elim (seat_words procs seat h) [
      | inl a ↦ rw a.1 (letter_above seat [] refl)
      | inr a ↦ elim a [ inl b ↦ rw b.1 refl | inr b ↦ rw b.1 refl ]
    ]

pub place_above : (p a : ℕ) → above (place_text p a) ≡ true
place_above p a = letter_above p (47 ∷ hex 8 a) (hex_above 8 a)

section_page_above : (procs : ℕ) (names : List Section) (s i : ℕ) → AreNames procs names → s < length names → i < 2 ^ 32 → above (section_page_text names s i) ≡ true
section_page_above procs names s i are h small = above-append (section_name names s) (47 ∷ decimal i) (section_above procs names s are h) (decimal_above i (omega arith))

pub page_above : (procs : ℕ) (names : List Section) (page : Page) → AreNames procs names → IsNamedPage procs names page → above (page_text names page) ≡ true
page_above procs names (Private p v) are h = place_above p.0 (PAGE_BYTES * v)
page_above procs names (Shared s i) are h = section_page_above procs names s.0 i are h.0.there h.1

pub block_above : (procs : ℕ) (names : List Section) (b : BlockId) → AreNames procs names → IsNamedBlock procs names b → above (block_text names b) ≡ true
block_above procs names (block.Section s i) are h = section_page_above procs names s.0 i are h.0.there h.1
block_above procs names (block.PageFile n) are h = decimal_above n (omega arith)
block_above procs names (block.Swap p n) are h = letter_above p.0 (47 ∷ decimal n) (decimal_above n (omega (arith, h.1)))
