-- Each word is the text of one thing.
use Rattle.std.proofs.Common.{◌≡◌, ◌≢◌, ℕ, zero, suc, ◌+◌, ◌*◌, ◌^◌, ◌<◌, ◌≤◌, List, [], ◌∷◌, ◌++◌, length, get_or, refl, sym, ◌∙◌, ap, subst, arith, inl, inr, lit<}
use Rattle.std.specs.Prelude.{decimal, bytes_eq, if◌then◌else◌}
use Rattle.std.proofs.lemmas.Bool.{cases_lt}
use Rattle.std.proofs.lemmas.Fmt.{decimal_injective}
use Rattle.std.proofs.lemmas.Option.{get_or_from_slice_get}
use Rattle.vm_types.specs.declared.limits.TheConstants.{PAGE_BYTES}
use Rattle.vm_types.specs.WellFormed.{IsWellFormedReference, IsWellFormedService, IsRange, IsCode, FitsOp, op_bytes, width_bytes}
use Rattle.vm_types.specs.declared.config.Section.{Section}
use Rattle.vm_types.specs.declared.names.Addr.{Addr}
use Rattle.vm_types.specs.declared.names.BlockId.{BlockId}
use Rattle.vm_types.specs.declared.names.BlockId.TheVariants as block
use Rattle.vm_types.specs.declared.names.Page.{Page}
use Rattle.vm_types.specs.declared.names.Page.TheVariants.{Private, Shared}
use Rattle.vm_types.specs.declared.names.Pfn.{Pfn}
use Rattle.vm_types.specs.declared.names.Proc.{Proc}
use Rattle.vm_types.specs.declared.names.Seat.{Seat}
use Rattle.vm_types.specs.declared.names.SecId.{SecId}
use Rattle.vm_types.specs.declared.reference.Mode.{Mode}
use Rattle.vm_types.specs.declared.reference.Op.{Op}
use Rattle.vm_types.specs.declared.reference.Op.TheVariants.{Read, Write, Add}
use Rattle.vm_types.specs.declared.reference.Ref.{Ref}
use Rattle.vm_types.specs.declared.reference.Width.{Width}
use Rattle.vm_types.specs.declared.reference.Width.TheVariants.{One, Two, Four}
use Rattle.vm_types.specs.declared.names.FrameState.{FrameState}
use Rattle.vm_types.specs.declared.names.FrameState.TheVariants as state
use Rattle.vm_types.specs.declared.names.ProcStatus.{ProcStatus}
use Rattle.vm_types.specs.declared.names.ProcStatus.TheVariants as status
use Rattle.vm_types.specs.declared.reply.Answer.{Answer}
use Rattle.vm_types.specs.declared.reply.Answer.TheVariants as answer
use Rattle.vm_types.specs.declared.reply.Reply.{Reply}
use Rattle.vm_types.specs.declared.reply.Reply.TheVariants as reply
use Rattle.vm_types.specs.declared.reply.Why.{Why}
use Rattle.vm_types.specs.declared.reply.Why.TheVariants as why
use Rattle.vm_types.specs.declared.service.Service.{Service}
use Rattle.vm_types.specs.declared.service.Service.TheVariants as service
use Rattle.vm_text.specs.Hex.{hex}
use Rattle.vm_text.specs.Services.{HasAnswerWords, answer_words, protection_name, protection_names, service_words}
use Rattle.vm_text.specs.States.{state_word, status_word}
use Rattle.vm_text.proofs.Ranges.{range_start}
use Rattle.vm_text.specs.Named.{AreNames, IsNamedSection, IsNamedPage, IsNamedBlock}
use Rattle.vm_text.specs.Names.{process_name, seat_name, address_text, frame_text, section_name, name_of, section_page_text, place_text, page_text, block_text}
use Rattle.vm_text.specs.References.{IsReplyTo, bare, op_text, value_text, operand_words, reference_words, reply_words, why_word}
use Rattle.vm_text.proofs.Cutting.{cut_same, letter_other, section_other}
use Rattle.vm_text.proofs.Digits.{hex_injective}
use Rattle.vm_text.proofs.Ops.{mode_same, op_same}
use Rattle.vm_text.proofs.Printable.{section_named}
use Rattle.vm_text.proofs.Seats.{seat_words}

abbrev pub first_byte : List ℕ → ℕ
first_byte text = get_or text 0 0

addr_same : (a b : Addr) → a.0 ≡ b.0 → a ≡ b
addr_same a b e = let make : ℕ → Addr = λ n. record { 0 = n } in ap make e

proc_same : (p q : Proc) → p.0 ≡ q.0 → p ≡ q
proc_same p q e = let make : ℕ → Proc = λ n. record { 0 = n } in ap make e

pfn_same : (f g : Pfn) → f.0 ≡ g.0 → f ≡ g
pfn_same f g e = let make : ℕ → Pfn = λ n. record { 0 = n } in ap make e

sec_same : (s t : SecId) → s.0 ≡ t.0 → s ≡ t
sec_same s t e = let make : ℕ → SecId = λ n. record { 0 = n } in ap make e

pub process_same : (p q : Proc) → process_name p.0 ≡ process_name q.0 → p ≡ q
process_same p q e = proc_same p q (omega (arith, ap first_byte e))

pub address_same : (a b : Addr) → a.0 < 2 ^ 32 → b.0 < 2 ^ 32 → address_text a.0 ≡ address_text b.0 → a ≡ b
address_same a b h h' e = addr_same a b (hex_injective 8 a.0 b.0 h h' e)

pub number_same : (m n : ℕ) → m < 2 ^ 64 → n < 2 ^ 64 → decimal m ≡ decimal n → m ≡ n
number_same m n h h' e = decimal_injective m n h h' e

pub frame_same : (f g : Pfn) → f.0 < 2 ^ 32 → g.0 < 2 ^ 32 → frame_text f.0 ≡ frame_text g.0 → f ≡ g
frame_same f g h h' e =
    let whole : (70 ∷ decimal f.0) ≡ 70 ∷ decimal g.0 = e in
    let digits : decimal f.0 ≡ decimal g.0 = cc in
    pfn_same f g (decimal_injective f.0 g.0 (omega arith) (omega arith) digits)

pub seat_same : (procs : ℕ) (s t : Seat) → s.0 ≤ procs + 1 → t.0 ≤ procs + 1 → procs ≤ 16 → seat_name procs s.0 ≡ seat_name procs t.0 → s ≡ t
seat_same procs s t h h' few e =
    let make : ℕ → Seat = λ n. record { 0 = n } in
    ap make (elim (seat_words procs s.0 h) [
      | inl a ↦ elim (seat_words procs t.0 h') [
        | inl b ↦ omega (arith, ap first_byte (sym a.1 ∙ e ∙ b.1))
        | inr b ↦ elim b [ inl b ↦ absurd (omega (arith, ap (length {A = ℕ}) (sym a.1 ∙ e ∙ b.1))) | inr b ↦ absurd (omega (arith, ap (length {A = ℕ}) (sym a.1 ∙ e ∙ b.1))) ]
      ]
      | inr a ↦ elim a [
        | inl a ↦ elim (seat_words procs t.0 h') [
          | inl b ↦ absurd (omega (arith, ap (length {A = ℕ}) (sym a.1 ∙ e ∙ b.1)))
          | inr b ↦ elim b [ inl b ↦ omega arith | inr b ↦ absurd (omega (arith, ap first_byte (sym a.1 ∙ e ∙ b.1))) ]
        ]
        | inr a ↦ elim (seat_words procs t.0 h') [
          | inl b ↦ absurd (omega (arith, ap (length {A = ℕ}) (sym a.1 ∙ e ∙ b.1)))
          | inr b ↦ elim b [ inl b ↦ absurd (omega (arith, ap first_byte (sym a.1 ∙ e ∙ b.1))) | inr b ↦ omega arith ]
        ]
      ]
    ])

pub place_same : (p q : Proc) (a b : Addr) → a.0 < 2 ^ 32 → b.0 < 2 ^ 32 → place_text p.0 a.0 ≡ place_text q.0 b.0 → (p ≡ q) × (a ≡ b)
place_same p q a b h h' e =
    let whole : ((65 + p.0) ∷ 47 ∷ hex 8 a.0) ≡ (65 + q.0) ∷ 47 ∷ hex 8 b.0 = e in
    let digits : hex 8 a.0 ≡ hex 8 b.0 = cc in
    (proc_same p q (omega (arith, ap first_byte whole)), addr_same a b (hex_injective 8 a.0 b.0 h h' digits))

-- sections with one name are one section
section_same : (procs : ℕ) (names : List Section) (s t : ℕ) → AreNames procs names → s < length names → t < length names → section_name names s ≡ section_name names t → s ≡ t
section_same procs names s t are h h' e =
    let a = section_named procs names s are h in
    let b = section_named procs names t are h' in
    let name_a : section_name names s ≡ a.0.name = ap name_of a.1 in
    let name_b : section_name names t ≡ b.0.name = ap name_of b.1 in
    let same : a.0.name ≡ b.0.name = sym name_a ∙ e ∙ name_b in
    let at_a : get_or names s a.0 ≡ a.0 = get_or_from_slice_get names s a.0 a.0 a.1 in
    let at_b : get_or names t a.0 ≡ b.0 = get_or_from_slice_get names t b.0 a.0 b.1 in
    elim (cases_lt s t) [
      | inl lt ↦ absurd (are.differ s t a.0 lt h' (ap (λ (x : Section). x.name) at_a ∙ same ∙ sym (ap (λ (x : Section). x.name) at_b)))
      | inr ge ↦ elim (cases_lt t s) [
        | inl gt ↦ absurd (are.differ t s a.0 gt h (ap (λ (x : Section). x.name) at_b ∙ sym same ∙ sym (ap (λ (x : Section). x.name) at_a)))
        | inr le ↦ omega arith
      ]
    ]

section_page_same : (procs : ℕ) (names : List Section) (s t : SecId) (i j : ℕ) → AreNames procs names → IsNamedSection names s.0 → IsNamedSection names t.0 → i < 2 ^ 32 → j < 2 ^ 32
    → section_page_text names s.0 i ≡ section_page_text names t.0 j → (s ≡ t) × (i ≡ j)
section_page_same procs names s t i j are h h' small small' e =
    let parts = cut_same 47 (section_name names s.0) (decimal i) (section_name names t.0) (decimal j)
    (section_other 47 procs names s.0 (lit< tt) are h.there) (section_other 47 procs names t.0 (lit< tt) are h'.there) e in
    (sec_same s t (section_same procs names s.0 t.0 are h.there h'.there parts.0), decimal_injective i j (omega arith) (omega arith) parts.1)

-- a process's letter is no section's name
letter_no_section : (procs : ℕ) (names : List Section) (p s i address : ℕ) → AreNames procs names → s < length names → place_text p address ≢ section_page_text names s i
letter_no_section procs names p s i address are h e =
    let found = section_named procs names s are h in
    let name : section_name names s ≡ found.0.name = ap name_of found.1 in
    let parts = cut_same 47 (process_name p) (address_text address) (section_name names s) (decimal i) (letter_other 47 p (lit< tt)) (section_other 47 procs names s (lit< tt) are h) e in
    let long = found.2.length.0 in
    absurd (omega (arith, ap (length {A = ℕ}) (parts.0 ∙ name)))

pub page_same : (procs : ℕ) (names : List Section) (x y : Page) → AreNames procs names → IsNamedPage procs names x → IsNamedPage procs names y → page_text names x ≡ page_text names y → x ≡ y
page_same procs names (Private p v) (Private q w) are h h' e =
    let a : Addr = record { 0 = PAGE_BYTES * v } in
    let b : Addr = record { 0 = PAGE_BYTES * w } in
    let parts = place_same p q a b (omega (arith, h.1)) (omega (arith, h'.1)) e in
    let number : PAGE_BYTES * v ≡ PAGE_BYTES * w = ap (λ (x : Addr). x.0) parts.1 in
    let same : v ≡ w = omega arith in
    let process = parts.0 in
    cc
page_same procs names (Shared s i) (Shared t j) are h h' e =
    let parts = section_page_same procs names s t i j are h.0 h'.0 h.1 h'.1 e in
    let section = parts.0 in
    let number = parts.1 in
    cc
page_same procs names (Private p v) (Shared t j) are h h' e = absurd (letter_no_section procs names p.0 t.0 j (PAGE_BYTES * v) are h'.0.there e)
page_same procs names (Shared s i) (Private q w) are h h' e = absurd (letter_no_section procs names q.0 s.0 i (PAGE_BYTES * w) are h.0.there (sym e))

pub block_same : (procs : ℕ) (names : List Section) (x y : BlockId) → AreNames procs names → IsNamedBlock procs names x → IsNamedBlock procs names y → block_text names x ≡ block_text names y → x ≡ y
block_same procs names (block.Section s i) (block.Section t j) are h h' e =
    let whole : (83 ∷ 58 ∷ section_page_text names s.0 i) ≡ 83 ∷ 58 ∷ section_page_text names t.0 j = e in
    let text : section_page_text names s.0 i ≡ section_page_text names t.0 j = cc in
    let parts = section_page_same procs names s t i j are h.0 h'.0 h.1 h'.1 text in
    let section = parts.0 in
    let number = parts.1 in
    cc
block_same procs names (block.PageFile i) (block.PageFile j) are h h' e =
    let whole : (80 ∷ 58 ∷ decimal i) ≡ 80 ∷ 58 ∷ decimal j = e in
    let text : decimal i ≡ decimal j = cc in
    let number : i ≡ j = decimal_injective i j (omega arith) (omega arith) text in
    cc
block_same procs names (block.Swap p i) (block.Swap q j) are h h' e =
    let whole : (88 ∷ 58 ∷ (65 + p.0) ∷ 47 ∷ decimal i) ≡ 88 ∷ 58 ∷ (65 + q.0) ∷ 47 ∷ decimal j = e in
    let text : decimal i ≡ decimal j = cc in
    let number : i ≡ j = decimal_injective i j (omega (arith, h.1)) (omega (arith, h'.1)) text in
    let process : p ≡ q = proc_same p q (omega (arith, ap (λ (t : List ℕ). get_or t 2 0) whole)) in
    cc
block_same procs names (block.Section s i) (block.PageFile j) are h h' e = absurd (omega (arith, ap first_byte e))
block_same procs names (block.Section s i) (block.Swap q j) are h h' e = absurd (omega (arith, ap first_byte e))
block_same procs names (block.PageFile i) (block.Section t j) are h h' e = absurd (omega (arith, ap first_byte e))
block_same procs names (block.PageFile i) (block.Swap q j) are h h' e = absurd (omega (arith, ap first_byte e))
block_same procs names (block.Swap p i) (block.Section t j) are h h' e = absurd (omega (arith, ap first_byte e))
block_same procs names (block.Swap p i) (block.PageFile j) are h h' e = absurd (omega (arith, ap first_byte e))

-- a value of two digits for each byte
pub value_same : (op : Op) (v w : ℕ) → v < 256 ^ op_bytes op → w < 256 ^ op_bytes op → value_text op v ≡ value_text op w → v ≡ w
value_same (Read One) v w h h' e = hex_injective 2 v w h h' e
value_same (Read Two) v w h h' e = hex_injective 4 v w h h' e
value_same (Read Four) v w h h' e = hex_injective 8 v w h h' e
value_same (Write One x) v w h h' e = hex_injective 2 v w h h' e
value_same (Write Two x) v w h h' e = hex_injective 4 v w h h' e
value_same (Write Four x) v w h h' e = hex_injective 8 v w h h' e
value_same (Add x) v w h h' e = hex_injective 8 v w h h' e

-- ops with one bare op, by the value behind them
operand_same : (a b : Op) (xs ys : List (List ℕ)) → FitsOp a → FitsOp b → bare a ≡ bare b → operand_words a ++ xs ≡ operand_words b ++ ys → (a ≡ b) × (xs ≡ ys)
operand_same (Read w) (Read u) xs ys h h' same e = (same, e)
operand_same (Write w v) (Write u x) xs ys h h' same e =
    let width : w ≡ u = cc in
    let text : value_text (Write w v) v ≡ value_text (Write u x) x = cc in
    let behind : xs ≡ ys = cc in
    let fits : x < 256 ^ width_bytes w = subst (λ z. x < 256 ^ width_bytes z) (sym width) h' in
    let value : v ≡ x = value_same (Write w v) v x h fits (text ∙ ap (λ z. hex (2 * width_bytes z) x) (sym width)) in
    (cc, behind)
operand_same (Add v) (Add x) xs ys h h' same e =
    let text : hex 8 v ≡ hex 8 x = cc in
    let behind : xs ≡ ys = cc in
    let value : v ≡ x = hex_injective 8 v x h h' text in
    (cc, behind)
operand_same (Read w) (Write u x) xs ys h h' same e = cc
operand_same (Read w) (Add x) xs ys h h' same e = cc
operand_same (Write w v) (Read u) xs ys h h' same e = cc
operand_same (Write w v) (Add x) xs ys h h' same e = cc
operand_same (Add v) (Read u) xs ys h h' same e = cc
operand_same (Add v) (Write u x) xs ys h h' same e = cc

pub reference_same : (r q : Ref) (xs ys : List (List ℕ)) → IsWellFormedReference r → IsWellFormedReference q → reference_words r ++ xs ≡ reference_words q ++ ys → (r ≡ q) × (xs ≡ ys)
reference_same r q xs ys h h' e =
    let whole : (op_text r.mode r.op ∷ address_text (r.addr).0 ∷ (operand_words r.op ++ xs)) ≡ op_text q.mode q.op ∷ address_text (q.addr).0 ∷ (operand_words q.op ++ ys) = e in
    let word : op_text r.mode r.op ≡ op_text q.mode q.op = cc in
    let place : address_text (r.addr).0 ≡ address_text (q.addr).0 = cc in
    let behind : operand_words r.op ++ xs ≡ operand_words q.op ++ ys = cc in
    let mode : r.mode ≡ q.mode = mode_same r.mode r.op q.mode q.op word in
    let address : r.addr ≡ q.addr = address_same r.addr q.addr h.address h'.address place in
    let rest = operand_same r.op q.op xs ys h.fits h'.fits (op_same r.mode r.op q.mode q.op word) behind in
    let make = λ (m : Mode) (a : Addr) (o : Op). let made : Ref = record { mode = m; addr = a; op = o } in made in
    (ap (λ m. make m r.addr r.op) mode ∙ (ap (λ a. make q.mode a r.op) address ∙ ap (λ o. make q.mode q.addr o) rest.0), rest.1)

-- what tells the words of a list of words apart
abbrev pub mark_of : List ℕ → ℕ
mark_of text = length text + 16 * get_or text 0 0 + 4096 * get_or text 2 0

pub state_same : (s t : FrameState) → state_word s ≡ state_word t → s ≡ t
state_same state.Free state.Free e = refl
state_same state.Modified state.Modified e = refl
state_same state.Bad state.Bad e = refl
state_same state.ReleasePending state.ReleasePending e = refl
state_same state.ReadError state.ReadError e = refl
state_same state.Writing state.Writing e = refl
state_same state.Reading state.Reading e = refl
state_same state.Active state.Active e = refl
state_same s t e = absurd (omega (arith, ap mark_of e))

pub status_same : (s t : ProcStatus) → status_word s ≡ status_word t → s ≡ t
status_same status.Resident status.Resident e = refl
status_same status.Leaving status.Leaving e = refl
status_same status.Gone status.Gone e = refl
status_same status.Coming status.Coming e = refl
status_same s t e = absurd (omega (arith, ap mark_of e))

pub why_same : (v w : Why) → why_word v ≡ why_word w → v ≡ w
why_same why.Unmapped why.Unmapped e = refl
why_same why.Protected why.Protected e = refl
why_same why.PageFileFull why.PageFileFull e = refl
why_same why.DiskFault why.DiskFault e = refl
why_same v w e = absurd (omega (arith, ap mark_of e))

-- a read's reply is a value, a write's is written, an add's the old longword
read_reply : (w : Width) (r : Reply) → IsReplyTo (Read w) r → (v : ℕ) × (v < 256 ^ width_bytes w) × (r ≡ reply.Value v)
read_reply w (reply.Value v) h = (v, h, refl)
read_reply w reply.Written h = absurd h
read_reply w (reply.Old v) h = absurd h
read_reply w (reply.Refused y) h = absurd h

write_reply : (w : Width) (x : ℕ) (r : Reply) → IsReplyTo (Write w x) r → r ≡ reply.Written
write_reply w x (reply.Value v) h = absurd h
write_reply w x reply.Written h = refl
write_reply w x (reply.Old v) h = absurd h
write_reply w x (reply.Refused y) h = absurd h

add_reply : (x : ℕ) (r : Reply) → IsReplyTo (Add x) r → (v : ℕ) × (v < 256 ^ 4) × (r ≡ reply.Old v)
add_reply x (reply.Value v) h = absurd h
add_reply x reply.Written h = absurd h
add_reply x (reply.Old v) h = (v, h, refl)
add_reply x (reply.Refused y) h = absurd h

pub reply_same : (op : Op) (r s : Reply) → IsReplyTo op r → IsReplyTo op s → reply_words op r ≡ reply_words op s → r ≡ s
reply_same (Read w) r s h h' e =
    let a = read_reply w r h in
    let b = read_reply w s h' in
    let words : (value_text (Read w) a.0 ∷ []) ≡ value_text (Read w) b.0 ∷ [] = sym (ap (reply_words (Read w)) a.2) ∙ e ∙ ap (reply_words (Read w)) b.2 in
    let text : value_text (Read w) a.0 ≡ value_text (Read w) b.0 = cc in
    a.2 ∙ ap reply.Value (value_same (Read w) a.0 b.0 a.1 b.1 text) ∙ sym b.2
reply_same (Write w x) r s h h' e = write_reply w x r h ∙ sym (write_reply w x s h')
reply_same (Add x) r s h h' e =
    let a = add_reply x r h in
    let b = add_reply x s h' in
    let words : (value_text (Add x) a.0 ∷ []) ≡ value_text (Add x) b.0 ∷ [] = sym (ap (reply_words (Add x)) a.2) ∙ e ∙ ap (reply_words (Add x)) b.2 in
    let text : value_text (Add x) a.0 ≡ value_text (Add x) b.0 = cc in
    a.2 ∙ ap reply.Old (value_same (Add x) a.0 b.0 a.1 b.1 text) ∙ sym b.2

index_in : List (List ℕ) → List ℕ → ℕ
index_in [] text = 0
index_in (word ∷ words) text = if bytes_eq word text then 0 else suc (index_in words text)

code_is : (code : ℕ) → IsCode code → index_in protection_names (protection_name code) ≡ code
unfolding index_in
code_is zero h = refl
code_is (suc zero) h = absurd (h.named refl)
code_is (suc (suc zero)) h = refl
code_is (suc (suc (suc zero))) h = refl
code_is (suc (suc (suc (suc zero)))) h = refl
code_is (suc (suc (suc (suc (suc zero))))) h = refl
code_is (suc (suc (suc (suc (suc (suc zero)))))) h = refl
code_is (suc (suc (suc (suc (suc (suc (suc zero))))))) h = refl
code_is (suc (suc (suc (suc (suc (suc (suc (suc zero)))))))) h = refl
code_is (suc (suc (suc (suc (suc (suc (suc (suc (suc zero))))))))) h = refl
code_is (suc (suc (suc (suc (suc (suc (suc (suc (suc (suc zero)))))))))) h = refl
code_is (suc (suc (suc (suc (suc (suc (suc (suc (suc (suc (suc zero))))))))))) h = refl
code_is (suc (suc (suc (suc (suc (suc (suc (suc (suc (suc (suc (suc zero)))))))))))) h = refl
code_is (suc (suc (suc (suc (suc (suc (suc (suc (suc (suc (suc (suc (suc zero))))))))))))) h = refl
code_is (suc (suc (suc (suc (suc (suc (suc (suc (suc (suc (suc (suc (suc (suc zero)))))))))))))) h = refl
code_is (suc (suc (suc (suc (suc (suc (suc (suc (suc (suc (suc (suc (suc (suc (suc zero))))))))))))))) h = refl
code_is (suc (suc (suc (suc (suc (suc (suc (suc (suc (suc (suc (suc (suc (suc (suc (suc code)))))))))))))))) h = let small = h.small in absurd (omega arith)

pub protection_same : (c d : ℕ) → IsCode c → IsCode d → protection_name c ≡ protection_name d → c ≡ d
protection_same c d h h' e = sym (code_is c h) ∙ ap (index_in protection_names) e ∙ code_is d h'

range_same : (a b : Addr) (m n : ℕ) → IsRange a.0 m → IsRange b.0 n → address_text a.0 ≡ address_text b.0 → decimal m ≡ decimal n → (a ≡ b) × (m ≡ n)
range_same a b m n h h' e f =
    let few = h.few in
    let few' = h'.few in
    (address_same a b (range_start a.0 m h).small (range_start b.0 n h').small e, decimal_injective m n (omega arith) (omega arith) f)

pub service_same : (s t : Service) (xs ys : List (List ℕ)) → IsWellFormedService s → IsWellFormedService t → service_words s ++ xs ≡ service_words t ++ ys → (s ≡ t) × (xs ≡ ys)
service_same (service.Create a m c) (service.Create b n d) xs ys h h' e =
    let text : address_text a.0 ≡ address_text b.0 = cc in
    let pages : decimal m ≡ decimal n = cc in
    let code : protection_name c ≡ protection_name d = cc in
    let range = range_same a b m n h.0 h'.0 text pages in
    let at = range.0 in
    let count = range.1 in
    let prot : c ≡ d = protection_same c d h.1 h'.1 code in
    (cc, cc)
service_same (service.Protect a m c) (service.Protect b n d) xs ys h h' e =
    let text : address_text a.0 ≡ address_text b.0 = cc in
    let pages : decimal m ≡ decimal n = cc in
    let code : protection_name c ≡ protection_name d = cc in
    let range = range_same a b m n h.0 h'.0 text pages in
    let at = range.0 in
    let count = range.1 in
    let prot : c ≡ d = protection_same c d h.1 h'.1 code in
    (cc, cc)
service_same (service.Delete a m) (service.Delete b n) xs ys h h' e =
    let text : address_text a.0 ≡ address_text b.0 = cc in
    let pages : decimal m ≡ decimal n = cc in
    let range = range_same a b m n h h' text pages in
    let at = range.0 in
    let count = range.1 in
    (cc, cc)
service_same (service.Lock a m) (service.Lock b n) xs ys h h' e =
    let text : address_text a.0 ≡ address_text b.0 = cc in
    let pages : decimal m ≡ decimal n = cc in
    let range = range_same a b m n h h' text pages in
    let at = range.0 in
    let count = range.1 in
    (cc, cc)
service_same (service.Unlock a m) (service.Unlock b n) xs ys h h' e =
    let text : address_text a.0 ≡ address_text b.0 = cc in
    let pages : decimal m ≡ decimal n = cc in
    let range = range_same a b m n h h' text pages in
    let at = range.0 in
    let count = range.1 in
    (cc, cc)
service_same (service.Purge a m) (service.Purge b n) xs ys h h' e =
    let text : address_text a.0 ≡ address_text b.0 = cc in
    let pages : decimal m ≡ decimal n = cc in
    let range = range_same a b m n h h' text pages in
    let at = range.0 in
    let count = range.1 in
    (cc, cc)
service_same (service.Pin a m) (service.Pin b n) xs ys h h' e =
    let text : address_text a.0 ≡ address_text b.0 = cc in
    let pages : decimal m ≡ decimal n = cc in
    let range = range_same a b m n h h' text pages in
    let at = range.0 in
    let count = range.1 in
    (cc, cc)
service_same (service.Unpin a m) (service.Unpin b n) xs ys h h' e =
    let text : address_text a.0 ≡ address_text b.0 = cc in
    let pages : decimal m ≡ decimal n = cc in
    let range = range_same a b m n h h' text pages in
    let at = range.0 in
    let count = range.1 in
    (cc, cc)
service_same (service.Adjust m) (service.Adjust n) xs ys h h' e =
    let text : decimal m ≡ decimal n = cc in
    let limit : m ≡ n = decimal_injective m n (omega arith) (omega arith) text in
    (cc, cc)
service_same s t xs ys h h' e = absurd (omega (arith, ap (λ (ws : List (List ℕ)). get_or (get_or ws 0 []) 0 0 + 256 * get_or (get_or ws 0 []) 2 0) e))

-- what tells the words of answers apart
answer_mark : List (List ℕ) → ℕ
answer_mark words = length words + 16 * first_byte (get_or words 0 [])

pub answer_same : (a b : Answer) → HasAnswerWords a → HasAnswerWords b → answer_words a ≡ answer_words b → a ≡ b
unfolding answer_mark
answer_same answer.Good answer.Good h h' e = refl
answer_same answer.InUse answer.InUse h h' e = refl
answer_same answer.Unmapped answer.Unmapped h h' e = refl
answer_same answer.LockLimit answer.LockLimit h h' e = refl
answer_same answer.BadLimit answer.BadLimit h h' e = refl
answer_same answer.DiskFault answer.DiskFault h h' e = refl
answer_same (answer.Count m) (answer.Count n) h h' e =
    let text : decimal m ≡ decimal n = cc in
    ap answer.Count (decimal_injective m n (omega arith) (omega arith) text)
answer_same a b h h' e = absurd (omega (arith, ap answer_mark e))
