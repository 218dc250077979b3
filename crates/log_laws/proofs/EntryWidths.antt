-- The line of an entry has at most 255 bytes.
use Rattle.std.proofs.Common.{◌≡◌, inl, inr, ℕ, zero, suc, ◌+◌, ◌*◌, ◌^◌, ◌<◌, ◌≤◌, List, [], ◌∷◌, ◌++◌, length, arith, length-append}
use Rattle.std.specs.Prelude.{codes, decimal, slice_index_or}
use Rattle.std.specs.List.{AllByRecursion}
use Rattle.vm_types.specs.WellFormed.{IsRange, IsWellFormedService, op_bytes}
use Rattle.vm_types.specs.declared.config.Section.{Section}
use Rattle.vm_types.specs.declared.reference.Mode.{Mode}
use Rattle.vm_types.specs.declared.reference.Mode.TheVariants.{K, E, S, U}
use Rattle.vm_types.specs.declared.reference.Op.{Op}
use Rattle.vm_types.specs.declared.reference.Op.TheVariants.{Read, Write, Add}
use Rattle.vm_types.specs.declared.reference.Ref.{Ref}
use Rattle.vm_types.specs.declared.reference.Width.TheVariants.{One, Two, Four}
use Rattle.vm_types.specs.declared.reply.Answer.{Answer}
use Rattle.vm_types.specs.declared.reply.Answer.TheVariants as answer
use Rattle.vm_types.specs.declared.reply.Reply.{Reply}
use Rattle.vm_types.specs.declared.reply.Reply.TheVariants as reply
use Rattle.vm_types.specs.declared.reply.Why.{Why}
use Rattle.vm_types.specs.declared.reply.Why.TheVariants as why
use Rattle.vm_types.specs.declared.service.Service.{Service}
use Rattle.vm_types.specs.declared.service.Service.TheVariants as service
use Rattle.vm_text.specs.Named.{AreNames}
use Rattle.vm_text.specs.Names.{address_text, frame_text, process_name, seat_name}
use Rattle.vm_text.specs.References.{mode_text, op_letter, op_text, operand_words, reference_words, reply_words, value_text, why_word}
use Rattle.vm_text.specs.Services.{HasAnswerWords, answer_words, protection_name, protection_names, range_words, service_words}
use Rattle.vm_text.specs.Spaced.{spaced}
use Rattle.vm_text.proofs.Seats.{seat_words}
use Rattle.vm_journal.specs.declared.entry.Entry.{Entry}
use Rattle.vm_journal.specs.declared.entry.EvictWhy.{EvictWhy}
use Rattle.vm_journal.specs.declared.entry.EvictWhy.TheVariants as evict
use Rattle.vm_journal.specs.declared.entry.Kind.{Kind}
use Rattle.vm_journal.specs.declared.entry.Kind.TheVariants as kind
use Rattle.vm_journal.specs.declared.entry.Role.{Role}
use Rattle.vm_journal.specs.declared.entry.Role.TheVariants.{Fault, Near, Come}
use Rattle.vm_journal.specs.declared.entry.What.{What}
use Rattle.vm_journal.specs.declared.entry.What.TheVariants as what
use Rattle.vm_journal.specs.HasLine.{HasLine, RoleHasWords, WhatHasLine}
use Rattle.vm_journal.specs.Line.{entry_words, evict_word, kind_of, kind_word, line_text, part_words, role_words}
use Rattle.log_laws.proofs.Widths.{AtMost, address_most, block_most, both, hex_most, number_most, page_most, place_most, small_most, state_most, status_most, within}

short : {n : ℕ} {text : List ℕ} → length text ≤ n → AtMost n text
short is = record { is = is }

-- the words, each with the blank before it, have so many bytes at most
record Take (n : ℕ) (words : List (List ℕ)) : Type 0 where
  pub is : length (spaced words) ≤ n

none : Take 0 []
none = record { is = omega arith }

word : {m n : ℕ} {xs : List ℕ} {words : List (List ℕ)} → AtMost m xs → Take n words → Take (1 + m + n) (xs ∷ words)
word {m} {n} {xs} {words} first rest = record { is = omega (arith, length-append xs (spaced words), first.is, rest.is) }

room : {m : ℕ} {words : List (List ℕ)} (n : ℕ) → m ≤ n → Take m words → Take n words
room n less take = record { is = omega (arith, less, take.is) }

words_join : {m n : ℕ} (xs ys : List (List ℕ)) → Take m xs → Take n ys → Take (m + n) (xs ++ ys)
words_join {m} {n} xs ys first rest = record { is = omega (arith, long xs, first.is, rest.is) }
  where
    long : (xs : List (List ℕ)) → length (spaced (xs ++ ys)) ≡ length (spaced xs) + length (spaced ys)
    long [] = omega arith
    long (x ∷ xs) = omega (arith, long xs, length-append x (spaced (xs ++ ys)), length-append x (spaced xs))

-- ---- references, replies and refusals
mode_most : (mode : Mode) → AtMost 1 (mode_text mode)
mode_most K = short (omega arith)
mode_most E = short (omega arith)
mode_most S = short (omega arith)
mode_most U = short (omega arith)

letter_most : (op : Op) → AtMost 1 (op_letter op)
letter_most (Read width) = short (omega arith)
letter_most (Write width value) = short (omega arith)
letter_most (Add value) = short (omega arith)

op_most : (mode : Mode) (op : Op) → AtMost 3 (op_text mode op)
op_most mode op = both (both (mode_most mode) (letter_most op)) (short {n = 1} {text = (48 + op_bytes op) ∷ []} (omega arith))

few_bytes : (op : Op) → op_bytes op ≤ 4
few_bytes (Read One) = omega arith
few_bytes (Read Two) = omega arith
few_bytes (Read Four) = omega arith
few_bytes (Write One value) = omega arith
few_bytes (Write Two value) = omega arith
few_bytes (Write Four value) = omega arith
few_bytes (Add value) = omega arith

value_most : (op : Op) (value : ℕ) → AtMost 8 (value_text op value)
value_most op value = within 8 (omega (arith, few_bytes op)) (hex_most (2 * op_bytes op) value)

operand_take : (op : Op) → Take 9 (operand_words op)
operand_take (Read width) = room 9 (omega arith) none
operand_take (Write width value) = word (value_most (Write width value) value) none
operand_take (Add value) = word (value_most (Add value) value) none

reference_take : (r : Ref) → Take 22 (reference_words r)
reference_take r = word (op_most r.mode r.op) (word (address_most (r.addr).0) (operand_take r.op))

reply_take : (op : Op) (r : Reply) → Take 9 (reply_words op r)
reply_take op (reply.Value value) = word (value_most op value) none
reply_take op reply.Written = room 9 (omega arith) none
reply_take op (reply.Old value) = word (value_most op value) none
reply_take op (reply.Refused y) = room 9 (omega arith) none

why_most : (w : Why) → AtMost 12 (why_word w)
why_most why.Unmapped = short (omega arith)
why_most why.Protected = short (omega arith)
why_most why.PageFileFull = short (omega arith)
why_most why.DiskFault = short (omega arith)

-- ---- services and their answers
name_at : (names : List (List ℕ)) (i : ℕ) → AllByRecursion (AtMost 4) names → AtMost 4 (slice_index_or names i [])
name_at [] i all = short (omega arith)
name_at (name ∷ names) zero all = all.0
name_at (name ∷ names) (suc i) all = name_at names i all.1

protection_most : (code : ℕ) → AtMost 4 (protection_name code)
protection_most code =
    name_at protection_names code (short (omega arith), (short (omega arith), (short (omega arith), (short (omega arith), (short (omega arith), (short (omega arith), (short (omega arith), (short (omega arith), (short (omega arith), (short (omega arith), (short (omega arith), (short (omega arith), (short (omega arith), (short (omega arith), (short (omega arith), (short (omega arith), tt))))))))))))))))

range_take : (at pages : ℕ) → IsRange at pages → Take 20 (range_words at pages)
range_take at pages range = word (address_most at) (word (small_most pages (omega (arith, range.few))) none)

named_range_take : (at pages code : ℕ) → IsRange at pages → Take 25 (address_text at ∷ decimal pages ∷ protection_name code ∷ [])
named_range_take at pages code range = word (address_most at) (word (small_most pages (omega (arith, range.few))) (word (protection_most code) none))

service_take : (s : Service) → IsWellFormedService s → Take 32 (service_words s)
service_take (service.Create at pages prot) formed = word (short {n = 6} (omega arith)) (named_range_take at.0 pages prot formed.0)
service_take (service.Protect at pages prot) formed = word (short {n = 6} (omega arith)) (named_range_take at.0 pages prot formed.0)
service_take (service.Delete at pages) formed = room 32 (omega arith) (word (short {n = 6} (omega arith)) (range_take at.0 pages formed))
service_take (service.Lock at pages) formed = room 32 (omega arith) (word (short {n = 6} (omega arith)) (range_take at.0 pages formed))
service_take (service.Unlock at pages) formed = room 32 (omega arith) (word (short {n = 6} (omega arith)) (range_take at.0 pages formed))
service_take (service.Purge at pages) formed = room 32 (omega arith) (word (short {n = 6} (omega arith)) (range_take at.0 pages formed))
service_take (service.Pin at pages) formed = room 32 (omega arith) (word (short {n = 6} (omega arith)) (range_take at.0 pages formed))
service_take (service.Unpin at pages) formed = room 32 (omega arith) (word (short {n = 6} (omega arith)) (range_take at.0 pages formed))
service_take (service.Adjust limit) formed = room 32 (omega arith) (word (short {n = 6} (omega arith)) (word (small_most limit formed) none))

answer_take : (a : Answer) → HasAnswerWords a → Take 21 (answer_words a)
answer_take answer.Good has = word (short {n = 20} (omega arith)) none
answer_take answer.InUse has = word (short {n = 20} (omega arith)) none
answer_take answer.Unmapped has = word (short {n = 20} (omega arith)) none
answer_take answer.LockLimit has = word (short {n = 20} (omega arith)) none
answer_take answer.BadLimit has = word (short {n = 20} (omega arith)) none
answer_take answer.DiskFault has = word (short {n = 20} (omega arith)) none
answer_take (answer.Count n) has = room 21 (omega arith) (word (short {n = 2} (omega arith)) (word (small_most n has) none))

-- ---- the parts of an entry
seat_most : (procs seat : ℕ) → seat ≤ procs + 1 → AtMost 3 (seat_name procs seat)
seat_most procs seat there =
    elim (seat_words procs seat there) [
      | inl process ↦ rw process.1 (short (omega arith))
      | inr other ↦ elim other [ inl writer ↦ rw writer.1 (short (omega arith)) | inr swapper ↦ rw swapper.1 (short (omega arith)) ]
    ]

evict_most : (y : EvictWhy) → AtMost 7 (evict_word y)
evict_most evict.Replace = short (omega arith)
evict_most evict.Purge = short (omega arith)
evict_most evict.Delete = short (omega arith)
evict_most evict.Leave = short (omega arith)
evict_most evict.Rundown = short (omega arith)

kind_most : (k : Kind) → AtMost 7 (kind_word k)
kind_most kind.Done = short (omega arith)
kind_most kind.Denied = short (omega arith)
kind_most kind.Served = short (omega arith)
kind_most kind.Reuse = short (omega arith)
kind_most kind.Zero = short (omega arith)
kind_most kind.Back = short (omega arith)
kind_most kind.Collide = short (omega arith)
kind_most kind.In = short (omega arith)
kind_most kind.InOk = short (omega arith)
kind_most kind.InFail = short (omega arith)
kind_most kind.Out = short (omega arith)
kind_most kind.OutOk = short (omega arith)
kind_most kind.OutFail = short (omega arith)
kind_most kind.Evict = short (omega arith)
kind_most kind.Limit = short (omega arith)
kind_most kind.Turn = short (omega arith)

letter : (p : ℕ) → AtMost 1 (process_name p)
letter p = short (omega arith)

frame_most : (f : ℕ) → f < 2 ^ 32 → AtMost 11 (frame_text f)
frame_most f small = both {m = 1} {xs = codes "F"} (short (omega arith)) (small_most f small)

module _ (procs : ℕ) (names : List Section) (are : AreNames procs names) where
  role_take : (role : Role) → RoleHasWords procs names role → Take 33 (role_words names role)
  role_take (Fault p a) has = room 33 (omega arith) (word (short {n = 5} (omega arith)) (word (place_most p.0 a.0) none))
  role_take (Near page) has = room 33 (omega arith) (word (short {n = 5} (omega arith)) (word (page_most procs names are page has) none))
  role_take (Come p a) has = room 33 (omega arith) (word (short {n = 5} (omega arith)) (word (place_most p.0 a.0) none))

  parts_take : (w : What) → WhatHasLine procs names w → Take 100 (part_words names w)
  parts_take (what.Done r answered) has = room 100 (omega arith) (words_join (reference_words r) (reply_words r.op answered) (reference_take r) (reply_take r.op answered))
  parts_take (what.Denied r y) has = room 100 (omega arith) (words_join (reference_words r) (why_word y ∷ []) (reference_take r) (word (why_most y) none))
  parts_take (what.Served s answered) has = room 100 (omega arith) (words_join (service_words s) (answer_words answered) (service_take s has.0) (answer_take answered has.1))
  parts_take (what.Reuse f page) has = room 100 (omega arith) (word (frame_most f.0 has.0) (word (page_most procs names are page has.1) none))
  parts_take (what.Zero a f) has = room 100 (omega arith) (word (address_most a.0) (word (frame_most f.0 has.1) none))
  parts_take (what.Back p a f from) has = room 100 (omega arith) (word (letter p.0) (word (address_most a.0) (word (frame_most f.0 has.1) (word (state_most from) none))))
  parts_take (what.Collide a f k) has = room 100 (omega arith) (word (address_most a.0) (word (frame_most f.0 has.1) (word (number_most k has.2) none)))
  parts_take (what.In f block role) has = room 100 (omega arith) (word (frame_most f.0 has.0) (word (block_most procs names are block has.1) (role_take role has.2)))
  parts_take (what.InOk f k) has = room 100 (omega arith) (word (frame_most f.0 has.0) (word (number_most k has.1) none))
  parts_take (what.InFail f k c d) has = room 100 (omega arith) (word (frame_most f.0 has.0) (word (number_most k has.1) (word (number_most c has.2) (word (number_most d has.3) none))))
  parts_take (what.Out f block) has = room 100 (omega arith) (word (frame_most f.0 has.0) (word (block_most procs names are block has.1) none))
  parts_take (what.OutOk f k) has = room 100 (omega arith) (word (frame_most f.0 has.0) (word (number_most k has.1) none))
  parts_take (what.OutFail f k c d) has = room 100 (omega arith) (word (frame_most f.0 has.0) (word (number_most k has.1) (word (number_most c has.2) (word (number_most d has.3) none))))
  parts_take (what.Evict p a f y to) has = room 100 (omega arith) (word (letter p.0) (word (address_most a.0) (word (frame_most f.0 has.1) (word (evict_most y) (word (state_most to) none)))))
  parts_take (what.Limit n faults) has = room 100 (omega arith) (word (small_most n has.0) (word (number_most faults has.1) none))
  parts_take (what.Turn p status) has = room 100 (omega arith) (word (letter p.0) (word (status_most status) none))

  pub entry_short : (number : ℕ) (e : Entry) → number < 2 ^ 64 → HasLine procs names e → length (line_text number e procs names) ≤ 255
  entry_short number e small has =
      let rest = word (seat_most procs (e.seat).0 has.seat) (word (kind_most (kind_of e.what)) (parts_take e.what has.what)) in
      omega (arith, length-append (decimal number) (spaced (entry_words procs names e)), (number_most number small).is, rest.is)
