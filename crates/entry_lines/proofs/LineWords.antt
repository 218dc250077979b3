-- The words of an entry's line.
use Rattle.std.proofs.Common.{◌≡◌, ℕ, true, List, [], ◌∷◌, refl, arith}
use Rattle.std.specs.Prelude.{decimal}
use Rattle.vm_types.specs.declared.config.Section.{Section}
use Rattle.vm_text.specs.Named.{AreNames}
use Rattle.vm_text.specs.References.{reference_words, reply_words, why_word}
use Rattle.vm_text.specs.Services.{service_words, answer_words}
use Rattle.vm_text.specs.Spaced.{words}
use Rattle.vm_text.proofs.Blanks.{above, Blankless, Blankless-append, words_spaced, decimal_above, hex_above, reference_blankless, reply_blankless, why_above, state_above, status_above, service_blankless, answer_blankless, letter_above, seat_above, place_above, page_above, block_above}
use Rattle.vm_journal.specs.declared.entry.Entry.{Entry}
use Rattle.vm_journal.specs.declared.entry.EvictWhy.{EvictWhy}
use Rattle.vm_journal.specs.declared.entry.EvictWhy.TheVariants as evict
use Rattle.vm_journal.specs.declared.entry.Kind.{Kind}
use Rattle.vm_journal.specs.declared.entry.Kind.TheVariants as kind
use Rattle.vm_journal.specs.declared.entry.Role.{Role}
use Rattle.vm_journal.specs.declared.entry.Role.TheVariants.{Fault, Near, Come}
use Rattle.vm_journal.specs.declared.entry.What.{What}
use Rattle.vm_journal.specs.declared.entry.What.TheVariants as what
use Rattle.vm_journal.specs.HasLine.{HasLine, IsEntryNumber, RoleHasWords, WhatHasLine}
use Rattle.vm_journal.specs.Line.{entry_words, evict_word, kind_of, kind_word, line_text, part_words, role_words}

role_blankless : (procs : ℕ) (names : List Section) (role : Role) → AreNames procs names → RoleHasWords procs names role → Blankless (role_words names role)
role_blankless procs names (Fault p a) are h = (refl, (place_above p.0 a.0, tt))
role_blankless procs names (Near page) are h = (refl, (page_above procs names page are h, tt))
role_blankless procs names (Come p a) are h = (refl, (place_above p.0 a.0, tt))

evict_above : (why : EvictWhy) → above (evict_word why) ≡ true
evict_above evict.Replace = refl
evict_above evict.Purge = refl
evict_above evict.Delete = refl
evict_above evict.Leave = refl
evict_above evict.Rundown = refl

kind_above : (k : Kind) → above (kind_word k) ≡ true
kind_above kind.Done = refl
kind_above kind.Denied = refl
kind_above kind.Served = refl
kind_above kind.Reuse = refl
kind_above kind.Zero = refl
kind_above kind.Back = refl
kind_above kind.Collide = refl
kind_above kind.In = refl
kind_above kind.InOk = refl
kind_above kind.InFail = refl
kind_above kind.Out = refl
kind_above kind.OutOk = refl
kind_above kind.OutFail = refl
kind_above kind.Evict = refl
kind_above kind.Limit = refl
kind_above kind.Turn = refl

parts_blankless : (procs : ℕ) (names : List Section) (w : What) → AreNames procs names → WhatHasLine procs names w → Blankless (part_words names w)
parts_blankless procs names (what.Done r reply) are h = Blankless-append (reference_words r) (reply_words r.op reply) (reference_blankless r) (reply_blankless r.op reply)
parts_blankless procs names (what.Denied r why) are h = Blankless-append (reference_words r) (why_word why ∷ []) (reference_blankless r) (why_above why, tt)
parts_blankless procs names (what.Served s answer) are h = Blankless-append (service_words s) (answer_words answer) (service_blankless s h.0) (answer_blankless answer h.1)
parts_blankless procs names (what.Reuse f page) are h = (decimal_above f.0 (omega (arith, h.0)), (page_above procs names page are h.1, tt))
parts_blankless procs names (what.Zero a f) are h = (hex_above 8 a.0, (decimal_above f.0 (omega (arith, h.1)), tt))
parts_blankless procs names (what.Back p a f from) are h = (letter_above p.0 [] refl, (hex_above 8 a.0, (decimal_above f.0 (omega (arith, h.1)), (state_above from, tt))))
parts_blankless procs names (what.Collide a f k) are h = (hex_above 8 a.0, (decimal_above f.0 (omega (arith, h.1)), (decimal_above k h.2, tt)))
parts_blankless procs names (what.In f block role) are h = (decimal_above f.0 (omega (arith, h.0)), (block_above procs names block are h.1, role_blankless procs names role are h.2))
parts_blankless procs names (what.InOk f k) are h = (decimal_above f.0 (omega (arith, h.0)), (decimal_above k h.1, tt))
parts_blankless procs names (what.InFail f k c d) are h = (decimal_above f.0 (omega (arith, h.0)), (decimal_above k h.1, (decimal_above c h.2, (decimal_above d h.3, tt))))
parts_blankless procs names (what.Out f block) are h = (decimal_above f.0 (omega (arith, h.0)), (block_above procs names block are h.1, tt))
parts_blankless procs names (what.OutOk f k) are h = (decimal_above f.0 (omega (arith, h.0)), (decimal_above k h.1, tt))
parts_blankless procs names (what.OutFail f k c d) are h = (decimal_above f.0 (omega (arith, h.0)), (decimal_above k h.1, (decimal_above c h.2, (decimal_above d h.3, tt))))
parts_blankless procs names (what.Evict p a f why to) are h = (letter_above p.0 [] refl, (hex_above 8 a.0, (decimal_above f.0 (omega (arith, h.1)), (evict_above why, (state_above to, tt)))))
parts_blankless procs names (what.Limit n faults) are h = (decimal_above n (omega (arith, h.0)), (decimal_above faults h.1, tt))
parts_blankless procs names (what.Turn p status) are h = (letter_above p.0 [] refl, (status_above status, tt))

-- no word of an entry has a blank
pub entry_blankless : (procs : ℕ) (names : List Section) (e : Entry) → AreNames procs names → HasLine procs names e → Blankless (entry_words procs names e)
entry_blankless procs names e are has = (seat_above procs (e.seat).0 has.seat, (kind_above (kind_of e.what), parts_blankless procs names e.what are has.what))

-- what stands between the blanks of a line
pub line_words : (procs : ℕ) (names : List Section) (number : ℕ) (e : Entry) → AreNames procs names → IsEntryNumber number → HasLine procs names e
    → words (line_text number e procs names) ≡ decimal number ∷ entry_words procs names e
line_words procs names number e are small has = words_spaced (decimal number) (entry_words procs names e) (decimal_above number small) (entry_blankless procs names e are has)
