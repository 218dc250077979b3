-- Two numbers with entries that have the same line are one number and one entry.
use Rattle.std.proofs.Common.{◌≡◌, ℕ, List, [], ◌∷◌, ◌++◌, get_or, refl, sym, ◌∙◌, ap, subst, arith}
use Rattle.std.specs.Prelude.{decimal}
use Rattle.vm_types.specs.declared.config.Section.{Section}
use Rattle.vm_types.specs.declared.reference.Ref.{Ref}
use Rattle.vm_types.specs.declared.names.Seat.{Seat}
use Rattle.vm_text.specs.Named.{AreNames}
use Rattle.vm_text.specs.Names.{process_name, seat_name, address_text, frame_text, place_text, page_text, block_text}
use Rattle.vm_text.specs.References.{IsReplyTo, reference_words, reply_words, why_word}
use Rattle.vm_text.specs.Services.{answer_words, service_words}
use Rattle.vm_text.specs.Spaced.{words}
use Rattle.vm_text.specs.States.{state_word, status_word}
use Rattle.vm_text.proofs.OneToOne.{first_byte, mark_of, process_same, address_same, number_same, frame_same, seat_same, place_same, page_same, block_same, state_same, status_same, why_same, reference_same, reply_same, service_same, answer_same}
use Rattle.vm_journal.specs.declared.entry.Entry.{Entry}
use Rattle.vm_journal.specs.declared.entry.EvictWhy.{EvictWhy}
use Rattle.vm_journal.specs.declared.entry.EvictWhy.TheVariants as evict
use Rattle.vm_journal.specs.declared.entry.Role.{Role}
use Rattle.vm_journal.specs.declared.entry.Role.TheVariants.{Fault, Near, Come}
use Rattle.vm_journal.specs.declared.entry.What.{What}
use Rattle.vm_journal.specs.declared.entry.What.TheVariants as what
use Rattle.vm_journal.specs.HasLine.{HasLine, IsEntryNumber, RoleHasWords, WhatHasLine}
use Rattle.vm_journal.specs.Line.{evict_word, kind_of, kind_word, line_text, part_words, role_words}
use Rattle.entry_lines.proofs.LineWords.{line_words}

evict_same : (v w : EvictWhy) → evict_word v ≡ evict_word w → v ≡ w
evict_same evict.Replace evict.Replace e = refl
evict_same evict.Purge evict.Purge e = refl
evict_same evict.Delete evict.Delete e = refl
evict_same evict.Leave evict.Leave e = refl
evict_same evict.Rundown evict.Rundown e = refl
evict_same v w e = absurd (omega (arith, ap mark_of e))

role_same : (procs : ℕ) (names : List Section) (x y : Role) → AreNames procs names → RoleHasWords procs names x → RoleHasWords procs names y → role_words names x ≡ role_words names y → x ≡ y
role_same procs names (Fault p a) (Fault q b) are h h' e =
    let text : place_text p.0 a.0 ≡ place_text q.0 b.0 = cc in
    let parts = place_same p q a b h.1.small h'.1.small text in
    let process = parts.0 in
    let address = parts.1 in
    cc
role_same procs names (Come p a) (Come q b) are h h' e =
    let text : place_text p.0 a.0 ≡ place_text q.0 b.0 = cc in
    let parts = place_same p q a b h.1.small h'.1.small text in
    let process = parts.0 in
    let address = parts.1 in
    cc
role_same procs names (Near x) (Near y) are h h' e =
    let text : page_text names x ≡ page_text names y = cc in
    let page = page_same procs names x y are h h' text in
    cc
role_same procs names x y are h h' e = absurd (omega (arith, ap (λ (ws : List (List ℕ)). first_byte (get_or ws 0 [])) e))

what_same : (procs : ℕ) (names : List Section) (w v : What) → AreNames procs names → WhatHasLine procs names w → WhatHasLine procs names v
    → kind_word (kind_of w) ∷ part_words names w ≡ kind_word (kind_of v) ∷ part_words names v → w ≡ v
what_same procs names (what.Done r x) (what.Done q y) are h h' e =
    let parts : reference_words r ++ reply_words r.op x ≡ reference_words q ++ reply_words q.op y = cc in
    let same = reference_same r q (reply_words r.op x) (reply_words q.op y) h.0 h'.0 parts in
    let back : reply_words r.op x ≡ reply_words r.op y = same.1 ∙ ap (λ (z : Ref). reply_words z.op y) (sym same.0) in
    let reply = reply_same r.op x y h.1 (subst (λ (z : Ref). IsReplyTo z.op y) (sym same.0) h'.1) back in
    let reference = same.0 in
    cc
what_same procs names (what.Denied r x) (what.Denied q y) are h h' e =
    let parts : reference_words r ++ why_word x ∷ [] ≡ reference_words q ++ why_word y ∷ [] = cc in
    let same = reference_same r q (why_word x ∷ []) (why_word y ∷ []) h h' parts in
    let behind : (why_word x ∷ []) ≡ why_word y ∷ [] = same.1 in
    let text : why_word x ≡ why_word y = cc in
    let why = why_same x y text in
    let reference = same.0 in
    cc
what_same procs names (what.Served s x) (what.Served t y) are h h' e =
    let parts : service_words s ++ answer_words x ≡ service_words t ++ answer_words y = cc in
    let same = service_same s t (answer_words x) (answer_words y) h.0 h'.0 parts in
    let answer = answer_same x y h.1 h'.1 same.1 in
    let service = same.0 in
    cc
what_same procs names (what.Reuse x0 x1) (what.Reuse y0 y1) are h h' e =
    let t0 : frame_text x0.0 ≡ frame_text y0.0 = cc in
    let s0 : x0 ≡ y0 = frame_same x0 y0 h.0 h'.0 t0 in
    let t1 : page_text names x1 ≡ page_text names y1 = cc in
    let s1 : x1 ≡ y1 = page_same procs names x1 y1 are h.1 h'.1 t1 in
    cc
what_same procs names (what.Zero x0 x1) (what.Zero y0 y1) are h h' e =
    let t0 : address_text x0.0 ≡ address_text y0.0 = cc in
    let s0 : x0 ≡ y0 = address_same x0 y0 (h.0).small (h'.0).small t0 in
    let t1 : frame_text x1.0 ≡ frame_text y1.0 = cc in
    let s1 : x1 ≡ y1 = frame_same x1 y1 h.1 h'.1 t1 in
    cc
what_same procs names (what.Back x0 x1 x2 x3) (what.Back y0 y1 y2 y3) are h h' e =
    let t0 : process_name x0.0 ≡ process_name y0.0 = cc in
    let s0 : x0 ≡ y0 = process_same x0 y0 t0 in
    let t1 : address_text x1.0 ≡ address_text y1.0 = cc in
    let s1 : x1 ≡ y1 = address_same x1 y1 (h.0.1).small (h'.0.1).small t1 in
    let t2 : frame_text x2.0 ≡ frame_text y2.0 = cc in
    let s2 : x2 ≡ y2 = frame_same x2 y2 h.1 h'.1 t2 in
    let t3 : state_word x3 ≡ state_word y3 = cc in
    let s3 : x3 ≡ y3 = state_same x3 y3 t3 in
    cc
what_same procs names (what.Collide x0 x1 x2) (what.Collide y0 y1 y2) are h h' e =
    let t0 : address_text x0.0 ≡ address_text y0.0 = cc in
    let s0 : x0 ≡ y0 = address_same x0 y0 (h.0).small (h'.0).small t0 in
    let t1 : frame_text x1.0 ≡ frame_text y1.0 = cc in
    let s1 : x1 ≡ y1 = frame_same x1 y1 h.1 h'.1 t1 in
    let t2 : decimal x2 ≡ decimal y2 = cc in
    let s2 : x2 ≡ y2 = number_same x2 y2 h.2 h'.2 t2 in
    cc
what_same procs names (what.In x0 x1 x2) (what.In y0 y1 y2) are h h' e =
    let t0 : frame_text x0.0 ≡ frame_text y0.0 = cc in
    let s0 : x0 ≡ y0 = frame_same x0 y0 h.0 h'.0 t0 in
    let t1 : block_text names x1 ≡ block_text names y1 = cc in
    let s1 : x1 ≡ y1 = block_same procs names x1 y1 are h.1 h'.1 t1 in
    let t2 : role_words names x2 ≡ role_words names y2 = cc in
    let s2 : x2 ≡ y2 = role_same procs names x2 y2 are h.2 h'.2 t2 in
    cc
what_same procs names (what.InOk x0 x1) (what.InOk y0 y1) are h h' e =
    let t0 : frame_text x0.0 ≡ frame_text y0.0 = cc in
    let s0 : x0 ≡ y0 = frame_same x0 y0 h.0 h'.0 t0 in
    let t1 : decimal x1 ≡ decimal y1 = cc in
    let s1 : x1 ≡ y1 = number_same x1 y1 h.1 h'.1 t1 in
    cc
what_same procs names (what.InFail x0 x1 x2 x3) (what.InFail y0 y1 y2 y3) are h h' e =
    let t0 : frame_text x0.0 ≡ frame_text y0.0 = cc in
    let s0 : x0 ≡ y0 = frame_same x0 y0 h.0 h'.0 t0 in
    let t1 : decimal x1 ≡ decimal y1 = cc in
    let s1 : x1 ≡ y1 = number_same x1 y1 h.1 h'.1 t1 in
    let t2 : decimal x2 ≡ decimal y2 = cc in
    let s2 : x2 ≡ y2 = number_same x2 y2 h.2 h'.2 t2 in
    let t3 : decimal x3 ≡ decimal y3 = cc in
    let s3 : x3 ≡ y3 = number_same x3 y3 h.3 h'.3 t3 in
    cc
what_same procs names (what.Out x0 x1) (what.Out y0 y1) are h h' e =
    let t0 : frame_text x0.0 ≡ frame_text y0.0 = cc in
    let s0 : x0 ≡ y0 = frame_same x0 y0 h.0 h'.0 t0 in
    let t1 : block_text names x1 ≡ block_text names y1 = cc in
    let s1 : x1 ≡ y1 = block_same procs names x1 y1 are h.1 h'.1 t1 in
    cc
what_same procs names (what.OutOk x0 x1) (what.OutOk y0 y1) are h h' e =
    let t0 : frame_text x0.0 ≡ frame_text y0.0 = cc in
    let s0 : x0 ≡ y0 = frame_same x0 y0 h.0 h'.0 t0 in
    let t1 : decimal x1 ≡ decimal y1 = cc in
    let s1 : x1 ≡ y1 = number_same x1 y1 h.1 h'.1 t1 in
    cc
what_same procs names (what.OutFail x0 x1 x2 x3) (what.OutFail y0 y1 y2 y3) are h h' e =
    let t0 : frame_text x0.0 ≡ frame_text y0.0 = cc in
    let s0 : x0 ≡ y0 = frame_same x0 y0 h.0 h'.0 t0 in
    let t1 : decimal x1 ≡ decimal y1 = cc in
    let s1 : x1 ≡ y1 = number_same x1 y1 h.1 h'.1 t1 in
    let t2 : decimal x2 ≡ decimal y2 = cc in
    let s2 : x2 ≡ y2 = number_same x2 y2 h.2 h'.2 t2 in
    let t3 : decimal x3 ≡ decimal y3 = cc in
    let s3 : x3 ≡ y3 = number_same x3 y3 h.3 h'.3 t3 in
    cc
what_same procs names (what.Evict x0 x1 x2 x3 x4) (what.Evict y0 y1 y2 y3 y4) are h h' e =
    let t0 : process_name x0.0 ≡ process_name y0.0 = cc in
    let s0 : x0 ≡ y0 = process_same x0 y0 t0 in
    let t1 : address_text x1.0 ≡ address_text y1.0 = cc in
    let s1 : x1 ≡ y1 = address_same x1 y1 (h.0.1).small (h'.0.1).small t1 in
    let t2 : frame_text x2.0 ≡ frame_text y2.0 = cc in
    let s2 : x2 ≡ y2 = frame_same x2 y2 h.1 h'.1 t2 in
    let t3 : evict_word x3 ≡ evict_word y3 = cc in
    let s3 : x3 ≡ y3 = evict_same x3 y3 t3 in
    let t4 : state_word x4 ≡ state_word y4 = cc in
    let s4 : x4 ≡ y4 = state_same x4 y4 t4 in
    cc
what_same procs names (what.Limit x0 x1) (what.Limit y0 y1) are h h' e =
    let t0 : decimal x0 ≡ decimal y0 = cc in
    let s0 : x0 ≡ y0 = number_same x0 y0 (omega (arith, h.0)) (omega (arith, h'.0)) t0 in
    let t1 : decimal x1 ≡ decimal y1 = cc in
    let s1 : x1 ≡ y1 = number_same x1 y1 h.1 h'.1 t1 in
    cc
what_same procs names (what.Turn x0 x1) (what.Turn y0 y1) are h h' e =
    let t0 : process_name x0.0 ≡ process_name y0.0 = cc in
    let s0 : x0 ≡ y0 = process_same x0 y0 t0 in
    let t1 : status_word x1 ≡ status_word y1 = cc in
    let s1 : x1 ≡ y1 = status_same x1 y1 t1 in
    cc
what_same procs names w v are h h' e = absurd (omega (arith, ap (λ (ws : List (List ℕ)). mark_of (get_or ws 0 [])) e))

pub line_same : (procs : ℕ) (names : List Section) (n m : ℕ) (e f : Entry) → AreNames procs names → IsEntryNumber n → IsEntryNumber m
    → HasLine procs names e → HasLine procs names f → line_text n e procs names ≡ line_text m f procs names → (n ≡ m) × (e ≡ f)
line_same procs names n m e f are small small' has has' is =
    let all : (decimal n ∷ seat_name procs (e.seat).0 ∷ kind_word (kind_of e.what) ∷ part_words names e.what) ≡ decimal m ∷ seat_name procs (f.seat).0 ∷ kind_word (kind_of f.what) ∷ part_words names f.what =
    sym (line_words procs names n e are small has) ∙ ap words is ∙ line_words procs names m f are small' has' in
    let number : decimal n ≡ decimal m = cc in
    let place : seat_name procs (e.seat).0 ≡ seat_name procs (f.seat).0 = cc in
    let rest : (kind_word (kind_of e.what) ∷ part_words names e.what) ≡ kind_word (kind_of f.what) ∷ part_words names f.what = cc in
    let make = λ (s : Seat) (w : What). let made : Entry = record { seat = s; what = w } in made in
    let seat : e.seat ≡ f.seat = seat_same procs e.seat f.seat has.seat has'.seat are.few place in
    let change : e.what ≡ f.what = what_same procs names e.what f.what are has.what has'.what rest in
    (number_same n m small small' number, ap (λ s. make s e.what) seat ∙ ap (λ w. make f.seat w) change)
