-- The lines BODY and END, and the requests between them.
use Rattle.std.proofs.Common.{◌≡◌, ℕ, ◌+◌, ◌*◌, ◌<◌, ◌≤◌, ◌^◌, true, false, leb, ltb, ◌&&◌, List, [], ◌∷◌, ◌++◌, map, length, replicate, All, Ok, refl, ap, ◌∙◌, arith, lit<, lt-ltb, le-leb, eq-eqb, ne_eqb, subst}
use Rattle.std.specs.Prelude.{codes, decimal as printed}
use Rattle.std.specs.List.{list_all}
use Rattle.std.proofs.lemmas.Bool.{and_from}
use Rattle.std.proofs.lemmas.List.Elements.{All-head, All-tail}
use Rattle.vm_types.specs.declared.limits.TheConstants.{P0_PAGES, PAGE_BYTES}
use Rattle.vm_types.specs.Configuration.{IsWellFormed, IsProcess, IsTask, all_pins}
use Rattle.vm_types.specs.Versions.{most_requests}
use Rattle.vm_types.specs.WellFormed.{width_bytes, IsRange, IsCode, IsWellFormedReference, IsWellFormedService, IsWellFormedRequest, IsRequestOf, IsServiceOf}
use Rattle.vm_types.specs.declared.config.Config.{Config}
use Rattle.vm_types.specs.declared.config.ProcSpec.{ProcSpec}
use Rattle.vm_types.specs.declared.config.Task.{Task}
use Rattle.vm_types.specs.declared.names.Addr.{Addr}
use Rattle.vm_types.specs.declared.names.Proc.{Proc}
use Rattle.vm_types.specs.declared.reference.Mode.{Mode}
use Rattle.vm_types.specs.declared.reference.Width.{Width}
use Rattle.vm_types.specs.declared.reference.Width.TheVariants.{One, Two, Four}
use Rattle.vm_types.specs.declared.reference.Op.{Op}
use Rattle.vm_types.specs.declared.reference.Op.TheVariants as op
use Rattle.vm_types.specs.declared.service.Service.{Service}
use Rattle.vm_types.specs.declared.service.Service.TheVariants as service
use Rattle.vm_types.specs.declared.service.Request.{Request}
use Rattle.vm_types.specs.declared.service.Request.TheVariants as request
use Rattle.vm_text.specs.Hex.{hex}
use Rattle.vm_text.specs.Names.{process_name, address_text}
use Rattle.vm_text.specs.References.{op_text, reference_words}
use Rattle.vm_text.specs.Services.{protection_name, service_name, operands, service_words}
use Rattle.trace_words.specs.Number.{hexadecimal}
use Rattle.trace_words.proofs.Codes.{protection_read}
use Rattle.trace_lines.specs.declared.keywords.Keyword.TheVariants as keyword
use Rattle.trace_lines.specs.declared.part.Part.{Part}
use Rattle.trace_lines.specs.declared.places.Place.{Place}
use Rattle.trace_lines.specs.declared.places.Place.TheVariants as place
use Rattle.trace_lines.specs.Grammar.{by_words, is_comment, is_letter}
use Rattle.trace_lines.specs.Places.{rank}
use Rattle.trace_lines.specs.Requests.{params_agree, has_frames, verb_in, request_line, by_verb, range_of, coded_range_of}
use Rattle.trace_lines.specs.Says as says
use Rattle.trace_lines.specs.Says.{Says}
use Rattle.trace_spelling.specs.Lines.{Line, request_words}
use Rattle.trace_spelling.specs.Lines as lines
use Rattle.trace_spelling.proofs.Numbers.{number_read, within_read, hexadecimal_read}
use Rattle.trace_spelling.proofs.Printing.{IsShortWord, literal, number_word, hex_word}
use Rattle.trace_spelling.proofs.Words.{letter_word, op_read, op_word, service_read, service_word, protection_word}
use Rattle.trace_spelling.proofs.Leading.{IsLine, line_of, Leads, leads_line, leads_each}
use Rattle.trace_spelling.proofs.Lists.{member, count_before}
use Rattle.trace_spelling.proofs.Headers.{keyword_says}
use Rattle.trace_spelling.proofs.Mapped.{process_read, aligned_read, inside_read, range_small}

-- all declarations, and so many requests
abbrev pub asking : Config → Place → List Task → Part
asking c place body = record { place = place; config = record c { body = body }; given = replicate 14 true }

-- BODY

params_fit : (c : Config) → IsWellFormed c → params_agree c.params ≡ true
params_fit c w =
    and_from (leb c.params.lolimit c.params.hilimit && leb c.params.hilimit c.params.waitlimit) (leb c.params.freelim c.params.freegoal)
    (and_from (leb c.params.lolimit c.params.hilimit) (leb c.params.hilimit c.params.waitlimit) (le-leb c.params.lolimit c.params.hilimit w.params.lolimit) (le-leb c.params.hilimit c.params.waitlimit w.params.wait_above))
    (le-leb c.params.freelim c.params.freegoal w.params.freelim)

frames_fit : (frames kept : ℕ) (procs : List ProcSpec) → All (IsProcess frames kept) procs → list_all (λ spec. leb (spec.extent + kept + 2) frames) procs ≡ true
frames_fit frames kept [] h = refl
frames_fit frames kept (x ∷ procs) h =
    and_from (leb (x.extent + kept + 2) frames) (list_all (λ spec. leb (spec.extent + kept + 2) frames) procs) (le-leb (x.extent + kept + 2) frames (All-head (IsProcess frames kept) x procs h).room)
    (frames_fit frames kept procs (All-tail (IsProcess frames kept) x procs h))

pub body_leads : (c : Config) → IsWellFormed c → Leads (asking c place.Declarations []) ((codes "BODY" ∷ []) ∷ []) (asking c place.Requests [])
body_leads c w =
    let part = asking c place.Declarations [] in
    let agree : (params_agree c.params && has_frames (asking c place.Declarations []).config) ≡ true = and_from (params_agree c.params) (has_frames (asking c place.Declarations []).config) (params_fit c w) (frames_fit c.frames (length c.bad + all_pins c) c.procs w.procs) in
    let some : 1 ≤ length c.procs = w.some_process.0 in
    leads_line part (codes "BODY" ∷ []) says.Body refl (line_of (4 ∷ []) (codes "BODY") [] (literal 4 _ refl refl refl, tt) (omega arith))
    (keyword_says part (codes "BODY") [] keyword.Body refl refl refl refl ∙ (rw (lt-ltb 0 (length c.procs) (omega arith), agree) refl))

-- END

pub end_leads : (c : Config) → Leads (asking c place.Requests c.body) ((codes "END" ∷ []) ∷ []) (asking c place.Ended c.body)
end_leads c =
    let part = asking c place.Requests c.body in
    leads_line part (codes "END" ∷ []) says.End refl (line_of (3 ∷ []) (codes "END") [] (literal 3 _ refl refl refl, tt) (omega arith))
    (keyword_says part (codes "END") [] keyword.End refl refl refl refl)

-- requests

letter_says : (part : Part) (p : ℕ) (args : List (List ℕ)) → p < 26 → rank part.place ≡ 4 → by_words part (process_name p ∷ args) ≡ request_line part.config (process_name p) args
letter_says part p args few here =
    let no_comment : is_comment (process_name p) ≡ false = ne_eqb (65 + p) 33 (λ e. omega (arith, e)) in
    let is : is_letter (process_name p) ≡ true = and_from (leb 65 (65 + p)) (leb (65 + p) 90) (le-leb 65 (65 + p) (omega arith)) (le-leb (65 + p) 90 (omega arith)) in
    rw (no_comment, is, eq-eqb (rank part.place) 4 here) refl

value_read : (width : Width) (v : ℕ) → v < 256 ^ width_bytes width → hexadecimal (hex (2 * width_bytes width) v) ≡ Ok v
value_read One v h = hexadecimal_read 2 v (omega arith) (omega arith) (omega (arith, h))
value_read Two v h = hexadecimal_read 4 v (omega arith) (omega arith) (omega (arith, h))
value_read Four v h = hexadecimal_read 8 v (omega arith) (omega arith) (omega (arith, h))

value_word : (width : Width) (v : ℕ) → IsShortWord 8 (hex (2 * width_bytes width) v)
value_word One v = let w = hex_word 2 v (omega arith) in record { is = w.is; short = omega (arith, w.short) }
value_word Two v = let w = hex_word 4 v (omega arith) in record { is = w.is; short = omega (arith, w.short) }
value_word Four v = hex_word 8 v (omega arith)

module _ (c : Config) (w : IsWellFormed c) (before : List Task) (room : length before < most_requests c.version) (p : Proc) (there : p.0 < length c.procs) where
  abbrev part : Part
  part = asking c place.Requests before

  few : length c.procs ≤ 16
  few = w.some_process.1

  letter_small : p.0 < 26
  letter_small = let most = few in omega arith

  room_test : ltb (length before) (most_requests c.version) ≡ true
  room_test = lt-ltb (length before) (most_requests c.version) room

  -- what is asked is taken as it stands
  abbrev asked : Request → Says
  asked r = says.Request (record { proc = p; request = r })

  abbrev then_asking : Request → Part
  then_asking r = asking c place.Requests (before ++ record { proc = p; request = r } ∷ [])

  request_leads : (words : Line) (r : Request) → IsLine (process_name p.0 ∷ words) → request_line part.config (process_name p.0) words ≡ Ok (asked r) → Leads part ((process_name p.0 ∷ words) ∷ []) (then_asking r)
  request_leads words r is e = leads_line part (process_name p.0 ∷ words) (asked r) refl is (letter_says part p.0 words letter_small refl ∙ e)

  reference_leads : (mode : Mode) (at : Addr) (o : Op) → IsWellFormedReference (record { mode = mode; addr = at; op = o })
      → Leads part ((process_name p.0 ∷ reference_words (record { mode = mode; addr = at; op = o })) ∷ []) (then_asking (request.Reference (record { mode = mode; addr = at; op = o })))
  reference_leads mode at (op.Read width) is =
      request_leads (op_text mode (op.Read width) ∷ address_text at.0 ∷ []) (request.Reference (record { mode = mode; addr = at; op = op.Read width }))
      (line_of (1 ∷ 3 ∷ 8 ∷ []) (process_name p.0) (op_text mode (op.Read width) ∷ address_text at.0 ∷ []) (letter_word p.0 letter_small, (op_word mode (op.Read width), (hex_word 8 at.0 (omega arith), tt))) (omega arith))
      (ap (by_verb part.config (process_name p.0) (address_text at.0 ∷ [])) (ap (verb_in c.version) (op_read mode (op.Read width)))
      ∙ (rw (process_read c.procs p.0 there few, aligned_read (width_bytes width) at.0 is.address is.aligned, room_test) refl))
  reference_leads mode at (op.Write width v) is =
      request_leads (op_text mode (op.Write width v) ∷ address_text at.0 ∷ hex (2 * width_bytes width) v ∷ []) (request.Reference (record { mode = mode; addr = at; op = op.Write width v }))
      (line_of (1 ∷ 3 ∷ 8 ∷ 8 ∷ []) (process_name p.0) (op_text mode (op.Write width v) ∷ address_text at.0 ∷ hex (2 * width_bytes width) v ∷ []) (letter_word p.0 letter_small, (op_word mode (op.Write width v), (hex_word 8 at.0 (omega arith), (value_word width v, tt)))) (omega arith))
      (ap (by_verb part.config (process_name p.0) (address_text at.0 ∷ hex (2 * width_bytes width) v ∷ [])) (ap (verb_in c.version) (op_read mode (op.Write width v)))
      ∙ (rw (process_read c.procs p.0 there few, aligned_read (width_bytes width) at.0 is.address is.aligned, value_read width v is.fits, lt-ltb v (256 ^ width_bytes width) is.fits, room_test) refl))
  reference_leads mode at (op.Add v) is =
      request_leads (op_text mode (op.Add v) ∷ address_text at.0 ∷ hex 8 v ∷ []) (request.Reference (record { mode = mode; addr = at; op = op.Add v }))
      (line_of (1 ∷ 3 ∷ 8 ∷ 8 ∷ []) (process_name p.0) (op_text mode (op.Add v) ∷ address_text at.0 ∷ hex 8 v ∷ []) (letter_word p.0 letter_small, (op_word mode (op.Add v), (hex_word 8 at.0 (omega arith), (hex_word 8 v (omega arith), tt)))) (omega arith))
      (ap (by_verb part.config (process_name p.0) (address_text at.0 ∷ hex 8 v ∷ [])) (ap (verb_in c.version) (op_read mode (op.Add v)))
      ∙ (rw (process_read c.procs p.0 there few, aligned_read 4 at.0 is.address is.aligned, value_read Four v is.fits, lt-ltb v (256 ^ width_bytes Four) is.fits, room_test) refl))

  abbrev range_line : Service → Addr → ℕ → Line
  range_line s at pages = service_name s ∷ address_text at.0 ∷ printed pages ∷ []

  range_is_line : (s : Service) (at : Addr) (pages : ℕ) → IsRange at.0 pages → IsLine (process_name p.0 ∷ range_line s at pages)
  range_is_line s at pages is =
      let most = is.few in
      line_of (1 ∷ 6 ∷ 8 ∷ 10 ∷ []) (process_name p.0) (range_line s at pages) (letter_word p.0 letter_small, (service_word s, (hex_word 8 at.0 (omega arith), (number_word pages (omega arith), tt)))) (omega arith)

  coded_is_line : (s : Service) (at : Addr) (pages code : ℕ) → IsRange at.0 pages → IsCode code → IsLine (process_name p.0 ∷ service_name s ∷ address_text at.0 ∷ printed pages ∷ protection_name code ∷ [])
  coded_is_line s at pages code is good =
      let most = is.few in
      line_of (1 ∷ 6 ∷ 8 ∷ 10 ∷ 4 ∷ []) (process_name p.0) (service_name s ∷ address_text at.0 ∷ printed pages ∷ protection_name code ∷ [])
      (letter_word p.0 letter_small, (service_word s, (hex_word 8 at.0 (omega arith), (number_word pages (omega arith), (protection_word code good, tt))))) (omega arith)

  range_read : (at : Addr) (pages : ℕ) → IsRange at.0 pages → range_of part.config (process_name p.0) (address_text at.0 ∷ printed pages ∷ []) ≡ Ok (record { proc = p.0; at = at.0; pages = pages })
  range_read at pages is =
      let small = range_small at.0 pages is in
      rw (process_read c.procs p.0 there few, aligned_read PAGE_BYTES at.0 (omega arith) is.aligned, within_read 1 P0_PAGES pages is.some is.few (lit< tt), inside_read at.0 pages is) refl

  coded_read : (at : Addr) (pages code : ℕ) → IsRange at.0 pages → IsCode code → coded_range_of part.config (process_name p.0) (address_text at.0 ∷ printed pages ∷ protection_name code ∷ []) ≡ Ok (record { proc = p.0; at = at.0; pages = pages; prot = code })
  coded_read at pages code is good =
      let small = range_small at.0 pages is in
      rw (process_read c.procs p.0 there few, aligned_read PAGE_BYTES at.0 (omega arith) is.aligned, within_read 1 P0_PAGES pages is.some is.few (lit< tt), protection_read code good, inside_read at.0 pages is) refl

  service_leads : (s : Service) → IsServiceOf c.version s → IsWellFormedService s → Leads part ((process_name p.0 ∷ service_words s) ∷ []) (then_asking (request.Service s))
  service_leads (service.Create at pages code) known is =
      request_leads (service_words (service.Create at pages code)) (request.Service (service.Create at pages code)) (coded_is_line (service.Create at pages code) at pages code is.0 is.1)
      (ap (by_verb part.config (process_name p.0) (operands (service.Create at pages code))) (service_read c.version (service.Create at pages code) tt) ∙ (rw (coded_read at pages code is.0 is.1, room_test) refl))
  service_leads (service.Protect at pages code) known is =
      request_leads (service_words (service.Protect at pages code)) (request.Service (service.Protect at pages code)) (coded_is_line (service.Protect at pages code) at pages code is.0 is.1)
      (ap (by_verb part.config (process_name p.0) (operands (service.Protect at pages code))) (service_read c.version (service.Protect at pages code) tt) ∙ (rw (coded_read at pages code is.0 is.1, room_test) refl))
  service_leads (service.Delete at pages) known is =
      request_leads (service_words (service.Delete at pages)) (request.Service (service.Delete at pages)) (range_is_line (service.Delete at pages) at pages is)
      (ap (by_verb part.config (process_name p.0) (operands (service.Delete at pages))) (service_read c.version (service.Delete at pages) tt) ∙ (rw (range_read at pages is, room_test) refl))
  service_leads (service.Lock at pages) known is =
      request_leads (service_words (service.Lock at pages)) (request.Service (service.Lock at pages)) (range_is_line (service.Lock at pages) at pages is)
      (ap (by_verb part.config (process_name p.0) (operands (service.Lock at pages))) (service_read c.version (service.Lock at pages) tt) ∙ (rw (range_read at pages is, room_test) refl))
  service_leads (service.Unlock at pages) known is =
      request_leads (service_words (service.Unlock at pages)) (request.Service (service.Unlock at pages)) (range_is_line (service.Unlock at pages) at pages is)
      (ap (by_verb part.config (process_name p.0) (operands (service.Unlock at pages))) (service_read c.version (service.Unlock at pages) tt) ∙ (rw (range_read at pages is, room_test) refl))
  service_leads (service.Purge at pages) known is =
      request_leads (service_words (service.Purge at pages)) (request.Service (service.Purge at pages)) (range_is_line (service.Purge at pages) at pages is)
      (ap (by_verb part.config (process_name p.0) (operands (service.Purge at pages))) (service_read c.version (service.Purge at pages) tt) ∙ (rw (range_read at pages is, room_test) refl))
  service_leads (service.Pin at pages) known is =
      request_leads (service_words (service.Pin at pages)) (request.Service (service.Pin at pages)) (range_is_line (service.Pin at pages) at pages is)
      (ap (by_verb part.config (process_name p.0) (operands (service.Pin at pages))) (service_read c.version (service.Pin at pages) known) ∙ (rw (range_read at pages is, room_test) refl))
  service_leads (service.Unpin at pages) known is =
      request_leads (service_words (service.Unpin at pages)) (request.Service (service.Unpin at pages)) (range_is_line (service.Unpin at pages) at pages is)
      (ap (by_verb part.config (process_name p.0) (operands (service.Unpin at pages))) (service_read c.version (service.Unpin at pages) known) ∙ (rw (range_read at pages is, room_test) refl))
  service_leads (service.Adjust limit) known is =
      request_leads (service_words (service.Adjust limit)) (request.Service (service.Adjust limit))
      (line_of (1 ∷ 6 ∷ 10 ∷ []) (process_name p.0) (service_words (service.Adjust limit)) (letter_word p.0 letter_small, (service_word (service.Adjust limit), (number_word limit is, tt))) (omega arith))
      (ap (by_verb part.config (process_name p.0) (operands (service.Adjust limit))) (service_read c.version (service.Adjust limit) tt) ∙ (rw (process_read c.procs p.0 there few, number_read limit is, room_test) refl))

  pub task_leads : (r : Request) → IsRequestOf c.version r → IsWellFormedRequest r → Leads part ((process_name p.0 ∷ request_words r) ∷ []) (then_asking r)
  task_leads (request.Reference r) known is = reference_leads r.mode r.addr r.op is
  task_leads (request.Service s) known is = service_leads s known is

pub requests_lead : (c : Config) → IsWellFormed c → Leads (asking c place.Requests []) (map lines.request_line c.body) (asking c place.Requests c.body)
requests_lead c w = leads_each lines.request_line (λ body. asking c place.Requests body) c.body (λ before task after e.
    let is : IsTask c.version (length c.procs) task = member (IsTask c.version (length c.procs)) before task after c.body e w.body in
    let count = count_before before task after c.body e in
    let most : length c.body ≤ most_requests c.version = w.few_tasks in
    task_leads c w before (omega arith) task.proc is.proc task.request is.of_version is.request)
