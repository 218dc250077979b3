-- The whole text of a plain spelling is read as what it spells.
use Rattle.std.proofs.Common.{◌≡◌, ℕ, ◌+◌, ◌<◌, ◌≤◌, true, false, List, [], ◌∷◌, ◌++◌, length, map, flat_map, replicate, refl, ap, ◌∙◌, arith, length-append}
use Rattle.std.specs.Prelude.{codes}
use Rattle.vm_types.specs.Configuration.{IsWellFormed}
use Rattle.vm_types.specs.declared.config.Config.{Config}
use Rattle.trace_words.specs.ParamWords.{default_params}
use Rattle.trace_lines.specs.declared.places.Place.TheVariants as place
use Rattle.trace_lines.specs.Says as says
use Rattle.trace_reader.specs.Changes.{start, changed}
use Rattle.trace_reader.specs.Meaning.{judge, lines}
use Rattle.trace_reader.proofs.Splitting.{lines_at}
use Rattle.trace_spelling.specs.Laws.{IsTyped, SpellingIsRead}
use Rattle.trace_spelling.specs.Lines.{Line, version_line, param_lines, bad_line, section_line, data_lines, process_lines, map_line, fail_line, request_line}
use Rattle.trace_spelling.specs.Spelling.{line_text, text_of, declaration_lines, lines_of, spelling}
use Rattle.trace_spelling.proofs.Printing.{line_drawn, drawn_one_line}
use Rattle.trace_spelling.proofs.Leading.{AreLines, Leads, leads_append, line_judged}
use Rattle.trace_spelling.proofs.Headers.{declaring, headers_lead, machine_lines, params_lead, bads_lead, version_is_line, version_says}
use Rattle.trace_spelling.proofs.Sections.{blank, sections_lead, data_lead}
use Rattle.trace_spelling.proofs.Mapped.{processes_lead, maps_lead}
use Rattle.trace_spelling.proofs.Failing.{fails_lead}
use Rattle.trace_spelling.proofs.Asked.{asking, body_leads, requests_lead, end_leads}

-- the lines of the text are the lines that it was made of

text_lines : (all : List Line) → AreLines all → lines (text_of all) ≡ map line_text all ++ [] ∷ []
text_lines [] are = refl
text_lines ([] ∷ all) are = absurd (none are.0.some) where
  none : 0 < 0 → ⊥
  none h = omega arith
text_lines ((word ∷ more) ∷ all) are =
    lines_at (line_text (word ∷ more)) (text_of all) (drawn_one_line (line_text (word ∷ more)) (line_drawn word more are.0.words))
    ∙ ap (λ (ls : List (List ℕ)). line_text (word ∷ more) ∷ ls) (text_lines all are.1)

declarations_lead : (c : Config) → IsWellFormed c → IsTyped c → Leads (declaring c (replicate 14 false) default_params [] [] [] [] []) (declaration_lines c) (declaring c (replicate 14 true) c.params c.bad c.sections c.procs c.maps c.fails)
declarations_lead c w t =
    let p0 = declaring c (replicate 14 false) default_params [] [] [] [] [] in
    let p1 = declaring c (replicate 14 true) c.params [] [] [] [] [] in
    let p2 = declaring c (replicate 14 true) c.params c.bad [] [] [] [] in
    let p3 = declaring c (replicate 14 true) c.params c.bad (map blank c.sections) [] [] [] in
    let p4 = declaring c (replicate 14 true) c.params c.bad c.sections [] [] [] in
    let p5 = declaring c (replicate 14 true) c.params c.bad c.sections c.procs [] [] in
    let p6 = declaring c (replicate 14 true) c.params c.bad c.sections c.procs c.maps [] in
    let p7 = declaring c (replicate 14 true) c.params c.bad c.sections c.procs c.maps c.fails in
    let l1 : List Line = param_lines c.params in
    let l2 : List Line = map bad_line c.bad in
    let l3 : List Line = map section_line c.sections in
    let l4 : List Line = flat_map data_lines c.sections in
    let l5 : List Line = process_lines 0 c.procs in
    let l6 : List Line = map (map_line c.sections) c.maps in
    let l7 : List Line = map (fail_line c.sections) c.fails in
    leads_append p0 p6 p7 (l1 ++ l2 ++ l3 ++ l4 ++ l5 ++ l6) l7
    (leads_append p0 p5 p6 (l1 ++ l2 ++ l3 ++ l4 ++ l5) l6
    (leads_append p0 p4 p5 (l1 ++ l2 ++ l3 ++ l4) l5
    (leads_append p0 p3 p4 (l1 ++ l2 ++ l3) l4
    (leads_append p0 p2 p3 (l1 ++ l2) l3
    (leads_append p0 p1 p2 l1 l2 (params_lead c w) (bads_lead c w))
    (sections_lead c w)) (data_lead c w t)) (processes_lead c w)) (maps_lead c w)) (fails_lead c w t)

-- the lines behind the first
abbrev later_lines : Config → List Line
later_lines c = machine_lines c ++ declaration_lines c ++ (codes "BODY" ∷ []) ∷ map request_line c.body ++ (codes "END" ∷ []) ∷ []

later_lead : (c : Config) → IsWellFormed c → IsTyped c → Leads (changed start (says.Version c.version)) (later_lines c) (asking c place.Ended c.body)
later_lead c w t =
    let first = changed start (says.Version c.version) in
    let p0 = declaring c (replicate 14 false) default_params [] [] [] [] [] in
    let p1 = asking c place.Declarations [] in
    let p2 = asking c place.Requests [] in
    let p3 = asking c place.Requests c.body in
    let p4 = asking c place.Ended c.body in
    let l0 : List Line = machine_lines c in
    let l1 : List Line = declaration_lines c in
    let l2 : List Line = map request_line c.body in
    let body : List Line = (codes "BODY" ∷ []) ∷ [] in
    let end : List Line = (codes "END" ∷ []) ∷ [] in
    leads_append first p3 p4 (l0 ++ l1 ++ (codes "BODY" ∷ []) ∷ l2) end
    (leads_append first p1 p3 (l0 ++ l1) ((codes "BODY" ∷ []) ∷ l2)
    (leads_append first p0 p1 l0 l1 (headers_lead c w) (declarations_lead c w t))
    (leads_append p1 p2 p3 body l2 (body_leads c w) (requests_lead c w))) (end_leads c)

one_more : (line : Line) (more : List Line) → length (line ∷ more) ≡ length more + 1
one_more line more = omega arith

pub spelling_is_read : SpellingIsRead
unfolding spelling
spelling_is_read c w t few =
    let h = later_lead c w t in
    let is = version_is_line c.version in
    let count : length (lines_of c) ≡ length (later_lines c) + 1 = one_more (version_line c.version) (later_lines c) in
    let texts = map line_text (later_lines c) ++ [] ∷ [] in
    let some : 0 < length texts = omega (arith, length-append (map line_text (later_lines c)) ([] ∷ [])) in
    ap (judge 1 start) (text_lines (lines_of c) (is, h.printed))
    ∙ line_judged start (version_line c.version) (says.Version c.version) is (version_says c.version) 1 texts some (omega arith)
    ∙ h.judged 2 ([] ∷ []) (omega arith) (omega (arith, few, count))
