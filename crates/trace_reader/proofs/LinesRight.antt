-- What a line that breaks no rule says: each kind of line by its words.
use Rattle.std.proofs.Common.{◌≡◌, ℕ, suc, ◌+◌, ◌%◌, ◌^◌, ◌<◌, ◌≤◌, Bool, true, false, cond, not, eqb, leb, ltb, ◌&&◌, List, [], ◌∷◌, length, All, Option, Some, None, Ok, Err, refl, sym, arith, ap}
use Rattle.std.specs.Prelude.{IfOk, codes, slice_get, is_some}
use Rattle.std.specs.List.{list_any}
use Rattle.std.specs.Option.{option_map_or}
use Rattle.std.proofs.lemmas.Bool.{and_parts, leb-true, ltb-true, not-true, true≢false}
use Rattle.std.proofs.lemmas.List.Elements.{All-nil, All-cons}
use Rattle.vm_types.specs.declared.limits.TheConstants.{MOST_BLOCKS, MOST_EXTENT, P0_PAGES, PAGE_BYTES}
use Rattle.vm_types.specs.Configuration.{IsBlock, IsMapping, IsLimited}
use Rattle.vm_types.specs.Kinds.{is_paged_kind}
use Rattle.vm_types.specs.Versions.{is_first, most_frames, most_requests}
use Rattle.vm_types.specs.WellFormed.{IsCode, IsRange, IsRequestOf, IsWellFormedRequest, width_bytes}
use Rattle.vm_types.specs.declared.config.Config.{Config}
use Rattle.vm_types.specs.declared.config.Mapping.{Mapping}
use Rattle.vm_types.specs.declared.config.Origin.TheVariants as origin
use Rattle.vm_types.specs.declared.config.ProcSpec.{ProcSpec}
use Rattle.vm_types.specs.declared.config.SectionKind.{SectionKind}
use Rattle.vm_types.specs.declared.config.SectionKind.TheVariants as kind
use Rattle.vm_types.specs.declared.config.Version.{Version}
use Rattle.vm_types.specs.declared.names.BlockId.TheVariants as block
use Rattle.vm_types.specs.declared.reference.Mode.{Mode}
use Rattle.vm_types.specs.declared.reference.Width.{Width}
use Rattle.vm_types.specs.declared.reference.Width.TheVariants.{Four}
use Rattle.vm_types.specs.declared.reference.Op.TheVariants as what
use Rattle.vm_types.specs.declared.service.Service.TheVariants as asked
use Rattle.vm_types.specs.declared.service.Request.{Request as Wanted}
use Rattle.vm_types.specs.declared.service.Request.TheVariants as wanted
use Rattle.trace_words.specs.declared.cause.Cause.TheVariants.{UnknownWord}
use Rattle.trace_words.specs.declared.ops.Access.{Access}
use Rattle.trace_words.specs.declared.ops.Access.TheVariants.{Read, Write, Add}
use Rattle.trace_words.specs.declared.services.ServiceName.{ServiceName}
use Rattle.trace_words.specs.declared.services.ServiceName.TheVariants as service
use Rattle.trace_words.specs.declared.verbs.Verb.{Verb}
use Rattle.trace_words.specs.declared.verbs.Verb.TheVariants.{Op, Service}
use Rattle.trace_words.specs.BlockWords.{Named, block_name}
use Rattle.trace_words.specs.BlockWords as named
use Rattle.trace_words.specs.Judged.{◌>>=◌}
use Rattle.trace_words.specs.Letter.{letter}
use Rattle.trace_words.specs.Name.{is_name}
use Rattle.trace_words.specs.Number.{decimal, decimal_within, hexadecimal}
use Rattle.trace_words.specs.Pairs.{pairs}
use Rattle.trace_words.specs.ParamWords.{param_of, least, most}
use Rattle.trace_words.specs.Protection.{protection}
use Rattle.trace_words.specs.VerbWords.{verb_of}
use Rattle.trace_words.specs.Words.{is}
use Rattle.trace_lines.specs.declared.part.Part.{Part}
use Rattle.trace_lines.specs.declared.ranges.Written.{Written}
use Rattle.trace_lines.specs.declared.ranges.Range.{Range}
use Rattle.trace_lines.specs.declared.ranges.CodedRange.{CodedRange}
use Rattle.trace_lines.specs.Declarations.{are_ordered, has_room, paged_kind, section_kind, section_line, data_line, process_line}
use Rattle.trace_lines.specs.Fails.{is_same, slots_at, block_named, call_numbers, fail_line}
use Rattle.trace_lines.specs.Headers.{version_line, long_line, frames_line, pagefile_line, param_line, bad_line, is_listed}
use Rattle.trace_lines.specs.Lookups.{process, section, number_named, or_none, pages_at, blocks_at, bytes_at, has_file, aligned, is_inside}
use Rattle.trace_lines.specs.Mappings.{overlaps, mapped, mapzero_line, mapsec_line}
use Rattle.trace_lines.specs.Places.{rank}
use Rattle.trace_lines.specs.Requests.{params_agree, has_frames, body_line, end_line, asked_by, read_line, write_of, reference_line, range_of, coded_range_of, adjust_line, service_line, is_word_of, verb_in, by_verb, request_line}
use Rattle.trace_lines.specs.Says as says
use Rattle.trace_lines.specs.Says.{Says}
use Rattle.trace_reader.specs.Right.{Fits, place_for}
use Rattle.trace_reader.proofs.Giving.{owed_gives, bind_gives, if_gives, then_gives, step_gives, pass_gives, InRange, number_gives, IsWord, decimal_gives, aligned_gives, process_number, section_number, name_gives, protection_gives, inside_gives, blocks_give, origin_gives}

-- the line says what fits, and stands there
abbrev pub Gives : Part → ℕ → Says → Type 0
Gives part place said = Fits part said × (place_for said (rank part.place) ≡ place)

pub version_gives : (part : Part) (words : List (List ℕ)) → IfOk (version_line words) (Gives part 0)
version_gives part [] = tt
version_gives part (n ∷ []) = pass_gives _ _ (decimal_within 1 2 n) _ (Gives part 0) (λ _. (tt, refl))
version_gives part (a ∷ b ∷ more) = tt

pub long_gives : (part : Part) (words : List (List ℕ)) → IfOk (long_line words) (Gives part 0)
long_gives part [] = tt
long_gives part (n ∷ []) = pass_gives _ _ (decimal_within 2 2 n) _ (Gives part 0) (λ _. (tt, refl))
long_gives part (a ∷ b ∷ more) = tt

pub frames_gives : (part : Part) (words : List (List ℕ)) → IfOk (frames_line part.config words) (Gives part 1)
frames_gives part [] = tt
frames_gives part (n ∷ []) =
    let most = most_frames part.config.version in
    step_gives _ _ (decimal_within 8 most n) _ (InRange 8 most) (Gives part 1) (number_gives 8 most n) (λ n range. ((range.0, range.1), refl))
frames_gives part (a ∷ b ∷ more) = tt

pub pagefile_gives : (part : Part) (words : List (List ℕ)) → IfOk (pagefile_line words) (Gives part 2)
pagefile_gives part [] = tt
pagefile_gives part (n ∷ []) = step_gives _ _ (decimal_within 1 MOST_BLOCKS n) _ (InRange 1 MOST_BLOCKS) (Gives part 2) (number_gives 1 MOST_BLOCKS n) (λ n range. (range, refl))
pagefile_gives part (a ∷ b ∷ more) = tt

pub param_gives : (part : Part) (words : List (List ℕ)) → IfOk (param_line part.given words) (Gives part 3)
param_gives part [] = tt
param_gives part (a ∷ []) = tt
param_gives part (name ∷ n ∷ []) =
    pass_gives _ _ (param_of name) _ (Gives part 3) (λ p. step_gives _ _ (decimal_within (least p) (most p) n) _ (InRange (least p) (most p)) (Gives part 3) (number_gives (least p) (most p) n) (λ v range.
    owed_gives _ _ (Ok (says.Param p v)) (Gives part 3) (λ _. (range, refl))))
param_gives part (a ∷ b ∷ c ∷ more) = tt

pub bad_gives : (part : Part) (words : List (List ℕ)) → IfOk (bad_line part.config words) (Gives part 3)
bad_gives part [] = tt
bad_gives part (f ∷ []) =
    pass_gives _ _ (decimal f) _ (Gives part 3) (λ f. owed_gives (ltb f part.config.frames) _ _ (Gives part 3) (λ below.
    owed_gives (not (is_listed part.config.bad f)) _ (Ok (says.Bad f)) (Gives part 3) (λ new. ((ltb-true f part.config.frames below, not-true (is_listed part.config.bad f) new), refl))))
bad_gives part (a ∷ b ∷ more) = tt

none_found : (o : Option ℕ) → not (is_some o) ≡ true → o ≡ None
none_found None e = refl
none_found (Some n) e = cc

-- version 1 has no section in the page file
abbrev IsOfVersion : Version → SectionKind → Type 0
IsOfVersion v of_kind = is_paged_kind of_kind ≡ true → is_first v ≡ false

paged_gives : (v : Version) → IfOk (paged_kind v) (IsOfVersion v)
paged_gives v = by (is_first v) refl
  where
    by : (b : Bool) → is_first v ≡ b → IfOk (cond b (Err UnknownWord) (Ok kind.Paged)) (IsOfVersion v)
    by true e = tt
    by false e = λ paged. e

kind_gives : (v : Version) (word : List ℕ) → IfOk (section_kind v word) (IsOfVersion v)
kind_gives v word =
    if_gives (is word (codes "SHARED")) _ _ (IsOfVersion v) (λ paged. absurd (true≢false (sym paged)))
    (if_gives (is word (codes "CRF")) _ _ (IsOfVersion v) (λ paged. absurd (true≢false (sym paged)))
    (if_gives (is word (codes "PAGED")) _ _ (IsOfVersion v) (paged_gives v) tt))

pub section_gives : (part : Part) (words : List (List ℕ)) → IfOk (section_line part.config words) (Gives part 3)
section_gives part [] = tt
section_gives part (a ∷ []) = tt
section_gives part (a ∷ b ∷ []) = tt
section_gives part (name ∷ word ∷ n ∷ []) =
    owed_gives (is_name name) _ _ (Gives part 3) (λ good. step_gives _ _ (section_kind part.config.version word) _ (IsOfVersion part.config.version) (Gives part 3) (kind_gives part.config.version word) (λ of_kind paged.
    step_gives _ _ (decimal_within 1 4294967295 n) _ (InRange 1 4294967295) (Gives part 3) (number_gives 1 4294967295 n) (λ pages range.
    owed_gives (not (is_some (number_named part.config.sections name))) _ _ (Gives part 3) (λ new.
    owed_gives (has_room part.config.sections pages) _ (Ok (says.Section name of_kind pages)) (Gives part 3) (λ room.
    ((name_gives name good, range.0, none_found (number_named part.config.sections name) new, room, paged), refl))))))
section_gives part (a ∷ b ∷ c ∷ d ∷ more) = tt

pub data_gives : (part : Part) (words : List (List ℕ)) → IfOk (data_line part.config words) (Gives part 3)
data_gives part [] = tt
data_gives part (a ∷ []) = tt
data_gives part (a ∷ b ∷ []) = tt
data_gives part (name ∷ offset ∷ hex ∷ []) =
    step_gives _ _ (section part.config.sections name) _ (λ s. s < length part.config.sections) (Gives part 3) (section_number part.config.sections name) (λ s there.
    owed_gives (has_file part.config.sections s) _ _ (Gives part 3) (λ file. pass_gives _ _ (decimal offset) _ (Gives part 3) (λ at. pass_gives _ _ (pairs hex) _ (Gives part 3) (λ bytes.
    owed_gives (leb (at + length bytes) (bytes_at part.config.sections s)) _ (Ok (says.Data s at bytes)) (Gives part 3) (λ inside.
    ((there, leb-true (at + length bytes) (bytes_at part.config.sections s) inside, file), refl))))))
data_gives part (a ∷ b ∷ c ∷ d ∷ more) = tt

ordered_gives : (spec : ProcSpec) → spec.extent ≤ MOST_EXTENT → are_ordered spec ≡ true → IsLimited spec
ordered_gives spec few e =
    let a = leb (spec.locks + 2) spec.limit in
    let b = leb spec.limit spec.quota in
    let c = leb spec.quota spec.extent in
    let ab = and_parts (a && b) c e in
    let a_b = and_parts a b ab.0 in
    record { locks = leb-true (spec.locks + 2) spec.limit a_b.0; quota = leb-true spec.limit spec.quota a_b.1; extent = leb-true spec.quota spec.extent ab.1; most = few }

pub process_gives : (part : Part) (words : List (List ℕ)) → IfOk (process_line part.config words) (Gives part 3)
process_gives part [] = tt
process_gives part (a ∷ []) = tt
process_gives part (a ∷ b ∷ []) = tt
process_gives part (a ∷ b ∷ c ∷ []) = tt
process_gives part (a ∷ b ∷ c ∷ d ∷ []) = tt
process_gives part (x ∷ limit ∷ quota ∷ extent ∷ locks ∷ []) =
    pass_gives _ _ (letter x) _ (Gives part 3) (λ p. owed_gives (eqb p (length part.config.procs)) _ _ (Gives part 3) (λ order.
    pass_gives _ _ (decimal limit) _ (Gives part 3) (λ l. pass_gives _ _ (decimal quota) _ (Gives part 3) (λ q.
    step_gives _ _ (decimal_within 0 MOST_EXTENT extent) _ (InRange 0 MOST_EXTENT) (Gives part 3) (number_gives 0 MOST_EXTENT extent) (λ x few. pass_gives _ _ (decimal locks) _ (Gives part 3) (λ k.
    let spec : ProcSpec = record { limit = l; quota = q; extent = x; locks = k } in
    owed_gives (are_ordered spec) _ _ (Gives part 3) (λ ordered. owed_gives (ltb (length part.config.procs) 16) _ (Ok (says.Process spec)) (Gives part 3) (λ room.
    ((ordered_gives spec few.1 ordered, ltb-true (length part.config.procs) 16 room), refl)))))))))
process_gives part (a ∷ b ∷ c ∷ d ∷ e ∷ f ∷ more) = tt

-- a mapping that fits apart from where it lies
abbrev CanMap : Part → Mapping → Type 0
CanMap part m = is_inside (m.at).0 m.pages ≡ true → IsMapping (length part.config.procs) part.config.sections m

mapped_gives : (part : Part) (m : Mapping) → CanMap part m → IfOk (mapped part.config m) (Gives part 3)
mapped_gives part m can =
    owed_gives (is_inside (m.at).0 m.pages) _ _ (Gives part 3) (λ inside. owed_gives (not (list_any (λ b. overlaps b m) part.config.maps)) _ (Ok (says.Map m)) (Gives part 3) (λ new.
    ((can inside, inside, not-true (list_any (λ b. overlaps b m) part.config.maps) new), refl)))

pub mapzero_gives : (part : Part) (words : List (List ℕ)) → IfOk (mapzero_line part.config words) (Gives part 3)
mapzero_gives part [] = tt
mapzero_gives part (a ∷ []) = tt
mapzero_gives part (a ∷ b ∷ []) = tt
mapzero_gives part (a ∷ b ∷ c ∷ []) = tt
mapzero_gives part (x ∷ addr ∷ n ∷ prot ∷ []) =
    step_gives _ _ (process part.config.procs x) _ (λ p. p < length part.config.procs) (Gives part 3) (process_number part.config.procs x) (λ p there.
    step_gives _ _ (aligned PAGE_BYTES addr) _ (λ at. IsWord at × (at % PAGE_BYTES ≡ 0)) (Gives part 3) (aligned_gives PAGE_BYTES addr) (λ at whole.
    step_gives _ _ (decimal_within 1 P0_PAGES n) _ (InRange 1 P0_PAGES) (Gives part 3) (number_gives 1 P0_PAGES n) (λ pages few.
    step_gives _ _ (protection prot) _ IsCode (Gives part 3) (protection_gives prot) (λ code good.
    mapped_gives part (record { proc = record { 0 = p }; at = record { 0 = at }; pages = pages; from = origin.Zero; prot = code })
    (λ inside. record { proc = there; range = inside_gives at pages whole.1 few inside; code = good; origin = tt })))))
mapzero_gives part (a ∷ b ∷ c ∷ d ∷ e ∷ more) = tt

pub mapsec_gives : (part : Part) (words : List (List ℕ)) → IfOk (mapsec_line part.config words) (Gives part 3)
mapsec_gives part [] = tt
mapsec_gives part (a ∷ []) = tt
mapsec_gives part (a ∷ b ∷ []) = tt
mapsec_gives part (a ∷ b ∷ c ∷ []) = tt
mapsec_gives part (a ∷ b ∷ c ∷ d ∷ []) = tt
mapsec_gives part (a ∷ b ∷ c ∷ d ∷ e ∷ []) = tt
mapsec_gives part (x ∷ addr ∷ n ∷ name ∷ first ∷ prot ∷ []) =
    step_gives _ _ (process part.config.procs x) _ (λ p. p < length part.config.procs) (Gives part 3) (process_number part.config.procs x) (λ p there.
    step_gives _ _ (aligned PAGE_BYTES addr) _ (λ at. IsWord at × (at % PAGE_BYTES ≡ 0)) (Gives part 3) (aligned_gives PAGE_BYTES addr) (λ at whole.
    step_gives _ _ (decimal_within 1 P0_PAGES n) _ (InRange 1 P0_PAGES) (Gives part 3) (number_gives 1 P0_PAGES n) (λ pages few.
    pass_gives _ _ (section part.config.sections name) _ (Gives part 3) (λ s. pass_gives _ _ (decimal first) _ (Gives part 3) (λ page.
    step_gives _ _ (protection prot) _ IsCode (Gives part 3) (protection_gives prot) (λ code good.
    owed_gives (leb (page + pages) (pages_at part.config.sections s)) _ _ (Gives part 3) (λ fits.
    mapped_gives part (record { proc = record { 0 = p }; at = record { 0 = at }; pages = pages; from = origin.Section (record { 0 = s }) page; prot = code })
    (λ inside. record {
      proc = there;
      range = inside_gives at pages whole.1 few inside;
      code = good;
      origin = origin_gives part.config.sections s page pages few.0 (leb-true (page + pages) (pages_at part.config.sections s) fits);
    }))))))))
mapsec_gives part (a ∷ b ∷ c ∷ d ∷ e ∷ f ∷ g ∷ more) = tt

-- blocks

slots_give : (procs : List ProcSpec) (p slot : ℕ) → slot < slots_at procs p → (x : ProcSpec) × (slice_get procs p ≡ Some x) × (slot < x.extent)
slots_give procs p slot lt = by_process (slice_get procs p) refl lt where
  by_process : (o : Option ProcSpec) → slice_get procs p ≡ o → slot < option_map_or (λ (x : ProcSpec). x.extent) o 0 → (x : ProcSpec) × (slice_get procs p ≡ Some x) × (slot < x.extent)
  by_process None e h = absurd (omega (arith, h))
  by_process (Some x) e h = (x, e, h)

block_gives : (config : Config) (name : Named) → IfOk (block_named config name) (IsBlock config)
block_gives config (named.Section name page) =
    then_gives (or_none (number_named config.sections name)) _ (IsBlock config) (λ s. owed_gives (ltb page (blocks_at config.sections s)) _ (Ok (block.Section (record { 0 = s }) page)) (IsBlock config) (λ e.
    blocks_give config.sections s page (ltb-true page (blocks_at config.sections s) e)))
block_gives config (named.PageFile b) = owed_gives (ltb b config.pagefile) _ (Ok (block.PageFile b)) (IsBlock config) (λ e. ltb-true b config.pagefile e)
block_gives config (named.Swap p slot) = owed_gives (ltb slot (slots_at config.procs p)) _ (Ok (block.Swap (record { 0 = p }) slot)) (IsBlock config) (λ e. slots_give config.procs p slot (ltb-true slot (slots_at config.procs p) e))

abbrev AreCalls : List (List ℕ) → List ℕ → Type 0
AreCalls words calls = (length calls ≡ length words) × All (λ call. 1 ≤ call) calls

calls_give : (place : ℕ) (words : List (List ℕ)) → IfOk (call_numbers place words) (AreCalls words)
calls_give place [] = (refl, All-nil (λ call. 1 ≤ call))
calls_give place (word ∷ words) =
    step_gives _ _ (decimal_within 1 4294967295 word) _ (InRange 1 4294967295) (AreCalls (word ∷ words)) (number_gives 1 4294967295 word) (λ n range.
    bind_gives (call_numbers (place + 1) words) (λ more. Ok (n ∷ more)) (AreCalls words) (AreCalls (word ∷ words)) (calls_give (place + 1) words) (λ more rest. (ap suc rest.0, All-cons (λ call. 1 ≤ call) n more range.0 rest.1)))

pub fail_gives : (part : Part) (words : List (List ℕ)) → IfOk (fail_line part.config words) (Gives part 3)
fail_gives part [] = tt
fail_gives part (name ∷ words) =
    owed_gives (leb 1 (length words) && leb (length words) 16) _ _ (Gives part 3) (λ some.
    let both = and_parts (leb 1 (length words)) (leb (length words) 16) some in
    let low : 1 ≤ length words = leb-true 1 (length words) both.0 in
    let high : length words ≤ 16 = leb-true (length words) 16 both.1 in
    step_gives _ _ (block_name name >>= block_named part.config) _ (IsBlock part.config) (Gives part 3) (then_gives (block_name name) (block_named part.config) (IsBlock part.config) (λ b. block_gives part.config b)) (λ id there.
    bind_gives (call_numbers 3 words) _ (AreCalls words) (Gives part 3) (calls_give 3 words) (λ calls good.
    owed_gives (not (list_any (λ f. is_same f.block id) part.config.fails)) _ (Ok (says.Fail id calls)) (Gives part 3) (λ new.
    ((there, (omega (arith, low, good.0), omega (arith, high, good.0)), good.1, not-true (list_any (λ f. is_same f.block id) part.config.fails) new), refl)))))

-- BODY, END and requests

pub body_gives : (part : Part) (words : List (List ℕ)) → IfOk (body_line part.config words) (Gives part 3)
body_gives part [] =
    owed_gives (ltb 0 (length part.config.procs)) _ _ (Gives part 3) (λ some. owed_gives (params_agree part.config.params && has_frames part.config) _ (Ok says.Body) (Gives part 3) (λ e.
    let both = and_parts (params_agree part.config.params) (has_frames part.config) e in
    let one : 0 < length part.config.procs = ltb-true 0 (length part.config.procs) some in
    ((omega (arith, one), both.0, both.1), refl)))
body_gives part (a ∷ more) = tt

pub end_gives : (part : Part) (words : List (List ℕ)) → IfOk (end_line words) (Gives part 4)
end_gives part [] = (tt, refl)
end_gives part (a ∷ more) = tt

asked_gives : (part : Part) (p : ℕ) (request : Wanted) → p < length part.config.procs → IsWellFormedRequest request → IsRequestOf part.config.version request → IfOk (asked_by part.config p request) (Gives part 4)
asked_gives part p request there good known =
    owed_gives (ltb (length part.config.body) (most_requests part.config.version)) _ (Ok (says.Request (record { proc = record { 0 = p }; request = request }))) (Gives part 4) (λ room.
    ((record { proc = there; request = good; of_version = known }, ltb-true (length part.config.body) (most_requests part.config.version) room), refl))

read_gives : (part : Part) (x : List ℕ) (mode : Mode) (width : Width) (words : List (List ℕ)) → IfOk (read_line part.config x mode width words) (Gives part 4)
read_gives part x mode width [] = tt
read_gives part x mode width (addr ∷ []) =
    step_gives _ _ (process part.config.procs x) _ (λ p. p < length part.config.procs) (Gives part 4) (process_number part.config.procs x) (λ p there.
    step_gives _ _ (aligned (width_bytes width) addr) _ (λ at. IsWord at × (at % width_bytes width ≡ 0)) (Gives part 4) (aligned_gives (width_bytes width) addr) (λ at good.
    asked_gives part p (wanted.Reference (record { mode = mode; addr = record { 0 = at }; op = what.Read width })) there (record { address = good.0; aligned = good.1; fits = tt }) tt))
read_gives part x mode width (a ∷ b ∷ more) = tt

abbrev IsGoodWrite : Part → Width → Written → Type 0
IsGoodWrite part width w = (w.proc < length part.config.procs) × IsWord w.at × (w.at % width_bytes width ≡ 0) × (w.value < 256 ^ width_bytes width)

write_gives : (part : Part) (x : List ℕ) (width : Width) (words : List (List ℕ)) → IfOk (write_of part.config x width words) (IsGoodWrite part width)
write_gives part x width [] = tt
write_gives part x width (a ∷ []) = tt
write_gives part x width (addr ∷ value ∷ []) =
    step_gives _ _ (process part.config.procs x) _ (λ p. p < length part.config.procs) (IsGoodWrite part width) (process_number part.config.procs x) (λ p there.
    step_gives _ _ (aligned (width_bytes width) addr) _ (λ at. IsWord at × (at % width_bytes width ≡ 0)) (IsGoodWrite part width) (aligned_gives (width_bytes width) addr) (λ at good.
    pass_gives _ _ (hexadecimal value) _ (IsGoodWrite part width) (λ n. owed_gives (ltb n (256 ^ width_bytes width)) _ (Ok (record { proc = p; at = at; value = n })) (IsGoodWrite part width) (λ fits.
    (there, good.0, good.1, ltb-true n (256 ^ width_bytes width) fits)))))
write_gives part x width (a ∷ b ∷ c ∷ more) = tt

reference_gives : (part : Part) (x : List ℕ) (mode : Mode) (access : Access) (words : List (List ℕ)) → IfOk (reference_line part.config x mode access words) (Gives part 4)
reference_gives part x mode (Read width) words = read_gives part x mode width words
reference_gives part x mode (Write width) words = bind_gives (write_of part.config x width words) _ (IsGoodWrite part width) (Gives part 4) (write_gives part x width words) (λ w good.
    asked_gives part w.proc (wanted.Reference (record { mode = mode; addr = record { 0 = w.at }; op = what.Write width w.value })) good.0 (record { address = good.1; aligned = good.2; fits = good.3 }) tt)
reference_gives part x mode Add words = bind_gives (write_of part.config x Four words) _ (IsGoodWrite part Four) (Gives part 4) (write_gives part x Four words) (λ w good.
    asked_gives part w.proc (wanted.Reference (record { mode = mode; addr = record { 0 = w.at }; op = what.Add w.value })) good.0 (record { address = good.1; aligned = good.2; fits = good.3 }) tt)

abbrev IsGoodRange : Part → Range → Type 0
IsGoodRange part r = (r.proc < length part.config.procs) × IsRange r.at r.pages

range_gives : (part : Part) (x : List ℕ) (words : List (List ℕ)) → IfOk (range_of part.config x words) (IsGoodRange part)
range_gives part x [] = tt
range_gives part x (a ∷ []) = tt
range_gives part x (addr ∷ n ∷ []) =
    step_gives _ _ (process part.config.procs x) _ (λ p. p < length part.config.procs) (IsGoodRange part) (process_number part.config.procs x) (λ p there.
    step_gives _ _ (aligned PAGE_BYTES addr) _ (λ at. IsWord at × (at % PAGE_BYTES ≡ 0)) (IsGoodRange part) (aligned_gives PAGE_BYTES addr) (λ at whole.
    step_gives _ _ (decimal_within 1 P0_PAGES n) _ (InRange 1 P0_PAGES) (IsGoodRange part) (number_gives 1 P0_PAGES n) (λ pages few.
    owed_gives (is_inside at pages) _ (Ok (record { proc = p; at = at; pages = pages })) (IsGoodRange part) (λ inside. (there, inside_gives at pages whole.1 few inside)))))
range_gives part x (a ∷ b ∷ c ∷ more) = tt

abbrev IsGoodCodedRange : Part → CodedRange → Type 0
IsGoodCodedRange part r = (r.proc < length part.config.procs) × IsRange r.at r.pages × IsCode r.prot

coded_range_gives : (part : Part) (x : List ℕ) (words : List (List ℕ)) → IfOk (coded_range_of part.config x words) (IsGoodCodedRange part)
coded_range_gives part x [] = tt
coded_range_gives part x (a ∷ []) = tt
coded_range_gives part x (a ∷ b ∷ []) = tt
coded_range_gives part x (addr ∷ n ∷ prot ∷ []) =
    step_gives _ _ (process part.config.procs x) _ (λ p. p < length part.config.procs) (IsGoodCodedRange part) (process_number part.config.procs x) (λ p there.
    step_gives _ _ (aligned PAGE_BYTES addr) _ (λ at. IsWord at × (at % PAGE_BYTES ≡ 0)) (IsGoodCodedRange part) (aligned_gives PAGE_BYTES addr) (λ at whole.
    step_gives _ _ (decimal_within 1 P0_PAGES n) _ (InRange 1 P0_PAGES) (IsGoodCodedRange part) (number_gives 1 P0_PAGES n) (λ pages few.
    step_gives _ _ (protection prot) _ IsCode (IsGoodCodedRange part) (protection_gives prot) (λ code good.
    owed_gives (is_inside at pages) _ (Ok (record { proc = p; at = at; pages = pages; prot = code })) (IsGoodCodedRange part) (λ inside. (there, inside_gives at pages whole.1 few inside, good))))))
coded_range_gives part x (a ∷ b ∷ c ∷ d ∷ more) = tt

adjust_gives : (part : Part) (x : List ℕ) (words : List (List ℕ)) → IfOk (adjust_line part.config x words) (Gives part 4)
adjust_gives part x [] = tt
adjust_gives part x (limit ∷ []) =
    step_gives _ _ (process part.config.procs x) _ (λ p. p < length part.config.procs) (Gives part 4) (process_number part.config.procs x) (λ p there.
    step_gives _ _ (decimal limit) _ IsWord (Gives part 4) (decimal_gives limit) (λ n small. asked_gives part p (wanted.Service (asked.Adjust n)) there small tt))
adjust_gives part x (a ∷ b ∷ more) = tt

service_gives : (part : Part) (x : List ℕ) (name : ServiceName) (words : List (List ℕ)) → is_word_of part.config.version name ≡ true → IfOk (service_line part.config x name words) (Gives part 4)
service_gives part x service.Create words known = bind_gives (coded_range_of part.config x words) _ (IsGoodCodedRange part) (Gives part 4) (coded_range_gives part x words) (λ r good. asked_gives part r.proc (wanted.Service (asked.Create (record { 0 = r.at }) r.pages r.prot)) good.0 (good.1, good.2) tt)
service_gives part x service.Protect words known = bind_gives (coded_range_of part.config x words) _ (IsGoodCodedRange part) (Gives part 4) (coded_range_gives part x words) (λ r good. asked_gives part r.proc (wanted.Service (asked.Protect (record { 0 = r.at }) r.pages r.prot)) good.0 (good.1, good.2) tt)
service_gives part x service.Delete words known = bind_gives (range_of part.config x words) _ (IsGoodRange part) (Gives part 4) (range_gives part x words) (λ r good. asked_gives part r.proc (wanted.Service (asked.Delete (record { 0 = r.at }) r.pages)) good.0 good.1 tt)
service_gives part x service.Lock words known = bind_gives (range_of part.config x words) _ (IsGoodRange part) (Gives part 4) (range_gives part x words) (λ r good. asked_gives part r.proc (wanted.Service (asked.Lock (record { 0 = r.at }) r.pages)) good.0 good.1 tt)
service_gives part x service.Unlock words known = bind_gives (range_of part.config x words) _ (IsGoodRange part) (Gives part 4) (range_gives part x words) (λ r good. asked_gives part r.proc (wanted.Service (asked.Unlock (record { 0 = r.at }) r.pages)) good.0 good.1 tt)
service_gives part x service.Purge words known = bind_gives (range_of part.config x words) _ (IsGoodRange part) (Gives part 4) (range_gives part x words) (λ r good. asked_gives part r.proc (wanted.Service (asked.Purge (record { 0 = r.at }) r.pages)) good.0 good.1 tt)
service_gives part x service.Pin words known = bind_gives (range_of part.config x words) _ (IsGoodRange part) (Gives part 4) (range_gives part x words) (λ r good. asked_gives part r.proc (wanted.Service (asked.Pin (record { 0 = r.at }) r.pages)) good.0 good.1 (not-true (is_first part.config.version) known))
service_gives part x service.Unpin words known = bind_gives (range_of part.config x words) _ (IsGoodRange part) (Gives part 4) (range_gives part x words) (λ r good. asked_gives part r.proc (wanted.Service (asked.Unpin (record { 0 = r.at }) r.pages)) good.0 good.1 (not-true (is_first part.config.version) known))
service_gives part x service.Adjust words known = adjust_gives part x words

unknown_gives : (part : Part) (x : List ℕ) (words : List (List ℕ)) → IfOk (by_verb part.config x words None) (Gives part 4)
unknown_gives part x words = pass_gives _ _ (process part.config.procs x) _ (Gives part 4) (λ _. tt)

verb_gives : (part : Part) (x : List ℕ) (words : List (List ℕ)) (verb : Option Verb) → IfOk (by_verb part.config x words (verb_in part.config.version verb)) (Gives part 4)
verb_gives part x words None = unknown_gives part x words
verb_gives part x words (Some (Op op)) = reference_gives part x op.mode op.access words
verb_gives part x words (Some (Service name)) = go (is_word_of part.config.version name) refl
  where
    go : (b : Bool) → is_word_of part.config.version name ≡ b → IfOk (by_verb part.config x words (cond b (Some (Service name)) None)) (Gives part 4)
    go true known = service_gives part x name words known
    go false known = unknown_gives part x words

pub request_gives : (part : Part) (x : List ℕ) (words : List (List ℕ)) → IfOk (request_line part.config x words) (Gives part 4)
request_gives part x [] = tt
request_gives part x (second ∷ words) = verb_gives part x words (verb_of second)
