-- What a line says, added to the declarations, keeps them sound.
use Rattle.std.proofs.Common.{◌≡◌, ◌≢◌, ℕ, ◌+◌, ◌*◌, ◌/◌, ◌%◌, ◌<◌, ◌≤◌, Bool, true, false, ltb, cond, List, [], ◌∷◌, length, get_or, All, Option, Some, None, refl, sym, ap, ◌∙◌, arith}
use Rattle.std.specs.Prelude.{bytes_eq, replicate}
use Rattle.std.proofs.lemmas.Slice.Eq.{bytes_eq-Decides}
use Rattle.std.specs.List.{position_from, AllByRecursion}
use Rattle.std.proofs.lemmas.Iterator.Adapters.{position_from-zero}
use Rattle.std.proofs.lemmas.List.Elements.{All-from_recursion}
use Rattle.std.proofs.lemmas.Bool.{and_parts, leb-true, ltb-true}
use Rattle.std.proofs.lemmas.List.{length-replicate}
use Rattle.vm_types.specs.declared.limits.TheConstants.{MOST_SECTION_PAGES, PAGE_BYTES}
use Rattle.vm_types.specs.Configuration.{IsName, IsSection, section_pages}
use Rattle.vm_types.specs.Kinds.{is_paged_kind}
use Rattle.vm_types.specs.Versions.{is_first}
use Rattle.vm_types.specs.declared.config.Params.{Params}
use Rattle.vm_types.specs.declared.config.Section.{Section as Held}
use Rattle.vm_types.specs.declared.config.SectionKind.{SectionKind}
use Rattle.vm_types.specs.declared.config.Version.{Version}
use Rattle.trace_words.specs.declared.params.Param.{Param as Parameter}
use Rattle.trace_words.specs.declared.params.Param.TheVariants as param
use Rattle.trace_words.specs.ParamWords.{with_param, least, most}
use Rattle.trace_lines.specs.declared.part.Part.{Part}
use Rattle.trace_lines.specs.Lookups.{number_named}
use Rattle.trace_lines.specs.Places.{rank}
use Rattle.trace_lines.specs.Says as says
use Rattle.trace_lines.specs.Says.{Says}
use Rattle.trace_reader.specs.Changes.{blank_section, with_bytes, changed}
use Rattle.trace_reader.specs.Drafts.{AreInRange, AreSound, IsPlaced}
use Rattle.trace_reader.specs.Right.{IsRightLine}
use Rattle.trace_reader.proofs.Listing.{same_with_bytes}
use Rattle.trace_reader.proofs.Sounding.{with_bad, with_frames, with_pagefile, with_params, with_section, with_sections, with_process, with_map, with_fail, with_task, with_version}

params_go : (p : Parameter) (n : ℕ) (params : Params) → AreInRange params → least p ≤ n → n ≤ most p → AreInRange (with_param p n params)
params_go param.Pfc n params s low high = record { pfc = (low, high); hilimit = s.hilimit; lolimit = s.lolimit; waitlimit = s.waitlimit; wrtcluster = s.wrtcluster; freelim = s.freelim; freegoal = s.freegoal; awstime = s.awstime; pfrath = s.pfrath; pfratl = s.pfratl; wsinc = s.wsinc; wsdec = s.wsdec; awsmin = s.awsmin; borrowlim = s.borrowlim }
params_go param.HiLimit n params s low high = record { pfc = s.pfc; hilimit = high; lolimit = s.lolimit; waitlimit = s.waitlimit; wrtcluster = s.wrtcluster; freelim = s.freelim; freegoal = s.freegoal; awstime = s.awstime; pfrath = s.pfrath; pfratl = s.pfratl; wsinc = s.wsinc; wsdec = s.wsdec; awsmin = s.awsmin; borrowlim = s.borrowlim }
params_go param.LoLimit n params s low high = record { pfc = s.pfc; hilimit = s.hilimit; lolimit = high; waitlimit = s.waitlimit; wrtcluster = s.wrtcluster; freelim = s.freelim; freegoal = s.freegoal; awstime = s.awstime; pfrath = s.pfrath; pfratl = s.pfratl; wsinc = s.wsinc; wsdec = s.wsdec; awsmin = s.awsmin; borrowlim = s.borrowlim }
params_go param.WaitLimit n params s low high = record { pfc = s.pfc; hilimit = s.hilimit; lolimit = s.lolimit; waitlimit = (low, high); wrtcluster = s.wrtcluster; freelim = s.freelim; freegoal = s.freegoal; awstime = s.awstime; pfrath = s.pfrath; pfratl = s.pfratl; wsinc = s.wsinc; wsdec = s.wsdec; awsmin = s.awsmin; borrowlim = s.borrowlim }
params_go param.WrtCluster n params s low high = record { pfc = s.pfc; hilimit = s.hilimit; lolimit = s.lolimit; waitlimit = s.waitlimit; wrtcluster = (low, high); freelim = s.freelim; freegoal = s.freegoal; awstime = s.awstime; pfrath = s.pfrath; pfratl = s.pfratl; wsinc = s.wsinc; wsdec = s.wsdec; awsmin = s.awsmin; borrowlim = s.borrowlim }
params_go param.FreeLim n params s low high = record { pfc = s.pfc; hilimit = s.hilimit; lolimit = s.lolimit; waitlimit = s.waitlimit; wrtcluster = s.wrtcluster; freelim = high; freegoal = s.freegoal; awstime = s.awstime; pfrath = s.pfrath; pfratl = s.pfratl; wsinc = s.wsinc; wsdec = s.wsdec; awsmin = s.awsmin; borrowlim = s.borrowlim }
params_go param.FreeGoal n params s low high = record { pfc = s.pfc; hilimit = s.hilimit; lolimit = s.lolimit; waitlimit = s.waitlimit; wrtcluster = s.wrtcluster; freelim = s.freelim; freegoal = high; awstime = s.awstime; pfrath = s.pfrath; pfratl = s.pfratl; wsinc = s.wsinc; wsdec = s.wsdec; awsmin = s.awsmin; borrowlim = s.borrowlim }
params_go param.AwsTime n params s low high = record { pfc = s.pfc; hilimit = s.hilimit; lolimit = s.lolimit; waitlimit = s.waitlimit; wrtcluster = s.wrtcluster; freelim = s.freelim; freegoal = s.freegoal; awstime = high; pfrath = s.pfrath; pfratl = s.pfratl; wsinc = s.wsinc; wsdec = s.wsdec; awsmin = s.awsmin; borrowlim = s.borrowlim }
params_go param.PfrAtH n params s low high = record { pfc = s.pfc; hilimit = s.hilimit; lolimit = s.lolimit; waitlimit = s.waitlimit; wrtcluster = s.wrtcluster; freelim = s.freelim; freegoal = s.freegoal; awstime = s.awstime; pfrath = high; pfratl = s.pfratl; wsinc = s.wsinc; wsdec = s.wsdec; awsmin = s.awsmin; borrowlim = s.borrowlim }
params_go param.PfrAtL n params s low high = record { pfc = s.pfc; hilimit = s.hilimit; lolimit = s.lolimit; waitlimit = s.waitlimit; wrtcluster = s.wrtcluster; freelim = s.freelim; freegoal = s.freegoal; awstime = s.awstime; pfrath = s.pfrath; pfratl = high; wsinc = s.wsinc; wsdec = s.wsdec; awsmin = s.awsmin; borrowlim = s.borrowlim }
params_go param.WsInc n params s low high = record { pfc = s.pfc; hilimit = s.hilimit; lolimit = s.lolimit; waitlimit = s.waitlimit; wrtcluster = s.wrtcluster; freelim = s.freelim; freegoal = s.freegoal; awstime = s.awstime; pfrath = s.pfrath; pfratl = s.pfratl; wsinc = high; wsdec = s.wsdec; awsmin = s.awsmin; borrowlim = s.borrowlim }
params_go param.WsDec n params s low high = record { pfc = s.pfc; hilimit = s.hilimit; lolimit = s.lolimit; waitlimit = s.waitlimit; wrtcluster = s.wrtcluster; freelim = s.freelim; freegoal = s.freegoal; awstime = s.awstime; pfrath = s.pfrath; pfratl = s.pfratl; wsinc = s.wsinc; wsdec = high; awsmin = s.awsmin; borrowlim = s.borrowlim }
params_go param.AwsMin n params s low high = record { pfc = s.pfc; hilimit = s.hilimit; lolimit = s.lolimit; waitlimit = s.waitlimit; wrtcluster = s.wrtcluster; freelim = s.freelim; freegoal = s.freegoal; awstime = s.awstime; pfrath = s.pfrath; pfratl = s.pfratl; wsinc = s.wsinc; wsdec = s.wsdec; awsmin = (low, high); borrowlim = s.borrowlim }
params_go param.BorrowLim n params s low high = record { pfc = s.pfc; hilimit = s.hilimit; lolimit = s.lolimit; waitlimit = s.waitlimit; wrtcluster = s.wrtcluster; freelim = s.freelim; freegoal = s.freegoal; awstime = s.awstime; pfrath = s.pfrath; pfratl = s.pfratl; wsinc = s.wsinc; wsdec = s.wsdec; awsmin = s.awsmin; borrowlim = high }

none_by : {X : Type 0} (p : X → Bool) (i : ℕ) (xs : List X) → position_from p i xs ≡ None → AllByRecursion (λ x. p x ≡ false) xs
none_by p i [] e = tt
none_by p i (x ∷ xs) e = let both = at_none (p x) i (position_from p (i + 1) xs) e in (both.0, none_by p (i + 1) xs both.1) where
  at_none : (t : Bool) (i : ℕ) (o : Option ℕ) → cond t (Some i) o ≡ None → (t ≡ false) × (o ≡ None)
  at_none false i o e = (refl, e)
  at_none true i o e = absurd (some_none i e) where
    some_none : (i : ℕ) → Some i ≡ None → ⊥
    some_none i e = cc

none_from : {X : Type 0} (p : X → Bool) (i : ℕ) (xs : List X) → position_from p i xs ≡ None → All (λ x. p x ≡ false) xs
none_from {X} p i xs e = All-from_recursion (λ (x : X). p x ≡ false) xs (none_by p i xs e)

-- a name that no section has
not_named : (sections : List Held) (name : List ℕ) → number_named sections name ≡ None → (k : ℕ) (d : Held) → k < length sections → (get_or sections k d).name ≢ name
not_named sections name none k d lt same =
    let passed = none_from (λ (s : Held). bytes_eq s.name name) 0 sections (sym (position_from-zero (λ (s : Held). bytes_eq s.name name) sections) ∙ none) k d lt in
    opposite (sym passed ∙ (bytes_eq-Decides (get_or sections k d).name name).1 same) where
      opposite : false ≡ true → ⊥
      opposite e = cc

-- a blank section has the pages that it is to have
blank_pages : (name : List ℕ) (of_kind : SectionKind) (pages : ℕ) → section_pages (blank_section name of_kind pages) ≡ pages
blank_pages name of_kind pages = ap (λ (n : ℕ). n / PAGE_BYTES) (length-replicate (PAGE_BYTES * pages) 0) ∙ omega arith

blank_good : (v : Version) (name : List ℕ) (of_kind : SectionKind) (pages : ℕ) → (is_paged_kind of_kind ≡ true → is_first v ≡ false) → IsName name → 1 ≤ pages → IsSection v (blank_section name of_kind pages)
blank_good v name of_kind pages of_version good some =
    let count : length (replicate (PAGE_BYTES * pages) 0) ≡ PAGE_BYTES * pages = length-replicate (PAGE_BYTES * pages) 0 in
    record { name = good; whole = ap (λ (n : ℕ). n % PAGE_BYTES) count ∙ omega arith; some = omega (arith, count, some); paged = λ paged. (of_version paged, ap (λ (n : ℕ). replicate n 0) (sym count)) }

pub sound_next : (part : Part) (said : Says) → AreSound part.config → IsPlaced (rank part.place) part.config → IsRightLine part said → AreSound (changed part said).config
sound_next part says.Nothing s p r = s
sound_next part (says.Version v) s p r = let here : rank part.place ≡ 0 = r.here in with_version part.config v s (p.no_frames (omega arith)) (p.no_sections (omega arith)) (p.no_tasks (omega arith))
sound_next part (says.Frames n) s p r = let here : rank part.place ≡ 1 = r.here in with_frames part.config n s r.fits.1 (p.no_bad (omega arith))
sound_next part (says.PageFile n) s p r = let here : rank part.place ≡ 2 = r.here in with_pagefile part.config n s r.fits.1 (p.no_fails (omega arith))
sound_next part (says.Param q n) s p r = with_params part.config (with_param q n part.config.params) s (params_go q n part.config.params s.params r.fits.0 r.fits.1)
sound_next part (says.Bad f) s p r = with_bad part.config f s r.fits.0 r.fits.1
sound_next part (says.Section name of_kind pages) s p r =
    let both = and_parts (ltb (length part.config.sections) 64) _ r.fits.3 in
    let room = leb-true _ MOST_SECTION_PAGES both.1 in
    with_section part.config (blank_section name of_kind pages) s (blank_good part.config.version name of_kind pages r.fits.4 r.fits.0 r.fits.1) (ltb-true (length part.config.sections) 64 both.0) (omega (arith, room, blank_pages name of_kind pages))
    (λ k d lt. not_named part.config.sections name r.fits.2 k d lt)
sound_next part (says.Data k at bytes) s p r = with_sections part.config (with_bytes part.config.sections k at bytes) s (same_with_bytes part.config.sections k at bytes r.fits.1 r.fits.2)
sound_next part (says.Process spec) s p r = with_process part.config spec s r.fits.0 r.fits.1
sound_next part (says.Map m) s p r = with_map part.config m s r.fits.0 r.fits.2
sound_next part (says.Fail id calls) s p r = with_fail part.config (record { block = id; calls = calls }) s (record { block = r.fits.0; some = r.fits.1; calls = r.fits.2 }) r.fits.3
sound_next part says.Body s p r = s
sound_next part (says.Request t) s p r = with_task part.config t s r.fits.0 r.fits.1
sound_next part says.End s p r = s
