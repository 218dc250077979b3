-- The declarations so far keep what makes a configuration well formed.
use Rattle.std.proofs.Common.{◌≡◌, ◌≢◌, ℕ, zero, suc, ◌+◌, ◌*◌, ◌<◌, ◌≤◌, true, leb, ◌&&◌, List, [], ◌∷◌, length, All, Some, Ok, refl, subst, arith, lit≤}
use Rattle.std.specs.Prelude.{IfOk, AllPairs, sum_by, slice_get}
use Rattle.std.specs.List.{list_all, AllByRecursion}
use Rattle.std.proofs.lemmas.Bool.{and_parts, leb-true}
use Rattle.std.proofs.Math.Nat.{le_trans}
use Rattle.std.proofs.lemmas.List.Elements.{All-nil, All-weaker, All-from_recursion, recursion_from_All}
use Rattle.std.proofs.lemmas.List.Sums.{sum_by-cons}
use Rattle.std.proofs.lemmas.Option.{slice_get_within}
use Rattle.vm_types.specs.Configuration.{AreParams, IsProcess, IsSection, IsMapping, AreApart, IsBlock, AreFails, IsTask, IsWellFormed, all_pins, section_pages, IsLimited}
use Rattle.vm_types.specs.declared.config.Config.{Config}
use Rattle.vm_types.specs.declared.config.Fails.{Fails}
use Rattle.vm_types.specs.declared.config.Params.{Params}
use Rattle.vm_types.specs.declared.config.ProcSpec.{ProcSpec}
use Rattle.vm_types.specs.declared.config.Section.{Section as Held}
use Rattle.vm_types.specs.declared.config.Version.TheVariants as version
use Rattle.vm_types.specs.declared.limits.TheConstants.{MOST_EXTENT, MOST_FRAMES, MOST_LONG_LINES, MOST_SECTION_PAGES}
use Rattle.vm_types.specs.declared.names.BlockId.{BlockId}
use Rattle.vm_types.specs.declared.names.BlockId.TheVariants as block
use Rattle.vm_types.proofs.Versions.{frames_at_most}
use Rattle.trace_lines.specs.declared.part.Part.{Part}
use Rattle.trace_lines.specs.declared.places.Place.{Place}
use Rattle.trace_lines.specs.declared.places.Place.TheVariants.{Ended}
use Rattle.trace_lines.specs.Grammar.{judged}
use Rattle.trace_lines.specs.Places.{rank}
use Rattle.trace_lines.specs.Requests.{params_agree}
use Rattle.trace_lines.specs.Says.{Says}
use Rattle.trace_lines.specs.Seen.{HasKeyLimits, IsKeyed, IsPaged}
use Rattle.trace_reader.specs.Changes.{start, changed}
use Rattle.trace_reader.specs.Drafts.{AreInRange, AreSound, IsPlaced, IsDraft}
use Rattle.trace_reader.specs.Meaning.{next_line}
use Rattle.trace_reader.specs.Right.{IsRightLine}
use Rattle.trace_reader.proofs.Giving.{bind_gives}
use Rattle.trace_reader.proofs.Judged.{IsJudged, judged_gives, at_ok}
use Rattle.trace_reader.proofs.SoundNext.{sound_next}
use Rattle.trace_reader.proofs.PlacedNext.{placed_next}
use Rattle.trace_reader.proofs.Listing.{page_of_all}

-- before the first line

no_pairs : {X : Type 0} (R : X → X → Type 0) → AllPairs R []
no_pairs R i j d lt bound = absurd (omega (arith, bound))

start_sound : AreSound start.config
start_sound = record {
  frames = lit≤ tt;
  bad = All-nil (λ f. f < 0);
  bad_differ = no_pairs (λ f g. f ≢ g);
  pagefile = lit≤ tt;
  params = record { pfc = (lit≤ tt, lit≤ tt); hilimit = lit≤ tt; lolimit = lit≤ tt; waitlimit = (lit≤ tt, lit≤ tt); wrtcluster = (lit≤ tt, lit≤ tt); freelim = lit≤ tt; freegoal = lit≤ tt; awstime = lit≤ tt; pfrath = lit≤ tt; pfratl = lit≤ tt; wsinc = lit≤ tt; wsdec = lit≤ tt; awsmin = (lit≤ tt, lit≤ tt); borrowlim = lit≤ tt };
  sections = record { few = lit≤ tt; pages = lit≤ tt; each = All-nil (IsSection version.One); differ = no_pairs (λ (s : Held) (t : Held). s.name ≢ t.name) };
  few_procs = lit≤ tt;
  procs = All-nil IsLimited;
  maps = All-nil (IsMapping 0 []);
  maps_apart = no_pairs AreApart;
  fails = All-nil (AreFails start.config);
  fails_differ = no_pairs (λ (a : Fails) (b : Fails). a.block ≢ b.block);
  few_tasks = lit≤ tt;
  body = All-nil (IsTask version.One 0);
}

start_placed : IsPlaced 0 start.config
start_placed = record { no_frames = λ h. refl; no_bad = λ h. refl; no_sections = λ h. refl; no_fails = λ h. refl; no_tasks = λ h. refl; frames = λ h. absurd (omega (arith, h)); pagefile = λ h. absurd (omega (arith, h)); some_process = λ h. absurd (omega (arith, h)); agree = λ h. absurd (omega (arith, h)); room = λ h. absurd (omega (arith, h)) }

pub start_draft : IsDraft start
start_draft = record { sound = start_sound; placed = start_placed }

-- the limits on which the keys rest

extent_at : (procs : List ProcSpec) (k : ℕ) (x : ProcSpec) → AllByRecursion IsLimited procs → slice_get procs k ≡ Some x → x.extent ≤ MOST_EXTENT
extent_at [] k x each e = absurd cc
extent_at (y ∷ procs) zero x each e = let same : y ≡ x = cc in subst (λ (z : ProcSpec). z.extent ≤ MOST_EXTENT) same each.0.most
extent_at (y ∷ procs) (suc k) x each e = extent_at procs k x each.1 e

keyed : (c : Config) → AreSound c → (id : BlockId) → IsBlock c id → IsKeyed id
keyed c s (block.Section k page) h =
    let few : length c.sections ≤ 64 = s.sections.few in
    let pages : sum_by section_pages c.sections ≤ MOST_SECTION_PAGES = s.sections.pages in
    let there = slice_get_within c.sections k.0 h.0.0 h.0.1 in
    let most = page_of_all c.sections k.0 h.0.0 h.0.1 in
    (omega (arith, there, few), omega (arith, h.0.2, most, pages))
keyed c s (block.PageFile b) h = omega (arith, h, s.pagefile)
keyed c s (block.Swap p n) h =
    let there = slice_get_within c.procs p.0 h.0 h.1 in
    omega (arith, h.2, extent_at c.procs p.0 h.0 (recursion_from_All IsLimited c.procs s.procs) h.1)

few_locks : (procs : List ProcSpec) → AllByRecursion IsLimited procs → sum_by (λ (spec : ProcSpec). spec.locks) procs ≤ MOST_EXTENT * length procs
few_locks [] each = omega arith
few_locks (x ∷ procs) each =
    let is = each.0 in
    let locks : x.locks + 2 ≤ x.limit = is.locks in
    let quota : x.limit ≤ x.quota = is.quota in
    let extent : x.quota ≤ x.extent = is.extent in
    let most : x.extent ≤ MOST_EXTENT = is.most in
    let more = sum_by-cons (λ (spec : ProcSpec). spec.locks) x procs in
    let rest = few_locks procs each.1 in
    omega (arith, locks, quota, extent, most, more, rest)

pub bounded : (part : Part) → IsDraft part → HasKeyLimits part.config
bounded part d =
    let s = d.sound in
    record {
      pagefile = s.pagefile;
      sections = s.sections.few;
      pages = s.sections.pages;
      locks = (let few = s.few_procs in let most = few_locks part.config.procs (recursion_from_All IsLimited part.config.procs s.procs) in omega (arith, few, most));
      slots = All-weaker IsLimited (λ spec. spec.extent ≤ MOST_EXTENT) (λ spec h. h.most) part.config.procs s.procs;
      blocks = All-weaker (AreFails part.config) (λ f. IsKeyed f.block) (λ f h. keyed part.config s f.block h.block) part.config.fails s.fails;
      maps = All-weaker (IsMapping (length part.config.procs) part.config.sections) IsPaged (λ m h. (h.range.aligned, h.range.some)) part.config.maps s.maps;
    }

-- the next line

pub right_line : (number : ℕ) (part : Part) (line : List ℕ) (said : Says) → judged number part line ≡ Ok said → IsRightLine part said × (number ≤ MOST_LONG_LINES)
right_line number part line said e =
    let h = at_ok (judged number part line) said (IsJudged number part) (judged_gives number part line) e in
    (h.right, h.few)

next_keeps : (number : ℕ) (part : Part) (line : List ℕ) → IsDraft part → IfOk (next_line number part line) (λ next. IsDraft next × (number ≤ MOST_LONG_LINES))
next_keeps number part line d =
    bind_gives (judged number part line) (λ said. Ok (changed part said)) (IsJudged number part) (λ next. IsDraft next × (number ≤ MOST_LONG_LINES)) (judged_gives number part line) (λ said h.
    (record { sound = sound_next part said d.sound d.placed h.right; placed = placed_next part said d.placed h.right }, h.few))

pub next_draft : (number : ℕ) (part next : Part) (line : List ℕ) → IsDraft part → next_line number part line ≡ Ok next → IsDraft next
next_draft number part next line d e = (at_ok (next_line number part line) next (λ next. IsDraft next × (number ≤ MOST_LONG_LINES)) (next_keeps number part line d) e).0

pub next_number : (number : ℕ) (part next : Part) (line : List ℕ) → IsDraft part → next_line number part line ≡ Ok next → number ≤ MOST_LONG_LINES
next_number number part next line d e = (at_ok (next_line number part line) next (λ next. IsDraft next × (number ≤ MOST_LONG_LINES)) (next_keeps number part line d) e).1

-- after END

whole_params : (params : Params) → AreInRange params → params_agree params ≡ true → AreParams params
whole_params params s e =
    let a = leb params.lolimit params.hilimit in
    let b = leb params.hilimit params.waitlimit in
    let c = leb params.freelim params.freegoal in
    let ab = and_parts (a && b) c e in
    let a_b = and_parts a b ab.0 in
    record { pfc = s.pfc; hilimit = s.hilimit; lolimit = leb-true params.lolimit params.hilimit a_b.0; waitlimit = s.waitlimit; wait_above = leb-true params.hilimit params.waitlimit a_b.1; wrtcluster = s.wrtcluster; freelim = leb-true params.freelim params.freegoal ab.1; freegoal = s.freegoal; awstime = s.awstime; pfrath = s.pfrath; pfratl = s.pfratl; wsinc = s.wsinc; wsdec = s.wsdec; awsmin = s.awsmin; borrowlim = s.borrowlim }

whole_procs : (frames kept : ℕ) (procs : List ProcSpec) → AllByRecursion IsLimited procs → list_all (λ spec. leb (spec.extent + kept + 2) frames) procs ≡ true → AllByRecursion (IsProcess frames kept) procs
whole_procs frames kept [] each e = tt
whole_procs frames kept (spec ∷ procs) each e =
    let both = and_parts (leb (spec.extent + kept + 2) frames) (list_all (λ (x : ProcSpec). leb (x.extent + kept + 2) frames) procs) e in
    let s = each.0 in
    (record { limited = s; room = leb-true (spec.extent + kept + 2) frames both.0 }, whole_procs frames kept procs each.1 both.1)

pub whole : (c : Config) → AreSound c → IsPlaced 5 c → IsWellFormed c
whole c s p = record {
  frames = (p.frames (lit≤ tt), few_frames);
  of_version = s.frames;
  bad = s.bad;
  bad_differ = s.bad_differ;
  pagefile = (p.pagefile (lit≤ tt), s.pagefile);
  params = whole_params c.params s.params (p.agree (lit≤ tt));
  sections = s.sections;
  some_process = (p.some_process (lit≤ tt), s.few_procs);
  procs = All-from_recursion (IsProcess c.frames (length c.bad + all_pins c)) c.procs (whole_procs c.frames (length c.bad + all_pins c) c.procs (recursion_from_All IsLimited c.procs s.procs) (p.room (lit≤ tt)));
  maps = s.maps;
  maps_apart = s.maps_apart;
  fails = s.fails;
  fails_differ = s.fails_differ;
  few_tasks = s.few_tasks;
  body = s.body;
} where
  few_frames : c.frames ≤ MOST_FRAMES
  few_frames = le_trans s.frames (frames_at_most c.version)

pub read_whole : (part : Part) → IsDraft part → part.place ≡ Ended → IsWellFormed part.config
read_whole part d e = whole part.config d.sound (subst (λ (p : Place). IsPlaced (rank p) part.config) e d.placed)
