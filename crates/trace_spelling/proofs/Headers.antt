-- The lines VMTRACE or LONGTRACE, FRAMES, PAGEFILE, PARAM and BAD.
use Rattle.std.proofs.Common.{◌≡◌, ◌≢◌, ℕ, ◌<◌, ◌≤◌, ◌^◌, Bool, true, false, eqb, List, [], ◌∷◌, map, replicate, Some, Ok, refl, ◌∙◌, arith, lit<, lt-ltb, ne_eqb, eq-eqb}
use Rattle.std.specs.Prelude.{codes, slice_index_or, slice_set, decimal as printed}
use Rattle.vm_types.specs.declared.limits.TheConstants.{MOST_BLOCKS, MOST_FRAMES, MOST_FREE, MOST_MODIFIED}
use Rattle.vm_types.specs.Configuration.{IsWellFormed, AreParams}
use Rattle.vm_types.specs.Versions.{most_frames}
use Rattle.vm_types.specs.declared.config.Config.{Config}
use Rattle.vm_types.specs.declared.config.Fails.{Fails}
use Rattle.vm_types.specs.declared.config.Mapping.{Mapping}
use Rattle.vm_types.specs.declared.config.Params.{Params}
use Rattle.vm_types.specs.declared.config.ProcSpec.{ProcSpec}
use Rattle.vm_types.specs.declared.config.Section.{Section}
use Rattle.vm_types.specs.declared.config.Version.{Version}
use Rattle.vm_types.specs.declared.config.Version.TheVariants as version
use Rattle.trace_words.specs.declared.params.Param.{Param}
use Rattle.trace_words.specs.declared.params.Param.TheVariants.{Pfc, HiLimit, LoLimit, WaitLimit, WrtCluster, FreeLim, FreeGoal, AwsTime, PfrAtH, PfrAtL, WsInc, WsDec, AwsMin, BorrowLim}
use Rattle.trace_words.specs.ParamWords.{param_of, least, most, number_of, with_param, default_params}
use Rattle.trace_lines.specs.declared.keywords.Keyword.{Keyword}
use Rattle.trace_lines.specs.declared.keywords.Keyword.TheVariants as keyword
use Rattle.trace_lines.specs.declared.part.Part.{Part}
use Rattle.trace_lines.specs.declared.places.Place.TheVariants as place
use Rattle.trace_lines.specs.Grammar.{by_keyword, by_words, is_comment, is_letter}
use Rattle.vm_types.proofs.Versions.{frames_at_most}
use Rattle.trace_lines.specs.Headers.{is_listed}
use Rattle.trace_lines.specs.Keywords.{keyword_of, place_of}
use Rattle.trace_lines.specs.Places.{rank}
use Rattle.trace_lines.specs.Says as says
use Rattle.trace_reader.specs.Changes.{start, changed}
use Rattle.trace_spelling.specs.Lines.{Line, version_line, param_line, param_lines, bad_line}
use Rattle.trace_spelling.proofs.Numbers.{number_read, within_read}
use Rattle.trace_spelling.proofs.Printing.{IsShortWord, literal, number_word}
use Rattle.trace_spelling.proofs.Leading.{IsLine, line_of, Leads, leads_none, leads_line, leads_append, leads_each}
use Rattle.trace_spelling.proofs.Lists.{member, none_before}

-- a line of this keyword where it stands
pub keyword_says : (part : Part) (word : List ℕ) (args : List (List ℕ)) (keyword : Keyword) → is_comment word ≡ false → is_letter word ≡ false → keyword_of part.place word ≡ Some keyword
    → rank part.place ≡ rank (place_of keyword) → by_words part (word ∷ args) ≡ by_keyword part args keyword
keyword_says part word args keyword a b e here = rw (a, b, e, eq-eqb (rank part.place) (rank (place_of keyword)) here) refl

-- the declarations so far
abbrev pub declaring : Config → List Bool → Params → List ℕ → List Section → List ProcSpec → List Mapping → List Fails → Part
declaring c given params bad sections procs maps fails = record {
  place = place.Declarations;
  config = record { version = c.version; frames = c.frames; bad = bad; pagefile = c.pagefile; params = params; sections = sections; procs = procs; maps = maps; fails = fails; body = [] };
  given = given;
}

-- VMTRACE or LONGTRACE, and then FRAMES and PAGEFILE

pub version_is_line : (v : Version) → IsLine (version_line v)
version_is_line version.One = line_of (8 ∷ 10 ∷ []) (codes "VMTRACE") (printed 1 ∷ []) (literal 8 _ refl refl refl, (number_word 1 (lit< tt), tt)) (omega arith)
version_is_line version.Two = line_of (8 ∷ 10 ∷ []) (codes "VMTRACE") (printed 2 ∷ []) (literal 8 _ refl refl refl, (number_word 2 (lit< tt), tt)) (omega arith)
version_is_line version.Long = line_of (9 ∷ 10 ∷ []) (codes "LONGTRACE") (printed 2 ∷ []) (literal 9 _ refl refl refl, (number_word 2 (lit< tt), tt)) (omega arith)

pub version_says : (v : Version) → by_words start (version_line v) ≡ Ok (says.Version v)
version_says version.One = keyword_says start (codes "VMTRACE") (printed 1 ∷ []) keyword.Version refl refl refl refl ∙ (rw (within_read 1 2 1 (omega arith) (omega arith) (lit< tt)) refl)
version_says version.Two = keyword_says start (codes "VMTRACE") (printed 2 ∷ []) keyword.Version refl refl refl refl ∙ (rw (within_read 1 2 2 (omega arith) (omega arith) (lit< tt)) refl)
version_says version.Long = keyword_says start (codes "LONGTRACE") (printed 2 ∷ []) keyword.Long refl refl refl refl ∙ (rw (within_read 2 2 2 (omega arith) (omega arith) (lit< tt)) refl)

frames_short : (v : Version) → most_frames v < 2 ^ 32
frames_short v = let most = frames_at_most v in omega (arith, most)

-- the header's lines behind the first
abbrev pub machine_lines : Config → List Line
machine_lines c = (codes "FRAMES" ∷ printed c.frames ∷ []) ∷ (codes "PAGEFILE" ∷ printed c.pagefile ∷ []) ∷ []

pub headers_lead : (c : Config) → IsWellFormed c → Leads (changed start (says.Version c.version)) (machine_lines c) (declaring c (replicate 14 false) default_params [] [] [] [] [])
headers_lead c w =
    let frames_small : c.frames ≤ MOST_FRAMES = w.frames.1 in
    let pagefile_small : c.pagefile ≤ MOST_BLOCKS = w.pagefile.1 in
    let first = changed start (says.Version c.version) in
    let second = changed first (says.Frames c.frames) in
    let third = changed second (says.PageFile c.pagefile) in
    let frames : Line = codes "FRAMES" ∷ printed c.frames ∷ [] in
    let pagefile : Line = codes "PAGEFILE" ∷ printed c.pagefile ∷ [] in
    leads_append first second third (frames ∷ []) (pagefile ∷ [])
    (leads_line first frames (says.Frames c.frames) refl (line_of (8 ∷ 10 ∷ []) (codes "FRAMES") (printed c.frames ∷ []) (literal 8 _ refl refl refl, (number_word c.frames (omega arith), tt)) (omega arith))
    (keyword_says first (codes "FRAMES") (printed c.frames ∷ []) keyword.Frames refl refl refl refl ∙ (rw (within_read 8 (most_frames c.version) c.frames w.frames.0 w.of_version (frames_short c.version)) refl)))
    (leads_line second pagefile (says.PageFile c.pagefile) refl (line_of (8 ∷ 10 ∷ []) (codes "PAGEFILE") (printed c.pagefile ∷ []) (literal 8 _ refl refl refl, (number_word c.pagefile (omega arith), tt)) (omega arith))
    (keyword_says second (codes "PAGEFILE") (printed c.pagefile ∷ []) keyword.PageFile refl refl refl refl ∙ (rw (within_read 1 MOST_BLOCKS c.pagefile w.pagefile.0 w.pagefile.1 (lit< tt)) refl)))

-- PARAM

abbrev param_name : Param → List ℕ
param_name Pfc = codes "PFC"
param_name HiLimit = codes "HILIMIT"
param_name LoLimit = codes "LOLIMIT"
param_name WaitLimit = codes "WAITLIMIT"
param_name WrtCluster = codes "WRTCLUSTER"
param_name FreeLim = codes "FREELIM"
param_name FreeGoal = codes "FREEGOAL"
param_name AwsTime = codes "AWSTIME"
param_name PfrAtH = codes "PFRATH"
param_name PfrAtL = codes "PFRATL"
param_name WsInc = codes "WSINC"
param_name WsDec = codes "WSDEC"
param_name AwsMin = codes "AWSMIN"
param_name BorrowLim = codes "BORROWLIM"

param_named : (p : Param) → param_of (param_name p) ≡ Ok p
param_named Pfc = refl
param_named HiLimit = refl
param_named LoLimit = refl
param_named WaitLimit = refl
param_named WrtCluster = refl
param_named FreeLim = refl
param_named FreeGoal = refl
param_named AwsTime = refl
param_named PfrAtH = refl
param_named PfrAtL = refl
param_named WsInc = refl
param_named WsDec = refl
param_named AwsMin = refl
param_named BorrowLim = refl

param_word : (p : Param) → IsShortWord 10 (param_name p)
param_word Pfc = literal 10 _ refl refl refl
param_word HiLimit = literal 10 _ refl refl refl
param_word LoLimit = literal 10 _ refl refl refl
param_word WaitLimit = literal 10 _ refl refl refl
param_word WrtCluster = literal 10 _ refl refl refl
param_word FreeLim = literal 10 _ refl refl refl
param_word FreeGoal = literal 10 _ refl refl refl
param_word AwsTime = literal 10 _ refl refl refl
param_word PfrAtH = literal 10 _ refl refl refl
param_word PfrAtL = literal 10 _ refl refl refl
param_word WsInc = literal 10 _ refl refl refl
param_word WsDec = literal 10 _ refl refl refl
param_word AwsMin = literal 10 _ refl refl refl
param_word BorrowLim = literal 10 _ refl refl refl

most_small : (p : Param) → most p < 2 ^ 32
most_small Pfc = lit< tt
most_small HiLimit = lit< tt
most_small LoLimit = lit< tt
most_small WaitLimit = lit< tt
most_small WrtCluster = lit< tt
most_small FreeLim = lit< tt
most_small FreeGoal = lit< tt
most_small AwsTime = lit< tt
most_small PfrAtH = lit< tt
most_small PfrAtL = lit< tt
most_small WsInc = lit< tt
most_small WsDec = lit< tt
most_small AwsMin = lit< tt
most_small BorrowLim = lit< tt

-- parameters and their values, one after another

record IsSet (given : List Bool) (s : Param × ℕ) : Type 0 where
  pub low : least s.0 ≤ s.1
  pub high : s.1 ≤ most s.0
  pub free : slice_index_or given (number_of s.0) false ≡ false

abbrev AreSet : List Bool → List (Param × ℕ) → Type 0
AreSet given [] = Unit {0}
AreSet given (s ∷ more) = IsSet given s × AreSet (slice_set given (number_of s.0) true) more

abbrev all_given : List Bool → List (Param × ℕ) → List Bool
all_given given [] = given
all_given given (s ∷ more) = all_given (slice_set given (number_of s.0) true) more

abbrev all_set : Params → List (Param × ℕ) → Params
all_set params [] = params
all_set params (s ∷ more) = all_set (with_param s.0 s.1 params) more

abbrev set_line : Param × ℕ → Line
set_line s = param_line (param_name s.0) s.1

set_leads : (c : Config) (given : List Bool) (params : Params) (s : Param × ℕ) → IsSet given s
    → Leads (declaring c given params [] [] [] [] []) (set_line s ∷ []) (declaring c (slice_set given (number_of s.0) true) (with_param s.0 s.1 params) [] [] [] [] [])
set_leads c given params s is =
    let part = declaring c given params [] [] [] [] [] in
    let bound = most_small s.0 in
    let high : s.1 ≤ most s.0 = is.high in
    leads_line part (set_line s) (says.Param s.0 s.1) refl
    (line_of (5 ∷ 10 ∷ 10 ∷ []) (codes "PARAM") (param_name s.0 ∷ printed s.1 ∷ []) (literal 5 _ refl refl refl, (param_word s.0, (number_word s.1 (omega (arith, bound, high)), tt))) (omega arith))
    (keyword_says part (codes "PARAM") (param_name s.0 ∷ printed s.1 ∷ []) keyword.Param refl refl refl refl
    ∙ (rw (param_named s.0, within_read (least s.0) (most s.0) s.1 is.low is.high bound, is.free) refl))

sets_lead : (c : Config) (given : List Bool) (params : Params) (settings : List (Param × ℕ)) → AreSet given settings
    → Leads (declaring c given params [] [] [] [] []) (map set_line settings) (declaring c (all_given given settings) (all_set params settings) [] [] [] [] [])
sets_lead c given params [] h = leads_none (declaring c given params [] [] [] [] [])
sets_lead c given params (s ∷ more) h =
    leads_append (declaring c given params [] [] [] [] []) (declaring c (slice_set given (number_of s.0) true) (with_param s.0 s.1 params) [] [] [] [] []) (declaring c (all_given given (s ∷ more)) (all_set params (s ∷ more)) [] [] [] [] [])
    (set_line s ∷ []) (map set_line more) (set_leads c given params s h.0) (sets_lead c (slice_set given (number_of s.0) true) (with_param s.0 s.1 params) more h.1)

abbrev settings : Params → List (Param × ℕ)
settings p =
    (Pfc, p.pfc) ∷ (HiLimit, p.hilimit) ∷ (LoLimit, p.lolimit) ∷ (WaitLimit, p.waitlimit) ∷ (WrtCluster, p.wrtcluster) ∷ (FreeLim, p.freelim) ∷ (FreeGoal, p.freegoal)
    ∷ (AwsTime, p.awstime) ∷ (PfrAtH, p.pfrath) ∷ (PfrAtL, p.pfratl) ∷ (WsInc, p.wsinc) ∷ (WsDec, p.wsdec) ∷ (AwsMin, p.awsmin) ∷ (BorrowLim, p.borrowlim) ∷ []

fits : (given : List Bool) (p : Param) (n : ℕ) → least p ≤ n → n ≤ most p → slice_index_or given (number_of p) false ≡ false → IsSet given (p, n)
fits given p n low high free = record { low = low; high = high; free = free }

are_set : (p : Params) → AreParams p → AreSet (replicate 14 false) (settings p)
are_set p w =
    let low : p.lolimit ≤ p.hilimit = w.lolimit in
    let high : p.hilimit ≤ MOST_MODIFIED = w.hilimit in
    let lim : p.freelim ≤ p.freegoal = w.freelim in
    let goal : p.freegoal ≤ MOST_FREE = w.freegoal in (
      fits _ Pfc p.pfc w.pfc.0 w.pfc.1 refl,
      (
        fits _ HiLimit p.hilimit (omega arith) high refl,
        (
          fits _ LoLimit p.lolimit (omega arith) (omega arith) refl,
          (
            fits _ WaitLimit p.waitlimit w.waitlimit.0 w.waitlimit.1 refl,
            (
              fits _ WrtCluster p.wrtcluster w.wrtcluster.0 w.wrtcluster.1 refl,
              (
                fits _ FreeLim p.freelim (omega arith) (omega arith) refl,
                (
                  fits _ FreeGoal p.freegoal (omega arith) goal refl,
                  (
                    fits _ AwsTime p.awstime (omega arith) w.awstime refl,
                    (
                      fits _ PfrAtH p.pfrath (omega arith) w.pfrath refl,
                      (
                        fits _ PfrAtL p.pfratl (omega arith) w.pfratl refl,
                        (
                          fits _ WsInc p.wsinc (omega arith) w.wsinc refl,
                          (
                            fits _ WsDec p.wsdec (omega arith) w.wsdec refl,
                            (
                              fits _ AwsMin p.awsmin w.awsmin.0 w.awsmin.1 refl,
                              (
                                fits _ BorrowLim p.borrowlim (omega arith) w.borrowlim refl,
                                tt,
                              ),
                            ),
                          ),
                        ),
                      ),
                    ),
                  ),
                ),
              ),
            ),
          ),
        ),
      ),
    )

pub params_lead : (c : Config) → IsWellFormed c → Leads (declaring c (replicate 14 false) default_params [] [] [] [] []) (param_lines c.params) (declaring c (replicate 14 true) c.params [] [] [] [] [])
params_lead c w = sets_lead c (replicate 14 false) default_params (settings c.params) (are_set c.params w.params)

-- BAD

pub bads_lead : (c : Config) → IsWellFormed c → Leads (declaring c (replicate 14 true) c.params [] [] [] [] []) (map bad_line c.bad) (declaring c (replicate 14 true) c.params c.bad [] [] [] [])
bads_lead c w = leads_each bad_line (λ bad. declaring c (replicate 14 true) c.params bad [] [] [] []) c.bad (λ before f after e.
    let part = declaring c (replicate 14 true) c.params before [] [] [] [] in
    let few : c.frames ≤ MOST_FRAMES = w.frames.1 in
    let below : f < c.frames = member (λ g. g < c.frames) before f after c.bad e w.bad in
    let small : f < 2 ^ 32 = omega arith in
    let new : is_listed before f ≡ false = none_before (λ g h. g ≢ h) (λ g. eqb g f) before f after c.bad e w.bad_differ (λ g differ. ne_eqb g f differ) in
    leads_line part (bad_line f) (says.Bad f) refl
    (line_of (3 ∷ 10 ∷ []) (codes "BAD") (printed f ∷ []) (literal 3 _ refl refl refl, (number_word f small, tt)) (omega arith))
    (keyword_says part (codes "BAD") (printed f ∷ []) keyword.Bad refl refl refl refl ∙ (rw (number_read f small, lt-ltb f c.frames below, new) refl)))
