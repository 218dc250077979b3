-- The configuration of the tests is well formed.
use Rattle.std.proofs.Common.{◌≡◌, ℕ, ◌*◌, ◌≤◌, Bool, true, false, List, [], ◌∷◌, replicate, refl, sym, ap, ◌∙◌, subst, inl, inr, arith}
use Rattle.std.specs.Prelude.{All, AllPairs, slice_index_or}
use Rattle.std.specs.List.{AllByRecursion}
use Rattle.std.proofs.lemmas.Bool.{false≢true}
use Rattle.std.proofs.lemmas.List.Elements.{All-from_recursion, All-replicate}
use Rattle.std.proofs.lemmas.List.Kept.{AllPairs-cons}
use Rattle.vm_types.specs.Configuration.{IsWellFormed, AreSections, IsSection, IsNameByte, IsProcess, IsMapping, IsTask, AreApart}
use Rattle.vm_types.specs.Kinds.{is_paged_kind}
use Rattle.vm_types.specs.declared.config.Config.{Config}
use Rattle.vm_types.specs.declared.config.Fails.{Fails}
use Rattle.vm_types.specs.declared.config.Mapping.{Mapping}
use Rattle.vm_types.specs.declared.config.Origin.{Origin}
use Rattle.vm_types.specs.declared.config.Origin.TheVariants as origin
use Rattle.vm_types.specs.declared.config.Params.{Params}
use Rattle.vm_types.specs.declared.config.ProcSpec.{ProcSpec}
use Rattle.vm_types.specs.declared.config.Section.{Section}
use Rattle.vm_types.specs.declared.config.SectionKind.{SectionKind}
use Rattle.vm_types.specs.declared.config.SectionKind.TheVariants as kind
use Rattle.vm_types.specs.declared.config.Task.{Task}
use Rattle.vm_types.specs.declared.config.Version.TheVariants as version
use Rattle.vm_types.specs.declared.reference.Mode.TheVariants as mode
use Rattle.vm_types.specs.declared.reference.Op.TheVariants as op
use Rattle.vm_types.specs.declared.reference.Width.TheVariants as width
use Rattle.vm_types.specs.declared.service.Request.TheVariants as request
use Rattle.vm_types.proofs.VersionOne.{no_pins}

abbrev pub one_page : ℕ → ℕ → Origin → ℕ → Mapping
one_page p at from prot = record { proc = record { 0 = p }; at = record { 0 = at }; pages = 1; from = from; prot = prot }

abbrev pub first_page : ℕ → Origin
first_page s = origin.Section (record { 0 = s }) 0

abbrev pub shared_section : Section
shared_section = record { name = 83 ∷ 72 ∷ []; kind = kind.Shared; bytes = replicate 512 7 }

abbrev pub copied_section : Section
copied_section = record { name = 67 ∷ 82 ∷ []; kind = kind.Crf; bytes = replicate 512 9 }

abbrev pub two_sections : List Section
two_sections = shared_section ∷ copied_section ∷ []

abbrev pub eight_maps : List Mapping
eight_maps =
    one_page 0 0 origin.Zero 4 ∷ one_page 0 512 origin.Zero 4 ∷ one_page 0 1024 (first_page 0) 4 ∷ one_page 0 1536 (first_page 1) 4
    ∷ one_page 0 2048 origin.Zero 2 ∷ one_page 1 1024 (first_page 0) 4 ∷ one_page 1 1536 (first_page 1) 4
    ∷ one_page 15 0x7fff_fe00 (first_page 1) 4 ∷ []

abbrev pub test_task : ℕ → Task
test_task p = record { proc = record { 0 = p }; request = request.Reference (record { mode = mode.U; addr = record { 0 = 0 }; op = op.Read width.One }) }

abbrev pub two_tasks : List Task
two_tasks = test_task 0 ∷ test_task 1 ∷ []

abbrev pub one_spec : ProcSpec
one_spec = record { limit = 8; quota = 8; extent = 8; locks = 0 }

abbrev pub test_params : Params
test_params =
    record {
      pfc = 8;
      hilimit = 0;
      lolimit = 0;
      waitlimit = 1;
      wrtcluster = 4;
      freelim = 0;
      freegoal = 0;
      awstime = 0;
      pfrath = 0;
      pfratl = 0;
      wsinc = 0;
      wsdec = 0;
      awsmin = 2;
      borrowlim = 0;
    }

abbrev pub test_config : ℕ → Config
test_config n =
    record {
      version = version.One;
      frames = 64;
      bad = [];
      pagefile = n;
      params = test_params;
      sections = two_sections;
      procs = replicate 16 one_spec;
      maps = eight_maps;
      fails = [];
      body = two_tasks;
    }

-- what holds of each two elements, by the list's shape
abbrev EachPair : {X : Type 0} → (X → X → Type 0) → List X → Type 0
EachPair R [] = Unit {0}
EachPair R (x ∷ xs) = AllByRecursion (R x) xs × EachPair R xs

pairs : {X : Type 0} (R : X → X → Type 0) (xs : List X) → EachPair R xs → AllPairs R xs
pairs R [] h = λ i j d less within. absurd (omega arith)
pairs R (x ∷ xs) h = AllPairs-cons R x xs (All-from_recursion (R x) xs h.0) (pairs R xs h.1)

letters : (a b : ℕ) → (65 ≤ a) × (a ≤ 90) → (65 ≤ b) × (b ≤ 90) → All IsNameByte (a ∷ b ∷ [])
letters a b p q = All-from_recursion IsNameByte (a ∷ b ∷ []) (inl p, (inl q, tt))

section_formed : (a b : ℕ) (of_kind : SectionKind) (byte : ℕ) → is_paged_kind of_kind ≡ false → (65 ≤ a) × (a ≤ 90) → (65 ≤ b) × (b ≤ 90) → IsSection version.One (record { name = a ∷ b ∷ []; kind = of_kind; bytes = replicate 512 byte })
section_formed a b of_kind byte file p q =
    record {
      name = record { length = (omega arith, omega arith); letter = p; bytes = letters a b p q };
      whole = refl;
      some = omega arith;
      paged = λ paged. absurd (false≢true (sym file ∙ paged));
    }

sections_formed : AreSections version.One two_sections
sections_formed =
    record {
      few = omega arith;
      pages = omega arith;
      each = All-from_recursion (IsSection version.One) two_sections
          (section_formed 83 72 kind.Shared 7 refl (omega arith, omega arith) (omega arith, omega arith), (section_formed 67 82 kind.Crf 9 refl (omega arith, omega arith) (omega arith, omega arith), tt));
      differ = pairs (λ s t. s.name ≡ t.name → ⊥) two_sections (((λ e. let first : 83 ≡ 67 = ap (λ (name : List ℕ). slice_index_or name 0 0) e in omega arith), tt), (tt, tt));
    }

process_formed : IsProcess 64 0 one_spec
process_formed = record { limited = record { locks = omega arith; quota = omega arith; extent = omega arith; most = omega arith }; room = omega arith }

zero_formed : (p at prot : ℕ) → p ≤ 1 → at ≤ 4 → (2 ≤ prot) × (prot ≤ 4) → IsMapping 16 two_sections (one_page p (512 * at) origin.Zero prot)
zero_formed p at prot few low code =
    record {
      proc = omega arith;
      range = record { aligned = omega arith; some = omega arith; few = omega arith; inside = inl (omega arith) };
      code = record { small = omega arith; named = λ e. omega arith };
      origin = tt;
    }

first_formed : (p at : ℕ) → p ≤ 1 → at ≤ 4 → IsMapping 16 two_sections (one_page p (512 * at) (first_page 0) 4)
first_formed p at few low =
    record {
      proc = omega arith;
      range = record { aligned = omega arith; some = omega arith; few = omega arith; inside = inl (omega arith) };
      code = record { small = omega arith; named = λ e. omega arith };
      origin = (shared_section, refl, omega arith);
    }

second_formed : (p at : ℕ) → p ≤ 1 → at ≤ 4 → IsMapping 16 two_sections (one_page p (512 * at) (first_page 1) 4)
second_formed p at few low =
    record {
      proc = omega arith;
      range = record { aligned = omega arith; some = omega arith; few = omega arith; inside = inl (omega arith) };
      code = record { small = omega arith; named = λ e. omega arith };
      origin = (copied_section, refl, omega arith);
    }

last_formed : IsMapping 16 two_sections (one_page 15 0x7fff_fe00 (first_page 1) 4)
last_formed =
    record {
      proc = omega arith;
      range = record { aligned = omega arith; some = omega arith; few = omega arith; inside = inr (omega arith, omega arith) };
      code = record { small = omega arith; named = λ e. omega arith };
      origin = (copied_section, refl, omega arith);
    }

task_formed : (p : ℕ) → p ≤ 1 → IsTask version.One 16 (test_task p)
task_formed p few = record { proc = omega arith; request = record { address = omega arith; aligned = refl; fits = tt }; of_version = tt }

maps_formed : All (IsMapping 16 two_sections) eight_maps
maps_formed =
    All-from_recursion (IsMapping 16 two_sections) eight_maps (
      zero_formed 0 0 4 (omega arith) (omega arith) (omega arith, omega arith),
      (
        zero_formed 0 1 4 (omega arith) (omega arith) (omega arith, omega arith),
        (
          first_formed 0 2 (omega arith) (omega arith),
          (
            second_formed 0 3 (omega arith) (omega arith),
            (
              zero_formed 0 4 2 (omega arith) (omega arith) (omega arith, omega arith),
              (first_formed 1 2 (omega arith) (omega arith), (second_formed 1 3 (omega arith) (omega arith), (last_formed, tt))),
            ),
          ),
        ),
      ),
    )

maps_apart : AllPairs AreApart eight_maps
maps_apart =
    pairs AreApart eight_maps (
      (inr (inl (omega arith)), (inr (inl (omega arith)), (inr (inl (omega arith)), (inr (inl (omega arith)), (inl (λ e. omega arith), (inl (λ e. omega arith), (inl (λ e. omega arith), tt))))))),
      (
        (inr (inl (omega arith)), (inr (inl (omega arith)), (inr (inl (omega arith)), (inl (λ e. omega arith), (inl (λ e. omega arith), (inl (λ e. omega arith), tt)))))),
        (
          (inr (inl (omega arith)), (inr (inl (omega arith)), (inl (λ e. omega arith), (inl (λ e. omega arith), (inl (λ e. omega arith), tt))))),
          (
            (inr (inl (omega arith)), (inl (λ e. omega arith), (inl (λ e. omega arith), (inl (λ e. omega arith), tt)))),
            (
              (inl (λ e. omega arith), (inl (λ e. omega arith), (inl (λ e. omega arith), tt))),
              (
                (inr (inl (omega arith)), (inl (λ e. omega arith), tt)),
                (
                  (inl (λ e. omega arith), tt),
                  (
                    tt,
                    tt,
                  ),
                ),
              ),
            ),
          ),
        ),
      ),
    )

pub test_formed : (n : ℕ) → (1 ≤ n) × (n ≤ 16384) → IsWellFormed (test_config n)
test_formed n h =
    record {
      frames = (omega arith, omega arith);
      of_version = omega arith;
      bad = λ k d within. absurd (omega arith);
      bad_differ = λ i j d less within. absurd (omega arith);
      pagefile = h;
      params = record {
        pfc = (omega arith, omega arith);
        hilimit = omega arith;
        lolimit = omega arith;
        waitlimit = (omega arith, omega arith);
        wait_above = omega arith;
        wrtcluster = (omega arith, omega arith);
        freelim = omega arith;
        freegoal = omega arith;
        awstime = omega arith;
        pfrath = omega arith;
        pfratl = omega arith;
        wsinc = omega arith;
        wsdec = omega arith;
        awsmin = (omega arith, omega arith);
        borrowlim = omega arith;
      };
      sections = sections_formed;
      some_process = (omega arith, omega arith);
      procs = subst (λ kept. All (IsProcess 64 kept) (replicate 16 one_spec)) (let pins = no_pins (test_config n) refl in omega (arith, pins)) (All-replicate (IsProcess 64 0) 16 one_spec process_formed);
      maps = maps_formed;
      maps_apart = maps_apart;
      fails = λ k d within. absurd (omega arith);
      fails_differ = λ i j d less within. absurd (omega arith);
      few_tasks = omega arith;
      body = All-from_recursion (IsTask version.One 16) two_tasks (task_formed 0 (omega arith), (task_formed 1 (omega arith), tt));
    }

pub sections_equal : (name1 bytes1 name2 bytes2 : List ℕ) → name1 ≡ shared_section.name → bytes1 ≡ shared_section.bytes → name2 ≡ copied_section.name → bytes2 ≡ copied_section.bytes
    → record { name = name1; kind = kind.Shared; bytes = bytes1 } ∷ record { name = name2; kind = kind.Crf; bytes = bytes2 } ∷ [] ≡ two_sections
sections_equal name1 bytes1 name2 bytes2 n1 b1 n2 b2 = λ i. record { name = n1 i; kind = kind.Shared; bytes = b1 i } ∷ record { name = n2 i; kind = kind.Crf; bytes = b2 i } ∷ []

pub maps_equal : (a b c d e f g h : Mapping) → a ≡ one_page 0 0 origin.Zero 4 → b ≡ one_page 0 512 origin.Zero 4 → c ≡ one_page 0 1024 (first_page 0) 4 → d ≡ one_page 0 1536 (first_page 1) 4
    → e ≡ one_page 0 2048 origin.Zero 2 → f ≡ one_page 1 1024 (first_page 0) 4 → g ≡ one_page 1 1536 (first_page 1) 4 → h ≡ one_page 15 0x7fff_fe00 (first_page 1) 4
    → a ∷ b ∷ c ∷ d ∷ e ∷ f ∷ g ∷ h ∷ [] ≡ eight_maps
maps_equal a b c d e f g h pa pb pc pd pe pf pg ph = λ i. pa i ∷ pb i ∷ pc i ∷ pd i ∷ pe i ∷ pf i ∷ pg i ∷ ph i ∷ []

pub tasks_equal : (one two : Task) → one ≡ test_task 0 → two ≡ test_task 1 → one ∷ two ∷ [] ≡ two_tasks
tasks_equal one two is_one is_two = λ i. is_one i ∷ is_two i ∷ []

pub config_formed : (n : ℕ) (bad : List ℕ) (sections : List Section) (procs : List ProcSpec) (maps : List Mapping) (fails : List Fails) (body : List Task) → (1 ≤ n) × (n ≤ 16384)
    → bad ≡ [] → sections ≡ two_sections → procs ≡ replicate 16 one_spec → maps ≡ eight_maps → fails ≡ [] → body ≡ two_tasks
    → IsWellFormed (record { version = version.One; frames = 64; bad = bad; pagefile = n; params = test_params; sections = sections; procs = procs; maps = maps; fails = fails; body = body })
config_formed n bad sections procs maps fails body h pb ps pp pm pf pt =
    subst IsWellFormed
    (sym (λ i. record { version = version.One; frames = 64; bad = pb i; pagefile = n; params = test_params; sections = ps i; procs = pp i; maps = pm i; fails = pf i; body = pt i }))
    (test_formed n h)
