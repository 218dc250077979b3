-- The configuration of the tests is well formed, and its store is ready.
use Rattle.std.proofs.Common.{◌≡◌, ℕ, ◌+◌, ◌/◌, ◌%◌, ◌<◌, ◌≤◌, List, [], ◌∷◌, Option, Some, length, map, replicate, slice_index_or, refl, sym, ap, ◌∙◌, subst, inl, arith}
use Rattle.std.specs.Prelude.{All, IfSome, IsSome}
use Rattle.std.specs.List.{range_with_len}
use Rattle.std.proofs.lemmas.Bool.{false≢true}
use Rattle.std.proofs.lemmas.List.{length-replicate}
use Rattle.std.proofs.lemmas.List.Elements.{All-from_recursion, All-map, All-replicate, All-same}
use Rattle.std.proofs.lemmas.List.FromFn.{get_or-map-range_with_len, length-map-range_with_len}
use Rattle.std.proofs.lemmas.List.Sums.{sum_by-le}
use Rattle.vm_types.specs.Configuration.{AreSections, IsNameByte, IsProcess, IsSection, IsWellFormed, section_pages}
use Rattle.vm_types.specs.declared.config.Config.{Config}
use Rattle.vm_types.specs.declared.config.Fails.{Fails}
use Rattle.vm_types.specs.declared.config.Mapping.{Mapping}
use Rattle.vm_types.specs.declared.config.Params.{Params}
use Rattle.vm_types.specs.declared.config.ProcSpec.{ProcSpec}
use Rattle.vm_types.specs.declared.config.Section.{Section}
use Rattle.vm_types.specs.declared.config.Task.{Task}
use Rattle.vm_types.specs.declared.config.Version.TheVariants as version
use Rattle.vm_types.specs.declared.names.BlockId.{BlockId}
use Rattle.vm_types.proofs.VersionOne.{no_pins}
use Rattle.disk_trait.specs.MemoryBlock.{reads_of, writes_of}
use Rattle.disk_trait.specs.declared.memory_block.MemoryBlock.{MemoryBlock}
use Rattle.frame_store.specs.StoreView.{StoreView}
use Rattle.state_tests.specs.TestStore.{IsReady, great_section, great_spec}

-- ---- the configuration
abbrev pub least_params : Params
least_params =
    record {
      pfc = 1;
      hilimit = 0;
      lolimit = 0;
      waitlimit = 1;
      wrtcluster = 1;
      freelim = 0;
      freegoal = 0;
      awstime = 0;
      pfrath = 0;
      pfratl = 0;
      wsinc = 0;
      wsdec = 0;
      awsmin = 2;
      borrowlim = 0;
    }

sized : (number : ℕ) → length (great_section number).bytes ≡ 131072
sized number = length-replicate {A = ℕ} 131072 0

paged : (number : ℕ) → section_pages (great_section number) ≤ 256
paged number = subst (λ n. n / 512 ≤ 256) (sym (sized number)) (omega arith)

section_formed : (number : ℕ) → number < 64 → IsSection version.One (great_section number)
section_formed number below =
    record {
      name =
          record {
            length = (omega arith, omega arith);
            letter = (omega arith, omega arith);
            bytes = All-from_recursion IsNameByte ((65 + number / 8) ∷ (65 + number % 8) ∷ []) (inl (omega arith, omega arith), (inl (omega arith, omega arith), tt));
          };
      whole = ap (λ n. n % 512) (sized number);
      some = subst (λ n. 512 ≤ n) (sym (sized number)) (omega arith);
      paged = λ paged. absurd (false≢true paged);
    }

named : (i j : ℕ) → i < j → (great_section i).name ≡ (great_section j).name → ⊥
named i j less same =
    let first : 65 + i / 8 ≡ 65 + j / 8 = ap (λ (name : List ℕ). slice_index_or name 0 0) same in
    let second : 65 + i % 8 ≡ 65 + j % 8 = ap (λ (name : List ℕ). slice_index_or name 1 0) same in
    omega arith

each_number : (P : Section → Type 0) (n : ℕ) → ((number : ℕ) → number < n → P (great_section number)) → All P (map great_section (range_with_len 0 n))
each_number P n holds k d within =
    let below : k < n = subst (λ m. k < m) (length-map-range_with_len great_section 0 n) within in
    subst P (sym (get_or-map-range_with_len great_section 0 n k k d below (omega arith))) (holds k below)

sections_formed : (n : ℕ) → n ≡ 64 → AreSections version.One (map great_section (range_with_len 0 n))
sections_formed n many =
    let long = length-map-range_with_len great_section 0 n in
    record {
      few = omega (arith, long, many);
      pages = (let most = sum_by-le section_pages 256 (map great_section (range_with_len 0 n)) (each_number (λ s. section_pages s ≤ 256) n (λ number _. paged number)) in omega (arith, most, long, many));
      each = each_number (IsSection version.One) n (λ number below. section_formed number (omega (arith, below, many)));
      differ = λ i j d less within same.
          let first = get_or-map-range_with_len great_section 0 n i i d (omega (arith, less, within, long)) (omega arith) in
          let second = get_or-map-range_with_len great_section 0 n j j d (omega (arith, within, long)) (omega arith) in
          named i j less (ap (λ (s : Section). s.name) (sym first) ∙ (same ∙ ap (λ (s : Section). s.name) second));
    }

process_formed : IsProcess 4096 0 great_spec
process_formed = record { limited = record { locks = omega arith; quota = omega arith; extent = omega arith; most = omega arith }; room = omega arith }

abbrev great : ℕ → Config
great n = record { version = version.One; frames = 4096; bad = []; pagefile = 16384; params = least_params; sections = map great_section (range_with_len 0 n); procs = replicate 16 great_spec; maps = []; fails = []; body = [] }

great_formed : (n : ℕ) → n ≡ 64 → IsWellFormed (great n)
great_formed n many =
    record {
      frames = (omega arith, omega arith);
      of_version = omega arith;
      bad = λ k d within. absurd (omega arith);
      bad_differ = λ i j d less within. absurd (omega arith);
      pagefile = (omega arith, omega arith);
      params = record {
        pfc = (omega arith, omega arith);
        hilimit = omega arith;
        lolimit = omega arith;
        waitlimit = (omega arith, omega arith);
        wait_above = omega arith;
        wrtcluster = (omega arith, omega arith);
        freelim = omega arith;
        freegoal = omega arith;
        awstime = omega arith;
        pfrath = omega arith;
        pfratl = omega arith;
        wsinc = omega arith;
        wsdec = omega arith;
        awsmin = (omega arith, omega arith);
        borrowlim = omega arith;
      };
      sections = sections_formed n many;
      some_process = (omega arith, omega arith);
      procs = subst (λ kept. All (IsProcess 4096 kept) (replicate 16 great_spec)) (let pins = no_pins (great n) refl in omega (arith, pins)) (All-replicate (IsProcess 4096 0) 16 great_spec process_formed);
      maps = λ k d within. absurd (omega arith);
      maps_apart = λ i j d less within. absurd (omega arith);
      fails = λ k d within. absurd (omega arith);
      fails_differ = λ i j d less within. absurd (omega arith);
      few_tasks = omega arith;
      body = λ k d within. absurd (omega arith);
    }

pub config_formed : (bad : List ℕ) (sections : List Section) (procs : List ProcSpec) (maps : List Mapping) (fails : List Fails) (body : List Task)
    → bad ≡ [] → sections ≡ map great_section (range_with_len 0 64) → procs ≡ replicate 16 great_spec → maps ≡ [] → fails ≡ [] → body ≡ []
    → IsWellFormed (record { version = version.One; frames = 4096; bad = bad; pagefile = 16384; params = least_params; sections = sections; procs = procs; maps = maps; fails = fails; body = body })
config_formed bad sections procs maps fails body pb ps pp pm pf pt =
    subst IsWellFormed
    (sym (λ i. record { version = version.One; frames = 4096; bad = pb i; pagefile = 16384; params = least_params; sections = ps i; procs = pp i; maps = pm i; fails = pf i; body = pt i }))
    (great_formed 64 refl)

-- ---- the store
pub opened : (n : ℕ) (bytes : List ℕ) (s : StoreView MemoryBlock) (blocks : List (BlockId × MemoryBlock)) → n ≡ 4096 → s.buffers ≡ replicate n (Some bytes)
    → s.blocks ≡ map (λ (p : BlockId × MemoryBlock). Some p.1) blocks → All (λ (p : BlockId × MemoryBlock). reads_of p.1 + writes_of p.1 ≤ 0) blocks → 0 < s.left → s.pool.size ≤ s.left + 4096 → IsReady 0 s
opened n bytes s blocks many buffers are unused left full =
    record {
      many = ap length buffers ∙ (length-replicate n (Some bytes) ∙ many);
      buffers = All-same IsSome s.buffers _ buffers (All-replicate IsSome n (Some bytes) refl);
      blocks = All-same IsSome s.blocks _ are (All-map IsSome (λ (p : BlockId × MemoryBlock). Some p.1) blocks (λ k d below. refl));
      few = All-same (λ (o : Option MemoryBlock). IfSome o (λ b. reads_of b + writes_of b ≤ 0)) s.blocks _ are
          (All-map (λ (o : Option MemoryBlock). IfSome o (λ b. reads_of b + writes_of b ≤ 0)) (λ (p : BlockId × MemoryBlock). Some p.1) blocks unused);
      left = left;
      full = full;
    }
