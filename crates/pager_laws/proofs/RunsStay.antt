-- Runs under another body, and under one with one more request.
use Rattle.std.proofs.Common.{◌≡◌, ◌||◌, ℕ, ◌+◌, Bool, true, false, cond, List, [], ◌∷◌, ◌++◌, Option, length, map, filter, nat_eq, refl, sym, ap, ◌∙◌, arith}
use Rattle.std.proofs.lemmas.List.{append_assoc, length-append, map-append}
use Rattle.std.proofs.lemmas.List.Elements.{All-append, All-cons, All-nil, filter-append}
use Rattle.vm_types.specs.BlockView.{BlockView}
use Rattle.vm_types.specs.Configuration.{AreFails, IsTask, IsWellFormed}
use Rattle.vm_types.specs.declared.config.Config.{Config}
use Rattle.vm_types.specs.declared.config.Fails.{Fails}
use Rattle.vm_types.specs.declared.config.Task.{Task}
use Rattle.vm_types.specs.declared.names.BlockId.{BlockId}
use Rattle.vm_types.specs.declared.service.Request.{Request}
use Rattle.vm_journal.specs.declared.entry.Entry.{Entry}
use Rattle.vm_journal.specs.declared.entry.EvictWhy.TheVariants as evict
use Rattle.vm_journal.specs.declared.entry.What.{What}
use Rattle.vm_journal.specs.declared.entry.What.TheVariants as what
use Rattle.pager_model.specs.Content.{ContentFits}
use Rattle.pager_model.specs.Order.{IsAnswered, IsInOrder, answered, requests_of}
use Rattle.pager_model.specs.Pager.{Pager}
use Rattle.pager_model.specs.Run.{IsRun, pager_after}
use Rattle.pager_model.specs.Step.{IsLegalWhat}
use Rattle.pager_rules.proofs.Basics.{nat_eq_refl}
use Rattle.pager_laws.proofs.RunsAreSound.{sound_throughout}
use Rattle.pager_laws.specs.Bodies.{MayBeAdded, has_rundown, is_rundown_eviction, with_body, with_task}
use Rattle.pager_laws.specs.BodyLaws.{IsProperRun}
use Rattle.pager_laws.proofs.BodyRows.{legal}

-- ---- a well-formed configuration
fails_stay : (config : Config) (body : List Task) (fails : Fails) → AreFails config fails → AreFails (with_body config body) fails
fails_stay config body fails x = record { block = x.block; some = x.some; calls = x.calls }

pub formed_stays : (config : Config) (task : Task) → IsWellFormed config → MayBeAdded config task → IsWellFormed (with_task config task)
formed_stays config task formed may =
    let IsTaskHere : Task → Type 0 = IsTask config.version (length config.procs) in
    let one = length-append config.body (task ∷ []) in
    let room = may.room in
    record {
      frames = formed.frames;
      of_version = formed.of_version;
      bad = formed.bad;
      bad_differ = formed.bad_differ;
      pagefile = formed.pagefile;
      params = formed.params;
      sections = formed.sections;
      some_process = formed.some_process;
      procs = formed.procs;
      maps = formed.maps;
      maps_apart = formed.maps_apart;
      fails = λ i other below. fails_stay config (config.body ++ task ∷ []) _ (formed.fails i other below);
      fails_differ = formed.fails_differ;
      few_tasks = omega (arith, one, room);
      body = All-append IsTaskHere config.body (task ∷ []) formed.body (All-cons IsTaskHere task [] may.formed (All-nil IsTaskHere));
    }

-- ---- bytes
pub bytes_stay : (tells tells_plan : Bool) (config : Config) (body : List Task) (past : List Entry) (a : Pager) (buffer : ℕ → Option (List ℕ)) (home : BlockId → Option BlockView)
    → ContentFits tells tells_plan config past a buffer home → ContentFits tells tells_plan (with_body config body) past a buffer home
bytes_stay tells tells_plan config body past a buffer home fits = record {
  buffers = record { sizes = (fits.buffers).sizes; home = (fits.buffers).home };
  homes = record { blocks = (fits.homes).blocks; only = (fits.homes).only };
  held = fits.held;
  lying = fits.lying;
  written = fits.written;
  copied = fits.copied;
  counted = λ b x at. let counted = fits.counted b x at in record { counts = counted.counts; faults = counted.faults; plan = counted.plan };
}

-- ---- order
requests_join : (p : ℕ) (xs ys : List Task) → requests_of p (xs ++ ys) ≡ requests_of p xs ++ requests_of p ys
requests_join p xs ys =
    let of_p : Task → Bool = λ task. nat_eq (task.proc).0 p in
    ap (map (λ (task : Task). task.request)) (filter-append of_p xs ys) ∙ map-append (λ (task : Task). task.request) (filter of_p xs) (filter of_p ys)

pub order_stays : (config : Config) (task : Task) (past : List Entry) → IsInOrder config past → IsInOrder (with_task config task) past
order_stays config task past order p =
    let rest = (order p).0 in
    let more = requests_of p (task ∷ []) in
    (rest ++ more, sym (append_assoc (answered p past) rest more) ∙ (ap (λ (xs : List Request). xs ++ more) (order p).1 ∙ sym (requests_join p config.body (task ∷ []))))

-- ---- a run before the rundown's evictions
neither : (a b : Bool) → (a || b) ≡ false → (a ≡ false) × (b ≡ false)
neither true b is = absurd (cc)
neither false b is = (refl, is)

pub runs_stay : (config : Config) (body : List Task) (past : List Entry) → has_rundown past ≡ false → IsRun config past → IsRun (with_body config body) past
runs_stay config body [] none run = tt
runs_stay config body (e ∷ past) none run =
    let apart = neither (is_rundown_eviction e.what) (has_rundown past) none in
    (runs_stay config body past apart.1 run.0, legal config body past (pager_after config past) e apart.0 run.1)

pub runs_go_on : (config : Config) (task : Task) (past : List Entry) → IsWellFormed config → MayBeAdded config task → has_rundown past ≡ false → IsProperRun config past → IsProperRun (with_task config task) past
runs_go_on config task past formed may none whole =
    let run = runs_stay config (config.body ++ task ∷ []) past none whole.run in
    record {
      run = run;
      right = whole.right;
      in_order = order_stays config task past whole.in_order;
      sound = sound_throughout (with_task config task) past (formed_stays config task formed may) run;
    }

-- ---- and behind one of them
answered_there : (config : Config) (past : List Entry) (a : Pager) (seat : ℕ) (w : What) → is_rundown_eviction w ≡ true → IsLegalWhat config past a seat w → IsAnswered config past
answered_there config past a seat (what.Evict p address f evict.Rundown to) is row = row.answered
answered_there config past a seat other is row = absurd (cc)

-- no past has answered all of a body and all of it with one request more
own_request : (task : Task) → length (requests_of (task.proc).0 (task ∷ [])) ≡ 1
own_request task = by (nat_eq (task.proc).0 (task.proc).0) (nat_eq_refl (task.proc).0)
  where
    by : (b : Bool) → b ≡ true → length (map (λ (x : Task). x.request) (cond b (task ∷ []) [])) ≡ 1
    by true is = refl
    by false is = absurd (cc)

not_both : (config : Config) (task : Task) (past : List Entry) → IsAnswered config past → IsAnswered (with_task config task) past → ⊥
not_both config task past all more =
    let p = (task.proc).0 in
    let same : requests_of p config.body ≡ requests_of p config.body ++ requests_of p (task ∷ []) = sym (all p) ∙ (more p ∙ requests_join p config.body (task ∷ [])) in
    let lengths : length (requests_of p config.body) ≡ length (requests_of p config.body) + length (requests_of p (task ∷ [])) = ap length same ∙ length-append (requests_of p config.body) (requests_of p (task ∷ [])) in
    omega (arith, lengths, own_request task)

pub rundowns_end : (config : Config) (task : Task) (past : List Entry) → has_rundown past ≡ true → IsRun config past → IsRun (with_task config task) past → ⊥
rundowns_end config task [] some run also = absurd (cc)
rundowns_end config task (e ∷ past) some run also = by (is_rundown_eviction e.what) refl some (λ later. rundowns_end config task past later run.0 also.0)
  where
    by : (b : Bool) → is_rundown_eviction e.what ≡ b → (b || has_rundown past) ≡ true → (has_rundown past ≡ true → ⊥) → ⊥
    by true is some earlier =
        not_both config task past (answered_there config past (pager_after config past) (e.seat).0 e.what is run.1.row)
        (answered_there (with_task config task) past (pager_after (with_task config task) past) (e.seat).0 e.what is also.1.row)
    by false is some earlier = earlier some
