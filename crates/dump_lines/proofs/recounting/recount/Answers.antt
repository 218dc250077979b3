use Rattle.std.proofs.Common.{◌≡◌, ℕ, ◌≤◌, List, length, map, refl, sym, ap, subst, ◌∙◌, lit<, arith, rules}
use Rattle.std.specs.Prelude.{IfOk, replicate}
use Rattle.std.proofs.lemmas.List.{length-map, length-replicate, with_items_is}
use Rattle.std_alloc.specs.Vec.{with_items}
use Rattle.vm_types.specs.declared.limits.TheConstants.{MOST_FRAMES}
use Rattle.dump_bytes.specs.declared.dump.ProcRec.{ProcRec}
use Rattle.dump_bytes.specs.Dumped.{dumped, process_of}
use Rattle.dump_lines.specs.declared.counts.Counts.{Counts}
use Rattle.dump_lines.specs.Occurrences.{times_in}
use Rattle.dump_lines.specs.Pins.{pins_in}
use Rattle.dump_lines.specs.Tallies.{shares_in}
use Rattle.dump_lines.proofs.Raising.{raised_of, room_left}
use Rattle.dump_lines.proofs.Tallying.{few_pins_of_all, few_times, gathered, room_of_nothing, tallied}
use Rattle.dump_lines.proofs.recounting.recount.Goals as goal

pub count_members-requires-clause-room : goal.count_members-requires-clause-room
count_members-requires-clause-room c =
    let none : c.deref_mut-2.result.now ≡ replicate {A = ℕ} c.len-frames.result 0 = c.deref_mut-2.ensures.value ∙ c.in_ok-uses.ensures in
    let size : length c.count_processes.new.uses ≡ c.in_ok-uses.uses.len = c.count_processes.ensures.uses.size ∙ (ap (length {A = ℕ}) c.deref_mut-2.ensures.value ∙ sym c.in_ok-uses.uses.ok.0) in
    let left : c.deref_mut-3.result.now ≡ c.count_processes.new.uses = c.deref_mut-3.ensures.value ∙ with_items_is c.in_ok-uses.uses c.count_processes.new.uses size in
    let pins = raised_of _ _ _ _ _ _ c.count_processes.ensures.uses (ap {B = ℕ → ℕ} (λ (ps : List ProcRec) (f : ℕ). pins_in (map process_of ps) f) c.deref.ensures.value) none (sym left) in
    let few_procs = c.requires.procs.1 in
    let few_flights : length c.deref-2.result.now ≤ MOST_FRAMES = omega (arith, ap (length {A = ℕ}) c.deref-2.ensures.value, c.requires.flights.few, c.requires.frames.1) in
    room_left 40000 _ _ _ _ (room_of_nothing c.len-frames.result 40000 (lit< tt)) pins (λ f. let few = few_pins_of_all _ c.args.dump.now.procs.items c.requires.each_process f in omega (arith, length-map c.args.dump.now.procs.items process_of))

pub gather-requires-clause-room : goal.gather-requires-clause-room
gather-requires-clause-room c =
    let none : c.deref_mut-2.result.now ≡ replicate {A = ℕ} c.len-frames.result 0 = c.deref_mut-2.ensures.value ∙ c.in_ok-uses.ensures in
    let size : length c.count_processes.new.uses ≡ c.in_ok-uses.uses.len = c.count_processes.ensures.uses.size ∙ (ap (length {A = ℕ}) c.deref_mut-2.ensures.value ∙ sym c.in_ok-uses.uses.ok.0) in
    let left : c.deref_mut-3.result.now ≡ c.count_processes.new.uses = c.deref_mut-3.ensures.value ∙ with_items_is c.in_ok-uses.uses c.count_processes.new.uses size in
    let size_2 : length c.count_members.new.counts ≡ c.in_ok-uses.uses.len = c.count_members.ensures.size ∙ (ap (length {A = ℕ}) left ∙ size) in
    let left_2 : c.deref-6.result.now ≡ c.count_members.new.counts = c.deref-6.ensures.value ∙ with_items_is (with_items c.in_ok-uses.uses c.count_processes.new.uses) c.count_members.new.counts size_2 in
    let pins = raised_of _ _ _ _ _ _ c.count_processes.ensures.uses (ap {B = ℕ → ℕ} (λ (ps : List ProcRec) (f : ℕ). pins_in (map process_of ps) f) c.deref.ensures.value) none (sym left) in
    let flights = raised_of _ _ _ _ _ _ c.count_members.ensures (ap {B = ℕ → ℕ} (λ (ns : List ℕ) (f : ℕ). times_in ns f) c.deref-2.ensures.value) refl (sym left_2) in
    let few_procs = c.requires.procs.1 in
    let few_flights : length c.args.dump.now.flights.items ≤ MOST_FRAMES = omega (arith, c.requires.flights.few, c.requires.frames.1) in
    let room = room_left 40000 20000 _ _ _ (room_of_nothing c.len-frames.result 40000 (lit< tt)) pins (λ f. let few = few_pins_of_all _ c.args.dump.now.procs.items c.requires.each_process f in omega (arith, length-map c.args.dump.now.procs.items process_of)) in
    room_left 20000 1 _ _ _ room flights (λ f. let few = few_times c.args.dump.now.flights.items f in omega arith)

pub returns : goal.returns
returns c =
    let d = dumped c.args.dump.now in
    let n = c.len-frames.result in
    let same : n ≡ length c.args.dump.now.frames.items = search rules in
    let procs = c.deref.ensures.value in
    let no_shares : c.deref_mut.result.now ≡ replicate {A = ℕ} n 0 = c.deref_mut.ensures.value ∙ c.in_ok-shares.ensures in
    let size_s : length c.count_processes.new.shares ≡ c.in_ok-shares.shares.len = c.count_processes.ensures.shares.size ∙ (ap (length {A = ℕ}) c.deref_mut.ensures.value ∙ sym c.in_ok-shares.shares.ok.0) in
    let shares_left : c.deref-5.result.now ≡ c.count_processes.new.shares = c.deref-5.ensures.value ∙ with_items_is c.in_ok-shares.shares c.count_processes.new.shares size_s in
    let on_shares = raised_of _ _ _ _ _ _ c.count_processes.ensures.shares (ap {B = ℕ → ℕ} (λ (ps : List ProcRec) (f : ℕ). shares_in (map process_of ps) f) procs) no_shares (sym shares_left) in
    let no_uses : c.deref_mut-2.result.now ≡ replicate {A = ℕ} n 0 = c.deref_mut-2.ensures.value ∙ c.in_ok-uses.ensures in
    let size_u : length c.count_processes.new.uses ≡ c.in_ok-uses.uses.len = c.count_processes.ensures.uses.size ∙ (ap (length {A = ℕ}) c.deref_mut-2.ensures.value ∙ sym c.in_ok-uses.uses.ok.0) in
    let pins_left : c.deref_mut-3.result.now ≡ c.count_processes.new.uses = c.deref_mut-3.ensures.value ∙ with_items_is c.in_ok-uses.uses c.count_processes.new.uses size_u in
    let size_v : length c.count_members.new.counts ≡ c.in_ok-uses.uses.len = c.count_members.ensures.size ∙ (ap (length {A = ℕ}) pins_left ∙ size_u) in
    let uses_left : c.deref-6.result.now ≡ c.count_members.new.counts = c.deref-6.ensures.value ∙ with_items_is (with_items c.in_ok-uses.uses c.count_processes.new.uses) c.count_members.new.counts size_v in
    let on_pins = raised_of _ _ _ _ _ _ c.count_processes.ensures.uses (ap {B = ℕ → ℕ} (λ (ps : List ProcRec) (f : ℕ). pins_in (map process_of ps) f) procs) no_uses (sym pins_left) in
    let on_flights = raised_of _ _ _ _ _ _ c.count_members.ensures (ap {B = ℕ → ℕ} (λ (ns : List ℕ) (f : ℕ). times_in ns f) c.deref-2.ensures.value) refl (sym uses_left) in
    let no_free : c.deref_mut-4.result.now ≡ replicate {A = ℕ} n 0 = c.deref_mut-4.ensures.value ∙ c.in_ok-free.ensures in
    let size_f : length c.count_members-2.new.counts ≡ c.in_ok-free.free.len = c.count_members-2.ensures.size ∙ (ap (length {A = ℕ}) c.deref_mut-4.ensures.value ∙ sym c.in_ok-free.free.ok.0) in
    let free_left : c.deref-7.result.now ≡ c.count_members-2.new.counts = c.deref-7.ensures.value ∙ with_items_is c.in_ok-free.free c.count_members-2.new.counts size_f in
    let on_free = raised_of _ _ _ _ _ _ c.count_members-2.ensures (ap {B = ℕ → ℕ} (λ (ns : List ℕ) (f : ℕ). times_in ns f) c.deref-3.ensures.value) no_free (sym free_left) in
    let no_modified : c.deref_mut-5.result.now ≡ replicate {A = ℕ} n 0 = c.deref_mut-5.ensures.value ∙ c.in_ok-modified.ensures in
    let size_m : length c.count_members-3.new.counts ≡ c.in_ok-modified.modified.len = c.count_members-3.ensures.size ∙ (ap (length {A = ℕ}) c.deref_mut-5.ensures.value ∙ sym c.in_ok-modified.modified.ok.0) in
    let modified_left : c.deref-8.result.now ≡ c.count_members-3.new.counts = c.deref-8.ensures.value ∙ with_items_is c.in_ok-modified.modified c.count_members-3.new.counts size_m in
    let on_modified = raised_of _ _ _ _ _ _ c.count_members-3.ensures (ap {B = ℕ → ℕ} (λ (ns : List ℕ) (f : ℕ). times_in ns f) c.deref-4.ensures.value) no_modified (sym modified_left) in
    let are = tallied d n c.deref-5.result.now c.deref_mut-3.result.now c.deref-6.result.now c.deref-7.result.now c.deref-8.result.now same on_shares on_pins on_flights on_free on_modified in
    let size : length c.deref-5.result.now ≡ length c.args.dump.now.frames.items = ap (length {A = ℕ}) shares_left ∙ (c.count_processes.ensures.shares.size ∙ (ap (length {A = ℕ}) no_shares ∙ (length-replicate {A = ℕ} n 0 ∙ same))) in
    subst (λ (xs : List Counts). IfOk c.gather.result (λ counts. counts.items ≡ xs)) (gathered d c.deref-5.result.now c.deref-6.result.now c.deref-7.result.now c.deref-8.result.now size are) c.gather.ensures
