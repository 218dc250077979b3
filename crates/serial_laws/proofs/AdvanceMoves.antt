-- Each case of a reference's next step. It never rests there.
use Rattle.std.proofs.Common.{◌≡◌, ◌⊎◌, inl, inr, ℕ, ◌<◌, ◌≤◌, ◌&&◌, Bool, true, false, cond, not, List, [], ◌∷◌, Option, Some, None, length, find, count_by, slice_get, slice_index_or, nat_eq, nat_le, nat_lt, refl, sym, ap, ◌∙◌, subst, arith}
use Rattle.std.proofs.lemmas.Bool.{and_from, and_parts, eqb-true, eq-eqb, false≢true, leb-true}
use Rattle.std.proofs.lemmas.Option.{none-some, same_Some, slice_get_cases}
use Rattle.vm_types.specs.Access.{is_allowed}
use Rattle.vm_types.specs.Adjust.{adjust}
use Rattle.vm_types.specs.Ring.{choose, filled}
use Rattle.vm_types.specs.declared.names.Page.{Page}
use Rattle.vm_types.specs.declared.names.BlockId.{BlockId}
use Rattle.vm_types.specs.declared.names.ProcStatus.{ProcStatus}
use Rattle.vm_types.specs.declared.names.ProcStatus.TheVariants as status
use Rattle.vm_types.specs.declared.config.Config.{Config}
use Rattle.vm_types.specs.declared.config.ProcSpec.{ProcSpec}
use Rattle.vm_types.specs.declared.config.Task.{Task}
use Rattle.vm_types.specs.declared.reference.Ref.{Ref}
use Rattle.vm_types.specs.declared.reply.Why.{Why}
use Rattle.vm_types.specs.declared.reply.Why.TheVariants as why
use Rattle.vm_types.specs.declared.service.Request.TheVariants as request
use Rattle.vm_journal.specs.declared.entry.Entry.{Entry}
use Rattle.vm_journal.specs.declared.entry.EvictWhy.TheVariants as evict
use Rattle.vm_journal.specs.declared.entry.What.TheVariants as what
use Rattle.pager_policy.specs.Advance.{GivenNext, advance_gives, again_block_busy, again_charging, again_modified_full, again_not_resident, entry_given, fault_given, frame_given, gives_again, held_given, is_busy_block, limit_given, mapped_given, next_more, read_given, refused_given, replace_given, replace_seen, room_given, source_of}
use Rattle.pager_model.specs.Charging.{is_uncharged}
use Rattle.pager_model.specs.Around.{past_view}
use Rattle.pager_model.specs.Done.{after_done, touched_at}
use Rattle.pager_model.specs.Evict.{victim_of}
use Rattle.pager_model.specs.Flat.{FlatState, flat_refusal, is_change, is_page_file_full, is_untouched, refusal_at}
use Rattle.pager_model.specs.Flights.{Flight, open_flights}
use Rattle.pager_model.specs.Forget.{holder}
use Rattle.pager_policy.specs.Given.{Seen, by_seat, eviction, given, is_stopped, page_address, seen_at}
use Rattle.pager_model.specs.Maps.{pfn, Map, Mapped, is_paged, page_behind, page_number, proc}
use Rattle.pager_model.specs.Lookups.{count_page, entry_of, is_pending, page_at, page_by}
use Rattle.vm_types.specs.Status.{is_resident}
use Rattle.pager_policy.specs.Moves.{asking, control, rests}
use Rattle.pager_model.specs.Pager.{Pager, Valid}
use Rattle.pager_policy.specs.Policy.{advance_move_by, ends_request, next_task}
use Rattle.pager_model.specs.Run.{pager_after}
use Rattle.pager_model.specs.Sets.{has_page}
use Rattle.pager_model.specs.Spoken.{flat_after}
use Rattle.pager_model.specs.Transfers.{is_on_block, is_read_on}
use Rattle.pager_rules.specs.Kept.{IsKept}
use Rattle.pager_laws.proofs.FlatFollows.{IsFollowed, follows}
use Rattle.pager_laws.proofs.RunsAreSound.{run_kept}
use Rattle.pager_laws.proofs.Holders.{none_listed}
use Rattle.serial_laws.specs.Between.{IsBetween}
use Rattle.serial_laws.specs.Controlled.{AreTouched, IsRead}
use Rattle.serial_laws.proofs.Advances.{done_touches, more_touched, read_for, unpaged_uncharged}
use Rattle.serial_laws.proofs.Begins.{stopped_some, writing_known}
use Rattle.serial_laws.proofs.Fetches.{reads_of_page, unmet, zero_known}
use Rattle.serial_laws.proofs.Finds.{finding_known, not_alone}
use Rattle.serial_laws.proofs.Known.{MoveIsKnown}
use Rattle.serial_laws.proofs.Leaves.{evict_known, evict_quiet}
use Rattle.serial_laws.proofs.PageCounts.{fewer_pages}
use Rattle.serial_laws.proofs.Steps.{steady_one, task_same}
use Rattle.serial_laws.proofs.Victims.{victim_seen}
use Rattle.serial_laws.proofs.Work.{IsWork, calm_quiet, request_work, touched_calm}

-- an answer touches no page less
still_listed : (config : Config) (touched : List Page) (o : Option Page) (g : Page) → count_page touched g ≤ count_page (touched_at config touched o) g
still_listed config touched None g = omega arith
still_listed config touched (Some page) g = more_touched config touched page g

done_touched : (config : Config) (a : Pager) (p : ℕ) (r : Ref) → AreTouched a → AreTouched (after_done config a p r)
done_touched config a p r old g some = let before = old g some in let more = still_listed config a.touched (page_by config a.map p (page_number (r.addr).0)) g in omega (arith, before, more)

-- what the flat machine doesn't refuse is mapped, and the page file has room for it
record IsUnrefused (config : Config) (flat : FlatState) (p : ℕ) (r : Ref) : Type 0 where
  pub mapping : Mapped
  pub mapped : flat.map p (page_number (r.addr).0) ≡ Some mapping
  pub room : is_page_file_full config flat (page_behind config p (page_number (r.addr).0) mapping.origin) ≡ false

unrefused : (config : Config) (flat : FlatState) (p : ℕ) (r : Ref) (o : Option Mapped) → flat.map p (page_number (r.addr).0) ≡ o → refusal_at config flat p r o ≡ None → IsUnrefused config flat p r
unrefused config flat p r None is refused = absurd (none-some why.Unmapped (sym refused))
unrefused config flat p r (Some m) is refused = by (not (is_allowed m.prot r.mode (is_change r.op))) (is_page_file_full config flat (page_behind config p (page_number (r.addr).0) m.origin)) refl refused
  where
    by : (b c : Bool) → is_page_file_full config flat (page_behind config p (page_number (r.addr).0) m.origin) ≡ c → cond b (Some why.Protected) (cond c (Some why.PageFileFull) None) ≡ None → IsUnrefused config flat p r
    by true c full none = absurd (none-some why.Protected (sym none))
    by false true full none = absurd (none-some why.PageFileFull (sym none))
    by false false full none = record { mapping = m; mapped = is; room = full }

module _ (config : Config) (past : List Entry) (between : IsBetween config past) (Rest : Type 0) (task : Task) (process : (task.proc).0 < length config.procs) (next : next_task config past ≡ Some task) (r : Ref) (own : task.request ≡ request.Reference r) (resident : (pager_after config past).status (task.proc).0 ≡ status.Resident) where
  abbrev a : Pager
  a = pager_after config past

  abbrev p : ℕ
  p = (task.proc).0

  abbrev v : ℕ
  v = page_number (r.addr).0

  abbrev Advances : GivenNext → Type 0
  Advances g = MoveIsKnown config past Rest (advance_move_by config past a p g.made g.answer)

  either : (b : Bool) (x y : GivenNext) → (b ≡ true → Advances x) → (b ≡ false → Advances y) → Advances (cond b x y)
  either true x y first second = first refl
  either false x y first second = second refl

  kept : IsKept config (past_view past) a
  kept = run_kept config past between.formed between.run

  followed : IsFollowed a (flat_after config past)
  followed = follows config past between.formed between.run

  -- ---- the entry isn't valid, and the page is mapped
  module _ (touched : AreTouched a) (none : flat_refusal config (flat_after config past) p r ≡ None) (invalid : entry_of a.valid p v ≡ None) (g : Page) (mapped : page_by config a.map p v ≡ Some g) where
    work : IsWork config past p ends_request asking
    work = request_work config past task process next (unmet config past between Rest task process next r own resident touched none invalid g mapped) touched

    -- no charge is waited for: the touched pages are as many as the charged ones
    not_charging : is_uncharged config a g ≡ true → nat_eq (length a.charged) config.pagefile ≡ true → ⊥
    not_charging uncharged full = by (unrefused config (flat_after config past) p r ((flat_after config past).map p v) refl none)
      where
        as_many : length a.touched ≡ config.pagefile
        as_many =
            let up = fewer_pages a.charged a.touched touched (λ h. (kept.pages h).charged) in
            let down = fewer_pages a.touched a.charged (λ h some. let less = (kept.pages h).touched in omega (arith, some, less)) (λ h. let less = (kept.pages h).touched in let one = (kept.pages h).charged in omega (arith, less, one)) in
            let count = eqb-true (length a.charged) config.pagefile full in
            omega (arith, up, down, count)

        is_paged_page : is_paged config g ≡ true
        is_paged_page = (and_parts (is_paged config g) _ uncharged).0

        not_listed : has_page a.touched g ≡ false
        not_listed = none_listed a.touched g (let less = (kept.pages g).touched in let zero = eqb-true (count_page a.charged g) 0 (and_parts (is_paged config g) _ uncharged).1 in omega (arith, less, zero))

        by : IsUnrefused config (flat_after config past) p r → ⊥
        by free =
            let there : a.map p v ≡ Some free.mapping = ap (λ (m : Map). m p v) followed.map ∙ free.mapped in
            let page : g ≡ page_behind config p v free.mapping.origin = same_Some g _ (sym mapped ∙ ap (page_at config p v) there) in
            let untouched : is_untouched config (flat_after config past) g ≡ true = and_from _ _ is_paged_page (ap (λ (pages : List Page). not (has_page pages g)) (sym followed.touched) ∙ ap not not_listed) in
            let many : nat_eq (length (flat_after config past).touched) config.pagefile ≡ true = ap (λ (pages : List Page). nat_eq (length pages) config.pagefile) (sym followed.touched) ∙ eq-eqb _ _ as_many in
            false≢true (sym free.room ∙ (ap (is_page_file_full config (flat_after config past)) (sym page) ∙ and_from _ _ untouched many))

    -- a victim is replaced
    replaced : a.limit p ≤ filled (a.ring p).slots → Advances (replace_given config past a p)
    replaced full = by (victim_seen config past between p process full)
      where
        by : (s : Seen) × (seen_at a p (victim_of (choose (a.ring p) (a.limit p))) ≡ Some s) → Advances (replace_given config past a p)
        by (s, seen) =
            subst (λ (o : Option Seen). Advances (replace_seen config past a p o)) (sym seen)
            (either (is_stopped config past a s.frame) (gives_again again_modified_full) (given (eviction past a p s.vpn s.frame evict.Replace ∷ []) next_more)
            (λ stopped. writing_known config past between Rest p ends_request (control asking) (stopped_some config past between s.frame stopped) (λ more quiet. work.done more (calm_quiet config past more quiet)) (λ more quiet. work.ended more (calm_quiet config past more quiet)))
            (λ free. evict_known config past Rest p p s.vpn s.frame evict.Replace (control asking) (work.done _ (calm_quiet config past _ (evict_quiet config past p p s.vpn s.frame evict.Replace)))))

    -- a page that is out is fetched, or a frame is found
    framed : (o : Option BlockId) → source_of config a g (a.map p v) ≡ o → (free : List ℕ) → a.free ≡ free → Advances (frame_given config a p r g o free)
    framed o source [] free = finding_known config past between p Rest p ends_request asking work rests (λ no_modified no_leaver no_victim. not_alone config past between p process free no_modified no_leaver no_victim)
    framed None source (f ∷ frames) free = zero_known config past between Rest task process next r own resident touched none invalid g mapped f source
    framed (Some b) source (f ∷ frames) free = reads_of_page config past between Rest task process next r own resident touched none invalid g mapped f frames b source

    idle_block : (o : Option BlockId) → is_busy_block past o ≡ false
    idle_block None = refl
    idle_block (Some b) = ap (λ (flights : List Flight). nat_lt 0 (count_by (is_on_block b) flights)) between.landed

    held : (o : Option ℕ) → Advances (held_given config past a p r g o)
    held (Some f) = record {
      known = record {
        some = omega arith;
        still = (refl, (refl, tt));
        turned = λ q s is. absurd (cc);
        controlled = λ reply.
            let back = steady_one config past p (what.Back (proc p) (page_address v) (pfn f) (a.state f)) refl in
            let now : Pager = pager_after config (by_seat p (what.Back (proc p) (page_address v) (pfn f) (a.state f)) ∷ past) in
            record {
              leaving = λ q is. absurd (none-some q is);
              answered_process = process;
              waiting = tt;
              touched = done_touched config now p r (touched_calm a now back.step.touched back.step.charged touched);
            };
      };
    }
    held None =
        either (is_busy_block past (source_of config a g (a.map p v))) (gives_again again_block_busy) (frame_given config a p r g (source_of config a g (a.map p v)) a.free)
        (λ busy. absurd (false≢true (sym (idle_block (source_of config a g (a.map p v))) ∙ busy))) (λ idle. framed (source_of config a g (a.map p v)) refl a.free refl)

    roomed : Advances (room_given config past a p r g)
    roomed =
        either (is_uncharged config a g && nat_eq (length a.charged) config.pagefile) (gives_again again_charging) _
        (λ charging. let both = and_parts (is_uncharged config a g) (nat_eq (length a.charged) config.pagefile) charging in absurd (not_charging both.0 both.1))
        (λ room. either (nat_le (a.limit p) (filled (a.ring p).slots)) (replace_given config past a p) (held_given config past a p r g (holder config a.page g)) (λ full. replaced (leb-true (a.limit p) (filled (a.ring p).slots) full)) (λ less. held (holder config a.page g)))

    -- no frame is being read
    unread : (f : ℕ) (o : Option Flight) → find (is_read_on f) (open_flights past) ≡ o → Advances (read_given config past a p r g f o)
    unread f None is = roomed
    unread f (Some x) is = absurd (none-some x (sym (ap (find (is_read_on f)) between.landed) ∙ is))

    faulted : (o : Option ℕ) → Advances (fault_given config past a p r g o)
    faulted None = roomed
    faulted (Some f) = unread f (find (is_read_on f) (open_flights past)) refl

  -- ---- each case before it
  module _ (charges : AreTouched a ⊎ IsRead config past) where
    entered : flat_refusal config (flat_after config past) p r ≡ None → (o : Option Valid) → entry_of a.valid p v ≡ o → Advances (entry_given config past a p r o)
    entered none (Some e) valid = record {
      known = record {
        some = omega arith;
        still = (refl, tt);
        turned = λ q s is. absurd (cc);
        controlled = λ reply. record { leaving = λ q is. absurd (none-some q is); answered_process = process; waiting = tt; touched = by charges };
      };
    }
      where
        by : AreTouched a ⊎ IsRead config past → AreTouched (after_done config a p r)
        by (inl touched) = done_touched config a p r touched
        by (inr read) = let known = read_for config past task r next own read in done_touches config a p r known.page known.mapped (λ shared. unpaged_uncharged config past between known.page shared) known.others
    entered none None invalid = mapped_in (page_by config a.map p v) refl (by charges)
      where
        by : AreTouched a ⊎ IsRead config past → AreTouched a
        by (inl touched) = touched
        by (inr read) = let known = read_for config past task r next own read in absurd (none-some known.entry (sym invalid ∙ known.valid))

        mapped_in : (o : Option Page) → page_by config a.map p v ≡ o → AreTouched a → Advances (mapped_given config past a p r o)
        mapped_in (Some g) mapped touched = faulted touched none invalid g mapped (holder config a.page g)
        mapped_in None mapped touched =
            let free = unrefused config (flat_after config past) p r ((flat_after config past).map p v) refl none in
            absurd (none-some _ (sym mapped ∙ ap (page_at config p v) (ap (λ (m : Map). m p v) followed.map ∙ free.mapped)))

    refused : (o : Option Why) → flat_refusal config (flat_after config past) p r ≡ o → Advances (refused_given config past a p r o)
    refused None none = entered none (entry_of a.valid p v) refl
    refused (Some reason) is = record {
      known = record {
        some = omega arith;
        still = (refl, tt);
        turned = λ q s same. absurd (cc);
        controlled = λ reply. record { leaving = λ q is. absurd (none-some q is); answered_process = process; waiting = tt; touched = by charges };
      };
    }
      where
        by : AreTouched a ⊎ IsRead config past → AreTouched a
        by (inl touched) = touched
        by (inr read) = let known = read_for config past task r next own read in absurd (none-some reason (sym known.allowed ∙ is))

    adjusted : (o : Option ProcSpec) → slice_get config.procs p ≡ o → Advances (limit_given config a p o)
    adjusted None is = absurd (absent (slice_get_cases config.procs p).1)
      where
        absent : ((spec : ProcSpec) × (p < length config.procs) × (slice_get config.procs p ≡ Some spec) × (slice_index_or config.procs p spec ≡ spec)) ⊎ ((length config.procs ≤ p) × (slice_get config.procs p ≡ None)) → ⊥
        absent (inl found) = none-some found.0 (sym is ∙ found.2)
        absent (inr outside) = omega (arith, outside.0, process)
    adjusted (Some spec) is = record {
      known = record {
        some = omega arith;
        still = (refl, tt);
        turned = λ q s same. absurd (cc);
        controlled = λ reply. record { leaving = λ q is. absurd (none-some q is); answered_process = tt; waiting = tt; touched = by charges };
      };
    }
      where
        by : AreTouched a ⊎ IsRead config past → AreTouched a ⊎ IsRead config (by_seat p (what.Limit (adjust config.params spec (a.faults p) (a.limit p) (length a.free)) (a.faults p)) ∷ past)
        by (inl touched) = inl touched
        by (inr read) = inr (record {
          task = read.task;
          next = task_same config past p (what.Limit (adjust config.params spec (a.faults p) (a.limit p) (length a.free)) (a.faults p)) refl ∙ read.next;
          reference = read.reference;
          asked = read.asked;
          resident = read.resident;
          allowed = read.allowed;
          entry = read.entry;
          valid = read.valid;
          page = read.page;
          mapped = read.mapped;
          others = read.others;
        })

    pub advance_known : Advances (advance_gives config past a p r)
    advance_known =
        either (not (is_resident (a.status p))) (gives_again again_not_resident) _ (λ away. absurd (false≢true (sym (ap (λ (s : ProcStatus). not (is_resident s)) resident) ∙ away)))
        (λ here. either (is_pending config (a.references p)) (limit_given config a p (slice_get config.procs p)) (refused_given config past a p r (flat_refusal config (flat_after config past) p r))
        (λ pending. adjusted (slice_get config.procs p) refl) (λ not_pending. refused (flat_refusal config (flat_after config past) p r) refl))
