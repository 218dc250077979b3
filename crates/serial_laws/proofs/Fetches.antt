-- A page that is out is fetched: made of zeros, or read with its neighbours.
use Rattle.std.proofs.Common.{◌≡◌, ◌⊎◌, inl, inr, ℕ, ◌-◌, ◌*◌, ◌<◌, ◌≤◌, ◌++◌, Bool, true, false, cond, List, [], ◌&&◌, ◌∷◌, Option, Some, None, length, map, refl, sym, ap, ap₂, ◌∙◌, subst, arith, nat_eq}
use Rattle.std.specs.List.{AllByRecursion, range_with_len}
use Rattle.std.proofs.lemmas.Bool.{false≢true, true≢false}
use Rattle.std.proofs.lemmas.Option.{none-some, same_Some}
use Rattle.vm_types.specs.declared.limits.TheConstants.{PAGE_BYTES}
use Rattle.vm_types.specs.Same.{same_page}
use Rattle.vm_types.specs.declared.names.Addr.{Addr}
use Rattle.vm_types.specs.declared.names.Page.{Page}
use Rattle.vm_types.specs.declared.names.Page.TheVariants.{Private, Shared}
use Rattle.vm_types.specs.declared.names.Proc.{Proc}
use Rattle.vm_types.specs.declared.names.BlockId.{BlockId}
use Rattle.vm_types.specs.declared.names.ProcStatus.{ProcStatus}
use Rattle.vm_types.specs.declared.names.ProcStatus.TheVariants as status
use Rattle.vm_types.specs.declared.config.Config.{Config}
use Rattle.vm_types.specs.declared.config.Origin.TheVariants as origin
use Rattle.vm_types.specs.declared.config.Task.{Task}
use Rattle.vm_types.specs.declared.reference.Ref.{Ref}
use Rattle.vm_types.specs.declared.reply.Reply.{Reply}
use Rattle.vm_types.specs.declared.service.Request.{Request}
use Rattle.vm_types.specs.declared.service.Request.TheVariants as request
use Rattle.vm_journal.specs.declared.entry.Entry.{Entry}
use Rattle.vm_journal.specs.declared.entry.Role.{Role}
use Rattle.vm_journal.specs.declared.entry.Role.TheVariants as role
use Rattle.vm_journal.specs.declared.entry.What.{What}
use Rattle.vm_journal.specs.declared.entry.What.TheVariants as what
use Rattle.pager_policy.specs.Advance.{cluster_targets, following, is_out, near_target, near_targets, source_of, window}
use Rattle.pager_model.specs.Charging.{first_source, is_uncharged}
use Rattle.pager_model.specs.Around.{past_view}
use Rattle.pager_model.specs.ClusterLength.{cluster_length, leading_out}
use Rattle.pager_model.specs.Changes.{is_section_block}
use Rattle.vm_types.specs.Adjust.{greater, lesser}
use Rattle.call_laws.proofs.AdvanceLegal.{lesser_first}
use Rattle.pager_model.specs.Flat.{FlatState, flat_refusal}
use Rattle.pager_model.specs.Flights.{Direction, Flight, failed_flight, open_flights, reading, carrier_of}
use Rattle.pager_policy.specs.Given.{Target, by_seat, made_by, page_address, reads_made, reuse_first, unsaid, with_reply}
use Rattle.pager_model.specs.Maps.{pfn, Map, is_paged, is_private, page_number, proc}
use Rattle.pager_model.specs.In.{charged_with}
use Rattle.pager_policy.specs.Landings.{Outcome, first_bad, landed_by}
use Rattle.pager_model.specs.Lookups.{count_page, entry_of, is_entry, page_by, section_at}
use Rattle.pager_policy.specs.Moves.{Control, asking, carries, control, goes, makes, refuses, saving}
use Rattle.pager_model.specs.Pager.{Pager, Valid}
use Rattle.pager_policy.specs.Policy.{next_task, unless_first_failed}
use Rattle.pager_model.specs.Reuse.{charged_reused}
use Rattle.pager_model.specs.Run.{pager_after}
use Rattle.pager_model.specs.Spoken.{flat_after}
use Rattle.pager_model.specs.Transfers.{is_fault}
use Rattle.pager_model.specs.Zero.{zeroed_page}
use Rattle.pager_rules.proofs.Basics.{count_cons_no, count_from_no_find, pages_equal, same_page_refl}
use Rattle.pager_rules.proofs.Pages.{first_private, not_first, section_is, zeroed_is}
use Rattle.pager_rules.proofs.Quiet.{no_failure}
use Rattle.pager_rules.specs.Kept.{IsKept}
use Rattle.pager_laws.proofs.RunsAreSound.{run_kept}
use Rattle.call_laws.proofs.FreeTurn.{same_number}
use Rattle.serial_laws.specs.Between.{IsBetween}
use Rattle.serial_laws.specs.Controlled.{AreTouched, IsControlled, IsUnmet, MayBeRefused}
use Rattle.serial_laws.proofs.Advances.{AreTouchedBut, done_touches, same_reference}
use Rattle.serial_laws.proofs.Carriers.{BeginsWith, is_beginning}
use Rattle.serial_laws.proofs.Known.{is_still_entry, IsRefusal, MayRefuse, MoveIsKnown, landed_from}
use Rattle.serial_laws.proofs.Landed.{EntersFirst, enters, failed_none, landed_steady}
use Rattle.serial_laws.proofs.Mild.{IsMild, begins_none, mild_made, mild_steady, mild_then}
use Rattle.serial_laws.proofs.ReadFlights.{IsReading, begun_reads, carrying_reads, reads_each, reused_each}
use Rattle.serial_laws.proofs.Single.{begun, badly, badly_uncharged, read_well, well, well_valid}
use Rattle.serial_laws.proofs.Steps.{NoneEnters, is_steady, none_then, steady_made}
use Rattle.serial_laws.proofs.Writes.{goes_not, same_control}

abbrev fault_address : Direction → ℕ
fault_address (reading (role.Fault q at)) = at.0
fault_address other = 0

-- ---- neighbours
abbrev IsNeighbour : Target → Type 0
IsNeighbour t = (g : Page) × (t.role ≡ role.Near g)

one_near : (b : BlockId) (o : Option Page) (targets : List Target) → AllByRecursion IsNeighbour targets → AllByRecursion IsNeighbour (near_target b o ++ targets)
one_near b None targets each = each
one_near b (Some g) targets each = ((g, refl), each)

all_near : (config : Config) (a : Pager) (g : Page) (b : BlockId) (places : List ℕ) → AllByRecursion IsNeighbour (near_targets config a g b places)
all_near config a g b [] = tt
all_near config a g b (n ∷ places) = one_near _ _ (near_targets config a g b places) (all_near config a g b places)

near_steady : (f : ℕ) (t : Target) → IsNeighbour t → is_steady (what.In (pfn f) t.block t.role) ≡ true
near_steady f t near = ap (λ (r : Role). is_steady (what.In (pfn f) t.block r)) near.1

near_kind : (seat k f : ℕ) (t : Target) → IsNeighbour t → BeginsWith (EntersFirst k) seat (what.In (pfn f) t.block t.role)
near_kind seat k f t near n x begins = inl (ap (λ (y : Flight). enters y.direction) (sym (same_Some _ x begins)) ∙ ap (λ (r : Role). enters (reading r)) near.1)

module _ (config : Config) (past : List Entry) (between : IsBetween config past) (Rest : Type 0) (task : Task) (process : (task.proc).0 < length config.procs) (next : next_task config past ≡ Some task) (r : Ref) (own : task.request ≡ request.Reference r) (resident : (pager_after config past).status (task.proc).0 ≡ status.Resident) (touched : AreTouched (pager_after config past))
    (none : flat_refusal config (flat_after config past) (task.proc).0 r ≡ None) (invalid : entry_of (pager_after config past).valid (task.proc).0 (page_number (r.addr).0) ≡ None) (g : Page) (mapped : page_by config (pager_after config past).map (task.proc).0 (page_number (r.addr).0) ≡ Some g) where
  abbrev a : Pager
  a = pager_after config past

  abbrev p : ℕ
  p = (task.proc).0

  abbrev v : ℕ
  v = page_number (r.addr).0

  kept : IsKept config (past_view past) a
  kept = run_kept config past between.formed between.run

  -- the reference may be refused
  pub unmet : MayBeRefused config a task
  unmet = inr (subst (λ (q : Request). IsUnmet config a p q) (sym own) (g, mapped, count_from_no_find (is_entry p v) a.valid invalid))

  -- a reuse of the free list's head leaves the charges
  charges_stay : (x : Page) → charged_reused (failed_flight past) x a.charged ≡ a.charged
  charges_stay x = ap (λ (o : Option Flight). charged_reused o x a.charged) (no_failure past between.reused)

  -- ---- zeros
  no_source : (h : Page) → g ≡ h → source_of config a h (a.map p v) ≡ None → is_paged config h ≡ true
  no_source (Private q w) same is = refl
  no_source (Shared s i) same is = go (is_paged config (Shared s i)) refl
    where
      go : (c : Bool) → is_paged config (Shared s i) ≡ c → is_paged config (Shared s i) ≡ true
      go true paged = paged
      go false file = absurd (none-some _ (sym is ∙ (ap (λ (b : Bool). cond (b && nat_eq (count_page a.charged (Shared s i)) 0) None (a.lies (Shared s i))) file ∙ (kept.pages (Shared s i)).shared s i refl file)))

  -- only this page is charged
  zero_charged : (charged : List Page) (h : Page) → (h ≡ g → ⊥) → count_page (zeroed_page config p (page_number (PAGE_BYTES * v)) (a.map p (page_number (PAGE_BYTES * v))) ∷ charged) h ≡ count_page charged h
  zero_charged charged h apart = count_cons_no (same_page h) _ charged (by (same_page h (zeroed_page config p (page_number (PAGE_BYTES * v)) (a.map p (page_number (PAGE_BYTES * v))))) refl)
    where
      by : (c : Bool) → same_page h (zeroed_page config p (page_number (PAGE_BYTES * v)) (a.map p (page_number (PAGE_BYTES * v)))) ≡ c → c ≡ false
      by false is = refl
      by true is = absurd (apart (pages_equal h _ is ∙ (ap (λ (n : ℕ). zeroed_page config p n (a.map p n)) (same_number v) ∙ zeroed_is config p v (a.map p v) g mapped)))

  zero_touches : (f : ℕ) (reply : Reply) (o : Option Page) → is_paged config g ≡ true → AreTouched (pager_after config (made_by p (map (with_reply reply) (reuse_first o f (what.Zero (page_address v) (pfn f) ∷ what.Done r unsaid ∷ []))) past))
  zero_touches f reply None paged =
      done_touches config (pager_after config (by_seat p (what.Zero (page_address v) (pfn f)) ∷ past)) p r g mapped (λ file. absurd (true≢false (sym paged ∙ file)))
      (λ h apart some. touched h (let same = zero_charged a.charged h apart in omega (arith, some, same)))
  zero_touches f reply (Some x) paged =
      done_touches config (pager_after config (by_seat p (what.Zero (page_address v) (pfn f)) ∷ by_seat p (what.Reuse (pfn f) x) ∷ past)) p r g mapped (λ file. absurd (true≢false (sym paged ∙ file)))
      (λ h apart some. touched h (let same = zero_charged (charged_reused (failed_flight past) x a.charged) h apart in let stays = ap (λ (pages : List Page). count_page pages h) (charges_stay x) in omega (arith, some, same, stays)))

  zero_some : (f : ℕ) (o : Option Page) → 0 < length (reuse_first o f (what.Zero (page_address v) (pfn f) ∷ what.Done r unsaid ∷ []))
  zero_some f None = omega arith
  zero_some f (Some x) = omega arith

  zero_no_turn : {X : Type 0} (f : ℕ) (o : Option Page) (q : Proc) (s : ProcStatus) → reuse_first o f (what.Zero (page_address v) (pfn f) ∷ what.Done r unsaid ∷ []) ≡ what.Turn q s ∷ [] → X
  zero_no_turn f None q s is = absurd (cc)
  zero_no_turn f (Some x) q s is = absurd (cc)

  pub zero_known : (f : ℕ) → source_of config a g (a.map p v) ≡ None → MoveIsKnown config past Rest (makes p (reuse_first (a.page f) f (what.Zero (page_address v) (pfn f) ∷ what.Done r unsaid ∷ [])) (control (saving false p)))
  zero_known f source = record {
    known = record {
      some = zero_some f (a.page f);
      still = reused_each (λ (w : What). is_still_entry w ≡ true) (a.page f) f (what.Zero (page_address v) (pfn f) ∷ what.Done r unsaid ∷ []) (λ x. refl) (refl, (refl, tt));
      turned = λ q s is. zero_no_turn f (a.page f) q s is;
      controlled = λ reply. record { leaving = λ q is. absurd (none-some q is); answered_process = process; waiting = tt; touched = zero_touches f reply (a.page f) (no_source g refl source) };
    };
  }

  -- ---- the reads of a cluster: the first one and its neighbours
  abbrev fault_role : Role
  fault_role = role.Fault (proc p) (page_address v)

  module _ (f : ℕ) (b : BlockId) (o : Option Page) (rest : List What) (steady : AllByRecursion (λ (w : What). is_steady w ≡ true) rest) (begins : AllByRecursion (λ (w : What). is_beginning w ≡ true) rest) (kinds : (k : ℕ) → AllByRecursion (BeginsWith (EntersFirst k) p) rest) where
    abbrev made : List What
    made = reuse_first o f (what.In (pfn f) b fault_role ∷ rest)

    abbrev begun_now : List Entry
    begun_now = made_by p made past

    abbrev landed : List Outcome → List Entry
    landed outcomes = landed_from config begun_now p outcomes

    all_begin : AllByRecursion (λ (w : What). is_beginning w ≡ true) made
    all_begin = reused_each (λ (w : What). is_beginning w ≡ true) o f (what.In (pfn f) b fault_role ∷ rest) (λ x. refl) (refl, begins)

    reading_on : IsReading EntersFirst begun_now p b fault_role
    reading_on = begun_reads EntersFirst past p o f b fault_role rest between.landed (λ x is. inr refl) begins kinds

    mild : (outcomes : List Outcome) → IsMild config past (landed outcomes)
    mild outcomes = mild_then config past begun_now (landed outcomes) (mild_made config p made past all_begin) (mild_steady config begun_now (landed outcomes) (landed_steady config p (carrier_of p begun_now) outcomes begun_now))

    -- no page but this one is charged, nor is this one if it was before
    abbrev WasCharged : Page → Type 0
    WasCharged h = (h ≡ g → ⊥) ⊎ ((is_private g && nat_eq (count_page a.charged g) 0) ≡ false)

    first_charged : (h : Page) → WasCharged h → count_page (charged_with a.charged (Some g)) h ≤ count_page a.charged h
    first_charged h was = by (is_private g && nat_eq (count_page a.charged g) 0) refl was
      where
        apart_not : (h ≡ g → ⊥) → (c : Bool) → same_page h g ≡ c → same_page h g ≡ false
        apart_not apart false is = is
        apart_not apart true is = absurd (apart (pages_equal h g is))

        by : (c : Bool) → (is_private g && nat_eq (count_page a.charged g) 0) ≡ c → WasCharged h → count_page (cond c (g ∷ a.charged) a.charged) h ≤ count_page a.charged h
        by false is was = omega arith
        by true is (inl apart) = let one = count_cons_no (same_page h) g a.charged (apart_not apart (same_page h g) refl) in omega (arith, one)
        by true is (inr before) = absurd (true≢false (sym is ∙ before))

    in_charged : (now : List Entry) → (pager_after config now).charged ≡ a.charged → page_by config (pager_after config now).map p v ≡ Some g → (h : Page) → WasCharged h → count_page (pager_after config (made_by p (what.In (pfn f) b fault_role ∷ rest) now)).charged h ≤ count_page a.charged h
    in_charged now same there h was =
        let later = (steady_made config p rest (by_seat p (what.In (pfn f) b fault_role) ∷ now) steady).step.charged h in
        let first = first_charged h was in
        let put : charged_with (pager_after config now).charged (page_by config (pager_after config now).map p (page_number (PAGE_BYTES * v))) ≡ charged_with a.charged (Some g) =
        ap₂ charged_with same (ap (page_by config (pager_after config now).map p) (same_number v) ∙ there) in
        let count = ap (λ (pages : List Page). count_page pages h) put in
        omega (arith, later, first, count)

    begun_charged : (h : Page) → WasCharged h → count_page (pager_after config begun_now).charged h ≤ count_page a.charged h
    begun_charged h was = by o
      where
        by : (u : Option Page) → count_page (pager_after config (made_by p (reuse_first u f (what.In (pfn f) b fault_role ∷ rest)) past)).charged h ≤ count_page a.charged h
        by None = in_charged past refl mapped h was
        by (Some x) = in_charged (by_seat p (what.Reuse (pfn f) x) ∷ past) (charges_stay x) mapped h was

    still_touched : (outcomes : List Outcome) (h : Page) → WasCharged h → 0 < count_page (pager_after config (landed outcomes)).charged h → 0 < count_page (pager_after config (landed outcomes)).touched h
    still_touched outcomes h was some =
        let landing = (landed_steady config p (carrier_of p begun_now) outcomes begun_now).step.charged h in
        let before = begun_charged h was in
        let old = touched h (omega (arith, some, landing, before)) in
        let same = ap (λ (pages : List Page). count_page pages h) (mild outcomes).touched in
        omega (arith, old, same)

    -- the request may be refused if the first read fails
    abbrev may_refuse : (outcomes : List Outcome) → first_bad outcomes ≡ true → AreTouched (pager_after config (landed outcomes)) → MayRefuse config (landed outcomes) p
    may_refuse outcomes bad all_touched = record { task = task; next = (mild outcomes).task ∙ next; own = refl; waits = inr (subst (λ (q : Request). IsUnmet config (pager_after config (landed outcomes)) p q) (sym own) unmet_now); touched = all_touched }
      where
        none_enters : NoneEnters (pager_after config past) (pager_after config (landed outcomes))
        none_enters =
            none_then (pager_after config past) (pager_after config begun_now) (pager_after config (landed outcomes)) (begins_none config p made past all_begin)
            (subst (λ (flights : List Flight). NoneEnters (pager_after config begun_now) (pager_after config (landed_by config p flights outcomes begun_now))) (sym (reading_on.begun).carrier)
            (failed_none config p reading_on.first (reading_on.begun).more outcomes begun_now (reading_on.begun).each bad))

        unmet_now : IsUnmet config (pager_after config (landed outcomes)) p (request.Reference r)
        unmet_now = (g, ap (λ (m : Map). page_by config m p v) (mild outcomes).map ∙ mapped, none_enters p v (count_from_no_find (is_entry p v) a.valid invalid))

    some_made : (u : Option Page) → 0 < length (reuse_first u f (what.In (pfn f) b fault_role ∷ rest))
    some_made None = omega arith
    some_made (Some x) = omega arith

    abbrev Goes : Type 0
    Goes = (outcomes : List Outcome) → length outcomes ≡ length (carrier_of p begun_now) → first_bad outcomes ≡ false → IsControlled config (landed outcomes) (control asking)

    abbrev Fails : Type 0
    Fails = (outcomes : List Outcome) → length outcomes ≡ length (carrier_of p begun_now) → first_bad outcomes ≡ true → AreTouched (pager_after config (landed outcomes))

    goes_on : Goes → (outcomes : List Outcome) (c : Control) → length outcomes ≡ length (carrier_of p begun_now) → (bad : Bool) → first_bad outcomes ≡ bad → cond bad refuses (goes (control asking)) ≡ goes c → IsControlled config (landed outcomes) c
    goes_on goes_well outcomes c each true bad is = goes_not c (sym is)
    goes_on goes_well outcomes c each false good is = subst (λ (d : Control). IsControlled config (landed outcomes) d) (same_control (control asking) c is) (goes_well outcomes each good)

    named : (s : Ref) (q : Proc) (at : Addr) → request.Reference r ≡ request.Reference s → (reading_on.first).direction ≡ reading (role.Fault q at) → at.0 ≡ page_number (s.addr).0 * PAGE_BYTES
    named s q at same is =
        let address : PAGE_BYTES * v ≡ at.0 = ap fault_address (sym reading_on.role ∙ is) in
        let number = ap (λ (x : Ref). page_number (x.addr).0) (same_reference r s same) in
        omega (arith, address, number)

    refused : Fails → (outcomes : List Outcome) → length outcomes ≡ length (carrier_of p begun_now) → (bad : Bool) → first_bad outcomes ≡ bad → cond bad refuses (goes (control asking)) ≡ refuses → IsRefusal config (landed outcomes) p reading_on.first outcomes
    refused fails_badly outcomes each false good is = goes_not (control asking) is
    refused fails_badly outcomes each true bad is = record {
      may = may_refuse outcomes bad (fails_badly outcomes each bad);
      failed = inr (ap is_fault reading_on.role, bad);
      named = λ s q at asked is_read. named s q at (sym own ∙ asked) is_read;
    }

    pub reads_known : Goes → Fails → MoveIsKnown config past Rest (carries p made (unless_first_failed (control asking)))
    reads_known goes_well fails_badly = record {
      known = record {
        some = some_made o;
        carrying = carrying_reads EntersFirst begun_now p b fault_role reading_on;
        goes_on = λ outcomes c is each. goes_on goes_well outcomes c each (first_bad outcomes) refl is;
        refused = λ outcomes is each. refused fails_badly outcomes each (first_bad outcomes) refl is;
      };
    }

    -- a page that was charged before
    pub charged_goes : is_uncharged config a g ≡ false → Goes
    charged_goes before outcomes each good = record { leaving = λ q is. absurd (none-some q is); answered_process = tt; waiting = tt; touched = inl (λ h some. still_touched outcomes h (inr (not_first config a g before)) some) }

    pub charged_fails : is_uncharged config a g ≡ false → Fails
    charged_fails before outcomes each bad h some = still_touched outcomes h (inr (not_first config a g before)) some

    -- what is known of the reference once its page was read
    pub now_read : (more : List Entry) → IsMild config past more → AreTouchedBut g (pager_after config more) → (e : Valid) → entry_of (pager_after config more).valid p v ≡ Some e → IsControlled config more (control asking)
    now_read more same but e valid = record {
      leaving = λ q is. absurd (none-some q is);
      answered_process = tt;
      waiting = tt;
      touched = inr (record {
        task = task;
        next = same.task ∙ next;
        reference = r;
        asked = own;
        resident = ap (λ (s : ℕ → ProcStatus). s p) same.status ∙ resident;
        allowed = ap (λ (flat : FlatState). flat_refusal config flat p r) same.flat ∙ none;
        entry = e;
        valid = valid;
        page = g;
        mapped = ap (λ (m : Map). page_by config m p v) same.map ∙ mapped;
        others = but;
      });
    }

  -- ---- the first read of a copy on reference page
  module _ (f : ℕ) (b : BlockId) (first : is_uncharged config a g ≡ true) (source : source_of config a g (a.map p v) ≡ Some b) where
    both_first : (is_private g ≡ true) × (section_at (a.map p v) ≡ Some b)
    both_first = first_private g (a.map p v) b (sym (ap (λ (c : Bool). cond c (first_source g (a.map p v)) (a.lies g)) first) ∙ source)

    private_first : is_private g ≡ true
    private_first = both_first.0

    section_first : is_section_block b ≡ true
    section_first = section_is (a.map p v) b both_first.1

    abbrev SingleGoes : Option Page → Type 0
    SingleGoes o = Goes f b o [] tt tt (λ k. tt)

    abbrev SingleFails : Option Page → Type 0
    SingleFails o = Fails f b o [] tt tt (λ k. tt)

    -- by the past when it is begun
    read_now : (now : List Entry) (still : open_flights now ≡ []) (outcomes : List Outcome) → length outcomes ≡ length (carrier_of p (begun config now still p v f b)) → first_bad outcomes ≡ false
        → IsMild config past (landed_from config (begun config now still p v f b) p outcomes) → AreTouchedBut g (pager_after config (landed_from config (begun config now still p v f b) p outcomes)) → IsControlled config (landed_from config (begun config now still p v f b) p outcomes) (control asking)
    read_now now still outcomes each good same but =
        let is = well config now still p v f b outcomes each good in
        subst (λ (more : List Entry). IsControlled config more (control asking)) (sym is)
        (now_read f b None [] tt tt (λ k. tt) (read_well config now still p v f b) (subst (λ (more : List Entry). IsMild config past more) is same) (subst (λ (more : List Entry). AreTouchedBut g (pager_after config more)) is but) _ (well_valid config now still p v f b))

    single_goes : (o : Option Page) → SingleGoes o
    single_goes None outcomes each good = read_now past between.landed outcomes each good (mild f b None [] tt tt (λ k. tt) outcomes) (λ h apart some. still_touched f b None [] tt tt (λ k. tt) outcomes h (inl apart) some)
    single_goes (Some x) outcomes each good =
        read_now (by_seat p (what.Reuse (pfn f) x) ∷ past) between.landed outcomes each good (mild f b (Some x) [] tt tt (λ k. tt) outcomes) (λ h apart some. still_touched f b (Some x) [] tt tt (λ k. tt) outcomes h (inl apart) some)

    -- but for the page, which isn't charged any more
    all_but : (more : List Entry) → AreTouchedBut g (pager_after config more) → count_page (pager_after config more).charged g ≡ 0 → AreTouched (pager_after config more)
    all_but more but uncharged h some = by (same_page h g) refl
      where
        by : (c : Bool) → same_page h g ≡ c → 0 < count_page (pager_after config more).touched h
        by true is = absurd (let same = ap (count_page (pager_after config more).charged) (pages_equal h g is) in omega (arith, some, same, uncharged))
        by false is = but h (λ same. false≢true (sym is ∙ (ap (λ (y : Page). same_page y g) same ∙ same_page_refl g))) some

    failed_now : (now : List Entry) (still : open_flights now ≡ []) (there : page_by config (pager_after config now).map p v ≡ Some g) (outcomes : List Outcome) → length outcomes ≡ length (carrier_of p (begun config now still p v f b)) → first_bad outcomes ≡ true
        → AreTouchedBut g (pager_after config (landed_from config (begun config now still p v f b) p outcomes)) → AreTouched (pager_after config (landed_from config (begun config now still p v f b) p outcomes))
    failed_now now still there outcomes each bad but =
        let is = badly config now still p v f b g there private_first section_first outcomes each bad in
        all_but (landed_from config (begun config now still p v f b) p outcomes) but (ap (λ (more : List Entry). count_page (pager_after config more).charged g) is.1 ∙ badly_uncharged config now still p v f b g there private_first section_first is.0)

    single_fails : (o : Option Page) → SingleFails o
    single_fails None outcomes each bad = failed_now past between.landed mapped outcomes each bad (λ h apart some. still_touched f b None [] tt tt (λ k. tt) outcomes h (inl apart) some)
    single_fails (Some x) outcomes each bad = failed_now (by_seat p (what.Reuse (pfn f) x) ∷ past) between.landed mapped outcomes each bad (λ h apart some. still_touched f b (Some x) [] tt tt (λ k. tt) outcomes h (inl apart) some)

    -- it has no neighbours
    no_neighbours : near_targets config a g b (range_with_len 1 (cluster_length (window config a g b) config.params.pfc (length a.free) - 1)) ≡ []
    no_neighbours = ap (λ (n : ℕ). near_targets config a g b (range_with_len 1 n)) only_one
      where
        alone : window config a g b ≡ true ∷ []
        alone = ap (λ (c : Bool). cond c (true ∷ []) (true ∷ map (λ (places : ℕ). is_out config a (following config a g b places)) (range_with_len 1 (config.params.pfc - 1)))) first

        only_one : cluster_length (window config a g b) config.params.pfc (length a.free) - 1 ≡ 0
        only_one =
            let most = lesser_first (lesser (leading_out (window config a g b)) config.params.pfc) (greater 1 (length a.free - 1)) in
            let less = lesser_first (leading_out (window config a g b)) config.params.pfc in
            let one = ap leading_out alone in
            omega (arith, most, less, one)

    pub first_known : (frames : List ℕ) → MoveIsKnown config past Rest (carries p (reads_made a.page (f ∷ frames) (cluster_targets config a p r g b)) (unless_first_failed (control asking)))
    first_known frames = subst (λ (ts : List Target). MoveIsKnown config past Rest (carries p (reuse_first (a.page f) f (what.In (pfn f) b fault_role ∷ reads_made a.page frames ts)) (unless_first_failed (control asking)))) (sym no_neighbours) (by frames)
      where
        single : MoveIsKnown config past Rest (carries p (reuse_first (a.page f) f (what.In (pfn f) b fault_role ∷ [])) (unless_first_failed (control asking)))
        single = reads_known f b (a.page f) [] tt tt (λ k. tt) (single_goes (a.page f)) (single_fails (a.page f))

        by : (frames : List ℕ) → MoveIsKnown config past Rest (carries p (reuse_first (a.page f) f (what.In (pfn f) b fault_role ∷ reads_made a.page frames [])) (unless_first_failed (control asking)))
        by [] = single
        by (x ∷ frames) = single

  -- ---- a cluster, by whether the page is charged
  pub reads_of_page : (f : ℕ) (frames : List ℕ) (b : BlockId) → source_of config a g (a.map p v) ≡ Some b → MoveIsKnown config past Rest (carries p (reads_made a.page (f ∷ frames) (cluster_targets config a p r g b)) (unless_first_failed (control asking)))
  reads_of_page f frames b source = by (is_uncharged config a g) refl
    where
      near : AllByRecursion IsNeighbour (near_targets config a g b (range_with_len 1 (cluster_length (window config a g b) config.params.pfc (length a.free) - 1)))
      near = all_near config a g b (range_with_len 1 (cluster_length (window config a g b) config.params.pfc (length a.free) - 1))

      by : (c : Bool) → is_uncharged config a g ≡ c → MoveIsKnown config past Rest (carries p (reads_made a.page (f ∷ frames) (cluster_targets config a p r g b)) (unless_first_failed (control asking)))
      by true first = first_known f b first source frames
      by false before =
          let steady = reads_each (λ (w : What). is_steady w ≡ true) IsNeighbour (λ k x. refl) near_steady a.page frames _ near in
          let begins = reads_each (λ (w : What). is_beginning w ≡ true) IsNeighbour (λ k x. refl) (λ k t is. refl) a.page frames _ near in
          let kinds = λ (k : ℕ). reads_each (BeginsWith (EntersFirst k) p) IsNeighbour (λ m x n y begins. absurd (none-some y begins)) (near_kind p k) a.page frames _ near in
          reads_known f b (a.page f) _ steady begins kinds (charged_goes f b (a.page f) _ steady begins kinds before) (charged_fails f b (a.page f) _ steady begins kinds before)
