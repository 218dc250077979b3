-- The reads of a cluster, one after another: what is made so far and what is left make the whole.
use Rattle.std.proofs.Common.{◌≡◌, ℕ, suc, ◌+◌, ◌-◌, ◌*◌, ◌<◌, ◌≤◌, List, [], ◌∷◌, ◌++◌, Option, Some, None, length, map, refl, sym, ap, ◌∙◌, subst, arith}
use Rattle.std.specs.List.{range_with_len}
use Rattle.vm_types.specs.BlockView.{BlockView, Tells}
use Rattle.vm_types.specs.Configuration.{IsWellFormed}
use Rattle.vm_types.specs.declared.config.Config.{Config}
use Rattle.vm_types.specs.declared.names.Addr.{Addr}
use Rattle.vm_types.specs.declared.names.BlockId.{BlockId}
use Rattle.vm_types.specs.declared.names.Page.{Page}
use Rattle.vm_types.specs.declared.names.Seat.{Seat}
use Rattle.vm_journal.specs.declared.entry.Role.{Role}
use Rattle.vm_journal.specs.declared.entry.Role.TheVariants as role
use Rattle.vm_journal.specs.declared.entry.What.{What}
use Rattle.vm_journal.specs.declared.entry.What.TheVariants as what
use Rattle.pager_policy.specs.Advance.{block_after, cluster_targets, following, frame_given, near_target, near_targets, next_carry, window}
use Rattle.pager_model.specs.ClusterLength.{cluster_length}
use Rattle.pager_policy.specs.Given.{Target, given, page_address, reads_made, reuse_first, unsaid, with_reply}
use Rattle.pager_model.specs.Maps.{pfn, proc}
use Rattle.pager_model.specs.Pager.{Pager}
use Rattle.pager_model.specs.Run.{IsRun}
use Rattle.call_laws.specs.AreLegal.{AreLegal}
use Rattle.lift_carriers.specs.CarrierView.{CarrierView}
use Rattle.vm_state.specs.History.{History, owed, pager}
use Rattle.vm_state.specs.LiftsLand.{added_each}
use Rattle.call_begins.proofs.ReadsLeft.{IsReading, may_one, next_read, read_all}
use Rattle.call_begins.specs.Lifted.{HasBegunLifts, place_of, places_in}
use Rattle.call_begins.specs.MayBegin.{empty}
use Rattle.call_begins.specs.OneRead.{one_read}
use Rattle.fault_core.specs.Cases.{at_frame, vpn_of}
use Rattle.fault_core.specs.Gives.{Gives, MayGive}
use Rattle.fault_core.specs.declared.next.Next.TheVariants.{Carry}
use Rattle.fault_core.specs.declared.sought.Sought.{Sought}
use Rattle.fault_core.proofs.Steps.{gives_as, may_as}

-- ---- the places of the cluster
module _ (config : Config) (a : Pager) (g : Page) (b : BlockId) where
  abbrev pub targets_from : ℕ → ℕ → List Target
  targets_from k n = near_targets config a g b (range_with_len k (n - k))

  one_more : (k n : ℕ) → k < n → range_with_len k (n - k) ≡ k ∷ range_with_len (k + 1) (n - (k + 1))
  one_more k n less = let more : n - k ≡ suc (n - (k + 1)) = omega (arith, less) in ap (range_with_len k) more

  pub target_next : (k n : ℕ) (o : Option Page) → k < n → o ≡ following config a g b k → targets_from k n ≡ near_target (block_after b k) o ++ targets_from (k + 1) n
  target_next k n o less is =
      ap (near_targets config a g b) (one_more k n less) ∙ ap (λ (x : Option Page). near_target (block_after b k) x ++ targets_from (k + 1) n) (sym is)

  pub no_targets : (k n : ℕ) → n ≤ k → targets_from k n ≡ []
  no_targets k n most = let none : n - k ≡ 0 = omega (arith, most) in ap (λ (m : ℕ). near_targets config a g b (range_with_len k m)) none

-- ---- what is given
reply_stays : (o : Option Page) (f : ℕ) (b : BlockId) (r : Role) (ws : List What) → map (with_reply unsaid) ws ≡ ws → map (with_reply unsaid) (reuse_first o f (what.In (pfn f) b r ∷ ws)) ≡ reuse_first o f (what.In (pfn f) b r ∷ ws)
reply_stays None f b r ws same = ap (λ (xs : List What). what.In (pfn f) b r ∷ xs) same
reply_stays (Some g) f b r ws same = ap (λ (xs : List What). what.Reuse (pfn f) g ∷ what.In (pfn f) b r ∷ xs) same

replies_stay : (page : ℕ → Option Page) (frames : List ℕ) (targets : List Target) → map (with_reply unsaid) (reads_made page frames targets) ≡ reads_made page frames targets
replies_stay page [] targets = refl
replies_stay page (f ∷ fs) [] = refl
replies_stay page (f ∷ fs) (t ∷ ts) = reply_stays (page f) f t.block t.role (reads_made page fs ts) (replies_stay page fs ts)

module _ (s : History) (x : Sought) (b : BlockId) where
  abbrev pub fault_targets : List Target
  fault_targets = cluster_targets s.config (pager s) (x.seat).0 x.r x.page b

  abbrev pub made_all : List What
  made_all = reads_made (pager s).page (pager s).free fault_targets

  pub frame_is : 1 ≤ length (pager s).free → at_frame s x (Some b) ≡ given made_all next_carry
  frame_is some = by (pager s).free some
    where
      by : (xs : List ℕ) → 1 ≤ length xs → frame_given s.config (pager s) (x.seat).0 x.r x.page (Some b) xs ≡ given (reads_made (pager s).page xs fault_targets) next_carry
      by [] some = absurd (omega (arith, some))
      by (f ∷ fs) some = refl

  pub reading_first : {B : Type 0} (c : CarrierView B) → c ≡ empty x.seat → 1 ≤ length (pager s).free → MayGive s x.seat (at_frame s x (Some b)) → IsReading (pager s).page (added_each x.seat made_all s) made_all x.seat fault_targets s c
  reading_first c none some may = record {
    legal = (may_as s x.seat (at_frame s x (Some b)) (given made_all next_carry) (frame_is some) may).legal;
    history = refl;
    places = ap (λ (d : CarrierView _). map place_of d.lifts ++ places_in made_all) none;
  }

  module _ {B : Type 0} {seen : B → BlockView} {tells : Tells} where
    pub gives_reads : (s' : History) (old c : CarrierView B) → 1 ≤ length (pager s).free → IsReading (pager s).page (added_each x.seat made_all s) made_all x.seat [] s' c → HasBegunLifts seen tells s' x.seat c
        → Gives seen tells s s' x.seat x.r (at_frame s x (Some b)) Carry old c
    gives_reads s' old c some is has =
        let done = read_all (pager s).page (added_each x.seat made_all s) made_all x.seat s' c is in
        gives_as (at_frame s x (Some b)) (given made_all next_carry) (frame_is some) (record {
          given = record {
            shown = unsaid;
            history = done.0 ∙ ap (λ (ws : List What). added_each x.seat ws s) (sym (replies_stay (pager s).page (pager s).free fault_targets));
            answer = refl;
          };
          right = λ t. tt;
          carrier = record { own = has.own; each = done.1; begun = has.begun };
        })

-- ---- a cluster's reads
module _ (s₀ : History) (y : Sought) (b : BlockId) where
  abbrev pub IsReadingOf : {B : Type 0} → List Target → History → CarrierView B → Type 0
  IsReadingOf targets s c = IsReading (pager s₀).page (added_each y.seat (made_all s₀ y b) s₀) (made_all s₀ y b) y.seat targets s c

  abbrev pub targets_of : ℕ → ℕ → List Target
  targets_of k n = targets_from s₀.config (pager s₀) y.page b k n

  abbrev pub near : BlockId → Page → Target
  near d x = record { block = d; role = role.Near x }

  abbrev pub fault_at : Addr → Target
  fault_at start = record { block = b; role = role.Fault (proc (y.seat).0) start }

  pub reading_start : {B : Type 0} (c : CarrierView B) (start : Addr) (n : ℕ) → c ≡ empty y.seat → 1 ≤ length (pager s₀).free → MayGive s₀ y.seat (at_frame s₀ y (Some b))
      → start ≡ page_address (vpn_of y.r) → n ≡ cluster_length (window s₀.config (pager s₀) y.page b) s₀.config.params.pfc (length (pager s₀).free) → IsReadingOf (fault_at start ∷ targets_of 1 n) s₀ c
  reading_start c start n none some may start_is n_is =
      subst (λ (ts : List Target). IsReadingOf ts s₀ c) (λ i. fault_at (sym start_is i) ∷ targets_of 1 (sym n_is i)) (reading_first s₀ y b c none some may)

  pub reading_near : {B : Type 0} (s : History) (c : CarrierView B) (k n : ℕ) (x : Page) (d : BlockId) → IsReadingOf (targets_of k n) s c → k < n → Some x ≡ following s₀.config (pager s₀) y.page b k → d ≡ block_after b k
      → IsReadingOf (near d x ∷ targets_of (k + 1) n) s c
  reading_near s c k n x d is less page there =
      subst (λ (e : BlockId). IsReadingOf (near e x ∷ targets_of (k + 1) n) s c) (sym there)
      (subst (λ (ts : List Target). IsReadingOf ts s c) (target_next s₀.config (pager s₀) y.page b k n (Some x) less page) is)

  pub reading_skip : {B : Type 0} (s : History) (c : CarrierView B) (k n : ℕ) → IsReadingOf (targets_of k n) s c → k < n → None ≡ following s₀.config (pager s₀) y.page b k → IsReadingOf (targets_of (k + 1) n) s c
  reading_skip s c k n is less page = subst (λ (ts : List Target). IsReadingOf ts s c) (target_next s₀.config (pager s₀) y.page b k n None less page) is

  pub reading_end : {B : Type 0} (s : History) (c : CarrierView B) (k n : ℕ) → IsReadingOf (targets_of k n) s c → n ≤ k → IsReadingOf [] s c
  reading_end s c k n is most = subst (λ (ts : List Target). IsReadingOf ts s c) (no_targets s₀.config (pager s₀) y.page b k n most) is

  -- the next one's entries
  pub may_next : {B : Type 0} (t : Target) (ts : List Target) (s : History) (c : CarrierView B) → IsReadingOf (t ∷ ts) s c → AreLegal s.config s.past (y.seat).0 (one_read s t.block t.role)
  may_next t ts s c is = may_one (pager s₀).page (added_each y.seat (made_all s₀ y b) s₀) (made_all s₀ y b) y.seat t ts s c is

  pub reading_next : {B : Type 0} (t : Target) (ts : List Target) (s s' : History) (c c' : CarrierView B) → IsReadingOf (t ∷ ts) s c → s' ≡ added_each y.seat (one_read s t.block t.role) s
      → map place_of c'.lifts ≡ map place_of c.lifts ++ places_in (one_read s t.block t.role) → IsWellFormed s.config → IsRun s.config s.past → IsReadingOf ts s' c'
  reading_next t ts s s' c c' is made each formed run =
      next_read (pager s₀).page (added_each y.seat (made_all s₀ y b) s₀) (made_all s₀ y b) y.seat t ts s s' c c' is made each formed run

pub no_lifts : {B : Type 0} (c : CarrierView B) (seat : Seat) → c ≡ empty seat → length c.lifts ≡ 0
no_lifts c seat none = ap (λ (x : CarrierView _). length x.lifts) none

module _ {B : Type 0} {seen : B → BlockView} {tells : Tells} where
  pub none_begun : (s : History) (c : CarrierView B) (seat : Seat) → c ≡ empty seat → HasBegunLifts seen tells s seat c
  none_begun s c seat none = subst (λ (x : CarrierView B). HasBegunLifts seen tells s seat x) (sym none) (record { own = refl; begun = tt })

-- ---- how far the reads came: the places before k of n were read
pub record IsPartRead {B : Type 0} (seen : B → BlockView) (tells : Tells) (s₀ : History) (y : Sought) (b : BlockId) (k n : ℕ) (s : History) (c : CarrierView B) : Type 0 where
  pub reading : IsReadingOf s₀ y b (targets_of s₀ y b k n) s c
  pub begun : HasBegunLifts seen tells s y.seat c
  pub few : length c.lifts ≤ k
  pub paid : owed s.past + 64 ≤ s.spare + 4 * k

module _ {B : Type 0} {seen : B → BlockView} {tells : Tells} (s₀ : History) (y : Sought) (b : BlockId) (n : ℕ) where
  pub part_first : (s : History) (c₀ c : CarrierView B) (start : Addr) → IsReadingOf s₀ y b (fault_at s₀ y b start ∷ targets_of s₀ y b 1 n) s₀ c₀ → s ≡ added_each y.seat (one_read s₀ b (role.Fault (proc (y.seat).0) start)) s₀
      → map place_of c.lifts ≡ map place_of c₀.lifts ++ places_in (one_read s₀ b (role.Fault (proc (y.seat).0) start)) → IsWellFormed s₀.config → IsRun s₀.config s₀.past
      → HasBegunLifts seen tells s y.seat c → length c₀.lifts ≡ 0 → length c.lifts ≤ length c₀.lifts + 1 → owed s₀.past + 64 ≤ s₀.spare → owed s.past + s₀.spare ≤ owed s₀.past + s.spare + 4
      → IsPartRead seen tells s₀ y b 1 n s c
  part_first s c₀ c start is made each formed run begun none few room paid = record {
    reading = reading_next s₀ y b (fault_at s₀ y b start) (targets_of s₀ y b 1 n) s₀ s c₀ c is made each formed run;
    begun = begun;
    few = omega (arith, none, few);
    paid = omega (arith, room, paid);
  }

  module _ (k : ℕ) (s s' s'' : History) (c c' c'' : CarrierView B) (is : IsPartRead seen tells s₀ y b k n s c) (less : k < n) where
    pub part_some : (x : Page) (d : BlockId) → Some x ≡ following s₀.config (pager s₀) y.page b k → d ≡ block_after b k → s' ≡ added_each y.seat (one_read s d (role.Near x)) s
        → map place_of c'.lifts ≡ map place_of c.lifts ++ places_in (one_read s d (role.Near x)) → IsWellFormed s.config → IsRun s.config s.past
        → HasBegunLifts seen tells s' y.seat c' → length c'.lifts ≤ length c.lifts + 1 → owed s'.past + s.spare ≤ owed s.past + s'.spare + 4
        → s'' ≡ s' → c'' ≡ c' → IsPartRead seen tells s₀ y b (k + 1) n s'' c''
    part_some x d page there made each formed run begun few paid same same_carrier =
        subst (λ (z : History). IsPartRead seen tells s₀ y b (k + 1) n z c'') (sym same)
        (subst (λ (z : CarrierView B). IsPartRead seen tells s₀ y b (k + 1) n s' z) (sym same_carrier) (record {
          reading = reading_next s₀ y b (near s₀ y b d x) (targets_of s₀ y b (k + 1) n) s s' c c' (reading_near s₀ y b s c k n x d is.reading less page there) made each formed run;
          begun = begun;
          few = let so_far = is.few in omega (arith, so_far, few);
          paid = let so_far = is.paid in omega (arith, so_far, paid);
        }))

    pub part_none : None ≡ following s₀.config (pager s₀) y.page b k → s'' ≡ s → c'' ≡ c → IsPartRead seen tells s₀ y b (k + 1) n s'' c''
    part_none page same same_carrier =
        subst (λ (z : History). IsPartRead seen tells s₀ y b (k + 1) n z c'') (sym same)
        (subst (λ (z : CarrierView B). IsPartRead seen tells s₀ y b (k + 1) n s z) (sym same_carrier) (record {
          reading = reading_skip s₀ y b s c k n is.reading less page;
          begun = is.begun;
          few = let so_far = is.few in omega (arith, so_far);
          paid = let so_far = is.paid in omega (arith, so_far);
        }))
