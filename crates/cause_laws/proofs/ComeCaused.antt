-- What is made for a process that comes back has its cause; and where there is no frame for it, it wants one.
use Rattle.std.proofs.Common.{◌≡◌, ◌⊎◌, inl, inr, ℕ, zero, suc, ◌+◌, ◌≤◌, ◌++◌, Bool, true, false, cond, not, List, [], ◌∷◌, Option, Some, None, length, nat_eq, slice_get, append-nil, refl, sym, ap, ◌∙◌, subst, arith}
use Rattle.std.specs.List.{range_with_len}
use Rattle.std.specs.Option.{is_some}
use Rattle.std.proofs.lemmas.Bool.{cases_eq, eqb-true, false≢true}
use Rattle.std.proofs.lemmas.Option.{none-some, same_Some}
use Rattle.vm_types.specs.Adjust.{lesser}
use Rattle.vm_types.specs.declared.names.Addr.{Addr}
use Rattle.vm_types.specs.declared.names.BlockId.TheVariants as block
use Rattle.vm_types.specs.declared.names.Page.{Page}
use Rattle.vm_types.specs.declared.names.Page.TheVariants.{Private, Shared}
use Rattle.vm_types.specs.declared.names.ProcStatus.{ProcStatus}
use Rattle.vm_types.specs.declared.names.ProcStatus.TheVariants as status
use Rattle.vm_types.specs.declared.config.Config.{Config}
use Rattle.vm_types.specs.declared.service.Request.{Request}
use Rattle.vm_journal.specs.declared.entry.Entry.{Entry}
use Rattle.vm_journal.specs.declared.entry.Role.TheVariants as role
use Rattle.vm_journal.specs.declared.entry.What.{What}
use Rattle.vm_journal.specs.declared.entry.What.TheVariants as what
use Rattle.pager_model.specs.Around.{past_view}
use Rattle.pager_model.specs.Changes.{swap_slot}
use Rattle.pager_model.specs.Flights.{open_flights}
use Rattle.pager_model.specs.Forget.{holder}
use Rattle.pager_model.specs.Lookups.{passes, page_by}
use Rattle.pager_model.specs.Lying.{lies_in, lying_in}
use Rattle.pager_model.specs.Maps.{page_number, pfn, proc}
use Rattle.pager_model.specs.Order.{answered, requests_of}
use Rattle.pager_model.specs.Pager.{Pager}
use Rattle.pager_model.specs.Run.{pager_after}
use Rattle.pager_model.specs.Sets.{at_number}
use Rattle.pager_model.specs.Sound.{IsSwapped}
use Rattle.pager_model.specs.Spoken.{request_of}
use Rattle.pager_model.specs.Transfers.{has_come}
use Rattle.pager_policy.specs.Given.{address_of, by_seat, given, leading, reads_made, reuse_first, slots_of}
use Rattle.pager_policy.specs.Swap.{GivenSwap, back_of, back_page, come_free, come_gives, come_out, come_target, come_targets, is_back_on_free, is_out_page, run_from, swap_again, swap_carry, swap_no_frame, swap_where}
use Rattle.pager_rules.proofs.Basics.{at_number_other, at_number_same}
use Rattle.pager_rules.proofs.Lists.{found_passes}
use Rattle.pager_rules.specs.Kept.{IsKept}
use Rattle.pager_laws.proofs.RunsAreSound.{run_kept}
use Rattle.call_laws.proofs.FollowingPages.{lies_there}
use Rattle.call_laws.proofs.FreeTurn.{same_number}
use Rattle.call_laws.proofs.ReadsLegal.{held_by_none}
use Rattle.call_laws.specs.Ready.{MayWork}
use Rattle.entry_causes.specs.Caused.{IsBackCause}
use Rattle.entry_causes.specs.FrameWanted.{WantsFrameToCome}
use Rattle.entry_causes.specs.NextRequest.{HasRequest, next_request}
use Rattle.cause_laws.specs.AreCaused.{AreCaused}

-- an entry that answers nothing leaves what is asked for next
pub next_silent : (config : Config) (past : List Entry) (seat p : ℕ) (w : What) → request_of w ≡ None → next_request config (by_seat seat w ∷ past) p ≡ next_request config past p
next_silent config past seat p w none = ap (λ (o : Option Request). slice_get (requests_of p config.body) (length (answered p past ++ said o))) none ∙ ap (λ (xs : List Request). slice_get (requests_of p config.body) (length xs)) (append-nil (answered p past))
  where
    said : Option Request → List Request
    said None = []
    said (Some r) = cond (nat_eq seat p) (r ∷ []) []

asks_still : (config : Config) (past : List Entry) (seat p : ℕ) (w : What) → request_of w ≡ None → HasRequest config past p → HasRequest config (by_seat seat w ∷ past) p
asks_still config past seat p w none asks = record { request = asks.request; next = next_silent config past seat p w none ∙ asks.next }

-- a frame that holds another page than this leaves this one out
elsewhere : (page : ℕ → Option Page) (f : ℕ) (o : Option Page) (h : Page) → (o ≡ Some h → ⊥) → ((k : ℕ) → page k ≡ Some h → ⊥) → (k : ℕ) → at_number page f o k ≡ Some h → ⊥
elsewhere page f o h other out k is = go (cases_eq f k)
  where
    go : (f ≡ k) ⊎ (f ≡ k → ⊥) → ⊥
    go (inl same) = other (sym (at_number_same page f o) ∙ (ap (at_number page f o) same ∙ is))
    go (inr apart) = out k (sym (at_number_other page f o k apart) ∙ is)

-- a page that lies in this swap block of the process and is in no frame
record IsOutOf (config : Config) (a : Pager) (p n : ℕ) (g : Page) : Type 0 where
  pub lies : a.lies g ≡ Some (block.Swap (proc p) n)
  pub out : (f : ℕ) → a.page f ≡ Some g → ⊥
  pub v : ℕ
  pub own : g ≡ Private (proc p) v
  pub mapped : page_by config a.map p v ≡ Some g

module _ (config : Config) (past : List Entry) (seat p : ℕ) where
  -- a reuse leaves it so, and so does a read into another slot
  out_after_reuse : (f n : ℕ) (x g : Page) → IsOutOf config (pager_after config past) p n g → IsOutOf config (pager_after config (by_seat seat (what.Reuse (pfn f) x) ∷ past)) p n g
  out_after_reuse f n x g o = record { lies = o.lies; out = elsewhere (pager_after config past).page f None g (none-some g) o.out; v = o.v; own = o.own; mapped = o.mapped }

  out_after_read : (f m n : ℕ) (g h : Page) → (m ≡ n → ⊥) → IsOutOf config (pager_after config past) p m g → IsOutOf config (pager_after config past) p n h
      → IsOutOf config (pager_after config (by_seat seat (what.In (pfn f) (block.Swap (proc p) m) (role.Come (proc p) (address_of g))) ∷ past)) p n h
  out_after_read f m n g h apart now later = record {
    lies = later.lies;
    out = elsewhere (pager_after config past).page f (page_by config (pager_after config past).map p (page_number (address_of g).0)) h (λ is. other (same_Some g h (sym read ∙ is))) later.out;
    v = later.v;
    own = later.own;
    mapped = later.mapped;
  }
    where
      read : page_by config (pager_after config past).map p (page_number (address_of g).0) ≡ Some g
      read = subst (λ (at : Addr). page_by config (pager_after config past).map p (page_number at.0) ≡ Some g) (sym (ap address_of now.own)) (ap (page_by config (pager_after config past).map p) (same_number now.v) ∙ now.mapped)

      other : g ≡ h → ⊥
      other same = apart (ap swap_slot (same_Some _ _ (sym now.lies ∙ (ap (pager_after config past).lies same ∙ later.lies))))

-- the process is coming for a request
record IsBringing (config : Config) (past : List Entry) (p : ℕ) : Type 0 where
  pub coming : (pager_after config past).status p ≡ status.Coming
  pub asks : HasRequest config past p

module _ (config : Config) (a₀ : Pager) (seat p : ℕ) where
  -- the pages of the slots from m on that were found at first are out
  abbrev AreOut : List Entry → ℕ → Type 0
  AreOut past m = (n : ℕ) (g : Page) → m ≤ n → lying_in a₀ p n ≡ Some g → is_out_page config a₀ g ≡ true → IsOutOf config (pager_after config past) p n g

  abbrev test : ℕ → Bool
  test n = passes (is_out_page config a₀) (lying_in a₀ p n)

  abbrev reads : List ℕ → List ℕ → List What
  reads frames slots = reads_made a₀.page frames (come_targets a₀ p slots)

  abbrev Rest : ℕ → ℕ → List ℕ → Type 0
  Rest k m fs = (past : List Entry) → IsBringing config past p → AreOut past (m + 1) → AreCaused config past seat (reads fs (leading test (range_with_len (m + 1) k)))

  read_next : (k m f : ℕ) (fs : List ℕ) (past : List Entry) (g : Page) → IsBringing config past p → IsOutOf config (pager_after config past) p m g → AreOut past (m + 1) → Rest k m fs
      → AreCaused config past seat (what.In (pfn f) (block.Swap (proc p) m) (role.Come (proc p) (address_of g)) ∷ reads fs (leading test (range_with_len (m + 1) k)))
  read_next k m f fs past g bringing now next rest = (
    bringing.asks,
    rest _ (record { coming = bringing.coming; asks = asks_still config past seat p (what.In (pfn f) (block.Swap (proc p) m) (role.Come (proc p) (address_of g))) refl bringing.asks })
        (λ n h least lying out. out_after_read config past seat p f m n g h (λ same. omega (arith, same, least)) now (next n h least lying out)),
  )

  read_first : (k m f : ℕ) (fs : List ℕ) (past : List Entry) (g : Page) → IsBringing config past p → IsOutOf config (pager_after config past) p m g → AreOut past (m + 1) → Rest k m fs → (o : Option Page)
      → AreCaused config past seat (reuse_first o f (what.In (pfn f) (block.Swap (proc p) m) (role.Come (proc p) (address_of g)) ∷ reads fs (leading test (range_with_len (m + 1) k))))
  read_first k m f fs past g bringing now next rest None = read_next k m f fs past g bringing now next rest
  read_first k m f fs past g bringing now next rest (Some x) = (
    inr (inr (inr (p, record { coming = bringing.coming; asks = bringing.asks; page = g; slot = m; lies = now.lies; out = now.out }))),
    read_next k m f fs (by_seat seat (what.Reuse (pfn f) x) ∷ past) g (record { coming = bringing.coming; asks = asks_still config past seat p (what.Reuse (pfn f) x) refl bringing.asks })
        (out_after_reuse config past seat p f m x g now) (λ n h least lying out. out_after_reuse config past seat p f n x h (next n h least lying out)) rest,
  )

  reads_caused : (k m : ℕ) (frames : List ℕ) (past : List Entry) → IsBringing config past p → AreOut past m → AreCaused config past seat (reads frames (leading test (range_with_len m k)))
  reads_caused zero m frames past bringing next = none frames
    where
      none : (fs : List ℕ) → AreCaused config past seat (reads_made a₀.page fs [])
      none [] = tt
      none (f ∷ fs) = tt
  reads_caused (suc k) m [] past bringing next = tt
  reads_caused (suc k) m (f ∷ fs) past bringing next = by (lying_in a₀ p m) refl (λ more bringing' next'. reads_caused k (m + 1) fs more bringing' next')
    where
      goes : (g : Page) → lying_in a₀ p m ≡ Some g → (b : Bool) → is_out_page config a₀ g ≡ b → Rest k m fs → AreCaused config past seat (reads (f ∷ fs) (cond b (m ∷ leading test (range_with_len (m + 1) k)) []))
      goes g lying false out rest = tt
      goes g lying true out rest =
          subst (λ (o : Option Page). AreCaused config past seat (reads_made a₀.page (f ∷ fs) (come_target p m o ++ come_targets a₀ p (leading test (range_with_len (m + 1) k))))) (sym lying)
          (read_first k m f fs past g bringing (next m g (omega arith) lying out) (λ n h least lying' out'. next n h (omega (arith, least)) lying' out') rest (a₀.page f))

      by : (o : Option Page) → lying_in a₀ p m ≡ o → Rest k m fs → AreCaused config past seat (reads (f ∷ fs) (cond (test m) (m ∷ leading test (range_with_len (m + 1) k)) []))
      by None lying rest = subst (λ (b : Bool). AreCaused config past seat (reads (f ∷ fs) (cond b (m ∷ leading test (range_with_len (m + 1) k)) []))) (sym (ap (passes (is_out_page config a₀)) lying)) tt
      by (Some g) lying rest =
          subst (λ (b : Bool). AreCaused config past seat (reads (f ∷ fs) (cond b (m ∷ leading test (range_with_len (m + 1) k)) []))) (sym (ap (passes (is_out_page config a₀)) lying)) (goes g lying (is_out_page config a₀ g) refl rest)

module _ (config : Config) (past : List Entry) (seat p : ℕ) (may : MayWork config past seat) (coming : (pager_after config past).status p ≡ status.Coming) (asks : HasRequest config past p) where
  abbrev a : Pager
  a = pager_after config past

  kept : IsKept config (past_view past) a
  kept = run_kept config past may.formed may.run

  found_out : (n : ℕ) (g : Page) → lying_in a p n ≡ Some g → is_out_page config a g ≡ true → IsOutOf config a p n g
  found_out n g found out = by g lies nowhere (kept.swapped g p n lies)
    where
      lies : a.lies g ≡ Some (block.Swap (proc p) n)
      lies = lies_there (a.lies g) (block.Swap (proc p) n) (found_passes (λ (h : Page). lies_in (a.lies h) (block.Swap (proc p) n)) a.charged g found)

      none_of : (o : Option ℕ) → not (is_some o) ≡ true → o ≡ None
      none_of None is = refl
      none_of (Some f) is = absurd (false≢true is)

      nowhere : (f : ℕ) → a.page f ≡ Some g → ⊥
      nowhere = held_by_none config past a g kept (none_of (holder config a.page g) out)

      by : (h : Page) → a.lies h ≡ Some (block.Swap (proc p) n) → ((f : ℕ) → a.page f ≡ Some h → ⊥) → IsSwapped a.lies a.status a.ring a.state a.page h p n → IsOutOf config a p n h
      by (Shared s i) there nowhere swapped = absurd (false≢true swapped.own)
      by (Private q v) there nowhere swapped =
          let owner : q.0 ≡ p = eqb-true q.0 p swapped.own in
          let charged = (kept.pages (Private q v)).lying (block.Swap (proc p) n) refl there in
          let mapped = (kept.pages (Private q v)).mapped (omega (arith, charged)) refl in
          record { lies = there; out = nowhere; v = v; own = ap (λ (r : ℕ). Private (proc r) v) owner; mapped = subst (λ (r : ℕ). page_by config a.map r v ≡ Some (Private q v)) owner mapped }

  either : (b : Bool) (x y : GivenSwap) → AreCaused config past seat x.made → AreCaused config past seat y.made → AreCaused config past seat (cond b x y).made
  either true x y first second = first
  either false x y first second = second

  backed : (g : Page) (o : Option ℕ) → AreCaused config past seat (back_of p g o)
  backed g None = tt
  backed g (Some f) = (subst (λ (s : ProcStatus). IsBackCause s config past a p (address_of g).0) (sym coming) asks, tt)

  back_caused : (o : Option Page) → AreCaused config past seat (back_page config a p o)
  back_caused None = tt
  back_caused (Some g) = backed g (holder config a.page g)

  out_caused : (o : Option ℕ) → AreCaused config past seat (come_out config past a p o).made
  out_caused None = either (has_come p (open_flights past)) _ _ tt (tt, tt)
  out_caused (Some n) =
      either (nat_eq (length a.free) 0) (given [] (swap_again swap_no_frame)) (given (reads_made a.page a.free (come_targets a p (run_from (λ (m : ℕ). passes (is_out_page config a) (lying_in a p m)) n (lesser config.params.pfc (length a.free))))) swap_carry) tt
      (reads_caused config a seat p (lesser config.params.pfc (length a.free)) n a.free past (record { coming = coming; asks = asks }) (λ m g least lying out. found_out m g lying out))

  free_caused : (o : Option ℕ) → AreCaused config past seat (come_free config past a p o).made
  free_caused (Some n) = back_caused (lying_in a p n)
  free_caused None = out_caused (swap_where a p (is_out_page config a))

  pub come_caused : AreCaused config past seat (come_gives config past (pager_after config past) p).made
  come_caused = free_caused (swap_where a p (is_back_on_free config a))

  -- ---- without a frame
  abbrev Missed : GivenSwap → Type 0
  Missed x = x.answer ≡ swap_again swap_no_frame → (a.free ≡ []) × WantsFrameToCome config past a p

  none_free : (frames : List ℕ) → nat_eq (length frames) 0 ≡ true → frames ≡ []
  none_free [] is = refl
  none_free (f ∷ fs) is = absurd (let none = eqb-true (length (f ∷ fs)) 0 is in omega (arith, none))

  missed_at : (n : ℕ) → swap_where a p (is_out_page config a) ≡ Some n → a.free ≡ [] → (o : Option Page) → lying_in a p n ≡ o → passes (is_out_page config a) o ≡ true → (a.free ≡ []) × WantsFrameToCome config past a p
  missed_at n found free None lying is = absurd (false≢true is)
  missed_at n found free (Some g) lying is = let out = found_out n g lying is in (free, record { coming = coming; asks = asks; page = g; slot = n; lies = out.lies; out = out.out })

  turned_missed : (b : Bool) (x y : GivenSwap) → Missed x → Missed y → Missed (cond b x y)
  turned_missed true x y first second = first
  turned_missed false x y first second = second

  out_missed : (o : Option ℕ) → swap_where a p (is_out_page config a) ≡ o → Missed (come_out config past a p o)
  out_missed None found = turned_missed (has_come p (open_flights past)) _ _ (λ is. absurd (cc)) (λ is. absurd (cc))
  out_missed (Some n) found = by (nat_eq (length a.free) 0) refl
    where
      by : (b : Bool) → nat_eq (length a.free) 0 ≡ b
          → Missed (cond b (given [] (swap_again swap_no_frame)) (given (reads_made a.page a.free (come_targets a p (run_from (λ (m : ℕ). passes (is_out_page config a) (lying_in a p m)) n (lesser config.params.pfc (length a.free))))) swap_carry))
      by true none is = missed_at n found (none_free a.free none) (lying_in a p n) refl (found_passes (λ (m : ℕ). passes (is_out_page config a) (lying_in a p m)) (slots_of a p) n found)
      by false some is = absurd (cc)

  free_missed : (o : Option ℕ) → Missed (come_free config past a p o)
  free_missed (Some n) is = absurd (cc)
  free_missed None is = out_missed (swap_where a p (is_out_page config a)) refl is

  pub come_misses : (come_gives config past (pager_after config past) p).answer ≡ swap_again swap_no_frame → ((pager_after config past).free ≡ []) × WantsFrameToCome config past (pager_after config past) p
  come_misses = free_missed (swap_where a p (is_back_on_free config a))
