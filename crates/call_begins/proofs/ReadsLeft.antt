-- Reads into the free list's heads, one after another: what is made so far and what is left make the whole.
use Rattle.std.proofs.Common.{◌≡◌, ℕ, List, [], ◌∷◌, ◌++◌, Option, Some, None, inl, inr, map, refl, sym, ap, ◌∙◌, subst}
use Rattle.std.proofs.lemmas.List.{append-nil, append_assoc}
use Rattle.vm_types.specs.Configuration.{IsWellFormed}
use Rattle.vm_types.specs.declared.config.Config.{Config}
use Rattle.vm_types.specs.declared.names.BlockId.{BlockId}
use Rattle.vm_types.specs.declared.names.Page.{Page}
use Rattle.vm_types.specs.declared.names.Seat.{Seat}
use Rattle.vm_journal.specs.declared.entry.Entry.{Entry}
use Rattle.vm_journal.specs.declared.entry.Role.{Role}
use Rattle.vm_journal.specs.declared.entry.Role.TheVariants as role
use Rattle.vm_journal.specs.declared.entry.What.{What}
use Rattle.vm_journal.specs.declared.entry.What.TheVariants as what
use Rattle.page_lists.specs.Lists.{without}
use Rattle.pager_policy.specs.Given.{Target, reads_made, reuse_first}
use Rattle.pager_model.specs.Maps.{pfn}
use Rattle.pager_model.specs.In.{IsIn}
use Rattle.pager_model.specs.Own.{IsEmptyHead}
use Rattle.pager_model.specs.Pager.{Pager}
use Rattle.pager_model.specs.Reuse.{IsReuse}
use Rattle.pager_model.specs.Run.{IsRun, pager_after}
use Rattle.call_laws.specs.AreLegal.{AreLegal}
use Rattle.call_laws.proofs.NearLegal.{tail_without}
use Rattle.lift_carriers.specs.CarrierView.{CarrierView}
use Rattle.vm_state.specs.History.{History, entry_by, pager}
use Rattle.vm_state.specs.LiftsLand.{added_each}
use Rattle.call_begins.proofs.OneReads.{no_more, none_read, one_is}
use Rattle.call_begins.specs.Lifted.{place_of, places_in}
use Rattle.call_begins.specs.OneRead.{one_read}

-- the frame of a legal read is an empty head
head_of : (r : Role) (config : Config) (past : List Entry) (a : Pager) (p f : ℕ) (b : BlockId) → IsIn r config past a p f b → IsEmptyHead a f
head_of (role.Fault q address) config past a p f b legal = legal.frame
head_of (role.Near g) config past a p f b legal = legal.lying.frame
head_of (role.Come q address) config past a p f b legal = legal.lying.frame

reused_holds : (past : List Entry) (a : Pager) (p f : ℕ) (g : Page) → IsReuse past a p f g → a.page f ≡ Some g
reused_holds past a p f g (inl free) = free.holds
reused_holds past a p f g (inr failed) = failed.holds

-- and is then off the free list
free_after : (config : Config) (past : List Entry) (seat : Seat) (f : ℕ) (b : BlockId) (r : Role) → (pager_after config (entry_by seat (what.In (pfn f) b r) ∷ past)).free ≡ without (pager_after config past).free f
free_after config past seat f b (role.Fault q address) = refl
free_after config past seat f b (role.Near g) = refl
free_after config past seat f b (role.Come q address) = refl

-- ---- one read and those behind it
module _ (s : History) (seat : Seat) (f : ℕ) (b : BlockId) (r : Role) where
  abbrev read : What
  read = what.In (pfn f) b r

  abbrev after_one : Option Page → History
  after_one o = added_each seat (reuse_first o f (read ∷ [])) s

  holds : (o : Option Page) (ws : List What) → AreLegal s.config s.past seat.0 (reuse_first o f (read ∷ ws)) → (pager s).page f ≡ o
  holds None ws legal = (head_of r s.config s.past (pager s) seat.0 f b legal.0.row).empty
  holds (Some g) ws legal = reused_holds s.past (pager s) seat.0 f g legal.0.row

  legal_then : (o : Option Page) (ws : List What) → AreLegal s.config s.past seat.0 (reuse_first o f (read ∷ ws)) → AreLegal (after_one o).config (after_one o).past seat.0 ws
  legal_then None ws legal = legal.1
  legal_then (Some g) ws legal = legal.1.1

  made_then : (o : Option Page) (ws : List What) → added_each seat (reuse_first o f (read ∷ ws)) s ≡ added_each seat ws (after_one o)
  made_then None ws = refl
  made_then (Some g) ws = refl

  reads_then : (o : Option Page) (ws : List What) → places_in (reuse_first o f (read ∷ [])) ++ places_in ws ≡ places_in (reuse_first o f (read ∷ ws))
  reads_then None ws = refl
  reads_then (Some g) ws = refl

  module _ (formed : IsWellFormed s.config) (run : IsRun s.config s.past) (fs : List ℕ) (free : (pager s).free ≡ f ∷ fs) where
    free_then : (o : Option Page) (ws : List What) → AreLegal s.config s.past seat.0 (reuse_first o f (read ∷ ws)) → (pager (after_one o)).free ≡ fs
    free_then None ws legal = free_after s.config s.past seat f b r ∙ tail_without s.config s.past formed run f fs free
    free_then (Some g) ws legal =
        let past : List Entry = entry_by seat (what.Reuse (pfn f) g) ∷ s.past in
        free_after s.config past seat f b r
        ∙ tail_without s.config past formed (run, legal.0) f fs (ap (λ (xs : List ℕ). f ∷ xs) (tail_without s.config s.past formed run f fs free))

-- ---- the reads that are left
abbrev pub left_by : (ℕ → Option Page) → List Target → History → List What
left_by page targets s = reads_made page (pager s).free targets

module _ {B : Type 0} (page : ℕ → Option Page) (whole : History) (all : List What) (seat : Seat) where
  -- what is left is legal, and makes the whole with what was made
  pub record IsReading (targets : List Target) (s : History) (c : CarrierView B) : Type 0 where
    pub legal : AreLegal s.config s.past seat.0 (left_by page targets s)
    pub history : added_each seat (left_by page targets s) s ≡ whole
    pub places : map place_of c.lifts ++ places_in (left_by page targets s) ≡ places_in all

  module _ (t : Target) (ts : List Target) (s s' : History) (c c' : CarrierView B) (is : IsReading (t ∷ ts) s c) (made : s' ≡ added_each seat (one_read s t.block t.role) s)
      (each : map place_of c'.lifts ≡ map place_of c.lifts ++ places_in (one_read s t.block t.role)) where
    -- the list is empty, and nothing was made
    without_frame : (pager s).free ≡ [] → IsReading ts s' c'
    without_frame free =
        let none : (targets : List Target) → left_by page targets s ≡ [] = λ targets. ap (λ (xs : List ℕ). reads_made page xs targets) free in
        let same : s' ≡ s = made ∙ ap (λ (ws : List What). added_each seat ws s) (none_read s t.block t.role free) in
        let kept : map place_of c'.lifts ≡ map place_of c.lifts = each ∙ (ap (λ (ws : List What). map place_of c.lifts ++ places_in ws) (none_read s t.block t.role free) ∙ append-nil (map place_of c.lifts)) in
        subst (λ (x : History). IsReading ts x c') (sym same) (record {
          legal = subst (λ (ws : List What). AreLegal s.config s.past seat.0 ws) (sym (none ts)) tt;
          history = ap (λ (ws : List What). added_each seat ws s) (none ts ∙ sym (none (t ∷ ts))) ∙ is.history;
          places = (λ i. kept i ++ places_in ((none ts ∙ sym (none (t ∷ ts))) i)) ∙ is.places;
        })

    module _ (f : ℕ) (fs : List ℕ) (free : (pager s).free ≡ f ∷ fs) (formed : IsWellFormed s.config) (run : IsRun s.config s.past) where
      abbrev rest : List What
      rest = reads_made page fs ts

      given_now : left_by page (t ∷ ts) s ≡ reuse_first (page f) f (what.In (pfn f) t.block t.role ∷ rest)
      given_now = ap (λ (xs : List ℕ). reads_made page xs (t ∷ ts)) free

      legal_now : AreLegal s.config s.past seat.0 (reuse_first (page f) f (what.In (pfn f) t.block t.role ∷ rest))
      legal_now = subst (λ (ws : List What). AreLegal s.config s.past seat.0 ws) given_now is.legal

      one_now : one_read s t.block t.role ≡ reuse_first (page f) f (what.In (pfn f) t.block t.role ∷ [])
      one_now =
          one_is s seat (pfn f) t.block t.role (record { rest = fs; heads = free })
          ∙ ap (λ (o : Option Page). reuse_first o f (what.In (pfn f) t.block t.role ∷ [])) (holds s seat f t.block t.role (page f) rest legal_now)

      abbrev later : History
      later = after_one s seat f t.block t.role (page f)

      rest_is : left_by page ts later ≡ rest
      rest_is = ap (λ (xs : List ℕ). reads_made page xs ts) (free_then s seat f t.block t.role formed run fs free (page f) rest legal_now)

      with_frame : IsReading ts s' c'
      with_frame = subst (λ (x : History). IsReading ts x c') (sym (made ∙ ap (λ (ws : List What). added_each seat ws s) one_now)) (record {
        legal = subst (λ (ws : List What). AreLegal later.config later.past seat.0 ws) (sym rest_is) (legal_then s seat f t.block t.role (page f) rest legal_now);
        history = ap (λ (ws : List What). added_each seat ws later) rest_is ∙ (sym (made_then s seat f t.block t.role (page f) rest) ∙ (ap (λ (ws : List What). added_each seat ws s) (sym given_now) ∙ is.history));
        places =
            (λ i. (each ∙ ap (λ (ws : List What). map place_of c.lifts ++ places_in ws) one_now) i ++ places_in (rest_is i))
            ∙ (append_assoc (map place_of c.lifts) (places_in (reuse_first (page f) f (what.In (pfn f) t.block t.role ∷ []))) (places_in rest)
            ∙ (ap (λ (xs : List (ℕ × BlockId)). map place_of c.lifts ++ xs) (reads_then s seat f t.block t.role (page f) rest ∙ ap (λ (ws : List What). places_in ws) (sym given_now))
            ∙ is.places));
      })

    pub next_read : IsWellFormed s.config → IsRun s.config s.past → IsReading ts s' c'
    next_read formed run = by (pager s).free refl
      where
        by : (xs : List ℕ) → (pager s).free ≡ xs → IsReading ts s' c'
        by [] free = without_frame free
        by (f ∷ fs) free = with_frame f fs free formed run

  -- its entries may be made
  pub may_one : (t : Target) (ts : List Target) (s : History) (c : CarrierView B) → IsReading (t ∷ ts) s c → AreLegal s.config s.past seat.0 (one_read s t.block t.role)
  may_one t ts s c is = by (pager s).free refl
    where
      front : (f : ℕ) (o : Option Page) (ws : List What) → AreLegal s.config s.past seat.0 (reuse_first o f (what.In (pfn f) t.block t.role ∷ ws)) → AreLegal s.config s.past seat.0 (reuse_first o f (what.In (pfn f) t.block t.role ∷ []))
      front f None ws legal = (legal.0, tt)
      front f (Some g) ws legal = (legal.0, (legal.1.0, tt))

      by : (xs : List ℕ) → (pager s).free ≡ xs → AreLegal s.config s.past seat.0 (one_read s t.block t.role)
      by [] free = subst (λ (ws : List What). AreLegal s.config s.past seat.0 ws) (sym (none_read s t.block t.role free)) tt
      by (f ∷ fs) free =
          let legal : AreLegal s.config s.past seat.0 (reuse_first (page f) f (what.In (pfn f) t.block t.role ∷ reads_made page fs ts)) = subst (λ (xs : List ℕ). AreLegal s.config s.past seat.0 (reads_made page xs (t ∷ ts))) free is.legal in
          subst (λ (ws : List What). AreLegal s.config s.past seat.0 ws)
          (sym (one_is s seat (pfn f) t.block t.role (record { rest = fs; heads = free })
          ∙ ap (λ (o : Option Page). reuse_first o f (what.In (pfn f) t.block t.role ∷ [])) (holds s seat f t.block t.role (page f) (reads_made page fs ts) legal)))
          (front f (page f) (reads_made page fs ts) legal)

  -- nothing is left
  pub read_all : (s : History) (c : CarrierView B) → IsReading [] s c → (s ≡ whole) × (map place_of c.lifts ≡ places_in all)
  read_all s c is =
      let none = no_more page (pager s).free in (
        ap (λ (ws : List What). added_each seat ws s) (sym none) ∙ is.history,
        sym (append-nil (map place_of c.lifts)) ∙ (ap (λ (ws : List What). map place_of c.lifts ++ places_in ws) (sym none) ∙ is.places),
      )
