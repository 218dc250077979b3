-- Steps that answer no reference make the same entries, whatever reply is shown.
use Rattle.std.proofs.Common.{◌≡◌, ℕ, zero, suc, Bool, true, false, not, List, [], ◌∷◌, ◌++◌, Option, Some, None, map, refl, ap, subst}
use Rattle.std.proofs.lemmas.Option.{none-some, same_Some}
use Rattle.vm_types.specs.declared.config.Config.{Config}
use Rattle.vm_types.specs.declared.names.BlockId.{BlockId}
use Rattle.vm_types.specs.declared.names.BlockId.TheVariants as block
use Rattle.vm_types.specs.declared.reply.Reply.{Reply}
use Rattle.vm_types.specs.declared.service.Service.{Service}
use Rattle.vm_journal.specs.declared.entry.Entry.{Entry}
use Rattle.vm_journal.specs.declared.entry.What.{What}
use Rattle.vm_journal.specs.declared.entry.What.TheVariants as what
use Rattle.pager_model.specs.Lookups.{entry_of}
use Rattle.pager_model.specs.Maps.{pfn, proc}
use Rattle.pager_model.specs.Pager.{Pager, Valid}
use Rattle.pager_policy.specs.Given.{Given, Seen, eviction, given, is_stopped, seen_at, with_reply}
use Rattle.pager_policy.specs.Serve.{GivenServe, serve_gives, serve_more}
use Rattle.pager_policy.specs.Swap.{come_gives, leave_gives, write_slot, write_slots}
use Rattle.pager_policy.specs.WriteCluster.{Reason, begin_gives, block_out, writes_from, writes_taken}
use Rattle.policy_tables.specs.BeginCases.{begin_cases}
use Rattle.policy_tables.specs.ComeCases.{come_cases}
use Rattle.policy_tables.specs.LeaveCases.{leave_cases}
use Rattle.policy_tables.specs.Rows.{first_case, if_there, that_is, when}
use Rattle.policy_tables.specs.ServeCases.{serve_cases}
use Rattle.policy_tables.specs.ServiceWords.{InWay, eviction_of, page_in_way}
use Rattle.policy_tables.specs.Words.{cluster}
use Rattle.policy_tables.proofs.ByBegin.{goes_by_cases as begin_by_cases}
use Rattle.policy_tables.proofs.ByCome.{goes_by_cases as come_by_cases}
use Rattle.policy_tables.proofs.ByLeave.{goes_by_cases as leave_by_cases}
use Rattle.policy_tables.proofs.ByServe.{goes_by_cases as serve_by_cases}
use Rattle.policy_tables.proofs.Shown.{reads_shown}

-- ---- what is so of each row is so of the first one
abbrev pub IfRow : {X : Type 0} → (X → Type 0) → Option X → Type 0
IfRow P None = Unit {0}
IfRow P (Some x) = P x

abbrev pub AllRows : {X : Type 0} → (X → Type 0) → List (Option X) → Type 0
AllRows P [] = Unit {0}
AllRows P (o ∷ rows) = IfRow P o × AllRows P rows

pub of_first : {X : Type 0} (P : X → Type 0) (rows : List (Option X)) → AllRows P rows → (x : X) → first_case rows ≡ Some x → P x
of_first P [] all x is = absurd (none-some x is)
of_first P (None ∷ rows) all x is = of_first P rows all.1 x is
of_first P (Some y ∷ rows) all x is = subst P (same_Some y x is) all.0

pub of_there : {A X : Type 0} (P : X → Type 0) (o : Option A) (make : A → X) → ((it : A) → P (make it)) → IfRow P (if_there o make)
of_there P None make all = tt
of_there P (Some it) make all = all it

pub of_when : {X : Type 0} (P : X → Type 0) (b : Bool) (x : X) → P x → IfRow P (when b x)
of_when P false x is = tt
of_when P true x is = is

module _ (reply : Reply) where
  abbrev pub IsSilent : List What → Type 0
  IsSilent made = map (with_reply reply) made ≡ made

  abbrev Silent : {X : Type 0} → Given X → Type 0
  Silent g = IsSilent g.made

  -- ---- writes
  taken : (f n : ℕ) (o : Option BlockId) (rest : BlockId → ℕ → List What) → ((b : BlockId) (m : ℕ) → IsSilent (rest b m)) → IsSilent (writes_taken f n o rest)
  taken f zero o rest is = refl
  taken f (suc m) None rest is = refl
  taken f (suc m) (Some b) rest is = ap (λ (ws : List What). what.Out (pfn f) b ∷ ws) (is b m)

  writes_silent : (config : Config) (a : Pager) (n : ℕ) (last : Option BlockId) (frames : List ℕ) → IsSilent (writes_from config a n last frames)
  writes_silent config a n last [] = refl
  writes_silent config a n last (f ∷ frames) =
      taken f n (block_out config a last (a.page f)) (λ (b : BlockId) (m : ℕ). writes_from config a m (Some b) frames) (λ b m. writes_silent config a m (Some b) frames)

  pub cluster_silent : (config : Config) (a : Pager) → IsSilent (cluster config a)
  cluster_silent config a = writes_silent config a config.params.wrtcluster None a.modified

  slot_silent : (p n : ℕ) (o : Option Seen) (ws : List What) → IsSilent ws → IsSilent (write_slot p n o ++ ws)
  slot_silent p n None ws is = is
  slot_silent p n (Some s) ws is = ap (λ (rest : List What). what.Out (pfn s.frame) (block.Swap (proc p) n) ∷ rest) is

  slots_silent : (a : Pager) (p : ℕ) (slots : List ℕ) → IsSilent (write_slots a p slots)
  slots_silent a p [] = refl
  slots_silent a p (n ∷ slots) = slot_silent p n (seen_at a p n) (write_slots a p slots) (slots_silent a p slots)

  -- ---- steps
  pub begin_silent : (config : Config) (a : Pager) (reason : Reason) → IsSilent (begin_gives config a reason).made
  unfolding begin_cases
  begin_silent config a reason =
      of_first Silent (begin_cases config a reason) (of_when Silent _ _ refl, (of_when Silent _ _ refl, (cluster_silent config a, tt))) (begin_gives config a reason) (begin_by_cases config a reason)

  pub leave_silent : (config : Config) (past : List Entry) (a : Pager) (p : ℕ) → IsSilent (leave_gives config past a p).made
  unfolding leave_cases
  leave_silent config past a p =
      of_first Silent (leave_cases config past a p)
      (of_there Silent _ _ (λ s. refl), (of_there Silent _ _ (λ s. refl), (of_there Silent _ _ (λ s. refl), (of_there Silent _ _ (λ n. slots_silent a p _), (of_when Silent _ _ refl, (refl, tt))))))
      (leave_gives config past a p) (leave_by_cases config past a p)

  pub come_silent : (config : Config) (past : List Entry) (a : Pager) (p : ℕ) → IsSilent (come_gives config past a p).made
  unfolding come_cases
  come_silent config past a p =
      of_first Silent (come_cases config past a p)
      (of_there Silent _ _ (λ g. refl), (of_there Silent _ _ (λ n. refl), (of_there Silent _ _ (λ n. reads_shown reply a.page a.free _), (of_when Silent _ _ refl, (refl, tt)))))
      (come_gives config past a p) (come_by_cases config past a p)

  more_silent : (past : List Entry) (a : Pager) (p : ℕ) (g : InWay) (o : Option Valid)
      → IfRow {X = GivenServe} Silent (if_there (if_there o (λ (e : Valid). eviction past a p g.vpn e.frame g.why)) (λ (w : What). given (w ∷ []) serve_more))
  more_silent past a p g None = tt
  more_silent past a p g (Some e) = refl

  way_silent : (config : Config) (past : List Entry) (a : Pager) (p : ℕ) (o : Option InWay) → IfRow {X = GivenServe} Silent (if_there (eviction_of config past a p o) (λ (w : What). given (w ∷ []) serve_more))
  way_silent config past a p None = tt
  way_silent config past a p (Some g) = more_silent past a p g (that_is (λ (e : Valid). not (is_stopped config past a e.frame)) (entry_of a.valid p g.vpn))

  pub serve_silent : (config : Config) (past : List Entry) (a : Pager) (p : ℕ) (s : Service) → IsSilent (serve_gives config past a p s).made
  unfolding serve_cases
  serve_silent config past a p s =
      of_first Silent (serve_cases config past a p s)
      (of_when Silent _ _ refl, (of_there Silent _ _ (λ w. refl), (way_silent config past a p (page_in_way a p s), (of_there Silent _ _ (λ g. refl), (of_when Silent _ _ refl, (of_there Silent _ _ (λ w. refl), (refl, tt)))))))
      (serve_gives config past a p s) (serve_by_cases config past a p s)
