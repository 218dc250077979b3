-- Which requests the entries of a move answer.
use Rattle.vm_types.specs.declared.reply.Reply.{Reply}
use Rattle.std.proofs.Common.{map, ◌≡◌, ℕ, ◌+◌, List, [], ◌∷◌, ◌++◌, Option, Some, None, length, is_some, append-nil, refl, sym, ap, ap₂, ◌∙◌, arith}
use Rattle.vm_types.specs.declared.names.Page.{Page}
use Rattle.vm_types.specs.declared.config.Config.{Config}
use Rattle.vm_types.specs.declared.service.Request.{Request}
use Rattle.vm_journal.specs.declared.entry.Entry.{Entry}
use Rattle.vm_journal.specs.declared.entry.What.{What}
use Rattle.vm_journal.specs.declared.entry.What.TheVariants as what
use Rattle.pager_model.specs.Flights.{Direction, Flight, reading, writing}
use Rattle.pager_policy.specs.Given.{with_reply, by_seat, made_by, reads_made, reuse_first, Target}
use Rattle.pager_model.specs.Maps.{pfn}
use Rattle.pager_policy.specs.Landings.{Outcome, landed_by, landing, reuse_of, went_badly, went_well}
use Rattle.pager_model.specs.Order.{answered, spoken_by}
use Rattle.pager_model.specs.Spoken.{spoken, request_of}
use Rattle.pager_model.specs.Run.{pager_after}
use Rattle.pager_rules.proofs.Basics.{count_cons_no, count_cons_yes}

abbrev pub with_request : Option Request → List Request → List Request
with_request None rest = rest
with_request (Some request) rest = request ∷ rest

-- the requests that these entries answer, in order
abbrev pub said : List What → List Request
said [] = []
said (w ∷ ws) = with_request (request_of w) (said ws)

abbrev pub said_by : ℕ → ℕ → List Request → List Request
said_by p seat [] = []
said_by p seat (request ∷ rest) = spoken_by p seat (Some request) ++ said_by p seat rest

abbrev pub Silent : List What → Type 0
Silent ws = said ws ≡ []

pub silent_join : (xs ys : List What) → Silent xs → Silent ys → Silent (xs ++ ys)
silent_join [] ys first rest = rest
silent_join (w ∷ xs) ys first rest = go (request_of w) refl first (silent_join xs ys)
  where
    go : (o : Option Request) → request_of w ≡ o → with_request o (said xs) ≡ [] → (Silent xs → Silent ys → Silent (xs ++ ys)) → with_request (request_of w) (said (xs ++ ys)) ≡ []
    go None is none more = ap (λ (o : Option Request). with_request o (said (xs ++ ys))) is ∙ more none rest
    go (Some request) is none more = absurd (cc)

-- ---- a seat's entries, added to a past
assoc : {X : Type 0} (xs ys zs : List X) → (xs ++ ys) ++ zs ≡ xs ++ (ys ++ zs)
assoc [] ys zs = refl
assoc {X} (x ∷ xs) ys zs = ap (λ (rest : List X). x ∷ rest) (assoc xs ys zs)

by_nobody : (p seat : ℕ) → spoken_by p seat None ≡ []
by_nobody p seat = refl

pub answered_made : (p seat : ℕ) (ws : List What) (past : List Entry) → answered p (made_by seat ws past) ≡ answered p past ++ said_by p seat (said ws)
answered_made p seat [] past = sym (append-nil (answered p past))
answered_made p seat (w ∷ ws) past = answered_made p seat ws (by_seat seat w ∷ past) ∙ go (request_of w)
  where
    go : (o : Option Request) → (answered p past ++ spoken_by p seat o) ++ said_by p seat (said ws) ≡ answered p past ++ said_by p seat (with_request o (said ws))
    go None = ap (λ (xs : List Request). xs ++ said_by p seat (said ws)) (append-nil (answered p past))
    go (Some request) = assoc (answered p past) (spoken_by p seat (Some request)) (said_by p seat (said ws))

pub spoken_made : (seat : ℕ) (ws : List What) (past : List Entry) → spoken (made_by seat ws past) ≡ spoken past + length (said ws)
spoken_made seat [] past = omega arith
spoken_made seat (w ∷ ws) past = go (request_of w) refl (spoken_made seat ws (by_seat seat w ∷ past))
  where
    go : (o : Option Request) → request_of w ≡ o → spoken (made_by seat ws (by_seat seat w ∷ past)) ≡ spoken (by_seat seat w ∷ past) + length (said ws) → spoken (made_by seat ws (by_seat seat w ∷ past)) ≡ spoken past + length (with_request (request_of w) (said ws))
    go None is rest =
        let same = ap (λ (u : Option Request). length (with_request u (said ws))) is in
        omega (arith, rest, count_cons_no (λ (e : Entry). is_some (request_of e.what)) (by_seat seat w) past (ap is_some is), same)
    go (Some request) is rest =
        let same = ap (λ (u : Option Request). length (with_request u (said ws))) is in
        omega (arith, rest, count_cons_yes (λ (e : Entry). is_some (request_of e.what)) (by_seat seat w) past (ap is_some is), same)

-- ---- what is said where nothing is
pub record IsSilentStep (past more : List Entry) : Type 0 where
  pub answers : (p : ℕ) → answered p more ≡ answered p past
  pub count : spoken more ≡ spoken past

pub silent_made : (seat : ℕ) (ws : List What) (past : List Entry) → Silent ws → IsSilentStep past (made_by seat ws past)
silent_made seat ws past silent = record {
  answers = λ p. answered_made p seat ws past ∙ (ap (λ (xs : List Request). answered p past ++ said_by p seat xs) silent ∙ append-nil (answered p past));
  count = spoken_made seat ws past ∙ (ap (λ (xs : List Request). spoken past + length xs) silent ∙ omega arith);
}

pub silent_then : (past middle more : List Entry) → IsSilentStep past middle → IsSilentStep middle more → IsSilentStep past more
silent_then past middle more first rest = record { answers = λ p. rest.answers p ∙ first.answers p; count = rest.count ∙ first.count }

reuse_silent : (f : ℕ) (o : Option Page) → Silent (reuse_of f o)
reuse_silent f None = refl
reuse_silent f (Some g) = refl

landing_silent : (past : List Entry) (page : ℕ → Option Page) (x : Flight) (d : Direction) (o : Outcome) → Silent (landing past page x d o)
landing_silent past page x (reading r) went_well = refl
landing_silent past page x (reading r) (went_badly n) = reuse_silent x.frame (page x.frame)
landing_silent past page x writing went_well = refl
landing_silent past page x writing (went_badly n) = refl

pub landed_silent : (config : Config) (seat : ℕ) (flights : List Flight) (outcomes : List Outcome) (past : List Entry) → IsSilentStep past (landed_by config seat flights outcomes past)
landed_silent config seat [] outcomes past = record { answers = λ p. refl; count = refl }
landed_silent config seat (x ∷ flights) [] past = record { answers = λ p. refl; count = refl }
landed_silent config seat (x ∷ flights) (o ∷ outcomes) past =
    let ws = landing past (pager_after config past).page x x.direction o in
    silent_then past (made_by seat ws past) (landed_by config seat flights outcomes (made_by seat ws past)) (silent_made seat ws past (landing_silent past (pager_after config past).page x x.direction o))
    (landed_silent config seat flights outcomes (made_by seat ws past))

-- ---- reads say nothing, and neither does a reuse before an entry
pub reused_said : (o : Option Page) (f : ℕ) (ws : List What) → said (reuse_first o f ws) ≡ said ws
reused_said None f ws = refl
reused_said (Some g) f ws = refl

pub reads_silent : (page : ℕ → Option Page) (frames : List ℕ) (targets : List Target) → Silent (reads_made page frames targets)
reads_silent page [] targets = refl
reads_silent page (f ∷ frames) [] = refl
reads_silent page (f ∷ frames) (t ∷ targets) = reused_said (page f) f (what.In (pfn f) t.block t.role ∷ reads_made page frames targets) ∙ reads_silent page frames targets

-- whatever reply is shown, the same is said
pub said_shown : (shown : Reply) (ws : List What) → said (map (with_reply shown) ws) ≡ said ws
said_shown shown [] = refl
said_shown shown (w ∷ ws) = ap₂ (λ (o : Option Request) (xs : List Request). with_request o xs) (same w) (said_shown shown ws)
  where
    same : (w : What) → request_of (with_reply shown w) ≡ request_of w
    same (what.Done r open_reply) = refl
    same other = refl
