-- Two finished serial journals of one configuration that were told the same outcomes and have right values are equal.
use Rattle.std.proofs.Common.{length-append, false, ◌≡◌, ◌⊎◌, ℕ, ◌+◌, ◌≤◌, ◌<◌, List, [], ◌∷◌, ◌++◌, Option, Some, None, length, map, refl, sym, ap, ap₂, ◌∙◌, subst, inl, inr, arith}
use Rattle.std.proofs.lemmas.Bool.{cases_eq, cases_lt}
use Rattle.vm_types.specs.declared.config.Config.{Config}
use Rattle.vm_types.specs.declared.config.Task.{Task}
use Rattle.vm_types.specs.declared.reply.Reply.{Reply}
use Rattle.vm_journal.specs.declared.entry.Entry.{Entry}
use Rattle.vm_journal.specs.declared.entry.What.{What}
use Rattle.vm_journal.specs.declared.entry.What.TheVariants as what
use Rattle.pager_model.specs.Flat.{flat_reply}
use Rattle.pager_model.specs.Flights.{Flight, carrier_of}
use Rattle.pager_policy.specs.Given.{by_seat, made_by, with_reply}
use Rattle.pager_policy.specs.Landings.{Outcome, all_bad, first_bad, landed_by, landing}
use Rattle.pager_policy.specs.Moves.{After, Control, Move, asking, carries, control, goes, makes, refuses, rests}
use Rattle.pager_policy.specs.Policy.{move_of, next_task}
use Rattle.pager_model.specs.Run.{pager_after}
use Rattle.pager_policy.specs.Rundown.{at_slot}
use Rattle.pager_policy.specs.Serial.{GoesOn, Heard, IsMade, IsReached, IsRefused, IsRundown, IsSerialTo, Rests}
use Rattle.pager_model.specs.Spoken.{IsRight, flat_after}
use Rattle.call_laws.specs.SerialOrder.{all_told}

-- ---- right values of a longer journal are right in a shorter one
right_made : (config : Config) (seat : ℕ) (ws : List What) (past : List Entry) → IsRight config (made_by seat ws past) → IsRight config past
right_made config seat [] past right = right
right_made config seat (w ∷ ws) past right = (right_made config seat ws (by_seat seat w ∷ past) right).0

right_landed : (config : Config) (seat : ℕ) (flights : List Flight) (outcomes : List Outcome) (past : List Entry) → IsRight config (landed_by config seat flights outcomes past) → IsRight config past
right_landed config seat [] outcomes past right = right
right_landed config seat (x ∷ flights) [] past right = right
right_landed config seat (x ∷ flights) (o ∷ outcomes) past right =
    let ws = landing past (pager_after config past).page x x.direction o in
    right_made config seat ws past (right_landed config seat flights outcomes (made_by seat ws past) right)

right_refused : (config : Config) (past more : List Entry) (next : Control) (o : Option Task) → IsRefused past more next o → IsRight config more → IsRight config past
right_refused config past more next None refused right = absurd refused
right_refused config past more next (Some task) refused right = (subst (IsRight config) refused.0 right).0

right_on : (config : Config) (past more : List Entry) (next : Control) (x : After) → GoesOn config past more next x → IsRight config more → IsRight config past
right_on config past more next (goes c) on right = subst (IsRight config) on.0 right
right_on config past more next refuses on right = right_refused config past more next (next_task config past) on right

right_move : (config : Config) (past : List Entry) (heard : Heard) (more : List Entry) (next : Control) (m : Move) → IsMade config past heard more next m → IsRight config more → IsRight config past
right_move config past heard more next (makes seat ws c) made right = right_made config seat (map (with_reply heard.reply) ws) past (subst (IsRight config) made.0 right)
right_move config past heard more next (carries seat ws onward) made right =
    let begun = made_by seat ws past in
    let landed = landed_by config seat (carrier_of seat begun) heard.outcomes begun in
    right_made config seat ws past (right_landed config seat (carrier_of seat begun) heard.outcomes begun (right_on config landed more next (onward (all_bad heard.outcomes) (first_bad heard.outcomes)) made.on right))
right_move config past heard more next rests made right = absurd made

-- ---- the replies that are shown are the flat machine's, so there is one way
shown_once : (config : Config) (seat : ℕ) (first second : Reply) (ws : List What) (past : List Entry) → IsRight config (made_by seat (map (with_reply first) ws) past) → IsRight config (made_by seat (map (with_reply second) ws) past)
    → made_by seat (map (with_reply first) ws) past ≡ made_by seat (map (with_reply second) ws) past
shown_once config seat first second [] past right also = refl
shown_once config seat first second (w ∷ ws) past right also = go w right also (λ middle. shown_once config seat first second ws middle)
  where
    go : (w : What) → IsRight config (made_by seat (map (with_reply first) ws) (by_seat seat (with_reply first w) ∷ past)) → IsRight config (made_by seat (map (with_reply second) ws) (by_seat seat (with_reply second w) ∷ past))
        → ((middle : List Entry) → IsRight config (made_by seat (map (with_reply first) ws) middle) → IsRight config (made_by seat (map (with_reply second) ws) middle) → made_by seat (map (with_reply first) ws) middle ≡ made_by seat (map (with_reply second) ws) middle)
        → made_by seat (map (with_reply first) ws) (by_seat seat (with_reply first w) ∷ past) ≡ made_by seat (map (with_reply second) ws) (by_seat seat (with_reply second w) ∷ past)
    go (what.Done r open_reply) one two rest =
        let is_first : first ≡ flat_reply config (flat_after config past) seat r = (right_made config seat (map (with_reply first) ws) (by_seat seat (what.Done r first) ∷ past) one).1 in
        let is_second : second ≡ flat_reply config (flat_after config past) seat r = (right_made config seat (map (with_reply second) ws) (by_seat seat (what.Done r second) ∷ past) two).1 in
        let same : first ≡ second = is_first ∙ sym is_second in
        ap (λ (x : Reply). made_by seat (map (with_reply x) ws) (by_seat seat (what.Done r x) ∷ past)) same
    go other one two rest = rest (by_seat seat other ∷ past) one two

-- ---- lists with the same beginning
append_assoc : {X : Type 0} (xs ys zs : List X) → (xs ++ ys) ++ zs ≡ xs ++ (ys ++ zs)
append_assoc [] ys zs = refl
append_assoc {X} (x ∷ xs) ys zs = ap (λ (rest : List X). x ∷ rest) (append_assoc xs ys zs)

same_rest : {X : Type 0} (xs ys zs : List X) → xs ++ ys ≡ xs ++ zs → ys ≡ zs
same_rest [] ys zs e = e
same_rest {X} (x ∷ xs) ys zs e = let rest : xs ++ ys ≡ xs ++ zs = cc in same_rest xs ys zs rest

same_front : {X : Type 0} (xs ys : List X) (us vs : List X) → length xs ≡ length ys → xs ++ us ≡ ys ++ vs → xs ≡ ys
same_front [] [] us vs n e = refl
same_front [] (y ∷ ys) us vs n e = absurd (omega (arith, n))
same_front (x ∷ xs) [] us vs n e = absurd (omega (arith, n))
same_front {X} (x ∷ xs) (y ∷ ys) us vs n e =
    let head : x ≡ y = cc in
    let rest : xs ++ us ≡ ys ++ vs = cc in
    ap₂ (λ (z : X) (zs : List X). z ∷ zs) head (same_front xs ys us vs (omega (arith, n)) rest)

-- ---- one move
pub record IsSame (past other : List Entry) (c d : Control) : Type 0 where
  pub past_is : past ≡ other
  pub control_is : c ≡ d

refused_same : (past more other : List Entry) (c d : Control) (o : Option Task) → IsRefused past more c o → IsRefused past other d o → IsSame more other c d
refused_same past more other c d None one two = absurd one
refused_same past more other c d (Some task) one two = record { past_is = one.0 ∙ sym two.0; control_is = one.1 ∙ sym two.1 }

on_same : (config : Config) (past more other : List Entry) (c d : Control) (x : After) → GoesOn config past more c x → GoesOn config past other d x → IsSame more other c d
on_same config past more other c d (goes e) one two = record { past_is = one.0 ∙ sym two.0; control_is = one.1 ∙ sym two.1 }
on_same config past more other c d refuses one two = refused_same past more other c d (next_task config past) one two

-- two moves of one kind have as many outcomes
as_many : (config : Config) (past : List Entry) (h k : Heard) (more other : List Entry) (c d : Control) (m : Move) → IsMade config past h more c m → IsMade config past k other d m → length h.outcomes ≡ length k.outcomes
as_many config past h k more other c d (makes seat ws e) one two = ap length one.2 ∙ sym (ap length two.2)
as_many config past h k more other c d (carries seat ws onward) one two = one.each ∙ sym two.each
as_many config past h k more other c d rests one two = absurd one

move_same : (config : Config) (past : List Entry) (h k : Heard) (more other : List Entry) (c d : Control) (m : Move) → IsMade config past h more c m → IsMade config past k other d m → h.outcomes ≡ k.outcomes
    → IsRight config more → IsRight config other → IsSame more other c d
move_same config past h k more other c d (makes seat ws e) one two told right also = record {
  past_is = one.0 ∙ (shown_once config seat h.reply k.reply ws past (subst (IsRight config) one.0 right) (subst (IsRight config) two.0 also) ∙ sym two.0);
  control_is = one.1 ∙ sym two.1;
}
move_same config past h k more other c d (carries seat ws onward) one two told right also =
    let begun = made_by seat ws past in
    on_same config (landed_by config seat (carrier_of seat begun) k.outcomes begun) more other c d (onward (all_bad k.outcomes) (first_bad k.outcomes))
    (subst (λ (os : List Outcome). GoesOn config (landed_by config seat (carrier_of seat begun) os begun) more c (onward (all_bad os) (first_bad os))) told one.on) two.on
move_same config past h k more other c d rests one two told right also = absurd one

-- ---- as many moves
pub record AreSame (told heard : List Heard) (past other : List Entry) (c d : Control) : Type 0 where
  pub same : IsSame past other c d
  pub told_is : all_told told ≡ all_told heard

same_moves : (config : Config) (start : List Entry) (from : Control) (told heard : List Heard) (past other : List Entry) (c d : Control) (later after : List Outcome) → length told ≡ length heard
    → IsReached config start from told past c → IsReached config start from heard other d → IsRight config past → IsRight config other → all_told told ++ later ≡ all_told heard ++ after → AreSame told heard past other c d
same_moves config start from [] [] past other c d later after n one two right also e = record { same = record { past_is = one.0 ∙ sym two.0; control_is = one.1 ∙ sym two.1 }; told_is = refl }
same_moves config start from [] (k ∷ heard) past other c d later after n one two right also e = absurd (omega (arith, n))
same_moves config start from (h ∷ told) [] past other c d later after n one two right also e = absurd (omega (arith, n))
same_moves config start from (h ∷ told) (k ∷ heard) past other c d later after n one two right also e =
    let right_before = right_move config one.earlier_past h past c (move_of config one.earlier_past one.earlier_control) one.move right in
    let also_before = right_move config two.earlier_past k other d (move_of config two.earlier_past two.earlier_control) two.move also in
    let joined = sym (append_assoc (all_told told) h.outcomes later) ∙ (e ∙ append_assoc (all_told heard) k.outcomes after) in
    let before = same_moves config start from told heard one.earlier_past two.earlier_past one.earlier_control two.earlier_control (h.outcomes ++ later) (k.outcomes ++ after) (omega (arith, n)) one.before two.before right_before also_before joined in
    let p_is = before.same.past_is in
    let c_is = before.same.control_is in
    let move : IsMade config two.earlier_past h past c (move_of config two.earlier_past two.earlier_control) =
    subst (λ (x : Control). IsMade config two.earlier_past h past c (move_of config two.earlier_past x)) c_is (subst (λ (xs : List Entry). IsMade config xs h past c (move_of config xs one.earlier_control)) p_is one.move) in
    let rest : h.outcomes ++ later ≡ k.outcomes ++ after = same_rest (all_told heard) (h.outcomes ++ later) (k.outcomes ++ after) (subst (λ (os : List Outcome). os ++ (h.outcomes ++ later) ≡ all_told heard ++ (k.outcomes ++ after)) before.told_is joined) in
    let outcomes : h.outcomes ≡ k.outcomes = same_front h.outcomes k.outcomes later after (as_many config two.earlier_past h k past other c d (move_of config two.earlier_past two.earlier_control) move two.move) rest in
    record {
      same = move_same config two.earlier_past h k past other c d (move_of config two.earlier_past two.earlier_control) move two.move outcomes right also;
      told_is = ap₂ (λ (xs ys : List Outcome). xs ++ ys) before.told_is outcomes;
    }

-- ---- two numbers
below : (m n : ℕ) → (m ≡ n → ⊥) → m ≤ n → m < n
below m n apart most = by (cases_lt m n)
  where
    by : (m < n) ⊎ (n ≤ m) → m < n
    by (inl less) = less
    by (inr more) = absurd (apart (omega (arith, most, more)))

le_or_le : (m n : ℕ) → (m ≤ n) ⊎ (n ≤ m)
le_or_le m n = by (cases_lt m n)
  where
    by : (m < n) ⊎ (n ≤ m) → (m ≤ n) ⊎ (n ≤ m)
    by (inl less) = inl (omega (arith, less))
    by (inr more) = inr more

-- ---- a finished one is no shorter
no_move : (config : Config) (past : List Entry) (heard : Heard) (more : List Entry) (next : Control) (m : Move) → m ≡ rests → IsMade config past heard more next m → ⊥
no_move config past heard more next m is made = subst (λ (x : Move). IsMade config past heard more next x) is made

-- no move follows it
none_after : (config : Config) (start : List Entry) (from : Control) (told heard : List Heard) (past other : List Entry) (c d : Control) (later after : List Outcome) → length told < length heard → Rests config past c
    → IsReached config start from told past c → IsReached config start from heard other d → IsRight config past → IsRight config other → all_told told ++ later ≡ all_told heard ++ after → ⊥
none_after config start from told [] past other c d later after less ends one two right also e = omega (arith, less)
none_after config start from told (k ∷ heard) past other c d later after less ends one two right also e =
    by (cases_eq (length told) (length heard)) (λ fewer. none_after config start from told heard past two.earlier_past c two.earlier_control later (k.outcomes ++ after) fewer ends one two.before right also_before joined)
  where
    also_before : IsRight config two.earlier_past
    also_before = right_move config two.earlier_past k other d (move_of config two.earlier_past two.earlier_control) two.move also

    joined : all_told told ++ later ≡ all_told heard ++ (k.outcomes ++ after)
    joined = e ∙ append_assoc (all_told heard) k.outcomes after

    by : (length told ≡ length heard) ⊎ (length told ≡ length heard → ⊥) → (length told < length heard → ⊥) → ⊥
    by (inl same) rest =
        let equal = (same_moves config start from told heard past two.earlier_past c two.earlier_control later (k.outcomes ++ after) same one two.before right also_before joined).same in
        no_move config two.earlier_past k other d (move_of config two.earlier_past two.earlier_control)
        (subst (λ (x : Control). move_of config two.earlier_past x ≡ rests) equal.control_is (subst (λ (xs : List Entry). move_of config xs c ≡ rests) equal.past_is ends)) two.move
    by (inr apart) rest = rest (below (length told) (length heard) apart (omega (arith, less)))

no_longer : (config : Config) (start : List Entry) (from : Control) (told heard : List Heard) (past other : List Entry) (c d : Control) → length told ≤ length heard → Rests config past c
    → IsReached config start from told past c → IsReached config start from heard other d → IsRight config past → IsRight config other → all_told told ≡ all_told heard → past ≡ other
no_longer config start from told heard past other c d most ends one two right also e = by (cases_eq (length told) (length heard))
  where
    joined : all_told told ++ [] ≡ all_told heard ++ []
    joined = ap (λ (os : List Outcome). os ++ []) e

    by : (length told ≡ length heard) ⊎ (length told ≡ length heard → ⊥) → past ≡ other
    by (inl same) = (same_moves config start from told heard past other c d [] [] same one two right also joined).same.past_is
    by (inr apart) = absurd (none_after config start from told heard past other c d [] [] (below (length told) (length heard) apart most) ends one two right also joined)

pub serial_is_one : (config : Config) (past other : List Entry) (c d : Control) (s : IsSerialTo config past c) (t : IsSerialTo config other d)
    → Rests config past c → Rests config other d → IsRight config past → IsRight config other → all_told s.told ≡ all_told t.told → past ≡ other
serial_is_one config past other c d s t ends ended right also e = by (le_or_le (length s.told) (length t.told))
  where
    by : (length s.told ≤ length t.told) ⊎ (length t.told ≤ length s.told) → past ≡ other
    by (inl fewer) = no_longer config [] (control asking) s.told t.told past other c d fewer ends s.reached t.reached right also e
    by (inr more) = sym (no_longer config [] (control asking) t.told s.told other past d c more ended t.reached s.reached also right (sym e))

-- the same from a later past on
cancelled : (past rest other : List Entry) → rest ++ past ≡ other ++ past → rest ≡ other
cancelled past rest other e =
    let lengths : length rest + length past ≡ length other + length past = sym (length-append rest past) ∙ (ap length e ∙ length-append other past) in
    same_front rest other past past (omega (arith, lengths)) e

pub rundown_is_one : (config : Config) (past rest other : List Entry) (s : IsRundown config past rest) (t : IsRundown config past other)
    → IsRight config (rest ++ past) → IsRight config (other ++ past) → all_told s.told ≡ all_told t.told → rest ≡ other
rundown_is_one config past rest other s t right also e = cancelled past rest other (by (le_or_le (length s.told) (length t.told)))
  where
    by : (length s.told ≤ length t.told) ⊎ (length t.told ≤ length s.told) → rest ++ past ≡ other ++ past
    by (inl fewer) = no_longer config past (at_slot 0 0 false) s.told t.told (rest ++ past) (other ++ past) s.control t.control fewer s.rests s.reached t.reached right also e
    by (inr more) = sym (no_longer config past (at_slot 0 0 false) t.told s.told (other ++ past) (rest ++ past) t.control s.control more t.rests t.reached s.reached also right (sym e))
