-- The moves under a body with one more request.
use Rattle.std.proofs.Common.{◌≡◌, ◌⊎◌, inl, inr, ℕ, ◌<◌, ◌&&◌, Bool, true, false, cond, List, [], ◌∷◌, ◌++◌, Option, Some, None, length, slice_get, refl, sym, ap, ◌∙◌, subst, arith}
use Rattle.std.proofs.lemmas.List.{get_or_append_left, length-append}
use Rattle.std.proofs.lemmas.Option.{slice_get-get_or, slice_get_past, slice_get_within}
use Rattle.std.proofs.Math.Seq.{get_or-append_seam}
use Rattle.vm_types.specs.declared.config.Config.{Config}
use Rattle.vm_types.specs.declared.config.Task.{Task}
use Rattle.vm_journal.specs.declared.entry.Entry.{Entry}
use Rattle.vm_journal.specs.declared.entry.What.{What}
use Rattle.pager_model.specs.Flights.{carrier_of}
use Rattle.pager_model.specs.Pager.{Pager}
use Rattle.pager_model.specs.Run.{pager_after}
use Rattle.pager_model.specs.Spoken.{spoken}
use Rattle.pager_policy.specs.Given.{made_by}
use Rattle.pager_policy.specs.Landings.{all_bad, first_bad, landed_by}
use Rattle.pager_policy.specs.Moves.{After, Control, Doing, Move, asking, carries, cleaning, control, freeing, goes, makes, refuses, rests, saving}
use Rattle.pager_policy.specs.Policy.{Ends, ends_part, finding_move, freeing_move, is_freeing, is_saving, leave_move, leaving_other, move_of, next_task, other_move, saving_by, swapper_of, task_move, victim_move, writing_move}
use Rattle.pager_policy.specs.Rundown.{cleaning_move}
use Rattle.pager_policy.specs.Serial.{GoesOn, Heard, IsMade, IsMove, IsReached, IsRefused}
use Rattle.pager_policy.specs.Swap.{victim_gives}
use Rattle.pager_policy.specs.WriteCluster.{BeginIs, begin_carry, begin_gives, begin_nothing, reason_high}
use Rattle.pager_laws.specs.Bodies.{with_task}
use Rattle.policy_ends.specs.BodyMoves.{move_at}

-- ---- a place of the longer body
place_within : (xs ys : List Task) (d : Task) (n : ℕ) → n < length xs → slice_get (xs ++ ys) n ≡ slice_get xs n
place_within xs ys d n below =
    let longer = length-append xs ys in
    slice_get-get_or (xs ++ ys) n d (omega (arith, below, longer)) ∙ (ap Some (get_or_append_left xs ys d n below) ∙ sym (slice_get-get_or xs n d below))

place_behind : (xs : List Task) (task : Task) → slice_get (xs ++ task ∷ []) (length xs) ≡ Some task
place_behind xs task =
    let longer = length-append xs (task ∷ []) in
    slice_get-get_or (xs ++ task ∷ []) (length xs) task (omega (arith, longer)) ∙ ap Some (get_or-append_seam xs task [] task)

-- what stands at a place stays there
place_stays : (xs ys : List Task) (n : ℕ) (o : Option Task) → slice_get xs n ≡ o → (slice_get (xs ++ ys) n ≡ slice_get xs n) ⊎ (o ≡ None)
place_stays xs ys n None is = inr refl
place_stays xs ys n (Some task) is = inl (place_within xs ys task n (slice_get_within xs n task is))

-- ---- a move with another one where there is nothing else to make: either that one never counts, or it is the move
abbrev Falls : (Move → Move) → Type 0
Falls F = ((m : Move) → F m ≡ F rests) ⊎ ((m : Move) → F m ≡ m)

either_falls : (b : Bool) (F G : Move → Move) → Falls F → Falls G → Falls (λ m. cond b (F m) (G m))
either_falls true F G first second = first
either_falls false F G first second = second

module _ (config : Config) (past : List Entry) (a : Pager) where
  victim_falls : (seat : ℕ) (doing : Doing) (o : Option ℕ) → Falls (victim_move seat doing o)
  victim_falls seat doing None = inr (λ m. refl)
  victim_falls seat doing (Some q) = inl (λ m. refl)

  other_falls : (seat p : ℕ) (ends : Ends) (doing : Doing) (o : Option ℕ) → Falls (λ m. other_move config past a seat p ends doing m o)
  other_falls seat p ends doing (Some q) = inl (λ m. refl)
  other_falls seat p ends doing None = victim_falls seat doing (victim_gives config past a (Some p))

  finding_falls : (seat p : ℕ) (ends : Ends) (doing : Doing) → Falls (finding_move config past a seat p ends doing)
  finding_falls seat p ends doing =
      either_falls _ (λ m. writing_move config a seat ends (control doing)) (λ m. other_move config past a seat p ends doing m (leaving_other config a p))
      (inl (λ m. refl)) (other_falls seat p ends doing (leaving_other config a p))

  -- the swapper's and the writer's part, with another move behind
  abbrev freeing_with : Option ℕ → Bool → ℕ → Move → Move
  freeing_with (Some q) begun p m = leave_move config past a (swapper_of config) q (ends_part (control asking)) (freeing true p)
  freeing_with None begun p m =
      cond (is_freeing config a begun && is_freeing config a true) (finding_move config past a (swapper_of config) p (ends_part (control asking)) (freeing true p) m) m

  freeing_falls : (o : Option ℕ) (begun : Bool) (p : ℕ) → Falls (freeing_with o begun p)
  freeing_falls (Some q) begun p = inl (λ m. refl)
  freeing_falls None begun p =
      either_falls _ (finding_move config past a (swapper_of config) p (ends_part (control asking)) (freeing true p)) (λ m. m)
      (finding_falls (swapper_of config) p (ends_part (control asking)) (freeing true p)) (inr (λ m. refl))

  saving_by_falls : (made : List What) (is : BeginIs) (p : ℕ) (F : Move → Move) → Falls F → Falls (λ m. saving_by config made is p (F m))
  saving_by_falls made begin_carry p F falls = inl (λ m. refl)
  saving_by_falls made begin_nothing p F falls = falls

  abbrev saving_with : Bool → ℕ → Move → Move
  saving_with begun p m =
      cond (is_saving config a begun) (saving_by config (begin_gives config a reason_high).made (begin_gives config a reason_high).answer p (freeing_with None false p m)) (freeing_with None false p m)

  saving_falls : (begun : Bool) (p : ℕ) → Falls (saving_with begun p)
  saving_falls begun p =
      either_falls _ (λ m. saving_by config (begin_gives config a reason_high).made (begin_gives config a reason_high).answer p (freeing_with None false p m)) (freeing_with None false p)
      (saving_by_falls _ (begin_gives config a reason_high).answer p (freeing_with None false p) (freeing_falls None false p)) (freeing_falls None false p)

  -- ---- the whole table, by the request that comes next
  abbrev table : Control → Option Task → Move
  table c o = by c.doing where
    by : Doing → Move
    by asking = task_move config past a c.leaving o
    by (saving begun p) = saving_with begun p (task_move config past a None o)
    by (freeing begun p) = freeing_with c.leaving begun p (task_move config past a None o)
    by (cleaning at) = cleaning_move config past a at

module _ (config : Config) (past : List Entry) where
  abbrev whole : Control → Option Task → Move
  whole = table config past (pager_after config past)

  freeing_table : (begun : Bool) (p : ℕ) (o : Option ℕ) → freeing_move config past (pager_after config past) o begun p ≡ freeing_with config past (pager_after config past) o begun p (task_move config past (pager_after config past) None (next_task config past))
  freeing_table begun p None = refl
  freeing_table begun p (Some q) = refl

  as_table : (c : Control) → move_of config past c ≡ whole c (next_task config past)
  as_table c = by c.doing
    where
      by : (d : Doing) → move_of config past (record c { doing = d }) ≡ whole (record c { doing = d }) (next_task config past)
      by asking = refl
      by (saving begun p) = refl
      by (freeing begun p) = freeing_table begun p c.leaving
      by (cleaning at) = refl

  -- a request in place of none: the move is the same, or it was none and is the request's
  module _ (task : Task) where
    abbrev Splits : Control → Type 0
    Splits c = (whole c (Some task) ≡ whole c None) ⊎ ((whole c None ≡ rests) × (whole c (Some task) ≡ move_at config task past c))

    by_falls : (F : Move → Move) → Falls F → (m : Move) → (F m ≡ F rests) ⊎ ((F rests ≡ rests) × (F m ≡ m))
    by_falls F (inl same) m = inl (same m)
    by_falls F (inr is) m = inr (is rests, is m)

    splits : (c : Control) → Splits c
    splits c = by c.doing
      where
        by : (d : Doing) → Splits (record c { doing = d })
        by asking = inr (refl, refl)
        by (saving begun p) = by_falls (saving_with config past (pager_after config past) begun p) (saving_falls config past (pager_after config past) begun p) (task_move config past (pager_after config past) None (Some task))
        by (freeing begun p) = by_falls (freeing_with config past (pager_after config past) c.leaving begun p) (freeing_falls config past (pager_after config past) c.leaving begun p) (task_move config past (pager_after config past) None (Some task))
        by (cleaning at) = inl refl

  -- ---- under the longer body the table is the same
  module _ (task : Task) where
    abbrev more : Config
    more = with_task config task

    freeing_longer : (begun : Bool) (p : ℕ) (o : Option ℕ) → freeing_move more past (pager_after more past) o begun p ≡ freeing_with config past (pager_after config past) o begun p (task_move config past (pager_after config past) None (next_task more past))
    freeing_longer begun p None = refl
    freeing_longer begun p (Some q) = refl

    longer_table : (c : Control) → move_of more past c ≡ whole c (next_task more past)
    longer_table c = by c.doing
      where
        by : (d : Doing) → move_of more past (record c { doing = d }) ≡ whole (record c { doing = d }) (next_task more past)
        by asking = refl
        by (saving begun p) = refl
        by (freeing begun p) = freeing_longer begun p c.leaving
        by (cleaning at) = refl

    by_next : (c : Control) → next_task more past ≡ next_task config past → move_of more past c ≡ move_of config past c
    by_next c same = longer_table c ∙ (ap (whole c) same ∙ sym (as_table c))

    pub moves_same : (c : Control) → spoken past < length config.body → move_of more past c ≡ move_of config past c
    moves_same c below = by_next c (place_within config.body (task ∷ []) task (spoken past) below)

    by_table : (c : Control) → next_task config past ≡ None → next_task more past ≡ Some task → Splits task c
        → (move_of more past c ≡ move_of config past c) ⊎ ((move_of config past c ≡ rests) × (move_of more past c ≡ move_at config task past c))
    by_table c none some (inl same) = inl (longer_table c ∙ (ap (whole c) some ∙ (same ∙ (ap (whole c) (sym none) ∙ sym (as_table c)))))
    by_table c none some (inr rested) = inr (as_table c ∙ (ap (whole c) none ∙ rested.0), longer_table c ∙ (ap (whole c) some ∙ rested.1))

    pub ends_go_on : (c : Control) → spoken past ≡ length config.body
        → (move_of more past c ≡ move_of config past c) ⊎ ((move_of config past c ≡ rests) × (move_of more past c ≡ move_at config task past c))
    ends_go_on c all =
        by_table c (ap (slice_get config.body) all ∙ slice_get_past config.body (length config.body) (omega arith))
        (ap (slice_get (config.body ++ task ∷ [])) all ∙ place_behind config.body task) (splits task c)

    -- the move is the same, or there was none
    abbrev IsSameOrNone : Control → Type 0
    IsSameOrNone c = (move_of more past c ≡ move_of config past c) ⊎ (move_of config past c ≡ rests)

    by_split : (c : Control) (other : Task) → next_task config past ≡ None → next_task more past ≡ Some other → Splits other c → IsSameOrNone c
    by_split c other none some (inl same) = inl (longer_table c ∙ (ap (whole c) some ∙ (same ∙ (ap (whole c) (sym none) ∙ sym (as_table c)))))
    by_split c other none some (inr rested) = inr (as_table c ∙ (ap (whole c) none ∙ rested.0))

    ended : (c : Control) (o : Option Task) → next_task config past ≡ None → next_task more past ≡ o → IsSameOrNone c
    ended c None none is = inl (by_next c (is ∙ sym none))
    ended c (Some other) none is = by_split c other none is (splits other c)

    same_or_none : (c : Control) → IsSameOrNone c
    same_or_none c = by (place_stays config.body (task ∷ []) (spoken past) (next_task config past) refl)
      where
        by : (next_task more past ≡ next_task config past) ⊎ (next_task config past ≡ None) → IsSameOrNone c
        by (inl same) = inl (by_next c same)
        by (inr none) = ended c (next_task more past) none refl

    pub made_same : (c : Control) → (move_of config past c ≡ rests → ⊥) → move_of more past c ≡ move_of config past c
    made_same c some = by (same_or_none c)
      where
        by : IsSameOrNone c → move_of more past c ≡ move_of config past c
        by (inl same) = same
        by (inr none) = absurd (some none)

    pub next_stays : (other : Task) → next_task config past ≡ Some other → next_task more past ≡ Some other
    next_stays other is = place_within config.body (task ∷ []) task (spoken past) (slice_get_within config.body (spoken past) other is) ∙ is

    pub next_behind : spoken past ≡ length config.body → next_task more past ≡ Some task
    next_behind all = ap (slice_get (config.body ++ task ∷ [])) all ∙ place_behind config.body task

    -- ---- what a move makes it makes under the longer body
    refused_stays : (more_past : List Entry) (next : Control) → IsRefused past more_past next (next_task config past) → IsRefused past more_past next (next_task more past)
    refused_stays more_past next refused = by (next_task config past) refl refused
      where
        by : (o : Option Task) → next_task config past ≡ o → IsRefused past more_past next o → IsRefused past more_past next (next_task more past)
        by None is refused = absurd refused
        by (Some other) is refused = subst (IsRefused past more_past next) (sym (place_within config.body (task ∷ []) task (spoken past) (slice_get_within config.body (spoken past) other is) ∙ is)) refused

    pub goes_on_stays : (more_past : List Entry) (next : Control) (x : After) → GoesOn config past more_past next x → GoesOn more past more_past next x
    goes_on_stays more_past next (goes c) on = on
    goes_on_stays more_past next refuses on = refused_stays more_past next on

module _ (config : Config) (task : Task) where
  abbrev longer : Config
  longer = with_task config task

  made_stays : (past : List Entry) (heard : Heard) (later : List Entry) (next : Control) (m : Move) → IsMade config past heard later next m → IsMade longer past heard later next m
  made_stays past heard later next (makes seat ws c) made = made
  made_stays past heard later next (carries seat ws onward) made =
      let begun = made_by seat ws past in
      record {
        each = made.each;
        on = goes_on_stays config (landed_by config seat (carrier_of seat begun) heard.outcomes begun) task later next (onward (all_bad heard.outcomes) (first_bad heard.outcomes)) made.on;
      }
  made_stays past heard later next rests made = absurd made

  move_stays : (past : List Entry) (c : Control) (heard : Heard) (later : List Entry) (next : Control) → IsMove config past c heard later next → IsMove longer past c heard later next
  move_stays past c heard later next move = by (same_or_none config past task c)
    where
      by : (move_of longer past c ≡ move_of config past c) ⊎ (move_of config past c ≡ rests) → IsMove longer past c heard later next
      by (inl same) = subst (IsMade longer past heard later next) (sym same) (made_stays past heard later next (move_of config past c) move)
      by (inr none) = let nothing : ⊥ = subst (IsMade config past heard later next) none move in absurd nothing

  pub moves_stay : (start : List Entry) (from : Control) (told : List Heard) (past : List Entry) (c : Control) → IsReached config start from told past c → IsReached longer start from told past c
  moves_stay start from [] past c reached = reached
  moves_stay start from (heard ∷ told) past c reached =
      let early = reached.earlier_past in
      let at = reached.earlier_control in
      record { earlier_past = early; earlier_control = at; before = moves_stay start from told early at reached.before; move = move_stays early at heard past c reached.move }
