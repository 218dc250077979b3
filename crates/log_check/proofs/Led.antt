-- What a line leads to, by the place behind the lines before it.
use Rattle.std.proofs.Common.{◌≡◌, ◌≢◌, inl, inr, ℕ, ◌+◌, ◌<◌, ◌^◌, List, [], ◌∷◌, ◌++◌, All, Option, Some, None, length, refl, sym, ap, ◌∙◌, subst, arith}
use Rattle.std.specs.Option.{IsSome}
use Rattle.std.proofs.lemmas.Bool.{false≢true}
use Rattle.vm_types.specs.declared.config.Config.{Config}
use Rattle.vm_journal.specs.declared.entry.Entry.{Entry}
use Rattle.vm_journal.specs.HasLine.{IsEntryNumber}
use Rattle.pager_model.specs.Run.{IsRun, pager_after}
use Rattle.pager_policy.specs.Serial.{IsRundown}
use Rattle.pager_model.specs.Spoken.{flat_after}
use Rattle.pager_model.specs.Step.{IsLegal}
use Rattle.shadow_history.specs.Standing.{Passed}
use Rattle.log_model.specs.NextLine.{IsLineOf, IsNext, IsNextEntry, IsNextRundown}
use Rattle.log_model.specs.Stand.{Stand, ending_after, in_ending, in_entries, in_report, in_rundown, reported}
use Rattle.log_laws.proofs.Stepwise.{ending, next_step}
use Rattle.log_laws.specs.Underway.{IsAtRest, Underway, step, step_from}
use Rattle.serial_laws.specs.Between.{IsBetween}
use Rattle.log_check.specs.declared.followed.Followed.{Followed}
use Rattle.log_check.specs.declared.place.Place.{Place}
use Rattle.log_check.specs.declared.place.Place.TheVariants.{Ending, Entries, Report, Rundown}
use Rattle.log_reasons.specs.declared.line_reason.LineReason.{LineReason}
use Rattle.log_check.specs.EntryLine.{IsItsLine, IsNoEntry}
use Rattle.log_check.specs.Followed.{HasEntered, IsFollowed, MayEnter}
use Rattle.log_check.specs.Leading.{EndingLeads, EndingTextLeads, HasStepped, IsReported, IsUnderway, Leads, ReportLeads, RundownLeads, StandsAt, TextLeads}
use Rattle.log_check.proofs.FirstLines.{first_of, no_ending, no_report, one_entry}
use Rattle.log_check.proofs.Silent.{silent_order, silent_shows, step_silent}

-- what follows the report, or its rest
reported_at : (s : Passed) (left : List ℕ) (place : Place) → IsBetween s.config s.past → IsReported left place → StandsAt s place (reported s.past left)
reported_at s [] place between is =
    subst (λ (p : Place). StandsAt s p (in_rundown s.past [])) (sym is) (s.past, [], record { all = refl; between = between; underway = refl }, refl)
reported_at s (b ∷ left) place between is = subst (λ (p : Place). StandsAt s p (in_report s.past (b ∷ left))) (sym is) (between, refl)

module _ (old : Followed) (followed : IsFollowed old) (line : List ℕ) (plain : All (λ b. b ≢ 10) line) (few : length old.past.past + 1 < 2 ^ 32) where
  abbrev config : Config
  config = old.past.config

  abbrev past : List Entry
  past = old.past.past

  small : IsEntryNumber (length past + 1)
  small = omega (arith, few)

  -- a line's entry, as the code reads it
  pub its_here : (found : Config) (count : ℕ) (e : Entry) → found ≡ config → count ≡ length past → IsItsLine found (count + 1) line e → IsItsLine config (length past + 1) line e
  its_here found count e found_is count_is its =
      subst (λ (k : Config). IsItsLine k (length past + 1) line e) found_is (subst (λ (n : ℕ). IsItsLine found (n + 1) line e) count_is its)

  pub none_here : (found : Config) (count : ℕ) → found ≡ config → count ≡ length past → ((e : Entry) → IsItsLine found (count + 1) line e → ⊥) → (e : Entry) → IsItsLine config (length past + 1) line e → ⊥
  none_here found count found_is count_is none e its =
      none e (subst (λ (k : Config). IsItsLine k (count + 1) line e) (sym found_is) (subst (λ (n : ℕ). IsItsLine config (n + 1) line e) (sym count_is) its))

  -- why it is none of the next number
  pub not_entry_here : (found : Config) (count : ℕ) (reason : LineReason) → found ≡ config → count ≡ length past → IsNoEntry found (count + 1) line reason → IsNoEntry config (length past + 1) line reason
  not_entry_here found count reason found_is count_is none =
      subst (λ (k : Config). IsNoEntry k (length past + 1) line reason) found_is (subst (λ (n : ℕ). IsNoEntry found (n + 1) line reason) count_is none)

  -- ---- behind entries
  pub entered_leads : (e : Entry) (new : Followed) → IsItsLine config (length past + 1) line e → HasEntered old e new → Leads old Entries line new (Some Entries)
  entered_leads e new its entered = record {
    followed = entered.followed;
    config = ap (λ (s : Passed). s.config) entered.past;
    grown = (let long = ap (λ (s : Passed). length s.past) entered.past in omega (arith, long));
    stands = λ stand at. (
      in_entries (e ∷ past),
      subst (λ (s : Stand). IsNext config s line (in_entries (e ∷ past))) (sym at)
          (inl (e, record { text = its.text; legal = entered.may.legal; in_order = entered.may.in_order; right = entered.may.right }, refl)),
      ap (λ (s : Passed). in_entries s.past) (sym entered.past),
    );
  }

  may_enter : (e f : Entry) → IsItsLine config (length past + 1) line e → IsNextEntry config past f line → MayEnter old e
  may_enter e f its next =
      let same : f ≡ e = one_entry config (length past + 1) line f e followed.follows.tables.formed small (record { has = next.legal.line; text = next.text }) its in
      subst (λ (x : Entry). MayEnter old x) same (record { legal = next.legal; in_order = next.in_order; right = next.right })

  pub refused_leads : (e : Entry) (new : Followed) → IsItsLine config (length past + 1) line e → (MayEnter old e → ⊥) → Leads old Entries line new None
  refused_leads e new its refused stand after at next = by (subst (λ (s : Stand). IsNext config s line after) at next)
    where
      by : IsNext config (in_entries past) line after → ⊥
      by (inl one) = refused (may_enter e one.0 its one.1)
      by (inr two) = no_report config past (length past + 1) e line small its (two.0, two.1.text.whole)

  unreported_leads : ((e : Entry) → IsItsLine config (length past + 1) line e → ⊥) → ReportLeads old.past line None → Leads old Entries line old None
  unreported_leads none not stand after at next = by (subst (λ (s : Stand). IsNext config s line after) at next)
    where
      by : IsNext config (in_entries past) line after → ⊥
      by (inl one) = none one.0 (record { has = one.1.legal.line; text = one.1.text })
      by (inr two) = not (record { answered = two.1.answered; landed = two.1.landed; reused = two.1.reused }) (two.0, two.1.text.whole)

  pub report_leads : (o : Option Place) → ((e : Entry) → IsItsLine config (length past + 1) line e → ⊥) → ReportLeads old.past line o → Leads old Entries line old o
  report_leads (Some place) none begins =
      let between : IsBetween config past = record { formed = followed.follows.tables.formed; run = followed.follows.run; landed = begins.may.landed; reused = begins.may.reused } in
      record {
        followed = followed;
        config = refl;
        grown = omega arith;
        stands = λ stand at. (
          reported past begins.left,
          subst (λ (s : Stand). IsNext config s line (reported past begins.left)) (sym at)
              (inr (begins.left, record { answered = begins.may.answered; landed = begins.may.landed; reused = begins.may.reused; text = first_of _ line begins.left plain begins.off }, refl)),
          reported_at old.past begins.left place between begins.stands,
        );
      }
  report_leads None none not = unreported_leads none not

  -- ---- in the report
  untold_leads : (left : List ℕ) → TextLeads left line None → Leads old (Report left) line old None
  untold_leads left not stand after at next =
      let more = subst (λ (s : Stand). IsNext config s line after) at.1 next in
      not (more.0, more.1.whole)

  pub text_leads : (left : List ℕ) (o : Option Place) → TextLeads left line o → Leads old (Report left) line old o
  text_leads left (Some place) goes = record {
    followed = followed;
    config = refl;
    grown = omega arith;
    stands = λ stand at. (
      reported past goes.left,
      subst (λ (s : Stand). IsNext config s line (reported past goes.left)) (sym at.1) (goes.left, first_of left line goes.left plain goes.off, refl),
      reported_at old.past goes.left place at.0 goes.stands,
    );
  }
  text_leads left None not = untold_leads left not

  -- ---- in the rundown
  stepped_at : (u : Underway) (e : Entry) (new : Followed) (next : Underway) (before rest : List Entry) → IsUnderway old.past u before rest → step config past u e ≡ Some next
      → new.past ≡ record { config = config; past = e ∷ past } → StandsAt new.past (Rundown next) (in_rundown before (e ∷ rest))
  stepped_at u e new next before rest under steps is =
      subst (λ (s : Passed). StandsAt s (Rundown next) (in_rundown before (e ∷ rest))) (sym is) (
        before,
        (e ∷ rest),
        record {
          all = ap (λ (xs : List Entry). e ∷ xs) under.all;
          between = under.between;
          underway = ap (λ (o : Option Underway). step_from config (rest ++ before) o e) under.underway ∙ (ap (λ (xs : List Entry). step config xs u e) (sym under.all) ∙ steps);
        },
        refl,
      )

  run_there : (u : Underway) (before rest : List Entry) → IsUnderway old.past u before rest → IsRun config (rest ++ before)
  run_there u before rest under = subst (IsRun config) under.all followed.follows.run

  some_step : (o : Option Underway) (next : Underway) → o ≡ Some next → IsSome o
  some_step o next is = subst IsSome (sym is) refl

  pub stepped_leads : (u : Underway) (e : Entry) (new : Followed) (place : Place) → IsItsLine config (length past + 1) line e → HasStepped old u e new place → Leads old (Rundown u) line new (Some place)
  stepped_leads u e new place its has = record {
    followed = has.entered.followed;
    config = ap (λ (s : Passed). s.config) has.entered.past;
    grown = (let long = ap (λ (s : Passed). length s.past) has.entered.past in omega (arith, long));
    stands = λ stand at.
        let before : List Entry = at.0 in
        let rest : List Entry = at.1 in
        let under = at.2 in
        let moves = (next_step config before rest e u under.between (run_there u before rest under) under.underway).1
        (some_step _ has.next (ap (λ (xs : List Entry). step config xs u e) (sym under.all) ∙ has.steps)) in (
          in_rundown before (e ∷ rest),
          subst (λ (s : Stand). IsNext config s line (in_rundown before (e ∷ rest))) (sym at.3)
              (inl (
                e,
                record {
                  text = subst (λ (xs : List Entry). IsLineOf config (length xs + 1) e line) under.all its.text;
                  legal = subst (λ (xs : List Entry). IsLegal config xs (pager_after config xs) e) under.all has.entered.may.legal;
                  move = moves;
                },
                refl,
              )),
          subst (λ (p : Place). StandsAt new.past p (in_rundown before (e ∷ rest))) (sym has.stands) (stepped_at u e new has.next before rest under has.steps has.entered.past),
        );
  }

  -- an entry that is a step may enter if it is legal
  step_enters : (u : Underway) (before rest : List Entry) (e : Entry) → IsUnderway old.past u before rest → IsNextRundown config before rest e line → (next : Underway) × (step config past u e ≡ Some next) × MayEnter old e
  step_enters u before rest e under is =
      let moves = some_of (step config (rest ++ before) u e) ((next_step config before rest e u under.between (run_there u before rest under) under.underway).0 is.move) in
      let steps : step config past u e ≡ Some moves.0 = ap (λ (xs : List Entry). step config xs u e) under.all ∙ moves.1 in
      let silent = step_silent config past e u moves.0 steps in (
        moves.0,
        steps,
        record {
          legal = subst (λ (xs : List Entry). IsLegal config xs (pager_after config xs) e) (sym under.all) is.legal;
          in_order = silent_order config past e followed.follows.in_order silent;
          right = silent_shows config (flat_after config past) (e.seat).0 e.what silent;
        },
      )
    where
      some_of : (o : Option Underway) → IsSome o → (u : Underway) × (o ≡ Some u)
      some_of None some = absurd (false≢true some)
      some_of (Some v) some = (v, refl)

  its_line : (before rest : List Entry) (e : Entry) → past ≡ rest ++ before → IsNextRundown config before rest e line → IsItsLine config (length past + 1) line e
  its_line before rest e all is = record { has = is.legal.line; text = subst (λ (xs : List Entry). IsLineOf config (length xs + 1) e line) (sym all) is.text }

  pub unstepped_leads : (u : Underway) (e : Entry) (new : Followed) → IsItsLine config (length past + 1) line e → RundownLeads old u e new None → Leads old (Rundown u) line new None
  unstepped_leads u e new its not stand after at next = by (subst (λ (s : Stand). IsNext config s line after) at.3 next)
    where
      under : IsUnderway old.past u at.0 at.1
      under = at.2

      by : IsNext config (in_rundown at.0 at.1) line after → ⊥
      by (inl one) =
          let same : one.0 ≡ e = one_entry config (length past + 1) line one.0 e followed.follows.tables.formed small (its_line at.0 at.1 one.0 under.all one.1) its in
          let enters = step_enters u at.0 at.1 e under (subst (λ (x : Entry). IsNextRundown config at.0 at.1 x line) same one.1) in
          not enters.0 enters.1 enters.2
      by (inr two) = no_ending config (at.1 ++ at.0) (length past + 1) e line small its (two.0, two.1.text.whole)

  pub rundown_leads : (u : Underway) (e : Entry) (new : Followed) (o : Option Place) → IsItsLine config (length past + 1) line e → RundownLeads old u e new o → Leads old (Rundown u) line new o
  rundown_leads u e new (Some place) its has = stepped_leads u e new place its has
  rundown_leads u e new None its not = unstepped_leads u e new its not

  unended_leads : (u : Underway) → ((e : Entry) → IsItsLine config (length past + 1) line e → ⊥) → EndingLeads old.past u line None → Leads old (Rundown u) line old None
  unended_leads u none not stand after at next = by (subst (λ (s : Stand). IsNext config s line after) at.3 next)
    where
      under : IsUnderway old.past u at.0 at.1
      under = at.2

      by : IsNext config (in_rundown at.0 at.1) line after → ⊥
      by (inl one) = none one.0 (its_line at.0 at.1 one.0 under.all one.1)
      by (inr two) =
          let down : IsRundown config at.0 at.1 = record { control = two.1.control; told = two.1.told; reached = two.1.reached; rests = two.1.rests } in
          let rests = (ending config at.0 at.1 u under.between (run_there u at.0 at.1 under) under.underway).0 down in
          not (subst (λ (xs : List Entry). IsAtRest config xs u) (sym under.all) rests) (two.0, ap (ending_after config) under.all ∙ two.1.text.whole)

  pub ending_leads : (u : Underway) (o : Option Place) → ((e : Entry) → IsItsLine config (length past + 1) line e → ⊥) → EndingLeads old.past u line o → Leads old (Rundown u) line old o
  ending_leads u (Some place) none begins = record {
    followed = followed;
    config = refl;
    grown = omega arith;
    stands = λ stand at.
        let before : List Entry = at.0 in
        let rest : List Entry = at.1 in
        let under = at.2 in
        let down : IsRundown config before rest = (ending config before rest u under.between (run_there u before rest under) under.underway).1 (subst (λ (xs : List Entry). IsAtRest config xs u) under.all begins.rests) in (
          in_ending (length (rest ++ before)) begins.left,
          subst (λ (s : Stand). IsNext config s line (in_ending (length (rest ++ before)) begins.left)) (sym at.3)
              (inr (
                begins.left,
                record {
                  told = down.told;
                  control = down.control;
                  reached = down.reached;
                  rests = down.rests;
                  text = first_of _ line begins.left plain (ap (ending_after config) (sym under.all) ∙ begins.off);
                },
                refl,
              )),
          subst (λ (p : Place). StandsAt old.past p (in_ending (length (rest ++ before)) begins.left)) (sym begins.stands) (ap (λ (xs : List Entry). in_ending (length xs) begins.left) (sym under.all)),
        );
  }
  ending_leads u None none not = unended_leads u none not

  -- ---- in the ending
  unfinished_leads : (n : ℕ) (left : List ℕ) → EndingTextLeads n left line None → Leads old (Ending n left) line old None
  unfinished_leads n left not stand after at next =
      let more = subst (λ (s : Stand). IsNext config s line after) at next in
      not (more.0, more.1.whole)

  pub last_leads : (n : ℕ) (left : List ℕ) (o : Option Place) → EndingTextLeads n left line o → Leads old (Ending n left) line old o
  last_leads n left (Some place) goes = record {
    followed = followed;
    config = refl;
    grown = omega arith;
    stands = λ stand at. (
      in_ending n goes.0,
      subst (λ (s : Stand). IsNext config s line (in_ending n goes.0)) (sym at) (goes.0, first_of left line goes.0 plain goes.1, refl),
      subst (λ (p : Place). StandsAt old.past p (in_ending n goes.0)) (sym goes.2) refl,
    );
  }
  last_leads n left None not = unfinished_leads n left not
