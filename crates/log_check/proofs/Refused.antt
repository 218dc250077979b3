-- Why a line leads nowhere, by the place behind the lines before it.
use Rattle.std.proofs.Common.{◌≡◌, inl, inr, ℕ, ◌+◌, List, ◌++◌, Option, None, length, sym, ap, ◌∙◌, subst}
use Rattle.std.specs.Option.{IsSome}
use Rattle.std.proofs.lemmas.Bool.{false≢true}
use Rattle.vm_types.specs.declared.config.Config.{Config}
use Rattle.vm_journal.specs.declared.entry.Entry.{Entry}
use Rattle.outside_io.specs.LineText.{line_text}
use Rattle.pager_model.specs.Run.{IsRun}
use Rattle.shadow_history.specs.Standing.{Passed}
use Rattle.log_model.specs.Stand.{Stand, ending_after, in_rundown, report_after}
use Rattle.log_reasons.specs.LineReasons.{IsItsLine, IsEntryRefused, LineFails, entries_of, text_next}
use Rattle.log_reasons.specs.declared.line_reason.LineReason.{LineReason}
use Rattle.log_reasons.specs.declared.line_reason.LineReason.TheVariants as why
use Rattle.log_laws.proofs.Stepwise.{next_step}
use Rattle.log_laws.specs.Underway.{Underway, step}
use Rattle.log_check.specs.declared.followed.Followed.{Followed}
use Rattle.log_check.specs.declared.place.Place.TheVariants.{Ending, Entries, Report, Rundown}
use Rattle.log_check.specs.EntryLine.{IsNoEntry}
use Rattle.log_check.specs.Followed.{IsFollowed}
use Rattle.log_check.specs.Leading.{IsUnderway}
use Rattle.log_check.specs.Refusing.{FailsAt, IsNeither, IsNotIn, IsUnstepped}

module _ (config : Config) (stand : Stand) (line : List ℕ) where
  -- the line is an entry's that isn't a next one
  entry_here : (e : Entry) (w : LineReason) → IsItsLine config (length (entries_of stand) + 1) line e → IsEntryRefused config (entries_of stand) e w → LineFails config stand line w
  entry_here e (why.NotLegal reason) its is = (e, its, is)
  entry_here e why.OutOfOrder its is = (e, its, is)
  entry_here e (why.WrongReply right) its is = (e, its, is)
  entry_here e why.Ended its is = absurd is
  entry_here e why.NotEnded its is = absurd is
  entry_here e why.TooLong its is = absurd is
  entry_here e why.NoEntry its is = absurd is
  entry_here e (why.NotNextNumber n) its is = absurd is
  entry_here e (why.NotInText right) its is = absurd is
  entry_here e why.NotOfRundown its is = absurd is

  entry_fails : (past : List Entry) (e : Entry) (w : LineReason) → entries_of stand ≡ past → IsItsLine config (length past + 1) line e → IsEntryRefused config past e w → LineFails config stand line w
  entry_fails past e w same its is =
      entry_here e w (subst (λ (xs : List Entry). IsItsLine config (length xs + 1) line e) (sym same) its) (subst (λ (xs : List Entry). IsEntryRefused config xs e w) (sym same) is)

  -- it is no entry's of the next number
  none_fails : (number : ℕ) (w : LineReason) → number ≡ length (entries_of stand) + 1 → IsNoEntry config number line w → LineFails config stand line w
  none_fails number why.NoEntry same is = is
  none_fails number (why.NotNextNumber n) same is = (is.0, is.1, is.2, is.3 ∙ same, is.4)
  none_fails number (why.NotLegal reason) same is = absurd is
  none_fails number why.OutOfOrder same is = absurd is
  none_fails number (why.WrongReply right) same is = absurd is
  none_fails number why.Ended same is = absurd is
  none_fails number why.NotEnded same is = absurd is
  none_fails number why.TooLong same is = absurd is
  none_fails number (why.NotInText right) same is = absurd is
  none_fails number why.NotOfRundown same is = absurd is

  -- it isn't the next one of the text
  text_fails : (text : List ℕ) (w : LineReason) → text_next config stand ≡ text → IsNotIn text line w → LineFails config stand line w
  text_fails text (why.NotInText right) same is = (λ left whole. is.0 (left, sym same ∙ whole), is.1 ∙ ap (λ (xs : List ℕ). line_text 1 xs) (sym same))
  text_fails text why.NoEntry same is = absurd is
  text_fails text (why.NotNextNumber n) same is = absurd is
  text_fails text (why.NotLegal reason) same is = absurd is
  text_fails text why.OutOfOrder same is = absurd is
  text_fails text (why.WrongReply right) same is = absurd is
  text_fails text why.Ended same is = absurd is
  text_fails text why.NotEnded same is = absurd is
  text_fails text why.TooLong same is = absurd is
  text_fails text why.NotOfRundown same is = absurd is

  -- it is for one or the other
  neither_fails : (number : ℕ) (text : List ℕ) (known w : LineReason) → number ≡ length (entries_of stand) + 1 → text_next config stand ≡ text → IsNoEntry config number line known → IsNeither known text line w → LineFails config stand line w
  neither_fails number text known w counted same none (inl is) = subst (λ (x : LineReason). LineFails config stand line x) (sym is) (none_fails number known counted none)
  neither_fails number text known w counted same none (inr not) = text_fails text w same not

module _ (s : Passed) (line : List ℕ) where
  -- ---- behind entries
  pub entry_refused : (e : Entry) (w : LineReason) → IsItsLine s.config (length s.past + 1) line e → IsEntryRefused s.config s.past e w → FailsAt s Entries line w
  entry_refused e w its is stand at = entry_fails s.config stand line s.past e w (ap entries_of at) its is

  pub unreported : (known w : LineReason) → IsNoEntry s.config (length s.past + 1) line known → IsNeither known (report_after s.config s.past) line w → FailsAt s Entries line w
  unreported known w none is stand at =
      neither_fails s.config stand line (length s.past + 1) (report_after s.config s.past) known w (ap (λ (t : Stand). length (entries_of t) + 1) (sym at)) (ap (text_next s.config) at) none is

  -- ---- in a text
  pub untold : (left : List ℕ) (w : LineReason) → IsNotIn left line w → FailsAt s (Report left) line w
  untold left w is stand at = text_fails s.config stand line left w (ap (text_next s.config) at.1) is

  pub unfinished : (n : ℕ) (left : List ℕ) (w : LineReason) → IsNotIn left line w → FailsAt s (Ending n left) line w
  unfinished n left w is stand at = text_fails s.config stand line left w (ap (text_next s.config) at) is

  -- ---- in the rundown
  pub unended : (u : Underway) (known w : LineReason) → IsNoEntry s.config (length s.past + 1) line known → IsNeither known (ending_after s.config s.past) line w → FailsAt s (Rundown u) line w
  unended u known w none is stand at =
      let under : IsUnderway s u at.0 at.1 = at.2 in
      let all : entries_of stand ≡ s.past = ap entries_of at.3 ∙ sym under.all in
      neither_fails s.config stand line (length s.past + 1) (ending_after s.config s.past) known w (ap (λ (xs : List Entry). length xs + 1) (sym all))
      (ap (text_next s.config) at.3 ∙ ap (ending_after s.config) (sym under.all)) none is

module _ (old : Followed) (followed : IsFollowed old) (line : List ℕ) where
  none_some : (o : Option Underway) → o ≡ None → IsSome o → ⊥
  none_some o is some = false≢true (subst IsSome is some)

  -- a step that isn't one of the rundown
  unmoved : (u : Underway) (e : Entry) (stand : Stand) (past rest : List Entry) → IsUnderway old.past u past rest → stand ≡ in_rundown past rest → IsItsLine old.past.config (length old.past.past + 1) line e
      → step old.past.config old.past.past u e ≡ None → LineFails old.past.config stand line why.NotOfRundown
  unmoved u e stand past rest under at its none = (
    past,
    rest,
    e,
    at,
    subst (λ (xs : List Entry). IsItsLine old.past.config (length xs + 1) line e) under.all its,
    λ first.
        let run : IsRun old.past.config (rest ++ past) = subst (IsRun old.past.config) under.all followed.follows.run in
        none_some (step old.past.config (rest ++ past) u e) (ap (λ (xs : List Entry). step old.past.config xs u e) (sym under.all) ∙ none)
        ((next_step old.past.config past rest e u under.between run under.underway).0 first),
  )

  pub unstepped : (u : Underway) (e : Entry) (w : LineReason) → IsItsLine old.past.config (length old.past.past + 1) line e → IsUnstepped old.past u e w → FailsAt old.past (Rundown u) line w
  unstepped u e w its (inl refused) stand at =
      let under : IsUnderway old.past u at.0 at.1 = at.2 in
      entry_fails old.past.config stand line old.past.past e w (ap entries_of at.3 ∙ sym under.all) its refused
  unstepped u e w its (inr not) stand at =
      subst (λ (x : LineReason). LineFails old.past.config stand line x) (sym not.0) (unmoved u e stand at.0 at.1 at.2 at.3 its not.1)
