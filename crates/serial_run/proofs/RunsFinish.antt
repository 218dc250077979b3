-- A run that has ended, once its blocks are given back.
use Rattle.std.proofs.Common.{◌≡◌, ◌≤◌, false, List, ◌++◌, length, map, reverse, sym, ap, ◌∙◌, subst, arith}
use Rattle.vm_types.specs.BlockView.{BlockView, Retired, Tells}
use Rattle.vm_types.specs.declared.config.Config.{Config}
use Rattle.vm_types.specs.declared.names.BlockId.{BlockId}
use Rattle.vm_types.specs.declared.names.Page.{Page}
use Rattle.vm_journal.specs.declared.entry.Entry.{Entry}
use Rattle.pager_model.specs.Asked.{IsAsked}
use Rattle.pager_model.specs.Maps.{is_private}
use Rattle.pager_model.specs.Report.{report_of}
use Rattle.pager_model.specs.Run.{pager_after}
use Rattle.pager_policy.specs.Serial.{IsSerial}
use Rattle.pager_model.specs.DirtyPages.{dirty_pages}
use Rattle.pager_model.specs.WrittenBack.{AreWrittenBack}
use Rattle.run_text.specs.Printable.{IsPrintable}
use Rattle.disk_trait.specs.DepotView.{given_back}
use Rattle.frame_store.specs.Blocks.{blocks_of}
use Rattle.vm_state.specs.Ends.{AreGivenBack}
use Rattle.vm_state.specs.History.{History}
use Rattle.run_record.specs.Tallies.{tallies_of}
use Rattle.serial_run.specs.Ended.{HasEnded, IsCounted, IsFinished, IsOver, IsWholeRun}
use Rattle.serial_run.specs.declared.finished.Counted.{Counted}
use Rattle.serial_run.specs.declared.finished.Finished.{Finished}
use Rattle.serial_run.specs.declared.run.Ending.{Ending}
use Rattle.serial_run.proofs.AskedOnce.{asked, written}
use Rattle.policy_ends.specs.Clean.{failures}
use Rattle.policy_ends.specs.Dirty.{IsDirtyBecause}
use Rattle.policy_ends.proofs.Unfailed.{failures_both}
use Rattle.serial_run.specs.FewRefusals.{faults_of}
use Rattle.serial_run.proofs.FewRefusals.{has_few_refusals}

module _ {B : Type 0} (seen : B → BlockView) (tells : Tells) where
  is_over : (config : Config) (past : List Entry) (s : History) (ending : Ending) (dirty : List Page) (taken : List (BlockId × B)) → s.config ≡ config → (ended : HasEnded tells.content past s ending) → dirty ≡ (ending.dirty).items
      → map (λ (p : BlockId × B). p.0) taken ≡ blocks_of s.config → AreGivenBack seen tells s.config s.past taken
      → IsOver tells config (map (given_back seen) taken) dirty past ended.rest
  is_over config past s ending dirty taken same ended left names given =
      let run = subst (λ (k : Config). IsWholeRun tells.content k past ended.rest) same ended.run in
      let all_asked =
      subst (λ (k : Config). IsAsked tells.plan k (ended.rest ++ past) (map (given_back seen) taken)) same
      (subst (λ (p : List Entry). IsAsked tells.plan s.config p (map (given_back seen) taken)) ended.all
      (asked seen tells s.config s.past taken names given)) in
      let few = has_few_refusals tells.plan config (ended.rest ++ past) (map (given_back seen) taken) run.run all_asked in
      let failed : failures (ended.rest ++ past) ≤ faults_of (map (given_back seen) taken) = few.failed in
      record {
        run = run;
        left = left ∙ (ended.dirty ∙ ap (λ (k : Config). dirty_pages k (pager_after k (ended.rest ++ past))) same);
        asked = all_asked;
        written =
            subst (λ (k : Config). AreWrittenBack tells.content k (ended.rest ++ past) (map (given_back seen) taken)) same
            (subst (λ (p : List Entry). AreWrittenBack tells.content s.config p (map (given_back seen) taken)) ended.all
            (written seen tells s.config s.past taken names given ended.nowhere));
        few = few;
        complete = λ none. (
          let refused = few.refused in let of_all = few.of_all in let of_blocks = few.failed in omega (arith, none, refused, of_all, of_blocks),
          left ∙ (ended.dirty ∙ ended.clean (omega (arith, none, failed, failures_both ended.rest past))),
        );
        dirty_because = subst (λ (k : Config). (g : Page) → is_private g ≡ false → IsDirtyBecause k ended.rest (pager_after k (ended.rest ++ past)) g) same ended.dirty_because;
      }

  pub is_finished : (Makes : Config → List Entry → Type 0) (config : Config) (past : List Entry) (s : History) (ending : Ending) (f : Finished) (taken : List (BlockId × B)) → s.config ≡ config → HasEnded tells.content past s ending → Makes config past
      → f.config ≡ s.config → (f.entries).items ≡ reverse s.past → f.at ≡ ending.at → f.report ≡ ending.report → (f.dirty).items ≡ (ending.dirty).items
      → map (λ (p : BlockId × B). p.0) taken ≡ blocks_of s.config → AreGivenBack seen tells s.config s.past taken
      → IsFinished Makes tells config (map (given_back seen) taken) f
  is_finished Makes config past s ending f taken same ended made own entries at report left names given = record {
    past = past;
    rest = ended.rest;
    over = is_over config past s ending (f.dirty).items taken same ended left names given;
    made = made;
    same = own ∙ same;
    all = entries ∙ ap reverse ended.all;
    at = at ∙ ended.at;
    report = report ∙ (ended.report ∙ ap (λ (k : Config). report_of k past (pager_after k past)) same);
    printable = subst (IsPrintable config.sections) (sym report) (subst (λ (k : Config). IsPrintable k.sections ending.report) same ended.printable);
  }

  pub is_counted : (config : Config) (past : List Entry) (s : History) (ending : Ending) (c : Counted) (taken : List (BlockId × B)) → s.config ≡ config → HasEnded tells.content past s ending → IsSerial config past
      → c.all ≡ length s.past → c.kinds ≡ tallies_of (reverse s.past) → (c.dirty).items ≡ (ending.dirty).items
      → map (λ (p : BlockId × B). p.0) taken ≡ blocks_of s.config → AreGivenBack seen tells s.config s.past taken
      → IsCounted tells config (map (given_back seen) taken) c
  is_counted config past s ending c taken same ended made all kinds left names given = record {
    past = past;
    rest = ended.rest;
    over = is_over config past s ending (c.dirty).items taken same ended left names given;
    made = made;
    all = all ∙ ap (λ (p : List Entry). length p) ended.all;
    kinds = kinds ∙ ap (λ (p : List Entry). tallies_of (reverse p)) ended.all;
  }

-- a run of these entries that has ended, and whoever made them, by the configuration's own name
pub finished_by : (tells : Tells) (Makes : Config → List Entry → Type 0) (config own : Config) (past : List Entry) (taken : List Retired) (f : Finished) → own ≡ config → Makes config past
    → IsFinished (λ _ entries. entries ≡ past) tells own taken f → IsFinished Makes tells config taken f
finished_by tells Makes config own past taken f same made ended =
    let there = subst (λ (k : Config). IsFinished (λ _ entries. entries ≡ past) tells k taken f) same ended in
    record {
      past = there.past;
      rest = there.rest;
      over = there.over;
      made = subst (Makes config) (sym there.made) made;
      same = there.same;
      all = there.all;
      at = there.at;
      report = there.report;
      printable = there.printable;
    }
