-- The report and the dirty pages that are read off the tables are those of the run.
use Rattle.std.proofs.Common.{◌≡◌, List, ◌++◌, sym, ap, ◌∙◌, subst}
use Rattle.vm_types.specs.declared.config.Config.{Config}
use Rattle.vm_types.specs.declared.config.Section.{Section}
use Rattle.vm_types.specs.declared.names.Page.{Page}
use Rattle.vm_journal.specs.declared.entry.Entry.{Entry}
use Rattle.pager_model.specs.Report.{Report, report_of}
use Rattle.run_words.specs.Text.{dirty_lines, report_text, status_line}
use Rattle.pager_model.specs.DirtyPages.{dirty_pages}
use Rattle.run_text.specs.Printable.{IsPrintable}
use Rattle.run_text.proofs.Prints.{report_printable}
use Rattle.log_model.specs.Stand.{ending_after, report_after}
use Rattle.shadow_pager.specs.Shown.{Shown}
use Rattle.log_report.specs.EndStatus.{end_status}
use Rattle.log_report.specs.ShownRun.{ShowsRun}

module _ (config : Config) (past : List Entry) (s : Shown) (shows : ShowsRun config past s) where
  pub shown_printable : (names : List Section) (report : Report) → names ≡ config.sections → report ≡ report_of config past s.pager → IsPrintable names report
  shown_printable names report named is =
      subst (λ (ns : List Section). IsPrintable ns report) (sym named)
      (subst (IsPrintable config.sections) (sym (is ∙ ap (report_of config past) shows.pager)) (report_printable config past shows.formed shows.run))

  pub shown_text : (names : List Section) (report : Report) → names ≡ config.sections → report ≡ report_of config past s.pager → report_text names report ≡ report_after config past
  shown_text names report named is =
      ap (λ (ns : List Section). report_text ns report) named
      ∙ ap (report_text config.sections) (is ∙ ap (report_of config past) shows.pager)

  pub shown_ending : (names : List Section) (dirty : List Page) → names ≡ config.sections → dirty ≡ dirty_pages config s.pager → dirty_lines names dirty ++ status_line (end_status dirty) ≡ ending_after config past
  shown_ending names dirty named is =
      ap (λ (ns : List Section). dirty_lines ns dirty ++ status_line (end_status dirty)) named
      ∙ ap (λ (pages : List Page). dirty_lines config.sections pages ++ status_line (end_status pages)) (is ∙ ap (dirty_pages config) shows.pager)
