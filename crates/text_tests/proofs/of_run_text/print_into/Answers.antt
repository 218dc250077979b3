use Rattle.text_tests.proofs.TestRun.{given_reported}
use Rattle.text_tests.proofs.of_run_text.print_into.Goals as goal

pub print_run-status-requires : goal.print_run-status-requires
print_run-status-requires c = given_reported _ _ c.in_ok-config.ensures c.in_ok-report.ensures
