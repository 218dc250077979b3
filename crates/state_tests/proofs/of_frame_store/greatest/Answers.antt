use Rattle.std.proofs.Common.{◌∙◌}
use Rattle.state_tests.proofs.TestConfig.{config_formed}
use Rattle.state_tests.proofs.of_frame_store.greatest.Goals as goal

pub returns-clause-formed : goal.returns-clause-formed
returns-clause-formed c =
    config_formed _ _ _ _ _ _ c.new.ensures (c.of.ensures ∙ c.in_ok-sections.ensures) (c.of-2.ensures ∙ c.in_ok-from_slice.ensures.items) c.new-2.ensures c.new-3.ensures c.new-4.ensures
