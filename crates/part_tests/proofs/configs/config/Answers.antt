use Rattle.std.proofs.Common.{List, [], ◌∷◌, ◌++◌, ap, ◌∙◌}
use Rattle.vm_types.specs.declared.config.Task.{Task}
use Rattle.part_tests.proofs.TestConfig.{sections_equal, maps_equal, tasks_equal, config_formed}
use Rattle.part_tests.proofs.configs.config.Goals as goal

pub returns-clause-formed : goal.returns-clause-formed
returns-clause-formed c =
    config_formed c.args.pagefile _ _ _ _ _ _ c.requires
    c.new.ensures
    (c.of-5.ensures ∙ (c.in_ok-vec-3.ensures.items ∙ sections_equal _ _ _ _ (c.of.ensures ∙ c.in_ok-vec.ensures.items) (c.of-2.ensures ∙ c.in_ok-from_slice.ensures.items) (c.of-3.ensures ∙ c.in_ok-vec-2.ensures.items) (c.of-4.ensures ∙ c.in_ok-from_slice-2.ensures.items)))
    (c.of-6.ensures ∙ c.in_ok-from_slice-3.ensures.items)
    (c.of-7.ensures ∙ (c.in_ok-vec-4.ensures.items ∙ maps_equal _ _ _ _ _ _ _ _ c.mapping.ensures c.mapping-2.ensures c.mapping-3.ensures c.mapping-4.ensures c.mapping-5.ensures c.mapping-6.ensures c.mapping-7.ensures c.mapping-8.ensures))
    c.new-2.ensures
    (c.in_ok-push-2.ensures.ok
    ∙ (ap (λ (tasks : List Task). tasks ++ c.task-2.result ∷ []) (c.in_ok-push.ensures.ok ∙ ap (λ (tasks : List Task). tasks ++ c.task.result ∷ []) c.new-body.ensures)
    ∙ tasks_equal _ _ c.task.ensures c.task-2.ensures))
