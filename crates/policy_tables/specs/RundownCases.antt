-- The rundown, as a table: by the writer's seat, after the report's place, by where it is. This project's own.
use Rattle.std.specs.Prelude.{ℕ, Bool, false, ◌+◌, ◌-◌, List, ◌∷◌, [], Option, length, nat_lt, not}
use Rattle.vm_types.specs.declared.config.Config.{Config}
use Rattle.vm_journal.specs.declared.entry.Entry.{Entry}
use Rattle.vm_journal.specs.declared.entry.EvictWhy.TheVariants as evict
use Rattle.pager_model.specs.Pager.{Pager}
use Rattle.pager_policy.specs.Cleaning.{Cleaning, evicting, rounds}
use Rattle.pager_policy.specs.Given.{eviction}
use Rattle.pager_policy.specs.Moves.{Move, carries, cleaning, control, goes, makes, rests}
use Rattle.pager_policy.specs.Rundown.{at_slot, is_shared_listed, shared_place, writer_of}
use Rattle.policy_tables.specs.Rows.{if_there, one_fewer, only_if, otherwise, that_is, when}
use Rattle.policy_tables.specs.Words.{SharedPage, cluster, may_go, shared_at, shared_behind}

module _ (config : Config) (past : List Entry) (a : Pager) where
  abbrev may_be_evicted : SharedPage → Bool
  may_be_evicted g = may_go config past a g.seen

  abbrev evicts : SharedPage → Move
  evicts g = makes (writer_of config) (eviction past a (g.place).process (g.seen).vpn (g.seen).frame evict.Rundown ∷ []) (at_slot (g.place).process ((g.place).slot + 1) false)

  abbrev writes_for : SharedPage → Move
  writes_for g = carries (writer_of config) (cluster config a) (λ (all first : Bool). goes (at_slot (g.place).process (g.place).slot all))

  abbrev writes_round : ℕ → ℕ → Move
  writes_round following left = carries (writer_of config) (cluster config a) (λ (all first : Bool). goes (control (cleaning (rounds following (left - length (cluster config a))))))

  -- in the rounds of writing, with so many that follow, and so many writes of this one to come
  abbrev pub rounds_cases : ℕ → ℕ → List (Option Move)
  rounds_cases following left =
      -- no frame of the modified list holds a shared page: none; it rests
      when (not (is_shared_listed a)) rests
      -- writes of the round are to come: a cluster; as many fewer are to come
      ∷ when (nat_lt 0 left) (writes_round following left)
      -- a round follows: a cluster; of that round as many writes are to come as the list had frames before the cluster,
      -- less those of the cluster, and one round fewer follows
      ∷ if_there (one_fewer following) (λ (more : ℕ). writes_round more (length a.modified))
      -- no round follows: none; it rests
      ∷ otherwise rests
      ∷ []

  -- at a slot of a process, where the cluster for its page may have failed
  unfoldable pub rundown_cases : Cleaning → List (Option Move)
  rundown_cases (evicting p n failed) =
      -- the eviction of the next shared page, from this slot on and then in the later processes, isn't stopped: EVICT
      -- of it, for RUNDOWN; at the slot behind it
      if_there (that_is may_be_evicted (shared_at a (shared_place config a p n))) evicts
      -- it is stopped, and no cluster for it has failed: a cluster; at its slot, where its cluster has failed if all of
      -- the cluster's flights did
      ∷ if_there (only_if (not failed) (shared_at a (shared_place config a p n))) writes_for
      -- its cluster has failed, and the eviction of the next shared page behind it isn't stopped: EVICT of that one,
      -- for RUNDOWN; at the slot behind that
      ∷ if_there (that_is may_be_evicted (shared_behind config a (shared_at a (shared_place config a p n)))) evicts
      -- its cluster has failed, and that eviction is stopped: a cluster; at that page's slot, where its cluster has
      -- failed if all of the cluster's flights did
      ∷ if_there (shared_behind config a (shared_at a (shared_place config a p n))) writes_for
      -- no shared page is left to evict, but one whose cluster has failed: the rows in the rounds, of which two follow
      ∷ rounds_cases 2 0
  rundown_cases (rounds following left) = rounds_cases following left
