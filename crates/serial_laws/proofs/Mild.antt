-- Entries with which a carrier is begun change no status and no map, touch no page, answer nothing, and make no entry
-- valid.
use Rattle.std.proofs.Common.{◌≡◌, ℕ, true, false, List, [], ◌∷◌, refl, ◌∙◌}
use Rattle.std.specs.List.{AllByRecursion}
use Rattle.std.proofs.lemmas.Bool.{false≢true}
use Rattle.vm_types.specs.declared.config.Config.{Config}
use Rattle.vm_journal.specs.declared.entry.Entry.{Entry}
use Rattle.vm_journal.specs.declared.entry.Role.TheVariants as role
use Rattle.vm_journal.specs.declared.entry.What.{What}
use Rattle.vm_journal.specs.declared.entry.What.TheVariants as what
use Rattle.pager_policy.specs.Given.{by_seat, made_by}
use Rattle.pager_policy.specs.Policy.{next_task}
use Rattle.pager_model.specs.Run.{pager_after}
use Rattle.pager_model.specs.Spoken.{flat_after}
use Rattle.serial_laws.proofs.Carriers.{is_beginning}
use Rattle.serial_laws.proofs.Steps.{IsSteady, NoneEnters, may_enter, none_refl, none_step, none_then, steady_one, task_same}

pub record IsMild (config : Config) (past more : List Entry) : Type 0 where
  pub task : next_task config more ≡ next_task config past
  pub flat : flat_after config more ≡ flat_after config past
  pub status : (pager_after config more).status ≡ (pager_after config past).status
  pub map : (pager_after config more).map ≡ (pager_after config past).map
  pub touched : (pager_after config more).touched ≡ (pager_after config past).touched

pub mild_then : (config : Config) (past middle more : List Entry) → IsMild config past middle → IsMild config middle more → IsMild config past more
mild_then config past middle more first rest = record { task = rest.task ∙ first.task; flat = rest.flat ∙ first.flat; status = rest.status ∙ first.status; map = rest.map ∙ first.map; touched = rest.touched ∙ first.touched }

pub mild_steady : (config : Config) (past more : List Entry) → IsSteady config past more → IsMild config past more
mild_steady config past more steady = record { task = steady.task; flat = steady.flat; status = steady.step.status; map = steady.step.map; touched = steady.step.touched }

pub mild_one : (config : Config) (past : List Entry) (seat : ℕ) (w : What) → is_beginning w ≡ true → IsMild config past (by_seat seat w ∷ past)
mild_one config past seat (what.In f b (role.Fault q address)) is = record { task = task_same config past seat (what.In f b (role.Fault q address)) refl; flat = refl; status = refl; map = refl; touched = refl }
mild_one config past seat (what.In f b (role.Near g)) is = mild_steady config past _ (steady_one config past seat (what.In f b (role.Near g)) refl)
mild_one config past seat (what.In f b (role.Come q address)) is = mild_steady config past _ (steady_one config past seat (what.In f b (role.Come q address)) refl)
mild_one config past seat (what.Reuse f g) is = mild_steady config past _ (steady_one config past seat (what.Reuse f g) refl)
mild_one config past seat (what.Out f b) is = mild_steady config past _ (steady_one config past seat (what.Out f b) refl)
mild_one config past seat other is = absurd (false≢true is)

pub mild_made : (config : Config) (seat : ℕ) (ws : List What) (past : List Entry) → AllByRecursion (λ (w : What). is_beginning w ≡ true) ws → IsMild config past (made_by seat ws past)
mild_made config seat [] past each = record { task = refl; flat = refl; status = refl; map = refl; touched = refl }
mild_made config seat (w ∷ ws) past each = mild_then config past (by_seat seat w ∷ past) (made_by seat ws (by_seat seat w ∷ past)) (mild_one config past seat w each.0) (mild_made config seat ws (by_seat seat w ∷ past) each.1)

beginning_enters : (w : What) → is_beginning w ≡ true → may_enter w ≡ false
beginning_enters (what.In f b r) is = refl
beginning_enters (what.Reuse f g) is = refl
beginning_enters (what.Out f b) is = refl
beginning_enters other is = absurd (false≢true is)

pub begins_none : (config : Config) (seat : ℕ) (ws : List What) (past : List Entry) → AllByRecursion (λ (w : What). is_beginning w ≡ true) ws → NoneEnters (pager_after config past) (pager_after config (made_by seat ws past))
begins_none config seat [] past each = none_refl (pager_after config past)
begins_none config seat (w ∷ ws) past each =
    none_then (pager_after config past) (pager_after config (by_seat seat w ∷ past)) (pager_after config (made_by seat ws (by_seat seat w ∷ past))) (none_step config past (pager_after config past) seat w (beginning_enters w each.0)) (begins_none config seat ws (by_seat seat w ∷ past) each.1)
