-- The entries of the rundown answer no request.
use Rattle.std.proofs.Common.{◌≡◌, ℕ, Bool, true, false, ◌&&◌, List, [], ◌∷◌, ◌++◌, Option, Some, None, nat_eq, refl, sym, ap, ◌∙◌, append-nil}
use Rattle.std.specs.Prelude.{if◌then◌else◌}
use Rattle.std.specs.Option.{option_map}
use Rattle.std.proofs.lemmas.Bool.{and_parts, false≢true}
use Rattle.std.proofs.lemmas.Option.{none-some}
use Rattle.vm_types.specs.declared.config.Config.{Config}
use Rattle.vm_types.specs.declared.names.Addr.{Addr}
use Rattle.vm_types.specs.declared.names.BlockId.{BlockId}
use Rattle.vm_types.specs.declared.names.FrameState.{FrameState}
use Rattle.vm_types.specs.declared.names.Pfn.{Pfn}
use Rattle.vm_types.specs.declared.names.Proc.{Proc}
use Rattle.vm_journal.specs.declared.entry.Entry.{Entry}
use Rattle.vm_journal.specs.declared.entry.EvictWhy.TheVariants as evict
use Rattle.vm_journal.specs.declared.entry.What.{What}
use Rattle.vm_journal.specs.declared.entry.What.TheVariants as what
use Rattle.pager_model.specs.Flat.{FlatState}
use Rattle.pager_model.specs.Flights.{Flight}
use Rattle.pager_model.specs.Order.{IsInOrder, answered, spoken_by}
use Rattle.pager_policy.specs.Rundown.{writer_of}
use Rattle.pager_model.specs.Spoken.{ShowsReply, request_of}
use Rattle.log_laws.specs.Underway.{Onward, Plan, Underway, after_landings, between_moves, evicts, in_landings, in_outs, is_made, landed_as, no_move, plan_at, same_made, shown_as, step, step_landings, step_outs, step_plan, writes}

if_some : {X : Type 0} (b : Bool) (x y : X) → (if b then Some x else None) ≡ Some y → b ≡ true
if_some true x y is = refl
if_some false x y is = absurd (none-some y is)

record HasFound {X : Type 0} (o : Option X) : Type 0 where
  pub value : X
  pub is : o ≡ Some value

map_some : {X Y : Type 0} (f : X → Y) (o : Option X) (y : Y) → option_map f o ≡ Some y → HasFound o
map_some f None y is = absurd (none-some y is)
map_some f (Some x) y is = record { value = x; is = refl }

out_silent : (f : Pfn) (b : BlockId) (x : What) → same_made (what.Out f b) x ≡ true → request_of x ≡ None
out_silent f b (what.Out g c) is = refl
out_silent f b x is = absurd (false≢true is)

evicted_silent : (p : Proc) (a : Addr) (f : Pfn) (to : FrameState) (x : What) → same_made (what.Evict p a f evict.Rundown to) x ≡ true → request_of x ≡ None
evicted_silent p a f to (what.Evict q b g why also) is = refl
evicted_silent p a f to x is = absurd (false≢true is)

made_silent : (w x : What) → same_made w x ≡ true → request_of x ≡ None
made_silent (what.Evict p a f evict.Rundown to) x is = evicted_silent p a f to x is
made_silent (what.Out f b) x is = out_silent f b x is
made_silent w x is = absurd (false≢true is)

shown_silent : (past : List Entry) (x : Flight) (w : What) (bad : Bool) → shown_as past x w ≡ Some bad → request_of w ≡ None
shown_silent past x (what.OutOk f k) bad is = refl
shown_silent past x (what.OutFail f k c d) bad is = refl
shown_silent past x other bad is = absurd (none-some bad is)

module _ (config : Config) (past : List Entry) (e : Entry) where
  is_made_silent : (w : What) → is_made config w e ≡ true → request_of e.what ≡ None
  is_made_silent w is = made_silent w e.what (and_parts (nat_eq (e.seat).0 (writer_of config)) (same_made w e.what) is).1

  landed_silent : (x : Flight) (b bad : Bool) → (if b then shown_as past x e.what else None) ≡ Some bad → request_of e.what ≡ None
  landed_silent x true bad is = shown_silent past x e.what bad is
  landed_silent x false bad is = absurd (none-some bad is)

  outs_silent : (ws : List What) (onward : Onward) (v : Underway) → step_outs config past ws onward e ≡ Some v → request_of e.what ≡ None
  outs_silent [] onward v is = absurd (none-some v is)
  outs_silent (w ∷ ws) onward v is = is_made_silent w (if_some (is_made config w e) _ v is)

  landings_silent : (flights : List Flight) (all : Bool) (onward : Onward) (v : Underway) → step_landings config past flights all onward e ≡ Some v → request_of e.what ≡ None
  landings_silent [] all onward v is = absurd (none-some v is)
  landings_silent (x ∷ flights) all onward v is =
      let found = map_some (λ (bad : Bool). after_landings flights (all && bad) onward) (landed_as config past x e) v is in
      landed_silent x (nat_eq (e.seat).0 (writer_of config)) found.value found.is

  plan_silent : (p : Plan) (v : Underway) → step_plan config past p e ≡ Some v → request_of e.what ≡ None
  plan_silent (evicts w at) v is = is_made_silent w (if_some (is_made config w e) (between_moves at) v is)
  plan_silent (writes ws onward) v is = outs_silent ws onward v is
  plan_silent no_move v is = absurd (none-some v is)

  pub step_silent : (u v : Underway) → step config past u e ≡ Some v → request_of e.what ≡ None
  step_silent (between_moves at) v is = plan_silent (plan_at config past at) v is
  step_silent (in_outs ws onward) v is = outs_silent ws onward v is
  step_silent (in_landings flights all onward) v is = landings_silent flights all onward v is

  -- so the order of the answers stays, and no reply is shown
  pub silent_order : IsInOrder config past → request_of e.what ≡ None → IsInOrder config (e ∷ past)
  silent_order order none p =
      let left = (order p).0 in
      (left, ap (λ xs. (answered p past ++ xs) ++ left) (ap (spoken_by p (e.seat).0) none) ∙ (ap (λ xs. xs ++ left) (append-nil (answered p past)) ∙ (order p).1))

pub silent_shows : (config : Config) (flat : FlatState) (p : ℕ) (w : What) → request_of w ≡ None → ShowsReply config flat p w
silent_shows config flat p (what.Done r reply) none = absurd (none-some _ (sym none))
silent_shows config flat p other none = tt
