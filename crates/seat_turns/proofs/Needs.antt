-- What a request's next step waits for, by what was returned.
use Rattle.std.proofs.Common.{◌≡◌, Option, Some, None, refl, sym, ◌∙◌, ap}
use Rattle.std.proofs.lemmas.Option.{none-some}
use Rattle.vm_types.specs.declared.reply.Answer.{Answer}
use Rattle.vm_types.specs.declared.reply.Reply.{Reply}
use Rattle.pager_policy.specs.Advance.{AgainWhy as Reason, NextIs, again_block_busy, again_charging, again_collided, again_modified_full, again_no_frame, again_not_resident, next_again, next_answered, next_carry, next_more}
use Rattle.pager_policy.specs.Serve.{ServeIs, ServeWhy as ServeReason, serve_again, serve_answered, serve_in_flight, serve_modified_full, serve_more, serve_not_resident}
use Rattle.fault_core.specs.Gives.{again_of, returned}
use Rattle.fault_core.specs.declared.next.AgainWhy.{AgainWhy}
use Rattle.fault_core.specs.declared.next.AgainWhy.TheVariants.{ModifiedFull, NoFrame, NotResident}
use Rattle.fault_core.specs.declared.next.Next.TheVariants.{Again}
use Rattle.vm_services.specs.Serves.{again_of as serve_again_of, returned as served_as}
use Rattle.vm_services.specs.declared.next.ServeNext.TheVariants as serve_next
use Rattle.vm_services.specs.declared.next.ServeWhy.{ServeWhy}
use Rattle.vm_services.specs.declared.next.ServeWhy.TheVariants as serve_why

-- ---- a reference
again_is : (x : NextIs) (o : Option Reply) (why : AgainWhy) → Some (Again why) ≡ returned x o → (reason : Reason) × (x ≡ next_again reason) × (why ≡ again_of reason)
again_is next_answered None why is = absurd (none-some _ (sym is))
again_is next_answered (Some y) why is = absurd (cc)
again_is next_carry o why is = absurd (cc)
again_is next_more o why is = absurd (cc)
again_is (next_again reason) o why is = (reason, refl, cc)

not_resident_by : (reason : Reason) → NotResident ≡ again_of reason → reason ≡ again_not_resident
not_resident_by again_not_resident is = refl
not_resident_by again_collided is = absurd (cc)
not_resident_by again_block_busy is = absurd (cc)
not_resident_by again_charging is = absurd (cc)
not_resident_by again_modified_full is = absurd (cc)
not_resident_by again_no_frame is = absurd (cc)

modified_full_by : (reason : Reason) → ModifiedFull ≡ again_of reason → reason ≡ again_modified_full
modified_full_by again_not_resident is = absurd (cc)
modified_full_by again_collided is = absurd (cc)
modified_full_by again_block_busy is = absurd (cc)
modified_full_by again_charging is = absurd (cc)
modified_full_by again_modified_full is = refl
modified_full_by again_no_frame is = absurd (cc)

no_frame_by : (reason : Reason) → NoFrame ≡ again_of reason → reason ≡ again_no_frame
no_frame_by again_not_resident is = absurd (cc)
no_frame_by again_collided is = absurd (cc)
no_frame_by again_block_busy is = absurd (cc)
no_frame_by again_charging is = absurd (cc)
no_frame_by again_modified_full is = absurd (cc)
no_frame_by again_no_frame is = refl

module _ (x : NextIs) (o : Option Reply) (why : AgainWhy) (is : Some (Again why) ≡ returned x o) where
  abbrev known : (reason : Reason) × (x ≡ next_again reason) × (why ≡ again_of reason)
  known = again_is x o why is

  pub needs_process : why ≡ NotResident → x ≡ next_again again_not_resident
  needs_process here = known.1 ∙ ap next_again (not_resident_by known.0 (sym here ∙ known.2))

  pub needs_room : why ≡ ModifiedFull → x ≡ next_again again_modified_full
  needs_room here = known.1 ∙ ap next_again (modified_full_by known.0 (sym here ∙ known.2))

  pub needs_frame : why ≡ NoFrame → x ≡ next_again again_no_frame
  needs_frame here = known.1 ∙ ap next_again (no_frame_by known.0 (sym here ∙ known.2))

-- ---- a service
serve_again_is : (x : ServeIs) (o : Option Answer) (why : ServeWhy) → Some (serve_next.Again why) ≡ served_as x o → (reason : ServeReason) × (x ≡ serve_again reason) × (why ≡ serve_again_of reason)
serve_again_is serve_answered None why is = absurd (none-some _ (sym is))
serve_again_is serve_answered (Some y) why is = absurd (cc)
serve_again_is serve_more o why is = absurd (cc)
serve_again_is (serve_again reason) o why is = (reason, refl, cc)

serve_process_by : (reason : ServeReason) → serve_why.NotResident ≡ serve_again_of reason → reason ≡ serve_not_resident
serve_process_by serve_not_resident is = refl
serve_process_by serve_in_flight is = absurd (cc)
serve_process_by serve_modified_full is = absurd (cc)

serve_room_by : (reason : ServeReason) → serve_why.ModifiedFull ≡ serve_again_of reason → reason ≡ serve_modified_full
serve_room_by serve_not_resident is = absurd (cc)
serve_room_by serve_in_flight is = absurd (cc)
serve_room_by serve_modified_full is = refl

module _ (x : ServeIs) (o : Option Answer) (why : ServeWhy) (is : Some (serve_next.Again why) ≡ served_as x o) where
  abbrev its : (reason : ServeReason) × (x ≡ serve_again reason) × (why ≡ serve_again_of reason)
  its = serve_again_is x o why is

  pub service_needs_process : why ≡ serve_why.NotResident → x ≡ serve_again serve_not_resident
  service_needs_process here = its.1 ∙ ap serve_again (serve_process_by its.0 (sym here ∙ its.2))

  pub service_needs_room : why ≡ serve_why.ModifiedFull → x ≡ serve_again serve_modified_full
  service_needs_room here = its.1 ∙ ap serve_again (serve_room_by its.0 (sym here ∙ its.2))
