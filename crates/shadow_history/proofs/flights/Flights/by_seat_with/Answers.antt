use Rattle.std.proofs.Common.{List, ◌++◌, ◌∷◌, [], filter, reverse, sym, ◌∙◌, ap}
use Rattle.pager_model.specs.Flights.{Flight, without_flight}
use Rattle.pager_model.specs.Transfers.{is_by}
use Rattle.shadow_history.proofs.Ordered.{with_begun, with_landed, with_neither}
use Rattle.shadow_history.proofs.flights.Flights.by_seat_with.Goals as goal
use Rattle.shadow_history.proofs.flights.Flights.by_seat_with.Goals.{in-Some+in_ok-push, in_default+in-Some-landed_flight, in_default+in_default-landed_flight}

pub returns : goal.returns
returns c =
    let own_is = c.in_ok-own.ensures ∙ ap (λ (xs : List Flight). reverse (filter (is_by (c.args.seat).0) xs)) (c.deref.ensures.value ∙ c.self.view_is) in
    elim c.match-begun_by.branch [
      | in-Some+in_ok-push w ↦
          let push_is = w.in_ok-push.ensures.items in
          let more_is = with_begun c.args.number (c.args.seat).0 c.args.self.now c.args.what w.in-Some.x w.in-Some.ensures in
          rw w.own-is (push_is ∙ (ap (λ (xs : List Flight). xs ++ w.in-Some.x ∷ []) own_is ∙ more_is))
      | in_default+in-Some-landed_flight w ↦
          let land_is = w.land.ensures in
          let none_is = sym w.in_default.is ∙ c.begun_by.ensures in
          let fewer_is = with_landed c.args.number (c.args.seat).0 c.args.self.now c.args.what w.in-Some-landed_flight.k none_is w.in-Some-landed_flight.ensures in
          rw w.own-is (land_is ∙ (ap (without_flight w.in-Some-landed_flight.k) own_is ∙ fewer_is))
      | in_default+in_default-landed_flight w ↦
          let none_is = sym w.in_default.is ∙ c.begun_by.ensures in
          let no_landing = sym w.in_default-landed_flight.is ∙ w.landed_flight.ensures in
          let same_is = with_neither c.args.number (c.args.seat).0 c.args.self.now c.args.what none_is no_landing in
          rw w.own-is (own_is ∙ same_is)
    ]
