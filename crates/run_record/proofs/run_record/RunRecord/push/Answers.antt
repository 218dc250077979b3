use Rattle.std.proofs.Common.{◌<◌, ◌++◌, ◌∷◌, [], ap, arith, min, reverse, subst, sym, ◌∙◌}
use mir.Val.{bool_byte}
use Rattle.run_record.specs.RunRecord.{IsRecorded, Recorded, seat_bytes}
use Rattle.run_record.specs.Tallies.{tallied, tallies_of}
use Rattle.run_record.specs.contracts.run_record.RunRecord.{the_invariant}
use Rattle.run_record.proofs.Recorded.{bytes_more, record_more, reverse_more}
use Rattle.run_record.proofs.Tallies.{tallied_more}
use Rattle.run_record.proofs.run_record.RunRecord.push.Goals.{in-All, in-Counts}
use Rattle.run_record.proofs.run_record.RunRecord.push.Goals as goal

pub invariant_of-self : goal.invariant_of-self
invariant_of-self c =
    let past = c.self.inside.past.entries in
    let es = reverse past in
    let e = c.args.e in
    let more = ap reverse c.then-self-inside.ensures ∙ reverse_more past e in
    let some : 0 < c.self.inside.spare = subst (λ (r : Recorded). 0 < r.spare) (sym c.self.view_is) c.requires in
    let is = c.from.ensures ∙ ap bool_byte c.is_answer.ensures in
    elim c.match-self.branch [
      | in-All w ↦
          let old = subst (IsRecorded es c.self.inside.spare) w.in-All.is c.self.invariant.keeping in
          subst the_invariant (sym w.self-inside-is)
          (record_more es _ e c.self.inside.len c.self.inside.answers c.self.inside.spare c.from.result c.self.inside.kept _ more some is c.self.invariant (record {
            all = w.push_reserved.ensures.items ∙ (ap (λ xs. xs ++ e ∷ []) old.all ∙ sym more);
            room = omega (arith, some, old.room, w.push_reserved.ensures.len, w.push_reserved.ensures.capacity);
          }))
      | in-Counts w ↦
          let old = subst (IsRecorded es c.self.inside.spare) w.in-Counts.is c.self.invariant.keeping in
          subst the_invariant (sym w.self-inside-is)
          (record_more es _ e c.self.inside.len c.self.inside.answers c.self.inside.spare c.from.result c.self.inside.kept _ more some is c.self.invariant (record {
            kinds = w.count.ensures.kinds ∙ (ap (λ ns. tallied ns e.what) old.kinds ∙ (tallied_more es e ∙ sym (ap tallies_of more)));
            bytes = w.count.ensures.seats ∙ (ap (λ ns. ns ++ min (e.seat).0 255 ∷ []) old.bytes ∙ (bytes_more es e ∙ sym (ap seat_bytes more)));
            room = omega (arith, some, old.room, w.count.ensures.len, w.count.ensures.capacity);
          }))
    ]
