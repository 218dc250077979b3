use Rattle.std.proofs.Common.{◌≡◌, true, false, None, get_or, sym, ◌∙◌, refl, arith}
use Rattle.paging_study.specs.RingFaults.{holds, is_held}
use Rattle.paging_study.proofs.Hints.{held_holds, misses_from, same_held, loaded_held}
use Rattle.paging_study.proofs.ring.refer.Goals as goal

pub load-requires-clause-misses : goal.load-requires-clause-misses
load-requires-clause-misses c = misses_from c.args.ring.now c.args.last c.args.page c.requires.only (sym c.has_page.ensures ∙ c.if-has_page.false)

pub returns-then-has_page : goal.returns-then-has_page
returns-then-has_page c =
    let there : is_held c.args.page (get_or c.args.ring.now.slots c.args.last None) ≡ true = sym c.has_page.ensures ∙ c.if-has_page.true in
    let is : holds c.args.ring.now c.args.page ≡ true = held_holds c.args.page c.args.ring.now.slots c.args.last there in
    record {
      ring = rw is refl;
      fault = rw is refl;
      len = refl;
      slot = c.requires.slot;
      held = same_held c.args.ring.now c.args.page c.args.last c.requires.only;
    }

pub returns-clause-fault : goal.returns-clause-fault
returns-clause-fault c =
    let none : holds c.args.ring.now c.args.page ≡ false = misses_from c.args.ring.now c.args.last c.args.page c.requires.only (sym c.has_page.ensures ∙ c.if-has_page.false) in
    rw none refl

pub returns-clause-held : goal.returns-clause-held
returns-clause-held c =
    let none : holds c.args.ring.now c.args.page ≡ false = misses_from c.args.ring.now c.args.last c.args.page c.requires.only (sym c.has_page.ensures ∙ c.if-has_page.false) in
    loaded_held c.args.ring.now c.load.new.ring c.args.frames c.args.page c.load.result none c.load.ensures.ring c.load.ensures.chosen (omega (arith, c.load.ensures.exists, c.requires.len))
