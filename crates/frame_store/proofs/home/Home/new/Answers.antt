use Rattle.std.proofs.Common.{◌≡◌, ◌<◌, ◌≤◌, ◌^◌, Some, length, map, vec_len, sym, ap, ◌∙◌, subst, arith}
use Rattle.std.specs.List.{range_with_len}
use Rattle.std.proofs.lemmas.List.{length-map}
use Rattle.vm_types.specs.declared.names.BlockId.{BlockId}
use Rattle.frame_store.specs.Blocks.{blocks_of}
use Rattle.frame_store.specs.Home.{IsHomeTable, blocks_in}
use Rattle.frame_store.specs.Numbers.{listed_by, number_by}
use Rattle.frame_store.proofs.Counts.{count_is, few_blocks}
use Rattle.frame_store.proofs.Ordered.{blocks_in_order, first_count, first_laid, first_long, first_order}
use Rattle.frame_store.proofs.home.Home.new.Goals as goal

pub overflow_cast-len : goal.overflow_cast-len
overflow_cast-len g c =
    let long : length (blocks_of c.args.config.now) ≡ length c.args.blocks.items = ap length (sym c.requires.blocks) ∙ length-map c.args.blocks.items (λ (p : BlockId × g.row.B.Denot). p.0) in
    let all = count_is c.args.config.now in
    let few = few_blocks c.args.config.now c.requires.formed in
    let len = c.len.ensures in
    omega (arith, long, all, few, len, c.args.blocks.ok.0)

pub returns-clause-ids : goal.returns-clause-ids
returns-clause-ids g c =
    let n = c.len.result in
    let numbers = c.in_ok-numbers.numbers in
    let long : length (blocks_of c.args.config.now) ≡ length c.args.blocks.items = ap length (sym c.requires.blocks) ∙ length-map c.args.blocks.items (λ (p : BlockId × g.row.B.Denot). p.0) in
    let placed = ap length c.in_ok-places.ensures ∙ first_long c.args.blocks.items (blocks_of c.args.config.now) _ c.requires.blocks c.in_ok-numbers.ensures.numbers n (let len = c.len.ensures in omega (arith, len, c.args.blocks.ok.0)) in
    let many : vec_len c.in_ok-places.places ≡ length (blocks_of c.args.config.now) =
    let len = c.len.ensures in omega (arith, placed, long, len, c.in_ok-places.places.ok.0, c.args.blocks.ok.0) in
    ap (listed_by numbers.sections.items numbers.file numbers.swaps.items) many ∙ c.in_ok-numbers.ensures.listed

pub returns-clause-blocks : goal.returns-clause-blocks
returns-clause-blocks g c =
    let n = c.len.result in
    let home = c.args.blocks.items in
    let ids = blocks_of c.args.config.now in
    let size : length home ≡ n = let len = c.len.ensures in omega (arith, len, c.args.blocks.ok.0) in
    let order = first_order home ids _ c.requires.blocks c.in_ok-numbers.ensures.numbers n size in
    let long = first_long home ids _ c.requires.blocks c.in_ok-numbers.ensures.numbers n size in
    ap (blocks_in home) c.in_ok-places.ensures ∙ sym (blocks_in_order home (map Some (range_with_len 0 n)) (long ∙ sym size) order)

pub invariant_of-result : goal.invariant_of-result
invariant_of-result g c =
    let n = c.len.result in
    let home = c.args.blocks.items in
    let ids = blocks_of c.args.config.now in
    let numbers = c.in_ok-numbers.numbers in
    let number = number_by numbers.sections.items numbers.file numbers.swaps.items in
    let are = c.requires.blocks in
    let size : length home ≡ n = let len = c.len.ensures in omega (arith, len, c.args.blocks.ok.0) in
    let long = first_long home ids number are c.in_ok-numbers.ensures.numbers n size in
    let named : length ids ≡ length home = ap length (sym are) ∙ length-map home (λ (p : BlockId × g.row.B.Denot). p.0) in
    let placed = ap length c.in_ok-places.ensures ∙ long in
    let many : vec_len c.in_ok-places.places ≡ length ids = omega (arith, placed, named, size, c.in_ok-places.places.ok.0) in
    let listed : listed_by numbers.sections.items numbers.file numbers.swaps.items (vec_len c.in_ok-places.places) ≡ ids = ap (listed_by numbers.sections.items numbers.file numbers.swaps.items) many ∙ c.in_ok-numbers.ensures.listed in
    let all = count_is c.args.config.now in
    let fewer = few_blocks c.args.config.now c.requires.formed in
    let few : length ids < 2 ^ 32 = omega (arith, all, fewer) in
    let room : length ids ≤ c.args.blocks.cap = omega (arith, named, c.args.blocks.ok) in
    let home_is : IsHomeTable home (map Some (range_with_len 0 n)) ids number c.args.blocks.cap =
    record {
      laid = first_laid home ids number are c.in_ok-numbers.ensures.numbers n size;
      many = long ∙ (sym size ∙ sym named);
      count = first_count home ids number are c.in_ok-numbers.ensures.numbers n size;
      numbered = c.in_ok-numbers.ensures.numbers;
      room = room;
      few = few;
    } in
    subst (λ xs. IsHomeTable home xs (listed_by numbers.sections.items numbers.file numbers.swaps.items (vec_len c.in_ok-places.places)) number c.args.blocks.cap) (sym c.in_ok-places.ensures)
    (subst (λ names. IsHomeTable home (map Some (range_with_len 0 n)) names number c.args.blocks.cap) (sym listed) home_is)
