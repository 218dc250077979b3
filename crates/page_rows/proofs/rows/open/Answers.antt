use Rattle.std.proofs.Common.{◌≡◌, ◌++◌, ◌∙◌, None, ap, append-nil, arith, length, refl, replicate, sym}
use Rattle.page_rows.proofs.Runs.{all_opened, has_room, is_laid}
use Rattle.page_rows.proofs.rows.open.Goals as goal

pub loop-init : goal.loop-init
loop-init g c =
    let room = has_room c.args.firsts.now.items c.args.items.now.items _ c.args.run c.requires.laid c.requires.within c.requires.shut in
    record {
      items = sym (append-nil c.args.items.now.items);
      many = omega arith;
      capacity = refl;
      room = omega (arith, room, c.args.items.now.ok.0);
      firsts = refl;
    }

pub returns-clause-laid : goal.returns-clause-laid
returns-clause-laid g c =
    let all : c.loop.counter ≡ 64 = omega arith in
    let items : c.loop.items.items ≡ c.args.items.now.items ++ replicate 64 None = c.loop.invariant.items ∙ ap (λ n. c.args.items.now.items ++ replicate n None) all in
    let first : c.len-first.result ≡ length c.args.items.now.items = omega (arith, c.len-first.ensures, c.args.items.now.ok.0) in
    rw (first, items, c.loop.invariant.capacity) (is_laid c.args.firsts.now.items c.args.items.now.items _ c.args.run c.requires.laid c.requires.within c.requires.shut)

pub returns-clause-same : goal.returns-clause-same
returns-clause-same g c =
    let all : c.loop.counter ≡ 64 = omega arith in
    let items : c.loop.items.items ≡ c.args.items.now.items ++ replicate 64 None = c.loop.invariant.items ∙ ap (λ n. c.args.items.now.items ++ replicate n None) all in
    let first : c.len-first.result ≡ length c.args.items.now.items = omega (arith, c.len-first.ensures, c.args.items.now.ok.0) in
    rw (first, items) (all_opened c.args.firsts.now.items c.args.items.now.items _ c.args.run c.requires.laid c.requires.within c.requires.shut)
