use Rattle.std.proofs.Common.{◌∙◌, lit<}
use Rattle.vm_text.specs.Names.{process_name, address_text}
use Rattle.vm_text.proofs.Cutting.{no_cut, cut_same, letter_other}
use Rattle.vm_text.proofs.names.read_place.Goals as goal

pub returns-in_err-front : goal.returns-in_err-front
returns-in_err-front c = rw c.from_residual.ensures (record {
  found = tt;
  none = λ x has is. no_cut 47 (process_name x.0.0) (address_text x.1.0) c.args.word.now is c.in_err-front.ensures;
})

pub returns-in_err-process : goal.returns-in_err-process
returns-in_err-process c = rw c.from_residual-in_err-process.ensures (record {
  found = tt;
  none = λ x has is.
      let parts = cut_same 47 (process_name x.0.0) (address_text x.1.0) c.in_ok-front.front.now c.in_ok-front.back.now (letter_other 47 x.0.0 (lit< tt)) c.in_ok-front.ensures.0 (is ∙ c.in_ok-front.ensures.1) in
      c.in_err-process.ensures.none x.0 has.0 parts.0;
})

pub returns-in_err-address : goal.returns-in_err-address
returns-in_err-address c = rw c.from_residual-in_err-address.ensures (record {
  found = tt;
  none = λ x has is.
      let parts = cut_same 47 (process_name x.0.0) (address_text x.1.0) c.in_ok-front.front.now c.in_ok-front.back.now (letter_other 47 x.0.0 (lit< tt)) c.in_ok-front.ensures.0 (is ∙ c.in_ok-front.ensures.1) in
      c.in_err-address.ensures.none x.1 has.1 parts.1;
})
