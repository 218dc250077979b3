use Rattle.std.proofs.Common.{◌∙◌, lit<}
use Rattle.std.specs.Prelude.{decimal}
use Rattle.vm_text.specs.Names.{section_name}
use Rattle.vm_text.proofs.Cutting.{no_cut, cut_same, section_other}
use Rattle.vm_text.proofs.names.read_section_page.Goals as goal

pub returns-in_err-front : goal.returns-in_err-front
returns-in_err-front c = rw c.from_residual.ensures (record {
  found = tt;
  none = λ x has is. no_cut 47 (section_name c.args.names.now x.0.0) (decimal x.1) c.args.word.now is c.in_err-front.ensures;
})

pub returns-in_err-section : goal.returns-in_err-section
returns-in_err-section c = rw c.from_residual-in_err-section.ensures (record {
  found = tt;
  none = λ x has is.
      let parts = cut_same 47 (section_name c.args.names.now x.0.0) (decimal x.1) c.in_ok-front.front.now c.in_ok-front.back.now
      (section_other 47 c.args.procs c.args.names.now x.0.0 (lit< tt) c.requires has.0.there) c.in_ok-front.ensures.0 (is ∙ c.in_ok-front.ensures.1) in
      c.in_err-section.ensures.none x.0 has.0 parts.0;
})

pub returns-in_err-page : goal.returns-in_err-page
returns-in_err-page c = rw c.from_residual-in_err-page.ensures (record {
  found = tt;
  none = λ x has is.
      let parts = cut_same 47 (section_name c.args.names.now x.0.0) (decimal x.1) c.in_ok-front.front.now c.in_ok-front.back.now
      (section_other 47 c.args.procs c.args.names.now x.0.0 (lit< tt) c.requires has.0.there) c.in_ok-front.ensures.0 (is ∙ c.in_ok-front.ensures.1) in
      c.in_err-page.ensures.none x.1 has.1 parts.1;
})
