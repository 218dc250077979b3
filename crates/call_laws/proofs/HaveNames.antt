-- The pages and blocks of a configuration have names in lines.
use Rattle.std.proofs.Common.{◌+◌, inl, inr, ℕ, ◌<◌, ◌^◌, length, subst, arith}
use Rattle.std.proofs.lemmas.Option.{get_or_from_slice_get, slice_get_within}
use Rattle.vm_types.specs.Configuration.{IsBlock, IsProcess, IsSectionPage, IsWellFormed, all_pins}
use Rattle.vm_types.specs.declared.config.Config.{Config}
use Rattle.vm_types.specs.declared.config.ProcSpec.{ProcSpec}
use Rattle.vm_types.specs.declared.names.BlockId.{BlockId}
use Rattle.vm_types.specs.declared.names.BlockId.TheVariants as block
use Rattle.vm_types.specs.declared.names.Page.{Page}
use Rattle.vm_types.specs.declared.names.Page.TheVariants.{Private, Shared}
use Rattle.vm_text.specs.Named.{IsNamedBlock, IsNamedPage, IsNamedSection}
use Rattle.pager_model.specs.OfConfig.{IsMappable, IsPageOf}
use Rattle.pager_laws.proofs.SectionNumbers.{in_all}

module _ (config : Config) (formed : IsWellFormed config) where
  section_named : (s i : ℕ) → IsSectionPage config.sections s i → IsNamedSection config.sections s × (i < 2 ^ 32)
  section_named s i real =
      let within = slice_get_within config.sections s real.0 real.1 in
      let few = formed.sections.few in
      let all = in_all config.sections s i real in
      let pages = formed.sections.pages in
      (record { there = within; small = omega (arith, within, few) }, omega (arith, all, pages))

  pub page_named : (g : Page) → IsPageOf config g → IsNamedPage (length config.procs) config.sections g
  page_named (Private p v) of = (of.0, by of.1)
    where
      by : IsMappable v → v < 2 ^ 23
      by (inl less) = omega (arith, less)
      by (inr most) = let below = most.1 in omega (arith, below)
  page_named (Shared s i) of = section_named s.0 i of.0

  pub block_named : (b : BlockId) → IsBlock config b → IsNamedBlock (length config.procs) config.sections b
  block_named (block.Section s i) real = section_named s.0 i real.0
  block_named (block.PageFile n) real = let most = formed.pagefile.1 in omega (arith, most, real)
  block_named (block.Swap p n) real =
      let within = slice_get_within config.procs p.0 real.0 real.1 in
      let process = subst (λ (x : ProcSpec). IsProcess config.frames (length config.bad + all_pins config) x) (get_or_from_slice_get config.procs p.0 real.0 real.0 real.1) (formed.procs p.0 real.0 within) in
      let most = process.limited.most in
      let less = real.2 in
      (within, omega (arith, most, less))
