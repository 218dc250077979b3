-- The laws of 512 bytes as a type. Assumes nothing.
use denote.Builtin.{u8}
use denote.Param.Laws.{Laws, of_field, array_laws}
use denote.Param.Shared.{copy_shared}
use denote.Struct.Field.{u8-field}
use denote.Struct.Laws.{u8-laws, u8-copy}
use Rattle.std.proofs.Common.{refl}
use Rattle.page_pool.specs.Region.{Page}

abbrev byte_laws : Laws u8
byte_laws = of_field u8-field u8-laws refl (copy_shared u8-field u8-copy)

pub page_laws : Laws Page
page_laws = array_laws u8 byte_laws 512
