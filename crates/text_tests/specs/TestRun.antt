-- The run that the tests print: a process reads the one page of a shared section, and writes it after the report.
-- This project's own.
use Rattle.std.specs.Prelude.{false, List, [], ◌∷◌, Some, None, replicate}
use Rattle.vm_types.specs.declared.config.Config.{Config}
use Rattle.vm_types.specs.declared.config.Mapping.{Mapping}
use Rattle.vm_types.specs.declared.config.Origin.TheVariants as origin
use Rattle.vm_types.specs.declared.config.Params.{Params}
use Rattle.vm_types.specs.declared.config.ProcSpec.{ProcSpec}
use Rattle.vm_types.specs.declared.config.Section.{Section}
use Rattle.vm_types.specs.declared.config.SectionKind.TheVariants as kind
use Rattle.vm_types.specs.declared.config.Version.TheVariants as version
use Rattle.vm_types.specs.declared.names.BlockId.{BlockId}
use Rattle.vm_types.specs.declared.names.BlockId.TheVariants as block
use Rattle.vm_types.specs.declared.names.FrameState.TheVariants as state
use Rattle.vm_types.specs.declared.names.Page.{Page}
use Rattle.vm_types.specs.declared.names.Page.TheVariants.{Shared}
use Rattle.vm_types.specs.declared.names.ProcStatus.TheVariants as status
use Rattle.vm_types.specs.declared.reference.Mode.TheVariants as mode
use Rattle.vm_types.specs.declared.reference.Op.TheVariants as op
use Rattle.vm_types.specs.declared.reference.Ref.{Ref}
use Rattle.vm_types.specs.declared.reference.Width.TheVariants as width
use Rattle.vm_types.specs.declared.reply.Reply.TheVariants as reply
use Rattle.vm_journal.specs.declared.entry.Entry.{Entry}
use Rattle.vm_journal.specs.declared.entry.Role.{Role}
use Rattle.vm_journal.specs.declared.entry.Role.TheVariants as role
use Rattle.vm_journal.specs.declared.entry.What.TheVariants as what
use Rattle.pager_model.specs.Report.{FrameRow, Report}

abbrev pub shared_section : Section
shared_section = record { name = 83 ∷ 72 ∷ []; kind = kind.Shared; bytes = replicate 512 7 }

abbrev pub one_spec : ProcSpec
one_spec = record { limit = 4; quota = 4; extent = 4; locks = 0 }

abbrev pub one_mapping : Mapping
one_mapping = record { proc = record { 0 = 0 }; at = record { 0 = 0 }; pages = 1; from = origin.Section (record { 0 = 0 }) 0; prot = 4 }

abbrev pub least_params : Params
least_params =
    record {
      pfc = 1;
      hilimit = 0;
      lolimit = 0;
      waitlimit = 1;
      wrtcluster = 1;
      freelim = 0;
      freegoal = 0;
      awstime = 0;
      pfrath = 0;
      pfratl = 0;
      wsinc = 0;
      wsdec = 0;
      awsmin = 2;
      borrowlim = 0;
    }

-- a process maps the page of a shared section
abbrev pub test_config : Config
test_config =
    record {
      version = version.One;
      frames = 8;
      bad = [];
      pagefile = 4;
      params = least_params;
      sections = shared_section ∷ [];
      procs = one_spec ∷ [];
      maps = one_mapping ∷ [];
      fails = [];
      body = [];
    }

abbrev pub the_block : BlockId
the_block = block.Section (record { 0 = 0 }) 0

abbrev pub the_role : Role
the_role = role.Fault (record { 0 = 0 }) (record { 0 = 0 })

abbrev pub the_write : Ref
the_write = record { mode = mode.U; addr = record { 0 = 0 }; op = op.Write width.Four 42 }

-- the page is read and then written
abbrev pub read_begins : Entry
read_begins = record { seat = record { 0 = 0 }; what = what.In (record { 0 = 0 }) the_block the_role }

abbrev pub read_ends : Entry
read_ends = record { seat = record { 0 = 0 }; what = what.InOk (record { 0 = 0 }) 1 }

abbrev pub is_written : Entry
is_written = record { seat = record { 0 = 0 }; what = what.Done the_write reply.Written }

abbrev pub the_page : Page
the_page = Shared (record { 0 = 0 }) 0

-- the entries up to the report, the newest first, and the one after it
abbrev pub before_report : List Entry
before_report = read_ends ∷ read_begins ∷ []

abbrev pub after_report : List Entry
after_report = is_written ∷ []

-- an empty frame
abbrev pub free_frame : FrameRow
free_frame = record { state = state.Free; page = None; modify = false; refs = 0; shares = 0 }

abbrev pub held_frame : FrameRow
held_frame = record { state = state.Active; page = Some the_page; modify = false; refs = 1; shares = 1 }

-- the report by hand
abbrev pub test_report : Report
test_report =
    record {
      at = 2;
      states = 7 ∷ 0 ∷ 0 ∷ 0 ∷ 0 ∷ 0 ∷ 0 ∷ 1 ∷ [];
      frames = held_frame ∷ free_frame ∷ free_frame ∷ free_frame ∷ free_frame ∷ free_frame ∷ free_frame ∷ free_frame ∷ [];
      size = 4;
      charged = 0;
      assigned = 0;
      processes = record { status = status.Resident; count = 1; limit = 4 } ∷ [];
    }
