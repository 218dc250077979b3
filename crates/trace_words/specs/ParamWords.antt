-- The parameters of the pager, their ranges and defaults. Source: the names are VAX/VMS's, by Kenah
-- and Bate, "VAX/VMS Internals and Data Structures"; ranges and defaults are this project's own.
use Rattle.std.specs.Prelude.{ℕ, List, Option, Some, None, Result, Ok, Err, codes, if◌then◌else◌}
use Rattle.std.specs.Option.{option_map_or}
use Rattle.vm_types.specs.declared.limits.TheConstants.{MOST_COUNTED, MOST_EXTENT, MOST_FREE, MOST_LIFTS, MOST_MODIFIED, MOST_READ_CLUSTER}
use Rattle.vm_types.specs.declared.config.Params.{Params}
use Rattle.trace_words.specs.declared.cause.Cause.{Cause}
use Rattle.trace_words.specs.declared.cause.Cause.TheVariants.{UnknownWord}
use Rattle.trace_words.specs.declared.params.Param.{Param}
use Rattle.trace_words.specs.declared.params.Param.TheVariants.{Pfc, HiLimit, LoLimit, WaitLimit, WrtCluster, FreeLim, FreeGoal, AwsTime, PfrAtH, PfrAtL, WsInc, WsDec, AwsMin, BorrowLim}
use Rattle.trace_words.specs.Words.{is}

-- those of clusters and of the lists
abbrev pub writer_param : List ℕ → Option Param
writer_param word =
    if is word (codes "PFC") then Some Pfc
    else if is word (codes "HILIMIT") then Some HiLimit
    else if is word (codes "LOLIMIT") then Some LoLimit
    else if is word (codes "WAITLIMIT") then Some WaitLimit
    else if is word (codes "WRTCLUSTER") then Some WrtCluster
    else if is word (codes "FREELIM") then Some FreeLim
    else if is word (codes "FREEGOAL") then Some FreeGoal
    else None

-- those of the adjustment
abbrev pub other_param : List ℕ → Option Param
other_param word =
    if is word (codes "AWSTIME") then Some AwsTime
    else if is word (codes "PFRATH") then Some PfrAtH
    else if is word (codes "PFRATL") then Some PfrAtL
    else if is word (codes "WSINC") then Some WsInc
    else if is word (codes "WSDEC") then Some WsDec
    else if is word (codes "AWSMIN") then Some AwsMin
    else if is word (codes "BORROWLIM") then Some BorrowLim
    else None

-- the parameter of this name
abbrev pub param_of : List ℕ → Result Param Cause
param_of word = option_map_or Ok (writer_param word) (option_map_or Ok (other_param word) (Err UnknownWord))

-- its least and its greatest value
abbrev pub least : Param → ℕ
least Pfc = 1
least HiLimit = 0
least LoLimit = 0
least WaitLimit = 1
least WrtCluster = 1
least FreeLim = 0
least FreeGoal = 0
least AwsTime = 0
least PfrAtH = 0
least PfrAtL = 0
least WsInc = 0
least WsDec = 0
least AwsMin = 2
least BorrowLim = 0

abbrev pub most : Param → ℕ
most Pfc = MOST_READ_CLUSTER
most HiLimit = MOST_MODIFIED
most LoLimit = MOST_MODIFIED
most WaitLimit = MOST_MODIFIED
most WrtCluster = MOST_LIFTS
most FreeLim = MOST_FREE
most FreeGoal = MOST_FREE
most AwsTime = MOST_COUNTED
most PfrAtH = MOST_COUNTED
most PfrAtL = MOST_COUNTED
most WsInc = MOST_EXTENT
most WsDec = MOST_EXTENT
most AwsMin = MOST_EXTENT
most BorrowLim = MOST_FREE

-- its number
abbrev pub number_of : Param → ℕ
number_of Pfc = 0
number_of HiLimit = 1
number_of LoLimit = 2
number_of WaitLimit = 3
number_of WrtCluster = 4
number_of FreeLim = 5
number_of FreeGoal = 6
number_of AwsTime = 7
number_of PfrAtH = 8
number_of PfrAtL = 9
number_of WsInc = 10
number_of WsDec = 11
number_of AwsMin = 12
number_of BorrowLim = 13

-- the parameters with this value of it
abbrev pub with_param : Param → ℕ → Params → Params
with_param Pfc n params = record params { pfc = n }
with_param HiLimit n params = record params { hilimit = n }
with_param LoLimit n params = record params { lolimit = n }
with_param WaitLimit n params = record params { waitlimit = n }
with_param WrtCluster n params = record params { wrtcluster = n }
with_param FreeLim n params = record params { freelim = n }
with_param FreeGoal n params = record params { freegoal = n }
with_param AwsTime n params = record params { awstime = n }
with_param PfrAtH n params = record params { pfrath = n }
with_param PfrAtL n params = record params { pfratl = n }
with_param WsInc n params = record params { wsinc = n }
with_param WsDec n params = record params { wsdec = n }
with_param AwsMin n params = record params { awsmin = n }
with_param BorrowLim n params = record params { borrowlim = n }

-- the values that no line sets
abbrev pub default_params : Params
default_params = record {
  pfc = 4;
  hilimit = 128;
  lolimit = 32;
  waitlimit = 256;
  wrtcluster = 8;
  freelim = 0;
  freegoal = 0;
  awstime = 0;
  pfrath = 16;
  pfratl = 2;
  wsinc = 8;
  wsdec = 4;
  awsmin = 4;
  borrowlim = 16;
}
