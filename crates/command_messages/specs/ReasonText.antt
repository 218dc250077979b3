-- The words of a condition that doesn't hold, with what would have been right. Source: this project's own.
use Rattle.std.specs.Prelude.{ℕ, ◌*◌, ◌&&◌, ◌==◌, List, [], ◌∷◌, ◌++◌, Option, None, Some, nat_lt, if◌then◌else◌, codes, decimal}
use Rattle.vm_types.specs.declared.limits.TheConstants.{PAGE_BYTES}
use Rattle.vm_types.specs.declared.names.BlockId.{BlockId}
use Rattle.vm_types.specs.declared.names.BlockId.TheVariants.{PageFile, Section, Swap}
use Rattle.vm_types.specs.declared.names.Page.{Page}
use Rattle.vm_types.specs.declared.names.Page.TheVariants.{Private, Shared}
use Rattle.vm_types.specs.declared.reply.Why.{Why}
use Rattle.vm_text.specs.Names.{address_text, frame_text, place_text, slot_text}
use Rattle.vm_text.specs.References.{why_word}
use Rattle.vm_text.specs.States.{state_word, status_word}
use Rattle.log_reasons.specs.declared.reason.Reason.{Reason}
use Rattle.log_reasons.specs.declared.reason.Reason.TheVariants as reason
use Rattle.command_messages.specs.declared.right.Right.{Right}
use Rattle.command_messages.specs.declared.right.Right.TheVariants as right

-- ---- the words, with % where what is right stands
abbrev pub service_words : Reason → List ℕ
service_words reason.NoSuchAnswer = codes "the service has no such answer"
service_words reason.NotOfVersion = codes "the version of the trace has no such service"
service_words reason.MayNotFail = codes "the process is RESIDENT, and the service meets no failed transfer"
service_words (reason.RangePageMapped x0) = codes "a page of the range is mapped, that of page number %"
service_words (reason.RangePageUnmapped x0) = codes "a page of the range isn't mapped, that of page number %"
service_words reason.RangeNotInUse = codes "no page of the range is mapped"
service_words reason.RangeIsMapped = codes "each page of the range is mapped"
service_words reason.RangePageValid = codes "a page of the range is still valid"
service_words reason.RangePageInFlight = codes "a page of the range has an open transfer"
service_words (reason.OverLocks x0 x1) = codes "the process may not have as many pages locked or pinned, % pages"
service_words (reason.WithinLocks x0 x1) = codes "the process may have as many pages locked or pinned, % pages"
service_words (reason.WrongPageCount x0) = codes "another number of pages is counted, %"
service_words (reason.NotPurged x0 x1) = codes "valid pages of the range are neither locked nor pinned; % are"
service_words (reason.LimitOutOfBounds x0 x1) = codes "the limit is out of its bounds, %"
service_words (reason.LimitWithinBounds x0 x1) = codes "the limit is within its bounds, %"
service_words other = []

abbrev pub transfer_words : Reason → List ℕ
transfer_words reason.NoSuchBlock = codes "there is no such block"
transfer_words reason.BlockInFlight = codes "the block has an open transfer"
transfer_words reason.NotItsSwapBlock = codes "the block isn't one of the process's swap blocks"
transfer_words reason.NoOpenTransfer = codes "no open transfer began in the entry of that number"
transfer_words (reason.TransferOfOtherSeat x0) = codes "that transfer is another seat's"
transfer_words (reason.TransferOfOtherFrame x0) = codes "that transfer is of another frame, %"
transfer_words reason.TransferGoesOtherWay = codes "that transfer goes the other way"
transfer_words reason.TransferIsOwn = codes "that transfer is the seat's own"
transfer_words reason.CollisionIsNamed = codes "the collision with that read was named before"
transfer_words reason.NoReadToFollow = codes "the seat has no open read for a fault or a neighbour that this one follows"
transfer_words reason.NotKin = codes "the page isn't of the process or the section of the page that was read before"
transfer_words reason.NotTheWriter = codes "the seat isn't MPW"
transfer_words reason.RequestIsLeft = codes "a request is left to answer"
transfer_words (reason.LostOtherPage x0) = codes "the read that was lost was for another page, at %"
transfer_words reason.CarrierNotLost = codes "the seat's last transfers aren't lost"
transfer_words (reason.WrongCountBefore x0) = codes "the block's count of failures before it is another one, %"
transfer_words reason.CountDoesNotRise = codes "the block's count of failures after it isn't above the one before"
transfer_words other = service_words other

abbrev pub page_words : Reason → List ℕ
page_words reason.NotMapped = codes "the page isn't mapped"
page_words reason.NotZeros = codes "the page isn't made of zeros"
page_words reason.PageIsCharged = codes "the page was touched before"
page_words (reason.NoBlockIsLeft x0) = codes "each block of the page file is promised to a page, all %"
page_words reason.PageIsValid = codes "the page is valid already"
page_words reason.PageNotValid = codes "the page isn't valid"
page_words (reason.ValidInOtherFrame x0) = codes "the page is valid in another frame, %"
page_words reason.PageInMemory = codes "a frame still holds the page"
page_words (reason.LiesElsewhere x0) = codes "the page lies in another block, %"
page_words (reason.NotItsBlock x0) = codes "the page is written to another block, %"
page_words reason.PageIsShared = codes "the page is one of a shared section"
page_words reason.PageIsPrivate = codes "the page is a process's own"
page_words reason.NotYetWritten = codes "the page isn't written to its swap block yet"
page_words reason.WrittenAlready = codes "the page lies in the block already, and isn't modified"
page_words reason.NotInSlot = codes "the slot has no page that is valid in the frame"
page_words (reason.NotTheVictim x0) = codes "the page isn't the victim, which is in slot %"
page_words reason.PageIsFixed = codes "the page is locked or pinned"
page_words reason.PageIsPinned = codes "the page is pinned"
page_words reason.NotAllowed = codes "the protection of the page doesn't allow the reference"
page_words (reason.RefusedOtherwise x0) = codes "the reference isn't refused so, but: %"
page_words other = transfer_words other

abbrev pub frame_words : Reason → List ℕ
frame_words (reason.NotAtFreeHead x0) = codes "the frame doesn't head the free list; % does"
frame_words (reason.NotAtModifiedHead x0) = codes "the frame doesn't head the modified list; % does"
frame_words (reason.FrameNotEmpty x0) = codes "the frame still holds %, and gives it up first"
frame_words reason.FrameIsEmpty = codes "the frame holds no page"
frame_words (reason.HoldsOtherPage x0) = codes "the frame doesn't hold the page; it holds %"
frame_words (reason.InOtherState x0) = codes "the frame's state is another one, %"
frame_words reason.MayNotComeBack = codes "a page in a frame of that state doesn't come back"
frame_words reason.NotFromFree = codes "a page of a coming process comes back from the free list alone"
frame_words (reason.GoesElsewhere x0) = codes "the frame goes to another state, %"
frame_words (reason.ModifiedListAtWaitLimit x0) = codes "the modified list has as many frames as it may have, %"
frame_words reason.FrameInFlight = codes "the frame has an open transfer"
frame_words other = page_words other

abbrev pub process_words : Reason → List ℕ
process_words (reason.NoSuchProcess x0) = codes "there are only so many processes, %"
process_words (reason.NotResident x0) = codes "the process isn't RESIDENT, but %"
process_words (reason.InOtherStatus x0) = codes "the process is in another status, %"
process_words reason.NotOwnProcess = codes "the process isn't the seat's own"
process_words (reason.CountAtLimit x0 x1) = codes "the working set is full, with % pages"
process_words (reason.CountBelowLimit x0 x1) = codes "the working set isn't full, with % pages"
process_words (reason.AdjustmentIsPending x0) = codes "the limit is adjusted first, after % references"
process_words (reason.AdjustmentNotPending x0) = codes "no adjustment of the limit is due, after % references"
process_words (reason.WrongFaults x0) = codes "another number of faults is counted since the last adjustment, %"
process_words (reason.WrongLimit x0) = codes "the rule gives another limit, %"
process_words reason.PageIsComing = codes "a page of the process is being read back"
process_words (reason.PagesAreLeft x0) = codes "pages that aren't pinned are left in the working set, %"
process_words reason.OtherIsComing = codes "another process is coming"
process_words reason.PagesAreSwapped = codes "a page of the process still lies in a swap block"
process_words other = frame_words other

abbrev pub seat_words : Reason → List ℕ
seat_words (reason.ReuseComesNext x0 x1) = codes "a read has failed, and next comes the reuse of its frame, %, by its seat"
seat_words reason.SeatHasOpenTransfer = codes "the seat has an open transfer, and the entry is none that goes with one"
seat_words (reason.CarrierHasLanded x0) = codes "transfers of the seat have landed, %, and the next one begins when all have"
seat_words reason.CarrierGoesOtherWay = codes "the seat's open transfers go the other way"
seat_words (reason.NotNextBlock x0) = codes "the block isn't the one behind %, that of the seat's last transfer"
seat_words (reason.ClusterIsFull x0) = codes "the seat has as many transfers as a cluster may have, %"
seat_words reason.FaultIsNotFirst = codes "a read for a fault is the first of its transfers, and the seat has an open one"
seat_words other = process_words other

-- ---- what would have been right, where one value would
abbrev pub more_right : Reason → Right
more_right (reason.GoesElsewhere state) = right.State state
more_right (reason.ModifiedListAtWaitLimit n) = right.Number n
more_right (reason.NoBlockIsLeft n) = right.Number n
more_right (reason.ValidInOtherFrame frame) = right.Frame (Some frame.0)
more_right (reason.LiesElsewhere block) = right.Block block
more_right (reason.NotItsBlock block) = right.Block block
more_right (reason.NotTheVictim slot) = right.Slot slot
more_right (reason.RefusedOtherwise why) = right.Refusal why
more_right (reason.TransferOfOtherFrame frame) = right.Frame (Some frame.0)
more_right (reason.LostOtherPage at) = right.Address at
more_right (reason.WrongCountBefore n) = right.Number n
more_right (reason.RangePageMapped v) = right.Number v
more_right (reason.RangePageUnmapped v) = right.Number v
more_right (reason.OverLocks n most) = right.Of n most
more_right (reason.WithinLocks n most) = right.Of n most
more_right (reason.WrongPageCount n) = right.Number n
more_right (reason.NotPurged valid fixed) = right.Of fixed valid
more_right (reason.LimitOutOfBounds least most) = right.Range least most
more_right (reason.LimitWithinBounds least most) = right.Range least most
more_right other = right.Nothing

abbrev pub right_of : Reason → Right
right_of (reason.ReuseComesNext seat frame) = right.Frame (Some frame.0)
right_of (reason.CarrierHasLanded n) = right.Number n
right_of (reason.NotNextBlock block) = right.Block (Some block)
right_of (reason.ClusterIsFull most) = right.Number most
right_of (reason.NoSuchProcess n) = right.Number n
right_of (reason.NotResident status) = right.Status status
right_of (reason.InOtherStatus status) = right.Status status
right_of (reason.CountAtLimit count limit) = right.Of count limit
right_of (reason.CountBelowLimit count limit) = right.Of count limit
right_of (reason.AdjustmentIsPending n) = right.Number n
right_of (reason.AdjustmentNotPending n) = right.Number n
right_of (reason.WrongFaults n) = right.Number n
right_of (reason.WrongLimit n) = right.Number n
right_of (reason.PagesAreLeft n) = right.Number n
right_of (reason.NotAtFreeHead head) = right.Frame head
right_of (reason.NotAtModifiedHead head) = right.Frame head
right_of (reason.FrameNotEmpty page) = right.Page (Some page)
right_of (reason.HoldsOtherPage page) = right.Page page
right_of (reason.InOtherState state) = right.State state
right_of other = more_right other

-- ---- its text: a page of a section by the section's number, as #2/3
abbrev pub shared_text : ℕ → ℕ → List ℕ
shared_text s i = codes "#" ++ decimal s ++ codes "/" ++ decimal i

abbrev pub page_text : Page → List ℕ
page_text (Private p v) = if nat_lt p.0 16 && nat_lt v 8388608 then place_text p.0 (PAGE_BYTES * v) else codes "none"
page_text (Shared s i) = shared_text s.0 i

abbrev pub block_text : BlockId → List ℕ
block_text (Section s i) = codes "S:" ++ shared_text s.0 i
block_text (PageFile b) = codes "P:" ++ decimal b
block_text (Swap p n) = if nat_lt p.0 16 then codes "X:" ++ slot_text p.0 n else codes "none"

-- of what may be there
abbrev pub text_or_none : {T : Type 0} → (T → List ℕ) → Option T → List ℕ
text_or_none text None = codes "none"
text_or_none text (Some x) = text x

abbrev pub right_text : Right → List ℕ
right_text right.Nothing = []
right_text (right.Number n) = decimal n
right_text (right.Of n m) = decimal n ++ codes " of " ++ decimal m
right_text (right.Range n m) = decimal n ++ codes " to " ++ decimal m
right_text (right.Frame o) = text_or_none frame_text o
right_text (right.Slot o) = text_or_none decimal o
right_text (right.Page o) = text_or_none page_text o
right_text (right.Block o) = text_or_none block_text o
right_text (right.State s) = state_word s
right_text (right.Status s) = status_word s
right_text (right.Refusal o) = text_or_none why_word o
right_text (right.Address a) = address_text a.0

-- the words, with this in the place of the first %
abbrev pub filled_in : List ℕ → List ℕ → List ℕ
filled_in [] text = []
filled_in (byte ∷ words) text = if byte == 37 then text ++ words else byte ∷ filled_in words text

abbrev pub reason_text : Reason → List ℕ
reason_text r = filled_in (seat_words r) (right_text (right_of r))
