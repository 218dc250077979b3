mod FrameFits
mod SlotPins
mod SlotShares
mod SlotsPassed
