mod Counting
mod Frames
mod Lefts
mod Ordered
mod Standing
