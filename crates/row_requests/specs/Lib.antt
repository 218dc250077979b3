pub mod FollowsFlat
pub mod Marks
