pub mod Entering
pub mod Forgetting
pub mod Roles
pub mod Shown
