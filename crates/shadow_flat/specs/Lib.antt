pub use Rattle.pager_model.specs.Maps
pub use Rattle.pager_model.specs.Flat
pub use Rattle.pager_model.specs.FlatService
pub mod Kept
pub mod Slots
