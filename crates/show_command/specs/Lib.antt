pub mod ShowTells
