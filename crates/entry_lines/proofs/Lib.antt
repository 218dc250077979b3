pub mod Behind
pub mod Forms
pub mod Front
pub mod LineWords
pub mod OneToOne
