pub mod Laying
pub mod Listed
pub mod Lying
pub mod PageTables
pub mod Rings
