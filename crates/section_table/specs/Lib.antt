pub mod SectionTable
pub mod Laying
