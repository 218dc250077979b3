pub mod Bodies
pub mod BodyLaws
pub mod Laws
pub mod LineLaws
pub mod SectionNumbers
