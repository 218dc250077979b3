mod Copying
mod Lines
mod Telling
mod Texts
