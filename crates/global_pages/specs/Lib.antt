pub mod GlobalPages
