mod Walks
mod SlotsShown
mod WordsShown
