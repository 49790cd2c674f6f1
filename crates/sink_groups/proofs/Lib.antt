mod Ranks
mod Tries
mod LawLemmas
mod Taken
