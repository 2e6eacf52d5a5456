-- Peers in threads, as each knows itself, with the order of turns that follows.
mod Hello
mod Halves
