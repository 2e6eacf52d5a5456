-- Two endpoints as each thread knows its own, and that the laws hold of them.
mod Library
