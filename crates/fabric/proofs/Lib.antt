pub mod Granting
pub use Rattle.fab_laws.proofs.Lists
pub use Rattle.fab_library_laws.proofs.Speaking
pub use Rattle.fab_library_laws.proofs.Speakers
