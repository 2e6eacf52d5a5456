pub mod AnyStore
pub mod AnyPort
pub mod AnyEndpoint
pub mod AnyMachine
