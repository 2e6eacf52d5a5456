pub mod Tables
pub mod Machines
pub mod Naming
pub mod Reporting
mod Numbered
