pub mod Suspects
pub mod Proposals
pub mod Lines
pub mod Runs
pub mod Laws
