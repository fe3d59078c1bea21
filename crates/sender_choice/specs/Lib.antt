pub mod Sinces
pub mod Scan
pub mod Pairs
pub mod Calls
