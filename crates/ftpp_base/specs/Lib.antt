pub mod Bits
pub mod Lists
pub mod Sets
pub mod Vids
