pub mod Left
pub mod Masking
pub mod Seats
pub mod Settled
