pub mod Deliveries
pub mod GoesOver
pub mod LiveMember
pub mod PortChanges
