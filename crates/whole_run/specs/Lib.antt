pub mod Laws
pub mod LogOrder
