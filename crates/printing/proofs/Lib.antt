pub mod Offers
pub mod Walks
