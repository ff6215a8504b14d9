pub mod Members
pub mod Listed
pub mod Listing
pub mod Reading
