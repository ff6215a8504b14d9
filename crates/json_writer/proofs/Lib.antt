pub mod Quoting
pub mod Longer
pub mod InOrder
pub mod Distinct
