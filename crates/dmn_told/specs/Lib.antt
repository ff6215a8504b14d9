pub mod Parts
pub mod Told
pub mod Covered
pub mod Coming
