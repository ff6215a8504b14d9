pub mod Parting
pub mod Narrowing
pub mod Covering
pub mod Serving
pub mod Comings
