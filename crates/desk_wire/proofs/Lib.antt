pub mod Lining
pub mod ReadOnce
pub mod Deciding
pub mod FirstKey
pub mod Hearing
