pub mod Numbers
pub mod Index
pub mod Listed
pub mod Few
pub mod Operands
pub mod Scalars
