pub mod Index
pub mod Positions
pub mod Few
pub mod Modulo
pub mod ListMembers
pub mod ExprViews
pub mod Paths
