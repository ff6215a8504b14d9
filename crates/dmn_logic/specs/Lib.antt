pub mod Boxed
pub mod LogicView
pub mod Bound
pub mod Parts
pub mod Faults
pub mod ReadLogic
pub mod Reading
pub mod Due
