pub mod Readings
pub mod Depths
pub mod LogicSteps
