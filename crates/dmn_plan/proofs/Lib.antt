pub mod RequirementCycles
pub mod ServicesByName
pub mod ServicesFaults
pub mod ServicesRoutes
mod Filling
mod Assembled
mod Planned
mod Indexing
mod Asked
mod Sameness
mod Requested
mod Alike
mod Rising
mod Floats
pub mod Decided
pub mod Logics
mod NameClasses
mod Named
