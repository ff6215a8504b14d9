pub mod How
pub mod Explanation
pub mod Text
pub mod Numbered
pub mod Placed
pub mod ByName
pub mod NamedOutputs
