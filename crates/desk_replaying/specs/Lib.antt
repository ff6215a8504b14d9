pub mod Line
pub mod State
pub mod Due
pub mod Reports
pub mod Script
pub mod StateView
