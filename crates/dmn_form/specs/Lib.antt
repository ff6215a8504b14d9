pub mod Model
pub mod Draft
pub mod LogicParts
pub mod FormView
pub mod LogicView
pub mod ModelView
