pub mod TableLaws
pub mod HolderLaws
mod Examples
