pub mod Grammar
pub mod Nesting
pub mod Joined
pub mod Reader
pub mod Printed
