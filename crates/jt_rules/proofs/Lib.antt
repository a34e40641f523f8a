pub mod After
pub mod Captured
pub mod Least
pub mod Meant
pub mod Order
pub mod Slotted
