pub mod Power
pub mod Field
