pub mod Deal
pub mod Printed
