-- What the contracts cite.
pub mod Prime
-- Why the laws hold.
pub mod Laws
pub mod Primality
pub mod Euclid
pub mod Binomial
pub mod Fermat
pub mod Powers
