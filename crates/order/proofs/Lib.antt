-- `Laws` has the laws of `specs/Order.antt`, for the crates that link this one.
pub mod Laws
pub mod Linked
