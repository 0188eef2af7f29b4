-- The specifications of the crate groups.
pub mod Descriptor
pub mod Membership
