-- `Words` has the small words of the definitions of every crate; the contracts of `octets` cite
-- `BigEndian` and `Signed`: big-endian numbers, numbers by sign and size.
pub mod Words
pub mod BigEndian
pub mod Signed
