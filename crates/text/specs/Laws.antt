pub mod Bits
pub mod Bytes
pub mod Choice
pub mod Decimal
pub mod Every
pub mod Laid
pub mod Decides
