pub mod Slots
pub mod Looks
pub mod FairLooks
pub mod Layer
