pub mod Inbox
pub mod Ends
pub mod Line
pub mod Stop
pub mod Pool
pub mod Work
