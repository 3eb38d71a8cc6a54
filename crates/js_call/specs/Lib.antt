pub mod Replies
pub mod Sets
pub mod Exchanging
pub mod Asking
