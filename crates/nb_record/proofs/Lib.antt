pub mod Books
pub mod Lists
pub mod Follow
pub mod Telling
pub mod Shallow
pub mod Readable
