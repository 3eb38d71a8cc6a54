pub mod Moments
pub mod Given
pub mod Tables
pub mod Plans
pub mod Bodies
pub mod Forms
pub mod Sessions
