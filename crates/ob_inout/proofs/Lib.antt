pub mod Again
mod DigitRuns
mod DigitValues
mod Lines
mod Strings
