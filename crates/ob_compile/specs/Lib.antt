pub mod Compilable
