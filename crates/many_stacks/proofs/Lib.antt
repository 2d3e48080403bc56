pub mod Linking
