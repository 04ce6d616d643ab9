pub mod Punctuated
